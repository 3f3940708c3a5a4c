-- Found on the own track, nowhere on the only one, or elsewhere.
use Prim.Native.Nat.{ℕ}
use mathlib.Core.Path.{◌≡◌, ◌∙◌, subst}
use native.Mathlib.Omega.{arith}
use Rattle.volume.specs.Tables.{bit_at}
use Rattle.laws.proofs.Delays.{drive_fits_lem}
use Rattle.searching.specs.Searching.{AllPassed}
use Rattle.placing.proofs.PlaceLaws.{track_low, track_high, track_ends, steps_one, steps_more, steps_few, steps_most, own_chosen, one_nowhere, chosen_nowhere}
use Rattle.placing.proofs.find_place.Goals as goal

pub search_track-own-requires : goal.search_track-own-requires
search_track-own-requires c =
    let fit = drive_fits_lem c.args.n c.args.d c.requires.d_value in
    let u = bit_at c.args.used.now in
    let low = track_low c.args.n c.args.d fit u c.args.first c.args.start c.requires.start_lt_n c.requires.first_value in
    let high = track_high c.args.n c.args.d fit u c.args.first c.args.start c.requires.start_lt_n c.requires.first_value in
    let ends = track_ends c.args.n c.args.d fit u c.args.first c.args.start c.requires.start_lt_n c.requires.first_value in record {
      first_le_start = low;
      start_bound = high;
      size_bound = omega arith;
      size_bound_2 = omega arith;
      steps_le_most_sectors = steps_most c.args.n c.args.d fit c.own_positions-steps.result c.own_positions-steps.ensures;
    }

pub returns-then-skipped-steps : goal.returns-then-skipped-steps
returns-then-skipped-steps c =
    let fit = drive_fits_lem c.args.n c.args.d c.requires.d_value in (
      own_chosen c.args.n c.args.d fit (bit_at c.args.used.now) c.args.first c.args.start c.requires.start_lt_n c.requires.first_value
          c.own_positions-steps.result (steps_few c.args.n c.args.d fit c.own_positions-steps.result c.own_positions-steps.ensures) c.search_track-own.result.sector
          c.search_track-own.result.skipped c.search_track-own.ensures.0 c.if-skipped-steps.true c.search_track-own.ensures.2
          (c.search_track-own.ensures.3 c.if-skipped-steps.true),
      c.requires.known,
    )

pub nowhere-requires : goal.nowhere-requires
nowhere-requires c =
    let fit = drive_fits_lem c.args.n c.args.d c.requires.d_value in record {
      sectors_nonzero = fit.some;
      sectors_le_most_sectors = fit.most;
      switch_le_longest_switch = fit.switch;
    }

pub returns-then-tracks-eq1 : goal.returns-then-tracks-eq1
returns-then-tracks-eq1 c =
    let fit = drive_fits_lem c.args.n c.args.d c.requires.d_value in
    let u = bit_at c.args.used.now in
    let all : c.search_track-own.result.skipped ≡ c.args.d.sectors = (let e = steps_one c.args.n c.args.d fit c.own_positions-steps.result c.own_positions-steps.ensures c.if-tracks-eq1.true in omega arith) in
    let passed : AllPassed u c.args.first c.args.d.sectors c.args.start c.args.d.sectors = subst (λ (x : ℕ). AllPassed u c.args.first c.args.d.sectors c.args.start x) all c.search_track-own.ensures.2 in
    let used = one_nowhere c.args.n c.args.d fit u c.args.first c.args.start c.requires.start_lt_n c.requires.first_value c.if-tracks-eq1.true passed in
    (chosen_nowhere c.args.n c.args.d fit u c.args.first c.args.start c.requires.start_lt_n c.requires.first_value used _ _ _ c.nowhere.ensures.0 c.nowhere.ensures.1 c.nowhere.ensures.2, c.requires.known)

pub find_elsewhere-requires : goal.find_elsewhere-requires
find_elsewhere-requires c =
    let fit = drive_fits_lem c.args.n c.args.d c.requires.d_value in
    let u = bit_at c.args.used.now in
    let all : c.search_track-own.result.skipped ≡ c.own_positions-steps.result = omega arith in
    let passed = subst (λ (x : ℕ). AllPassed u c.args.first c.args.d.sectors c.args.start x) (all ∙ steps_more c.args.n c.args.d fit c.own_positions-steps.result c.own_positions-steps.ensures c.if-tracks-eq1.false) c.search_track-own.ensures.2 in record {
      d_value = c.requires.d_value;
      n_le_most_sectors = c.requires.n_le_most_sectors;
      n_bound = c.requires.n_bound;
      start_lt_n = c.requires.start_lt_n;
      first_value = c.requires.first_value;
      all_passed = passed;
      known = c.requires.known;
    }

pub shape_of-known : goal.shape_of-known
shape_of-known c = c.find_elsewhere.auto.known

pub returns : goal.returns
returns c = c.find_elsewhere.ensures
