-- Found on some track, or nowhere.
use Prim.Native.Nat.{ℕ, ◌+◌, ◌-◌, ◌%◌, ◌<◌}
use mathlib.Core.Path.{refl, subst}
use native.Mathlib.Nat.{mod-lt, mod-le}
use native.Mathlib.Omega.{arith}
use Rattle.volume.specs.Tables.{bit_at}
use Rattle.laws.proofs.Delays.{drive_fits_lem}
use Rattle.searching.specs.Searching.{NoneWithin}
use Rattle.placing.proofs.PlaceLaws.{track_low, other_chosen, other_nowhere, chosen_nowhere}
use Rattle.placing.proofs.find_elsewhere.Goals as goal

pub overflow_sub-position : goal.overflow_sub-position
overflow_sub-position c =
    track_low c.args.n c.args.d (drive_fits_lem c.args.n c.args.d c.requires.d_value) (bit_at c.args.used.now) c.args.first c.args.start c.requires.start_lt_n c.requires.first_value

pub overflow_add-position : goal.overflow_add-position
overflow_add-position c =
    let short = (drive_fits_lem c.args.n c.args.d c.requires.d_value).switch in
    omega arith

pub search_tracks-reached-requires : goal.search_tracks-reached-requires
search_tracks-reached-requires c =
    let fit = drive_fits_lem c.args.n c.args.d c.requires.d_value in record {
      position_lt_size = mod-lt (c.args.start - c.args.first + c.args.d.switch) fit.some;
      size_le_most_sectors = fit.most;
      n_le_most_sectors = c.requires.n_le_most_sectors;
      n_bound = c.requires.n_bound;
      known = c.requires.known;
    }

pub nowhere-requires : goal.nowhere-requires
nowhere-requires c =
    let fit = drive_fits_lem c.args.n c.args.d c.requires.d_value in record {
      sectors_nonzero = fit.some;
      sectors_le_most_sectors = fit.most;
      switch_le_longest_switch = fit.switch;
    }

pub shape_of-known-then-n-k : goal.shape_of-known-then-n-k
shape_of-known-then-n-k c = c.search_tracks-reached.auto.known

pub returns-then-n-k : goal.returns-then-n-k
returns-then-n-k c =
    let fit = drive_fits_lem c.args.n c.args.d c.requires.d_value in
    let u = bit_at c.args.used.now in
    let position = (c.args.start - c.args.first + c.args.d.switch) % c.args.d.sectors in
    let none : NoneWithin u c.args.n c.args.d.sectors position c.args.d.sectors =
    subst (λ (x : ℕ). NoneWithin u c.args.n c.args.d.sectors position x) (c.search_tracks-reached.ensures.3 c.if-n-k.true) c.search_tracks-reached.ensures.1 in
    let used = other_nowhere c.args.n c.args.d fit u c.args.first c.args.start c.requires.start_lt_n c.requires.first_value c.requires.all_passed position refl none in
    (chosen_nowhere c.args.n c.args.d fit u c.args.first c.args.start c.requires.start_lt_n c.requires.first_value used _ _ _ c.nowhere.ensures.0 c.nowhere.ensures.1 c.nowhere.ensures.2, c.search_tracks-reached.ensures.4)

pub overflow_add-result : goal.overflow_add-result
overflow_add-result c =
    let fit = drive_fits_lem c.args.n c.args.d c.requires.d_value in
    let most = fit.most in
    let short = fit.switch in
    omega arith

pub overflow_sub-result : goal.overflow_sub-result
overflow_sub-result c =
    mod-le c.search_tracks-reached.result.sector c.args.d.sectors

pub shape_of-known : goal.shape_of-known
shape_of-known c = c.search_tracks-reached.auto.known

pub returns : goal.returns
returns c =
    let fit = drive_fits_lem c.args.n c.args.d c.requires.d_value in
    let position = (c.args.start - c.args.first + c.args.d.switch) % c.args.d.sectors in
    let inside : c.search_tracks-reached.result.sector < c.args.n = c.if-n-k.false in (
      other_chosen c.args.n c.args.d fit (bit_at c.args.used.now) c.args.first c.args.start c.requires.start_lt_n c.requires.first_value c.requires.all_passed
          position refl c.search_tracks-reached.result.sector c.search_tracks-reached.result.skipped inside c.search_tracks-reached.ensures.1 (c.search_tracks-reached.ensures.2 inside),
      c.search_tracks-reached.ensures.4,
    )
