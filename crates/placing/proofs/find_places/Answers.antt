-- After j places the copy marks them, and the next search starts after the last.
use Prim.Native.Nat.{ℕ, ◌+◌, ◌*◌, ◌<◌}
use mathlib.Core.Path.{◌≡◌, refl, ◌∙◌, sym, ap, subst}
use mathlib.Core.List.{List, ◌++◌}
use native.Mathlib.Omega.{arith}
use lib.ListN.{length, take, drop, set}
use lib.Seq.{length-take-le}
use Rattle.layout.specs.Bounded.{list_from}
use Rattle.tracks.specs.Placing.{Found, track_of, position_after, least_delay, place_of, skipped_by}
use Rattle.volume.specs.Tables.{bit_at}
use Rattle.power.specs.Power.{made}
use Rattle.laws.proofs.Filling.{Filled, filled_none, filled_more, filled_all}
use Rattle.laws.proofs.Delays.{drive_fits_lem, track_inside, after_inside}
use Rattle.searching.proofs.TrackLaws.{known_none, known_kept}
use Rattle.placing.proofs.PlaceLaws.{next_start, next_track, placed_none, place_here, placed_more, charged_few, billed_none, billed_more}
use Rattle.placing.proofs.find_places.Goals as goal

pub first_of-first-requires : goal.first_of-first-requires
first_of-first-requires c =
    (drive_fits_lem c.args.n c.args.d c.requires.d_value).some

pub loop-j-init : goal.loop-j-init
loop-j-init c = (
  c.requires.head_lt_n,
  c.first_of-first.ensures,
  refl,
  refl,
  known_none c.args.known.now (bit_at c.args.used.now) c.args.n c.args.d.sectors c.requires.known_value,
  placed_none c.args.d c.args.n (bit_at c.args.used.now) c.args.head,
  filled_none (place_of (least_delay c.args.d) c.args.n (bit_at c.args.used.now) c.args.head) (take c.args.count c.args.places.now),
  billed_none c.args.d c.args.n (bit_at c.args.used.now) c.args.head c.args.allowance,
  omega arith,
)

pub find_place-found-requires : goal.find_place-found-requires
find_place-found-requires c = record {
  d_value = c.requires.d_value;
  n_le_most_sectors = c.requires.n_le_most_sectors;
  n_bound = omega arith;
  start_lt_n = c.loop-j.invariant.0;
  first_value = c.loop-j.invariant.1;
  known = c.loop-j.invariant.4;
}

pub overflow_cast-k : goal.overflow_cast-k
overflow_cast-k c =
    omega arith

pub set_bit-requires : goal.set_bit-requires
set_bit-requires c =
    omega arith

pub overflow_add-total : goal.overflow_add-total
overflow_add-total c =
    let fit = drive_fits_lem c.args.n c.args.d c.requires.d_value in
    let b = charged_few c.loop-j.j c.args.allowance c.find_place-found.result.skipped c.charge-total.result c.charge-total.ensures in
    let size = length-take-le c.args.count c.args.places.now c.requires.count_in_bounds in
    let most = fit.most in
    let switch = fit.switch in
    omega arith

pub overflow_add-first : goal.overflow_add-first
overflow_add-first c =
    let fit = drive_fits_lem c.args.n c.args.d c.requires.d_value in
    let inside = track_inside c.args.n c.args.d fit c.find_place-found.result.sector c.find_place-found.ensures.0.below in
    omega arith

pub overflow_add-k : goal.overflow_add-k
overflow_add-k c =
    omega arith

pub loop-j-preserved : goal.loop-j-preserved
loop-j-preserved c =
    let fit = drive_fits_lem c.args.n c.args.d c.requires.d_value in
    let u = bit_at c.args.used.now in
    let g = place_of (least_delay c.args.d) c.args.n u c.args.head in
    let f : Found = record { sector = c.find_place-found.result.sector; skipped = c.find_place-found.result.skipped } in
    let here : f.sector ≡ g c.loop-j.j = place_here c.args.d c.args.n u c.args.head c.loop-j.j (bit_at c.loop-j.used) c.loop-j.start f c.loop-j.invariant.5 c.find_place-found.ensures.0.is in
    let next : c.around-start.result ≡ position_after c.args.d f.sector = next_start c.args.n c.args.d fit c.find_place-found.result.first f.sector c.find_place-found.ensures.0.below c.find_place-found.ensures.0.track c.around-start.result c.around-start.ensures in
    let b = charged_few c.loop-j.j c.args.allowance f.skipped c.charge-total.result c.charge-total.ensures in
    let most = fit.most in
    let switch = fit.switch in (
      subst (λ (y : ℕ). y < c.args.n) (sym next) (after_inside c.args.n c.args.d fit f.sector c.find_place-found.ensures.0.below),
      next_track c.args.n c.args.d fit c.find_place-found.result.first f.sector c.find_place-found.ensures.0.below c.find_place-found.ensures.0.track ∙ ap (λ (y : ℕ). track_of c.args.d y * c.args.d.sectors) (sym next),
      c.set_bit.auto.used ∙ c.loop-j.invariant.2,
      c.find_place-found.auto.known ∙ c.loop-j.invariant.3,
      known_kept c.find_place-found.new.known (bit_at c.loop-j.used) _ c.args.n c.args.d.sectors f.sector c.set_bit.ensures c.find_place-found.ensures.1,
      placed_more c.args.d c.args.n u c.args.head c.loop-j.j (bit_at c.loop-j.used) _ c.loop-j.start _ f c.loop-j.invariant.5 c.find_place-found.ensures.0.is c.set_bit.ensures next,
      subst (λ (y : ℕ). Filled g (take c.args.count c.args.places.now) (c.loop-j.j + 1) (set c.loop-j.place-items c.loop-j.j y)) (sym here) (filled_more g (take c.args.count c.args.places.now) c.loop-j.j c.loop-j.place-items (omega arith) c.loop-j.invariant.6),
      billed_more c.args.d c.args.n u c.args.head c.loop-j.j c.args.allowance (bit_at c.loop-j.used) c.loop-j.start f c.loop-j.total c.charge-total.result c.loop-j.invariant.5 c.find_place-found.ensures.0.is c.loop-j.invariant.7 c.charge-total.ensures,
      omega arith,
    )

pub shape_of-used : goal.shape_of-used
shape_of-used c = c.loop-j.invariant.2

pub shape_of-known : goal.shape_of-known
shape_of-known c = c.loop-j.invariant.3

pub returns : goal.returns
returns c =
    let g = place_of (least_delay c.args.d) c.args.n (bit_at c.args.used.now) c.args.head in
    let size : length (take c.args.count c.args.places.now) ≡ c.args.count = length-take-le c.args.count c.args.places.now c.requires.count_in_bounds in
    let all : c.loop-j.j ≡ c.args.count = omega arith in (
      ap (λ (xs : List ℕ). xs ++ drop c.args.count c.args.places.now)
          (filled_all g (take c.args.count c.args.places.now) c.loop-j.j c.loop-j.place-items (omega arith) c.loop-j.invariant.6 ∙ ap (list_from g 0) size),
      c.loop-j.invariant.7 ∙ ap (λ (x : ℕ). skipped_by (least_delay c.args.d) c.args.n (bit_at c.args.used.now) c.args.head (made x c.args.allowance)) all,
    )
