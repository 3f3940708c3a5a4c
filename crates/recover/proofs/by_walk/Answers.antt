-- The walk answers, or the scan that follows one that found nothing.
use mathlib.Core.Path.{◌∙◌}
use borrow.Author.Tests.{not-false}
use Rattle.lending.specs.declared.Lengths.{Lengths}
use Prim.Native.Nat.{ℕ}
use mathlib.Core.List.{List}
use lib.ListN.{length}
use native.Mathlib.Omega.{arith}
use Rattle.layout.specs.Bounded.{at}
use Rattle.volume.specs.Tables.{sector_at}
use Rattle.walk.specs.Walking.{branch_word_count}
use Rattle.walk.proofs.WalkedLaws.{found_low, found_signed, found_incomplete, found_room, count_ready, found_log}
use Rattle.recover.proofs.RecoverLaws.{walk_found, scan_found_lem, left_here}
use mathlib.Core.Path.{ap}
use mathlib.Core.Bool.{not}
use Rattle.recover.proofs.by_walk.Goals as goal

pub walk_held-requires : goal.walk_held-requires
walk_held-requires c = record {
  g_value = c.requires.g_value;
  image_len = c.requires.image_len;
  le_tail = found_low _ _ c.args.tail.sector c.args.tail.number c.requires.number_value;
  tail_value = found_signed _ _ c.args.tail.sector c.args.tail.number c.requires.number_value;
  map_len = c.requires.map_len;
  places_len = c.requires.places_len;
  numbers_len = c.requires.numbers_len;
  used_len = c.requires.used_len;
}

pub by_scan-requires : goal.by_scan-requires
by_scan-requires c = record {
  g_value = c.requires.g_value;
  image_len = ap (λ (x : Lengths). x.image) c.walk_held.ensures.lengths ∙ c.requires.image_len;
  map_len = ap (λ (x : Lengths). x.map) c.walk_held.ensures.lengths ∙ c.requires.map_len;
  places_len = ap (λ (x : Lengths). x.places) c.walk_held.ensures.lengths ∙ c.requires.places_len;
  numbers_len = ap (λ (x : Lengths). x.numbers) c.walk_held.ensures.lengths ∙ c.requires.numbers_len;
  used_len = ap (λ (x : Lengths). x.used) c.walk_held.ensures.lengths ∙ c.requires.used_len;
}

pub returns-then-not-walk_held-clause-value : goal.returns-then-not-walk_held-clause-value
returns-then-not-walk_held-clause-value c =
    scan_found_lem _ _ _ _ _ _ _ _ _ _ _ _ _ c.walk_held.ensures.image (ap (λ (x : Lengths). x.map) c.walk_held.ensures.lengths)
    (ap (λ (x : Lengths). x.places) c.walk_held.ensures.lengths) (ap (λ (x : Lengths). x.numbers) c.walk_held.ensures.lengths)
    (ap (λ (x : Lengths). x.used) c.walk_held.ensures.lengths) _
    (found_incomplete _ _ c.args.tail.sector c.args.tail.number c.requires.number_value c.walk_held.result c.walk_held.ensures.value.0 (ap not c.if-not-walk_held.true)) c.by_scan.ensures.value

pub count_branches-read-requires : goal.count_branches-read-requires
count_branches-read-requires c =
    let rest =
    count_ready _ _ (ap (λ (x : Lengths). x.image) c.walk_held.ensures.lengths ∙ c.requires.image_len) _ _ _ _ _ (left_here _ _ _ c.walk_held.ensures.image _ _ _ _ _ (c.walk_held.ensures.value.1 (not-false c.walk_held.result (ap not c.if-not-walk_held.false))))
    c.requires.g_value in record {
      places_len_bound = rest.0;
      by_index = rest.1.0;
      by_index_2 = rest.1.1;
    }

pub after_walk-requires : goal.after_walk-requires
after_walk-requires c =
    let same = ap (λ (x : Lengths). x.image) c.walk_held.ensures.lengths in
    let room = found_room _ _ c.args.tail.sector c.args.tail.number c.requires.number_value c.requires.image_len in
    omega arith

pub returns-clause-value : goal.returns-clause-value
returns-clause-value c =
    let left = c.walk_held.ensures.value.1 (not-false c.walk_held.result (ap not c.if-not-walk_held.false)) in
    walk_found _ _ _ _ _ _ _ _ _ c.walk_held.new.m.map.now c.walk_held.new.m.places.now c.walk_held.new.m.numbers.now c.walk_held.new.m.used.now
    c.walk_held.ensures.image (ap (λ (x : Lengths). x.map) c.walk_held.ensures.lengths) (ap (λ (x : Lengths). x.places) c.walk_held.ensures.lengths)
    (ap (λ (x : Lengths). x.numbers) c.walk_held.ensures.lengths) (ap (λ (x : Lengths). x.used) c.walk_held.ensures.lengths)
    _ _ _ _
    (found_log _ _ c.requires.image_len _ _ _ _ _ left _ c.requires.number_value c.walk_held.result c.walk_held.ensures.value.0 (ap not c.if-not-walk_held.false)
    c.count_branches-read.result (c.count_branches-read.ensures.0 ∙ ap (λ (v : List ℕ). branch_word_count (sector_at v) (at c.walk_held.new.m.places.now) (length c.walk_held.new.m.places.now)) c.walk_held.ensures.image)) c.after_walk.ensures.value
