-- Each return, by a law of WalkedLaws.
use Prim.Native.Nat.{ℕ, ◌<◌}
use mathlib.Core.Path.{◌∙◌, ap}
use native.Mathlib.Omega.{arith}
use lib.ListN.{replicate}
use Rattle.volume.specs.Tables.{sector_at}
use Rattle.soundness.proofs.Sounding.{sectors_some}
use Rattle.walk.proofs.WalkedLaws.{places_long, place_below, walk_fails, walk_decides}
use mathlib.Core.Bool.{not}
use Rattle.walk.proofs.walk_tables.Goals as goal

pub walk_from-requires : goal.walk_from-requires
walk_from-requires c = record {
  g_value = c.requires.g_value;
  image_len = c.requires.image_len;
  le_tail = c.requires.le_tail;
  tail_value = c.requires.tail_value;
  taken_value = c.fill.ensures.after (λ y e. e) ∙ ap (λ (x : ℕ). replicate x 0) c.requires.places_len;
}

pub returns-then-not-all_taken-clause-value : goal.returns-then-not-all_taken-clause-value
returns-then-not-all_taken-clause-value c =
    let s = sectors_some c.args.g c.requires.g_value in
    let pos : 0 < c.args.g.n = omega arith in walk_fails c.args.g (sector_at c.args.image.now) c.args.tail c.args.number pos _ c.walk_from.ensures c.all_taken.result c.all_taken.ensures (ap not c.if-not-all_taken.true) _ _ _

pub walk_fill-requires : goal.walk_fill-requires
walk_fill-requires c =
    let s = sectors_some c.args.g c.requires.g_value in
    let pos : 0 < c.args.g.n = omega arith in
    let k = places_long c.args.g (sector_at c.args.image.now) c.args.tail c.args.number pos _ c.walk_from.ensures in record {
      map_len_bound = omega arith;
      numbers_in_bounds = omega arith;
      by_index = λ j h. let b = place_below c.args.g (sector_at c.args.image.now) c.args.tail c.args.number pos _ c.walk_from.ensures j (omega arith) in omega arith;
    }

pub log_agrees-requires : goal.log_agrees-requires
log_agrees-requires c =
    let s = sectors_some c.args.g c.requires.g_value in
    let pos : 0 < c.args.g.n = omega arith in record {
      g_value = c.requires.g_value;
      map_len = c.walk_fill.auto.map ∙ c.requires.map_len;
      places_len = places_long c.args.g (sector_at c.args.image.now) c.args.tail c.args.number pos _ c.walk_from.ensures;
      numbers_len = c.walk_fill.auto.numbers ∙ c.requires.numbers_len;
      used_len = c.requires.used_len;
    }

pub returns-clause-value : goal.returns-clause-value
returns-clause-value c =
    let s = sectors_some c.args.g c.requires.g_value in
    let pos : 0 < c.args.g.n = omega arith in
    walk_decides c.args.g (sector_at c.args.image.now) c.args.tail c.args.number pos _ c.walk_from.ensures c.all_taken.result c.all_taken.ensures (ap not c.if-not-all_taken.false) _ _ _ _ c.requires.map_len c.requires.numbers_len c.walk_fill.ensures.0 c.walk_fill.ensures.1
    _ c.log_agrees.result c.log_agrees.ensures.0 c.log_agrees.ensures.1
