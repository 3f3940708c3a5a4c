-- The branches of the places so far are counted, 24 a sector at most.
use Prim.Native.Nat.{ℕ}
use mathlib.Core.Path.{◌≡◌, ◌∙◌, ap}
use mathlib.Core.List.{List}
use native.Mathlib.Omega.{arith}
use lib.ListN.{length}
use Rattle.layout.specs.Bounded.{at}
use Rattle.layout.specs.Word.{words_of}
use Rattle.volume.specs.Tables.{sector_at}
use Rattle.laws.proofs.Sectors.{sector_length}
use Rattle.walk.specs.Walking.{branch_word_count}
use Rattle.walk.proofs.WalkedLaws.{count_none, count_more}
use Rattle.walk.proofs.count_branches.Goals as goal

pub loop-place-init : goal.loop-place-init
loop-place-init c = (count_none _ _, omega arith)

pub overflow_cast-place : goal.overflow_cast-place
overflow_cast-place c =
    let h = (c.type_inv.places c.loop-place.place-index).fits in omega arith

pub sector-s-requires : goal.sector-s-requires
sector-s-requires c =
    c.requires.by_index c.loop-place.place-index (omega arith)

pub branch_count-count-requires : goal.branch_count-count-requires
branch_count-count-requires c =
    ap length c.sector-s.ensures ∙ sector_length c.args.image.now (at c.args.places.now c.loop-place.place-index) (c.requires.by_index c.loop-place.place-index (omega arith))

pub overflow_add-count : goal.overflow_add-count
overflow_add-count c =
    let x = c.branch_count-count.ensures ∙ ap (λ (s : List ℕ). at (words_of s) 6) c.sector-s.ensures in
    let b = c.requires.by_index_2 c.loop-place.place-index (omega arith) in
    omega arith

pub loop-place-preserved : goal.loop-place-preserved
loop-place-preserved c =
    let x = c.branch_count-count.ensures ∙ ap (λ (s : List ℕ). at (words_of s) 6) c.sector-s.ensures in
    let b = c.requires.by_index_2 c.loop-place.place-index (omega arith) in
    (count_more _ _ c.loop-place.count c.loop-place.place-index c.branch_count-count.result c.loop-place.invariant.0 x, omega arith)

pub returns : goal.returns
returns c =
    let e : c.loop-place.place-index ≡ length c.args.places.now = (omega arith) in
    (c.loop-place.invariant.0 ∙ ap (branch_word_count (sector_at c.args.image.now) (at c.args.places.now)) e, omega arith)
