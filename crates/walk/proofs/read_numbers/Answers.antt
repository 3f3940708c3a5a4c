-- The numbers below i are filled in.
use Prim.Native.Nat.{ℕ, ◌+◌}
use mathlib.Core.Path.{sym, ◌∙◌, ap, subst}
use mathlib.Core.List.{List}
use native.Mathlib.Omega.{arith}
use lib.ListN.{length, set}
use Rattle.layout.specs.Bounded.{at}
use Rattle.volume.specs.Tables.{sector_at}
use Rattle.layout.specs.Word.{words_of}
use Rattle.laws.proofs.Filling.{Filled, filled_none, filled_length, filled_more, filled_all}
use Rattle.laws.proofs.Sectors.{sector_length}
use Rattle.walk.proofs.read_numbers.Goals as goal

pub loop-i-init : goal.loop-i-init
loop-i-init c = filled_none (λ q. at (words_of (sector_at c.args.image.now (at c.args.places.now q))) 2) c.args.numbers.now

pub bounds-places-i : goal.bounds-places-i
bounds-places-i c =
    let e = filled_length (λ q. at (words_of (sector_at c.args.image.now (at c.args.places.now q))) 2) c.args.numbers.now c.loop-i.i c.loop-i.numbers c.loop-i.invariant in
    omega arith

pub overflow_cast-places : goal.overflow_cast-places
overflow_cast-places c =
    let h = (c.type_inv.places c.loop-i.i).fits in omega arith

pub sector-s-requires : goal.sector-s-requires
sector-s-requires c =
    let e = filled_length (λ q. at (words_of (sector_at c.args.image.now (at c.args.places.now q))) 2) c.args.numbers.now c.loop-i.i c.loop-i.numbers c.loop-i.invariant in
    c.requires.by_index c.loop-i.i (omega arith)

pub number_of-requires : goal.number_of-requires
number_of-requires c =
    let e = filled_length (λ q. at (words_of (sector_at c.args.image.now (at c.args.places.now q))) 2) c.args.numbers.now c.loop-i.i c.loop-i.numbers c.loop-i.invariant in
    ap length c.sector-s.ensures ∙ sector_length c.args.image.now (at c.args.places.now c.loop-i.i) (c.requires.by_index c.loop-i.i (omega arith))

pub loop-i-preserved : goal.loop-i-preserved
loop-i-preserved c =
    let e = filled_length (λ q. at (words_of (sector_at c.args.image.now (at c.args.places.now q))) 2) c.args.numbers.now c.loop-i.i c.loop-i.numbers c.loop-i.invariant in
    subst (λ (x : ℕ). Filled (λ q. at (words_of (sector_at c.args.image.now (at c.args.places.now q))) 2) c.args.numbers.now (c.loop-i.i + 1) (set c.loop-i.numbers c.loop-i.i x))
    (sym (c.number_of.ensures ∙ ap (λ (x : List ℕ). at (words_of x) 2) c.sector-s.ensures)) (filled_more (λ q. at (words_of (sector_at c.args.image.now (at c.args.places.now q))) 2) c.args.numbers.now c.loop-i.i c.loop-i.numbers (omega arith) c.loop-i.invariant)

pub returns : goal.returns
returns c =
    let e = filled_length (λ q. at (words_of (sector_at c.args.image.now (at c.args.places.now q))) 2) c.args.numbers.now c.loop-i.i c.loop-i.numbers c.loop-i.invariant in
    filled_all (λ q. at (words_of (sector_at c.args.image.now (at c.args.places.now q))) 2) c.args.numbers.now c.loop-i.i c.loop-i.numbers (omega arith) c.loop-i.invariant
