-- Those from index i on are marked.
use Prim.Native.Nat.{◌-◌}
use mathlib.Core.Path.{refl, ◌∙◌}
use native.Mathlib.Omega.{arith}
use Rattle.layout.specs.Bounded.{at}
use Rattle.volume.specs.Tables.{bit_at}
use Rattle.signed.specs.Signed.{marked_above}
use Rattle.signed.proofs.Listing.{stepped_none, stepped_more, stepped_whole}
use Rattle.signed.proofs.SignedLaws.{marked_not, marked_so}
use Rattle.signed.proofs.mark_above.Goals as goal

pub listed-init : goal.listed-init
listed-init c =
    (refl, stepped_none (marked_above c.args.c) c.args.sectors.now c.args.numbers.now c.args.numbers.now (bit_at c.args.above.now))

pub listed-preserved-then-numbers-i : goal.listed-preserved-then-numbers-i
listed-preserved-then-numbers-i c = (
  c.listed.invariant.0,
  stepped_more (marked_above c.args.c) c.args.sectors.now c.args.numbers.now c.args.numbers.now c.listed.i (bit_at c.args.above.now) (bit_at c.listed.above) _ c.listed-test.true c.listed.auto.i c.requires.numbers_len c.requires.numbers_len
      c.listed.invariant.1 (marked_not c.args.c (at c.args.sectors.now (c.listed.i - 1)) (at c.args.numbers.now (c.listed.i - 1)) (at c.args.numbers.now (c.listed.i - 1)) _ c.if-numbers-i.true),
)

pub overflow_cast-sectors : goal.overflow_cast-sectors
overflow_cast-sectors c =
    let b = (c.type_inv.sectors (c.listed.i - 1)).fits in
    omega arith

pub set_bit-requires : goal.set_bit-requires
set_bit-requires c =
    let below = c.requires.by_index (c.listed.i - 1) (omega arith) in
    omega arith

pub listed-preserved : goal.listed-preserved
listed-preserved c = (
  c.set_bit.auto.used ∙ c.listed.invariant.0,
  stepped_more (marked_above c.args.c) c.args.sectors.now c.args.numbers.now c.args.numbers.now c.listed.i (bit_at c.args.above.now) (bit_at c.listed.above) _ c.listed-test.true c.listed.auto.i c.requires.numbers_len c.requires.numbers_len
      c.listed.invariant.1 (marked_so c.args.c (at c.args.sectors.now (c.listed.i - 1)) (at c.args.numbers.now (c.listed.i - 1)) (at c.args.numbers.now (c.listed.i - 1)) _ _ c.if-numbers-i.false c.set_bit.ensures),
)

pub shape_of-above : goal.shape_of-above
shape_of-above c =
    c.listed.invariant.0

pub returns : goal.returns
returns c =
    stepped_whole (marked_above c.args.c) c.args.sectors.now c.args.numbers.now c.args.numbers.now c.listed.i (bit_at c.args.above.now) _ (omega arith) c.listed.invariant.1
