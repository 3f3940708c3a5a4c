-- Those from index i on are put in.
use Prim.Native.Nat.{◌-◌}
use native.Mathlib.Omega.{arith}
use Rattle.log_tables.specs.LogTables.{raised}
use Rattle.signed.proofs.Listing.{stepped_none, stepped_more, stepped_whole}
use Rattle.log_tables.proofs.live.find_live.Goals as goal

pub loop-i-init : goal.loop-i-init
loop-i-init c = stepped_none (raised c.args.c) c.args.sectors.now c.args.numbered.now c.args.pieces.now (c.args.places.now, c.args.numbers.now)

pub raise_listed-requires : goal.raise_listed-requires
raise_listed-requires c =
    let inside = c.requires.by_index (c.loop-i.i - 1) (omega arith) in record {
      i_in_bounds = omega arith;
      i_in_bounds_2 = omega arith;
      i_in_bounds_3 = omega arith;
      numbers_len = omega arith;
      i_in_bounds_4 = omega arith;
    }

pub loop-i-preserved : goal.loop-i-preserved
loop-i-preserved c =
    stepped_more (raised c.args.c) c.args.sectors.now c.args.numbered.now c.args.pieces.now c.loop-i.i (c.args.places.now, c.args.numbers.now) (c.loop-i.places, c.loop-i.numbers) _
    c.loop-i-test.true (omega arith) c.requires.numbered_len c.requires.pieces_len c.loop-i.invariant c.raise_listed.ensures

pub returns : goal.returns
returns c =
    stepped_whole (raised c.args.c) c.args.sectors.now c.args.numbered.now c.args.pieces.now c.loop-i.i (c.args.places.now, c.args.numbers.now) (c.loop-i.places, c.loop-i.numbers) (omega arith) c.loop-i.invariant
