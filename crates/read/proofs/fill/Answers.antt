-- The entry and its sector are in range because no refusal applied.
use Rattle.layout.specs.Bounded.{at}
use Rattle.layout.specs.Entry.{restored}
use Rattle.volume.specs.Tables.{sector_at}
use Rattle.laws.proofs.Sectors.{sector_length}
use mathlib.Core.Path.{◌∙◌, ap}
use native.Mathlib.Omega.{arith}
use lib.ListN.{length}
use Rattle.read.proofs.ReadLaws.{readable}
use Rattle.read.proofs.fill.Goals as goal

pub bounds-t-block : goal.bounds-t-block
bounds-t-block c =
    let r = readable _ _ _ _ _ _ _ _ (c.requires) in
    let h = r.in_map in
    omega arith

pub sector-requires : goal.sector-requires
sector-requires c =
    let r = readable _ _ _ _ _ _ _ _ (c.requires) in
    let h = r.in_image in
    omega arith

pub restore_block-requires : goal.restore_block-requires
restore_block-requires c =
    let r = readable _ _ _ _ _ _ _ _ (c.requires) in
    let h = r.in_image in record {
      out_len = r.whole;
      bytes_len = ap length c.sector.ensures ∙ sector_length _ c.sector_of-k.result (omega arith);
    }

pub returns : goal.returns
returns c =
    c.restore_block.ensures
    ∙ ap (restored (at c.args.t.now.map.now c.args.block)) (c.sector.ensures ∙ ap (sector_at c.args.image.now) c.sector_of-k.ensures)
