-- The first i of each quarter are marked.
use Rattle.std.proofs.Common.{arith}
use Rattle.layout.specs.Bounded.{at}
use Rattle.layout.specs.Entry.{sector_of}
use Rattle.volume.specs.Tables.{bit_at}
use Rattle.names.proofs.Marking.{quarters_start, quarters_next, quarters_end}
use Rattle.names.proofs.mark_quarters.Goals as goal

pub loop-i-init : goal.loop-i-init
loop-i-init c = quarters_start (λ b. sector_of (at c.args.map.now b)) c.args.quarter (bit_at c.args.marks.now)

pub loop-i-preserved : goal.loop-i-preserved
loop-i-preserved c =
    quarters_next (λ b. sector_of (at c.args.map.now b)) c.args.quarter c.loop-i.i (bit_at c.args.marks.now) (bit_at c.loop-i.marks) _ _ _ _ c.loop-i.invariant
    c.mark_entry.ensures c.mark_entry-in-loop-i.ensures c.mark_entry-in-loop-i-2.ensures c.mark_entry-in-loop-i-3.ensures

pub returns : goal.returns
returns c =
    quarters_end (λ b. sector_of (at c.args.map.now b)) c.args.quarter c.loop-i.i (bit_at c.args.marks.now) _ (omega arith) c.loop-i.invariant
