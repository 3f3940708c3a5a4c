-- Others and the entries below the index are marked.
use Rattle.std.proofs.Common.{refl, ap, ◌∙◌}
use Rattle.layout.specs.Bounded.{at}
use Rattle.volume.specs.Tables.{bit_at}
use Rattle.names.proofs.Marking.{entries_start, entry_marked, entry_passed}
use Rattle.names.proofs.mark_full.Goals.{then-entry-ne0, else-entry-ne0}
use Rattle.names.proofs.mark_full.Goals as goal

pub loop-entry-init : goal.loop-entry-init
loop-entry-init c = λ others marked. entries_start (at c.args.map.now) others _ marked

pub loop-entry-preserved : goal.loop-entry-preserved
loop-entry-preserved c =
    λ others marked.
    elim c.if-entry-ne0.branch [
      | then-entry-ne0 w ↦
          entry_marked (at c.args.map.now) others c.loop-entry.entry-index _ _ _ refl (c.loop-entry.invariant others marked) (ap bit_at w.marks-is ∙ w.mark_entry.ensures)
      | else-entry-ne0 w ↦
          entry_passed (at c.args.map.now) others c.loop-entry.entry-index _ w.if-entry-ne0.false (ap bit_at w.marks-is ∙ c.loop-entry.invariant others marked)
    ]
