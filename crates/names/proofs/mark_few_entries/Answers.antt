-- Others and the entries below the index are marked, with the word at hand put back.
use Rattle.std.proofs.Common.{◌<◌, ◌/◌, length, sym, ◌∙◌, arith}
use Rattle.layout.specs.Bounded.{at}
use Rattle.volume.specs.Tables.{bit_at}
use Rattle.bits.proofs.WordLaws.{Back, back_same, back_set}
use Rattle.names.proofs.Marking.{entries_start, entry_marked}
use Rattle.names.proofs.mark_few_entries.Goals.{then-q-hand, else-q-hand}
use Rattle.names.proofs.mark_few_entries.Goals as goal

pub loop-entry-init : goal.loop-entry-init
loop-entry-init c =
    let same = back_same 0 c.word_at-held.result (bit_at c.args.marks.now) c.word_at-held.ensures in
    (omega arith, λ others marks. entries_start (at c.args.map.now) others _ (same ∙ marks))

pub loop-entry-preserved : goal.loop-entry-preserved
loop-entry-preserved c =
    let before : c.loop-entry.entry-index < length c.args.map.now = omega arith in
    let below = c.requires.by_index c.loop-entry.entry-index before in
    elim c.if-q-hand.branch [
      | then-q-hand w ↦ (
        omega arith,
        λ others marks.
            entry_marked (at c.args.map.now) others c.loop-entry.entry-index c.sector_of-k.result (Back c.if-q-hand.hand c.if-q-hand.held (bit_at c.if-q-hand.marks)) _ c.sector_of-k.ensures
            (rw (w.marks-is, w.hand-is, w.held-is)
            (back_same (c.sector_of-k.result / 64) w.word_at-held-then-q-hand.result (bit_at w.put_word.new.used) w.word_at-held-then-q-hand.ensures
            ∙ w.put_word.ensures ∙ c.loop-entry.invariant.1 others marks))
            (back_set c.if-q-hand.hand c.if-q-hand.held c.with_bit-held.result c.sector_of-k.result (bit_at c.if-q-hand.marks) (sym w.hand-is) c.with_bit-held.ensures),
      )
      | else-q-hand w ↦ (
        omega arith,
        λ others marks.
            entry_marked (at c.args.map.now) others c.loop-entry.entry-index c.sector_of-k.result (Back c.if-q-hand.hand c.if-q-hand.held (bit_at c.if-q-hand.marks)) _ c.sector_of-k.ensures
            (rw (w.marks-is, w.hand-is, w.held-is) (c.loop-entry.invariant.1 others marks))
            (back_set c.if-q-hand.hand c.if-q-hand.held c.with_bit-held.result c.sector_of-k.result (bit_at c.if-q-hand.marks) (w.if-q-hand.false ∙ sym w.hand-is) c.with_bit-held.ensures),
      )
    ]
