-- So far those that pass are counted.
use Rattle.std.proofs.Common.{◌≡◌, length, sym, ap, ◌∙◌, arith}
use Rattle.layout.specs.Bounded.{at, count_below}
use Rattle.names.proofs.Marking.{counted_none, counted_hit, counted_miss}
use Rattle.names.proofs.count_passing.Goals.{then-passes, else-passes}
use Rattle.names.proofs.count_passing.Goals as goal

pub loop-word-init : goal.loop-word-init
loop-word-init g c = (omega arith, λ test says. counted_none _)

pub loop-word-preserved : goal.loop-word-preserved
loop-word-preserved g c =
    elim c.if-passes.branch [
      | then-passes w ↦ (
        omega arith,
        λ test says.
            counted_hit (λ i. test (at c.args.words.now i)) c.loop-word.word-index c.loop-word.count _
            (sym (says _ c.passes.result (omega (arith, c.type_inv.words c.loop-word.word-index)) c.passes.ensures) ∙ w.if-passes.true)
            (c.loop-word.invariant.1 test says) w.count-is,
      )
      | else-passes w ↦ (
        omega arith,
        λ test says.
            counted_miss (λ i. test (at c.args.words.now i)) c.loop-word.word-index c.loop-word.count _
            (sym (says _ c.passes.result (omega (arith, c.type_inv.words c.loop-word.word-index)) c.passes.ensures) ∙ w.if-passes.false)
            (c.loop-word.invariant.1 test says) w.count-is,
      )
    ]

pub returns-clause-counted : goal.returns-clause-counted
returns-clause-counted g c =
    let end : c.loop-word.word-index ≡ length c.args.words.now = omega arith in
    λ test says. c.loop-word.invariant.1 test says ∙ ap (count_below (λ i. test (at c.args.words.now i))) end
