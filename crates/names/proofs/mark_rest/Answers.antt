-- The entries below i are marked.
use Rattle.std.proofs.Common.{◌≡◌, ℕ, length, refl, ap, ◌∙◌, arith}
use Rattle.layout.specs.Bounded.{at}
use Rattle.layout.specs.Entry.{sector_of}
use Rattle.names.specs.Marked.{marked}
use Rattle.names.proofs.Marking.{marked_next}
use Rattle.names.proofs.mark_rest.Goals as goal

pub loop-i-preserved : goal.loop-i-preserved
loop-i-preserved c =
    λ first h. marked_next (λ b. sector_of (at c.args.map.now b)) c.loop-i.i first _ _ _ refl (c.loop-i.invariant first h) c.mark_entry.ensures

pub returns : goal.returns
returns c =
    let end : c.loop-i.i ≡ length c.args.map.now = omega arith in
    λ first h. c.loop-i.invariant first h ∙ ap (λ (x : ℕ). marked (λ b. sector_of (at c.args.map.now b)) x first) end
