-- The walk is that of so many steps.
use mathlib.Core.Path.{refl, ◌∙◌}
use native.Mathlib.Omega.{arith}
use Rattle.walk_steps.proofs.WalkLaws.{walked_none, walked_more, walked_all}
use Rattle.walk_steps.proofs.walk_steps.Goals as goal

pub loop-step-init : goal.loop-step-init
loop-step-init c =
    (refl, refl, refl, c.requires.image_len, c.requires.l_nonzero, c.requires.waits.taken_long, c.requires.waits, walked_none _ _ _)

pub walk_step-requires : goal.walk_step-requires
walk_step-requires c = record {
  image_len = c.loop-step.invariant.3;
  l_nonzero = c.loop-step.invariant.4;
  waits = c.loop-step.invariant.6;
}

pub loop-step-preserved : goal.loop-step-preserved
loop-step-preserved c = (
  c.walk_step.auto.waiting ∙ c.loop-step.invariant.0,
  c.walk_step.auto.tree ∙ c.loop-step.invariant.1,
  c.walk_step.auto.taken ∙ c.loop-step.invariant.2,
  c.loop-step.invariant.3,
  c.loop-step.invariant.4,
  c.loop-step.invariant.5,
  c.walk_step.ensures.1,
  walked_more _ _ _ _ _ c.loop-step._step c.loop-step.invariant.7 c.walk_step.ensures.0,
)

pub returns : goal.returns
returns c =
    walked_all _ _ _ _ c.loop-step._step _ c.loop-step.invariant.5 (omega arith) c.loop-step-test.false c.loop-step.invariant.7
