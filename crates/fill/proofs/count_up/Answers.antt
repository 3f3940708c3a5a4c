-- The places below i are filled, by the laws of Filling.
use Prim.Native.Nat.{ℕ, ◌+◌}
use mathlib.Core.Path.{◌∙◌, ap, fun_ext}
use native.Mathlib.Numerals.{add-one}
use Rattle.layout.specs.Bounded.{list_from}
use native.Mathlib.Omega.{arith}
use lib.ListN.{length}
use Rattle.laws.proofs.Filling.{filled_none, filled_more, filled_all}
use Rattle.fill.proofs.count_up.Goals as goal

pub loop-i-init : goal.loop-i-init
loop-i-init c = filled_none _ _

pub loop-i-preserved : goal.loop-i-preserved
loop-i-preserved c =
    filled_more (λ k. k + 1) _ c.loop-i.i c.loop-i.words (omega arith) c.loop-i.invariant

pub returns : goal.returns
returns c =
    filled_all (λ k. k + 1) c.args.words.now c.loop-i.i c.loop-i.words (omega arith) c.loop-i.invariant
    ∙ ap (λ (f : ℕ → ℕ). list_from f 0 (length c.args.words.now)) (fun_ext add-one)
