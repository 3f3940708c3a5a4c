-- The kind is word 5.
use Prim.Native.Nat.{ℕ}
use mathlib.Core.Path.{ap}
use lib.Dec.{eqb}
use Rattle.map_sector.proofs.is_closing.Goals as goal

pub returns : goal.returns
returns c = ap (λ (kind : ℕ). eqb kind 1) c.word_at.ensures
