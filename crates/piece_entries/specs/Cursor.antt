-- How far the named blocks are used when the pieces are gone through.
use Rattle.std.specs.Prelude.{ℕ, ◌*◌, ◌≤◌, ◌<◌, List, length}
use Rattle.geometry.specs.Geometry.{entries_per_piece}
use Rattle.layout.specs.Bounded.{at}

-- The blocks ascend, and those before `from` are the ones of pieces below p.
pub record Cursor (blocks : List ℕ) (p from : ℕ) : Type 0 where
  pub ascending : (i j : ℕ) → i < j → j < length blocks → at blocks i < at blocks j
  pub most : from ≤ length blocks
  pub behind : (i : ℕ) → i < from → at blocks i < entries_per_piece * p
  pub ahead : (i : ℕ) → from ≤ i → i < length blocks → entries_per_piece * p ≤ at blocks i
