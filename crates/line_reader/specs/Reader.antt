-- Where a reader stands in its window.
use Rattle.std.specs.Prelude.{ℕ, ◌≤◌}
use Rattle.line_reader.specs.declared.Reader.{Reader}

-- The bytes of the longest line, and of the window.
abbrev pub line_bytes : ℕ
line_bytes = 262144

abbrev pub window_bytes : ℕ
window_bytes = 524288

-- The line begins in what was sought, which lies in what is filled, and that in the window.
pub record Placed (r : Reader) : Type 0 where
  pub begins : r.from ≤ r.sought
  pub inside : r.sought ≤ r.filled
  pub held : r.filled ≤ window_bytes
