-- The entries below i of the piece are filled in.
use Prim.Native.Nat.{ℕ, ◌+◌, ◌<◌}
use mathlib.Core.Path.{◌≡◌}
use mathlib.Core.List.{List}
use Rattle.layout.specs.Bounded.{at}
use Rattle.layout.specs.Word.{words_of}
use Rattle.layout.specs.MapSector.{entry_words}
use Rattle.laws.proofs.Filling.{Filled}
use Rattle.log_tables.proofs.fill_map.fill_piece.Given as goal

abbrev pub invariant-loop-i : goal.invariant-loop-i
invariant-loop-i l =
    (f : ℕ → ℕ) (old : List ℕ) → Filled f old l.first l.initial.map → ((j : ℕ) → j < l.count → f (l.first + j) ≡ at (entry_words (words_of l.s)) j) → Filled f old (l.first + l.i) l.map
