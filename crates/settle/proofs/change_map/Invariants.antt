-- The first i blocks have their new entries.
use mathlib.Core.Path.{◌≡◌}
use Rattle.layout.specs.Bounded.{at, updates}
use Rattle.settle.proofs.change_map.Given as goal

abbrev pub invariant-loop-i : goal.invariant-loop-i
invariant-loop-i l = at l.map ≡ updates (at l.initial.map) (at l.blocks) (at l.news) l.i
