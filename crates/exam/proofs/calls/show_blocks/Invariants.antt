-- No more blocks are shown than were asked for.
use Prim.Native.Nat.{◌≤◌}
use Rattle.exam.proofs.calls.show_blocks.Given as goal

abbrev pub invariant-loop-b : goal.invariant-loop-b
invariant-loop-b g l = l.count ≤ l.b
