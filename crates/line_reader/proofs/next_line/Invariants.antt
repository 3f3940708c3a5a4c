-- A read is made only while the line is not too long.
use Rattle.line_reader.specs.Reader.{Placed}
use Rattle.line_reader.proofs.next_line.Given as goal

abbrev pub invariant-loop : goal.invariant-loop
invariant-loop g l = Placed l.r
