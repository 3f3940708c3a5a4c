-- The reader keeps to its window, and the same slices stay lent.
use Rattle.lending.specs.Lending.{SameLent}
use Rattle.line_reader.specs.Reader.{Placed}
use Rattle.exam.proofs.answer_lines.Given as goal

abbrev pub invariant-loop : goal.invariant-loop
invariant-loop g l = Placed l.reader × SameLent l.m l.initial.m
