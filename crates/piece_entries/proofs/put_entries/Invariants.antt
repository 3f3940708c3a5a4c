-- The changes of the piece's blocks before i are in.
use Rattle.piece_entries.proofs.EntryLaws.{Changing}
use Rattle.piece_entries.proofs.put_entries.Given as goal

abbrev pub invariant-loop-i : goal.invariant-loop-i
invariant-loop-i l = Changing l.l l.p l.map l.blocks l.news l.initial.s l.i l.s
