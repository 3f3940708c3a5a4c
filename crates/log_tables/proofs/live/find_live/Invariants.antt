-- Those from index i on are put in.
use Rattle.log_tables.specs.LogTables.{raised}
use Rattle.signed.proofs.Listing.{Stepped}
use Rattle.log_tables.proofs.live.find_live.Given as goal

abbrev pub invariant-loop-i : goal.invariant-loop-i
invariant-loop-i l = Stepped (raised l.c) l.sectors l.numbered l.pieces l.i (l.initial.places, l.initial.numbers) (l.places, l.numbers)
