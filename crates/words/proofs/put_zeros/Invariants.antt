-- So far i zeros are stored.
use Rattle.std.proofs.Common.{◌≡◌, ◌*◌, replicate}
use lib.Seq.{sets}
use Rattle.layout.specs.Word.{bytes_of}
use Rattle.words.proofs.put_zeros.Given as goal

abbrev pub invariant-loop-i : goal.invariant-loop-i
invariant-loop-i l = l.s ≡ sets l.initial.s (4 * l.k) (bytes_of (replicate l.i 0))
