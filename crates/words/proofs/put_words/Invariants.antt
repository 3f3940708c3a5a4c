-- So far the first words are stored, one after the other.
use Rattle.std.proofs.Common.{◌≡◌, ◌*◌, take}
use lib.Seq.{sets}
use Rattle.layout.specs.Word.{bytes_of}
use Rattle.words.proofs.put_words.Given as goal

abbrev pub invariant-loop-i : goal.invariant-loop-i
invariant-loop-i l = l.s ≡ sets l.initial.s (4 * l.k) (bytes_of (take l.i l.words))
