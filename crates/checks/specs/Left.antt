-- What a call hands back and leaves, put together from its result and the lent slices.
use Rattle.std.specs.Prelude.{List, [], ℕ}
use Rattle.state.specs.declared.Outcome.{Outcome}
use Rattle.lending.specs.declared.Lengths.{Lengths}
use Rattle.volume.specs.Tables.{Memory, zero_tables}
use Rattle.volume.specs.Calls.{ReadAfter}

-- Of a read: the outcome, the memory that it was lent, and its 512 bytes.
abbrev pub read_left : Outcome → Memory → List ℕ → ReadAfter
read_left outcome memory out = record { outcome = outcome; memory = memory; out = out }

-- Memory of which only the lengths matter.
abbrev pub lent : ℕ → ℕ → ℕ → ℕ → ℕ → Memory
lent image map places numbers used =
    record {
      lengths = record { image = image; map = map; places = places; numbers = numbers; used = used };
      image = λ _. [];
      tables = zero_tables;
    }

-- The same of lengths that are one value.
abbrev pub measured : Lengths → Memory
measured l = lent l.image l.map l.places l.numbers l.used
