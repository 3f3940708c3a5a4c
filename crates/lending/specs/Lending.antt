-- What a caller lends, as the definitions see it: memory and tables of document 01.
use Rattle.std.specs.Prelude.{ℕ, List, ◌≡◌, length}
use Rattle.geometry.specs.declared.Geometry.{Geometry}
use Rattle.geometry.specs.Geometry.{pieces_for, used_bytes}
use Rattle.volume.specs.Tables.{Tables, Memory, tables_of, memory}
use Rattle.lending.specs.declared.Tables as lent_tables
use Rattle.lending.specs.declared.Memory as lent_memory
use Rattle.lending.specs.declared.Lengths as lent_lengths
use Rattle.lending.specs.declared.TablesMut.{TablesMut}

-- The tables that are looked at.
abbrev pub tables_in : lent_tables.Tables → Tables
tables_in t = tables_of t.map.now t.places.now t.numbers.now t.used.now

-- An image and such tables.
abbrev pub seen : List ℕ → lent_tables.Tables → Memory
seen image t = memory image t.map.now t.places.now t.numbers.now t.used.now

-- All that is lent to a storing call.
abbrev pub held : lent_memory.Memory → Memory
held m = memory m.image.now m.map.now m.places.now m.numbers.now m.used.now

-- The tables of all that is lent.
abbrev pub tables_held : lent_memory.Memory → Tables
tables_held m = tables_of m.map.now m.places.now m.numbers.now m.used.now

-- The lengths of an image and such tables, and those of all that is lent.
abbrev pub lengths_of : ℕ → lent_tables.Tables → lent_lengths.Lengths
lengths_of image t =
    record { image = image; map = length t.map.now; places = length t.places.now; numbers = length t.numbers.now; used = length t.used.now }

abbrev pub lengths_held : lent_memory.Memory → lent_lengths.Lengths
lengths_held m =
    record {
      image = length m.image.now;
      map = length m.map.now;
      places = length m.places.now;
      numbers = length m.numbers.now;
      used = length m.used.now;
    }

-- The tables have the lengths of a volume.
pub record Sized (g : Geometry) (t : lent_tables.Tables) : Type 0 where
  pub map_len : length t.map.now ≡ g.l
  pub places_len : length t.places.now ≡ pieces_for g.l
  pub numbers_len : length t.numbers.now ≡ pieces_for g.l
  pub used_len : length t.used.now ≡ used_bytes g.n

-- The same slices are still lent: what a call leaves in them reaches the caller.
pub record SameLent (after before : lent_memory.Memory) : Type 0 where
  pub image : after.image.ghost_name ≡ before.image.ghost_name
  pub map : after.map.ghost_name ≡ before.map.ghost_name
  pub places : after.places.ghost_name ≡ before.places.ghost_name
  pub numbers : after.numbers.ghost_name ≡ before.numbers.ghost_name
  pub used : after.used.ghost_name ≡ before.used.ghost_name

-- The tables that are filled in.
abbrev pub tables_filled : TablesMut → Tables
tables_filled t = tables_of t.map.now t.places.now t.numbers.now t.used.now

-- They are as long as before.
pub record SameLengths (after before : TablesMut) : Type 0 where
  pub map : length after.map.now ≡ length before.map.now
  pub places : length after.places.now ≡ length before.places.now
  pub numbers : length after.numbers.now ≡ length before.numbers.now
  pub used : length after.used.now ≡ length before.used.now

-- The same slices are still lent: what is found in them reaches the caller.
pub record SameTables (after before : TablesMut) : Type 0 where
  pub map : after.map.ghost_name ≡ before.map.ghost_name
  pub places : after.places.ghost_name ≡ before.places.ghost_name
  pub numbers : after.numbers.ghost_name ≡ before.numbers.ghost_name
  pub used : after.used.ghost_name ≡ before.used.ghost_name
