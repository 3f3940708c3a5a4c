-- The log as a scan finds it, in the arrays that were lent.
use Rattle.std.specs.Prelude.{ℕ, length, ◌≡◌, Bool, List, Result, Ok, Err}
use Rattle.answer.specs.declared.Loss.{Loss}
use Rattle.answer.specs.declared.Answer.TheVariants.{Scanned}
use Rattle.state.specs.declared.tail.Tail.{Tail}
use Rattle.layout.specs.MapSector.{View}
use Rattle.geometry.specs.declared.Geometry.{Geometry}
use Rattle.geometry.specs.Geometry.{pieces_for, used_bytes}
use Rattle.lending.specs.declared.TablesMut.{TablesMut}
use Rattle.volume.specs.Tables.{Tables}
use Rattle.volume.specs.Recover.{Finding, found, missing, scan_stores, is_uncommitted}

-- What a scan found, given the tables that it left.
unfoldable pub scan_found : Result Tail Loss → ℕ → View → List ℕ → Tables → Finding
scan_found (Ok tail) n view sector0 t =
    found (record { tables = t; tail = tail.sector; number = tail.number }) (Scanned n) (scan_stores n view sector0 tail.number)
scan_found (Err loss) n view sector0 t = missing loss

-- Where a log was found, the bits are those of the uncommitted sectors.
unfoldable pub ScanAbove : Result Tail Loss → View → (ℕ → Bool) → Type 0
ScanAbove (Ok tail) view bits = bits ≡ is_uncommitted view tail.number
ScanAbove (Err loss) view bits = bits ≡ bits

-- The tables that are filled in have the lengths of a volume.
pub record Sized (g : Geometry) (t : TablesMut) : Type 0 where
  pub map_len : length t.map.now ≡ g.l
  pub places_len : length t.places.now ≡ pieces_for g.l
  pub numbers_len : length t.numbers.now ≡ pieces_for g.l
  pub used_len : length t.used.now ≡ used_bytes g.n
