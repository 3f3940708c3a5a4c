-- The one store of a park.
use Rattle.std.specs.Prelude.{ℕ}
use Rattle.layout.specs.ParkRecord.{park_record}
use Rattle.volume.specs.Store.{Store}

-- The record of a tail and its number, in sector 0.
abbrev pub record_store : ℕ → ℕ → Store
record_store number tail = record { sector = 0; bytes = park_record (record { number = number; tail = tail }) }
