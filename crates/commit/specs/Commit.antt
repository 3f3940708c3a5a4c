-- The change that both write and drop are.
use Rattle.std.specs.Prelude.{ℕ, cond, List}
use Rattle.layout.specs.Bounded.{at, is_zero}
use Rattle.layout.specs.Entry.{stored}
use Rattle.volume.specs.Tables.{sector_at}
use Rattle.volume.specs.Commit.{Change}
use Rattle.volume.specs.Calls.{write_change, drop_change}

-- The blocks' bytes, and the new entries.
abbrev pub change_with : List ℕ → List ℕ → List ℕ → ℕ → Change
change_with blocks bytes entries data_sectors =
    record { blocks = blocks; data_sectors = data_sectors; content = λ i. stored (sector_at bytes i); entry = λ i _. at entries i }

-- With no data sectors it is a drop.
abbrev pub change_by : List ℕ → List ℕ → ℕ → Change
change_by blocks bytes data_sectors = cond (is_zero data_sectors) (drop_change blocks) (write_change blocks bytes)
