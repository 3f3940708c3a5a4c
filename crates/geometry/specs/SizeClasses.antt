-- Volumes by their count of sectors, as the code has tables of several lengths for them. No definition goes by this.
use Rattle.std.specs.Prelude.{ℕ}
use Rattle.geometry.specs.Geometry.{used_bytes}

-- Sectors of a small volume, at most.
abbrev pub small_sectors : ℕ
small_sectors = 1024

-- Bytes of the largest used map of a small volume.
abbrev pub small_used_bytes : ℕ
small_used_bytes = used_bytes small_sectors

-- Sectors of a medium volume, at most.
abbrev pub medium_sectors : ℕ
medium_sectors = 16384
