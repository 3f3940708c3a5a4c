-- Document 01, "Entry" and "Flipping".
use Rattle.std.specs.Prelude.{ℕ, ◌+◌, ◌-◌, ◌%◌, ◌^◌, Bool, cond, List, [], ◌∷◌, replicate, leb}
use Rattle.layout.specs.Bounded.{is_zero}
use Rattle.geometry.specs.Geometry.{sector_bytes}
use Rattle.layout.specs.Word.{starts_with}
use Rattle.layout.specs.MapSector.{map_mark}

-- 512 zero bytes: an empty block, and a blank sector.
abbrev pub blank : List ℕ
blank = replicate sector_bytes 0

-- Never written, or dropped.
abbrev pub is_empty : ℕ → Bool
is_empty entry = is_zero entry

-- Bits 0 to 30: the block's sector.
abbrev pub sector_of : ℕ → ℕ
sector_of entry = entry % 2 ^ 31

-- Bit 31: "flipped".
abbrev pub is_flipped : ℕ → Bool
is_flipped entry = leb (2 ^ 31) entry

-- A block with its first byte complemented.
unfoldable pub complemented : List ℕ → List ℕ
complemented [] = []
complemented (b ∷ bs) = (255 - b) ∷ bs

-- A block that begins with the map mark is stored flipped, so that no data sector is ever signed.
unfoldable pub needs_flip : List ℕ → Bool
needs_flip block = starts_with map_mark block

unfoldable pub stored : List ℕ → List ℕ
stored block = cond (needs_flip block) (complemented block) block

unfoldable pub entry_for : List ℕ → ℕ → ℕ
entry_for block sector = cond (needs_flip block) (sector + 2 ^ 31) sector

-- The block that an entry reads as, given the bytes of its sector.
unfoldable pub restored : ℕ → List ℕ → List ℕ
restored entry bytes = cond (is_empty entry) blank (cond (is_flipped entry) (complemented bytes) bytes)
