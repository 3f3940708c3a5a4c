-- Document 01, "The volume": the sizes of a volume of N sectors that shows L blocks.
use Rattle.std.specs.Prelude.{ℕ, ◌+◌, ◌*◌, ◌-◌, ◌/◌, ◌%◌, Bool, ◌&&◌, eqb, leb}
use Rattle.geometry.specs.declared.Geometry.{Geometry}
use Rattle.geometry.specs.declared.Drive.{Drive}
use Rattle.geometry.specs.declared.Settings.{Settings}

-- low ≤ x ≤ high.
abbrev pub within : ℕ → ℕ → ℕ → Bool
within low high x = leb low x && leb x high

-- Bytes of a sector, and of a block.
abbrev pub sector_bytes : ℕ
sector_bytes = 512

-- Map entries a piece.
abbrev pub entries_per_piece : ℕ
entries_per_piece = 96

-- Branches that a map sector has room for.
abbrev pub branch_room : ℕ
branch_room = 24

-- Branches that decide for a fold: one more than there is room for.
abbrev pub folding_branches : ℕ
folding_branches = branch_room + 1

-- The greatest L.
abbrev pub most_blocks : ℕ
most_blocks = 24576

-- The greatest N.
abbrev pub most_sectors : ℕ
most_sectors = 65536

-- The greatest P: that of the greatest L.
abbrev pub most_pieces : ℕ
most_pieces = most_blocks / entries_per_piece

-- Blocks that a commit names at most.
abbrev pub commit_blocks : ℕ
commit_blocks = 64

-- Sectors that a commit takes at most: one a block and one a piece.
abbrev pub commit_sectors : ℕ
commit_sectors = commit_blocks + most_pieces

-- P: L / 96 rounded up.
abbrev pub pieces_for : ℕ → ℕ
pieces_for l = (l + (entries_per_piece - 1)) / entries_per_piece

-- The piece that holds a block's entry, and where in it.
abbrev pub piece_of : ℕ → ℕ
piece_of block = block / entries_per_piece

abbrev pub index_of : ℕ → ℕ
index_of block = block % entries_per_piece

-- Bytes of a used map: one bit a sector.
abbrev pub used_bytes : ℕ → ℕ
used_bytes n = (n + 7) / 8

-- Bytes of the largest used map.
abbrev pub most_used_bytes : ℕ
most_used_bytes = used_bytes most_sectors

-- The volume of N sectors that these settings ask for.
abbrev pub geometry_of : ℕ → Settings → Geometry
geometry_of n settings = record { n = n; l = settings.l }

-- What a recovery of a volume on a drive is given.
abbrev pub settings_of : Geometry → Drive → Settings
settings_of g drive = record { l = g.l; drive = drive }

-- L is 1 to 24,576; N is 2P + 2 to 65,536.
abbrev pub geometry_fits : Geometry → Bool
geometry_fits g = within 1 most_blocks g.l && within (2 * pieces_for g.l + 2) most_sectors g.n

-- Document 02, "Drives with tracks": sectors a track 1 to 65,536, tracks 1 to 256, head switch 0 to 255, and the tracks hold the N
-- sectors.
abbrev pub most_per_track : ℕ
most_per_track = 65536

abbrev pub most_tracks : ℕ
most_tracks = 256

abbrev pub longest_switch : ℕ
longest_switch = 255

abbrev pub drive_fits : ℕ → Drive → Bool
drive_fits n d =
    within 1 most_per_track d.sectors
    && within 1 most_tracks d.tracks
    && leb d.switch longest_switch
    && eqb (d.sectors * d.tracks) n
