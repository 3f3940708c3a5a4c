-- Volumes, drives and settings by their numbers, as the rows of a table name them.
use Prim.Native.Nat.{ℕ}
use Rattle.geometry.specs.declared.Geometry.{Geometry}
use Rattle.geometry.specs.declared.Drive.{Drive}
use Rattle.geometry.specs.declared.Settings.{Settings}

-- N sectors and L blocks.
abbrev pub sized : ℕ → ℕ → Geometry
sized n l = record { n = n; l = l }

-- So many tracks of so many sectors, and the head switch.
abbrev pub tracked : ℕ → ℕ → ℕ → Drive
tracked per_track tracks head_switch = record { sectors = per_track; tracks = tracks; switch = head_switch }

-- One track of N sectors, as in the sample volumes.
abbrev pub one_track : ℕ → Drive
one_track n = tracked n 1 0

-- What asks for L blocks on a drive.
abbrev pub asked : ℕ → Drive → Settings
asked l drive = record { l = l; drive = drive }
