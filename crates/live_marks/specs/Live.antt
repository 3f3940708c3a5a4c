-- The used map of the log that a scan of an image finds: sector 0, the live map sectors and the sectors that their entries name.
use Rattle.std.specs.Prelude.{ℕ, ◌*◌, Bool, true, false, cond, ◌&&◌, List, length, eqb}
use Rattle.std.proofs.Math.Option.{Option, none, some}
use Rattle.geometry.specs.declared.Geometry.{Geometry}
use Rattle.geometry.specs.Geometry.{sector_bytes, used_bytes, geometry_fits}
use Rattle.volume.specs.Tables.{sector_at}
use Rattle.volume.specs.Recover.{Finding, found, missing, scan_finding, image_view}

-- Marks that were made, or not.
unfoldable pub marked : Bool → (ℕ → Bool) → Option (ℕ → Bool)
marked true bits = some bits
marked false bits = none

unfoldable pub marks_of : Finding → Option (ℕ → Bool)
marks_of (found log answer stores) = some log.tables.is_used
marks_of (missing loss) = none

-- The image is one of such a volume, and the marks have a bit for each of its sectors.
abbrev pub sizes_fit : Geometry → ℕ → ℕ → Bool
sizes_fit g bytes marks = geometry_fits g && (eqb bytes (sector_bytes * g.n) && eqb marks (used_bytes g.n))

unfoldable pub scan_marks : Geometry → List ℕ → Option (ℕ → Bool)
scan_marks g image = marks_of (scan_finding g (image_view g (sector_at image)) (sector_at image 0))

-- None where the scan finds no log.
unfoldable pub live_marks : Geometry → List ℕ → ℕ → Option (ℕ → Bool)
live_marks g image marks = cond (sizes_fit g (length image) marks) (scan_marks g image) none
