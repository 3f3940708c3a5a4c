-- What a search for a place gives.
use Rattle.std.specs.Prelude.{ℕ, ◌+◌, ◌*◌, ◌<◌, ◌≡◌, Bool}
use Rattle.geometry.specs.declared.Drive.{Drive}
use Rattle.tracks.specs.Placing.{track_of, least_delay}

-- A search's answer, with the first sector of its track: the choice of least delay.
pub record Chosen (d : Drive) (n : ℕ) (is_used : ℕ → Bool) (start sector skipped first : ℕ) : Type 0 where
  pub is : record { sector = sector; skipped = skipped } ≡ (least_delay d).choose n is_used start
  pub below : sector < n
  pub short : skipped < d.switch + d.sectors
  pub track : first ≡ track_of d sector * d.sectors
