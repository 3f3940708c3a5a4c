-- What is said of commits for any rules, and the rules of the calls.
use Rattle.std.specs.Prelude.{ℕ}
use Rattle.geometry.specs.declared.Drive.{Drive}
use Rattle.geometry.specs.Geometry.{branch_room}
use Rattle.tracks.specs.Placing.{Choice, least_delay}

-- What the reasoning about commits leaves open: the choice of place on a drive, how many branches a map sector may list, and
-- the greatest number of a tail that another commit may follow.
pub record Rules : Type 0 where
  pub placing : Drive → Choice
  pub branch_limit : ℕ
  pub greatest : ℕ

-- What the calls go by: 24 branches, and 256 numbers must be left.
abbrev pub base : Rules
base = record { placing = least_delay; branch_limit = branch_room; greatest = 4294967039 }
