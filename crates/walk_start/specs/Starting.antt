-- Where a walk starts.
use Rattle.std.specs.Prelude as std_words
use Rattle.std.specs.Prelude.{ℕ, cond, Some, None}
use Rattle.std.proofs.Math.Option.{Option, none, some}
use Rattle.state.specs.declared.tail.Tail.{Tail}
use Rattle.layout.specs.MapSector.{View}
use Rattle.layout.specs.ParkRecord.{Parked}
use Rattle.volume.specs.Recover.{walk_starts}

-- Where a walk starts.
unfoldable pub start_of : ℕ → View → Option Parked → std_words.Option Tail
start_of n view none = None
start_of n view (some parked) = cond (walk_starts n parked (view parked.tail)) (Some (record { sector = parked.tail; number = parked.number })) None
