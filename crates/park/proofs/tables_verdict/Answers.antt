-- There is a bit for each sector.
use Rattle.park.proofs.ParkLaws.{bits_enough}
use Rattle.park.proofs.tables_verdict.Goals as goal

pub count_free-free-requires : goal.count_free-free-requires
count_free-free-requires c =
    bits_enough _ _ _ _ _ _ c.requires.geometry_value
