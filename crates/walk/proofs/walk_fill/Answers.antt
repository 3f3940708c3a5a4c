-- Both are filled from the places.
use mathlib.Core.Path.{refl}
use Rattle.scan.proofs.ScanLaws.{is_map}
use Rattle.walk.proofs.walk_fill.Goals as goal

pub returns : goal.returns
returns c =
    (is_map _ _ _ _ _ refl c.fill_map.ensures, c.read_numbers.ensures)
