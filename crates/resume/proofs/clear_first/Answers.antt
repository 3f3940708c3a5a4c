-- Sector 0 is cleared unless it is blank.
use Rattle.resume.proofs.ResumeLaws.{first_cleared}
use Rattle.resume.proofs.clear_first.Goals as goal

pub returns : goal.returns
returns c =
    first_cleared _ _ _ _ _ _ c.is_blank-blank.ensures c.sector.ensures c.clear_park.ensures
