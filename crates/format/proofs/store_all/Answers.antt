-- The blanks and the pieces are the two parts of the definition's list.
use Rattle.fresh.proofs.FormatLaws.{format_fails, format_runs}
use Rattle.format.proofs.store_all.Goals as goal

pub returns-in_err-left : goal.returns-in_err-left
returns-in_err-left c =
    rw c.from_residual.ensures (format_fails _ _ _ _ c.in_err-left.ensures.0 c.blank_sectors.ensures.1)

pub returns : goal.returns
returns c =
    format_runs _ _ _ _ _ _ _ c.store_pieces.result c.requires.pieces_value c.in_ok-left.ensures.0 c.blank_sectors.ensures.1 c.store_pieces.ensures.0 c.store_pieces.ensures.1
