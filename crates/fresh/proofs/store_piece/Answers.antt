-- The piece of the definition, with no branch or with one.
use Prim.Native.Nat.{◌+◌}
use mathlib.Core.Path.{◌∙◌, ap}
use mathlib.Core.List.{[], ◌∷◌}
use Rattle.layout.specs.Bounded.{updated}
use Rattle.volume.specs.Tables.{sector_at}
use Rattle.fresh.proofs.FormatLaws.{piece_made, no_branch, one_branch}
use Rattle.fresh.proofs.store_piece.Goals as goal

pub returns-then-p-eq0 : goal.returns-then-p-eq0
returns-then-p-eq0 c =
    c.store_empty.ensures
    ∙ ap (updated (sector_at c.args.image.now) (c.args.p + 1)) (piece_made c.args.l c.args.p c.args.pieces [] c.requires.pieces_value (no_branch c.args.p c.if-p-eq0.true))

pub returns : goal.returns
returns c =
    c.store_empty-2.ensures
    ∙ ap (updated (sector_at c.args.image.now) (c.args.p + 1)) (piece_made c.args.l c.args.p c.args.pieces (c.args.p ∷ []) c.requires.pieces_value (one_branch c.args.p c.if-p-eq0.false))
