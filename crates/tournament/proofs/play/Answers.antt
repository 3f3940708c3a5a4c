-- The winner is put at its place.
use mathlib.Core.Path.{◌∙◌, ap}
use lib.ListN.{set}
use Rattle.tournament.proofs.TournamentLaws.{max_greater}
use Rattle.tournament.proofs.play.Goals as goal

pub returns : goal.returns
returns c =
    ap (set c.args.tree.now c.args.k) (c.max.ensures ∙ max_greater _ _)
