-- The rank is in the lowest byte.
use mathlib.Core.Path.{refl}
use Rattle.tournament.specs.Tournament.{key_at}
use Rattle.tournament.proofs.key_of.Goals as goal

pub returns : goal.returns
unfolding key_at
returns c = refl
