-- The byte and the bit are those of the definition.
use mathlib.Core.Path.{refl}
use Rattle.volume.specs.Tables.{bit_at}
use Rattle.bits.proofs.is_set.Goals as goal

pub returns : goal.returns
unfolding bit_at
returns c = refl
