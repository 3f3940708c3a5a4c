-- Flipping, case by case.
use Prim.Native.Nat.{ℕ, ◌+◌, ◌-◌, ◌^◌}
use mathlib.Core.Bool.{true, false}
use mathlib.Core.Path.{◌≡◌, refl}
use mathlib.Core.List.{List, [], ◌∷◌}
use lib.ListN.{set}
use borrow.Author.Tests.{ne_eqb}
use Rattle.layout.specs.Bounded.{at}
use Rattle.layout.specs.Entry.{blank, is_flipped, complemented, needs_flip, stored, entry_for, restored}

pub complement_set : (s : List ℕ) → set s 0 (255 - at s 0) ≡ complemented s
unfolding complemented
complement_set [] = refl
complement_set (b ∷ bs) = refl

module _ (block : List ℕ) (sector : ℕ) where
  pub entry_flipped : needs_flip block ≡ true → entry_for block sector ≡ sector + 2 ^ 31
  unfolding entry_for
  entry_flipped t = rw t

  pub entry_plain : needs_flip block ≡ false → entry_for block sector ≡ sector
  unfolding entry_for
  entry_plain t = rw t

pub stored_flipped : (block : List ℕ) → needs_flip block ≡ true → stored block ≡ complemented block
unfolding stored
stored_flipped block t = rw t

pub stored_plain : (block : List ℕ) → needs_flip block ≡ false → stored block ≡ block
unfolding stored
stored_plain block t = rw t

module _ (entry : ℕ) (bytes : List ℕ) where
  pub restored_empty : entry ≡ 0 → restored entry bytes ≡ blank
  unfolding restored
  restored_empty e = rw e

  pub restored_flipped : (entry ≡ 0 → ⊥) → is_flipped entry ≡ true → restored entry bytes ≡ complemented bytes
  unfolding restored
  restored_flipped h t = rw (ne_eqb entry 0 h, t)

  pub restored_plain : (entry ≡ 0 → ⊥) → is_flipped entry ≡ false → restored entry bytes ≡ bytes
  unfolding restored
  restored_plain h t = rw (ne_eqb entry 0 h, t)
