-- Document 01, "Park record": where the tail was when the volume was parked, in sector 0.
use Rattle.std.specs.Prelude.{ℕ, Bool, cond, ◌&&◌, List, [], ◌∷◌, drop, replicate}
use Rattle.std.proofs.Math.Option.{Option, none, some}
use Rattle.layout.specs.Bounded.{at, all, is_zero}
use Rattle.layout.specs.Word.{words_of, word_sum, starts_with, balanced}

-- Bytes 56 4C 50 31 hexadecimal: "VLP1".
abbrev pub park_mark : List ℕ
park_mark = 0x56 ∷ 0x4C ∷ 0x50 ∷ 0x31 ∷ []

pub record Parked : Type 0 where
  pub number : ℕ
  pub tail : ℕ

unfoldable pub park_record : Parked → List ℕ
park_record p = balanced park_mark (p.number ∷ p.tail ∷ replicate 124 0)

-- The bytes are laid out as a park record.
unfoldable pub is_park_record : List ℕ → List ℕ → Bool
is_park_record bytes ws = starts_with park_mark bytes && is_zero (word_sum ws) && all is_zero (drop 4 ws)

unfoldable pub parked_in : List ℕ → Option Parked
parked_in bytes =
    let ws = words_of bytes in
    let found : Option Parked = some (record { number = at ws 2; tail = at ws 3 }) in
    cond (is_park_record bytes ws) found none
