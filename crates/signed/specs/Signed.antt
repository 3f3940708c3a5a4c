-- A volume's signed sectors: as bits, and what they say as it is listed when they are read.
use Rattle.std.specs.Prelude.{ℕ, ◌≡◌, Bool, true, cond, not, ◌&&◌, List, [], ◌∷◌, ltb}
use Rattle.geometry.specs.declared.Geometry.{Geometry}
use Rattle.layout.specs.Bounded.{gathered, is_zero, updated}
use Rattle.layout.specs.Word.{words_of}
use Rattle.layout.specs.MapSector.{View, valid}
use Rattle.volume.specs.Recover.{number_in, piece_in, signed_numbers}

-- The test, below a bound only.
unfoldable pub below : (ℕ → Bool) → ℕ → ℕ → Bool
below test n k = ltb k n && test k

-- Sector k of an image is signed.
unfoldable pub is_signed : Geometry → (ℕ → List ℕ) → ℕ → Bool
is_signed g image k = valid g (image k) (words_of (image k))

-- The signed sectors of an image of n sectors.
unfoldable pub signed_at : Geometry → (ℕ → List ℕ) → ℕ → Bool
signed_at g image = below (is_signed g image) g.n

-- The signed sectors below n, the last first, and their pieces; their numbers are the definition's.
unfoldable pub signed_sectors : View → ℕ → List ℕ
signed_sectors view n = gathered (λ k. not (is_zero (number_in (view k)))) (λ k. k) [] n

unfoldable pub signed_pieces : View → ℕ → List ℕ
signed_pieces view n = gathered (λ k. not (is_zero (number_in (view k)))) (λ k. piece_in (view k)) [] n

pub record Listed (view : View) (n : ℕ) (sectors numbers pieces : List ℕ) : Type 0 where
  pub sector : sectors ≡ signed_sectors view n
  pub number : numbers ≡ signed_numbers view n
  pub piece : pieces ≡ signed_pieces view n

-- One step for each that is listed, the first sector's first: by its sector and two of its values.
module _ {S : Type 0} (step : ℕ → ℕ → ℕ → S → S) where
  unfoldable pub stepped : List ℕ → List ℕ → List ℕ → S → S
  stepped [] xs ys s = s
  stepped (k ∷ ks) [] ys s = s
  stepped (k ∷ ks) (x ∷ xs) [] s = s
  stepped (k ∷ ks) (x ∷ xs) (y ∷ ys) s = step k x y (stepped ks xs ys s)

-- Sector k is marked where its number x is above c.
unfoldable pub marked_above : ℕ → ℕ → ℕ → ℕ → (ℕ → Bool) → ℕ → Bool
marked_above c k x y bits = cond (ltb c x) (updated bits k true) bits
