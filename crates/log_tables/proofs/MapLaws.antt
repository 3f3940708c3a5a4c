-- The map, filled in piece by piece.
use Prim.Native.Nat.{ℕ, ◌+◌, ◌*◌, ◌-◌, ◌/◌, ◌%◌, ◌≤◌, ◌<◌, min}
use mathlib.Core.Path.{◌≡◌, sym, ◌∙◌, ap, ap₂, subst}
use mathlib.Core.List.{List}
use native.Mathlib.Omega.{arith}
use lib.ListN.{length, set}
use Rattle.geometry.specs.Geometry.{piece_of, index_of}
use Rattle.layout.specs.Bounded.{at}
use Rattle.layout.specs.Word.{words_of}
use Rattle.layout.specs.MapSector.{entry_words}
use Rattle.volume.specs.Tables.{sector_at}
use Rattle.laws.proofs.Filling.{Filled, filled_length, filled_more}

pub piece_starts : (f : ℕ → ℕ) (old : List ℕ) (first : ℕ) (map : List ℕ) → Filled f old first map → Filled f old (first + 0) map
piece_starts f old first map h = subst (λ (k : ℕ). Filled f old k map) (let e : first ≡ first + 0 = omega arith in e) h

pub piece_more : (f : ℕ → ℕ) (old : List ℕ) (first i v : ℕ) (map : List ℕ) → first + i < length map → f (first + i) ≡ v → Filled f old (first + i) map
    → Filled f old (first + (i + 1)) (set map (first + i) v)
piece_more f old first i v map b e h =
    let len = filled_length f old (first + i) map h in
    subst (λ (k : ℕ). Filled f old k (set map (first + i) v)) (let q : first + i + 1 ≡ first + (i + 1) = omega arith in q)
    (subst (λ (x : ℕ). Filled f old (first + i + 1) (set map (first + i) x)) e (filled_more f old (first + i) map (omega arith) h))

pub piece_ends : (f : ℕ → ℕ) (old : List ℕ) (first i count : ℕ) (map : List ℕ) → i ≡ count → Filled f old (first + i) map → Filled f old (first + count) map
piece_ends f old first i count map e h = subst (λ (k : ℕ). Filled f old (first + k) map) e h

-- The entry of a block: it stands in the live sector of the block's piece.
module _ (image places : List ℕ) where
  abbrev pub entry_of : ℕ → ℕ
  entry_of b = at (entry_words (words_of (sector_at image (at places (piece_of b))))) (index_of b)

  pub piece_entry : (first p i : ℕ) → first ≡ 96 * p → i < 96 → entry_of (first + i) ≡ at (entry_words (words_of (sector_at image (at places p)))) i
  piece_entry first p i e h =
      let q : (first + i) / 96 ≡ p = omega arith in
      let r : (first + i) % 96 ≡ i = omega arith in
      ap₂ (λ (x y : ℕ). at (entry_words (words_of (sector_at image (at places x)))) y) q r

-- Where entries are left, the next piece begins there.
pub next_piece : (first p count len len₀ : ℕ) → len ≡ len₀ → first ≡ 96 * p → (first + count < len → count ≡ 96) → first + count < len₀ → first + count ≡ 96 * (p + 1)
next_piece first p count len len₀ e h whole b = let z = whole (omega arith) in omega arith

-- What one piece adds: 96 entries, or all that are left.
pub piece_filled : (first count left len : ℕ) (map map' s bytes : List ℕ) → left ≡ len - first → first < len → count ≡ min 96 left → s ≡ bytes
    → ((f : ℕ → ℕ) (old : List ℕ) → Filled f old first map → ((i : ℕ) → i < count → f (first + i) ≡ at (entry_words (words_of s)) i) → Filled f old (first + count) map')
    → (1 ≤ count)
    × (count ≤ 96)
    × (first + count ≤ len)
    × (first + count < len → count ≡ 96)
    × ((f : ℕ → ℕ) (old : List ℕ) → Filled f old first map → ((i : ℕ) → i < 96 → f (first + i) ≡ at (entry_words (words_of bytes)) i) → Filled f old (first + count) map')
piece_filled first count left len map map' s bytes l h n e fill = (
  omega arith,
  omega arith,
  omega arith,
  λ b. omega arith,
  λ f old start entries. fill f old start (λ i k. entries i (omega arith) ∙ ap (λ (x : List ℕ). at (entry_words (words_of x)) i) (sym e)),
)
