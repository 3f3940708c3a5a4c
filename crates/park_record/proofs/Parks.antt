-- Park records: as code stores one, and as it tests one.
use Prim.Native.Nat.{ℕ, ◌^◌, ◌<◌}
use mathlib.Core.Bool.{true, false}
use mathlib.Core.Path.{◌≡◌, refl, sym, ap, ◌∙◌}
use mathlib.Core.List.{List, [], ◌∷◌, ◌++◌}
use native.Mathlib.Omega.{arith}
use lib.ListN.{length, drop, replicate}
use lib.Seq.{sets, slice, take_all}
use Rattle.layout.specs.Bounded.{all, is_zero}
use Rattle.layout.specs.Word.{word_bytes, words_of, bytes_of, word_sum, balance, starts_with}
use Rattle.layout.specs.ParkRecord.{park_mark, park_record, is_park_record}
use Rattle.laws.proofs.Words.{words_cons, words_zeros, length_words_of}
use Rattle.laws.proofs.Balanced.{laid_mark, laid_word, laid_next, sealed}

pub park_stored : (s s₀ s₁ s₂ s₃ s₄ s₅ : List ℕ) (number tail : ℕ) → length s ≡ 512 → number < 2 ^ 32 → tail < 2 ^ 32
    → s₀ ≡ sets s 0 park_mark
    → s₁ ≡ sets s₀ 4 (word_bytes 0)
    → s₂ ≡ sets s₁ 8 (word_bytes number)
    → s₃ ≡ sets s₂ 12 (word_bytes tail)
    → s₄ ≡ sets s₃ 16 (bytes_of (replicate 124 0))
    → s₅ ≡ sets s₄ 4 (word_bytes (balance (word_sum (words_of s₄))))
    → s₅ ≡ park_record (record { number = number; tail = tail })
unfolding park_record
park_stored s s₀ s₁ s₂ s₃ s₄ s₅ number tail size hn ht e₀ e₁ e₂ e₃ e₄ e₅ =
    let zeros : List ℕ = replicate 124 0 in
    let head : List ℕ = 0 ∷ number ∷ tail ∷ [] in
    let l₀ = laid_mark s park_mark refl s₀ e₀ in
    let l₁ = laid_word s park_mark refl [] 1 0 s₀ s₁ refl l₀ e₁ in
    let l₂ = laid_word s park_mark refl (0 ∷ []) 2 number s₁ s₂ refl l₁ e₂ in
    let l₃ = laid_word s park_mark refl (0 ∷ number ∷ []) 3 tail s₂ s₃ refl l₂ e₃ in
    let l₄ : s₄ ≡ sets s 0 (park_mark ++ bytes_of (head ++ zeros)) =
    e₄ ∙ ap (λ (l : List ℕ). sets l 16 (bytes_of zeros)) l₃ ∙ laid_next s park_mark refl head zeros 4 refl in
    sealed s park_mark (number ∷ tail ∷ zeros) s₄ s₅ refl (words_cons number (tail ∷ zeros) hn (words_cons tail zeros ht (words_zeros 124))) size l₄ e₅

module _ (bs : List ℕ) where
  pub park_unmarked : starts_with park_mark bs ≡ false → is_park_record bs (words_of bs) ≡ false
  unfolding is_park_record
  park_unmarked t = rw t

  pub park_unbalanced_lem : is_zero (word_sum (words_of bs)) ≡ false → starts_with park_mark bs ≡ true → is_park_record bs (words_of bs) ≡ false
  unfolding is_park_record
  park_unbalanced_lem z t = rw (t, z)

  pub park_rest : length bs ≡ 512 → starts_with park_mark bs ≡ true → is_zero (word_sum (words_of bs)) ≡ true
      → is_park_record bs (words_of bs) ≡ all is_zero (slice 4 128 (words_of bs))
  unfolding is_park_record
  park_rest long t z = rw (t, z) (ap (λ (l : List ℕ). all is_zero (drop 4 l)) (sym (take_all 128 (words_of bs) (omega (arith, length_words_of bs)))))
