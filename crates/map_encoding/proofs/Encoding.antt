-- A map sector as code makes it: the words in order with zero for the balance, then the balance.
use Prim.Native.Nat.{ℕ, ◌+◌, ◌-◌, ◌^◌, ◌≤◌, ◌<◌}
use mathlib.Core.Bool.{Bool, true, false}
use mathlib.Core.Path.{◌≡◌, refl, ap, ◌∙◌}
use mathlib.Core.List.{List, [], ◌∷◌, ◌++◌, append_assoc}
use native.Mathlib.Omega.{arith}
use lib.ListN.{length, replicate, length-append, length-replicate}
use lib.Seq.{sets}
use Rattle.layout.specs.Word.{word_bytes, words_of, bytes_of, word_sum, balance}
use Rattle.layout.specs.MapSector.{map_mark, kind_of, encoded}
use Rattle.laws.proofs.Words.{Words, words_cons, words_both, words_zeros}
use Rattle.laws.proofs.Balanced.{laid_mark, laid_word, laid_next, sealed}

kind_bounded : (closing : Bool) → kind_of closing < 2 ^ 32
kind_bounded true = omega arith
kind_bounded false = omega arith

-- Words 1 to 7 one by one.
pub header_stored : (s s₀ s₁ s₂ s₃ s₄ s₅ s₆ s₇ : List ℕ) (w₁ w₂ w₃ w₄ w₅ w₆ w₇ : ℕ)
    → s₀ ≡ sets s 0 map_mark
    → s₁ ≡ sets s₀ 4 (word_bytes w₁)
    → s₂ ≡ sets s₁ 8 (word_bytes w₂)
    → s₃ ≡ sets s₂ 12 (word_bytes w₃)
    → s₄ ≡ sets s₃ 16 (word_bytes w₄)
    → s₅ ≡ sets s₄ 20 (word_bytes w₅)
    → s₆ ≡ sets s₅ 24 (word_bytes w₆)
    → s₇ ≡ sets s₆ 28 (word_bytes w₇)
    → s₇ ≡ sets s 0 (map_mark ++ bytes_of (w₁ ∷ w₂ ∷ w₃ ∷ w₄ ∷ w₅ ∷ w₆ ∷ w₇ ∷ []))
header_stored s s₀ s₁ s₂ s₃ s₄ s₅ s₆ s₇ w₁ w₂ w₃ w₄ w₅ w₆ w₇ e₀ e₁ e₂ e₃ e₄ e₅ e₆ e₇ =
    let l₀ = laid_mark s map_mark refl s₀ e₀ in
    let l₁ = laid_word s map_mark refl [] 1 w₁ s₀ s₁ refl l₀ e₁ in
    let l₂ = laid_word s map_mark refl (w₁ ∷ []) 2 w₂ s₁ s₂ refl l₁ e₂ in
    let l₃ = laid_word s map_mark refl (w₁ ∷ w₂ ∷ []) 3 w₃ s₂ s₃ refl l₂ e₃ in
    let l₄ = laid_word s map_mark refl (w₁ ∷ w₂ ∷ w₃ ∷ []) 4 w₄ s₃ s₄ refl l₃ e₄ in
    let l₅ = laid_word s map_mark refl (w₁ ∷ w₂ ∷ w₃ ∷ w₄ ∷ []) 5 w₅ s₄ s₅ refl l₄ e₅ in
    let l₆ = laid_word s map_mark refl (w₁ ∷ w₂ ∷ w₃ ∷ w₄ ∷ w₅ ∷ []) 6 w₆ s₅ s₆ refl l₅ e₆ in
    laid_word s map_mark refl (w₁ ∷ w₂ ∷ w₃ ∷ w₄ ∷ w₅ ∷ w₆ ∷ []) 7 w₇ s₆ s₇ refl l₆ e₇

-- The balance of what was put before it.
pub then_balanced : (laid s s' : List ℕ) → s ≡ laid → s' ≡ sets s 4 (word_bytes (balance (word_sum (words_of s))))
    → s' ≡ sets laid 4 (word_bytes (balance (word_sum (words_of laid))))
then_balanced laid s s' e f = f ∙ ap (λ (t : List ℕ). sets t 4 (word_bytes (balance (word_sum (words_of t))))) e

module _ (l number piece : ℕ) (closing : Bool) (branches entries : List ℕ) (few : length branches ≤ 24) (all-96 : length entries ≡ 96) where
  spare : List ℕ
  spare = replicate (24 - length branches) 0

  -- Words 2 to 127.
  words : List ℕ
  words = number ∷ 0 ∷ piece ∷ kind_of closing ∷ length branches ∷ l ∷ (branches ++ (spare ++ entries))

  words_long : length words ≡ 126
  unfolding words spare
  words_long = simp (length-append, length-replicate) (omega arith)

  words_fit : l < 2 ^ 32 → number < 2 ^ 32 → piece < 2 ^ 32 → Words branches → Words entries → Words words
  unfolding words spare
  words_fit hl hn hp hb he =
      let rest : List ℕ = branches ++ (spare ++ entries) in
      let w₇ = words_cons l rest hl (words_both branches (spare ++ entries) hb (words_both spare entries (words_zeros (24 - length branches)) he)) in
      let w₆ = words_cons (length branches) (l ∷ rest) (omega arith) w₇ in
      let w₅ = words_cons (kind_of closing) (length branches ∷ l ∷ rest) (kind_bounded closing) w₆ in
      let w₄ = words_cons piece (kind_of closing ∷ length branches ∷ l ∷ rest) hp w₅ in
      let w₃ = words_cons 0 (piece ∷ kind_of closing ∷ length branches ∷ l ∷ rest) (omega arith) w₄ in
      words_cons number (0 ∷ piece ∷ kind_of closing ∷ length branches ∷ l ∷ rest) hn w₃

  pub map_stored : (s s₁ s₂ s₃ s₄ : List ℕ) → length s ≡ 512
      → l < 2 ^ 32 → number < 2 ^ 32 → piece < 2 ^ 32 → Words branches → Words entries
      → s₁ ≡ sets s 0 (map_mark ++ bytes_of (0 ∷ number ∷ 0 ∷ piece ∷ kind_of closing ∷ length branches ∷ l ∷ []))
      → s₂ ≡ sets s₁ 32 (bytes_of (branches ++ replicate (24 - length branches) 0))
      → s₃ ≡ sets s₂ 128 (bytes_of entries)
      → s₄ ≡ sets s₃ 4 (word_bytes (balance (word_sum (words_of s₃))))
      → s₄ ≡ encoded l (record { number = number; piece = piece; closing = closing; branches = branches; entries = entries })
  unfolding encoded words spare
  map_stored s s₁ s₂ s₃ s₄ size hl hn hp hb he e₁ e₂ e₃ e₄ =
      let head : List ℕ = 0 ∷ number ∷ 0 ∷ piece ∷ kind_of closing ∷ length branches ∷ l ∷ [] in
      let laid₂ : s₂ ≡ sets s 0 (map_mark ++ bytes_of (head ++ (branches ++ spare))) =
      e₂ ∙ ap (λ (b : List ℕ). sets b 32 (bytes_of (branches ++ spare))) e₁ ∙ laid_next s map_mark refl head (branches ++ spare) 8 refl in
      let next₃ : 32 ≡ 1 + length (head ++ (branches ++ spare)) = simp (length-append, length-replicate) (omega arith) in
      let laid₃ : s₃ ≡ sets s 0 (map_mark ++ bytes_of ((head ++ (branches ++ spare)) ++ entries)) =
      e₃ ∙ ap (λ (b : List ℕ). sets b 128 (bytes_of entries)) laid₂ ∙ laid_next s map_mark refl (head ++ (branches ++ spare)) entries 32 next₃ in
      let whole : (head ++ (branches ++ spare)) ++ entries ≡ 0 ∷ words =
      append_assoc head (branches ++ spare) entries ∙ ap (λ (ws : List ℕ). head ++ ws) (append_assoc branches spare entries) in
      sealed s map_mark words s₃ s₄ refl (words_fit hl hn hp hb he) (omega (arith, words_long)) (laid₃ ∙ ap (λ (ws : List ℕ). sets s 0 (map_mark ++ bytes_of ws)) whole) e₄
