-- A sector that is laid out word by word, with its balance put in last.
use Prim.Native.Nat.{ℕ, ◌+◌, ◌*◌, ◌≤◌}
use mathlib.Core.Bool.{true}
use mathlib.Core.Path.{◌≡◌, refl, sym, ap, ◌∙◌}
use mathlib.Core.List.{List, [], ◌∷◌, ◌++◌, append_assoc, append-nil}
use native.Mathlib.Omega.{arith}
use lib.ListN.{length, drop, length-append}
use lib.Seq.{sets, sets-eq, take_at, drop_at, take-append_seam}
use Rattle.layout.specs.Word.{word_bytes, words_of, bytes_of, word_sum, balance, starts_with, balanced}
use Rattle.laws.proofs.Codec.{words_of_bytes}
use Rattle.laws.proofs.Words.{Words, words_cons, words_append, all_words, bytes_append, length_bytes_of}
use Rattle.laws.proofs.Sums.{sum_zero, sum_balance}
use Rattle.laws.proofs.Lists.{same_is}
use Rattle.laws.proofs.Runs.{sets_append, sets_whole}

module _ (s mark : List ℕ) (long : length mark ≡ 4) where
  -- No word yet.
  pub laid_mark : (t : List ℕ) → t ≡ sets s 0 mark → t ≡ sets s 0 (mark ++ bytes_of [])
  unfolding bytes_of
  laid_mark t e = e ∙ ap (sets s 0) (sym (append-nil mark))

  -- Further words.
  pub laid_next : (xs ys : List ℕ) (k : ℕ) → k ≡ 1 + length xs → sets (sets s 0 (mark ++ bytes_of xs)) (4 * k) (bytes_of ys) ≡ sets s 0 (mark ++ bytes_of (xs ++ ys))
  laid_next xs ys k h =
      let e : 0 + length (mark ++ bytes_of xs) ≡ 4 * k = simp length-append (omega (arith, length_bytes_of xs)) in
      sym (
      ap (λ (l : List ℕ). sets s 0 (mark ++ l)) (bytes_append xs ys)
      ∙ ap (sets s 0) (sym (append_assoc mark (bytes_of xs) (bytes_of ys)))
      ∙ sets_append s 0 (mark ++ bytes_of xs) (bytes_of ys)
      ∙ ap (λ (i : ℕ). sets (sets s 0 (mark ++ bytes_of xs)) i (bytes_of ys)) e
      )

  -- One word more.
  pub laid_word : (xs : List ℕ) (k w : ℕ) (t t' : List ℕ) → k ≡ 1 + length xs → t ≡ sets s 0 (mark ++ bytes_of xs) → t' ≡ sets t (4 * k) (word_bytes w)
      → t' ≡ sets s 0 (mark ++ bytes_of (xs ++ w ∷ []))
  unfolding bytes_of
  laid_word xs k w t t' h e f = f ∙ ap (λ (l : List ℕ). sets l (4 * k) (word_bytes w)) e ∙ laid_next xs (w ∷ []) k h

  -- All of the sector.
  pub laid_whole : (xs : List ℕ) → length s ≡ 4 * (1 + length xs) → sets s 0 (mark ++ bytes_of xs) ≡ mark ++ bytes_of xs
  laid_whole xs h = sets_whole s (mark ++ bytes_of xs) (simp length-append (omega (arith, length_bytes_of xs)))

second : (mark old new rest : List ℕ) → length mark ≡ 4 → length old ≡ 4 → length new ≡ 4 → sets (mark ++ (old ++ rest)) 4 new ≡ mark ++ (new ++ rest)
second mark old new rest p q r =
    let fits : 4 + length new ≤ length (mark ++ (old ++ rest)) = simp length-append (omega arith) in
    let eight : 4 + length new ≡ 8 = omega arith in
    let head : length (mark ++ old) ≡ 8 = simp length-append (omega arith) in
    let back : drop 8 (mark ++ (old ++ rest)) ≡ rest = ap (drop 8) (sym (append_assoc mark old rest)) ∙ drop_at (mark ++ old) rest 8 head in
    rw (sets-eq new (mark ++ (old ++ rest)) 4 fits, take_at mark (old ++ rest) 4 p, eight, back, append_assoc)

-- The balance takes the place of a zero.
pub balanced_is : (mark ws : List ℕ) → length mark ≡ 4 → Words ws
    → sets (mark ++ bytes_of (0 ∷ ws)) 4 (word_bytes (balance (word_sum (words_of (mark ++ bytes_of (0 ∷ ws)))))) ≡ balanced mark ws
unfolding balanced bytes_of
balanced_is mark ws long h =
    let words : words_of (mark ++ bytes_of (0 ∷ ws)) ≡ words_of mark ++ (0 ∷ ws) =
    words_append 1 mark (bytes_of (0 ∷ ws)) long ∙ ap (λ (l : List ℕ). words_of mark ++ l) (words_of_bytes (0 ∷ ws) (all_words (0 ∷ ws) (words_cons 0 ws (omega arith) h))) in
    rw (words, sum_zero) (second mark (word_bytes 0) (word_bytes (balance (word_sum (words_of mark ++ ws)))) (bytes_of ws) long refl refl)

-- The words are laid, and the balance is put in.
pub sealed : (s mark ws laid done : List ℕ) → length mark ≡ 4 → Words ws → length s ≡ 4 * (2 + length ws)
    → laid ≡ sets s 0 (mark ++ bytes_of (0 ∷ ws))
    → done ≡ sets laid 4 (word_bytes (balance (word_sum (words_of laid))))
    → done ≡ balanced mark ws
sealed s mark ws laid done long h size e f =
    let whole : laid ≡ mark ++ bytes_of (0 ∷ ws) = e ∙ laid_whole s mark long (0 ∷ ws) (omega arith) in
    f ∙ ap (λ (l : List ℕ). sets l 4 (word_bytes (balance (word_sum (words_of l))))) whole ∙ balanced_is mark ws long h

-- What a balanced sector is: its length, its mark, its words, and the sum of them.
module _ (mark ws : List ℕ) (long : length mark ≡ 4) where
  pub balanced_length : length (balanced mark ws) ≡ 4 * (2 + length ws)
  unfolding balanced
  balanced_length = simp (length-append, length_bytes_of) (omega arith)

  pub balanced_starts : starts_with mark (balanced mark ws) ≡ true
  unfolding balanced starts_with
  balanced_starts = rw take-append_seam (same_is mark)

  pub balanced_words : Words ws → words_of (balanced mark ws) ≡ words_of mark ++ balance (word_sum (words_of mark ++ ws)) ∷ ws
  unfolding balanced
  balanced_words h =
      let b : ℕ = balance (word_sum (words_of mark ++ ws)) in
      words_append 1 mark (bytes_of (b ∷ ws)) long ∙ ap (λ (l : List ℕ). words_of mark ++ l) (words_of_bytes (b ∷ ws) (all_words (b ∷ ws) (words_cons b ws (omega arith) h)))

  pub balanced_sum : Words ws → word_sum (words_of (balanced mark ws)) ≡ 0
  balanced_sum h = ap word_sum (balanced_words h) ∙ sum_balance (words_of mark) ws
