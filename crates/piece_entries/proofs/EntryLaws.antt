-- The entries of a piece as they are put into a sector: the words that the map has, then the new ones one at a time.
use Prim.Native.Nat.{ℕ, zero, suc, ◌+◌, ◌*◌, ◌-◌, ◌^◌, ◌≤◌, ◌<◌}
use mathlib.Core.Path.{◌≡◌, refl, sym, ◌∙◌, ap, subst}
use mathlib.Core.Logic.{⊎_elim}
use mathlib.Core.Bool.{cond}
use mathlib.Core.List.{List, [], ◌∷◌, ◌++◌, append-nil}
use native.Mathlib.Nat.{add-zero, zero-add, suc-add, sub-zero, not-suc-le-zero, le_of_suc-le-suc}
use native.Mathlib.Numerals.{add-one}
use native.Mathlib.Omega.{arith}
use lib.ListN.{length, take, drop, replicate, set, length-drop}
use Rattle.std.proofs.Common.{min}
use lib.Seq.{sets, length-take-le, drop-cons}
use lib.Dec.{leb}
use borrow.Author.Tests.{eq-eqb, ne_eqb, le-leb, lt-leb}
use Rattle.layout.specs.Bounded.{at, list_from, updated, updates}
use Rattle.layout.specs.Word.{word_bytes, bytes_of}
use Rattle.volume.specs.Tables.{piece_entries}
use Rattle.piece_entries.specs.Cursor.{Cursor}
use Rattle.laws.proofs.Bounded.{lt?, eq?, list_from_same, updated_here, updated_other, length_list_from, past_end}
use Rattle.laws.proofs.Filling.{zeros}
use Rattle.laws.proofs.Runs.{sets_again}
use Rattle.laws.proofs.Words.{Words, words_nil, words_cons, put_inside, length_bytes_of}

-- A part of a list, and a list made in two parts.
part_listed : (xs : List ℕ) (from n : ℕ) → from + n ≤ length xs → take n (drop from xs) ≡ list_from (at xs) from n
unfolding list_from
part_listed xs from zero h = refl
part_listed xs from (suc n) h =
    ap (take (suc n)) (drop-cons xs from 0 (omega arith)) ∙ ap (λ (ys : List ℕ). at xs from ∷ ys) (part_listed xs (suc from) n (omega arith))

listed_parts : (f : ℕ → ℕ) (from m n : ℕ) → list_from f from (m + n) ≡ list_from f from m ++ list_from f (from + m) n
unfolding list_from
listed_parts f from zero n = rw (zero-add, add-zero)
listed_parts f from (suc m) n =
    rw suc-add
    (ap (λ (ys : List ℕ). f from ∷ ys)
    (listed_parts f (suc from) m n ∙ ap (λ (k : ℕ). list_from f (suc from) m ++ list_from f k n) (let e : suc from + m ≡ from + suc m = omega arith in e)))

listed_past : (xs : List ℕ) (from n : ℕ) → length xs ≤ from → list_from (at xs) from n ≡ replicate n 0
listed_past xs from n h = list_from_same (at xs) (λ _. 0) from n (λ k a b. sym (past_end xs k (omega arith))) ∙ zeros from n

pub held_length : (xs : List ℕ) (start end : ℕ) → start ≤ end → end ≤ length xs → length (take (end - start) (drop start xs)) ≡ end - start
held_length xs start end h k = length-take-le (end - start) (drop start xs) (simp length-drop (omega arith))

-- The n words of a map from `from` on: those that it has, then zeros.
module _ (map : List ℕ) (from n start end : ℕ) (first : start ≡ min from (length map)) (last : end ≡ min (from + n) (length map)) where
  pub listed : take (end - start) (drop start map) ++ replicate (n - (end - start)) 0 ≡ list_from (at map) from n
  listed =
      ⊎_elim (λ (z : from < length map).
      let s : start ≡ from = omega arith in
      ⊎_elim (λ (y : from + n < length map).
      let e : end ≡ from + n = omega arith in
      let all_held : end - start ≡ n = omega arith in
      let none_left : n - n ≡ 0 = omega arith in
      rw (all_held, none_left, s) (append-nil (take n (drop from map)) ∙ part_listed map from n (omega arith)))
      (λ (y : length map ≤ from + n).
      let e : end ≡ length map = omega arith in
      let m : ℕ = end - start in
      let all-is : m + (n - m) ≡ n = omega arith in
      ap (λ (k : ℕ). take m (drop k map) ++ replicate (n - m) 0) s
      ∙ ap (λ (ys : List ℕ). ys ++ replicate (n - m) 0) (part_listed map from m (omega arith))
      ∙ ap (λ (ys : List ℕ). list_from (at map) from m ++ ys) (sym (listed_past map (from + m) (n - m) (omega arith)))
      ∙ sym (listed_parts (at map) from m (n - m))
      ∙ ap (list_from (at map) from) all-is) (lt? (from + n) (length map)))
      (λ (z : length map ≤ from).
      let s : start ≡ length map = omega arith in
      let e : end ≡ length map = omega arith in
      let none-held : end - start ≡ 0 = omega arith in
      rw (none-held, sub-zero) (sym (listed_past map from n z))) (lt? from (length map))

-- The map's words are the entries of a piece, whatever the blocks beyond the map.
pub piece_listed : (map : List ℕ) (l p : ℕ) → length map ≤ l → list_from (at map) (96 * p) 96 ≡ piece_entries l (at map) p
unfolding piece_entries
piece_listed map l p h =
    list_from_same (at map) (λ b. cond (leb l b) 0 (at map b)) (96 * p) 96 (λ k a b.
    ⊎_elim (λ (z : k < l). rw (lt-leb l k z) refl)
    (λ (z : l ≤ k). rw (le-leb l k z) (sym (past_end map k (omega arith)))) (lt? k l))

-- The entries of a piece of an empty map.
pub piece_blank : (l p : ℕ) → piece_entries l (at []) p ≡ replicate 96 0
piece_blank l p = sym (piece_listed [] l p (omega arith)) ∙ listed_past [] (96 * p) 96 (omega arith)

set_listed : (g : ℕ → ℕ) (from n i v : ℕ) → i < n → set (list_from g from n) i v ≡ list_from (updated g (from + i) v) from n
unfolding list_from
set_listed g from zero i v h = absurd (not-suc-le-zero h)
set_listed g from (suc n) zero v h =
    ap (λ (xs : List ℕ). v ∷ xs)
    (list_from_same g (updated g (from + 0) v) (suc from) n (λ k a b. sym (updated_other g (from + 0) k v (λ (z : k ≡ from + 0). omega arith))))
    ∙ ap (λ (x : ℕ). x ∷ list_from (updated g (from + 0) v) (suc from) n)
    (sym (updated_here g (from + 0) v) ∙ ap (updated g (from + 0) v) (let e : from + 0 ≡ from = omega arith in e))
set_listed g from (suc n) (suc i) v h =
    ap (λ (xs : List ℕ). g from ∷ xs)
    (set_listed g (suc from) n i v (le_of_suc-le-suc h)
    ∙ ap (λ (x : ℕ). list_from (updated g x v) (suc from) n) (let e : suc from + i ≡ from + suc i = omega arith in e))
    ∙ ap (λ (x : ℕ). x ∷ list_from (updated g (from + suc i) v) (suc from) n)
    (sym (updated_other g (from + suc i) from v (λ (z : from ≡ from + suc i). omega arith)))

-- The new entry of a block of this piece.
pub entry_put : (l b v p : ℕ) (f : ℕ → ℕ) (xs : List ℕ) → 96 * p ≤ b → b < 96 * p + 96 → b < l → xs ≡ piece_entries l f p
    → set xs (b - 96 * p) v ≡ piece_entries l (updated f b v) p
unfolding piece_entries
entry_put l b v p f xs low high h q =
    let here : 96 * p + (b - 96 * p) ≡ b = omega arith in
    ap (λ (ys : List ℕ). set ys (b - 96 * p) v) q
    ∙ set_listed (λ k. cond (leb l k) 0 (f k)) (96 * p) 96 (b - 96 * p) v (omega arith)
    ∙ ap (λ (x : ℕ). list_from (updated (λ k. cond (leb l k) 0 (f k)) x v) (96 * p) 96) here
    ∙ list_from_same (updated (λ k. cond (leb l k) 0 (f k)) b v) (λ k. cond (leb l k) 0 (updated f b v k)) (96 * p) 96 (λ k a c.
    ⊎_elim (λ (z : k ≡ b). rw (eq-eqb k b z, lt-leb l k (omega arith)) refl) (λ (z : k ≡ b → ⊥). rw (ne_eqb k b z) refl) (eq? k b))

-- Only what stands in a piece counts for its entries.
same_piece : (l p : ℕ) (f g : ℕ → ℕ) → ((k : ℕ) → 96 * p ≤ k → k < 96 * p + 96 → f k ≡ g k) → piece_entries l f p ≡ piece_entries l g p
unfolding piece_entries
same_piece l p f g same =
    list_from_same (λ k. cond (leb l k) 0 (f k)) (λ k. cond (leb l k) 0 (g k)) (96 * p) 96 (λ k h b.
    ap (λ (x : ℕ). cond (leb l k) 0 x) (same k (omega arith) (omega arith)))

-- Changes from i on that are all elsewhere.
updates_rest : (f place value : ℕ → ℕ) (i n k : ℕ) → i ≤ n → ((j : ℕ) → i ≤ j → j < n → place j ≡ k → ⊥)
    → updates f place value i k ≡ updates f place value n k
unfolding updates
updates_rest f place value i zero k h d = ap (λ (x : ℕ). updates f place value x k) (let e : i ≡ 0 = omega arith in e)
updates_rest f place value i (suc n) k h d =
    ⊎_elim (λ (z : i < suc n).
    updates_rest f place value i n k (omega arith) (λ j a b. d j a (omega arith))
    ∙ sym (updated_other (updates f place value n) (place n) k (value n) (λ (e : k ≡ place n). d n (omega arith) (omega arith) (sym e))))
    (λ (z : suc n ≤ i). ap (λ (x : ℕ). updates f place value x k) (let e : i ≡ suc n = omega arith in e)) (lt? i (suc n))

pub piece_length : (l p : ℕ) (f : ℕ → ℕ) → length (piece_entries l f p) ≡ 96
unfolding piece_entries
piece_length l p f = length_list_from (λ k. cond (leb l k) 0 (f k)) (96 * p) 96

-- The entries of a piece are words.
changed_bounded : (f place value : ℕ → ℕ) (n k : ℕ) → ((j : ℕ) → f j < 2 ^ 32) → ((j : ℕ) → value j < 2 ^ 32) → updates f place value n k < 2 ^ 32
unfolding updates
changed_bounded f place value zero k hf hv = hf k
changed_bounded f place value (suc n) k hf hv =
    ⊎_elim (λ (z : k ≡ place n). rw (eq-eqb k (place n) z) (hv n))
    (λ (z : k ≡ place n → ⊥). rw (ne_eqb k (place n) z) (changed_bounded f place value n k hf hv)) (eq? k (place n))

listed_words : (f : ℕ → ℕ) (from n : ℕ) → ((j : ℕ) → f j < 2 ^ 32) → Words (list_from f from n)
unfolding list_from
listed_words f from zero h = words_nil
listed_words f from (suc n) h = words_cons (f from) (list_from f (suc from) n) (h from) (listed_words f (suc from) n h)

pub piece_words_lem : (l p n : ℕ) (map blocks news : List ℕ) → Words map → Words news → Words (piece_entries l (updates (at map) (at blocks) (at news) n) p)
unfolding piece_entries
piece_words_lem l p n map blocks news hm hn =
    listed_words (λ k. cond (leb l k) 0 (updates (at map) (at blocks) (at news) n k)) (96 * p) 96 (λ k.
    ⊎_elim (λ (z : k < l). rw (lt-leb l k z) (changed_bounded (at map) (at blocks) (at news) n k hm hn))
    (λ (z : l ≤ k). rw (le-leb l k z) (omega arith)) (lt? k l))

-- The changes of the blocks before i are in; none from i on is of a lower piece, none before i of a higher one.
pub record Changing (l p : ℕ) (map blocks news s₀ : List ℕ) (i : ℕ) (s : List ℕ) : Type 0 where
  pub ascending : (j k : ℕ) → j < k → k < length blocks → at blocks j < at blocks k
  pub most : i ≤ length blocks
  pub behind : (j : ℕ) → j < i → at blocks j < 96 * p + 96
  pub ahead : (j : ℕ) → i ≤ j → j < length blocks → 96 * p ≤ at blocks j
  pub are : s ≡ sets s₀ 128 (bytes_of (piece_entries l (updates (at map) (at blocks) (at news) i) p))

module _ (l p : ℕ) (map blocks news s₀ : List ℕ) where
  abbrev changed : ℕ → ℕ → ℕ
  changed i = updates (at map) (at blocks) (at news) i

  abbrev put : List ℕ → List ℕ
  put entries = sets s₀ 128 (bytes_of entries)

  -- The entries are put where those of the map were.
  over : (s : List ℕ) (i : ℕ) → s₀ ≡ sets s 128 (bytes_of (list_from (at map) (96 * p) 96)) → put (piece_entries l (changed i) p) ≡ sets s 128 (bytes_of (piece_entries l (changed i) p))
  over s i e =
      let old : List ℕ = list_from (at map) (96 * p) 96 in
      let new : List ℕ = piece_entries l (changed i) p in
      ap (λ (t : List ℕ). sets t 128 (bytes_of new)) e
      ∙ sets_again s 128 (bytes_of old) (bytes_of new) (omega (arith, length_bytes_of old, length_bytes_of new, length_list_from (at map) (96 * p) 96, piece_length l p (changed i)))

  -- The blocks behind the cursor are of lower pieces.
  pub changing_starts : (from : ℕ) (s : List ℕ) → length map ≤ l → Cursor blocks p from → s₀ ≡ sets s 128 (bytes_of (list_from (at map) (96 * p) 96))
      → Changing l p map blocks news s₀ from s₀
  unfolding updates
  changing_starts from s h c e =
      record {
        ascending = c.ascending;
        most = c.most;
        behind = λ j h. let q = c.behind j h in omega arith;
        ahead = c.ahead;
        are = e
            ∙ ap (λ (ws : List ℕ). sets s 128 (bytes_of ws)) (piece_listed map l p h
            ∙ same_piece l p (changed 0) (changed from) (λ k low high.
            updates_rest (at map) (at blocks) (at news) 0 from k (omega arith) (λ j a b z. let q = c.behind j b in omega arith)))
            ∙ sym (over s from e);
      }

  module _ (i : ℕ) (s : List ℕ) (c : Changing l p map blocks news s₀ i s) where
    pub changing_goes : (s' : List ℕ) → i < length blocks → at blocks i < 96 * p + 96 → at blocks i < l
        → s' ≡ sets s (4 * (32 + (at blocks i - 96 * p))) (word_bytes (at news i))
        → Changing l p map blocks news s₀ (i + 1) s'
    unfolding updates
    changing_goes s' h high inside e =
        let here : ℕ = at blocks i - 96 * p in
        let low : 96 * p ≤ at blocks i = c.ahead i (omega arith) h in
        let old : List ℕ = piece_entries l (changed i) p in
        record {
          ascending = c.ascending;
          most = omega arith;
          behind = λ j b.
              ⊎_elim (λ (z : j < i). c.behind j z)
              (λ (z : i ≤ j). subst (λ (x : ℕ). at blocks x < 96 * p + 96) (let e : i ≡ j = omega arith in e) high) (lt? j i);
          ahead = λ j b. c.ahead j (omega arith);
          are = rw add-one
              (e
              ∙ ap (λ (t : List ℕ). sets t (4 * (32 + here)) (word_bytes (at news i))) c.are
              ∙ put_inside s₀ 32 old here (at news i) (omega (arith, piece_length l p (changed i)))
              ∙ ap put (entry_put l (at blocks i) (at news i) p (changed i) old low high inside refl));
        }

    -- No block from i on is of this piece.
    pub changing_ends : (t : List ℕ) → s₀ ≡ sets t 128 (bytes_of (list_from (at map) (96 * p) 96)) → (i < length blocks → 96 * p + 96 ≤ at blocks i)
        → Cursor blocks (p + 1) i × (s ≡ sets t 128 (bytes_of (piece_entries l (changed (length blocks)) p)))
    changing_ends t e high =
        let past : (j : ℕ) → i ≤ j → j < length blocks → 96 * p + 96 ≤ at blocks j = λ j h b.
        let here = high (omega arith) in
        ⊎_elim (λ (z : i < j). let q = c.ascending i j z b in omega arith)
        (λ (z : j ≤ i). subst (λ (x : ℕ). 96 * p + 96 ≤ at blocks x) (let e : i ≡ j = omega arith in e) here) (lt? i j) in (
          record {
            ascending = c.ascending;
            most = c.most;
            behind = λ j h. let q = c.behind j h in omega arith;
            ahead = λ j h b. let q = past j h b in omega arith;
          },
          c.are ∙ ap put (same_piece l p (changed i) (changed (length blocks)) (λ k low high.
              updates_rest (at map) (at blocks) (at news) i (length blocks) k c.most (λ j a b z. let q = past j a b in omega arith)))
              ∙ over t (length blocks) e,
        )
