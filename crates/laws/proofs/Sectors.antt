-- An image after a whole sector was stored: that sector is the one stored, and every other is as it was.
use Prim.Native.Nat.{ℕ, ◌+◌, ◌*◌, ◌-◌, ◌≤◌, ◌<◌}
use mathlib.Core.Path.{◌≡◌, sym, ap, ◌∙◌, fun_ext}
use mathlib.Core.List.{List, ◌++◌, append_assoc}
use native.Mathlib.Omega.{arith}
use lib.ListN.{length, take, drop, length-append, length-take, length-drop, take-append-drop}
use lib.Seq.{length-take-le, take-append-le, drop-append-le, take_at, drop_at, drop-append-add, drop-drop}
use lib.Dec.{eqb, ltb}
use borrow.Author.Tests.{eqb-true, eqb-false, ltb-true, ltb-false}
use Rattle.layout.specs.Bounded.{updated}
use Rattle.volume.specs.Tables.{sector_at}
use Rattle.laws.proofs.Cases.{either}

pub sector_length : (im : List ℕ) (k : ℕ) → 512 * k + 512 ≤ length im → length (sector_at im k) ≡ 512
unfolding sector_at
sector_length im k h = simp (length-take, length-drop) (omega arith)

-- A part that lies in the first of two lists.
part_left : (n i : ℕ) (xs ys : List ℕ) → i + n ≤ length xs → take n (drop i (xs ++ ys)) ≡ take n (drop i xs)
part_left n i xs ys h =
    let start : i ≤ length xs = omega arith in
    let long : n ≤ length (drop i xs) = simp length-drop (omega arith) in
    rw (drop-append-le i xs ys start, take-append-le n (drop i xs) ys long)

module _ (im : List ℕ) (k : ℕ) (b : List ℕ) (room : 512 * k + 512 ≤ length im) (long : length b ≡ 512) where
  -- The image with sector k stored over, as a part that was lent and came back.
  after : List ℕ
  after = take (512 * k) im ++ (b ++ drop 512 (drop (512 * k) im))

  front : length (take (512 * k) im) ≡ 512 * k
  front = length-take-le (512 * k) im (omega arith)

  at_k : sector_at after k ≡ b
  unfolding sector_at after
  at_k = rw (drop_at (take (512 * k) im) (b ++ drop 512 (drop (512 * k) im)) (512 * k) front, take_at b (drop 512 (drop (512 * k) im)) 512 long)

  below : (j : ℕ) → j < k → sector_at after j ≡ sector_at im j
  unfolding sector_at after
  below j h =
      part_left 512 (512 * j) (take (512 * k) im) (b ++ drop 512 (drop (512 * k) im)) (omega (arith, front))
      ∙ sym (part_left 512 (512 * j) (take (512 * k) im) (drop (512 * k) im) (omega (arith, front)))
      ∙ ap (λ (l : List ℕ). take 512 (drop (512 * j) l)) (take-append-drop (512 * k) im)

  above : (j : ℕ) → k < j → sector_at after j ≡ sector_at im j
  unfolding sector_at after
  above j h =
      let m : ℕ = 512 * j - (512 * k + 512) in
      let head : List ℕ = take (512 * k) im ++ b in
      let size : length head ≡ 512 * k + 512 = simp length-append (omega (arith, front)) in
      let start : 512 * j ≡ length head + m = omega arith in
      let same : 512 * k + (512 + m) ≡ 512 * j = omega arith in
      ap (λ (l : List ℕ). take 512 (drop (512 * j) l)) (sym (append_assoc (take (512 * k) im) b (drop 512 (drop (512 * k) im))))
      ∙ ap (λ (i : ℕ). take 512 (drop i (head ++ drop 512 (drop (512 * k) im)))) start
      ∙ ap (take 512) (drop-append-add head (drop 512 (drop (512 * k) im)) m ∙ drop-drop m 512 (drop (512 * k) im) ∙ drop-drop (512 + m) (512 * k) im
      ∙ ap (λ (i : ℕ). drop i im) same)

  other : (j : ℕ) → (j ≡ k → ⊥) → sector_at after j ≡ sector_at im j
  other j h =
      either (ltb j k) (λ e. below j (ltb-true j k e))
      (λ e. let le : k ≤ j = ltb-false j k e in above j (omega arith))

  -- `size` is what the code gives as the part's length.
  pub sector_stored : (size : ℕ) → size ≡ 512 → sector_at (take (512 * k) im ++ (b ++ drop size (drop (512 * k) im))) ≡ updated (sector_at im) k b
  unfolding after
  sector_stored size s = rw s (fun_ext (λ j.
      either {P = sector_at after j ≡ updated (sector_at im) k b j} (eqb j k)
      (λ e. rw e (ap (sector_at after) (eqb-true j k e) ∙ at_k))
      (λ e. rw e (other j (eqb-false j k e)))))

-- The same of a part that was lent: `size` elements from there on, that come back as b.
pub sector_lent : (im : List ℕ) (k size : ℕ) (new b : List ℕ) → 512 * k + 512 ≤ length im → size ≡ 512
    → length new ≡ length (take size (drop (512 * k) im)) → new ≡ b
    → sector_at (take (512 * k) im ++ (new ++ drop size (drop (512 * k) im))) ≡ updated (sector_at im) k b
sector_lent im k size new b room s fit e =
    let whole : length (take 512 (drop (512 * k) im)) ≡ 512 = simp (length-take, length-drop) (omega arith) in
    let long : length new ≡ 512 = fit ∙ ap (λ (n : ℕ). length (take n (drop (512 * k) im))) s ∙ whole in
    sector_stored im k new room long size s ∙ ap (updated (sector_at im) k) e
