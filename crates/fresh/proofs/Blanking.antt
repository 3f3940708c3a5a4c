-- Zeros over the first sectors as one run of bytes are so many stores of a blank sector.
use Prim.Native.Nat.{ℕ, zero, suc, ◌+◌, ◌*◌, ◌-◌, ◌≤◌, ◌<◌}
use mathlib.Core.Path.{◌≡◌, refl, sym, ◌∙◌, ap, subst, fun_ext}
use mathlib.Core.Logic.{⊎_elim}
use mathlib.Core.Bool.{cond}
use mathlib.Core.List.{List, ◌++◌}
use native.Mathlib.Omega.{arith}
use lib.ListN.{length, take, drop, replicate, length-take, length-drop, length-replicate}
use lib.Seq.{ext_get_or, get_or-take, get_or-drop, take-append-le, drop-append-le, drop-append-add, drop-drop}
use lib.Dec.{ltb}
use borrow.Author.Tests.{eq-eqb, ne_eqb, lt-ltb, le-ltb}
use Rattle.layout.specs.Bounded.{always, updated, count_below}
use Rattle.layout.specs.Entry.{blank}
use Rattle.volume.specs.Tables.{sector_at}
use Rattle.volume.specs.Store.{applied, stores_below}
use Rattle.volume.specs.Format.{blank_store}
use Rattle.laws.proofs.Bounded.{lt?, eq?}
use Rattle.laws.proofs.Filling.{zeros_get}
use Rattle.std.specs.Prelude.{Option, Some, None, SomeIff, min}
use Rattle.power.specs.Power.{powered}
use Rattle.power.proofs.Storing.{Storing, storing_starts, storing_stores, storing_fails, storing_ends}

-- Sectors of which the first c are blank.
abbrev pub blanked : ℕ → (ℕ → List ℕ) → ℕ → List ℕ
blanked c image = λ k. cond (ltb k c) blank (image k)

module _ (im : List ℕ) (c : ℕ) (room : 512 * c ≤ length im) where
  front : List ℕ
  front = replicate (512 * c) 0

  long : length front ≡ 512 * c
  unfolding front
  long = length-replicate {A = ℕ} (512 * c) 0

  first : (k : ℕ) → k < c → take 512 (drop (512 * k) (front ++ drop (512 * c) im)) ≡ blank
  unfolding front
  first k h =
      let l = long in
      let start : 512 * k ≤ length front = omega arith in
      let rest : 512 ≤ length (drop (512 * k) front) = simp length-drop (omega arith) in
      ap (take 512) (drop-append-le (512 * k) front (drop (512 * c) im) start)
      ∙ take-append-le 512 (drop (512 * k) front) (drop (512 * c) im) rest
      ∙ ext_get_or 0 (take 512 (drop (512 * k) front)) blank (simp (length-take, length-drop, length-replicate) (omega arith))
      (λ i b.
      let below : i < 512 = (let z : length (take 512 (drop (512 * k) front)) ≡ 512 = simp (length-take, length-drop, length-replicate) (omega arith) in omega arith) in
      get_or-take 512 (drop (512 * k) front) i 0 below ∙ get_or-drop (512 * k) front i 0 ∙ zeros_get (512 * c) (512 * k + i) ∙ sym (zeros_get 512 i))

  later : (k : ℕ) → c ≤ k → take 512 (drop (512 * k) (front ++ drop (512 * c) im)) ≡ take 512 (drop (512 * k) im)
  later k h =
      let l = long in
      let m : ℕ = 512 * k - 512 * c in
      let start : 512 * k ≡ length front + m = omega arith in
      let same : 512 * c + m ≡ 512 * k = omega arith in
      ap (λ (i : ℕ). take 512 (drop i (front ++ drop (512 * c) im))) start
      ∙ ap (take 512) (drop-append-add front (drop (512 * c) im) m ∙ drop-drop m (512 * c) im ∙ ap (λ (i : ℕ). drop i im) same)

  pub first_blanked : (after : List ℕ) → after ≡ replicate (512 * c) 0 ++ drop (512 * c) im → sector_at after ≡ blanked c (sector_at im)
  unfolding sector_at front
  first_blanked after e =
      ap (λ (xs : List ℕ). λ k. take 512 (drop (512 * k) xs)) e
      ∙ fun_ext (λ k.
      ⊎_elim (λ (h : k < c). rw (lt-ltb k c h) (first k h)) (λ (h : c ≤ k). rw (le-ltb k c h) (later k h)) (lt? k c))

-- The same of a part that was lent, the front, which comes back as zeros.
pub lent_blanked : (im new : List ℕ) (c : ℕ) → 512 * c ≤ length im → new ≡ replicate (length (take (512 * c) im)) 0
    → sector_at (new ++ drop (512 * c) im) ≡ blanked c (sector_at im)
lent_blanked im new c room e =
    let whole : length (take (512 * c) im) ≡ 512 * c = simp length-take (omega arith) in
    first_blanked im c room (new ++ drop (512 * c) im) (ap (λ (xs : List ℕ). xs ++ drop (512 * c) im) (e ∙ ap (λ (n : ℕ). replicate n 0) whole))

-- One after the other.
module _ (before : ℕ → List ℕ) (allowance : ℕ) where
  one_more : (c : ℕ) → blanked (suc c) before ≡ updated (blanked c before) c blank
  one_more c =
      fun_ext (λ k.
      ⊎_elim (λ (e : k ≡ c). rw (eq-eqb k c e, lt-ltb k (suc c) (omega arith)) refl)
      (λ (d : k ≡ c → ⊥).
      ⊎_elim (λ (h : k < c). rw (ne_eqb k c d, lt-ltb k c h, lt-ltb k (suc c) (omega arith)) refl)
      (λ (h : c ≤ k). rw (ne_eqb k c d, le-ltb k c h, le-ltb k (suc c) (omega arith)) refl) (lt? k c))
      (eq? k c))

  none : before ≡ blanked 0 before
  none = fun_ext (λ k. sym (rw (le-ltb k 0 (omega arith)) refl))

  stored : (c : ℕ) → c ≤ allowance → Storing always blank_store before allowance c (allowance - c) (blanked c before)
  stored zero h =
      let start = storing_starts always blank_store before allowance in
      let all : allowance ≡ allowance - 0 = omega arith in
      subst (λ (image : ℕ → List ℕ). Storing always blank_store before allowance 0 (allowance - 0) image) none
      (subst (λ (left : ℕ). Storing always blank_store before allowance 0 left before) all start)
  stored (suc c) h =
      let less : allowance - c - 1 ≡ allowance - suc c = omega arith in
      subst (λ (left : ℕ). Storing always blank_store before allowance (suc c) left (blanked (suc c) before)) less
      (storing_stores always blank_store before allowance c (allowance - c) (blanked c before) (blanked (suc c) before) refl (omega arith) (stored c (omega arith)) (one_more c))

  abbrev Done : ℕ → Option ℕ → (ℕ → List ℕ) → Type 0
  Done n p image = (p ≡ powered (count_below always n) allowance) × (image ≡ applied (take allowance (stores_below always blank_store n)) before)

  -- `image` is what the code leaves.
  blank_fails : (n : ℕ) (image : ℕ → List ℕ) → allowance < n → image ≡ blanked allowance before → Done n None image
  blank_fails n image h e =
      let spent : allowance - allowance ≡ 0 = omega arith in
      subst (λ (x : ℕ → List ℕ). Done n None x) (sym e)
      (storing_fails always blank_store before allowance allowance n (blanked allowance before) h refl
      (subst (λ (left : ℕ). Storing always blank_store before allowance allowance left (blanked allowance before)) spent (stored allowance (omega arith))))

  blank_ends : (n : ℕ) (image : ℕ → List ℕ) → n ≤ allowance → image ≡ blanked n before → Done n (Some (allowance - n)) image
  blank_ends n image h e =
      subst (λ (x : ℕ → List ℕ). Done n (Some (allowance - n)) x) (sym e) (storing_ends always blank_store before allowance n (allowance - n) (blanked n before) (stored n h))

  -- As many as are needed, or as the allowance has.
  pub blank_most : (n m : ℕ) (r : Option ℕ) (image : ℕ → List ℕ) → m ≡ min n allowance → SomeIff r (n ≤ allowance) (allowance - n) → image ≡ blanked m before
      → Done n r image
  blank_most n m None image e less i =
      let short : allowance < n = omega (arith, less) in
      let all : m ≡ allowance = omega arith in
      blank_fails n image short (i ∙ ap (λ (c : ℕ). blanked c before) all)
  blank_most n m (Some left) image e w i =
      let enough : n ≤ allowance = w.0 in
      let all : m ≡ n = omega arith in
      subst (λ (x : ℕ). Done n (Some x) image) (sym w.1) (blank_ends n image enough (i ∙ ap (λ (c : ℕ). blanked c before) all))
