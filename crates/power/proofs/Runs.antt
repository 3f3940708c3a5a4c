-- How a run of stores ended, read back from its answer; and two runs, one after the other.
use Prim.Native.Nat.{ℕ, ◌+◌, ◌-◌, ◌≤◌, ◌<◌}
use mathlib.Core.Path.{◌≡◌, refl, sym, ◌∙◌, ap}
use mathlib.Core.Logic.{⊎_elim}
use Rattle.std.specs.Prelude.{Option, Some, None}
use mathlib.Core.List.{List, ◌++◌}
use native.Mathlib.Omega.{arith}
use lib.ListN.{length, take, length-append}
use lib.Seq.{take_all, take-append-le, take-append-add}
use borrow.Author.Tests.{lt-ltb, le-ltb}
use Rattle.volume.specs.Store.{Store, applied}
use Rattle.laws.proofs.Bounded.{lt?}
use Rattle.laws.proofs.Stores.{applied_append}
use Rattle.power.specs.Power.{powered}

fails : (needed allowance : ℕ) → allowance < needed → powered needed allowance ≡ None
unfolding powered
fails needed allowance h = rw (lt-ltb allowance needed h) refl

leaves : (needed allowance : ℕ) → needed ≤ allowance → powered needed allowance ≡ Some (allowance - needed)
unfolding powered
leaves needed allowance h = rw (le-ltb allowance needed h) refl

pub failed_short : (needed allowance : ℕ) → None ≡ powered needed allowance → allowance < needed
failed_short needed allowance e =
    ⊎_elim (λ (h : allowance < needed). h)
    (λ (h : needed ≤ allowance). let q = leaves needed allowance h in cc)
    (lt? allowance needed)

-- All were made, and the count of them is what the allowance fell by.
pub left_enough : (needed allowance left : ℕ) → Some left ≡ powered needed allowance → needed + left ≡ allowance
left_enough needed allowance left e =
    ⊎_elim (λ (h : allowance < needed). let q = fails needed allowance h in cc)
    (λ (h : needed ≤ allowance). let q = leaves needed allowance h in let r : left ≡ allowance - needed = cc in omega arith)
    (lt? allowance needed)

-- Two lists of stores, made one after the other.
module _ (xs ys : List Store) (before image : ℕ → List ℕ) (allowance : ℕ) where
  -- The power failed in the first.
  pub first_fails : None ≡ powered (length xs) allowance → image ≡ applied (take allowance xs) before
      → (None ≡ powered (length (xs ++ ys)) allowance) × (image ≡ applied (take allowance (xs ++ ys)) before)
  first_fails e i =
      let short = failed_short (length xs) allowance e in
      let n = length-append xs ys in (
        sym (fails (length (xs ++ ys)) allowance (omega arith)),
        i ∙ ap (λ (zs : List Store). applied zs before) (sym (take-append-le allowance xs ys (omega arith))),
      )

  -- The second had what was left.
  pub second_runs : (left : ℕ) (mid : ℕ → List ℕ) (p : Option ℕ) → Some left ≡ powered (length xs) allowance → mid ≡ applied (take allowance xs) before
      → p ≡ powered (length ys) left → image ≡ applied (take left ys) mid
      → (p ≡ powered (length (xs ++ ys)) allowance) × (image ≡ applied (take allowance (xs ++ ys)) before)
  unfolding powered
  second_runs left mid p e m f i =
      let enough = left_enough (length xs) allowance left e in
      let n = length-append xs ys in
      let whole : take allowance xs ≡ xs = take_all allowance xs (omega arith) in (
        f ∙ ⊎_elim (λ (h : left < length ys). fails (length ys) left h ∙ sym (fails (length (xs ++ ys)) allowance (omega arith)))
            (λ (h : length ys ≤ left).
            leaves (length ys) left h ∙ ap Some (let q : left - length ys ≡ allowance - length (xs ++ ys) = omega arith in q)
            ∙ sym (leaves (length (xs ++ ys)) allowance (omega arith))) (lt? left (length ys)),
        i ∙ ap (applied (take left ys)) (m ∙ ap (λ (zs : List Store). applied zs before) whole) ∙ sym (applied_append xs (take left ys) before)
            ∙ ap (λ (zs : List Store). applied zs before) (sym (take-append-add xs ys left) ∙ ap (λ (k : ℕ). take k (xs ++ ys)) enough),
      )
