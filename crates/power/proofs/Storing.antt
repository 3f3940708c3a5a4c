-- A loop that stores under an allowance, against the list of stores of the definition: at i it has made the stores below i.
use Prim.Native.Nat.{ℕ, zero, suc, ◌+◌, ◌-◌, ◌≤◌, ◌<◌}
use mathlib.Core.Path.{◌≡◌, refl, sym, ◌∙◌, ap, subst}
use mathlib.Core.Logic.{⊎_elim}
use mathlib.Core.Bool.{Bool, true, false}
use mathlib.Core.List.{List, [], ◌∷◌, ◌++◌, append_assoc, append-nil}
use native.Mathlib.Nat.{eq-or-lt_of_le, le_of_suc-le-suc}
use native.Mathlib.Omega.{arith}
use Rattle.std.specs.Prelude.{Some, None}
use lib.ListN.{take}
use lib.Seq.{take_at, take_all}
use borrow.Author.Tests.{lt-ltb, le-ltb}
use Rattle.layout.specs.Bounded.{count_below, updated}
use Rattle.volume.specs.Store.{Store, applied, stores_below}
use Rattle.laws.proofs.Bounded.{bool?, count_hit, count_miss, count_before}
use Rattle.laws.proofs.Stores.{below_hit, below_miss, below_length, applied_append}
use Rattle.power.specs.Power.{powered}

pub positive : (x : ℕ) → (x ≡ 0 → ⊥) → 0 < x
positive zero f = absurd (f refl)
positive (suc x) f = omega arith

-- The stores below i come first in those below n.
below_prefix : (which : ℕ → Bool) (store : ℕ → Store) (i n : ℕ) → i ≤ n
    → (rest : List Store) × (stores_below which store n ≡ stores_below which store i ++ rest)
below_prefix which store i zero h =
    let e : 0 ≡ i = omega arith in
    ([], subst (λ (x : ℕ). stores_below which store 0 ≡ stores_below which store x ++ []) e (sym (append-nil (stores_below which store 0))))
below_prefix which store i (suc n) h =
    ⊎_elim (λ (z : i ≡ suc n).
    ([], subst (λ (x : ℕ). stores_below which store (suc n) ≡ stores_below which store x ++ []) (sym z) (sym (append-nil (stores_below which store (suc n))))))
    (λ (z : i < suc n).
    let r = below_prefix which store i n (le_of_suc-le-suc z) in
    ⊎_elim (λ (y : which n ≡ true). (
      r.0 ++ (store n ∷ []),
      below_hit which store n y ∙ ap (λ (xs : List Store). xs ++ (store n ∷ [])) r.1 ∙ append_assoc (stores_below which store i) r.0 (store n ∷ []),
    ))
    (λ (y : which n ≡ false). (r.0, below_miss which store n y ∙ r.1)) (bool? (which n)))
    (eq-or-lt_of_le h)

module _ (which : ℕ → Bool) (store : ℕ → Store) (before : ℕ → List ℕ) (allowance : ℕ) where
  -- At i, with `left` more allowed.
  pub record Storing (i left : ℕ) (image : ℕ → List ℕ) : Type 0 where
    pub spent : left + count_below which i ≡ allowance
    pub made : image ≡ applied (stores_below which store i) before

  pub storing_starts : Storing 0 allowance before
  unfolding count_below stores_below applied
  storing_starts = record { spent = omega arith; made = refl }

  pub storing_skips : (i left : ℕ) (image : ℕ → List ℕ) → which i ≡ false → Storing i left image → Storing (suc i) left image
  storing_skips i left image e s =
      record {
        spent = rw (count_miss which i e) s.spent;
        made = s.made ∙ ap (λ (xs : List Store). applied xs before) (sym (below_miss which store i e));
      }

  pub storing_stores : (i left : ℕ) (image image' : ℕ → List ℕ) → which i ≡ true → 0 < left → Storing i left image
      → image' ≡ updated image (store i).sector (store i).bytes → Storing (suc i) (left - 1) image'
  unfolding applied
  storing_stores i left image image' e some s u =
      let sp = s.spent in
      record {
        spent = rw (count_hit which i e) (omega arith);
        made = u ∙ ap (λ (f : ℕ → List ℕ). updated f (store i).sector (store i).bytes) s.made
            ∙ sym (applied_append (stores_below which store i) (store i ∷ []) before)
            ∙ ap (λ (xs : List Store). applied xs before) (sym (below_hit which store i e));
      }

  -- A store is due, and none is allowed.
  pub storing_fails : (i n : ℕ) (image : ℕ → List ℕ) → i < n → which i ≡ true → Storing i 0 image
      → (None ≡ powered (count_below which n) allowance) × (image ≡ applied (take allowance (stores_below which store n)) before)
  unfolding powered
  storing_fails i n image h e s =
      let r = below_prefix which store i n (omega arith) in
      let sp = s.spent in
      let len = below_length which store i in
      let more = count_before which i n h e in (
        rw (lt-ltb allowance (count_below which n) (omega arith)) refl,
        s.made
            ∙ ap (λ (xs : List Store). applied xs before)
            (sym (ap (take allowance) r.1 ∙ take_at (stores_below which store i) r.0 allowance (omega arith))),
      )

  -- All were made.
  pub storing_ends : (n left : ℕ) (image : ℕ → List ℕ) → Storing n left image
      → (Some left ≡ powered (count_below which n) allowance) × (image ≡ applied (take allowance (stores_below which store n)) before)
  unfolding powered
  storing_ends n left image s =
      let sp = s.spent in
      let len = below_length which store n in
      let rest : left ≡ allowance - count_below which n = omega arith in (
        rw (le-ltb allowance (count_below which n) (omega arith)) (ap Some rest),
        s.made ∙ ap (λ (xs : List Store). applied xs before) (sym (take_all allowance (stores_below which store n) (omega arith))),
      )
