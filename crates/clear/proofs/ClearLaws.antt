-- Sector 0 zeroed, or left as it is; and the stores of a recovery in two parts.
use Prim.Native.Nat.{ℕ, zero, suc, ◌-◌, ◌/◌, ◌%◌, ◌^◌, ◌≤◌, ◌<◌}
use mathlib.Core.Path.{◌≡◌, refl, sym, ◌∙◌, ap}
use mathlib.Core.Logic.{⊎_elim}
use mathlib.Core.Bool.{Bool, true, false, ◌||◌}
use mathlib.Core.List.{List, [], ◌∷◌, ◌++◌}
use native.Mathlib.Nat.{zero-div}
use native.Mathlib.Omega.{arith}
use lib.ListN.{length, take}
use lib.Dec.{eqb}
use borrow.Author.Tests.{le-ltb, eqb-true}
use Rattle.layout.specs.Bounded.{at, all, is_zero, updated, count_below}
use Rattle.layout.specs.Entry.{blank}
use Rattle.volume.specs.Store.{Store, applied, stores_below}
use Rattle.volume.specs.Format.{blank_store}
use Rattle.volume.specs.Recover.{park_sector_cleared, is_blank}
use Rattle.std.specs.Prelude.{Option, Some, None}
use Rattle.power.specs.Power.{powered}
use Rattle.volume.specs.Tables.{bit_at}
use Rattle.laws.proofs.Bounded.{lt?, all_at, past_end}
use Rattle.laws.proofs.Stores.{below_length}
use Rattle.power.proofs.Storing.{Storing, storing_starts, storing_skips}
use Rattle.power.proofs.Runs.{first_fails, second_runs}

module _ (done : Bool) (allowance : ℕ) (before : ℕ → List ℕ) where
  abbrev pub Cleared : Option ℕ → (ℕ → List ℕ) → Type 0
  Cleared r image = (r ≡ powered (length (park_sector_cleared done)) allowance) × (image ≡ applied (take allowance (park_sector_cleared done)) before)

take_none : {A : Type 0} (n : ℕ) → ◌≡◌ {A = List A} (take n []) []
take_none zero = refl
take_none (suc n) = refl

pub park_done : (done : Bool) (allowance : ℕ) (before : ℕ → List ℕ) → done ≡ true → Cleared done allowance before (Some allowance) before
unfolding powered applied
park_done done allowance before e =
    rw e (rw (le-ltb allowance 0 (omega arith)) (ap Some (let z : allowance ≡ allowance - 0 = omega arith in z)), ap (λ (xs : List Store). applied xs before) (sym (take_none allowance)))

pub park_fails : (done : Bool) (allowance : ℕ) (before : ℕ → List ℕ) (r : Option ℕ) → done ≡ false → (1 ≤ allowance → ⊥) → r ≡ None → Cleared done allowance before r before
unfolding powered applied
park_fails done allowance before r e f g =
    let z : allowance ≡ 0 = omega arith in
    rw (e, z) (g, refl)

pub park_clears : (done : Bool) (allowance : ℕ) (before image : ℕ → List ℕ) (left : ℕ) → done ≡ false → (1 ≤ allowance) × (left ≡ allowance - 1)
    → image ≡ updated before 0 blank → Cleared done allowance before (Some left) image
unfolding powered applied
park_clears done zero before image left e f u = absurd (omega (arith, f.0))
park_clears done (suc allowance) before image left e f u = rw e (
  ap Some f.1 ∙ sym (rw (le-ltb (suc allowance) 1 (omega arith)) refl),
  u ∙ ap (λ (xs : List Store). applied (blank_store 0 ∷ xs) before) (sym (take_none allowance)),
)

-- Sector 0 needs no store of its own.
pub done_blank : (blank marked done : Bool) (sector0 : List ℕ) (bit : Bool) → blank ≡ is_blank sector0 → blank ≡ true → done ≡ true → done ≡ (is_blank sector0 || bit)
done_blank blank marked done sector0 bit e b d = d ∙ rw (sym e ∙ b) refl

pub done_marked : (blank marked done : Bool) (sector0 : List ℕ) (bit : Bool) → blank ≡ is_blank sector0 → blank ≡ false → done ≡ marked → marked ≡ bit
    → done ≡ (is_blank sector0 || bit)
done_marked blank marked done sector0 bit e b d m = d ∙ m ∙ rw (sym e ∙ b) refl

module _ (n allowance : ℕ) (bits : ℕ → Bool) (before image : ℕ → List ℕ) (done over : Bool) (same : done ≡ over) where
  abbrev first : List Store
  first = stores_below bits blank_store n

  pub clear_fails : (p : Option ℕ) → p ≡ powered (count_below bits n) allowance → (r : Option ℕ) → p ≡ None → r ≡ None → image ≡ applied (take allowance first) before
      → (r ≡ powered (length (first ++ park_sector_cleared over)) allowance) × (image ≡ applied (take allowance (first ++ park_sector_cleared over)) before)
  clear_fails p e r f g i =
      let both = first_fails first (park_sector_cleared over) before image allowance (sym f ∙ e ∙ ap (λ (k : ℕ). powered k allowance) (sym (below_length bits blank_store n))) i in
      (g ∙ both.0, both.1)

  pub clear_runs : (mid : ℕ → List ℕ) (left : ℕ) (p : Option ℕ) → Some left ≡ powered (count_below bits n) allowance → mid ≡ applied (take allowance first) before
      → p ≡ powered (length (park_sector_cleared done)) left → image ≡ applied (take left (park_sector_cleared done)) mid
      → (p ≡ powered (length (first ++ park_sector_cleared over)) allowance) × (image ≡ applied (take allowance (first ++ park_sector_cleared over)) before)
  clear_runs mid left p e m f i =
      second_runs first (park_sector_cleared over) before image allowance left mid p
      (e ∙ ap (λ (k : ℕ). powered k allowance) (sym (below_length bits blank_store n))) m
      (f ∙ ap (λ (b : Bool). powered (length (park_sector_cleared b)) left) same)
      (i ∙ ap (λ (b : Bool). applied (take left (park_sector_cleared b)) mid) same)

-- No bit is set, and no store is due.
pub none_marked : (above : List ℕ) → all is_zero above ≡ true → (k : ℕ) → bit_at above k ≡ false
unfolding bit_at
none_marked above e k =
    ap (λ (x : ℕ). eqb (x / 2 ^ (k % 8) % 2) 1)
    (⊎_elim (λ (h : k / 8 < length above). eqb-true (at above (k / 8)) 0 (all_at is_zero above (k / 8) e h))
    (λ (h : length above ≤ k / 8). sym (past_end above (k / 8) h)) (lt? (k / 8) (length above)))
    ∙ ap (λ (x : ℕ). eqb (x % 2) 1) (zero-div (2 ^ (k % 8)))

pub storing_none : (which : ℕ → Bool) (store : ℕ → Store) (before : ℕ → List ℕ) (allowance : ℕ) → ((k : ℕ) → which k ≡ false) → (n : ℕ)
    → Storing which store before allowance n allowance before
storing_none which store before allowance none zero = storing_starts which store before allowance
storing_none which store before allowance none (suc n) =
    storing_skips which store before allowance n allowance before (none n) (storing_none which store before allowance none n)
