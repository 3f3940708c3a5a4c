-- Where a commit goes: for ANY choice that answers a free sector whenever there is one, the places of a commit lie in 1 to
-- N - 1, are free at its start, and are all different. The choice of least delay is such a one, on every drive.
use Prim.Native.Nat.{ℕ, zero, suc, ◌+◌, ◌^◌, ◌≤◌, ◌<◌}
use mathlib.Core.Path.{◌≡◌, refl, sym, ◌∙◌, ap}
use mathlib.Core.Logic.{⊎_elim}
use mathlib.Core.Bool.{Bool, true, false, not, ◌||◌}
use native.Mathlib.Nat.{not-suc-le-zero}
use native.Mathlib.Omega.{arith}
use lib.Dec.{eqb}
use borrow.Author.Tests.{eq-eqb, ne_eqb}
use Rattle.geometry.specs.declared.Drive.{Drive}
use Rattle.geometry.specs.Geometry.{drive_fits}
use Rattle.volume.specs.Tables.{free_sectors}
use Rattle.tracks.specs.Placing.{Choice, delay, least_delay, placed_up_to, place_of}
use Rattle.volume.specs.Rules.{Rules, base}
use Rattle.laws.proofs.Bounded.{bool?, lt?, clash, or_l, or_r, not_of, count_near, count_some, suc_cases}
use Rattle.laws.proofs.Delays.{DriveFits, drive_fits_lem, after_inside, nearest_is}

-- What is asked of a choice of place among n sectors: with sector 0 used and some sector free, it answers a free one; and a search
-- starts below n.
pub record Chooses (n : ℕ) (choice : Choice) : Type 0 where
  pub below : (is_used : ℕ → Bool) (start k : ℕ) → start < n → is_used 0 ≡ true → k < n → is_used k ≡ false
      → (choice.choose n is_used start).sector < n
  pub free : (is_used : ℕ → Bool) (start k : ℕ) → start < n → is_used 0 ≡ true → k < n → is_used k ≡ false
      → is_used (choice.choose n is_used start).sector ≡ false
  pub next : (k : ℕ) → k < n → choice.next n k < n

-- What is asked of the rules: a choice of place for every drive that holds the sectors, and of the limits.
pub record Choosing (rules : Rules) : Type 0 where
  pub places : (n : ℕ) (d : Drive) → drive_fits n d ≡ true → Chooses n (rules.placing d)
  pub some : 1 ≤ rules.branch_limit
  pub few : rules.branch_limit ≤ 24
  pub numbers : rules.greatest + 256 < 2 ^ 32

-- The choice of least delay.
pub least_delay_chooses : (n : ℕ) (d : Drive) → DriveFits n d → Chooses n (least_delay d)
least_delay_chooses n d fit =
    record {
      below = λ is_used start k h u b f. (nearest_is (delay d start) is_used n k b f).below;
      free = λ is_used start k h u b f. (nearest_is (delay d start) is_used n k b f).free;
      next = λ k h. after_inside n d fit k h;
    }

pub base_chooses : Choosing base
base_chooses =
    record {
      places = λ n d e. least_delay_chooses n d (drive_fits_lem n d e);
      some = omega arith;
      few = omega arith;
      numbers = omega arith;
    }

-- The places of one commit that needs `total` sectors, where so many are free.
module _ (choice : Choice) (n : ℕ) (law : Chooses n choice) (is_used : ℕ → Bool) (used0 : is_used 0 ≡ true) (head : ℕ)
    (inside : head < n) (total : ℕ) (room : total ≤ free_sectors n is_used) where
  record Upto (j : ℕ) : Type 0 where
    start : (placed_up_to choice n is_used head j).start < n
    keeps : (k : ℕ) → is_used k ≡ true → (placed_up_to choice n is_used head j).is_used k ≡ true
    taken : (i : ℕ) → i < j → (placed_up_to choice n is_used head j).is_used (place_of choice n is_used head i) ≡ true
    left : free_sectors n is_used ≤ j + free_sectors n (placed_up_to choice n is_used head j).is_used

  some_free : (j : ℕ) → j < total → Upto j → (k : ℕ) × (k < n) × ((placed_up_to choice n is_used head j).is_used k ≡ false)
  unfolding free_sectors
  some_free j h u =
      let w = count_some (λ k. not ((placed_up_to choice n is_used head j).is_used k)) n (let x = u.left in omega arith) in
      (w.0, w.1, not_of ((placed_up_to choice n is_used head j).is_used w.0) w.2)

  here_below : (j : ℕ) → j < total → Upto j → place_of choice n is_used head j < n
  unfolding place_of
  here_below j h u =
      let w = some_free j h u in
      law.below (placed_up_to choice n is_used head j).is_used (placed_up_to choice n is_used head j).start w.0 u.start (u.keeps 0 used0)
      w.1 w.2

  here_free : (j : ℕ) → j < total → Upto j → (placed_up_to choice n is_used head j).is_used (place_of choice n is_used head j) ≡ false
  unfolding place_of
  here_free j h u =
      let w = some_free j h u in
      law.free (placed_up_to choice n is_used head j).is_used (placed_up_to choice n is_used head j).start w.0 u.start (u.keeps 0 used0)
      w.1 w.2

  upto : (j : ℕ) → j ≤ total → Upto j
  unfolding placed_up_to place_of free_sectors
  upto zero h = record { start = inside; keeps = λ k e. e; taken = λ i b. absurd (not-suc-le-zero b); left = omega arith }
  upto (suc j) h =
      let u = upto j (omega arith) in
      let here = here_below j h u in
      let before = placed_up_to choice n is_used head j in
      let k = place_of choice n is_used head j in
      let near = count_near (λ q. not (before.is_used q)) (λ q. not (before.is_used q || eqb q k)) n k
      (λ q (d : q ≡ k → ⊥).
      ⊎_elim (λ (z : before.is_used q ≡ true). rw z refl) (λ (z : before.is_used q ≡ false). rw (z, ne_eqb q k d) refl)
      (bool? (before.is_used q))) in
      record {
        start = law.next k here;
        keeps = λ q e. or_l (before.is_used q) (eqb q k) (u.keeps q e);
        taken = λ i b.
            ⊎_elim (λ (z : i ≡ j).
            or_r (before.is_used (place_of choice n is_used head i)) (eqb (place_of choice n is_used head i) k)
            (eq-eqb (place_of choice n is_used head i) k (ap (place_of choice n is_used head) z)))
            (λ (z : i < j).
            or_l (before.is_used (place_of choice n is_used head i)) (eqb (place_of choice n is_used head i) k) (u.taken i z))
            (suc_cases b);
        left = let x = u.left in omega arith;
      }

  -- Before each search: it starts below n, sector 0 is used, and some sector is free.
  pub start_below : (j : ℕ) → j ≤ total → (placed_up_to choice n is_used head j).start < n
  start_below j h = (upto j h).start

  pub zero_kept : (j : ℕ) → j ≤ total → (placed_up_to choice n is_used head j).is_used 0 ≡ true
  zero_kept j h = (upto j h).keeps 0 used0

  pub free_left : (j : ℕ) → j < total → (k : ℕ) × (k < n) × ((placed_up_to choice n is_used head j).is_used k ≡ false)
  free_left j h = some_free j h (upto j (omega arith))

  pub place_below : (j : ℕ) → j < total → place_of choice n is_used head j < n
  place_below j h = here_below j h (upto j (omega arith))

  pub place_free : (j : ℕ) → j < total → is_used (place_of choice n is_used head j) ≡ false
  place_free j h =
      let u = upto j (omega arith) in
      let k = place_of choice n is_used head j in
      ⊎_elim (λ (z : is_used k ≡ true). clash ((placed_up_to choice n is_used head j).is_used k) (u.keeps k z) (here_free j h u)) (λ z. z)
      (bool? (is_used k))

  pub place_low : (j : ℕ) → j < total → 1 ≤ place_of choice n is_used head j
  place_low j h =
      ⊎_elim (λ (z : 0 < place_of choice n is_used head j). z)
      (λ (z : place_of choice n is_used head j ≤ 0).
      let e : place_of choice n is_used head j ≡ 0 = omega arith in
      clash (is_used 0) used0 (ap is_used (sym e) ∙ place_free j h))
      (lt? 0 (place_of choice n is_used head j))

  pub place_apart : (i j : ℕ) → i < j → j < total → place_of choice n is_used head i ≡ place_of choice n is_used head j → ⊥
  place_apart i j b h e =
      let u = upto j (omega arith) in
      clash ((placed_up_to choice n is_used head j).is_used (place_of choice n is_used head j)) (rw e at (u.taken i b)) (here_free j h u)
