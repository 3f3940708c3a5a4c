-- Refusal 3, by the tests that led there.
use Prim.Native.Nat.{ℕ, suc, ◌*◌, ◌-◌, ◌/◌, ◌%◌, ◌≤◌, ◌<◌}
use mathlib.Core.Path.{◌≡◌, refl, sym, ◌∙◌}
use mathlib.Core.Logic.{⊎_elim}
use mathlib.Core.Bool.{Bool, true, false, not}
use mathlib.Core.List.{List}
use native.Mathlib.Nat.{div-add-mod}
use native.Mathlib.Omega.{arith}
use lib.ListN.{length}
use lib.Dec.{eqb, ltb}
use borrow.Author.Tests.{eq-eqb, ne_eqb, le-leb, lt-leb, not-true, not-false}
use Rattle.geometry.specs.declared.Geometry.{Geometry}
use Rattle.layout.specs.Bounded.{at, all, all_below}
use Rattle.volume.specs.Calls.{blocks_fit}
use Rattle.laws.proofs.Bounded.{bool?, eq?, clash, all_below_at}

pub odd_bytes : (bytes blocks : ℕ) → (bytes % 512 ≡ 0 → ⊥) → false ≡ eqb bytes (512 * blocks)
odd_bytes bytes blocks d = sym (ne_eqb bytes (512 * blocks) (λ (e : bytes ≡ 512 * blocks). d (omega arith)))

pub whole_bytes : (bytes blocks : ℕ) → bytes % 512 ≡ 0 → eqb (bytes / 512) blocks ≡ eqb bytes (512 * blocks)
whole_bytes bytes blocks e =
    let m = div-add-mod bytes 512 in
    ⊎_elim (λ (z : bytes / 512 ≡ blocks). eq-eqb (bytes / 512) blocks z ∙ sym (eq-eqb bytes (512 * blocks) (omega arith)))
    (λ (z : bytes / 512 ≡ blocks → ⊥). ne_eqb (bytes / 512) blocks z ∙ sym (ne_eqb bytes (512 * blocks) (λ (y : bytes ≡ 512 * blocks). z (omega arith))))
    (eq? (bytes / 512) blocks)

-- Each number below the next.
module _ (blocks : List ℕ) where
  abbrev pub rises : ℕ → Bool
  rises i = ltb (at blocks i) (at blocks (suc i))

  pub rises_not : (i n : ℕ) → i < n → rises i ≡ false → false ≡ all_below rises n
  rises_not i n h k =
      ⊎_elim (λ (e : all_below rises n ≡ true). clash (rises i) (all_below_at rises n e i h) k)
      (λ (e : all_below rises n ≡ false). sym e) (bool? (all_below rises n))

-- The four parts of refusal 3.
module _ (g : Geometry) (head : ℕ) (blocks : List ℕ) where
  pub too_few : length blocks < 1 → false ≡ blocks_fit g head blocks
  unfolding blocks_fit
  too_few h = rw (lt-leb 1 (length blocks) h) refl

  pub too_many : 1 ≤ length blocks → 64 < length blocks → false ≡ blocks_fit g head blocks
  unfolding blocks_fit
  too_many k h = rw (le-leb 1 (length blocks) k, lt-leb (length blocks) 64 h) refl

  module _ (low : 1 ≤ length blocks) (high : length blocks ≤ 64) (b1 : Bool) (f1 : b1 ≡ all_below (rises blocks) (length blocks - 1)) where
    pub not_rising : not b1 ≡ true → false ≡ blocks_fit g head blocks
    unfolding blocks_fit
    not_rising e = rw (le-leb 1 (length blocks) low, le-leb (length blocks) 64 high, sym f1 ∙ not-true b1 e) refl

    module _ (e1 : not b1 ≡ false) (b2 : Bool) (f2 : b2 ≡ all (λ b. ltb b g.l) blocks) where
      pub past_l : not b2 ≡ true → false ≡ blocks_fit g head blocks
      unfolding blocks_fit
      past_l e = rw (le-leb 1 (length blocks) low, le-leb (length blocks) 64 high, sym f1 ∙ not-false b1 e1, sym f2 ∙ not-true b2 e) refl

      pub by_head : not b2 ≡ false → ltb head g.n ≡ blocks_fit g head blocks
      unfolding blocks_fit
      by_head e = rw (le-leb 1 (length blocks) low, le-leb (length blocks) 64 high, sym f1 ∙ not-false b1 e1, sym f2 ∙ not-false b2 e) refl
