-- That no sector is named twice, by counting: the names and sector 0 then take as many sectors as they are.
use Rattle.std.proofs.Common.{◌≡◌, ℕ, zero, suc, ◌+◌, ◌-◌, ◌<◌, ◌≤◌, Bool, true, false, not, ◌||◌, eqb, leb, List, [], ◌∷◌, length, sym, refl, ap, ◌∙◌, ⊎_elim, arith, eq-eqb, ne_eqb, leb-true}
use Rattle.geometry.specs.Geometry.{within}
use Rattle.layout.specs.Bounded.{all, elem, distinct, count_below}
use Rattle.volume.specs.Tables.{used_by, free_sectors}
use Rattle.laws.proofs.Bounded.{bool?, eq?, and_l, and_r, count_hit, count_miss, count_same}

-- One that passes, and passes no more.
one_fewer : (f g : ℕ → Bool) (x n : ℕ) → x < n → f x ≡ true → g x ≡ false → ((k : ℕ) → (k ≡ x → ⊥) → f k ≡ g k) → count_below f n ≡ suc (count_below g n)
one_fewer f g x zero h p q e = absurd (omega arith)
one_fewer f g x (suc n) h p q e =
    ⊎_elim (λ (z : n ≡ x).
    let hit = count_hit f n (ap f z ∙ p) in
    let miss = count_miss g n (ap g z ∙ q) in
    let rest = count_same f g n (λ k b. e k (λ (y : k ≡ x). omega arith)) in
    omega arith)
    (λ (d : n ≡ x → ⊥).
    let before = one_fewer f g x n (omega arith) p q e in
    ⊎_elim (λ (z : f n ≡ true).
    let hit = count_hit f n z in
    let other = count_hit g n (sym (e n d) ∙ z) in
    omega arith)
    (λ (z : f n ≡ false).
    let miss = count_miss f n z in
    let other = count_miss g n (sym (e n d) ∙ z) in
    omega arith)
    (bool? (f n)))
    (eq? n x)

module _ (n : ℕ) (some : 1 ≤ n) where
  abbrev Free : List ℕ → ℕ → Bool
  Free xs k = not (used_by xs k)

  none_used : count_below (Free []) n + 1 ≡ n
  unfolding used_by elem count_below
  none_used =
      let everyone = one_fewer (λ _. true) (Free []) 0 n some refl refl
      (λ k d. sym (ap (λ (b : Bool). not (b || false)) (ne_eqb k 0 d))) in
      let all = whole n in
      omega arith
    where
      whole : (m : ℕ) → count_below (λ _. true) m ≡ m
      whole zero = refl
      whole (suc m) = count_hit (λ _. true) m refl ∙ ap suc (whole m)

  module _ (x : ℕ) (xs : List ℕ) (low : 1 ≤ x) (high : x < n) where
    named_again : elem x xs ≡ true → count_below (Free (x ∷ xs)) n ≡ count_below (Free xs) n
    unfolding used_by elem
    named_again e =
        count_same (Free (x ∷ xs)) (Free xs) n (λ k b.
        ⊎_elim (λ (z : k ≡ x). rw (eq-eqb k x z, ap (λ (y : ℕ). elem y xs) z ∙ e) refl)
        (λ (d : k ≡ x → ⊥). rw (ne_eqb k x d) refl) (eq? k x))

    named_first : elem x xs ≡ false → count_below (Free xs) n ≡ suc (count_below (Free (x ∷ xs)) n)
    unfolding used_by elem
    named_first e =
        one_fewer (Free xs) (Free (x ∷ xs)) x n high
        (rw (ne_eqb x 0 (λ (z : x ≡ 0). omega arith), e) refl)
        (rw (ne_eqb x 0 (λ (z : x ≡ 0). omega arith), eq-eqb x x refl) refl)
        (λ k d. rw (ne_eqb k x d) refl)

  counted : (xs : List ℕ) → all (within 1 (n - 1)) xs ≡ true
      → (n ≤ count_below (Free xs) n + length xs + 1) × (eqb (count_below (Free xs) n + length xs + 1) n ≡ distinct xs)
  unfolding all distinct
  counted [] e = let z = none_used in (omega arith, eq-eqb (count_below (Free []) n + 0 + 1) n (omega arith))
  counted (x ∷ xs) e =
      let here = and_l (within 1 (n - 1) x) (all (within 1 (n - 1)) xs) e in
      let rest = counted xs (and_r (within 1 (n - 1) x) (all (within 1 (n - 1)) xs) e) in
      let low = leb-true 1 x (and_l (leb 1 x) (leb x (n - 1)) here) in
      let top = leb-true x (n - 1) (and_r (leb 1 x) (leb x (n - 1)) here) in
      let high : x < n = omega arith in
      let least = rest.0 in
      ⊎_elim (λ (z : elem x xs ≡ true).
      let same = named_again x xs low high z in (
        omega arith,
        ne_eqb (count_below (Free (x ∷ xs)) n + suc (length xs) + 1) n (λ (y : count_below (Free (x ∷ xs)) n + suc (length xs) + 1 ≡ n). omega arith)
            ∙ sym (rw z refl),
      ))
      (λ (z : elem x xs ≡ false).
      let one = named_first x xs low high z in
      let sum : count_below (Free (x ∷ xs)) n + suc (length xs) + 1 ≡ count_below (Free xs) n + length xs + 1 = omega arith in
      (omega arith, ap (λ (y : ℕ). eqb y n) sum ∙ rest.1 ∙ sym (rw z refl)))
      (bool? (elem x xs))

  -- The free sectors, the names and sector 0 are n sectors exactly where no sector is named twice.
  pub counted_once : (named : List ℕ) → all (within 1 (n - 1)) named ≡ true → (free count : ℕ) → free ≡ free_sectors n (used_by named) → count ≡ length named
      → eqb (free + count + 1) n ≡ distinct named
  unfolding free_sectors
  counted_once named inside free count f c =
      ap (λ (y : ℕ). eqb y n) (let e : free + count + 1 ≡ count_below (Free named) n + length named + 1 = omega arith in e) ∙ (counted named inside).1
