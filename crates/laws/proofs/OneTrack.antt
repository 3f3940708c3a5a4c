-- With one track the choice of least delay takes exactly the sectors of document 01's search, upwards and around.
use Prim.Native.Nat.{ℕ, zero, suc, ◌+◌, ◌*◌, ◌-◌, ◌/◌, ◌%◌, ◌≤◌, ◌<◌}
use mathlib.Core.Path.{◌≡◌, refl, sym, ◌∙◌, ap, ap₂, fun_ext}
use mathlib.Core.Logic.{◌⊎◌, inl, inr, ⊎_elim}
use mathlib.Core.Bool.{Bool, true, false, cond, ◌||◌}
use native.Mathlib.Nat.{mod-eq_of_lt, mod_self, add-mod_right, div-eq_of_lt, zero-mul}
use native.Mathlib.Omega.{arith}
use lib.Dec.{eqb, ltb}
use borrow.Author.Tests.{lt-ltb, le-ltb, eq-eqb}
use Rattle.geometry.specs.declared.Drive.{Drive}
use Rattle.volume.specs.Tables.{free_sectors}
use Rattle.tracks.specs.Placing.{delay, nearest, least_delay, position_after, placed_up_to, place_of}
use Rattle.tracks.specs.Upwards.{sector_after, first_free, upwards}
use Rattle.laws.proofs.Bounded.{bool?, lt?, clash, cond_true, cond_false}
use Rattle.laws.proofs.Delays.{DriveFits, nearest_alone}
use Rattle.laws.proofs.Placing.{least_delay_chooses, place_below, start_below, zero_kept, free_left}

-- How far a sector lies ahead: upwards, and around from the last sector to 0.
abbrev ahead : ℕ → ℕ → ℕ → ℕ
ahead n start k = cond (ltb k start) (n + k - start) (k - start)

ahead_up : (n start k : ℕ) → start ≤ k → ahead n start k ≡ k - start
ahead_up n start k h = cond_false (ltb k start) (n + k - start) (k - start) (le-ltb k start h)

ahead_around : (n start k : ℕ) → k < start → ahead n start k ≡ n + k - start
ahead_around n start k h = cond_true (ltb k start) (n + k - start) (k - start) (lt-ltb k start h)

-- The search of document 01 ends at the free sector that is least far ahead.
module _ (n : ℕ) (is_used : ℕ → Bool) (used0 : is_used 0 ≡ true) where
  free_some : (k : ℕ) → is_used k ≡ false → 0 < k
  free_some zero e = clash (is_used 0) used0 e
  free_some (suc k) e = omega arith

  record Ends (k q : ℕ) : Type 0 where
    below : q < n
    free : is_used q ≡ false
    least : (f : ℕ) → f < n → is_used f ≡ false → ahead n k q ≤ ahead n k f

  -- From one sector to the next, every free sector comes nearer by as much.
  nearer : (k f : ℕ) → k < n → f < n → is_used k ≡ true → is_used f ≡ false → (k + 1 < n → ahead n k f ≡ ahead n (k + 1) f + 1) × (n ≤ k + 1 → ahead n k f ≡ ahead n 1 f + 2)
  nearer k f h b u e =
      let pos = free_some f e in
      let apart : k ≡ f → ⊥ = λ (z : k ≡ f). clash (is_used k) u (ap is_used z ∙ e) in
      ⊎_elim (λ (z : f < k).
      let far = ahead_around n k f z in (
        λ l. (let next = ahead_around n (k + 1) f (omega arith) in omega arith),
        λ l. (let next = ahead_up n 1 f (omega arith) in omega arith),
      ))
      (λ (z : k ≤ f).
      let far = ahead_up n k f z in
      let past : k < f = ⊎_elim (λ (y : k < f). y) (λ (y : f ≤ k). absurd (apart (omega arith))) (lt? k f) in
      (λ l. (let next = ahead_up n (k + 1) f (omega arith) in omega arith), λ l. absurd (omega arith)))
      (lt? f k)

  after_up : (k : ℕ) → k + 1 < n → sector_after n k ≡ k + 1
  after_up k h = cond_true (ltb (suc k) n) (suc k) 1 (lt-ltb (suc k) n (omega arith)) ∙ (let e : suc k ≡ k + 1 = omega arith in e)

  after_around : (k : ℕ) → n ≤ k + 1 → sector_after n k ≡ 1
  after_around k h = cond_false (ltb (suc k) n) (suc k) 1 (le-ltb (suc k) n (omega arith))

  -- What the search from the next sector ends at, the search from this one does, if this one is used.
  ends_before : (k q : ℕ) → k < n → is_used k ≡ true → Ends (sector_after n k) q → Ends k q
  ends_before k q h u ends =
      record {
        below = ends.below;
        free = ends.free;
        least = λ f b e.
            let far = nearer k f h b u e in
            let near = nearer k q h ends.below u ends.free in
            ⊎_elim (λ (z : k + 1 < n).
            let l = rw (after_up k z) at (ends.least f b e) in
            let x = far.0 z in
            let y = near.0 z in
            omega arith)
            (λ (z : n ≤ k + 1).
            let l = rw (after_around k z) at (ends.least f b e) in
            let x = far.1 z in
            let y = near.1 z in
            omega arith)
            (lt? (k + 1) n);
      }

  ends_here : (k : ℕ) → k < n → is_used k ≡ false → Ends k k
  ends_here k h e = record { below = h; free = e; least = λ f b g. let x = ahead_up n k k (omega arith) in omega arith }

  -- A free sector is reached in time.
  module _ (free : ℕ) (below : free < n) (is_free : is_used free ≡ false) where
    after_below : (k : ℕ) → sector_after n k < n
    after_below k =
        let low = free_some free is_free in
        ⊎_elim (λ (z : k + 1 < n). let e = after_up k z in omega arith) (λ (z : n ≤ k + 1). let e = after_around k z in omega arith) (lt? (k + 1) n)

    search_ends : (steps k : ℕ) → k < n → ahead n k free < steps → Ends k (first_free n is_used steps k)
    unfolding first_free
    search_ends zero k h a = absurd (omega arith)
    search_ends (suc steps) k h a =
        ⊎_elim (λ (z : is_used k ≡ true).
        let far = nearer k free h below z is_free in
        let closer : ahead n (sector_after n k) free < steps =
        ⊎_elim (λ (y : k + 1 < n). rw (after_up k y) (let x = far.0 y in omega arith)) (λ (y : n ≤ k + 1). rw (after_around k y) (let x = far.1 y in omega arith)) (lt? (k + 1) n) in
        rw (cond_true (is_used k) (first_free n is_used steps (sector_after n k)) k z)
        (ends_before k (first_free n is_used steps (sector_after n k)) h z (search_ends steps (sector_after n k) (after_below k) closer)))
        (λ (z : is_used k ≡ false). rw (cond_false (is_used k) (first_free n is_used steps (sector_after n k)) k z) (ends_here k h z))
        (bool? (is_used k))

    ahead_below : (k : ℕ) → k < n → ahead n k free < n
    ahead_below k h =
        ⊎_elim (λ (z : free < k). let x = ahead_around n k free z in omega arith) (λ (z : k ≤ free). let x = ahead_up n k free z in omega arith) (lt? free k)

    search_finds : (k : ℕ) → k < n → Ends k (first_free n is_used n k)
    search_finds k h = search_ends n k h (ahead_below k h)

-- The delay on one track is how far a sector lies ahead, whatever the switch.
module _ (n : ℕ) (d : Drive) (fit : DriveFits n d) (one : d.tracks ≡ 1) where
  whole : d.sectors ≡ n
  whole = let p = fit.product in let q : d.sectors * d.tracks ≡ d.sectors * 1 = ap (λ (x : ℕ). d.sectors * x) one in omega arith

  delay_ahead : (start k : ℕ) → start < n → k < n → delay d start k ≡ ahead n start k
  delay_ahead start k h b =
      let same : k / d.sectors ≡ start / d.sectors = div-eq_of_lt (let x : k < d.sectors = (let w = whole in omega arith) in x) ∙ sym (div-eq_of_lt (let x : start < d.sectors = (let w = whole in omega arith) in x)) in
      rw (cond_true _ 0 d.switch (eq-eqb (k / d.sectors) (start / d.sectors) same), whole) turned
    where
      turned : 0 + (k % n + (n - (start % n + 0) % n)) % n ≡ ahead n start k
      turned =
          let at : start % n ≡ start = mod-eq_of_lt h in
          let to : k % n ≡ k = mod-eq_of_lt b in
          let still : start % n + 0 ≡ start = omega arith in
          let back = ap (λ (x : ℕ). x % n) still ∙ at in
          let inner : k % n + (n - (start % n + 0) % n) ≡ k + (n - start) = omega arith in
          let e = ap (λ (x : ℕ). x % n) inner in
          ⊎_elim (λ (z : k < start).
          let m = mod-eq_of_lt (let y : k + (n - start) < n = omega arith in y) in
          let far = ahead_around n start k z in
          omega arith)
          (λ (z : start ≤ k).
          let cut : k + (n - start) ≡ k - start + n = omega arith in
          let m = ap (λ (x : ℕ). x % n) cut ∙ add-mod_right (k - start) n ∙ mod-eq_of_lt (let y : k - start < n = omega arith in y) in
          let far = ahead_up n start k z in
          omega arith)
          (lt? k start)

  -- No two sectors lie equally far ahead.
  ahead_apart : (start a b : ℕ) → start < n → a < n → b < n → ahead n start a ≡ ahead n start b → a ≡ b
  ahead_apart start a b h x y e =
      ⊎_elim (λ (z : a < start).
      let p = ahead_around n start a z in
      ⊎_elim (λ (w : b < start). let q = ahead_around n start b w in omega arith) (λ (w : start ≤ b). let q = ahead_up n start b w in absurd (omega arith)) (lt? b start))
      (λ (z : start ≤ a).
      let p = ahead_up n start a z in
      ⊎_elim (λ (w : b < start). let q = ahead_around n start b w in absurd (omega arith)) (λ (w : start ≤ b). let q = ahead_up n start b w in omega arith) (lt? b start))
      (lt? a start)

  -- Where the search of document 01 begins at 1, the one of least delay may begin at 0.
  Alike : ℕ → ℕ → Type 0
  Alike a b = (a ≡ b) ⊎ ((a ≡ 0) × (b ≡ 1))

  module _ (is_used : ℕ → Bool) (used0 : is_used 0 ≡ true) where
    -- The same order, from either beginning.
    alike_least : (a b p q : ℕ) → Alike a b → p < n → q < n → is_used p ≡ false → is_used q ≡ false → ahead n b p ≤ ahead n b q → ahead n a p ≤ ahead n a q
    unfolding Alike
    alike_least a b p q s x y e f l =
        ⊎_elim (λ (z : a ≡ b). rw z l)
        (λ (z : (a ≡ 0) × (b ≡ 1)).
        let some = free_some n is_used used0 p e in
        let more = free_some n is_used used0 q f in
        let p0 = ap (λ (x : ℕ). ahead n x p) z.0 ∙ ahead_up n 0 p (omega arith) in
        let p1 = ap (λ (x : ℕ). ahead n x p) z.1 ∙ ahead_up n 1 p (omega arith) in
        let q0 = ap (λ (x : ℕ). ahead n x q) z.0 ∙ ahead_up n 0 q (omega arith) in
        let q1 = ap (λ (x : ℕ). ahead n x q) z.1 ∙ ahead_up n 1 q (omega arith) in
        omega arith) s

    same_sector : (a b free : ℕ) → Alike a b → a < n → b < n → free < n → is_used free ≡ false → nearest (delay d a) is_used n ≡ first_free n is_used n b
    same_sector a b free s x y h e =
        let ends = search_finds n is_used used0 free h e b y in
        let q = first_free n is_used n b in
        nearest_alone (delay d a) is_used n q
        (record {
          below = ends.below;
          free = ends.free;
          least = λ k i f.
              let p = delay_ahead a q x ends.below in
              let r = delay_ahead a k x i in
              let l = alike_least a b q k s ends.below i ends.free f (ends.least k i f) in
              omega arith;
          lowest = λ k i f t.
              let same = ahead_apart a k q x i ends.below (sym (delay_ahead a k x i) ∙ t ∙ delay_ahead a q x ends.below) in
              omega arith;
        })

  -- The next searches begin alike.
  next_alike : (k : ℕ) → k < n → Alike (position_after d k) (sector_after n k)
  unfolding Alike
  next_alike k h =
      let w = whole in
      let first : k / d.sectors * d.sectors ≡ 0 = ap (λ (x : ℕ). x * d.sectors) (div-eq_of_lt (let x : k < d.sectors = omega arith in x)) ∙ zero-mul d.sectors in
      let at : k % d.sectors ≡ k = mod-eq_of_lt (let x : k < d.sectors = omega arith in x) in
      let on : suc (k % d.sectors) % d.sectors ≡ (k + 1) % n = ap₂ (λ (x y : ℕ). x % y) (let x : suc (k % d.sectors) ≡ k + 1 = omega arith in x) w in
      ⊎_elim (λ (z : k + 1 < n).
      let m = mod-eq_of_lt z in
      let e = after_up n (λ _. true) refl k z in
      inl (omega arith))
      (λ (z : n ≤ k + 1).
      let last : k + 1 ≡ n = omega arith in
      let m = ap (λ (x : ℕ). x % n) last ∙ mod_self n in
      let e = after_around n (λ _. true) refl k z in
      inr (omega arith, e))
      (lt? (k + 1) n)

  -- The places of one commit that needs `total` sectors, where so many are free.
  module _ (is_used : ℕ → Bool) (used0 : is_used 0 ≡ true) (head : ℕ) (inside : head < n) (total : ℕ) (room : total ≤ free_sectors n is_used) where
    record Same (j : ℕ) : Type 0 where
      used : (placed_up_to (least_delay d) n is_used head j).is_used ≡ (placed_up_to upwards n is_used head j).is_used
      start : Alike (placed_up_to (least_delay d) n is_used head j).start (placed_up_to upwards n is_used head j).start
      below : (placed_up_to upwards n is_used head j).start < n

    here : (j : ℕ) → j < total → Same j → place_of (least_delay d) n is_used head j ≡ place_of upwards n is_used head j
    unfolding place_of
    here j h s =
        let law = least_delay_chooses n d fit in
        let free = free_left (least_delay d) n law is_used used0 head inside total room j h in
        same_sector (placed_up_to (least_delay d) n is_used head j).is_used (zero_kept (least_delay d) n law is_used used0 head inside total room j (omega arith))
        (placed_up_to (least_delay d) n is_used head j).start (placed_up_to upwards n is_used head j).start free.0 s.start
        (start_below (least_delay d) n law is_used used0 head inside total room j (omega arith)) s.below free.1 free.2
        ∙ ap (λ (u : ℕ → Bool). first_free n u n (placed_up_to upwards n is_used head j).start) s.used

    same : (j : ℕ) → j ≤ total → Same j
    unfolding placed_up_to place_of Alike
    same zero h = record { used = refl; start = inl refl; below = inside }
    same (suc j) h =
        let s = same j (omega arith) in
        let law = least_delay_chooses n d fit in
        let e = here j h s in
        let low = place_below (least_delay d) n law is_used used0 head inside total room j h in
        record {
          used = fun_ext (λ q. ap₂ (λ (u : ℕ → Bool) (k : ℕ). u q || eqb q k) s.used e);
          start = rw (sym e) (next_alike (place_of (least_delay d) n is_used head j) low);
          below = rw (sym e) (after_low (place_of (least_delay d) n is_used head j));
        }
      where
        after_low : (k : ℕ) → sector_after n k < n
        after_low k =
            let law = least_delay_chooses n d fit in
            let free = free_left (least_delay d) n law is_used used0 head inside total room j h in
            after_below n (placed_up_to (least_delay d) n is_used head j).is_used (zero_kept (least_delay d) n law is_used used0 head inside total room j (omega arith)) free.0 free.1 free.2 k

    pub one_track_lem : (j : ℕ) → j < total → place_of (least_delay d) n is_used head j ≡ place_of upwards n is_used head j
    one_track_lem j h = here j h (same j (omega arith))
