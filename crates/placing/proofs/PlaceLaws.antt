-- The choice of least delay, found along a track and across the tracks; and places taken one after the other.
use Prim.Native.Nat.{ℕ, suc, ◌+◌, ◌*◌, ◌-◌, ◌/◌, ◌%◌, ◌≤◌, ◌<◌}
use mathlib.Core.Path.{◌≡◌, refl, sym, ◌∙◌, ap, ap₂, fun_ext}
use mathlib.Core.Logic.{⊎_elim}
use mathlib.Core.Bool.{Bool, true, false, cond, ◌||◌}
use native.Mathlib.Numerals.{add-one}
use native.Mathlib.Nat.{mod-lt, mod-eq_of_lt, mod_self, mod-add-mod, add-mod-mod, div-add-mod', div-eq_of_lt, zero-mul, zero-div, zero-mod, mul-add-div_right, mul-one}
use native.Mathlib.Omega.{arith}
use lib.Dec.{eqb, ltb}
use borrow.Author.Tests.{lt-ltb, le-ltb, eq-eqb, ne_eqb}
use Rattle.geometry.specs.declared.Drive.{Drive}
use Rattle.layout.specs.Bounded.{updated}
use Rattle.tracks.specs.Placing.{Found, track_of, position_of, delay, least_delay, position_after, chosen, placed_up_to, place_of, skipped_by}
use Rattle.laws.proofs.Bounded.{lt?, eq?, clash, cond_true, cond_false}
use Rattle.laws.proofs.Delays.{DriveFits, track_inside, delay_there, delay_short, delay_own, delay_first, delay_switch, Nearest, nearest_alone, none_free}
use Rattle.power.specs.Power.{made}
use Rattle.searching.specs.Searching.{turned, AllPassed, LowestFree, NoneWithin}
use Rattle.placing.specs.Choosing.{Chosen}
use Rattle.searching.proofs.TrackLaws.{turned_inside}

used_or : (b : Bool) → (b ≡ false → ⊥) → b ≡ true
used_or true e = refl
used_or false e = absurd (e refl)

-- A search from `start`, whose track begins at `first`.
module _ (n : ℕ) (d : Drive) (fit : DriveFits n d) (is_used : ℕ → Bool) (first start : ℕ) (below : start < n) (here : first ≡ track_of d start * d.sectors) where
  abbrev size : ℕ
  size = d.sectors

  whole : first + position_of d start ≡ start
  whole = let e = div-add-mod' start size in omega arith

  pub track_low : first ≤ start
  track_low = let e = whole in omega arith

  pub track_high : start < first + size
  track_high = let e = whole in let p = mod-lt start fit.some in omega arith

  pub track_ends : first + size ≤ n
  track_ends = let e = track_inside n d fit start below in omega arith

  -- One track holds every sector.
  one_track_lem : d.tracks ≡ 1 → (k : ℕ) → k < n → track_of d k ≡ 0
  one_track_lem one k b =
      let p = fit.product in
      let w : size * d.tracks ≡ size = ap (λ (x : ℕ). size * x) one ∙ mul-one size in
      div-eq_of_lt (let x : k < size = omega arith in x)

  -- What passes by on the start's own track, and where a sector of it passes by.
  turned_position : (w : ℕ) → turned first size start w ≡ first + (position_of d start + w) % size
  turned_position w =
      let e = whole in
      let p : start - first ≡ position_of d start = omega arith in
      ap (λ (x : ℕ). first + (x + w) % size) p

  passes : (k : ℕ) → track_of d k ≡ track_of d start → turned first size start (delay d start k) ≡ k
  passes k same =
      let e = div-add-mod' k size in
      let t : track_of d k * size ≡ first = ap (λ (x : ℕ). x * size) same ∙ sym here in
      let p = delay_there d fit.some start k in
      turned_position (delay d start k) ∙ (let q : first + (position_of d start + delay d start k) % size ≡ k = omega arith in q)

  own_short : (k : ℕ) → track_of d k ≡ track_of d start → delay d start k < size
  own_short k same =
      let p = delay_there d fit.some start k in
      let v = delay d start k % size in
      let low = mod-lt (delay d start k) fit.some in
      let turn : (position_of d start + v) % size ≡ position_of d k = add-mod-mod (position_of d start) (delay d start k) size ∙ p in
      let f = delay_own d fit.some start k same v turn in
      omega arith

  -- Found after w positions: what is free passes by no sooner, this sector does by then, and what passes by just then is no lower.
  chosen_at : (k w : ℕ) → k < n → is_used k ≡ false → delay d start k ≤ w → ((q : ℕ) → q < n → is_used q ≡ false → w ≤ delay d start q)
      → ((q : ℕ) → q < n → is_used q ≡ false → delay d start q ≡ w → k ≤ q) → (f : ℕ) → f ≡ track_of d k * size → Chosen d n is_used start k w f
  chosen_at k w b e early late lowest f t =
      let at_least_lem = late k b e in
      let then : delay d start k ≡ w = omega arith in
      let near : Nearest (delay d start) is_used n k =
      record {
        below = b;
        free = e;
        least = λ q h g. (let l = late q h g in omega arith);
        lowest = λ q h g s. lowest q h g (s ∙ then);
      } in
      let it = nearest_alone (delay d start) is_used n k near in
      record {
        is = ap₂ (λ (x y : ℕ). record { sector = x; skipped = y }) (sym it) (sym then ∙ ap (delay d start) (sym it));
        below = b;
        short = (let s = delay_short d fit.some start k in omega arith);
        track = t;
      }

  -- On the own track.
  module _ (steps : ℕ) (few : (d.tracks ≡ 1 → ⊥) → steps ≤ d.switch) where
    other_late : (q : ℕ) → q < n → (track_of d q ≡ track_of d start → ⊥) → steps ≤ delay d start q
    other_late q h other =
        let s = delay_switch d fit.some start q other in
        let two : d.tracks ≡ 1 → ⊥ = λ (one : d.tracks ≡ 1). other (one_track_lem one q h ∙ sym (one_track_lem one start below)) in
        let f = few two in
        omega arith

    pub own_chosen : (k w : ℕ) → k ≡ turned first size start w → w < steps → AllPassed is_used first size start w → is_used k ≡ false → Chosen d n is_used start k w first
    own_chosen k w e h passed free =
        let inside = turned_inside first size start track_low track_high w in
        let ends = track_ends in
        let low : first ≤ k = (let x = inside.0 in omega arith) in
        let high : k < first + size = (let x = inside.1 in omega arith) in
        let same = on_track k low high in
        let at : k % size ≡ (position_of d start + w) % size = at_position k (same) (e ∙ turned_position w) in
        chosen_at k w (omega arith) free (delay_own d fit.some start k same w (sym at))
        (λ q b f.
        ⊎_elim (λ (z : track_of d q ≡ track_of d start).
        ⊎_elim (λ (y : delay d start q < w). clash (is_used q) (ap is_used (sym (passes q z)) ∙ passed (delay d start q) y) f) (λ (y : w ≤ delay d start q). y) (lt? (delay d start q) w))
        (λ (z : track_of d q ≡ track_of d start → ⊥). let l = other_late q b z in omega arith) (eq? (track_of d q) (track_of d start)))
        (λ q b f s.
        ⊎_elim (λ (z : track_of d q ≡ track_of d start). let p = sym (passes q z) ∙ ap (turned first size start) s ∙ sym e in omega arith)
        (λ (z : track_of d q ≡ track_of d start → ⊥). let l = other_late q b z in absurd (omega arith)) (eq? (track_of d q) (track_of d start)))
        first (here ∙ ap (λ (x : ℕ). x * size) (sym same))
      where
        on_track : (k : ℕ) → first ≤ k → k < first + size → track_of d k ≡ track_of d start
        on_track k low high =
            let cut : k ≡ track_of d start * size + (k - first) = omega arith in
            ap (λ (x : ℕ). x / size) cut ∙ mul-add-div_right fit.some (track_of d start) (k - first)
            ∙ (let z : (k - first) / size ≡ 0 = div-eq_of_lt (omega arith) in let y : track_of d start + (k - first) / size ≡ track_of d start = omega arith in y)

        at_position : (k : ℕ) → track_of d k ≡ track_of d start → k ≡ first + (position_of d start + w) % size → k % size ≡ (position_of d start + w) % size
        at_position k same e =
            let cut = div-add-mod' k size in
            let t : track_of d k * size ≡ first = ap (λ (x : ℕ). x * size) same ∙ sym here in
            omega arith

    -- Nothing is free on the own track so soon, so nothing is free at all.
    own_late : AllPassed is_used first size start steps → (q : ℕ) → q < n → is_used q ≡ false → steps ≤ delay d start q
    own_late passed q b f =
        ⊎_elim (λ (z : track_of d q ≡ track_of d start).
        ⊎_elim (λ (y : delay d start q < steps). clash (is_used q) (ap is_used (sym (passes q z)) ∙ passed (delay d start q) y) f) (λ (y : steps ≤ delay d start q). y)
        (lt? (delay d start q) steps))
        (λ (z : track_of d q ≡ track_of d start → ⊥). other_late q b z) (eq? (track_of d q) (track_of d start))

  -- Nowhere.
  pub chosen_nowhere : ((q : ℕ) → q < n → is_used q ≡ true) → (k w f : ℕ) → k ≡ 0 → w ≡ delay d start 0 → f ≡ 0 → Chosen d n is_used start k w f
  chosen_nowhere none k w f e p t =
      let it = none_free (delay d start) is_used n none in
      record {
        is = ap₂ (λ (x y : ℕ). record { sector = x; skipped = y }) (e ∙ sym it) (p ∙ ap (delay d start) (sym it));
        below = omega arith;
        short = (let s = delay_short d fit.some start 0 in omega arith);
        track = t ∙ sym (ap (λ (x : ℕ). x / size * size) e ∙ ap (λ (x : ℕ). x * size) (zero-div size) ∙ zero-mul size);
      }

  -- With one track, where all of it has passed by.
  pub one_nowhere : d.tracks ≡ 1 → AllPassed is_used first size start size → (q : ℕ) → q < n → is_used q ≡ true
  one_nowhere one passed q b =
      used_or (is_used q)
      (λ f.
      let late = own_late size (λ two. absurd (two one)) passed q b f in
      let same : track_of d q ≡ track_of d start = one_track_lem one q b ∙ sym (one_track_lem one start below) in
      let short = own_short q same in
      absurd (omega arith))

  -- Elsewhere: the head could change to any track, and none is free on its own before.
  module _ (passed : AllPassed is_used first size start (cond (ltb d.switch size) d.switch size)) where
    switch_late : (q : ℕ) → q < n → is_used q ≡ false → d.switch ≤ delay d start q
    switch_late q b f =
        ⊎_elim (λ (z : track_of d q ≡ track_of d start).
        ⊎_elim (λ (y : d.switch < size).
        let steps = cond_true (ltb d.switch size) d.switch size (lt-ltb d.switch size y) in
        ⊎_elim (λ (x : delay d start q < d.switch). clash (is_used q) (ap is_used (sym (passes q z)) ∙ passed (delay d start q) (omega arith)) f)
        (λ (x : d.switch ≤ delay d start q). x) (lt? (delay d start q) d.switch))
        (λ (y : size ≤ d.switch).
        let steps = cond_false (ltb d.switch size) d.switch size (le-ltb d.switch size y) in
        let short = own_short q z in
        clash (is_used q) (ap is_used (sym (passes q z)) ∙ passed (delay d start q) (omega arith)) f)
        (lt? d.switch size))
        (λ (z : track_of d q ≡ track_of d start → ⊥). delay_switch d fit.some start q z) (eq? (track_of d q) (track_of d start))

    -- The position under the head when it can be on any track, and so many later.
    module _ (position : ℕ) (at : position ≡ (start - first + d.switch) % size) where
      at_switch : (j : ℕ) → (position + j) % size ≡ (position_of d start + (d.switch + j)) % size
      at_switch j =
          let e = whole in
          let p : start - first ≡ position_of d start = omega arith in
          let q : position_of d start + d.switch + j ≡ position_of d start + (d.switch + j) = omega arith in
          ap (λ (x : ℕ). (x + j) % size) (at ∙ ap (λ (x : ℕ). (x + d.switch) % size) p)
          ∙ mod-add-mod (position_of d start + d.switch) size j ∙ ap (λ (x : ℕ). x % size) q

      at_delay : (q : ℕ) → q < n → is_used q ≡ false → q % size ≡ (position + (delay d start q - d.switch)) % size
      at_delay q b f =
          let l = switch_late q b f in
          let e : d.switch + (delay d start q - d.switch) ≡ delay d start q = omega arith in
          sym (at_switch (delay d start q - d.switch) ∙ ap (λ (x : ℕ). (position_of d start + x) % size) e ∙ delay_there d fit.some start q)

      late : (i : ℕ) → NoneWithin is_used n size position i → (q : ℕ) → q < n → is_used q ≡ false → d.switch + i ≤ delay d start q
      late i none q b f =
          let l = switch_late q b f in
          ⊎_elim (λ (z : delay d start q < d.switch + i). clash (is_used q) (none (delay d start q - d.switch) (omega arith) q b (at_delay q b f)) f)
          (λ (z : d.switch + i ≤ delay d start q). z) (lt? (delay d start q) (d.switch + i))

      pub other_chosen : (k i : ℕ) → k < n → NoneWithin is_used n size position i → LowestFree is_used size ((position + i) % size) k
          → Chosen d n is_used start k (d.switch + i) (k - k % size)
      other_chosen k i b none (free, e, lower) =
          chosen_at k (d.switch + i) b free (delay_first d fit.some start k (d.switch + i) (omega arith) (sym (e ∙ at_switch i)))
          (late i none)
          (λ q h f s.
          let then : delay d start q - d.switch ≡ i = omega arith in
          ⊎_elim (λ (z : q < k). clash (is_used q) (lower q z (at_delay q h f ∙ ap (λ (x : ℕ). (position + x) % size) then)) f) (λ (z : k ≤ q). z) (lt? q k))
          (k - k % size) (let w = div-add-mod' k size in omega arith)

      pub other_nowhere : NoneWithin is_used n size position size → (q : ℕ) → q < n → is_used q ≡ true
      other_nowhere none q b =
          used_or (is_used q) (λ f. let l = late size none q b f in let s = delay_short d fit.some start q in absurd (omega arith))

-- For how long no track but the own one is looked at.
module _ (n : ℕ) (d : Drive) (fit : DriveFits n d) (steps : ℕ) (is : steps ≡ cond (eqb d.tracks 1) d.sectors (cond (ltb d.switch d.sectors) d.switch d.sectors)) where
  pub steps_one : d.tracks ≡ 1 → steps ≡ d.sectors
  steps_one one = is ∙ cond_true (eqb d.tracks 1) _ _ (eq-eqb d.tracks 1 one)

  pub steps_more : (d.tracks ≡ 1 → ⊥) → steps ≡ cond (ltb d.switch d.sectors) d.switch d.sectors
  steps_more two = is ∙ cond_false (eqb d.tracks 1) _ _ (ne_eqb d.tracks 1 two)

  least_few : (a b : ℕ) → (cond (ltb a b) a b ≤ a) × (cond (ltb a b) a b ≤ b)
  least_few a b =
      ⊎_elim (λ (z : a < b). let e = cond_true (ltb a b) a b (lt-ltb a b z) in (omega arith, omega arith))
      (λ (z : b ≤ a). let e = cond_false (ltb a b) a b (le-ltb a b z) in (omega arith, omega arith)) (lt? a b)

  pub steps_few : (d.tracks ≡ 1 → ⊥) → steps ≤ d.switch
  steps_few two = let e = steps_more two in let l = (least_few d.switch d.sectors).0 in omega arith

  pub steps_most : steps ≤ 65536
  steps_most =
      let most = fit.most in
      ⊎_elim (λ (z : d.tracks ≡ 1). let e = steps_one z in omega arith)
      (λ (z : d.tracks ≡ 1 → ⊥). let e = steps_more z in let l = (least_few d.switch d.sectors).1 in omega arith)
      (eq? d.tracks 1)

-- The delay to sector 0, on its track and from another.
module _ (d : Drive) (some : 0 < d.sectors) (start : ℕ) where
  pub zero_own : start / d.sectors ≡ 0 → (d.sectors - start % d.sectors) % d.sectors ≡ delay d start 0
  zero_own e =
      let size = d.sectors in
      let same : 0 / size ≡ start / size = zero-div size ∙ sym e in
      let still : (start % size + 0) % size ≡ start % size = ap (λ (x : ℕ). x % size) (let q : start % size + 0 ≡ start % size = omega arith in q) ∙ mod-eq_of_lt (mod-lt start some) in
      let at = zero-mod size in
      let least = cond_true (eqb (0 / size) (start / size)) 0 d.switch (eq-eqb (0 / size) (start / size) same) in
      let inner : size - start % size ≡ 0 % size + (size - (start % size + 0) % size) = omega arith in
      ap (λ (x : ℕ). x % size) inner
      ∙ (let q : (0 % size + (size - (start % size + 0) % size)) % size ≡ 0 + (0 % size + (size - (start % size + 0) % size)) % size = omega arith in q)
      ∙ ap (λ (x : ℕ). x + (0 % size + (size - (start % size + x) % size)) % size) (sym least)

  pub zero_other : (start / d.sectors ≡ 0 → ⊥) → d.switch + (d.sectors - (start % d.sectors + d.switch) % d.sectors) % d.sectors ≡ delay d start 0
  zero_other e =
      let size = d.sectors in
      let apart : 0 / size ≡ start / size → ⊥ = λ (z : 0 / size ≡ start / size). e (sym z ∙ zero-div size) in
      let at = zero-mod size in
      let least = cond_false (eqb (0 / size) (start / size)) 0 d.switch (ne_eqb (0 / size) (start / size) apart) in
      let inner : size - (start % size + d.switch) % size ≡ 0 % size + (size - (start % size + d.switch) % size) = omega arith in
      ap (λ (x : ℕ). d.switch + x % size) inner
      ∙ ap (λ (x : ℕ). x + (0 % size + (size - (start % size + x) % size)) % size) (sym least)

-- Where the next search starts, on the track of the sector that was taken.
module _ (n : ℕ) (d : Drive) (fit : DriveFits n d) (first k : ℕ) (below : k < n) (here : first ≡ track_of d k * d.sectors) where
  pub next_start : (next : ℕ) → next ≡ cond (ltb (k + 1) (first + d.sectors)) (k + 1) first → next ≡ position_after d k
  next_start next e =
      let size = d.sectors in
      let cut = div-add-mod' k size in
      let low = mod-lt k fit.some in
      ⊎_elim (λ (z : k + 1 < first + size).
      let m : suc (k % size) % size ≡ suc (k % size) = mod-eq_of_lt (omega arith) in
      let q = e ∙ cond_true (ltb (k + 1) (first + size)) (k + 1) first (lt-ltb (k + 1) (first + size) z) in
      omega arith)
      (λ (z : first + size ≤ k + 1).
      let full : suc (k % size) ≡ size = omega arith in
      let m : suc (k % size) % size ≡ 0 = ap (λ (x : ℕ). x % size) full ∙ mod_self size in
      let q = e ∙ cond_false (ltb (k + 1) (first + size)) (k + 1) first (le-ltb (k + 1) (first + size) z) in
      omega arith)
      (lt? (k + 1) (first + size))

  pub next_track : first ≡ track_of d (position_after d k) * d.sectors
  next_track =
      let size = d.sectors in
      let low = mod-lt (suc (k % size)) fit.some in
      let over : suc (k % size) % size / size ≡ 0 = div-eq_of_lt low in
      let same : track_of d (position_after d k) ≡ track_of d k = mul-add-div_right fit.some (track_of d k) (suc (k % size) % size) ∙ (let q : track_of d k + suc (k % size) % size / size ≡ track_of d k = omega arith in q) in
      here ∙ ap (λ (x : ℕ). x * size) (sym same)

-- Places taken one after the other.
module _ (d : Drive) (n : ℕ) (used : ℕ → Bool) (head : ℕ) where
  -- After j places: what is no longer free, and where the next search starts.
  pub record Placed (j : ℕ) (bits : ℕ → Bool) (start : ℕ) : Type 0 where
    pub marks : bits ≡ (placed_up_to (least_delay d) n used head j).is_used
    pub next : start ≡ (placed_up_to (least_delay d) n used head j).start

  pub placed_none : Placed 0 used head
  unfolding placed_up_to
  placed_none = record { marks = refl; next = refl }

  -- A search gives what the definition's next search gives: the next place, and what it adds to the total.
  found_here : (j : ℕ) (bits : ℕ → Bool) (start : ℕ) (f : Found) → Placed j bits start → f ≡ (least_delay d).choose n bits start
      → f ≡ chosen (least_delay d) n (placed_up_to (least_delay d) n used head j)
  found_here j bits start f p e =
      e ∙ ap (λ (g : ℕ → Bool). (least_delay d).choose n g start) p.marks ∙ ap ((least_delay d).choose n (placed_up_to (least_delay d) n used head j).is_used) p.next

  pub place_here : (j : ℕ) (bits : ℕ → Bool) (start : ℕ) (f : Found) → Placed j bits start → f ≡ (least_delay d).choose n bits start
      → f.sector ≡ place_of (least_delay d) n used head j
  unfolding place_of
  place_here j bits start f p e = ap (λ (g : Found). g.sector) (found_here j bits start f p e)

  skipped_here : (j : ℕ) (bits : ℕ → Bool) (start : ℕ) (f : Found) → Placed j bits start → f ≡ (least_delay d).choose n bits start
      → skipped_by (least_delay d) n used head j + f.skipped ≡ skipped_by (least_delay d) n used head (suc j)
  unfolding skipped_by placed_up_to
  skipped_here j bits start f p e =
      ap (λ (g : Found). (placed_up_to (least_delay d) n used head j).skipped + g.skipped) (found_here j bits start f p e)

  pub placed_more : (j : ℕ) (bits bits' : ℕ → Bool) (start start' : ℕ) (f : Found) → Placed j bits start → f ≡ (least_delay d).choose n bits start
      → bits' ≡ updated bits f.sector true → start' ≡ position_after d f.sector → Placed (j + 1) bits' start'
  unfolding placed_up_to place_of
  placed_more j bits bits' start start' f p e b s =
      let here = place_here j bits start f p e in
      rw add-one
      (record {
        marks = b
            ∙ fun_ext (λ q.
            ap (λ (g : ℕ → Bool). updated g f.sector true q) p.marks
            ∙ ap (λ (k : ℕ). updated (placed_up_to (least_delay d) n used head j).is_used k true q) here
            ∙ either ((placed_up_to (least_delay d) n used head j).is_used q) (eqb q (place_of (least_delay d) n used head j)));
        next = s ∙ ap (position_after d) here;
      })
    where
      either : (a b : Bool) → cond b true a ≡ (a || b)
      either true true = refl
      either true false = refl
      either false true = refl
      either false false = refl

  -- The total over the searches whose stores are made.
  pub billed_none : (allowance : ℕ) → 0 ≡ skipped_by (least_delay d) n used head (made 0 allowance)
  unfolding skipped_by placed_up_to
  billed_none allowance =
      rw (cond_false (ltb allowance 0) allowance 0 (le-ltb allowance 0 (omega arith))) refl

  pub billed_more : (j allowance : ℕ) (bits : ℕ → Bool) (start : ℕ) (f : Found) (skipped x : ℕ) → Placed j bits start → f ≡ (least_delay d).choose n bits start
      → skipped ≡ skipped_by (least_delay d) n used head (made j allowance) → x ≡ cond (ltb j allowance) f.skipped 0
      → skipped + x ≡ skipped_by (least_delay d) n used head (made (j + 1) allowance)
  billed_more j allowance bits start f skipped x p e t c =
      ⊎_elim (λ (z : j < allowance).
      let now : made j allowance ≡ j = cond_false (ltb allowance j) allowance j (le-ltb allowance j (omega arith)) in
      let then : made (j + 1) allowance ≡ j + 1 = cond_false (ltb allowance (j + 1)) allowance (j + 1) (le-ltb allowance (j + 1) (omega arith)) in
      ap (λ (a : ℕ). a + x) (t ∙ ap (skipped_by (least_delay d) n used head) now)
      ∙ ap (λ (a : ℕ). skipped_by (least_delay d) n used head j + a) (c ∙ cond_true (ltb j allowance) f.skipped 0 (lt-ltb j allowance z))
      ∙ skipped_here j bits start f p e ∙ ap (skipped_by (least_delay d) n used head) (sym (add-one j) ∙ sym then))
      (λ (z : allowance ≤ j).
      let now : made j allowance ≡ allowance = made_short j allowance z in
      let then : made (j + 1) allowance ≡ allowance = made_short (j + 1) allowance (omega arith) in
      let none : x ≡ 0 = c ∙ cond_false (ltb j allowance) f.skipped 0 (le-ltb j allowance z) in
      let same : skipped + x ≡ skipped = omega arith in
      same ∙ t ∙ ap (skipped_by (least_delay d) n used head) (now ∙ sym then))
      (lt? j allowance)
    where
      made_short : (j allowance : ℕ) → allowance ≤ j → made j allowance ≡ allowance
      made_short j allowance h =
          ⊎_elim (λ (z : allowance < j). cond_true (ltb allowance j) allowance j (lt-ltb allowance j z))
          (λ (z : j ≤ allowance).
          let e : j ≡ allowance = omega arith in
          cond_false (ltb allowance j) allowance j (le-ltb allowance j z) ∙ e) (lt? allowance j)

pub charged_few : (j allowance skipped x : ℕ) → x ≡ cond (ltb j allowance) skipped 0 → x ≤ skipped
charged_few j allowance skipped x e =
    ⊎_elim (λ (z : j < allowance). let c = e ∙ cond_true (ltb j allowance) skipped 0 (lt-ltb j allowance z) in omega arith)
    (λ (z : allowance ≤ j). let c = e ∙ cond_false (ltb j allowance) skipped 0 (le-ltb j allowance z) in omega arith) (lt? j allowance)
