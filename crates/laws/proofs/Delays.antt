-- The delay to a sector is the smallest wait of its kind, and the nearest free sector is the one of least delay.
use Prim.Native.Nat.{ℕ, zero, suc, ◌+◌, ◌*◌, ◌-◌, ◌%◌, ◌≤◌, ◌<◌}
use mathlib.Core.Path.{◌≡◌, refl, sym, ◌∙◌, ap}
use mathlib.Core.Logic.{◌⊎◌, inl, inr, ⊎_elim}
use mathlib.Core.Bool.{Bool, true, false, cond, not, ◌&&◌, ◌||◌}
use native.Mathlib.Nat.{mod-lt, mod-eq_of_lt, mod-add-mod, add-mod_right, div-add-mod', mul_comm, suc-mul, mul-le-mul_right, not-suc-le-zero}
use native.Mathlib.Omega.{arith}
use lib.Dec.{eqb, leb, ltb}
use borrow.Author.Tests.{lt-ltb, le-ltb, eq-eqb, ne_eqb, eqb-true, leb-true}
use Rattle.geometry.specs.declared.Drive.{Drive}
use Rattle.geometry.specs.Geometry.{within, drive_fits}
use Rattle.tracks.specs.Placing.{track_of, position_of, wait_for, delay, nearest, position_after}
use Rattle.laws.proofs.Bounded.{bool?, lt?, clash, cond_true, cond_false, and_l, and_r, suc_cases}

-- A drive in range, of N sectors.
pub record DriveFits (n : ℕ) (d : Drive) : Type 0 where
  pub some : 1 ≤ d.sectors
  pub most : d.sectors ≤ 65536
  pub tracks : 1 ≤ d.tracks
  pub few : d.tracks ≤ 256
  pub switch : d.switch ≤ 255
  pub product : d.sectors * d.tracks ≡ n

pub drive_fits_lem : (n : ℕ) (d : Drive) → drive_fits n d ≡ true → DriveFits n d
drive_fits_lem n d e =
    let a1 = within 1 65536 d.sectors in
    let a2 = within 1 256 d.tracks in
    let a3 = leb d.switch 255 in
    let a4 = eqb (d.sectors * d.tracks) n in
    let e3 = and_l (a1 && a2 && a3) a4 e in
    let e2 = and_l (a1 && a2) a3 e3 in
    let e1 = and_l a1 a2 e2 in
    let f2 = and_r a1 a2 e2 in
    record {
      some = leb-true 1 d.sectors (and_l (leb 1 d.sectors) (leb d.sectors 65536) e1);
      most = leb-true d.sectors 65536 (and_r (leb 1 d.sectors) (leb d.sectors 65536) e1);
      tracks = leb-true 1 d.tracks (and_l (leb 1 d.tracks) (leb d.tracks 256) f2);
      few = leb-true d.tracks 256 (and_r (leb 1 d.tracks) (leb d.tracks 256) f2);
      switch = leb-true d.switch 255 (and_r (a1 && a2) a3 e3);
      product = eqb-true (d.sectors * d.tracks) n (and_r (a1 && a2 && a3) a4 e);
    }

-- A track of the drive ends at or before the last sector.
module _ (n : ℕ) (d : Drive) (fit : DriveFits n d) where
  pub track_inside : (k : ℕ) → k < n → track_of d k * d.sectors + d.sectors ≤ n
  track_inside k h =
      let t = track_of d k in
      let at = div-add-mod' k d.sectors in
      let whole : d.tracks * d.sectors ≡ n = mul_comm d.tracks d.sectors ∙ fit.product in
      ⊎_elim (λ (z : t < d.tracks).
      let up = mul-le-mul_right d.sectors z in
      let one = suc-mul t d.sectors in
      omega arith)
      (λ (z : d.tracks ≤ t). let up = mul-le-mul_right d.sectors z in absurd (omega arith))
      (lt? t d.tracks)

  pub after_inside : (k : ℕ) → k < n → position_after d k < n
  after_inside k h =
      let inside = track_inside k h in
      let low = mod-lt (suc (position_of d k)) fit.some in
      omega arith

-- A track turns: from position r on to position q, both below `size`.
module _ (size : ℕ) (r q : ℕ) (from : r < size) (to : q < size) where
  turn_on : r ≤ q → (q + (size - r)) % size ≡ q - r
  turn_on h =
      let e : q + (size - r) ≡ q - r + size = omega arith in
      ap (λ (x : ℕ). x % size) e ∙ add-mod_right (q - r) size ∙ mod-eq_of_lt (omega arith)

  turn_around : q < r → (q + (size - r)) % size ≡ q + size - r
  turn_around h =
      let e : q + (size - r) ≡ q + size - r = omega arith in
      ap (λ (x : ℕ). x % size) e ∙ mod-eq_of_lt (omega arith)

  turned_there : (r + (q + (size - r)) % size) % size ≡ q
  turned_there =
      ⊎_elim (λ (z : q < r).
      let t = turn_around z in
      let e : r + (q + (size - r)) % size ≡ q + size = omega arith in
      ap (λ (x : ℕ). x % size) e ∙ add-mod_right q size ∙ mod-eq_of_lt to)
      (λ (z : r ≤ q).
      let t = turn_on z in
      let e : r + (q + (size - r)) % size ≡ q = omega arith in
      ap (λ (x : ℕ). x % size) e ∙ mod-eq_of_lt to) (lt? q r)

  -- No shorter turn ends there.
  turned_first : (v : ℕ) → (r + v) % size ≡ q → (q + (size - r)) % size ≤ v
  turned_first v e =
      ⊎_elim (λ (short : v < (q + (size - r)) % size).
      ⊎_elim (λ (z : q < r).
      let t = turn_around z in
      ⊎_elim (λ (y : r + v < size). let m = mod-eq_of_lt y in absurd (omega arith))
      (λ (y : size ≤ r + v).
      let back : r + v ≡ r + v - size + size = omega arith in
      let m = ap (λ (x : ℕ). x % size) back ∙ add-mod_right (r + v - size) size ∙ mod-eq_of_lt (let p : r + v - size < size = omega arith in p) in
      absurd (omega arith)) (lt? (r + v) size))
      (λ (z : r ≤ q).
      let t = turn_on z in
      let m = mod-eq_of_lt (let p : r + v < size = omega arith in p) in
      absurd (omega arith)) (lt? q r))
      (λ (long : (q + (size - r)) % size ≤ v). long)
      (lt? v ((q + (size - r)) % size))

-- What `wait_for` says: after the wait the position is under the head; it is at least `least`, less than a revolution more, and no other
-- such wait is shorter.
module _ (size least from q : ℕ) (to : q < size) where
  some_size : 0 < size
  some_size = omega arith

  pub wait_there : (from + wait_for size least from q) % size ≡ q
  wait_there =
      let r = (from + least) % size in
      let e : from + (least + (q + (size - r)) % size) ≡ from + least + (q + (size - r)) % size = omega arith in
      ap (λ (x : ℕ). x % size) e
      ∙ sym (mod-add-mod (from + least) size ((q + (size - r)) % size))
      ∙ turned_there size r q (mod-lt (from + least) some_size) to

  pub wait_least : least ≤ wait_for size least from q
  wait_least = omega arith

  pub wait_short : wait_for size least from q < least + size
  wait_short = let h = mod-lt (q + (size - (from + least) % size)) some_size in omega arith

  pub wait_first : (w : ℕ) → least ≤ w → (from + w) % size ≡ q → wait_for size least from q ≤ w
  wait_first w h e =
      let r = (from + least) % size in
      let cut : from + w ≡ from + least + (w - least) = omega arith in
      let there : (r + (w - least)) % size ≡ q = mod-add-mod (from + least) size (w - least) ∙ ap (λ (x : ℕ). x % size) (sym cut) ∙ e in
      let f = turned_first size r q (mod-lt (from + least) some_size) to (w - least) there in
      omega arith

-- The delay from a start to a sector.
module _ (d : Drive) (some : 0 < d.sectors) (start k : ℕ) where
  abbrev least_wait : ℕ
  least_wait = cond (eqb (track_of d k) (track_of d start)) 0 d.switch

  position_low : position_of d k < d.sectors
  position_low = mod-lt k some

  least_few : least_wait ≤ d.switch
  least_few =
      ⊎_elim (λ (z : eqb (track_of d k) (track_of d start) ≡ true). rw (cond_true _ 0 d.switch z) (omega arith))
      (λ (z : eqb (track_of d k) (track_of d start) ≡ false). rw (cond_false _ 0 d.switch z) (omega arith))
      (bool? (eqb (track_of d k) (track_of d start)))

  pub delay_there : (position_of d start + delay d start k) % d.sectors ≡ position_of d k
  delay_there = wait_there d.sectors least_wait (position_of d start) (position_of d k) position_low

  pub delay_short : delay d start k < d.switch + d.sectors
  delay_short =
      let h = wait_short d.sectors least_wait (position_of d start) (position_of d k) position_low in
      let few = least_few in
      omega arith

  -- On the start's own track every wait that ends at the position is long enough; on another, one of at least the switch.
  pub delay_own : track_of d k ≡ track_of d start → (w : ℕ) → (position_of d start + w) % d.sectors ≡ position_of d k → delay d start k ≤ w
  delay_own same w e =
      let none : least_wait ≡ 0 = cond_true _ 0 d.switch (eq-eqb (track_of d k) (track_of d start) same) in
      wait_first d.sectors least_wait (position_of d start) (position_of d k) position_low w (omega arith) e

  pub delay_first : (w : ℕ) → d.switch ≤ w → (position_of d start + w) % d.sectors ≡ position_of d k → delay d start k ≤ w
  delay_first w h e =
      let few = least_few in
      wait_first d.sectors least_wait (position_of d start) (position_of d k) position_low w (omega arith) e

  pub delay_switch : (track_of d k ≡ track_of d start → ⊥) → d.switch ≤ delay d start k
  delay_switch other =
      let full : least_wait ≡ d.switch = cond_false _ 0 d.switch (ne_eqb (track_of d k) (track_of d start) other) in
      let h = wait_least d.sectors least_wait (position_of d start) (position_of d k) position_low in
      omega arith

-- The free sector of least delay, the lower of two that tie.
module _ (wait : ℕ → ℕ) (is_used : ℕ → Bool) where
  pub record Nearest (n q : ℕ) : Type 0 where
    pub below : q < n
    pub free : is_used q ≡ false
    pub least : (k : ℕ) → k < n → is_used k ≡ false → wait q ≤ wait k
    pub lowest : (k : ℕ) → k < n → is_used k ≡ false → wait k ≡ wait q → q ≤ k

  NoneFree : ℕ → Type 0
  NoneFree n = (k : ℕ) → k < n → is_used k ≡ true

  Searched : ℕ → Type 0
  Searched n = (NoneFree n × (nearest wait is_used n ≡ 0)) ⊎ Nearest n (nearest wait is_used n)

  -- One sector more: it is used, or the only free one so far, or it is compared with the nearest one before it.
  past_used : (n : ℕ) → is_used n ≡ true → nearest wait is_used (suc n) ≡ nearest wait is_used n
  unfolding nearest
  past_used n e = rw e refl

  only_free : (n : ℕ) → is_used n ≡ false → NoneFree n → nearest wait is_used n ≡ 0 → nearest wait is_used (suc n) ≡ n
  unfolding nearest NoneFree
  only_free zero e none z = stays (not (is_used 0) && (is_used 0 || ltb (wait 0) (wait 0)))
    where
      stays : (b : Bool) → ◌≡◌ {A = ℕ} (cond b 0 0) 0
      stays true = refl
      stays false = refl
  only_free (suc n) e none z = rw (e, z, none 0 (omega arith)) refl

  nearer : (n : ℕ) → is_used n ≡ false → is_used (nearest wait is_used n) ≡ false → wait n < wait (nearest wait is_used n)
      → nearest wait is_used (suc n) ≡ n
  unfolding nearest
  nearer n e f h = rw (e, f, lt-ltb (wait n) (wait (nearest wait is_used n)) h) refl

  no_nearer : (n : ℕ) → is_used n ≡ false → is_used (nearest wait is_used n) ≡ false → wait (nearest wait is_used n) ≤ wait n
      → nearest wait is_used (suc n) ≡ nearest wait is_used n
  unfolding nearest
  no_nearer n e f h = rw (e, f, le-ltb (wait n) (wait (nearest wait is_used n)) h) refl

  one_more : (n : ℕ) → Searched n → Searched (suc n)
  unfolding Searched NoneFree
  one_more n s =
      ⊎_elim (λ (e : is_used n ≡ true).
      ⊎_elim (λ none. inl (λ k h. ⊎_elim (λ (z : k ≡ n). ap is_used z ∙ e) (λ (z : k < n). none.0 k z) (suc_cases h), past_used n e ∙ none.1))
      (λ near. inr (rw (past_used n e) (kept near (λ f. clash (is_used n) e f)))) s)
      (λ (e : is_used n ≡ false).
      ⊎_elim (λ none. inr (rw (only_free n e none.0 none.1) (alone e none.0)))
      (λ near.
      let q = nearest wait is_used n in
      ⊎_elim (λ (z : wait n < wait q). inr (rw (nearer n e near.free z) (taken e near z)))
      (λ (z : wait q ≤ wait n).
      inr (rw (no_nearer n e near.free z)
      (record {
        below = let h = near.below in omega arith;
        free = near.free;
        least = λ k h f. ⊎_elim (λ (y : k ≡ n). rw y z) (λ (y : k < n). near.least k y f) (suc_cases h);
        lowest = λ k h f t. ⊎_elim (λ (y : k ≡ n). let b = near.below in omega arith) (λ (y : k < n). near.lowest k y f t) (suc_cases h);
      })))
      (lt? (wait n) (wait q))) s)
      (bool? (is_used n))
    where
      kept : Nearest n (nearest wait is_used n) → (is_used n ≡ false → ⊥) → Nearest (suc n) (nearest wait is_used n)
      kept near never = record {
        below = let h = near.below in omega arith;
        free = near.free;
        least = λ k h f. ⊎_elim (λ (y : k ≡ n). absurd (never (ap is_used (sym y) ∙ f))) (λ (y : k < n). near.least k y f) (suc_cases h);
        lowest = λ k h f t. ⊎_elim (λ (y : k ≡ n). absurd (never (ap is_used (sym y) ∙ f))) (λ (y : k < n). near.lowest k y f t) (suc_cases h);
      }

      alone : is_used n ≡ false → ((k : ℕ) → k < n → is_used k ≡ true) → Nearest (suc n) n
      alone e none = record {
        below = omega arith;
        free = e;
        least = λ k h f. ⊎_elim (λ (y : k ≡ n). rw y (omega arith)) (λ (y : k < n). clash (is_used k) (none k y) f) (suc_cases h);
        lowest = λ k h f t. ⊎_elim (λ (y : k ≡ n). omega arith) (λ (y : k < n). clash (is_used k) (none k y) f) (suc_cases h);
      }

      taken : is_used n ≡ false → Nearest n (nearest wait is_used n) → wait n < wait (nearest wait is_used n) → Nearest (suc n) n
      taken e near z = record {
        below = omega arith;
        free = e;
        least = λ k h f. ⊎_elim (λ (y : k ≡ n). rw y (omega arith)) (λ (y : k < n). let l = near.least k y f in omega arith) (suc_cases h);
        lowest = λ k h f t. ⊎_elim (λ (y : k ≡ n). omega arith) (λ (y : k < n). let l = near.least k y f in absurd (omega arith)) (suc_cases h);
      }

  searched : (n : ℕ) → Searched n
  unfolding Searched NoneFree nearest
  searched zero = inl (λ k h. absurd (not-suc-le-zero h), refl)
  searched (suc n) = one_more n (searched n)

  pub nearest_is : (n k : ℕ) → k < n → is_used k ≡ false → Nearest n (nearest wait is_used n)
  unfolding Searched NoneFree
  nearest_is n k h f = ⊎_elim (λ none. clash (is_used k) (none.0 k h) f) (λ near. near) (searched n)

  -- No other sector is it.
  pub nearest_alone : (n q : ℕ) → Nearest n q → nearest wait is_used n ≡ q
  nearest_alone n q near =
      let it = nearest_is n q near.below near.free in
      let p = nearest wait is_used n in
      let a = it.least q near.below near.free in
      let b = near.least p it.below it.free in
      let same : wait q ≡ wait p = omega arith in
      let c = it.lowest q near.below near.free same in
      let e = near.lowest p it.below it.free (sym same) in
      omega arith

  pub none_free : (n : ℕ) → ((k : ℕ) → k < n → is_used k ≡ true) → nearest wait is_used n ≡ 0
  unfolding Searched
  none_free n none = ⊎_elim (λ s. s.1) (λ near. clash (is_used (nearest wait is_used n)) (none (nearest wait is_used n) near.below) near.free) (searched n)
