-- The live sectors: one that is listed after the other is put in, and in the end they are the definition's.
use Prim.Native.Nat.{ℕ, suc, ◌≤◌, ◌<◌}
use mathlib.Core.Path.{◌≡◌, refl, sym, ◌∙◌, ap, ap₂, subst}
use mathlib.Core.Logic.{⊎_elim}
use mathlib.Core.Bool.{Bool, true, false, cond, not, ◌&&◌}
use mathlib.Core.List.{List}
use native.Mathlib.Numerals.{add-one}
use lib.ListN.{length, set, replicate, length-set, length-replicate}
use lib.Dec.{eqb, leb, ltb}
use borrow.Author.Tests.{eqb-true, le-leb, lt-leb, not-false, not-true}
use Rattle.layout.specs.Bounded.{at, is_zero}
use Rattle.layout.specs.MapSector.{View}
use Rattle.volume.specs.Recover.{number_in, piece_in, piece_number, scan_place, signed_numbers}
use Rattle.laws.proofs.Bounded.{lt?, clash}
use Rattle.signed.specs.Signed.{signed_sectors, signed_pieces, Listed, stepped}
use Rattle.signed.proofs.Listing.{stepped_all}
use Rattle.signed.proofs.Newest.{Live, live_none, live_skip, live_raise, live_all, keys_zero, keys_above, key_own, keys_other}
use Rattle.signed.proofs.ViewLaws.{number_of_piece}
use Rattle.log_tables.specs.LogTables.{raised, live_places, live_numbers}

-- One that is listed.
module _ (c k x q : ℕ) (places numbers : List ℕ) where
  abbrev Before : List ℕ × List ℕ
  Before = (places, numbers)

  pub raised_not : c < x → Before ≡ raised c k x q Before
  unfolding raised
  raised_not h = sym (ap (λ (b : Bool). cond (b && ltb (at numbers q) x) (set places q k, set numbers q x) Before) (lt-leb x c h))

  pub raised_so : x ≤ c → (places' numbers' : List ℕ) → places' ≡ cond (ltb (at numbers q) x) (set places q k) places
      → numbers' ≡ cond (ltb (at numbers q) x) (set numbers q x) numbers → ◌≡◌ {A = List ℕ × List ℕ} (places', numbers') (raised c k x q Before)
  unfolding raised
  raised_so h places' numbers' e f =
      ap₂ (λ (a b : List ℕ). (a, b)) e f ∙ both (ltb (at numbers q) x)
      ∙ sym (ap (λ (b : Bool). cond (b && ltb (at numbers q) x) (set places q k, set numbers q x) Before) (le-leb x c h))
    where
      both : (b : Bool) → ◌≡◌ {A = List ℕ × List ℕ} (cond b (set places q k) places, cond b (set numbers q x) numbers) (cond b (set places q k, set numbers q x) (places, numbers))
      both true = refl
      both false = refl

-- All of them, given that a signed sector's piece is one of the pieces.
module _ (view : View) (c pieces : ℕ) (inside : (k : ℕ) → (number_in (view k) ≡ 0 → ⊥) → piece_in (view k) < pieces) where
  key : ℕ → ℕ → ℕ
  key p k = piece_number c p (view k)

  key_is : (p k : ℕ) → cond (eqb (piece_in (view k)) p && leb (number_in (view k)) c) (number_in (view k)) 0 ≡ key p k
  unfolding key
  key_is p k = number_of_piece c p (view k)

  abbrev Found : ℕ → List ℕ × List ℕ → Type 0
  Found k t = (length t.0 ≡ pieces) × (length t.1 ≡ pieces) × Live key pieces k t.0 t.1

  passed : (k : ℕ) (t : List ℕ × List ℕ) → ((p : ℕ) → key p k ≡ 0) → Found k t → Found (suc k) t
  passed k t z f = (f.0, f.1, subst (λ (x : ℕ). Live key pieces x t.0 t.1) (add-one k) (live_skip key pieces k t.0 t.1 z f.2))

  put : (k : ℕ) (t : List ℕ × List ℕ) → (number_in (view k) ≡ 0 → ⊥) → Found k t → Found (suc k) (raised c k (number_in (view k)) (piece_in (view k)) t)
  put k t d f =
      let x = number_in (view k) in
      let q = piece_in (view k) in
      ⊎_elim (λ (h : c < x).
      subst (Found (suc k)) (raised_not c k x q t.0 t.1 h) (passed k t (λ p. sym (key_is p k) ∙ keys_above c x q h p) f))
      (λ (h : x ≤ c).
      let b = ltb (at t.1 q) x in
      let ps = cond b (set t.0 q k) t.0 in
      let ns = cond b (set t.1 q x) t.1 in
      subst (Found (suc k)) (raised_so c k x q t.0 t.1 h ps ns refl refl) (
        either b (set t.0 q k) t.0 (length-set t.0 q k ∙ f.0) f.0,
        either b (set t.1 q x) t.1 (length-set t.1 q x ∙ f.1) f.1,
        subst (λ (y : ℕ). Live key pieces y ps ns) (add-one k)
            (live_raise key pieces k q x t.0 t.1 f.0 f.1 (inside k d) (sym (key_is q k) ∙ key_own c x q h)
            (λ p e. sym (key_is p k) ∙ keys_other c x q h p e) f.2 ps ns refl refl),
      ))
      (lt? c x)
    where
      either : (b : Bool) (xs ys : List ℕ) → length xs ≡ pieces → length ys ≡ pieces → length (cond b xs ys) ≡ pieces
      either true xs ys e f = e
      either false xs ys e f = f

  pub live_listed : (n : ℕ) (sectors numbered of_piece places₀ numbers₀ places numbers : List ℕ) → 0 < n → Listed view n sectors numbered of_piece
      → places₀ ≡ replicate pieces 0 → numbers₀ ≡ replicate pieces 0
      → ◌≡◌ {A = List ℕ × List ℕ} (places, numbers) (stepped (raised c) sectors numbered of_piece (places₀, numbers₀))
      → (places ≡ live_places view c n pieces) × (numbers ≡ live_numbers view c n pieces)
  unfolding signed_sectors signed_numbers signed_pieces live_places live_numbers scan_place key
  live_listed n sectors numbered of_piece places₀ numbers₀ places numbers pos l e f r =
      let start : Found 0 (places₀, numbers₀) =
      (ap length e ∙ length-replicate pieces 0, ap length f ∙ length-replicate pieces 0, live_none key pieces places₀ numbers₀ e f) in
      let whole = stepped_all (raised c) (λ k. not (is_zero (number_in (view k)))) (λ k. number_in (view k)) (λ k. piece_in (view k)) Found (places₀, numbers₀) start
      (λ k t z. passed k t (λ p. sym (key_is p k) ∙ keys_zero c (number_in (view k)) (piece_in (view k)) (eqb-true (number_in (view k)) 0 (not-false (is_zero (number_in (view k))) z)) p))
      (λ k t z. put k t (λ (y : number_in (view k) ≡ 0). clash (is_zero (number_in (view k))) (is_zero_lem k y) (not-true (is_zero (number_in (view k))) z))) n in
      let same : ◌≡◌ {A = List ℕ × List ℕ} (places, numbers) (stepped (raised c) (signed_sectors view n) (signed_numbers view n) (signed_pieces view n) (places₀, numbers₀)) =
      r ∙ ap (λ (xs : List ℕ). stepped (raised c) xs numbered of_piece (places₀, numbers₀)) l.sector
      ∙ ap (λ (xs : List ℕ). stepped (raised c) (signed_sectors view n) xs of_piece (places₀, numbers₀)) l.number
      ∙ ap (λ (xs : List ℕ). stepped (raised c) (signed_sectors view n) (signed_numbers view n) xs (places₀, numbers₀)) l.piece in
      let found : Found n (places, numbers) = subst (Found n) (sym same) whole in
      live_all key pieces n n places numbers refl pos found.0 found.1 found.2
    where
      is_zero_lem : (k : ℕ) → number_in (view k) ≡ 0 → is_zero (number_in (view k)) ≡ true
      is_zero_lem k y = ap is_zero y
