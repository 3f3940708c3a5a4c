-- The tables of a format, as the code fills them.
use Prim.Native.Nat.{ℕ, zero, suc, ◌+◌, ◌/◌, ◌%◌, ◌^◌, ◌≤◌, ◌<◌}
use mathlib.Core.Path.{◌≡◌, refl, sym, ◌∙◌, ap, fun_ext}
use mathlib.Core.Logic.{⊎_elim}
use mathlib.Core.Bool.{Bool, true, false}
use mathlib.Core.List.{List, []}
use native.Mathlib.Nat.{zero-div}
use native.Mathlib.Omega.{arith}
use lib.ListN.{replicate}
use lib.Dec.{eqb, ltb}
use borrow.Author.Tests.{eq-eqb, ne_eqb, lt-ltb, le-ltb}
use Rattle.laws.proofs.Filling.{zeros_get}
use Rattle.geometry.specs.Geometry.{pieces_for}
use Rattle.layout.specs.Bounded.{at, elem, always, gathered, list_from, tabled, updated}
use Rattle.volume.specs.Tables.{bit_at, tables_of, zero_tables, named_by, used_by}
use Rattle.volume.specs.Format.{format_tables}
use Rattle.laws.proofs.Bounded.{lt?, eq?, gathered_has, gathered_own, not_elem, tabled_at}

-- Zeros.
pub zeros_at : (n : ℕ) → at (replicate n 0) ≡ (λ _. 0)
zeros_at n = fun_ext (zeros_get n)

pub zeros_bits : (n : ℕ) → bit_at (replicate n 0) ≡ (λ _. false)
unfolding bit_at
zeros_bits n =
    fun_ext (λ k.
    ap (λ (x : ℕ). eqb (x / 2 ^ (k % 8) % 2) 1) (zeros_get n (k / 8)) ∙ ap (λ (x : ℕ). eqb (x % 2) 1) (zero-div (2 ^ (k % 8))))

pub zero_tables_lem : (mp pl nu us : List ℕ) (a b c d : ℕ) → mp ≡ replicate a 0 → pl ≡ replicate b 0 → nu ≡ replicate c 0 → us ≡ replicate d 0
    → tables_of mp pl nu us ≡ zero_tables
zero_tables_lem mp pl nu us a b c d e f g h = rw (e, f, g, h, zeros_at a, zeros_at b, zeros_at c, zeros_bits d) refl

-- The first sectors marked, one more at a time.
pub first_none : (us : List ℕ) (n : ℕ) → us ≡ replicate n 0 → bit_at us ≡ (λ k. ltb k 0)
first_none us n e = ap bit_at e ∙ zeros_bits n ∙ fun_ext (λ k. sym (le-ltb k 0 (omega arith)))

pub first_more : (us us' : List ℕ) (k : ℕ) → bit_at us ≡ (λ j. ltb j k) → bit_at us' ≡ updated (bit_at us) k true → bit_at us' ≡ (λ j. ltb j (k + 1))
first_more us us' k e f =
    f ∙ ap (λ (bits : ℕ → Bool). updated bits k true) e
    ∙ fun_ext (λ j.
    ⊎_elim (λ (z : j ≡ k). rw (eq-eqb j k z, lt-ltb j (k + 1) (omega arith)) refl)
    (λ (z : j ≡ k → ⊥).
    ⊎_elim (λ (h : j < k). rw (ne_eqb j k z, lt-ltb j k h, lt-ltb j (k + 1) (omega arith)) refl)
    (λ (h : k ≤ j). rw (ne_eqb j k z, le-ltb j k h, le-ltb j (k + 1) (let y : j ≡ k → ⊥ = z in omega arith)) refl) (lt? j k))
    (eq? j k))

-- Sector 0 and the places of a fresh map are the first P + 1 sectors.
no_blocks : (l : ℕ) (others : List ℕ) (value : ℕ → ℕ) → gathered (λ _. false) value others l ≡ others
unfolding gathered
no_blocks zero others value = refl
no_blocks (suc l) others value = no_blocks l others value

module _ (pieces : ℕ) where
  abbrev place : ℕ → ℕ
  place = tabled 0 pieces suc

  abbrev named : List ℕ
  named = gathered always place [] pieces

  inside : (k : ℕ) → k < pieces → elem (suc k) named ≡ true
  inside k h = ap (λ (x : ℕ). elem x named) (sym (tabled_at 0 pieces suc k h)) ∙ gathered_own always place [] pieces k h refl

  outside : (k : ℕ) → pieces < k → elem k named ≡ false
  unfolding elem
  outside k h =
      not_elem k named (λ (e : elem k named ≡ true).
      ⊎_elim (λ (z : elem k [] ≡ true). let y : ◌≡◌ {A = ℕ} 0 1 = cc in omega arith)
      (λ w.
      let a = w.1 in
      let b = tabled_at 0 pieces suc w.0 w.1 in
      let d = w.3 in
      omega arith)
      (gathered_has always place [] pieces k e))

  fresh_used : used_by named ≡ (λ k. ltb k (pieces + 1))
  unfolding used_by
  fresh_used =
      fun_ext (λ k. at_sector k)
    where
      at_sector : (k : ℕ) → used_by named k ≡ ltb k (pieces + 1)
      at_sector zero = sym (lt-ltb 0 (pieces + 1) (omega arith))
      at_sector (suc k) =
          ⊎_elim (λ (h : k < pieces). rw (ne_eqb (suc k) 0 (λ (z : suc k ≡ 0). omega arith), inside k h, lt-ltb (suc k) (pieces + 1) (omega arith)) refl)
          (λ (h : pieces ≤ k). rw (ne_eqb (suc k) 0 (λ (z : suc k ≡ 0). omega arith), outside (suc k) (omega arith), le-ltb (suc k) (pieces + 1) (omega arith)) refl)
          (lt? k pieces)

pub fresh_tables : (l : ℕ) (mp pl nu us : List ℕ) (a pieces : ℕ) → pieces ≡ pieces_for l → mp ≡ replicate a 0 → pl ≡ list_from suc 0 pieces
    → nu ≡ list_from suc 0 pieces → bit_at us ≡ (λ k. ltb k (pieces + 1)) → tables_of mp pl nu us ≡ format_tables l
unfolding format_tables named_by tabled
fresh_tables l mp pl nu us a pieces p e f g h =
    rw (h, e, f, g, zeros_at a, p, no_blocks l (gathered always (tabled 0 (pieces_for l) suc) [] (pieces_for l)) (λ _. 0), fresh_used (pieces_for l)) refl
