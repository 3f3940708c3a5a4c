-- Tables whose used map is made of what they name: it need not be compared.
use Prim.Native.Nat.{ℕ, ◌+◌, ◌-◌, ◌/◌, ◌%◌, ◌^◌, ◌≤◌, ◌<◌}
use mathlib.Core.Path.{◌≡◌, sym, ◌∙◌, ap, fun_ext}
use mathlib.Core.Logic.{⊎_elim}
use mathlib.Core.Bool.{Bool, true, false, not, ◌&&◌, true≢false}
use mathlib.Core.List.{List}
use native.Mathlib.Omega.{arith}
use lib.ListN.{length, take}
use lib.Seq.{get_or-take, length-take-le}
use lib.Dec.{eqb, leb}
use Rattle.geometry.specs.declared.Geometry.{Geometry}
use Rattle.geometry.specs.Geometry.{within, pieces_for, used_bytes}
use Rattle.layout.specs.Bounded.{at, all}
use Rattle.volume.specs.Tables.{bit_at, named_by, used_by, free_sectors, consistent}
use Rattle.soundness.specs.Parts.{names_sound}
use Rattle.log_tables.specs.LogTables.{tables_named}
use Rattle.laws.proofs.Bounded.{lt?, past_end}
use Rattle.names.proofs.Marking.{not_false, zero_bit, unnamed}
use Rattle.soundness.proofs.Sounding.{names_fail, room_decides, bits_made, sound_fails, numbers_decide}
use Rattle.numbers.proofs.Numbering.{Agree}

no_claim : (P : Type 0) → false ≡ true → P
no_claim P z = absurd (true≢false (sym z))

module _ (g : Geometry) (entry place : ℕ → ℕ) where
  abbrev Bits : ℕ → Bool
  Bits = used_by (named_by g.l entry place)

  -- What is answered of names and used bits, and the bits then.
  abbrev pub Made : Bool → (ℕ → Bool) → Type 0
  Made r bits = (r ≡ names_sound g entry place Bits) × (r ≡ true → bits ≡ Bits)

  module _ (r : Bool) (h : r ≡ all (within 1 (g.n - 1)) (named_by g.l entry place)) where
    pub outside : not r ≡ true → (bits : ℕ → Bool) → Made false bits
    outside e bits = (names_fail g entry place Bits r h e, no_claim (bits ≡ Bits))

    pub room_made : not r ≡ false → 1 ≤ g.n → (bits : ℕ → Bool) → bits ≡ Bits → (free count : ℕ) → free ≡ free_sectors g.n bits
        → count ≡ length (named_by g.l entry place) → (o : Bool) → o ≡ (eqb (free + count + 1) g.n && leb (pieces_for g.l) free) → Made o bits
    room_made e some bits made free count counted named o w =
        (room_decides g entry place Bits r h e (bits_made g entry place) some free count (counted ∙ ap (free_sectors g.n) made) named o w, λ z. made)

-- A used map that takes the marks: past its end there is no name.
pub taken_bits : (n : ℕ) (named : List ℕ) → all (within 1 (n - 1)) named ≡ true → 1 ≤ n → (ms : List ℕ) → bit_at ms ≡ used_by named
    → (len : ℕ) → len ≡ used_bytes n → len ≤ length ms → (us : List ℕ) → us ≡ take len ms → bit_at us ≡ used_by named
unfolding bit_at
taken_bits n named inside some ms made len long most us z =
    fun_ext (λ k.
    ⊎_elim (λ (b : k / 8 < len).
    let here : at us (k / 8) ≡ at ms (k / 8) = ap (λ (xs : List ℕ). at xs (k / 8)) z ∙ get_or-take len ms (k / 8) 0 b in
    ap (λ (x : ℕ). eqb (x / 2 ^ (k % 8) % 2) 1) here ∙ ap (λ (f : ℕ → Bool). f k) made)
    (λ (b : len ≤ k / 8).
    let size : length us ≡ len = ap length z ∙ length-take-le len ms most in
    let none : at us (k / 8) ≡ 0 = sym (past_end us (k / 8) (omega arith)) in
    ap (λ (x : ℕ). eqb (x / 2 ^ (k % 8) % 2) 1) none ∙ zero_bit (k % 8) (omega arith)
    ∙ sym (unnamed n named inside k some (omega arith)))
    (lt? (k / 8) len))

-- What is answered of the tables, and the bits then.
module _ (g : Geometry) (map places numbers : List ℕ) (tail number : ℕ) (r : Bool) (bits : ℕ → Bool) (h : Made g (at map) (at places) r bits) where
  abbrev pub Agrees : Bool → Type 0
  Agrees u = (u ≡ consistent g (tables_named g.l map places numbers) tail number) × (u ≡ true → bits ≡ Bits g (at map) (at places))

  pub used_fails : not r ≡ true → Agrees false
  used_fails e = (sound_fails g (tables_named g.l map places numbers) tail number r h.0 e, no_claim (bits ≡ Bits g (at map) (at places)))

  pub numbers_tell : not r ≡ false → (m : ℕ) → m ≡ pieces_for g.l → (u : Bool) → u ≡ Agree (at places) (at numbers) m tail number → Agrees u
  numbers_tell e m same u v =
      (numbers_decide g (tables_named g.l map places numbers) tail number r h.0 e m same u v, λ z. h.1 (not_false r e))
