-- Tables that agree with an image: the test of refusal 5, as facts and back.
use Prim.Native.Nat.{ℕ, ◌^◌, ◌≤◌, ◌<◌}
use mathlib.Core.Path.{◌≡◌, refl, sym, ◌∙◌, ap₂}
use mathlib.Core.Bool.{true, ◌&&◌, true≢false}
use mathlib.Core.List.{List, [], ◌∷◌}
use mathlib.Core.Option.{Option, none, some}
use native.Mathlib.Omega.{arith}
use lib.Dec.{eqb}
use borrow.Author.Tests.{eq-eqb, eqb-true}
use Rattle.geometry.specs.declared.Geometry.{Geometry}
use Rattle.state.specs.declared.State.{State}
use Rattle.geometry.specs.Geometry.{pieces_for}
use Rattle.layout.specs.Bounded.{same}
use Rattle.layout.specs.MapSector.{MapSector}
use Rattle.volume.specs.Tables.{Tables, Memory, named_by, used_by, consistent, piece_entries, says_piece, live_valid}
use Rattle.volume.specs.Calls.{view_of, tables_agree}
use Rattle.volume.specs.Recover.{image_view}
use Rattle.laws.proofs.Bounded.{and_l, and_r, and_i, all_below_at, all_below_is, best_most}
use Rattle.laws.proofs.Lists.{same_is}
use Rattle.laws.proofs.Names.{piece, Sound, sound, sound_consistent}
use Rattle.laws.proofs.Sizes.{Fits, view_at, view_below}

-- Sound tables of words, each live place signed with its piece, number and entries.
pub record Agreed (g : Geometry) (image : ℕ → List ℕ) (t : Tables) (tail number : ℕ) : Type 0 where
  pub sound : Sound g t tail number
  pub words : (b : ℕ) → b < g.l → t.entry b < 2 ^ 32
  pub live : (p : ℕ) → p < pieces_for g.l
      → (m : MapSector) × (image_view g image (t.place p) ≡ some m) × (m.piece ≡ p) × (m.number ≡ t.number p)
      × (m.entries ≡ piece_entries g.l t.entry p)

module _ {g : Geometry} {t : Tables} {tail number : ℕ} (s : Sound g t tail number) where
  pub used_below : (k : ℕ) → k < g.n → t.is_used k ≡ used_by (named_by g.l t.entry t.place) k
  used_below k h = s.used k (omega arith)

  pub number_most : (p : ℕ) → p < pieces_for g.l → t.number p ≤ number
  number_most p h = rw s.number_is (best_most t.number (pieces_for g.l) p h)

same_true : (xs ys : List ℕ) → same xs ys ≡ true → xs ≡ ys
unfolding same
same_true [] [] e = refl
same_true [] (y ∷ ys) e = absurd (true≢false (sym e))
same_true (x ∷ xs) [] e = absurd (true≢false (sym e))
same_true (x ∷ xs) (y ∷ ys) e =
    ap₂ ◌∷◌ (eqb-true x y (and_l (eqb x y) (same xs ys) e)) (same_true xs ys (and_r (eqb x y) (same xs ys) e))

-- What a sector says, as the test has it and as facts.
module _ (p number : ℕ) (entries : List ℕ) where
  abbrev Says : Option MapSector → Type 0
  Says o = (m : MapSector) × (o ≡ some m) × (m.piece ≡ p) × (m.number ≡ number) × (m.entries ≡ entries)

  says : (o : Option MapSector) → says_piece o p number entries ≡ true → Says o
  unfolding says_piece
  says none e = absurd (true≢false (sym e))
  says (some m) e =
      let both = and_l (eqb m.piece p && eqb m.number number) (same m.entries entries) e in (
        m,
        refl,
        eqb-true m.piece p (and_l (eqb m.piece p) (eqb m.number number) both),
        eqb-true m.number number (and_r (eqb m.piece p) (eqb m.number number) both),
        same_true m.entries entries (and_r (eqb m.piece p && eqb m.number number) (same m.entries entries) e),
      )

  said : (o : Option MapSector) → Says o → says_piece o p number entries ≡ true
  unfolding says_piece
  said o w =
      rw (w.1, eq-eqb w.0.piece p w.2, eq-eqb w.0.number number w.3, w.4) (same_is entries)

module _ (s : State) (m : Memory) where
  pub agree_agreed : Fits s.geometry → ((b : ℕ) → b < s.geometry.l → m.tables.entry b < 2 ^ 32) → tables_agree s m ≡ true
      → Agreed s.geometry m.image m.tables s.tail s.number
  unfolding tables_agree live_valid
  agree_agreed fit words e =
      let g = s.geometry in
      let t = m.tables in
      let view = view_of g m.image in
      let tests = consistent g t s.tail s.number in
      let facts = sound g t s.tail s.number (and_l tests (live_valid g.l t view) e) in
      record {
        sound = facts;
        words = words;
        live = λ p h.
            let w = says p (t.number p) (piece_entries g.l t.entry p) (view (t.place p))
            (all_below_at (λ q. says_piece (view (t.place q)) q (t.number q) (piece_entries g.l t.entry q)) (pieces_for g.l)
            (and_r tests (live_valid g.l t view) e) p h) in
            let below : t.place p < g.n = (let a = facts.high (piece p) h in let b = fit.least in omega arith) in
            (w.0, view_at g m.image (t.place p) below ∙ w.1, w.2, w.3, w.4);
      }

  pub agreed_agree : Agreed s.geometry m.image m.tables s.tail s.number → tables_agree s m ≡ true
  unfolding tables_agree live_valid
  agreed_agree a =
      let g = s.geometry in
      let t = m.tables in
      let view = view_of g m.image in
      and_i (consistent g t s.tail s.number) (live_valid g.l t view) (sound_consistent g t s.tail s.number a.sound)
      (all_below_is (λ q. says_piece (view (t.place q)) q (t.number q) (piece_entries g.l t.entry q)) (pieces_for g.l)
      (λ p h.
      let w = a.live p h in
      said p (t.number p) (piece_entries g.l t.entry p) (view (t.place p))
      (w.0, sym (view_at g m.image (t.place p) (view_below g m.image (t.place p) w.0 w.1)) ∙ w.1, w.2, w.3, w.4)))
