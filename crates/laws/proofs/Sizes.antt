-- N and L in range, and the view of an image.
use Prim.Native.Nat.{ℕ, ◌+◌, ◌*◌, ◌≤◌, ◌<◌}
use mathlib.Core.Path.{◌≡◌, sym, ◌∙◌, ap}
use mathlib.Core.Logic.{⊎_elim}
use mathlib.Core.Bool.{true, ◌&&◌}
use mathlib.Core.List.{List}
use mathlib.Core.Option.{none, some}
use native.Mathlib.Omega.{arith}
use lib.ListN.{length}
use lib.Dec.{leb, eqb}
use borrow.Author.Tests.{leb-true, eqb-true}
use Rattle.geometry.specs.declared.Geometry.{Geometry}
use Rattle.geometry.specs.Geometry.{within, pieces_for, used_bytes, geometry_fits}
use Rattle.state.specs.declared.State.{State}
use Rattle.layout.specs.MapSector.{MapSector, decoded}
use Rattle.volume.specs.Tables.{memory}
use Rattle.volume.specs.Format.{tables_fit}
use Rattle.volume.specs.Calls.{state_fits}
use Rattle.volume.specs.Recover.{image_view}
use Rattle.laws.proofs.Bounded.{lt?, and_l, and_r, tabled_at, tabled_past}

-- N and L in range.
pub record Fits (g : Geometry) : Type 0 where
  pub some : 1 ≤ g.l
  pub most : g.l ≤ 24576
  pub least : 2 * pieces_for g.l + 2 ≤ g.n
  pub sectors : g.n ≤ 65536

pub fits : (g : Geometry) → geometry_fits g ≡ true → Fits g
fits g e =
    let a = and_l (within 1 24576 g.l) (within (2 * pieces_for g.l + 2) 65536 g.n) e in
    let b = and_r (within 1 24576 g.l) (within (2 * pieces_for g.l + 2) 65536 g.n) e in
    record {
      some = leb-true 1 g.l (and_l (leb 1 g.l) (leb g.l 24576) a);
      most = leb-true g.l 24576 (and_r (leb 1 g.l) (leb g.l 24576) a);
      least = leb-true (2 * pieces_for g.l + 2) g.n (and_l (leb (2 * pieces_for g.l + 2) g.n) (leb g.n 65536) b);
      sectors = leb-true g.n 65536 (and_r (leb (2 * pieces_for g.l + 2) g.n) (leb g.n 65536) b);
    }

-- The view of an image: below N the sectors decoded, past it nothing.
pub view_at : (g : Geometry) (image : ℕ → List ℕ) (k : ℕ) → k < g.n → image_view g image k ≡ decoded g (image k)
unfolding image_view
view_at g image k h = tabled_at none g.n (λ j. decoded g (image j)) k h

pub view_below : (g : Geometry) (image : ℕ → List ℕ) (k : ℕ) (a : MapSector) → image_view g image k ≡ some a → k < g.n
unfolding image_view
view_below g image k a e =
    ⊎_elim (λ (z : k < g.n). z)
    (λ (z : g.n ≤ k).
    let q = tabled_past none g.n (λ j. decoded g (image j)) k z in
    let c : ◌≡◌ {A = ℕ} 0 1 = cc in
    omega arith)
    (lt? k g.n)

pub view_same : (g : Geometry) (image other : ℕ → List ℕ) (k : ℕ) → image k ≡ other k → image_view g image k ≡ image_view g other k
unfolding image_view
view_same g image other k e =
    ⊎_elim (λ (z : k < g.n).
    tabled_at none g.n (λ j. decoded g (image j)) k z ∙ ap (decoded g) e ∙ sym (tabled_at none g.n (λ j. decoded g (other j)) k z))
    (λ (z : g.n ≤ k).
    tabled_past none g.n (λ j. decoded g (image j)) k z ∙ sym (tabled_past none g.n (λ j. decoded g (other j)) k z))
    (lt? k g.n)

pub some_pieces : (l : ℕ) → 1 ≤ l → 0 < pieces_for l
some_pieces l h = omega arith

-- The lengths of lent slices that refusals 1 and 2 let through.
pub record TablesFit (mp pl nu us : List ℕ) (g : Geometry) : Type 0 where
  pub map : length mp ≡ g.l
  pub places : length pl ≡ pieces_for g.l
  pub numbers : length nu ≡ pieces_for g.l
  pub used : length us ≡ used_bytes g.n

pub tables_fit_lem : (im mp pl nu us : List ℕ) (g : Geometry) → tables_fit (memory im mp pl nu us) g ≡ true → TablesFit mp pl nu us g
unfolding tables_fit memory
tables_fit_lem im mp pl nu us g e =
    let c1 = eqb (length mp) g.l in
    let c2 = eqb (length pl) (pieces_for g.l) in
    let c3 = eqb (length nu) (pieces_for g.l) in
    let c4 = eqb (length us) (used_bytes g.n) in
    let e3 = and_l (c1 && c2 && c3) c4 e in
    let e2 = and_l (c1 && c2) c3 e3 in
    record {
      map = eqb-true (length mp) g.l (and_l c1 c2 e2);
      places = eqb-true (length pl) (pieces_for g.l) (and_r c1 c2 e2);
      numbers = eqb-true (length nu) (pieces_for g.l) (and_r (c1 && c2) c3 e3);
      used = eqb-true (length us) (used_bytes g.n) (and_r (c1 && c2 && c3) c4 e);
    }

pub record StateFits (s : State) (im : List ℕ) : Type 0 where
  pub range : geometry_fits s.geometry ≡ true
  pub image : length im ≡ 512 * s.geometry.n

pub state_fits_lem : (s : State) (im mp pl nu us : List ℕ) → state_fits s (memory im mp pl nu us) ≡ true → StateFits s im
unfolding state_fits memory
state_fits_lem s im mp pl nu us e =
    let a = eqb (length im) (512 * s.geometry.n) in
    let b = geometry_fits s.geometry in
    record { range = and_r a b e; image = eqb-true (length im) (512 * s.geometry.n) (and_l a b e) }
