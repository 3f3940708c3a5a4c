-- The stores of a commit: where they go, that what the tables name keeps its bytes, and what stands at the new places.
use Prim.Native.Nat.{ℕ, ◌+◌, ◌<◌}
use mathlib.Core.Path.{◌≡◌, refl, sym, ◌∙◌, ap, subst}
use mathlib.Core.Logic.{◌⊎◌, inl, inr, ⊎_elim}
use mathlib.Core.Bool.{true, false}
use mathlib.Core.List.{List, ◌++◌}
use mathlib.Core.Option.{some}
use native.Mathlib.Omega.{arith}
use Rattle.geometry.specs.Geometry.{pieces_for}
use Rattle.layout.specs.Bounded.{at, always}
use Rattle.layout.specs.MapSector.{decoded, encoded}
use Rattle.volume.specs.Store.{Store, applied, stores_below}
use Rattle.volume.specs.Commit.{rank, data_store, member_store, commit_stores}
use Rattle.volume.specs.Recover.{image_view}
use Rattle.laws.proofs.Names.{Name, piece, Named, sector_named}
use Rattle.laws.proofs.Stores.{Among, among_append, among_left, among_right, applied_at, applied_skip, below_has, below_own}
use Rattle.laws.proofs.Sizes.{view_at, view_same}
use Rattle.agreement.proofs.Plan.{Start, plan, written_below, rank_below, rank_once, at_below, at_once, named_other, member_place_lem}
use Rattle.agreement.proofs.Members.{tables', place_written, place_unwritten, member_of, member_signed}

module _ (g : Start) where
  open g use {s, t, image, change}

  unfoldable pub data_of : ℕ → Store
  data_of = data_store (plan g) change

  unfoldable pub map_of : ℕ → Store
  map_of = member_store s t (plan g) change

  data_sector : (i : ℕ) → (data_of i).sector ≡ at (plan g).places i
  unfolding data_of data_store
  data_sector i = refl

  pub data_bytes : (i : ℕ) → (data_of i).bytes ≡ change.content i
  unfolding data_of data_store
  data_bytes i = refl

  pub map_sector : (p : ℕ) → (map_of p).sector ≡ at (plan g).places (change.data_sectors + rank (plan g) p)
  unfolding map_of member_store
  map_sector p = member_place_lem g (rank (plan g) p)

  pub map_bytes : (p : ℕ) → (map_of p).bytes ≡ encoded s.geometry.l (member_of g p)
  unfolding map_of member_store
  map_bytes p = refl

  pub stores_are : commit_stores s t (plan g) change
      ≡ stores_below always data_of change.data_sectors ++ stores_below (plan g).written map_of (pieces_for s.geometry.l)
  unfolding commit_stores data_of map_of
  stores_are = refl

  -- A store of the commit: a data sector, or a member that is allowed.
  unfoldable pub Kind : (ℕ → Type 0) → Store → Type 0
  Kind Allowed r =
      ((i : ℕ) × (i < change.data_sectors) × (r ≡ data_of i)) ⊎ ((p : ℕ) × ((plan g).written p ≡ true) × Allowed p × (r ≡ map_of p))

  -- Any run of such stores.
  module _ (ss : List Store) (Allowed : ℕ → Type 0) (kinds : (r : Store) → Among r ss → Kind Allowed r) where
    -- Where a store goes: to the j-th place.
    pub goes : (r : Store) → Among r ss → (j : ℕ) × (j < change.data_sectors + (plan g).members) × (r.sector ≡ at (plan g).places j)
    unfolding Kind
    goes r a =
        ⊎_elim (λ w. (w.0, let x = w.1 in omega arith, ap (λ (x : Store). x.sector) w.2 ∙ data_sector w.0))
        (λ w. (
          change.data_sectors + rank (plan g) w.0,
          let x = rank_below g w.0 w.1 in omega arith,
          ap (λ (x : Store). x.sector) w.3 ∙ map_sector w.0,
        ))
        (kinds r a)

    pub kept : (x : Name) → Named s.geometry.l t.entry t.place x
        → applied ss image (sector_named s.geometry.l t.entry t.place x) ≡ image (sector_named s.geometry.l t.entry t.place x)
    kept x h =
        applied_skip ss image (sector_named s.geometry.l t.entry t.place x)
        (λ r a e. let w = goes r a in named_other g x h w.0 w.1 (sym w.2 ∙ e))

  -- All of them made.
  abbrev pub image' : ℕ → List ℕ
  image' = applied (commit_stores s t (plan g) change) image

  abbrev pub Any : ℕ → Type 0
  Any p = Unit {0}

  pub kinds : (r : Store) → Among r (commit_stores s t (plan g) change) → Kind Any r
  unfolding Kind
  kinds r a =
      ⊎_elim (λ x. let w = below_has always data_of change.data_sectors r x in inl (w.0, w.1, w.3))
      (λ x. let w = below_has (plan g).written map_of (pieces_for s.geometry.l) r x in inr (w.0, w.2, tt, w.3))
      (among_append r (stores_below always data_of change.data_sectors) (stores_below (plan g).written map_of (pieces_for s.geometry.l))
      (subst (Among r) stores_are a))

  -- What stands at the new places.
  pub data_stands : (i : ℕ) → i < change.data_sectors → image' (at (plan g).places i) ≡ change.content i
  unfolding Kind
  data_stands i h =
      let mine : Among (data_of i) (commit_stores s t (plan g) change) =
      subst (Among (data_of i)) (sym stores_are)
      (among_left (stores_below (plan g).written map_of (pieces_for s.geometry.l)) (below_own always data_of change.data_sectors i h refl)) in
      subst (λ (k : ℕ). image' k ≡ change.content i) (data_sector i)
      (applied_at (commit_stores s t (plan g) change) image (data_of i) mine
      (λ r a e.
      ⊎_elim (λ w.
      let same = at_once g w.0 i (let x = w.1 in omega arith) (omega arith)
      (sym (data_sector w.0) ∙ ap (λ (x : Store). x.sector) (sym w.2) ∙ e ∙ data_sector i) in
      ap (λ (x : Store). x.bytes) (w.2 ∙ ap data_of same))
      (λ w.
      let b = rank_below g w.0 w.1 in
      let same = at_once g (change.data_sectors + rank (plan g) w.0) i (omega arith) (omega arith)
      (sym (map_sector w.0) ∙ ap (λ (x : Store). x.sector) (sym w.3) ∙ e ∙ data_sector i) in
      absurd (omega arith))
      (kinds r a))
      ∙ data_bytes i)

  map_stands : (p : ℕ) → (plan g).written p ≡ true
      → image' (at (plan g).places (change.data_sectors + rank (plan g) p)) ≡ encoded s.geometry.l (member_of g p)
  unfolding Kind
  map_stands p e =
      let r0 = rank_below g p e in
      let mine : Among (map_of p) (commit_stores s t (plan g) change) =
      subst (Among (map_of p)) (sym stores_are)
      (among_right (stores_below always data_of change.data_sectors)
      (below_own (plan g).written map_of (pieces_for s.geometry.l) p (written_below g p e) e)) in
      subst (λ (k : ℕ). image' k ≡ encoded s.geometry.l (member_of g p)) (map_sector p)
      (applied_at (commit_stores s t (plan g) change) image (map_of p) mine
      (λ r a z.
      ⊎_elim (λ w.
      let same = at_once g w.0 (change.data_sectors + rank (plan g) p) (let x = w.1 in omega arith) (omega arith)
      (sym (data_sector w.0) ∙ ap (λ (x : Store). x.sector) (sym w.2) ∙ z ∙ map_sector p) in
      let x = w.1 in
      absurd (omega arith))
      (λ w.
      let b = rank_below g w.0 w.1 in
      let same = at_once g (change.data_sectors + rank (plan g) w.0) (change.data_sectors + rank (plan g) p) (omega arith) (omega arith)
      (sym (map_sector w.0) ∙ ap (λ (x : Store). x.sector) (sym w.3) ∙ z ∙ map_sector p) in
      ap (λ (x : Store). x.bytes) (w.3 ∙ ap map_of (rank_once g w.0 p w.1 e (omega arith))))
      (kinds r a))
      ∙ map_bytes p)

  -- The view at a written piece's place, and at an unwritten one's.
  pub view_written : (p : ℕ) → (plan g).written p ≡ true → image_view s.geometry image' ((tables' g).place p) ≡ some (member_of g p)
  view_written p e =
      let r = rank_below g p e in
      let k = at (plan g).places (change.data_sectors + rank (plan g) p) in
      subst (λ (x : ℕ). image_view s.geometry image' x ≡ some (member_of g p)) (sym (place_written g p e))
      (view_at s.geometry image' k (at_below g (change.data_sectors + rank (plan g) p) (omega arith))
      ∙ ap (decoded s.geometry) (map_stands p e) ∙ member_signed g p e)

  pub view_unwritten : (p : ℕ) → p < pieces_for s.geometry.l → (plan g).written p ≡ false
      → image_view s.geometry image' ((tables' g).place p) ≡ image_view s.geometry image (t.place p)
  view_unwritten p h e =
      ap (image_view s.geometry image') (place_unwritten g p e)
      ∙ view_same s.geometry image' image (t.place p) (kept (commit_stores s t (plan g) change) Any kinds (piece p) h)
