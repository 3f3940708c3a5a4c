-- A cut commit changes nothing that a scan takes.
use Prim.Native.Nat.{ℕ, suc, ◌+◌, ◌^◌, ◌≤◌, ◌<◌}
use mathlib.Core.Path.{◌≡◌, sym, ◌∙◌, ap, subst}
use mathlib.Core.Logic.{◌⊎◌, inl, inr, ⊎_elim}
use mathlib.Core.Bool.{true, false}
use mathlib.Core.List.{List, [], ◌∷◌, ◌++◌, append_assoc}
use mathlib.Core.Option.{none, some}
use native.Mathlib.Omega.{arith}
use lib.ListN.{length, take}
use borrow.Author.Tests.{ne_eqb}
use Rattle.geometry.specs.Geometry.{pieces_for}
use Rattle.layout.specs.Bounded.{at, always}
use Rattle.layout.specs.MapSector.{MapSector, decoded}
use Rattle.layout.specs.Entry.{blank, restored}
use Rattle.volume.specs.Store.{Store, applied, stores_below}
use Rattle.volume.specs.Commit.{rank, commit_stores}
use Rattle.volume.specs.Recover.{image_view}
use Rattle.history.specs.History.{Disk}
use Rattle.laws.proofs.Bounded.{count_before}
use Rattle.laws.proofs.Stores.{Among, among_append, among_cut, Outcome, applied_cases, applied_skip, below_has, below_last}
use Rattle.laws.proofs.Sizes.{view_at, view_below, view_same}
use Rattle.agreement.proofs.Plan.{Start, plan, members_is, members_some, rank_once, at_low}
use Rattle.agreement.proofs.Members.{member_of, member_number, member_closing, member_signed}
use Rattle.agreement.proofs.Stored.{data_of, map_of, data_bytes, map_sector, map_bytes, stores_are, Kind, goes, kept}
use Rattle.history.proofs.Invariant.{Committed, Settled, ground_moves}

-- Such a commit of a settled volume: `disk` is the plain disk before it, and `after` what that then has in the named blocks.
pub record Settling (g : Start) (disk : Disk) (after : ℕ → List ℕ) : Type 0 where
  pub settled : Settled g.s.geometry g.image g.t g.s.tail g.s.number disk
  pub unparked : g.image 0 ≡ blank
  pub unsigned : (i : ℕ) → i < g.change.data_sectors → decoded g.s.geometry (g.change.content i) ≡ none
  pub back : (i k : ℕ) → i < g.change.data_sectors → 1 ≤ k → k < 2 ^ 31 → restored (g.change.entry i k) (g.change.content i) ≡ after i
  pub emptied : (i : ℕ) → g.change.data_sectors ≤ i → i < length g.change.blocks → after i ≡ blank

module _ {g : Start} {disk : Disk} {after : ℕ → List ℕ} (on : Settling g disk after) where
  open g use {s, t, image, change, given}
  open on use {settled, unparked, unsigned}

  pub old_number : (k : ℕ) (a : MapSector) → image_view s.geometry image k ≡ some a → a.number ≤ s.number
  old_number = settled.none_above

  -- Any run of such stores.
  module _ (ss : List Store) (Allowed : ℕ → Type 0) (kinds : (r : Store) → Among r ss → Kind g Allowed r) where
    pub blank_kept : applied ss image 0 ≡ blank
    blank_kept =
        applied_skip ss image 0
        (λ r a e.
        let w = goes g ss Allowed kinds r a in
        let low = at_low g w.0 w.1 in
        let z = sym w.2 ∙ e in
        omega arith)
        ∙ unparked

    -- A signed sector is an old one that was not touched, or an allowed member.
    pub signed_cases : (k : ℕ) (a : MapSector) → image_view s.geometry (applied ss image) k ≡ some a
        → (image_view s.geometry image k ≡ some a)
        ⊎ ((p : ℕ) × ((plan g).written p ≡ true) × Allowed p × (k ≡ at (plan g).places (change.data_sectors + rank (plan g) p)) × (a ≡ member_of g p))
    unfolding Outcome Kind
    signed_cases k a e =
        let below = view_below s.geometry (applied ss image) k a e in
        let raw : decoded s.geometry (applied ss image k) ≡ some a = sym (view_at s.geometry (applied ss image) k below) ∙ e in
        ⊎_elim (λ w. inl (view_same s.geometry image (applied ss image) k (sym w.0) ∙ e))
        (λ w.
        ⊎_elim (λ v.
        let q = ap (decoded s.geometry) (w.3 ∙ ap (λ (x : Store). x.bytes) v.2 ∙ data_bytes g v.0) ∙ unsigned v.0 v.1 in
        let z : ◌≡◌ {A = ℕ} 0 1 = cc in
        absurd (omega arith))
        (λ v.
        let q = ap (decoded s.geometry) (w.3 ∙ ap (λ (x : Store). x.bytes) v.3 ∙ map_bytes g v.0) ∙ member_signed g v.0 v.1 in
        inr (v.0, v.1, v.2, sym w.2 ∙ ap (λ (x : Store). x.sector) v.3 ∙ map_sector g v.0, cc))
        (kinds w.0 w.1))
        (applied_cases ss image k)

    pub apart_after : (j k : ℕ) (a b : MapSector) → image_view s.geometry (applied ss image) j ≡ some a
        → image_view s.geometry (applied ss image) k ≡ some b → a.number ≡ b.number → j ≡ k
    apart_after j k a b e f z =
        ⊎_elim (λ x.
        ⊎_elim (λ y. settled.committed.apart j k a b x y z)
        (λ y.
        let o = old_number j a x in
        let q = ap (λ (m : MapSector). m.number) y.4 ∙ member_number g y.0 in
        absurd (omega arith))
        (signed_cases k b f))
        (λ x.
        ⊎_elim (λ y.
        let o = old_number k b y in
        let q = ap (λ (m : MapSector). m.number) x.4 ∙ member_number g x.0 in
        absurd (omega arith))
        (λ y.
        let q = ap (λ (m : MapSector). m.number) x.4 ∙ member_number g x.0 in
        let r = ap (λ (m : MapSector). m.number) y.4 ∙ member_number g y.0 in
        let p = rank_once g x.0 y.0 x.1 y.1 (omega arith) in
        x.3 ∙ ap (λ (p : ℕ). at (plan g).places (change.data_sectors + rank (plan g) p)) p ∙ sym y.3)
        (signed_cases k b f))
        (signed_cases j a e)

  -- With its last store missing the commit is not there.
  Unclosed : ℕ → Type 0
  Unclosed p = (member_of g p).closing ≡ false

  cut_kinds : (k : ℕ) → k < length (commit_stores s t (plan g) change)
      → (r : Store) → Among r (take k (commit_stores s t (plan g) change)) → Kind g Unclosed r
  unfolding Kind Unclosed rank
  cut_kinds k h r a =
      let last = below_last (plan g).written (map_of g) (pieces_for s.geometry.l) (let m = members_some g in let i = members_is g in omega arith) in
      let q = last.0 in
      let list = stores_are g ∙ ap (λ (xs : List Store). stores_below always (data_of g) change.data_sectors ++ xs) last.3
      ∙ sym (append_assoc (stores_below always (data_of g) change.data_sectors) (stores_below (plan g).written (map_of g) q) (map_of g q ∷ [])) in
      let b = among_cut r k (stores_below always (data_of g) change.data_sectors ++ stores_below (plan g).written (map_of g) q) (map_of g q)
      (subst (λ (xs : List Store). k < length xs) list h) (subst (λ (xs : List Store). Among r (take k xs)) list a) in
      ⊎_elim (λ x. let w = below_has always (data_of g) change.data_sectors r x in inl (w.0, w.1, w.3))
      (λ x.
      let w = below_has (plan g).written (map_of g) q r x in
      let y = count_before (plan g).written w.0 q w.1 w.2 in
      let m = members_is g in
      let c = last.4 in
      inr (
        w.0,
        w.2,
        member_closing g w.0
            ∙ ne_eqb (suc (rank (plan g) w.0)) (plan g).members (λ (z : suc (rank (plan g) w.0) ≡ (plan g).members). omega arith),
        w.3,
      ))
      (among_append r (stores_below always (data_of g) change.data_sectors) (stores_below (plan g).written (map_of g) q) b)

  pub cut_commit : (k : ℕ) → k < length (commit_stores s t (plan g) change)
      → Committed s.geometry (applied (take k (commit_stores s t (plan g) change)) image) t s.tail s.number disk
  unfolding Unclosed
  cut_commit k h =
      let ss = take k (commit_stores s t (plan g) change) in
      let kinds = cut_kinds k h in
      record {
        ground = ground_moves (applied ss image) given.fit (kept g ss Unclosed kinds) settled.committed.ground;
        apart = apart_after ss Unclosed kinds;
        latest = λ j a e b.
            ⊎_elim (λ x. settled.committed.latest j a x b)
            (λ x. let q = ap (λ (m : MapSector). m.number) x.4 ∙ member_number g x.0 in absurd (omega arith))
            (signed_cases ss Unclosed kinds j a e);
        unclosed = λ j a e b.
            ⊎_elim (λ x. let o = old_number j a x in absurd (omega arith)) (λ x. ap (λ (m : MapSector). m.closing) x.4 ∙ x.2)
            (signed_cases ss Unclosed kinds j a e);
        park = inl (blank_kept ss Unclosed kinds);
      }
