-- A recovery cut anywhere loses nothing: zeros over uncommitted map sectors and over sector 0 keep a committed image so, and all
-- of them leave it settled.
use Prim.Native.Nat.{ℕ, ◌≤◌, ◌<◌}
use mathlib.Core.Path.{◌≡◌, refl, sym, ◌∙◌, ap, subst}
use mathlib.Core.Logic.{◌⊎◌, inl, inr, ⊎_elim}
use mathlib.Core.Bool.{Bool, true, false, ◌||◌}
use mathlib.Core.List.{List, []}
use mathlib.Core.Option.{Option, none, some}
use native.Mathlib.Omega.{arith}
use lib.ListN.{take}
use borrow.Author.Tests.{lt-ltb, ltb-true, le-ltb}
use Rattle.geometry.specs.declared.Geometry.{Geometry}
use Rattle.layout.specs.Bounded.{all}
use Rattle.layout.specs.Word.{balanced}
use Rattle.layout.specs.MapSector.{MapSector, decoded}
use Rattle.layout.specs.Entry.{blank, sector_of}
use Rattle.layout.specs.ParkRecord.{Parked, park_record}
use Rattle.volume.specs.Tables.{Tables}
use Rattle.volume.specs.Store.{Store, applied, stores_below}
use Rattle.volume.specs.Format.{blank_store}
use Rattle.volume.specs.Recover.{number_in, is_uncommitted, is_blank, park_sector_cleared, scan_stores, image_view}
use Rattle.history.specs.History.{Disk}
use Rattle.laws.proofs.Bounded.{lt?, clash, or_none}
use Rattle.laws.proofs.Codec.{blank_unsigned, park_unsigned}
use Rattle.laws.proofs.Names.{Name, piece, block, Named, sector_named}
use Rattle.laws.proofs.Stores.{Among, first, among_none, among_cases, among_append, among_left, among_right, among_take, Outcome, applied_cases, applied_skip, applied_at, below_has, below_own}
use Rattle.laws.proofs.Sizes.{Fits, view_at, view_below, view_same}
use Rattle.agreement.proofs.Agreed.{number_most}
use Rattle.history.proofs.Invariant.{Committed, Settled, ground_moves}
use Rattle.history.proofs.Scan.{number_some}

-- A blank sector is not signed, also as the view has it.
pub view_blank : (g : Geometry) (image : ℕ → List ℕ) (k : ℕ) → image k ≡ blank → (a : MapSector) → image_view g image k ≡ some a → ⊥
view_blank g image k e a s =
    let h = view_below g image k a s in
    let q = view_at g image k h ∙ ap (decoded g) e ∙ blank_unsigned g in
    let c : ◌≡◌ {A = ℕ} 0 1 = cc in
    omega arith

pub view_parked : (g : Geometry) (image : ℕ → List ℕ) (k : ℕ) (p : Parked) → image k ≡ park_record p → (a : MapSector) → image_view g image k ≡ some a → ⊥
view_parked g image k p e a s =
    let h = view_below g image k a s in
    let q = view_at g image k h ∙ ap (decoded g) e ∙ park_unsigned g p in
    let c : ◌≡◌ {A = ℕ} 0 1 = cc in
    omega arith

number_unsigned : (o : Option MapSector) → ((a : MapSector) → o ≡ some a → ⊥) → number_in o ≡ 0
unfolding number_in
number_unsigned none f = refl
number_unsigned (some a) f = absurd (f a refl)

module _ (g : Geometry) (image : ℕ → List ℕ) (t : Tables) (tail number : ℕ) (disk : Disk) (fit : Fits g)
    (c : Committed g image t tail number disk) where
  -- Each store zeros a signed sector above the number, or sector 0.
  unfoldable pub Clears : List Store → Type 0
  Clears ss =
      (s : Store) → Among s ss → (j : ℕ) × (s ≡ blank_store j) × ((number < number_in (image_view g image j)) ⊎ (j ≡ 0))

  pub clears_take : (k : ℕ) (ss : List Store) → Clears ss → Clears (take k ss)
  unfolding Clears
  clears_take k ss f s a = f s (among_take s k ss a)

  module _ (ss : List Store) (f : Clears ss) where
    -- A sector that is signed afterwards was not touched.
    untouched : (k : ℕ) (a : MapSector) → image_view g (applied ss image) k ≡ some a → applied ss image k ≡ image k
    unfolding Outcome Clears
    untouched k a e =
        ⊎_elim (λ w. w.0)
        (λ w. absurd (view_blank g (applied ss image) k (w.3 ∙ ap (λ (s : Store). s.bytes) (f w.0 w.1).1) a e))
        (applied_cases ss image k)

    was : (k : ℕ) (a : MapSector) → image_view g (applied ss image) k ≡ some a → image_view g image k ≡ some a
    was k a e = view_same g image (applied ss image) k (sym (untouched k a e)) ∙ e

    kept : (x : Name) → Named g.l t.entry t.place x
        → applied ss image (sector_named g.l t.entry t.place x) ≡ image (sector_named g.l t.entry t.place x)
    unfolding Clears
    kept x h =
        let k = sector_named g.l t.entry t.place x in
        applied_skip ss image k
        (λ s a e.
        let w = f s a in
        let at : w.0 ≡ k = ap (λ (r : Store). r.sector) (sym w.1) ∙ e in
        ⊎_elim (λ (z : number < number_in (image_view g image w.0)). calm x h (subst (λ (j : ℕ). number < number_in (image_view g image j)) at z))
        (λ (z : w.0 ≡ 0). let low = c.ground.agreed.sound.low x h in omega arith) w.2)
      where
        calm : (x : Name) → Named g.l t.entry t.place x → number < number_in (image_view g image (sector_named g.l t.entry t.place x)) → ⊥
        calm (piece p) h z =
            let w = c.ground.agreed.live p h in
            let q = number_some (image_view g image (t.place p)) w.0 w.1 ∙ w.3 in
            let most = number_most c.ground.agreed.sound p h in
            omega arith
        calm (block b) h z =
            let q = number_unsigned (image_view g image (sector_of (t.entry b)))
            (λ a e. let y = c.ground.unsigned b h.0 h.1 in let r : ◌≡◌ {A = ℕ} 0 1 = cc in omega arith) in
            omega arith

    pub clearing_keeps : Committed g (applied ss image) t tail number disk
    unfolding Outcome Clears
    clearing_keeps =
        record {
          ground = ground_moves (applied ss image) fit kept c.ground;
          apart = λ j k a b e u. c.apart j k a b (was j a e) (was k b u);
          latest = λ k a e. c.latest k a (was k a e);
          unclosed = λ k a e. c.unclosed k a (was k a e);
          park = ⊎_elim (λ w.
              ⊎_elim (λ (z : image 0 ≡ blank). inl (w.0 ∙ z)) (λ z. inr (w.0 ∙ z.0, λ k a e. z.1 k a (was k a e))) c.park)
              (λ w. inl (w.3 ∙ ap (λ (s : Store). s.bytes) (f w.0 w.1).1)) (applied_cases ss image 0);
        }

    -- Where every signed sector above the number is zeroed, and sector 0 is, nothing is left above it.
    pub clearing_settles : ((j : ℕ) → number < number_in (image_view g image j) → Among (blank_store j) ss)
        → Settled g (applied ss image) t tail number disk
    unfolding Clears
    clearing_settles u =
        record {
          committed = clearing_keeps;
          none_above = λ k a e.
              ⊎_elim (λ (z : number < a.number).
              let q = number_some (image_view g image k) (a) (was k a e) in
              let b = applied_at ss image (blank_store k) (u k (subst (λ (x : ℕ). number < x) (sym q) z))
              (λ r m s. ap (λ (x : Store). x.bytes) (f r m).1) in
              absurd (view_blank g (applied ss image) k b a e))
              (λ (z : a.number ≤ number). z) (lt? number a.number);
        }

  pub park_not_blank : (p : Parked) → is_blank (park_record p) ≡ false
  unfolding park_record balanced all
  park_not_blank p = refl

  blank_blank : is_blank blank ≡ true
  unfolding all
  blank_blank = refl

  unsigned_0 : number_in (image_view g image 0) ≡ 0
  unsigned_0 =
      number_unsigned (image_view g image 0)
      (λ a e.
      ⊎_elim (λ (z : image 0 ≡ blank). view_blank g image 0 z a e)
      (λ z. view_parked g image 0 (record { number = number; tail = tail }) z.0 a e) c.park)

  committed_0 : is_uncommitted (image_view g image) number 0 ≡ false
  committed_0 = rw unsigned_0 (le-ltb number 0 (omega arith))

  -- The stores of a scan.
  pub scan_clears : Clears (scan_stores g.n (image_view g image) (image 0) number)
  unfolding Clears scan_stores
  scan_clears s a =
      let which = is_uncommitted (image_view g image) number in
      let park = park_sector_cleared (is_blank (image 0) || is_uncommitted (image_view g image) number 0) in
      ⊎_elim (λ b.
      let w = below_has which blank_store g.n s b in
      (w.0, w.3, inl (ltb-true number (number_in (image_view g image w.0)) w.2)))
      (λ b. (0, last (is_blank (image 0) || is_uncommitted (image_view g image) number 0) b, inr refl))
      (among_append s (stores_below which blank_store g.n) park a)
    where
      last : (done : Bool) → Among s (park_sector_cleared done) → s ≡ blank_store 0
      last true b = absurd (among_none b)
      last false b = ⊎_elim (λ e. e) (λ d. absurd (among_none d)) (among_cases s (blank_store 0) [] b)

  scan_settles : Settled g (applied (scan_stores g.n (image_view g image) (image 0) number) image) t tail number disk
  unfolding scan_stores
  scan_settles =
      clearing_settles (scan_stores g.n (image_view g image) (image 0) number) scan_clears
      (λ j h.
      among_left (park_sector_cleared (is_blank (image 0) || is_uncommitted (image_view g image) number 0))
      (below_own (is_uncommitted (image_view g image) number) blank_store g.n j (signed_below j h)
      (lt-ltb number (number_in (image_view g image j)) h)))
    where
      signed_below : (j : ℕ) → number < number_in (image_view g image j) → j < g.n
      signed_below j h =
          ⊎_elim (λ (z : j < g.n). z)
          (λ (z : g.n ≤ j).
          let q = number_unsigned (image_view g image j) (λ a e. let y = view_below g image j a e in omega arith) in
          absurd (omega arith))
          (lt? j g.n)

  scan_blanks : applied (scan_stores g.n (image_view g image) (image 0) number) image 0 ≡ blank
  unfolding scan_stores Clears
  scan_blanks =
      ⊎_elim (λ (z : image 0 ≡ blank).
      applied_skip (scan_stores g.n (image_view g image) (image 0) number) image 0
      (λ s a e.
      let which = is_uncommitted (image_view g image) number in
      ⊎_elim (λ b.
      let w = below_has which blank_store g.n s b in
      let at : w.0 ≡ 0 = ap (λ (r : Store). r.sector) (sym w.3) ∙ e in
      clash (which 0) (subst (λ (j : ℕ). which j ≡ true) at w.2) committed_0)
      (λ b.
      among_none
      (subst (λ (done : Bool). Among s (park_sector_cleared done))
      (ap (λ (x : List ℕ). is_blank x || which 0) z ∙ ap (λ (x : Bool). x || which 0) blank_blank) b))
      (among_append s (stores_below which blank_store g.n) (park_sector_cleared (is_blank (image 0) || which 0)) a))
      ∙ z)
      (λ z.
      let which = is_uncommitted (image_view g image) number in
      let done : (is_blank (image 0) || which 0) ≡ false =
      or_none (is_blank (image 0)) (which 0) (ap is_blank z.0 ∙ park_not_blank (record { number = number; tail = tail })) committed_0 in
      applied_at (scan_stores g.n (image_view g image) (image 0) number) image (blank_store 0)
      (among_right (stores_below which blank_store g.n)
      (subst (λ (x : Bool). Among (blank_store 0) (park_sector_cleared x)) (sym done) first))
      (λ r m s. blanks r m))
      c.park
    where
      blanks : (r : Store) → Among r (scan_stores g.n (image_view g image) (image 0) number) → r.bytes ≡ blank
      blanks r m = ap (λ (x : Store). x.bytes) (scan_clears r m).1

  pub scan_whole : (Settled g (applied (scan_stores g.n (image_view g image) (image 0) number) image) t tail number disk)
      × (applied (scan_stores g.n (image_view g image) (image 0) number) image 0 ≡ blank)
  scan_whole = (scan_settles, scan_blanks)

  pub scan_cut : (k : ℕ) → Committed g (applied (take k (scan_stores g.n (image_view g image) (image 0) number)) image) t tail number disk
  scan_cut k =
      clearing_keeps (take k (scan_stores g.n (image_view g image) (image 0) number))
      (clears_take k (scan_stores g.n (image_view g image) (image 0) number) scan_clears)
