-- A recovery of any committed image: it is accepted with stores enough, cut anywhere it loses nothing, and whole it leaves the
-- volume settled, whether it walked or scanned.
use Prim.Native.Nat.{ℕ, ◌+◌, ◌-◌, ◌≤◌, ◌<◌}
use mathlib.Core.Path.{◌≡◌, refl, ◌∙◌, ap}
use mathlib.Core.Logic.{inr, ⊎_elim}
use mathlib.Core.Bool.{true, not}
use mathlib.Core.List.{List, [], ◌∷◌}
use mathlib.Core.Option.{some}
use native.Mathlib.Omega.{arith}
use lib.ListN.{take}
use borrow.Author.Tests.{eq-eqb, ne_eqb}
use Rattle.geometry.specs.declared.Geometry.{Geometry}
use Rattle.answer.specs.declared.Answer.{Answer}
use Rattle.answer.specs.declared.Cost.{Cost}
use Rattle.answer.specs.declared.Answer.TheVariants.{Walked, Scanned}
use Rattle.geometry.specs.Geometry.{pieces_for}
use Rattle.answer.specs.Answer.{number_of}
use Rattle.layout.specs.Bounded.{all_below, best, is_zero}
use Rattle.layout.specs.Entry.{blank}
use Rattle.layout.specs.ParkRecord.{Parked, park_record, parked_in}
use Rattle.volume.specs.Tables.{Tables}
use Rattle.volume.specs.Store.{Store, applied}
use Rattle.volume.specs.Format.{blank_store}
use Rattle.volume.specs.Recover.{number_in, found, is_blank, park_sector_cleared, walk_from, walked_log, walk_complete, walk_finding, branch_count, scan_stores, walk_starts, finding_from, finding_of, image_view}
use Rattle.history.specs.History.{Disk}
use Rattle.laws.proofs.Bounded.{eq?, and_i, best_below, all_below_is}
use Rattle.laws.proofs.Codec.{parked_park_record, blank_unparked}
use Rattle.laws.proofs.Names.{piece, sound_consistent, within_is}
use Rattle.laws.proofs.Stores.{Among, first, among_none, among_cases, applied_at}
use Rattle.laws.proofs.Sizes.{Fits, some_pieces, view_below}
use Rattle.history.proofs.Invariant.{Committed, Settled}
use Rattle.history.proofs.Scan.{number_some, number_signed, tail_says, same_tables, scan_finds}
use Rattle.history.proofs.Clearing.{Clears, clears_take, clearing_keeps, clearing_settles, park_not_blank, scan_cut, scan_whole}
use Rattle.history.proofs.Walk.{walk_places}

pub record Finds (g : Geometry) (image : ℕ → List ℕ) (t : Tables) (tail number : ℕ) (disk : Disk) : Type 0 where
  pub answer : Cost → Answer
  pub stores : List Store
  pub finding : finding_of g (image_view g image) (image 0) ≡ found (record { tables = t; tail = tail; number = number }) answer stores
  pub accepts : (cost : Cost) → number_of (answer cost) ≡ 0
  pub cut : (k : ℕ) → Committed g (applied (take k stores) image) t tail number disk
  pub whole : Settled g (applied stores image) t tail number disk
  pub blanks : applied stores image 0 ≡ blank

module _ (g : Geometry) (image : ℕ → List ℕ) (t : Tables) (tail number : ℕ) (disk : Disk) (fit : Fits g) where
  by_scan : Committed g image t tail number disk → image 0 ≡ blank → Finds g image t tail number disk
  unfolding finding_from
  by_scan c z =
      let w = scan_whole g image t tail number disk fit c in
      record {
        answer = Scanned g.n;
        stores = scan_stores g.n (image_view g image) (image 0) number;
        finding =
            ap (finding_from g (image_view g image) (image 0)) (ap parked_in z ∙ blank_unparked)
            ∙ scan_finds g image t tail number disk fit c;
        accepts = λ k. refl;
        cut = scan_cut g image t tail number disk fit c;
        whole = w.0;
        blanks = w.1;
      }

  abbrev record_here : Parked
  record_here = record { number = number; tail = tail }

  module _ (settled : Settled g image t tail number disk) (parked : image 0 ≡ park_record (record { number = number; tail = tail })) where
    tail_low : 1 ≤ tail
    tail_low =
        rw settled.committed.ground.agreed.sound.tail_is
        (settled.committed.ground.agreed.sound.low (piece (best t.number (pieces_for g.l)))
        (best_below t.number (pieces_for g.l) (some_pieces g.l fit.some)))

    tail_below : tail < g.n
    tail_below =
        let m = tail_says g image t tail number disk fit settled.committed in
        view_below g image tail m.0 m.1

    log_is : walked_log g.l (image_view g image) record_here ≡ record { tables = t; tail = tail; number = number }
    unfolding walked_log
    log_is =
        λ i.
        record {
          tables = same_tables g image t tail number disk fit settled.committed (walk_from (pieces_for g.l) (image_view g image) tail)
              (walk_places g image t tail number disk fit settled) i;
          tail = tail;
          number = number;
        }

    complete : walk_complete g (record { tables = t; tail = tail; number = number }) ≡ true
    unfolding walk_complete
    complete =
        and_i (all_below (λ p. not (is_zero (t.place p))) (pieces_for g.l)) _
        (all_below_is (λ p. not (is_zero (t.place p))) (pieces_for g.l)
        (λ p h.
        let low = settled.committed.ground.agreed.sound.low (piece p) h in
        ap not (ne_eqb (t.place p) 0 (λ (e : t.place p ≡ 0). omega arith))))
        (sound_consistent g t tail number settled.committed.ground.agreed.sound)

    starts : walk_starts g.n record_here (image_view g image tail) ≡ true
    unfolding walk_starts
    starts =
        let m = tail_says g image t tail number disk fit settled.committed in
        let below = view_below g image tail m.0 m.1 in
        let low = tail_low in
        ap (walk_starts g.n record_here) m.1
        ∙ rw (within_is 1 (g.n - 1) tail low (omega arith), m.3, eq-eqb m.0.number number m.2) refl

    clears : Clears g image t tail number disk fit settled.committed (blank_store 0 ∷ [])
    unfolding Clears
    clears s a = (0, ⊎_elim (λ e. e) (λ d. absurd (among_none d)) (among_cases s (blank_store 0) [] a), inr refl)

    clears_is : (r : Store) → Among r (blank_store 0 ∷ []) → r ≡ blank_store 0
    clears_is r a = ⊎_elim (λ e. e) (λ d. absurd (among_none d)) (among_cases r (blank_store 0) [] a)

    by_walk : Finds g image t tail number disk
    unfolding finding_from walk_finding
    by_walk =
        let c = settled.committed in
        let below = tail_below in
        let high = c.ground.high in
        let sectors = fit.sectors in
        let view = image_view g image in
        let reads = 2 + branch_count view t.place (pieces_for g.l) in
        let read : parked_in (image 0) ≡ some record_here =
        ap parked_in parked ∙ parked_park_record record_here high (omega arith) in
        let cleared : park_sector_cleared (is_blank (image 0)) ≡ blank_store 0 ∷ [] =
        ap park_sector_cleared (ap is_blank parked ∙ park_not_blank g image t tail number disk fit c record_here) in
        record {
          answer = Walked reads;
          stores = blank_store 0 ∷ [];
          finding =
              ap (finding_from g view (image 0)) read
              ∙ rw (starts, log_is, complete, cleared) refl;
          accepts = λ k. refl;
          cut = λ k.
              clearing_keeps g image t tail number disk fit c (take k (blank_store 0 ∷ []))
              (clears_take g image t tail number disk fit c k (blank_store 0 ∷ []) clears);
          whole = clearing_settles g image t tail number disk fit c (blank_store 0 ∷ []) clears
              (λ j h.
              ⊎_elim (λ (e : number_in (view j) ≡ 0). absurd (omega arith))
              (λ (e : number_in (view j) ≡ 0 → ⊥).
              let a = number_signed (view j) e in
              let b = settled.none_above j a.0 a.1 in
              let q = number_some (view j) a.0 a.1 in
              absurd (omega arith))
              (eq? (number_in (view j)) 0));
          blanks = applied_at (blank_store 0 ∷ []) image (blank_store 0) first (λ r a e. ap (λ (x : Store). x.bytes) (clears_is r a));
        }

  -- Whatever a cut left, recovery finds the last closed commit.
  pub recovers : Committed g image t tail number disk → Finds g image t tail number disk
  recovers c =
      ⊎_elim (by_scan c) (λ z. by_walk (record { committed = c; none_above = z.1 }) z.0) c.park
