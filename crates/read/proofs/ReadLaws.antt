-- Which refusal a read meets, by the tests that led there; and what a read that meets none may rely on.
use Prim.Native.Nat.{ℕ, ◌*◌, ◌+◌, ◌-◌, ◌≤◌, ◌<◌}
use mathlib.Core.Path.{◌≡◌, refl, sym, ◌∙◌, ap}
use mathlib.Core.Logic.{⊎_elim}
use mathlib.Core.Bool.{true, false, cond, ◌&&◌}
use mathlib.Core.List.{List, [], ◌∷◌}
use native.Mathlib.Omega.{arith}
use lib.ListN.{length}
use lib.Dec.{eqb, ltb, leb}
use borrow.Author.Tests.{eqb-true, lt-ltb, le-ltb, ltb-true, leb-true, not-false}
use types.Run.{OneOf}
use denote.Enum.Declared.{tag_of}
use Rattle.std.specs.Prelude.{Result, Ok, Err, ⊤}
use Rattle.state.specs.declared.State.{State}
use Rattle.state.specs.declared.Phase.{Phase}
use Rattle.state.specs.declared.Phase.TheVariants.{Running, Parked, Cut}
use Rattle.state.specs.contracts.Phase.{the_type}
use Rattle.answer.specs.declared.Refusal.{Refusal}
use Rattle.answer.specs.Answer.{lengths, stores_alone}
use Rattle.answer.specs.declared.Answer.{Answer}
use Rattle.answer.specs.declared.Answer.TheVariants.{Accepted, Refused}
use Rattle.answer.specs.declared.Refusal.TheVariants.{Size, BufferLength, BlockNumbers, WrongPhase, Inconsistent}
use Rattle.geometry.specs.Geometry.{within}
use Rattle.state.specs.State.{is_readable}
use Rattle.layout.specs.Bounded.{at}
use Rattle.layout.specs.Entry.{is_empty, sector_of, restored}
use Rattle.volume.specs.Tables.{memory, sector_at}
use Rattle.volume.specs.Refusals.{applies, first_of, judged}
use Rattle.volume.specs.Format.{tables_fit}
use Rattle.volume.specs.Calls.{state_fits, state_checks, entry_readable, read_checks, block_of, read_judged, read_of}
use Rattle.checks.specs.Left.{read_left, lent}
use Rattle.laws.proofs.Bounded.{bool?, and_l, and_r, or_cases}
use Rattle.laws.proofs.Sizes.{fits, state_fits_lem, tables_fit_lem}
use Rattle.laws.proofs.Judged.{cleared, later}
use Rattle.checks.proofs.StateLaws.{refused_by_lengths, passed_by_lengths, sizes_passed, tables_passed}

-- The arm of running and parked is one: what it is told is the number of the variant.
pub readable_arm : (p : Phase) → OneOf (0 ∷ 1 ∷ []) (tag_of the_type p) → is_readable p ≡ true
readable_arm Running h = refl
readable_arm Parked h = refl
readable_arm Cut h = absurd (⊎_elim (λ (z : ◌≡◌ {A = ℕ} 2 0). omega arith) (λ (z : ◌≡◌ {A = ℕ} 2 1). omega arith) h)

-- The verdict on the lengths is v.
module _ (s : State) (im mp pl nu us : List ℕ) (block out : ℕ) (v : Result ⊤ Refusal)
    (f : v ≡ first_of lengths (state_checks s (lent (length im) (length mp) (length pl) (length nu) (length us)) (eqb out 512))) where
  abbrev verdict : Result ⊤ Refusal
  verdict = judged (read_checks s (memory im mp pl nu us) block out)

  pub lengths_refused : (r : Refusal) → v ≡ Err r → Err r ≡ verdict
  unfolding read_checks
  lengths_refused r e = refused_by_lengths s im mp pl nu us (eqb out 512) _ v f r e

  module _ (e : v ≡ Ok tt) where
    pub in_map : block < s.geometry.l → block < length mp
    in_map h = let m = (tables_fit_lem im mp pl nu us s.geometry (tables_passed s im mp pl nu us (eqb out 512) [] v f e)).map in omega arith

    pub some_sectors : 1 ≤ s.geometry.n
    some_sectors =
        let least = (fits s.geometry (state_fits_lem s im mp pl nu us (sizes_passed s im mp pl nu us (eqb out 512) [] v f e)).range).least in
        omega arith

    then : (w : Result ⊤ Refusal) → w ≡ first_of later (read_checks s (memory im mp pl nu us) block out) → w ≡ verdict
    unfolding read_checks
    then w k = passed_by_lengths s im mp pl nu us (eqb out 512) _ v f e w k

    pub block_refused : s.geometry.l ≤ block → Err BlockNumbers ≡ verdict
    unfolding read_checks first_of applies
    block_refused h = then (Err BlockNumbers) (rw (le-ltb block s.geometry.l h) refl)

    module _ (h : block < s.geometry.l) where
      pub phase_refused : is_readable s.phase ≡ false → Err WrongPhase ≡ verdict
      unfolding read_checks first_of applies
      phase_refused e3 = then (Err WrongPhase) (rw (lt-ltb block s.geometry.l h, e3) refl)

      pub readable_judged : (w : Result ⊤ Refusal) → is_readable s.phase ≡ true → w ≡ cond (entry_readable s.geometry.n (at mp block)) (Ok tt) (Err Inconsistent) → w ≡ verdict
      unfolding read_checks first_of applies memory
      readable_judged w e3 k =
          ⊎_elim (λ (t : entry_readable s.geometry.n (at mp block) ≡ true). then w (k ∙ rw (lt-ltb block s.geometry.l h, e3, t) refl))
          (λ (t : entry_readable s.geometry.n (at mp block) ≡ false). then w (k ∙ rw (lt-ltb block s.geometry.l h, e3, t) refl))
          (bool? (entry_readable s.geometry.n (at mp block)))

-- What a read that meets no refusal relies on.
pub record Readable (im mp : List ℕ) (block out : ℕ) : Type 0 where
  pub in_map : block < length mp
  pub in_image : 512 * sector_of (at mp block) + 512 ≤ length im
  pub whole : out ≡ 512

entry_inside : (n entry : ℕ) → 1 ≤ n → entry_readable n entry ≡ true → sector_of entry < n
unfolding entry_readable
entry_inside n entry some e =
    ⊎_elim (λ (z : is_empty entry ≡ true). rw (eqb-true entry 0 z) some)
    (λ (z : within 1 (n - 1) (sector_of entry) ≡ true).
    let h = leb-true (sector_of entry) (n - 1) (and_r (leb 1 (sector_of entry)) (leb (sector_of entry) (n - 1)) z) in
    omega arith)
    (or_cases (is_empty entry) (within 1 (n - 1) (sector_of entry)) e)

pub readable : (s : State) (im mp pl nu us : List ℕ) (block out : ℕ) → Ok tt ≡ judged (read_checks s (memory im mp pl nu us) block out)
    → Readable im mp block out
unfolding read_checks memory applies
readable s im mp pl nu us block out e =
    let g = s.geometry in
    let m = memory im mp pl nu us in
    let sizes = state_fits_lem s im mp pl nu us (not-false (state_fits s m) (cleared Size _ (sym e))) in
    let least = (fits g sizes.range).least in
    let len = sizes.image in
    let lens = not-false (tables_fit m g && eqb out 512) (cleared BufferLength _ (sym e)) in
    let map = (tables_fit_lem im mp pl nu us g (and_l (tables_fit m g) (eqb out 512) lens)).map in
    let below = ltb-true block g.l (not-false (ltb block g.l) (cleared BlockNumbers _ (sym e))) in
    let inside = entry_inside g.n (at mp block) (omega arith) (not-false (entry_readable g.n (at mp block)) (cleared Inconsistent _ (sym e))) in
    record {
      in_map = omega arith;
      in_image = omega arith;
      whole = eqb-true out 512 (and_r (tables_fit m g) (eqb out 512) lens);
    }

-- The result of a read.
pub read_refused : (s : State) (im mp pl nu us : List ℕ) (block : ℕ) (out : List ℕ) (r : Refusal)
    → Err r ≡ judged (read_checks s (memory im mp pl nu us) block (length out))
    → read_left (record { answer = Refused r; state = s }) (memory im mp pl nu us) out ≡ read_of s (memory im mp pl nu us) block out
unfolding read_of read_judged
read_refused s im mp pl nu us block out r e = ap (λ (v : Result ⊤ Refusal). read_judged v s (memory im mp pl nu us) block out) e

pub read_done : (s : State) (im mp pl nu us : List ℕ) (block : ℕ) (out left : List ℕ) (x : Answer) → x ≡ Accepted (stores_alone 0)
    → Ok tt ≡ judged (read_checks s (memory im mp pl nu us) block (length out))
    → left ≡ restored (at mp block) (sector_at im (sector_of (at mp block)))
    → read_left (record { answer = x; state = s }) (memory im mp pl nu us) left ≡ read_of s (memory im mp pl nu us) block out
unfolding read_of read_judged block_of memory
read_done s im mp pl nu us block out left x p e f =
    ap (λ (a : Answer). read_left (record { answer = a; state = s }) (memory im mp pl nu us) left) p
    ∙ ap (λ (xs : List ℕ). read_left (record { answer = Accepted (stores_alone 0); state = s }) (memory im mp pl nu us) xs) f
    ∙ ap (λ (v : Result ⊤ Refusal). read_judged v s (memory im mp pl nu us) block out) e
