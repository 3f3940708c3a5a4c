-- Which refusal a park meets, by the tests that led there; and what it leaves.
use Prim.Native.Nat.{ℕ, zero, suc, ◌*◌, ◌-◌, ◌≤◌}
use mathlib.Core.Path.{◌≡◌, refl, sym, ◌∙◌, ap}
use mathlib.Core.Logic.{⊎_elim}
use mathlib.Core.Bool.{true, false, cond}
use mathlib.Core.List.{List, [], ◌∷◌}
use native.Mathlib.Omega.{arith}
use lib.ListN.{length, take}
use borrow.Author.Tests.{not-false, le-ltb}
use Rattle.std.specs.Prelude.{Result, Ok, Err, ⊤, Option, Some, None}
use Rattle.geometry.specs.declared.Geometry.{Geometry}
use Rattle.state.specs.declared.State.{State}
use Rattle.answer.specs.declared.Refusal.{Refusal}
use Rattle.answer.specs.Answer.{lengths, stores_alone}
use Rattle.answer.specs.declared.Answer.{Answer}
use Rattle.answer.specs.declared.Answer.TheVariants.{Accepted, Refused, PowerFailed}
use Rattle.answer.specs.declared.Refusal.TheVariants.{Size, WrongPhase, Inconsistent}
use Rattle.state.specs.State.{parked_state, cut_state, is_running}
use Rattle.layout.specs.Bounded.{updated}
use Rattle.layout.specs.ParkRecord.{park_record}
use Rattle.volume.specs.Tables.{memory, sector_at, tables_of}
use Rattle.volume.specs.Refusals.{applies, first_of, judged}
use Rattle.volume.specs.Store.{Store, applied, after, memory_with, performed, unless_refused}
use Rattle.volume.specs.Format.{tables_fit}
use Rattle.volume.specs.Calls.{state_fits, state_checks, tables_agree, park_checks, park_action, park_of}
use Rattle.laws.proofs.Bounded.{bool?}
use Rattle.laws.proofs.Sizes.{fits, state_fits_lem, tables_fit_lem}
use Rattle.laws.proofs.Judged.{cleared, later}
use Rattle.checks.specs.Left.{lent}
use Rattle.checks.proofs.StateLaws.{refused_by_lengths, passed_by_lengths, sizes_passed, tables_passed}
use Rattle.power.specs.Power.{powered}
use Rattle.power.proofs.Performing.{memory_left, call_cut, call_whole}
use Rattle.park.specs.Park.{record_store}

-- The verdict on the lengths is v.
module _ (s : State) (im mp pl nu us : List ℕ) (v : Result ⊤ Refusal)
    (f : v ≡ first_of lengths (state_checks s (lent (length im) (length mp) (length pl) (length nu) (length us)) true)) where
  abbrev verdict : Result ⊤ Refusal
  verdict = judged (park_checks s (memory im mp pl nu us))

  pub lengths_refused : (r : Refusal) → v ≡ Err r → Err r ≡ verdict
  unfolding park_checks
  lengths_refused r e = refused_by_lengths s im mp pl nu us true _ v f r e

  module _ (e : v ≡ Ok tt) where
    pub state_passed : state_fits s (memory im mp pl nu us) ≡ true
    state_passed = sizes_passed s im mp pl nu us true [] v f e

    pub lengths_passed : tables_fit (memory im mp pl nu us) s.geometry ≡ true
    lengths_passed = tables_passed s im mp pl nu us true [] v f e

    then : (w : Result ⊤ Refusal) → w ≡ first_of later (park_checks s (memory im mp pl nu us)) → w ≡ verdict
    unfolding park_checks
    then w k = passed_by_lengths s im mp pl nu us true _ v f e w k

    pub phase_refused : is_running s.phase ≡ false → Err WrongPhase ≡ verdict
    unfolding park_checks first_of applies
    phase_refused e3 = then (Err WrongPhase) (rw e3 refl)

    pub running_judged : (w : Result ⊤ Refusal) → is_running s.phase ≡ true → w ≡ cond (tables_agree s (memory im mp pl nu us)) (Ok tt) (Err Inconsistent) → w ≡ verdict
    unfolding park_checks first_of applies
    running_judged w e3 k =
        ⊎_elim (λ (t : tables_agree s (memory im mp pl nu us) ≡ true). then w (k ∙ rw (e3, t) refl))
        (λ (t : tables_agree s (memory im mp pl nu us) ≡ false). then w (k ∙ rw (e3, t) refl))
        (bool? (tables_agree s (memory im mp pl nu us)))

-- Of a running volume, by the test of its tables.
pub bits_enough : (im mp pl nu us : List ℕ) (g : Geometry) → tables_fit (memory im mp pl nu us) g ≡ true → g.n ≤ 8 * length us
bits_enough im mp pl nu us g e = let u = (tables_fit_lem im mp pl nu us g e).used in omega arith

-- The store of the record, where it is allowed and where it is not.
module _ (number tail allowance : ℕ) (before : ℕ → List ℕ) where
  abbrev pub Stored : Option ℕ → (ℕ → List ℕ) → Type 0
  Stored r image = (r ≡ powered 1 allowance) × (image ≡ applied (take allowance (record_store number tail ∷ [])) before)

take_none : (n : ℕ) → ◌≡◌ {A = List Store} (take n []) []
take_none zero = refl
take_none (suc n) = refl

pub store_fails : (number tail allowance : ℕ) (before : ℕ → List ℕ) (r : Option ℕ) → (1 ≤ allowance → ⊥) → r ≡ None → Stored number tail allowance before r before
unfolding powered applied
store_fails number tail allowance before r f e =
    let z : allowance ≡ 0 = omega arith in
    rw z (e, refl)

pub store_made : (number tail allowance left : ℕ) (before image : ℕ → List ℕ) → (1 ≤ allowance) × (left ≡ allowance - 1)
    → image ≡ updated before 0 (park_record (record { number = number; tail = tail })) → Stored number tail allowance before (Some left) image
unfolding powered applied
store_made number tail zero left before image f u = absurd (omega (arith, f.0))
store_made number tail (suc allowance) left before image f u = (
  ap Some f.1 ∙ sym (rw (le-ltb (suc allowance) 1 (omega arith)) refl),
  u ∙ ap (λ (xs : List Store). applied (record_store number tail ∷ xs) before) (sym (take_none allowance)),
)

-- There is a sector 0.
pub first_sector : (s : State) (im mp pl nu us : List ℕ) → Ok tt ≡ judged (park_checks s (memory im mp pl nu us)) → 512 ≤ length im
unfolding park_checks applies
first_sector s im mp pl nu us e =
    let sizes = state_fits_lem s im mp pl nu us (not-false (state_fits s (memory im mp pl nu us)) (cleared Size _ (sym e))) in
    let least = (fits s.geometry sizes.range).least in
    let len = sizes.image in
    omega arith

module _ (s : State) (im mp pl nu us : List ℕ) (allowance : ℕ) where
  pub park_refused : (r : Refusal) → Err r ≡ judged (park_checks s (memory im mp pl nu us))
      → after (record { answer = Refused r; state = s }) (memory im mp pl nu us) ≡ park_of s (memory im mp pl nu us) allowance
  unfolding park_of
  park_refused r e =
      ap (λ (v : Result ⊤ Refusal). unless_refused v s (memory im mp pl nu us) (performed allowance (park_action s (memory im mp pl nu us)) (memory im mp pl nu us))) e

  module _ (pass : Ok tt ≡ judged (park_checks s (memory im mp pl nu us))) (im' : List ℕ) (kept : length im' ≡ length im)
      (made : sector_at im' ≡ applied (take allowance (record_store s.number s.tail ∷ [])) (sector_at im)) (x : Answer) (y : State) where
    performs : performed allowance (park_action s (memory im mp pl nu us)) (memory im mp pl nu us) ≡ park_of s (memory im mp pl nu us) allowance
    unfolding park_of
    performs = ap (λ (v : Result ⊤ Refusal). unless_refused v s (memory im mp pl nu us) (performed allowance (park_action s (memory im mp pl nu us)) (memory im mp pl nu us))) pass

    left_as_it_came : memory im' mp pl nu us ≡ memory_with (memory im mp pl nu us) (sector_at im') (tables_of mp pl nu us)
    left_as_it_came = memory_left im mp pl nu us im' mp pl nu us (sector_at im') (tables_of mp pl nu us) kept refl refl refl refl refl refl

    pub park_cut : None ≡ powered 1 allowance → x ≡ PowerFailed (stores_alone allowance) → y ≡ cut_state s
        → after (record { answer = x; state = y }) (memory im' mp pl nu us) ≡ park_of s (memory im mp pl nu us) allowance
    unfolding park_action memory
    park_cut e p q =
        call_cut allowance (park_action s (memory im mp pl nu us)) (memory im mp pl nu us) (memory im' mp pl nu us) (sector_at im') made x y p q e left_as_it_came
        ∙ performs

    pub park_whole : (left : ℕ) → Some left ≡ powered 1 allowance → x ≡ Accepted (stores_alone (allowance - left)) → y ≡ parked_state s
        → after (record { answer = x; state = y }) (memory im' mp pl nu us) ≡ park_of s (memory im mp pl nu us) allowance
    unfolding park_action memory
    park_whole left e p q =
        call_whole allowance (park_action s (memory im mp pl nu us)) (memory im mp pl nu us) (memory im' mp pl nu us) (sector_at im') made x y left p q e left_as_it_came
        ∙ performs
