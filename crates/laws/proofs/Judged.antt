-- Judging refusals, and performing the action of a call that meets none.
use Prim.Native.Nat.{ℕ, ◌≤◌, ◌<◌}
use mathlib.Core.Path.{◌≡◌, refl, sym, ◌∙◌}
use mathlib.Core.Logic.{◌⊎◌, inl, inr, ⊎_elim}
use mathlib.Core.Bool.{Bool, true, false, not, ◌||◌, true≢false}
use mathlib.Core.List.{List, [], ◌∷◌, ◌++◌}
use native.Mathlib.Omega.{arith}
use lib.ListN.{length, take}
use lib.Dec.{eqb}
use borrow.Author.Tests.{lt-ltb, le-ltb, eqb-true}
use Rattle.std.specs.Prelude.{Result, Ok, Err, ⊤}
use Rattle.answer.specs.declared.Refusal.{Refusal}
use Rattle.answer.specs.declared.Refusal.TheVariants.{Size, WrongSettings, BufferLength, CommitCount, BlockNumbers, WrongPhase, Inconsistent, NoRoom, NumbersUsedUp}
use Rattle.answer.specs.declared.Loss.{Loss}
use Rattle.answer.specs.declared.Loss.TheVariants.{NoLog, DamagedLog}
use Rattle.answer.specs.declared.Answer.TheVariants.{PowerFailed}
use Rattle.answer.specs.Answer.{lengths, named, standing, order, refusal_number, loss_number}
use Rattle.layout.specs.Bounded.{is_zero}
use Rattle.volume.specs.Tables.{Memory}
use Rattle.volume.specs.Refusals.{Check, applies, first_of, judged}
use Rattle.volume.specs.Store.{Action, applied, performed, memory_with, after}
use Rattle.laws.proofs.Bounded.{bool?, cond_true, cond_false}

-- Judging.

pub refusal_some : (r : Refusal) → is_zero (refusal_number r) ≡ false
refusal_some Size = refl
refusal_some WrongSettings = refl
refusal_some BufferLength = refl
refusal_some CommitCount = refl
refusal_some BlockNumbers = refl
refusal_some WrongPhase = refl
refusal_some Inconsistent = refl
refusal_some NoRoom = refl
refusal_some NumbersUsedUp = refl

pub loss_some : (r : Loss) → is_zero (loss_number r) ≡ false
loss_some NoLog = refl
loss_some DamagedLog = refl

pub verdict? : (v : Result ⊤ Refusal) → (v ≡ Ok tt) ⊎ ((r : Refusal) × (v ≡ Err r))
verdict? (Ok u) = inl refl
verdict? (Err r) = inr (r, refl)

unfoldable pub is_in : Refusal → List Refusal → Bool
is_in r [] = false
is_in r (q ∷ qs) = eqb (refusal_number r) (refusal_number q) || is_in r qs

-- Every refusal has its place in the order.
ordered : (r : Refusal) → is_in r order ≡ true
unfolding is_in
ordered Size = refl
ordered WrongSettings = refl
ordered BufferLength = refl
ordered CommitCount = refl
ordered BlockNumbers = refl
ordered WrongPhase = refl
ordered Inconsistent = refl
ordered NoRoom = refl
ordered NumbersUsedUp = refl

same_applies : (r q : Refusal) (checks : List Check) → refusal_number r ≡ refusal_number q → applies r checks ≡ applies q checks
unfolding applies
same_applies r q [] e = refl
same_applies r q (c ∷ cs) e = rw (e, same_applies r q cs e) refl

pub first_clear : (r : Refusal) (rs : List Refusal) (checks : List Check) → first_of rs checks ≡ Ok tt → is_in r rs ≡ true → applies r checks ≡ false
unfolding first_of is_in
first_clear r [] checks e i = absurd (true≢false (sym i))
first_clear r (q ∷ qs) checks e i =
    ⊎_elim (λ (z : applies q checks ≡ true).
    let p = sym (cond_true (applies q checks) (Err q) (first_of qs checks) z) ∙ e in
    let k : ◌≡◌ {A = ℕ} 0 1 = cc in
    absurd (omega arith))
    (λ (z : applies q checks ≡ false).
    ⊎_elim (λ (y : eqb (refusal_number r) (refusal_number q) ≡ true). same_applies r q checks (eqb-true (refusal_number r) (refusal_number q) y) ∙ z)
    (λ (y : eqb (refusal_number r) (refusal_number q) ≡ false).
    first_clear r qs checks (sym (cond_false (applies q checks) (Err q) (first_of qs checks) z) ∙ e) (rw y at i))
    (bool? (eqb (refusal_number r) (refusal_number q))))
    (bool? (applies q checks))

-- One list of refusals after another.
first_of_both : (qs rs : List Refusal) (checks : List Check)
    → ((r : Refusal) → first_of qs checks ≡ Err r → first_of (qs ++ rs) checks ≡ Err r)
    × (first_of qs checks ≡ Ok tt → first_of (qs ++ rs) checks ≡ first_of rs checks)
unfolding first_of
first_of_both [] rs checks = (λ r e. (let k : ◌≡◌ {A = ℕ} 0 1 = cc in absurd (omega arith)), λ e. refl)
first_of_both (q ∷ qs) rs checks =
    ⊎_elim (λ (z : applies q checks ≡ true). (λ r e. rw z (rw z at e), λ e. (let f = rw z at e in let k : ◌≡◌ {A = ℕ} 0 1 = cc in absurd (omega arith))))
    (λ (z : applies q checks ≡ false). (λ r e. rw z ((first_of_both qs rs checks).0 r (rw z at e)), λ e. rw z ((first_of_both qs rs checks).1 (rw z at e))))
    (bool? (applies q checks))

part_refused : (qs rs : List Refusal) (checks : List Check) (r : Refusal) → Err r ≡ first_of qs checks → Err r ≡ first_of (qs ++ rs) checks
part_refused qs rs checks r e = sym ((first_of_both qs rs checks).0 r (sym e))

pub part_passed : (qs rs : List Refusal) (checks : List Check) (v : Result ⊤ Refusal) → Ok tt ≡ first_of qs checks → v ≡ first_of rs checks → v ≡ first_of (qs ++ rs) checks
part_passed qs rs checks v e f = f ∙ sym ((first_of_both qs rs checks).1 (sym e))

-- The refusals by lengths first, and then the rest.
abbrev pub later : List Refusal
later = named ++ standing

pub lengths_refused : (checks : List Check) (r : Refusal) → Err r ≡ first_of lengths checks → Err r ≡ judged checks
unfolding judged
lengths_refused checks r e = part_refused lengths later checks r e

pub lengths_passed : (checks : List Check) (v : Result ⊤ Refusal) → Ok tt ≡ first_of lengths checks → v ≡ first_of later checks → v ≡ judged checks
unfolding judged
lengths_passed checks v e f = part_passed lengths later checks v e f

-- A call that passes: none of its checks applies, each looked up by its refusal.
pub cleared : (r : Refusal) (checks : List Check) → judged checks ≡ Ok tt → applies r checks ≡ false
unfolding judged
cleared r checks e = first_clear r order checks e (ordered r)

pub not_false : (b : Bool) → not b ≡ false → b ≡ true
not_false true e = refl
not_false false e = absurd (true≢false e)

-- A performed action.
pub performed_cut : (allowance : ℕ) (a : Action) (m : Memory) → allowance < length a.stores
    → performed allowance a m
    ≡ after (record { answer = PowerFailed (a.cost allowance); state = a.cut_state })
    (memory_with m (applied (take allowance a.stores) m.image) a.cut_tables)
unfolding performed
performed_cut allowance a m h = rw (lt-ltb allowance (length a.stores) h) refl

pub performed_whole : (allowance : ℕ) (a : Action) (m : Memory) → length a.stores ≤ allowance
    → performed allowance a m
    ≡ after (record { answer = a.answer (a.cost (length a.stores)); state = a.state }) (memory_with m (applied a.stores m.image) a.tables)
unfolding performed
performed_whole allowance a m h = rw (le-ltb allowance (length a.stores) h) refl
