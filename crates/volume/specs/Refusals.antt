-- Document 01, "Numbers a call turns back with": each call has its refusals, and of those that apply the first in the order is
-- the one returned.
use Rattle.std.specs.Prelude.{Bool, false, cond, List, [], ◌∷◌, eqb, Result, Ok, Err, ⊤}
use Rattle.answer.specs.declared.Refusal.{Refusal}
use Rattle.answer.specs.Answer.{order, refusal_number}

-- One refusal of a call: when it applies, and which it is. A call has one for each that it checks.
pub record Check : Type 0 where
  pub applies : Bool
  pub refusal : Refusal

-- Whether a refusal applies, by a call's checks. One that the call does not check never does.
unfoldable pub applies : Refusal → List Check → Bool
applies r [] = false
applies r (c ∷ cs) = cond (eqb (refusal_number r) (refusal_number c.refusal)) c.applies (applies r cs)

-- The first of these refusals that applies.
unfoldable pub first_of : List Refusal → List Check → Result ⊤ Refusal
first_of [] checks = Ok tt
first_of (r ∷ rs) checks = cond (applies r checks) (Err r) (first_of rs checks)

unfoldable pub judged : List Check → Result ⊤ Refusal
judged checks = first_of order checks
