-- States and results in plain numbers, by the tests that the code makes.
use Prim.Native.Nat.{ℕ}
use mathlib.Core.Path.{◌≡◌, refl, sym, ap, ◌∙◌}
use mathlib.Core.Bool.{Bool, true, false}
use Rattle.state.specs.declared.State.{State}
use Rattle.state.specs.declared.Outcome.{Outcome}
use Rattle.state.specs.declared.BatchOutcome.{BatchOutcome}
use Rattle.answer.specs.declared.Answer.{Answer}
use Rattle.answer.specs.Answer.{is_refusal, verdict_number, number_of, cost_of, way_of, reads_of}
use Rattle.plain.specs.declared.CState.{CState}
use Rattle.plain.specs.Plain.{plain_of, plain_in, state_left, joined, result_of, phase_left, batch_joined, batch_result_of}

-- A refusal keeps the state that came.
module _ (c : CState) (answer : Answer) (s : State) (b : Bool) (f : b ≡ is_refusal answer) where
  pub left_kept : b ≡ true → c ≡ state_left c answer s
  unfolding state_left
  left_kept e = rw (sym f ∙ e) refl

  pub left_other : (r : CState) → r ≡ plain_of s → b ≡ false → r ≡ state_left c answer s
  unfolding state_left
  left_other r q e = rw (sym f ∙ e) q

pub result_is : (c : CState) (o : Outcome) (answer stores skipped way read : ℕ) (left : CState)
    → answer ≡ number_of o.answer → stores ≡ (cost_of o.answer).stores → skipped ≡ (cost_of o.answer).skipped
    → way ≡ way_of o.answer → read ≡ reads_of o.answer → left ≡ state_left c o.answer o.state
    → joined answer (record { stores = stores; skipped = skipped }) way read left ≡ result_of c o
unfolding result_of
result_is c o answer stores skipped way read left a b k d e f =
    ap (λ (x : ℕ). joined x (record { stores = stores; skipped = skipped }) way read left) a
    ∙ ap (λ (x : ℕ). joined (number_of o.answer) (record { stores = x; skipped = skipped }) way read left) b
    ∙ ap (λ (x : ℕ). joined (number_of o.answer) (record { stores = (cost_of o.answer).stores; skipped = x }) way read left) k
    ∙ ap (λ (x : ℕ). joined (number_of o.answer) (cost_of o.answer) x read left) d
    ∙ ap (λ (x : ℕ). joined (number_of o.answer) (cost_of o.answer) (way_of o.answer) x left) e
    ∙ ap (joined (number_of o.answer) (cost_of o.answer) (way_of o.answer) (reads_of o.answer)) f

pub batch_result_is : (c : CState) (o : BatchOutcome) (answer phase : ℕ) → answer ≡ verdict_number o.verdict → phase ≡ phase_left c.phase o.state.phase
    → batch_joined answer o.answered o.cost (plain_in o.state phase) ≡ batch_result_of c o
unfolding batch_result_of
batch_result_is c o answer phase a p =
    ap (λ (x : ℕ). batch_joined x o.answered o.cost (plain_in o.state phase)) a
    ∙ ap (λ (x : ℕ). batch_joined (verdict_number o.verdict) o.answered o.cost (plain_in o.state x)) p
