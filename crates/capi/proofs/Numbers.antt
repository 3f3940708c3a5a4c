-- A call on the state that the numbers stand for, its outcome in numbers again.
use Prim.Native.Nat.{ℕ}
use mathlib.Core.Path.{◌≡◌, refl, ◌∙◌, ap}
use mathlib.Core.List.{List}
use Rattle.state.specs.declared.State.{State}
use Rattle.state.specs.declared.Outcome.{Outcome}
use Rattle.state.specs.declared.BatchOutcome.{BatchOutcome}
use Rattle.lending.specs.declared.Memory as lent_memory
use Rattle.lending.specs.Lending.{held}
use Rattle.volume.specs.Tables.{Memory, memory}
use Rattle.volume.specs.Store.{After, after}
use Rattle.volume.specs.Calls.{ReadAfter}
use Rattle.batches.specs.Batch.{BatchAfter}
use Rattle.lending.specs.Lending.{held}
use Rattle.lending.specs.declared.Memory as lent_memory
use Rattle.checks.specs.Left.{read_left}
use Rattle.batch.specs.Batch.{batch_left}
use Rattle.plain.specs.declared.CState.{CState}
use Rattle.plain.specs.declared.CResult.{CResult}
use Rattle.plain.specs.declared.CBatchResult.{CBatchResult}
use Rattle.plain.specs.Plain.{state_of, result_of, batch_result_of}
use Rattle.capi.specs.Handed.{handed, in_numbers, read_handed, read_in_numbers, batch_handed, batch_in_numbers}

-- What a call left of all that it was lent is what the slices hold.
pub held_behind : (m : lent_memory.Memory) (im mp pl nu us : List ℕ) → im ≡ m.image.now → mp ≡ m.map.now → pl ≡ m.places.now → nu ≡ m.numbers.now → us ≡ m.used.now
    → memory im mp pl nu us ≡ held m
held_behind m im mp pl nu us e1 e2 e3 e4 e5 = rw (e1, e2, e3, e4, e5) refl

module _ (c : CState) (s : State) (o : Outcome) (m : Memory) (r : CResult) (came : s ≡ state_of c) (gone : r ≡ result_of c o) where
  pub call_in_numbers : (call : State → After) → after o m ≡ call s → handed r m ≡ in_numbers c (call (state_of c))
  call_in_numbers call e =
      ap (λ (x : CResult). handed x m) gone ∙ ap (λ (a : After). in_numbers c a) (e ∙ ap call came)

  pub read_in_numbers_lem : (out : List ℕ) (call : State → ReadAfter) → read_left o m out ≡ call s
      → read_handed r m out ≡ read_in_numbers c (call (state_of c))
  read_in_numbers_lem out call e =
      ap (λ (x : CResult). read_handed x m out) gone ∙ ap (λ (a : ReadAfter). read_in_numbers c a) (e ∙ ap call came)

pub batch_in_numbers_lem : (c : CState) (s : State) (o : BatchOutcome) (m : Memory) (answers : List ℕ) (r : CBatchResult) → s ≡ state_of c → r ≡ batch_result_of c o
    → (call : State → BatchAfter) → batch_left o m answers ≡ call s → batch_handed r m answers ≡ batch_in_numbers c (call (state_of c))
batch_in_numbers_lem c s o m answers r came gone call e =
    ap (λ (x : CBatchResult). batch_handed x m answers) gone ∙ ap (λ (a : BatchAfter). batch_in_numbers c a) (e ∙ ap call came)

-- What a call leaves in what was lent as one value is what it leaves in the slices.
module _ (m : lent_memory.Memory) (image map places numbers used : List ℕ) where
  abbrev pub Left : Type 0
  Left = (image ≡ m.image.now) × (map ≡ m.map.now) × (places ≡ m.places.now) × (numbers ≡ m.numbers.now) × (used ≡ m.used.now)

  pub call_lent : Left → (c : CState) (s : State) (o : Outcome) (r : CResult) → s ≡ state_of c → r ≡ result_of c o
      → (call : State → After) → after o (held m) ≡ call s → handed r (memory image map places numbers used) ≡ in_numbers c (call (state_of c))
  call_lent e c s o r came gone call f =
      rw (e.0, e.1, e.2, e.3, e.4) (call_in_numbers c s o (held m) r came gone call f)

  pub batch_lent : Left → (c : CState) (s : State) (o : BatchOutcome) (answers : List ℕ) (r : CBatchResult) → s ≡ state_of c → r ≡ batch_result_of c o
      → (call : State → BatchAfter) → batch_left o (held m) answers ≡ call s
      → batch_handed r (memory image map places numbers used) answers ≡ batch_in_numbers c (call (state_of c))
  batch_lent e c s o answers r came gone call f =
      rw (e.0, e.1, e.2, e.3, e.4) (batch_in_numbers_lem c s o (held m) answers r came gone call f)
