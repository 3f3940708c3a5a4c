-- Document 01, "Power" and "Cut": a storing call has a list of stores; with fewer allowed, the first ones are made.
use Rattle.std.specs.Prelude.{ℕ, zero, suc, Bool, cond, List, [], ◌∷◌, ◌++◌, length, take, ltb, Result, Ok, Err, ⊤}
use Rattle.state.specs.declared.State.{State}
use Rattle.state.specs.declared.Outcome.{Outcome}
use Rattle.answer.specs.declared.Refusal.{Refusal}
use Rattle.answer.specs.declared.Answer.{Answer}
use Rattle.answer.specs.declared.Cost.{Cost}
use Rattle.answer.specs.declared.Answer.TheVariants.{Refused, PowerFailed}
use Rattle.layout.specs.Bounded.{updated}
use Rattle.volume.specs.Tables.{Tables, Memory}

-- One store: a sector, and its new 512 bytes.
pub record Store : Type 0 where
  pub sector : ℕ
  pub bytes : List ℕ

-- The image after these stores, made in order and whole.
unfoldable pub applied : List Store → (ℕ → List ℕ) → ℕ → List ℕ
applied [] image = image
applied (s ∷ ss) image = applied ss (updated image s.sector s.bytes)

-- The stores at those of 0 to n - 1 that store at all, ascending.
unfoldable pub stores_below : (ℕ → Bool) → (ℕ → Store) → ℕ → List Store
stores_below which store zero = []
stores_below which store (suc n) =
    let before = stores_below which store n in
    let this = store n in
    cond (which n) (before ++ (this ∷ [])) before

-- What a call hands back and leaves in what it was lent.
pub record After : Type 0 where
  pub outcome : Outcome
  pub memory : Memory

abbrev pub after : Outcome → Memory → After
after outcome memory = record { outcome = outcome; memory = memory }

-- The lent memory with another image and other tables.
abbrev pub memory_with : Memory → (ℕ → List ℕ) → Tables → Memory
memory_with m image tables = record { lengths = m.lengths; image = image; tables = tables }

-- What a storing call does once no refusal applies: its list of stores, what the first so many of them cost, what it answers
-- (given the cost of all) and leaves where all were made, and what it leaves where the power was cut.
pub record Action : Type 0 where
  pub stores : List Store
  pub cost : ℕ → Cost
  pub answer : Cost → Answer
  pub state : State
  pub tables : Tables
  pub cut_state : State
  pub cut_tables : Tables

-- The one cut of all storing calls: `allowance` stores may be made.
unfoldable pub performed : ℕ → Action → Memory → After
performed allowance a m =
    let needed = length a.stores in
    let whole =
    after (record { answer = a.answer (a.cost needed); state = a.state }) (memory_with m (applied a.stores m.image) a.tables) in
    let cut =
    after (record { answer = PowerFailed (a.cost allowance); state = a.cut_state })
    (memory_with m (applied (take allowance a.stores) m.image) a.cut_tables) in
    cond (ltb allowance needed) cut whole

-- A refusal leaves everything lent, and the state, as it came.
abbrev pub refused : Refusal → State → Memory → After
refused r s m = after (record { answer = Refused r; state = s }) m

abbrev pub unless_refused : Result ⊤ Refusal → State → Memory → After → After
unless_refused (Ok u) s m done = done
unless_refused (Err r) s m done = refused r s m
