-- Document 01, "Numbers a call turns back with": their order, and the number and the values that each answer stands for.
use Rattle.std.specs.Prelude.{ℕ, Bool, true, false, List, [], ◌∷◌, ◌++◌, Result, Ok, Err, ⊤}
use Rattle.answer.specs.declared.Refusal.{Refusal}
use Rattle.answer.specs.declared.Refusal.TheVariants.{Size, WrongSettings, BufferLength, CommitCount, BlockNumbers, WrongPhase, Inconsistent, NoRoom, NumbersUsedUp}
use Rattle.answer.specs.declared.Loss.{Loss}
use Rattle.answer.specs.declared.Loss.TheVariants.{NoLog, DamagedLog}
use Rattle.answer.specs.declared.Cost.{Cost}
use Rattle.answer.specs.declared.Answer.{Answer}
use Rattle.answer.specs.declared.Answer.TheVariants.{Accepted, Walked, Scanned, Refused, Lost, PowerFailed}

-- The order in which every call judges: of the refusals that apply, the first is returned. Sizes and lengths of what is lent come
-- first, then the numbers that the caller hands in, and then how the volume stands.
abbrev pub lengths : List Refusal
lengths = Size ∷ WrongSettings ∷ BufferLength ∷ []

abbrev pub named : List Refusal
named = CommitCount ∷ BlockNumbers ∷ []

abbrev pub standing : List Refusal
standing = WrongPhase ∷ Inconsistent ∷ NoRoom ∷ NumbersUsedUp ∷ []

abbrev pub order : List Refusal
order = lengths ++ named ++ standing

abbrev pub refusal_number : Refusal → ℕ
refusal_number Size = 1
refusal_number WrongSettings = 11
refusal_number BufferLength = 2
refusal_number CommitCount = 12
refusal_number BlockNumbers = 3
refusal_number WrongPhase = 4
refusal_number Inconsistent = 5
refusal_number NoRoom = 6
refusal_number NumbersUsedUp = 7

-- 0 where no refusal applies.
abbrev pub verdict_number : Result ⊤ Refusal → ℕ
verdict_number (Ok u) = 0
verdict_number (Err r) = refusal_number r

abbrev pub loss_number : Loss → ℕ
loss_number NoLog = 8
loss_number DamagedLog = 9

-- 0 where the call was accepted, otherwise the number it turns back with; 10 is the power.
abbrev pub number_of : Answer → ℕ
number_of (Accepted cost) = 0
number_of (Walked read cost) = 0
number_of (Scanned read cost) = 0
number_of (Refused r) = refusal_number r
number_of (Lost r) = loss_number r
number_of (PowerFailed cost) = 10

-- Turned back before anything was done.
abbrev pub is_refusal : Answer → Bool
is_refusal (Accepted cost) = false
is_refusal (Walked read cost) = false
is_refusal (Scanned read cost) = false
is_refusal (Refused r) = true
is_refusal (Lost r) = false
is_refusal (PowerFailed cost) = false

-- So many stores, and nothing beside them.
abbrev pub stores_alone : ℕ → Cost
stores_alone stores = record { stores = stores; skipped = 0 }

-- What a call cost: nothing where it is turned back, but with 10.
abbrev pub cost_of : Answer → Cost
cost_of (Accepted cost) = cost
cost_of (Walked read cost) = cost
cost_of (Scanned read cost) = cost
cost_of (Refused r) = stores_alone 0
cost_of (Lost r) = stores_alone 0
cost_of (PowerFailed cost) = cost

-- How recovery found the log: 1 by a walk, 2 by a scan, else 0.
abbrev pub way_of : Answer → ℕ
way_of (Accepted cost) = 0
way_of (Walked read cost) = 1
way_of (Scanned read cost) = 2
way_of (Refused r) = 0
way_of (Lost r) = 0
way_of (PowerFailed cost) = 0

-- The sectors that recovery read, else 0.
abbrev pub reads_of : Answer → ℕ
reads_of (Accepted cost) = 0
reads_of (Walked read cost) = read
reads_of (Scanned read cost) = read
reads_of (Refused r) = 0
reads_of (Lost r) = 0
reads_of (PowerFailed cost) = 0
