-- Document 01, "Calls": write, drop, read and park. Each has its ordered list of refusals and what it does where none applies.
use Rattle.std.specs.Prelude.{ℕ, suc, ◌+◌, ◌*◌, ◌-◌, Bool, true, not, ◌&&◌, ◌||◌, List, [], ◌∷◌, ◌++◌, length, eqb, ltb, Result, Ok, Err, ⊤}
use Rattle.state.specs.declared.State.{State}
use Rattle.state.specs.declared.Outcome.{Outcome}
use Rattle.answer.specs.declared.Refusal.{Refusal}
use Rattle.answer.specs.declared.Answer.TheVariants.{Accepted, Refused}
use Rattle.answer.specs.declared.Refusal.TheVariants.{Size, WrongSettings, BufferLength, BlockNumbers, WrongPhase, Inconsistent, NoRoom, NumbersUsedUp}
use Rattle.answer.specs.Answer.{stores_alone}
use Rattle.layout.specs.Bounded.{at, all, all_below}
use Rattle.geometry.specs.declared.Geometry.{Geometry}
use Rattle.geometry.specs.Geometry.{within, sector_bytes, commit_blocks, pieces_for, geometry_fits, drive_fits}
use Rattle.layout.specs.MapSector.{View, decoded}
use Rattle.layout.specs.Entry.{is_empty, sector_of, stored, entry_for, restored}
use Rattle.layout.specs.ParkRecord.{park_record}
use Rattle.volume.specs.Tables.{Memory, sector_at, free_sectors, consistent, live_valid}
use Rattle.state.specs.State.{parked_state, cut_state, is_running, is_readable}
use Rattle.volume.specs.Refusals.{Check, judged}
use Rattle.volume.specs.Store.{After, Action, performed, unless_refused}
use Rattle.volume.specs.Format.{tables_fit}
use Rattle.volume.specs.Rules.{Rules, base}
use Rattle.volume.specs.Commit.{Change, commit_action}

-- The sectors of an image, read as map sectors.
abbrev pub view_of : Geometry → (ℕ → List ℕ) → View
view_of g image = λ k. decoded g (image k)

-- Refusal 1: N and L of the state are in range, and the image has N sectors.
unfoldable pub state_fits : State → Memory → Bool
state_fits s m = eqb m.lengths.image (sector_bytes * s.geometry.n) && geometry_fits s.geometry

-- Refusal 3: 1 to 64 strictly ascending block numbers below L, and a head below N.
unfoldable pub blocks_fit : Geometry → ℕ → List ℕ → Bool
blocks_fit g head blocks =
    within 1 commit_blocks (length blocks)
    && all_below (λ i. ltb (at blocks i) (at blocks (suc i))) (length blocks - 1)
    && all (λ b. ltb b g.l) blocks
    && ltb head g.n

-- Refusal 5: the tables are sound, and each live place is signed with its piece, number and entries.
unfoldable pub tables_agree : State → Memory → Bool
tables_agree s m =
    consistent s.geometry m.tables s.tail s.number
    && live_valid s.geometry.l m.tables (view_of s.geometry m.image)

-- The refusals that every call on a state begins with: 1, 11 and 2. A call may be lent a buffer of its own, with a length to fit.
abbrev pub state_checks : State → Memory → Bool → List Check
state_checks s m own_fits =
    record { applies = not (state_fits s m); refusal = Size }
    ∷ record { applies = not (drive_fits s.geometry.n s.drive); refusal = WrongSettings }
    ∷ record { applies = not (tables_fit m s.geometry && own_fits); refusal = BufferLength }
    ∷ []

-- The refusals of a commit. A write's bytes have a length, and a write needs room; a drop passes both.
unfoldable pub commit_checks : Rules → State → Memory → ℕ → List ℕ → Bool → Bool → List Check
commit_checks rules s m head blocks bytes_fit has_room =
    state_checks s m bytes_fit
    ++ record { applies = not (blocks_fit s.geometry head blocks); refusal = BlockNumbers }
    ∷ record { applies = not (is_running s.phase); refusal = WrongPhase }
    ∷ record { applies = not (tables_agree s m); refusal = Inconsistent }
    ∷ record { applies = not has_room; refusal = NoRoom }
    ∷ record { applies = ltb rules.greatest s.number; refusal = NumbersUsedUp }
    ∷ []

unfoldable pub commit_of : Rules → State → Memory → ℕ → Change → Bool → Bool → ℕ → After
commit_of rules s m head change bytes_fit has_room allowance =
    unless_refused (judged (commit_checks rules s m head change.blocks bytes_fit has_room)) s m
    (performed allowance (commit_action rules s m.tables (view_of s.geometry m.image) head change) m)

-- A write stores each block, flipped where it begins with the mark, and its entry names the place.
unfoldable pub write_change : List ℕ → List ℕ → Change
write_change blocks bytes =
    record {
      blocks = blocks;
      data_sectors = length blocks;
      content = λ i. stored (sector_at bytes i);
      entry = λ i place. entry_for (sector_at bytes i) place;
    }

-- A drop stores no data, and sets the entries to 0.
unfoldable pub drop_change : List ℕ → Change
drop_change blocks = record { blocks = blocks; data_sectors = 0; content = λ _. []; entry = λ _ _. 0 }

-- Refusal 6: a write needs free sectors of at least its blocks + P.
unfoldable pub room_for : State → Memory → List ℕ → Bool
room_for s m blocks = not (ltb (free_sectors s.geometry.n m.tables.is_used) (length blocks + pieces_for s.geometry.l))

unfoldable pub write_by : Rules → State → Memory → ℕ → List ℕ → List ℕ → ℕ → After
write_by rules s m head blocks bytes allowance =
    commit_of rules s m head (write_change blocks bytes) (eqb (length bytes) (sector_bytes * length blocks)) (room_for s m blocks)
    allowance

unfoldable pub drop_by : Rules → State → Memory → ℕ → List ℕ → ℕ → After
drop_by rules s m head blocks allowance = commit_of rules s m head (drop_change blocks) true true allowance

abbrev pub write_of : State → Memory → ℕ → List ℕ → List ℕ → ℕ → After
write_of = write_by base

abbrev pub drop_of : State → Memory → ℕ → List ℕ → ℕ → After
drop_of = drop_by base

-- Read looks only at its own entry: empty, or its sector lies in 1 to N - 1.
unfoldable pub entry_readable : ℕ → ℕ → Bool
entry_readable n entry = is_empty entry || within 1 (n - 1) (sector_of entry)

unfoldable pub read_checks : State → Memory → ℕ → ℕ → List Check
read_checks s m block out_length =
    state_checks s m (eqb out_length sector_bytes)
    ++ record { applies = not (ltb block s.geometry.l); refusal = BlockNumbers }
    ∷ record { applies = not (is_readable s.phase); refusal = WrongPhase }
    ∷ record { applies = not (entry_readable s.geometry.n (m.tables.entry block)); refusal = Inconsistent }
    ∷ []

-- A block, as the tables and the image have it.
unfoldable pub block_of : Memory → ℕ → List ℕ
block_of m block = let entry = m.tables.entry block in restored entry (m.image (sector_of entry))

-- What a read hands back, and its 512 bytes: an accepted read changes only those.
pub record ReadAfter : Type 0 where
  pub outcome : Outcome
  pub memory : Memory
  pub out : List ℕ

unfoldable pub read_judged : Result ⊤ Refusal → State → Memory → ℕ → List ℕ → ReadAfter
read_judged (Ok u) s m block out = record { outcome = record { answer = Accepted (stores_alone 0); state = s }; memory = m; out = block_of m block }
read_judged (Err r) s m block out = record { outcome = record { answer = Refused r; state = s }; memory = m; out = out }

unfoldable pub read_of : State → Memory → ℕ → List ℕ → ReadAfter
read_of s m block out = read_judged (judged (read_checks s m block (length out))) s m block out

unfoldable pub park_checks : State → Memory → List Check
park_checks s m =
    state_checks s m true
    ++ record { applies = not (is_running s.phase); refusal = WrongPhase }
    ∷ record { applies = not (tables_agree s m); refusal = Inconsistent }
    ∷ []

-- Park stores the record in sector 0.
unfoldable pub park_action : State → Memory → Action
park_action s m =
    record {
      stores = record { sector = 0; bytes = park_record (record { number = s.number; tail = s.tail }) } ∷ [];
      cost = stores_alone;
      answer = Accepted;
      state = parked_state s;
      tables = m.tables;
      cut_state = cut_state s;
      cut_tables = m.tables;
    }

unfoldable pub park_of : State → Memory → ℕ → After
park_of s m allowance = unless_refused (judged (park_checks s m)) s m (performed allowance (park_action s m) m)
