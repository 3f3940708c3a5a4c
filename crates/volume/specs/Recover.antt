-- Document 01, "Recover": the log is found again by a walk from its tail, or by a scan of all sectors.
use Rattle.std.specs.Prelude.{ℕ, zero, suc, ◌+◌, ◌-◌, Bool, false, cond, not, ◌&&◌, ◌||◌, List, [], ◌∷◌, ◌++◌, length, eqb, leb, ltb}
use Rattle.std.proofs.Math.Option.{Option, none, some}
use Rattle.state.specs.declared.State.{State}
use Rattle.answer.specs.declared.Answer.{Answer}
use Rattle.answer.specs.declared.Answer.TheVariants.{Walked, Scanned, Lost}
use Rattle.answer.specs.declared.Cost.{Cost}
use Rattle.answer.specs.declared.Loss.{Loss}
use Rattle.answer.specs.declared.Loss.TheVariants.{NoLog, DamagedLog}
use Rattle.answer.specs.Answer.{stores_alone}
use Rattle.layout.specs.Bounded.{at, all_below, any_below, best, all, distinct, is_zero, tabled, updated, gathered}
use Rattle.geometry.specs.declared.Geometry.{Geometry}
use Rattle.geometry.specs.declared.Drive.{Drive}
use Rattle.geometry.specs.declared.Settings.{Settings}
use Rattle.geometry.specs.Geometry.{within, pieces_for, piece_of, index_of}
use Rattle.layout.specs.MapSector.{MapSector, View, decoded}
use Rattle.layout.specs.ParkRecord.{Parked, parked_in}
use Rattle.volume.specs.Tables.{Tables, Memory, zero_tables, named_by, used_by, consistent}
use Rattle.state.specs.State.{fresh_state, lost_state}
use Rattle.volume.specs.Refusals.{judged}
use Rattle.volume.specs.Store.{Store, stores_below, After, Action, after, memory_with, performed, unless_refused}
use Rattle.volume.specs.Format.{blank_store, volume_in, size_checks}
use Rattle.volume.specs.Commit.{branches_in}

-- What a sector says as a map sector, 0 where it is not signed: its number, its piece, an entry, its number where it is closing, and
-- its number where it is of piece p and numbered up to c.
unfoldable pub number_in : Option MapSector → ℕ
number_in none = 0
number_in (some m) = m.number

unfoldable pub piece_in : Option MapSector → ℕ
piece_in none = 0
piece_in (some m) = m.piece

unfoldable pub entry_in : ℕ → Option MapSector → ℕ
entry_in i none = 0
entry_in i (some m) = at m.entries i

unfoldable pub closing_number : Option MapSector → ℕ
closing_number none = 0
closing_number (some m) = cond m.closing m.number 0

unfoldable pub piece_number : ℕ → ℕ → Option MapSector → ℕ
piece_number c p none = 0
piece_number c p (some m) = cond (eqb m.piece p && leb m.number c) m.number 0

-- The tables that one live map sector a piece gives.
unfoldable pub tables_from : ℕ → View → (ℕ → ℕ) → Tables
tables_from l view live =
    let pieces = pieces_for l in
    let place = tabled 0 pieces live in
    let entry = tabled 0 l (λ b. entry_in (index_of b) (view (place (piece_of b)))) in
    let named = named_by l entry place in
    record { entry = entry; place = place; number = tabled 0 pieces (λ p. number_in (view (place p))); is_used = used_by named }

-- A log that was found: its tables, its tail and the tail's number.
pub record Log : Type 0 where
  pub tables : Tables
  pub tail : ℕ
  pub number : ℕ

abbrev pub is_consistent : Geometry → Log → Bool
is_consistent g log = consistent g log.tables log.tail log.number

-- The walk: for each piece the sector that waits, and the one taken where the piece is done; 0 for none.
pub record Walk : Type 0 where
  pub waiting : ℕ → ℕ
  pub taken : ℕ → ℕ

abbrev pub waiting_number : View → Walk → ℕ → ℕ
waiting_number view w p = cond (is_zero (w.waiting p)) 0 (number_in (view (w.waiting p)))

-- A target that was read waits if signed, lower in number than the holder and of a piece not done; for a piece the highest
-- waits, of equal ones the first read.
unfoldable pub target_waits : View → ℕ → Walk → ℕ → Option MapSector → Walk
target_waits view holder w target none = w
target_waits view holder w target (some m) =
    cond (ltb m.number holder && is_zero (w.taken m.piece) && ltb (waiting_number view w m.piece) m.number)
    (record { waiting = updated w.waiting m.piece target; taken = w.taken })
    w

unfoldable pub targets_read : View → ℕ → Walk → List ℕ → Walk
targets_read view holder w [] = w
targets_read view holder w (target ∷ targets) = targets_read view holder (target_waits view holder w target (view target)) targets

-- The newest waiting sector is taken, its piece is done, and its branches are read. Nothing happens where none waits.
unfoldable pub walk_step : ℕ → View → Walk → Walk
walk_step pieces view w =
    let p = best (waiting_number view w) pieces in
    let k = w.waiting p in
    let done : Walk = record { waiting = updated w.waiting p 0; taken = updated w.taken p k } in
    let read = targets_read view (number_in (view k)) done (branches_in (view k)) in
    cond (is_zero (waiting_number view w p)) w read

unfoldable pub walked_for : ℕ → View → Walk → ℕ → Walk
walked_for pieces view w zero = w
walked_for pieces view w (suc steps) = walk_step pieces view (walked_for pieces view w steps)

-- From the tail on, at most P sectors are taken.
unfoldable pub walk_from : ℕ → View → ℕ → ℕ → ℕ
walk_from pieces view tail =
    let start : Walk = record { waiting = updated (λ _. 0) (piece_in (view tail)) tail; taken = λ _. 0 } in
    (walked_for pieces view start pieces).taken

-- The sectors that a walk reads: 2, and the branches of the P live sectors.
unfoldable pub branch_count : View → (ℕ → ℕ) → ℕ → ℕ
branch_count view place zero = 0
branch_count view place (suc p) = branch_count view place p + length (branches_in (view (place p)))

-- A log that a walk or a scan found, the answer that goes with it, and the sectors to be zeroed.
pub data Finding : Type 0 where
  found : Log → (Cost → Answer) → List Store → Finding
  missing : Loss → Finding

-- Sector 0 is zero already.
abbrev pub is_blank : List ℕ → Bool
is_blank bytes = all is_zero bytes

-- Zeros finally go to sector 0 unless it is zero already.
abbrev pub park_sector_cleared : Bool → List Store
park_sector_cleared done = cond done [] (blank_store 0 ∷ [])

-- The walk answers where all P pieces are done and the tables are sound; otherwise the scan does.
unfoldable pub walked_log : ℕ → View → Parked → Log
walked_log l view parked =
    record {
      tables = tables_from l view (walk_from (pieces_for l) view parked.tail);
      tail = parked.tail;
      number = parked.number;
    }

unfoldable pub walk_complete : Geometry → Log → Bool
walk_complete g log = all_below (λ p. not (is_zero (log.tables.place p))) (pieces_for g.l) && is_consistent g log

unfoldable pub walk_finding : Geometry → View → List ℕ → Log → Finding → Finding
walk_finding g view sector0 log scan =
    let reads = 2 + branch_count view log.tables.place (pieces_for g.l) in
    let walk = found log (Walked reads) (park_sector_cleared (is_blank sector0)) in
    cond (walk_complete g log) walk scan

-- The scan. The newest signed closing sector, and C: its number, the highest on a signed closing sector; 0 where there is none.
unfoldable pub newest_closing : ℕ → View → ℕ
newest_closing n view = best (λ k. closing_number (view k)) n

unfoldable pub closed_up_to : ℕ → View → ℕ
closed_up_to n view = closing_number (view (newest_closing n view))

-- Each piece's sector is its highest number up to C.
unfoldable pub scan_place : ℕ → View → ℕ → ℕ → ℕ
scan_place n view c p = best (λ k. piece_number c p (view k)) n

-- The numbers of all signed sectors.
unfoldable pub signed_numbers : View → ℕ → List ℕ
signed_numbers view n = gathered (λ k. not (is_zero (number_in (view k)))) (λ k. number_in (view k)) [] n

unfoldable pub scanned_log : Geometry → View → ℕ → Log
scanned_log g view c =
    record {
      tables = tables_from g.l view (scan_place g.n view c);
      tail = newest_closing g.n view;
      number = c;
    }

-- Two signed sectors with one number, a piece missing, or the tables not sound.
unfoldable pub scan_damaged : Geometry → View → ℕ → Log → Bool
scan_damaged g view c log =
    not (distinct (signed_numbers view g.n))
    || any_below (λ p. is_zero (piece_number c p (view (scan_place g.n view c p)))) (pieces_for g.l)
    || not (is_consistent g log)

-- A signed sector numbered above C: a member of a commit that never closed.
abbrev pub is_uncommitted : View → ℕ → ℕ → Bool
is_uncommitted view c k = ltb c (number_in (view k))

-- Zeros over those, ascending, and finally over sector 0 unless it is zero by then.
unfoldable pub scan_stores : ℕ → View → List ℕ → ℕ → List Store
scan_stores n view sector0 c =
    stores_below (is_uncommitted view c) blank_store n ++ park_sector_cleared (is_blank sector0 || is_uncommitted view c 0)

-- 8 is judged before 9.
unfoldable pub scan_finding : Geometry → View → List ℕ → Finding
scan_finding g view sector0 =
    let c = closed_up_to g.n view in
    let log = scanned_log g view c in
    let scan = found log (Scanned g.n) (scan_stores g.n view sector0 c) in
    let judged9 = cond (scan_damaged g view c log) (missing DamagedLog) scan in
    cond (is_zero c) (missing NoLog) judged9

-- It walks when the park record is laid out as it must be, its tail is a sector from 1 to N - 1, and that sector is signed,
-- closing and has the record's number.
unfoldable pub walk_starts : ℕ → Parked → Option MapSector → Bool
walk_starts n parked none = false
walk_starts n parked (some m) = within 1 (n - 1) parked.tail && m.closing && eqb m.number parked.number

unfoldable pub finding_from : Geometry → View → List ℕ → Option Parked → Finding
finding_from g view sector0 none = scan_finding g view sector0
finding_from g view sector0 (some parked) =
    let scan = scan_finding g view sector0 in
    let walk = walk_finding g view sector0 (walked_log g.l view parked) scan in
    cond (walk_starts g.n parked (view parked.tail)) walk scan

abbrev pub finding_of : Geometry → View → List ℕ → Finding
finding_of g view sector0 = finding_from g view sector0 (parked_in sector0)

-- A log that was found is taken, and the volume runs, on the drive that was given.
abbrev pub recovery_action : Geometry → Drive → Log → (Cost → Answer) → List Store → Action
recovery_action g drive log answer stores =
    record {
      stores = stores;
      cost = stores_alone;
      answer = answer;
      state = fresh_state g drive log.tail log.number;
      tables = log.tables;
      cut_state = lost_state g drive;
      cut_tables = zero_tables;
    }

-- A loss, 8 or 9, leaves the image and fills the tables with zeros.
unfoldable pub recovered : Geometry → Drive → ℕ → Memory → Finding → After
recovered g drive allowance m (found log answer stores) = performed allowance (recovery_action g drive log answer stores) m
recovered g drive allowance m (missing loss) =
    after (record { answer = Lost loss; state = lost_state g drive }) (memory_with m m.image zero_tables)

-- An image read as map sectors, each decoded once.
unfoldable pub image_view : Geometry → (ℕ → List ℕ) → View
image_view g image = tabled none g.n (λ k. decoded g (image k))

unfoldable pub recover_of : State → Memory → Settings → ℕ → After
recover_of s m settings allowance =
    let g = volume_in m settings in
    unless_refused (judged (size_checks m settings)) s m
    (recovered g settings.drive allowance m (finding_of g (image_view g m.image) (m.image 0)))
