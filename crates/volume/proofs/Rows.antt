-- Rows of the tables of samples: a volume is formatted, a run of calls is made on it, and the row says what is then to be
-- seen. All of it is computed from the definitions of the calls and from nothing else.
use Prim.Native.Nat.{ℕ, zero, suc, ◌*◌, ◌/◌}
use mathlib.Core.Path.{◌≡◌, refl}
use mathlib.Core.Bool.{true, false, cond}
use mathlib.Core.List.{List, [], ◌∷◌, map}
use mathlib.Core.Option.{Option, none, some}
use lib.ListN.{length, replicate}
use Rattle.state.specs.declared.State.{State}
use Rattle.state.specs.declared.Phase.TheVariants.{Cut}
use Rattle.state.specs.State.{phase_number}
use Rattle.layout.specs.Bounded.{at, all_below, any_below, count_below, best, all, elem, distinct, same, list_from, tabled, gathered, updates}
use Rattle.geometry.specs.Geometry.{pieces_for, used_bytes}
use Rattle.geometry.specs.declared.Drive.{Drive}
use Rattle.geometry.proofs.Sized.{sized, one_track, asked}
use Rattle.layout.specs.Word.{words_of, bytes_of, word_sum, starts_with, balanced}
use Rattle.layout.specs.MapSector.{MapSector, map_mark, kind_of, encoded, branches_fit, valid, decoded}
use Rattle.layout.specs.Entry.{complemented, needs_flip, stored, entry_for, restored, is_empty}
use Rattle.layout.specs.ParkRecord.{park_record, is_park_record, parked_in}
use Rattle.volume.specs.Tables.{Memory, sector_at, bit_at, memory, named_by, used_by, free_sectors, consistent, piece_entries, says_piece, live_valid}
use Rattle.volume.specs.Refusals.{applies, first_of, judged}
use Rattle.answer.specs.Answer.{number_of, cost_of, way_of, reads_of}
use Rattle.volume.specs.Store.{After, applied, stores_below, performed}
use Rattle.volume.specs.Format.{format_stores, format_tables, format_action, image_fits, tables_fit, size_checks, format_of}
use Rattle.tracks.specs.Placing.{nearest, placed_up_to, place_of, skipped_by}
use Rattle.volume.specs.Commit.{touches, branches_in, older_key, listing, branches_for, planned, rank, member_place, changed_entries, committed_tables, member, data_store, member_store, commit_stores, plan_action, commit_action}
use Rattle.volume.specs.Calls.{state_fits, blocks_fit, tables_agree, commit_checks, commit_of, write_change, drop_change, room_for, write_by, drop_by, write_of, drop_of, entry_readable, read_checks, block_of, read_judged, read_of, park_checks, park_action, park_of}
use Rattle.volume.specs.Recover.{number_in, piece_in, entry_in, closing_number, piece_number, tables_from, target_waits, targets_read, walk_step, walked_for, walk_from, branch_count, walked_log, walk_complete}
use Rattle.volume.specs.Recover.{walk_finding, newest_closing, closed_up_to, scan_place, signed_numbers, scanned_log, scan_damaged, scan_stores, scan_finding, walk_starts, finding_from, recovered, image_view, recover_of}

-- A call with its arguments.
abbrev pub Call : Type 0
Call = State → Memory → After

-- The same memory, with each sector and each element of the shorter tables computed once.
held : Memory → Memory
held m =
    record {
      lengths = m.lengths;
      image = tabled [] (m.lengths.image / 512) m.image;
      tables = record {
        entry = m.tables.entry;
        place = tabled 0 m.lengths.places m.tables.place;
        number = tabled 0 m.lengths.numbers m.tables.number;
        is_used = tabled false (8 * m.lengths.used) m.tables.is_used;
      };
    }

-- Each call gets state and memory as the last one left them.
run : List Call → After → After
run [] a = a
run (call ∷ calls) a =
    let b = call a.outcome.state a.memory in
    run calls (record { outcome = b.outcome; memory = held b.memory })

-- What the format of a row is lent, and handed: anything, of the right lengths.
lent : ℕ → ℕ → Memory
lent n l =
    record {
      lengths = record { image = 512 * n; map = l; places = pieces_for l; numbers = pieces_for l; used = used_bytes n };
      image = λ _. replicate 512 0xAA;
      tables = record { entry = λ _. 7; place = λ _. 7; number = λ _. 7; is_used = λ _. true };
    }

-- It is what slices of these lengths and bytes hold.
lent_lengths :
    (memory (replicate (512 * 12) 0xAA) (replicate 200 7) (replicate 3 7) (replicate 3 7) (replicate 2 255)).lengths ≡ (lent 12 200).lengths
unfolding memory lent
lent_lengths = refl

lent_contents :
    ((memory (replicate (512 * 12) 0xAA) (replicate 200 7) (replicate 3 7) (replicate 3 7) (replicate 2 255)).image 11 ≡ (lent 12 200).image 11)
    × ((memory (replicate (512 * 12) 0xAA) (replicate 200 7) (replicate 3 7) (replicate 3 7) (replicate 2 255)).tables.is_used 11 ≡ (lent 12 200).tables.is_used 11)
unfolding memory lent sector_at bit_at
lent_contents = (refl, refl)

any_state : State
any_state = record { geometry = sized 1 2; drive = one_track 5; tail = 3; number = 4; phase = Cut }

pub record Formatted : Type 0 where
  pub n : ℕ
  pub l : ℕ
  pub drive : Drive
  pub stores : ℕ

-- The volume after a format, and after a run of calls on it.
unfoldable pub formatted : Formatted → After
unfolding held lent any_state
formatted f =
    let fresh = format_of any_state (lent f.n f.l) (asked f.l f.drive) f.stores in
    record { outcome = fresh.outcome; memory = held fresh.memory }

unfoldable pub outcome_of : Formatted → List Call → After
unfolding held run formatted
outcome_of f calls = run calls (formatted f)

-- The numbers of the last answer, and of the state.
pub record Result : Type 0 where
  pub answer : ℕ
  pub stores : ℕ
  pub skipped : ℕ
  pub way : ℕ
  pub reads : ℕ
  pub tail : ℕ
  pub number : ℕ
  pub phase : ℕ

abbrev pub result_of : After → Result
result_of a =
    let answer = a.outcome.answer in
    record {
      answer = number_of answer;
      stores = (cost_of answer).stores;
      skipped = (cost_of answer).skipped;
      way = way_of answer;
      reads = reads_of answer;
      tail = a.outcome.state.tail;
      number = a.outcome.state.number;
      phase = phase_number a.outcome.state.phase;
    }

-- All that is to be seen: the result; the free sectors; for each piece the place of its live map sector and the number, piece,
-- kind and branches that stand there; each block that has an entry, with it; for each sector its number where it is signed;
-- word 1 of the tail's sector; the 512 bytes of a read of the row's block, 238 each where it is refused; and the 512 bytes of
-- the row's sector as they stand in the image.
pub record Report : Type 0 where
  pub result : Result
  pub free : List ℕ
  pub live : List (List ℕ)
  pub entries : List (List ℕ)
  pub sectors : List ℕ
  pub balance : ℕ
  pub block : List ℕ
  pub bytes : List ℕ

pub record Row : Type 0 where
  pub calls : List Call
  pub block : ℕ
  pub sector : ℕ
  pub says : Report

free_in : Memory → ℕ → ℕ → List ℕ
free_in m k zero = []
free_in m k (suc n) = let rest = free_in m (suc k) n in cond (m.tables.is_used k) rest (k ∷ rest)

entries_in : Memory → ℕ → ℕ → List (List ℕ)
entries_in m b zero = []
entries_in m b (suc n) =
    let rest = entries_in m (suc b) n in
    cond (is_empty (m.tables.entry b)) rest ((b ∷ m.tables.entry b ∷ []) ∷ rest)

seen : ℕ → Option MapSector → List ℕ
seen k none = k ∷ []
seen k (some m) = k ∷ m.number ∷ m.piece ∷ kind_of m.closing ∷ m.branches

-- What stands at the live place of a piece.
unfoldable pub live_sector : Formatted → Memory → ℕ → List ℕ
unfolding seen
live_sector f m p = let k = m.tables.place p in seen k (decoded (sized f.n f.l) (m.image k))

abbrev pub full : ℕ → List ℕ
full byte = replicate 512 byte

-- What a row gives on a volume that is formatted already.
unfoldable pub gives_on : Formatted → After → Row → Report
unfolding updates gathered all_below any_below count_below best all elem distinct same list_from tabled words_of bytes_of word_sum
    starts_with balanced encoded branches_fit valid decoded complemented needs_flip stored entry_for restored park_record
    is_park_record parked_in sector_at bit_at memory named_by used_by free_sectors consistent piece_entries says_piece live_valid
    applies first_of judged applied stores_below performed format_stores format_tables format_action image_fits tables_fit
    size_checks format_of nearest placed_up_to place_of skipped_by touches branches_in older_key listing branches_for planned rank
    member_place changed_entries committed_tables member data_store member_store commit_stores plan_action commit_action state_fits
    blocks_fit tables_agree commit_checks commit_of write_change drop_change room_for write_by drop_by entry_readable read_checks
    block_of read_judged read_of park_checks park_action park_of number_in piece_in entry_in closing_number piece_number tables_from
    target_waits targets_read walk_step walked_for walk_from branch_count walked_log walk_complete walk_finding newest_closing
    closed_up_to scan_place signed_numbers scanned_log scan_damaged scan_stores scan_finding walk_starts finding_from recovered
    image_view recover_of held run live_sector free_in entries_in
gives_on f fresh row =
    let a = run row.calls fresh in
    let m = a.memory in
    let s = a.outcome.state in
    let n = f.n in
    let l = f.l in
    record {
      result = result_of a;
      free = free_in m 0 n;
      live = list_from (live_sector (f) m) 0 (pieces_for l);
      entries = entries_in m 0 l;
      sectors = list_from (λ k. let number = number_in (decoded (sized n l) (m.image k)) in cond (starts_with map_mark (m.image k)) number 0) 0 n;
      balance = at (words_of (m.image s.tail)) 1;
      block = (read_of s m row.block (full 238)).out;
      bytes = m.image row.sector;
    }

-- Rows of one volume, which is formatted once for all of them.
pub record Table : Type 0 where
  pub format : Formatted
  pub rows : List Row

unfoldable pub gives : Table → List Report
unfolding gives_on formatted
gives t = let fresh = formatted t.format in map (gives_on t.format fresh) t.rows

abbrev pub says : Table → List Report
says t = map (λ row. row.says) t.rows

-- The volumes of document 01's samples: A has L 2, N 4; B has L 200, N 12, and so three pieces.
abbrev pub volume_a : List Row → Table
volume_a rows = record { format = record { n = 4; l = 2; drive = one_track 4; stores = 1000 }; rows = rows }

abbrev pub volume_b : List Row → Table
volume_b rows = record { format = record { n = 12; l = 200; drive = one_track 12; stores = 1000 }; rows = rows }

-- The calls, with stores enough or fewer. A write fills each of its blocks with one byte.
abbrev pub enough : ℕ
enough = 1000

abbrev pub write_bytes : ℕ → List ℕ → List ℕ → ℕ → Call
write_bytes head blocks bytes allowance s m = write_of s m head blocks bytes allowance

abbrev pub write : ℕ → List ℕ → ℕ → ℕ → Call
write head blocks byte = write_bytes head blocks (replicate (512 * length blocks) byte)

abbrev pub drop : ℕ → List ℕ → ℕ → Call
drop head blocks allowance s m = drop_of s m head blocks allowance

abbrev pub park : ℕ → Call
park allowance s m = park_of s m allowance

-- A recovery on a drive; on one of one track.
abbrev pub recover_on : Drive → ℕ → ℕ → Call
recover_on drive l allowance s m = recover_of s m (asked l drive) allowance

abbrev pub recover : ℕ → ℕ → Call
recover l allowance s m = recover_on (one_track (m.lengths.image / 512)) l allowance s m
