-- An accepted write or drop, of any state and memory whose map entries are words, leaves tables that agree with the image again.
use Prim.Native.Nat.{ℕ, ◌+◌, ◌*◌, ◌^◌, ◌≤◌, ◌<◌}
use mathlib.Core.Path.{◌≡◌, refl, sym, subst}
use mathlib.Core.Logic.{⊎_elim}
use mathlib.Core.Bool.{Bool, true}
use mathlib.Core.List.{List}
use native.Mathlib.Nat.{not-suc-le-zero}
use native.Mathlib.Omega.{arith}
use lib.ListN.{length}
use lib.Dec.{eqb, ltb}
use borrow.Author.Tests.{eq-eqb, ltb-false}
use Rattle.std.specs.Prelude.{Ok}
use Rattle.state.specs.declared.State.{State}
use Rattle.geometry.specs.Geometry.{sector_bytes, pieces_for, geometry_fits}
use Rattle.answer.specs.Answer.{number_of, refusal_number}
use Rattle.state.specs.State.{committed_state, is_running}
use Rattle.volume.specs.Tables.{Memory, sector_at, free_sectors}
use Rattle.volume.specs.Refusals.{judged}
use Rattle.volume.specs.Store.{After, Action, performed, memory_with}
use Rattle.volume.specs.Rules.{Rules}
use Rattle.volume.specs.Commit.{Change, plan_action, commit_action}
use Rattle.volume.specs.Calls.{view_of, state_fits, tables_agree, commit_checks, commit_of, write_change, drop_change, room_for, write_by}
use Rattle.laws.proofs.Bounded.{lt?, clash, and_r, not_of}
use Rattle.laws.proofs.Codec.{entry_sector, entry_full, entry_word}
use Rattle.laws.proofs.Placing.{Choosing}
use Rattle.laws.proofs.Sizes.{Fits, fits}
use Rattle.laws.proofs.Judged.{refusal_some, verdict?, performed_cut, performed_whole}
use Rattle.laws.proofs.CommitPassed.{CommitPassed, all_apart, commit_passed}
use Rattle.agreement.proofs.Agreed.{Agreed, agree_agreed, agreed_agree}
use Rattle.agreement.proofs.Plan.{Given, started, plan}
use Rattle.agreement.proofs.Members.{tables'}
use Rattle.agreement.proofs.Stored.{image'}
use Rattle.agreement.proofs.Sound.{tail', number', agreed'}

-- What a write and a drop start from, where no refusal stops them.
module _ (rules : Rules) (s : State) (m : Memory) (head : ℕ) (blocks : List ℕ) (bytes_fit has_room : Bool)
    (words : (b : ℕ) → b < s.geometry.l → m.tables.entry b < 2 ^ 32) (c : CommitPassed rules s m head blocks bytes_fit has_room) where
  fit : Fits s.geometry
  unfolding state_fits
  fit = fits s.geometry (and_r (eqb m.lengths.image (sector_bytes * s.geometry.n)) (geometry_fits s.geometry) c.sizes)

  agreed : Agreed s.geometry m.image m.tables s.tail s.number
  agreed = agree_agreed s m fit words c.agree

  room_fits : room_for s m blocks ≡ true → length blocks + pieces_for s.geometry.l ≤ free_sectors s.geometry.n m.tables.is_used
  unfolding room_for
  room_fits e =
      ltb-false (free_sectors s.geometry.n m.tables.is_used) (length blocks + pieces_for s.geometry.l)
      (not_of (ltb (free_sectors s.geometry.n m.tables.is_used) (length blocks + pieces_for s.geometry.l)) e)

  pub write_given : (bytes : List ℕ) → room_for s m blocks ≡ true → Given rules s m.tables m.image head (write_change blocks bytes)
  unfolding write_change
  write_given bytes e =
      record {
        fit = fit;
        drive = c.drive;
        agreed = agreed;
        inside = c.named.inside;
        some = c.named.some;
        blocks = c.named.below;
        apart = all_apart blocks c.named.ascending;
        few = omega arith;
        full = λ i k h low high. entry_full (sector_at bytes i) k low;
        sector = λ i k h low high. entry_sector (sector_at bytes i) k high;
        word = λ i k h low high. entry_word (sector_at bytes i) k high;
        gone = λ i k h b. absurd (omega arith);
        room = room_fits e;
        numbers = c.numbers;
      }

  pub drop_given : Given rules s m.tables m.image head (drop_change blocks)
  unfolding drop_change
  drop_given =
      record {
        fit = fit;
        drive = c.drive;
        agreed = agreed;
        inside = c.named.inside;
        some = c.named.some;
        blocks = c.named.below;
        apart = all_apart blocks c.named.ascending;
        few = omega arith;
        full = λ i k h low high. absurd (not-suc-le-zero h);
        sector = λ i k h low high. absurd (not-suc-le-zero h);
        word = λ i k h low high. absurd (not-suc-le-zero h);
        gone = λ i k h b. refl;
        room = let r = agreed.sound.room in omega arith;
        numbers = c.numbers;
      }

-- What an accepted commit leaves: the tables agree again, the volume is the same and running, and the lengths are the same.
pub record KeptBy (s : State) (m : Memory) (r : After) : Type 0 where
  pub agree : tables_agree r.outcome.state r.memory ≡ true
  pub geometry : r.outcome.state.geometry ≡ s.geometry
  pub drive : r.outcome.state.drive ≡ s.drive
  pub phase : is_running r.outcome.state.phase ≡ true
  pub lengths : r.memory.lengths ≡ m.lengths

-- A commit of any change that starts from such tables.
module _ (rules : Rules) (law : Choosing rules) (s : State) (m : Memory) (head : ℕ) (change : Change) (bytes_fit has_room : Bool)
    (given : CommitPassed rules s m head change.blocks bytes_fit has_room → Given rules s m.tables m.image head change) where
  abbrev action : Action
  action = commit_action rules s m.tables (view_of s.geometry m.image) head change

  whole_keeps : Given rules s m.tables m.image head change → (allowance : ℕ) → length action.stores ≤ allowance
      → KeptBy s m (performed allowance action m)
  unfolding commit_action plan_action plan tables'
  whole_keeps u allowance h =
      let g = started law u in
      subst (KeptBy s m) (sym (performed_whole allowance action m h))
      (record {
        agree = agreed_agree (committed_state s (tail' g) (number' g)) (memory_with m (image' g) (tables' g)) (agreed' g);
        geometry = refl;
        drive = refl;
        phase = refl;
        lengths = refl;
      })

  passed_keeps : Given rules s m.tables m.image head change → (allowance : ℕ)
      → number_of (performed allowance action m).outcome.answer ≡ 0 → KeptBy s m (performed allowance action m)
  passed_keeps u allowance a =
      ⊎_elim (λ (h : allowance < length action.stores).
      let z = subst (λ (r : After). number_of r.outcome.answer ≡ 0) (performed_cut allowance action m h) a in
      absurd (omega arith))
      (whole_keeps u allowance) (lt? allowance (length action.stores))

  commit_keeps : (allowance : ℕ) → number_of (commit_of rules s m head change bytes_fit has_room allowance).outcome.answer ≡ 0
      → KeptBy s m (commit_of rules s m head change bytes_fit has_room allowance)
  unfolding commit_of
  commit_keeps allowance a =
      ⊎_elim (λ (e : judged (commit_checks rules s m head change.blocks bytes_fit has_room) ≡ Ok tt).
      rw e (passed_keeps (given (commit_passed rules s m head change.blocks bytes_fit has_room e)) allowance (rw e at a)))
      (λ v. clash (eqb (refusal_number v.0) 0) (eq-eqb (refusal_number v.0) 0 (rw v.1 at a)) (refusal_some v.0))
      (verdict? (judged (commit_checks rules s m head change.blocks bytes_fit has_room)))

pub write_keeps : (rules : Rules) → Choosing rules → (s : State) (m : Memory) (head : ℕ) (blocks bytes : List ℕ) (allowance : ℕ)
    → ((b : ℕ) → b < s.geometry.l → m.tables.entry b < 2 ^ 32)
    → number_of (write_by rules s m head blocks bytes allowance).outcome.answer ≡ 0
    → KeptBy s m (write_by rules s m head blocks bytes allowance)
unfolding write_by write_change
write_keeps rules law s m head blocks bytes allowance words a =
    let bytes_fit = eqb (length bytes) (sector_bytes * length blocks) in
    commit_keeps rules law s m head (write_change blocks bytes) bytes_fit (room_for s m blocks)
    (λ c. write_given rules s m head blocks bytes_fit (room_for s m blocks) words c bytes c.room) allowance a

pub drop_keeps : (rules : Rules) → Choosing rules → (s : State) (m : Memory) (head : ℕ) (blocks : List ℕ) (bytes_fit : Bool) (allowance : ℕ)
    → ((b : ℕ) → b < s.geometry.l → m.tables.entry b < 2 ^ 32)
    → number_of (commit_of rules s m head (drop_change blocks) bytes_fit true allowance).outcome.answer ≡ 0
    → KeptBy s m (commit_of rules s m head (drop_change blocks) bytes_fit true allowance)
unfolding drop_change
drop_keeps rules law s m head blocks bytes_fit allowance words a =
    commit_keeps rules law s m head (drop_change blocks) bytes_fit true
    (λ c. drop_given rules s m head blocks bytes_fit true words c) allowance a
