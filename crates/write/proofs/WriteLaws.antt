-- Write and drop: the refusals, and what the commit leaves.
use Prim.Native.Nat.{ℕ, ◌+◌, ◌*◌, ◌≤◌}
use mathlib.Core.Path.{◌≡◌, refl, sym, ◌∙◌, ap}
use mathlib.Core.Logic.{⊎_elim}
use mathlib.Core.Bool.{Bool, true, false, not}
use mathlib.Core.List.{List}
use native.Mathlib.Omega.{arith}
use lib.ListN.{length}
use lib.Dec.{eqb, ltb}
use borrow.Author.Tests.{eqb-true, ne_eqb, le-ltb}
use Rattle.std.specs.Prelude.{Result, Ok, Err, ⊤}
use Rattle.state.specs.declared.State.{State}
use Rattle.answer.specs.declared.Refusal.{Refusal}
use Rattle.answer.specs.declared.Answer.TheVariants.{Refused}
use Rattle.geometry.specs.Geometry.{pieces_for}
use Rattle.layout.specs.Bounded.{is_zero}
use Rattle.volume.specs.Tables.{Memory, memory, bit_at, sector_at, tables_of, free_sectors, consistent}
use Rattle.volume.specs.Refusals.{applies, first_of, judged}
use Rattle.volume.specs.Store.{After, after, performed, unless_refused}
use Rattle.volume.specs.Rules.{base}
use Rattle.volume.specs.Commit.{Change, commit_action}
use Rattle.volume.specs.Calls.{view_of, tables_agree, commit_checks, commit_of, write_change, drop_change, room_for, write_by, drop_by, write_of, drop_of}
use Rattle.laws.proofs.Bounded.{bool?, cond_false}
use Rattle.laws.proofs.Names.{sound}
use Rattle.laws.proofs.CommitPassed.{commit_passed}
use Rattle.commit.specs.Commit.{change_by}
use Rattle.verdict.proofs.CommitChecks.{passed}

module _ (s : State) (im mp pl nu us : List ℕ) (head : ℕ) (blocks : List ℕ) (allowance : ℕ) where
  abbrev m : Memory
  m = memory im mp pl nu us

  abbrev checked : Bool → ℕ → Result ⊤ Refusal
  checked fit count = judged (commit_checks base s m head blocks fit (not (ltb (free_sectors s.geometry.n (bit_at us)) (count + pieces_for s.geometry.l))))

  -- A write.
  module _ (bytes : List ℕ) (fit : Bool) (fits : fit ≡ eqb (length bytes) (512 * length blocks)) where
    write_is : (v : Result ⊤ Refusal) → v ≡ checked fit (length blocks)
        → unless_refused v s m (performed allowance (commit_action base s m.tables (view_of s.geometry m.image) head (write_change blocks bytes)) m)
        ≡ write_of s m head blocks bytes allowance
    unfolding write_by commit_of room_for write_change memory
    write_is v e =
        ap (λ (w : Result ⊤ Refusal). unless_refused w s m (performed allowance (commit_action base s m.tables (view_of s.geometry m.image) head (write_change blocks bytes)) m))
        (e ∙ ap (λ (b : Bool). checked b (length blocks)) fits)

    pub write_refused : (r : Refusal) → Err r ≡ checked fit (length blocks)
        → after (record { answer = Refused r; state = s }) m ≡ write_of s m head blocks bytes allowance
    write_refused r e = write_is (Err r) e

    -- The bytes fit, so that the checks are those of a commit with bytes that fit.
    fit_true : Ok tt ≡ checked fit (length blocks) → fit ≡ true
    fit_true e = (commit_passed base s m head blocks fit _ (sym e)).bytes

    pub write_passed : Ok tt ≡ checked fit (length blocks) → Ok tt ≡ checked true (length blocks)
    write_passed e = e ∙ ap (λ (b : Bool). checked b (length blocks)) (fit_true e)

    pub write_length : Ok tt ≡ checked fit (length blocks) → length bytes ≡ 512 * length blocks
    write_length e = eqb-true (length bytes) (512 * length blocks) (sym fits ∙ fit_true e)

    pub write_few : Ok tt ≡ checked fit (length blocks) → length blocks ≤ 64
    write_few e = (passed s im mp pl nu us head blocks (length blocks) (write_passed e)).high

    pub write_done : (r : After) → Ok tt ≡ checked fit (length blocks)
        → r ≡ performed allowance (commit_action base s (tables_of mp pl nu us) (view_of s.geometry (sector_at im)) head (change_by blocks bytes (length blocks))) m
        → r ≡ write_of s m head blocks bytes allowance
    unfolding memory
    write_done r e f =
        let low = (passed s im mp pl nu us head blocks (length blocks) (write_passed e)).low in
        f
        ∙ ap (λ (c : Change). performed allowance (commit_action base s (tables_of mp pl nu us) (view_of s.geometry (sector_at im)) head c) m)
        (cond_false (is_zero (length blocks)) (drop_change blocks) (write_change blocks bytes) (ne_eqb (length blocks) 0 (λ (z : length blocks ≡ 0). omega arith)))
        ∙ write_is (Ok tt) e

  -- A drop needs no room of its own: where the tables are sound, P sectors are free.
  module _ (fit : Bool) where
    abbrev dropped : After
    dropped = commit_of base s m head (drop_change blocks) fit true allowance

    room_kept : checked fit 0 ≡ judged (commit_checks base s m head blocks fit true)
    unfolding commit_checks judged first_of applies tables_agree memory
    room_kept =
        ⊎_elim (λ (e : consistent s.geometry (tables_of mp pl nu us) s.tail s.number ≡ true).
        let room = (sound s.geometry (tables_of mp pl nu us) s.tail s.number e).room in
        rw (le-ltb (free_sectors s.geometry.n (bit_at us)) (0 + pieces_for s.geometry.l) (omega arith)) refl)
        (λ (e : consistent s.geometry (tables_of mp pl nu us) s.tail s.number ≡ false). rw e refl)
        (bool? (consistent s.geometry (tables_of mp pl nu us) s.tail s.number))

    drop_is : (v : Result ⊤ Refusal) → v ≡ checked fit 0
        → unless_refused v s m (performed allowance (commit_action base s m.tables (view_of s.geometry m.image) head (drop_change blocks)) m) ≡ dropped
    unfolding commit_of drop_change
    drop_is v e =
        ap (λ (w : Result ⊤ Refusal). unless_refused w s m (performed allowance (commit_action base s m.tables (view_of s.geometry m.image) head (drop_change blocks)) m))
        (e ∙ room_kept)

    pub drop_refused : (r : Refusal) → Err r ≡ checked fit 0 → after (record { answer = Refused r; state = s }) m ≡ dropped
    drop_refused r e = drop_is (Err r) e

    pub drop_passed : Ok tt ≡ checked fit 0 → Ok tt ≡ checked true 0
    drop_passed e = e ∙ ap (λ (b : Bool). checked b 0) (commit_passed base s m head blocks fit _ (sym e)).bytes

    pub drop_done : (bytes : List ℕ) (r : After) → Ok tt ≡ checked fit 0
        → r ≡ performed allowance (commit_action base s (tables_of mp pl nu us) (view_of s.geometry (sector_at im)) head (change_by blocks bytes 0)) m
        → r ≡ dropped
    unfolding memory
    drop_done bytes r e f = f ∙ drop_is (Ok tt) e

pub drop_single : (s : State) (m : Memory) (head : ℕ) (blocks : List ℕ) (allowance : ℕ) (r : After)
    → r ≡ commit_of base s m head (drop_change blocks) true true allowance → r ≡ drop_of s m head blocks allowance
unfolding drop_by
drop_single s m head blocks allowance r e = e

pub fit_judged : (s : State) (m : Memory) (head : ℕ) (blocks : List ℕ) (v : Result ⊤ Refusal) (fit fit' room : Bool)
    → v ≡ judged (commit_checks base s m head blocks fit room) → fit ≡ fit' → v ≡ judged (commit_checks base s m head blocks fit' room)
fit_judged s m head blocks v fit fit' room e f = e ∙ ap (λ (b : Bool). judged (commit_checks base s m head blocks b room)) f

-- What is looked at is what is lent.
pub lent_judged : (s : State) (im mp pl nu us im' mp' pl' nu' us' : List ℕ) (head : ℕ) (blocks : List ℕ) (fit : Bool) (count : ℕ) (v : Result ⊤ Refusal)
    → memory im' mp' pl' nu' us' ≡ memory im mp pl nu us
    → v ≡ judged (commit_checks base s (memory im' mp' pl' nu' us') head blocks fit (not (ltb (free_sectors s.geometry.n (bit_at us')) (count + pieces_for s.geometry.l))))
    → v ≡ judged (commit_checks base s (memory im mp pl nu us) head blocks fit (not (ltb (free_sectors s.geometry.n (bit_at us)) (count + pieces_for s.geometry.l))))
unfolding memory
lent_judged s im mp pl nu us im' mp' pl' nu' us' head blocks fit count v e f =
    f ∙ ap (λ (m : Memory). judged (commit_checks base s m head blocks fit (not (ltb (free_sectors s.geometry.n m.tables.is_used) (count + pieces_for s.geometry.l))))) e
