-- What a commit relies on that no refusal stops, each check looked up by its refusal.
use Prim.Native.Nat.{ℕ, zero, suc, ◌-◌, ◌≤◌, ◌<◌}
use mathlib.Core.Path.{◌≡◌}
use mathlib.Core.Logic.{⊎_elim}
use mathlib.Core.Bool.{Bool, true, ◌&&◌}
use mathlib.Core.List.{List}
use native.Mathlib.Nat.{not-suc-le-zero}
use native.Mathlib.Omega.{arith}
use lib.ListN.{length}
use lib.Dec.{leb, ltb}
use borrow.Author.Tests.{ltb-true, ltb-false, leb-true}
use Rattle.std.specs.Prelude.{Ok}
use Rattle.geometry.specs.declared.Geometry.{Geometry}
use Rattle.state.specs.declared.State.{State}
use Rattle.answer.specs.declared.Refusal.TheVariants.{Size, WrongSettings, BufferLength, BlockNumbers, WrongPhase, Inconsistent, NoRoom, NumbersUsedUp}
use Rattle.geometry.specs.Geometry.{within, drive_fits}
use Rattle.state.specs.State.{is_running}
use Rattle.layout.specs.Bounded.{at, all, all_below}
use Rattle.volume.specs.Tables.{Memory}
use Rattle.volume.specs.Refusals.{applies, judged}
use Rattle.volume.specs.Format.{tables_fit}
use Rattle.volume.specs.Rules.{Rules}
use Rattle.volume.specs.Calls.{state_fits, blocks_fit, tables_agree, commit_checks}
use Rattle.laws.proofs.Bounded.{and_l, and_r, all_at, all_below_at, suc_cases}
use Rattle.laws.proofs.Judged.{cleared, not_false}

-- Block numbers.
ascends : (xs : List ℕ) → all_below (λ i. ltb (at xs i) (at xs (suc i))) (length xs - 1) ≡ true → (i j : ℕ) → i < j → j < length xs → at xs i < at xs j
ascends xs a i zero h b = absurd (not-suc-le-zero h)
ascends xs a i (suc j) h b =
    let step = ltb-true (at xs j) (at xs (suc j)) (all_below_at (λ k. ltb (at xs k) (at xs (suc k))) (length xs - 1) a j (omega arith)) in
    ⊎_elim (λ (z : i ≡ j). rw z step) (λ (z : i < j). let r = ascends xs a i j z (omega arith) in omega arith) (suc_cases h)

pub all_apart : (xs : List ℕ) → ((i j : ℕ) → i < j → j < length xs → at xs i < at xs j) → (i j : ℕ) → i < j → j < length xs → at xs i ≡ at xs j → ⊥
all_apart xs a i j h b z = let r = a i j h b in omega arith

pub record BlocksFit (g : Geometry) (head : ℕ) (blocks : List ℕ) : Type 0 where
  pub some : 1 ≤ length blocks
  pub most : length blocks ≤ 64
  pub below : (i : ℕ) → i < length blocks → at blocks i < g.l
  pub ascending : (i j : ℕ) → i < j → j < length blocks → at blocks i < at blocks j
  pub inside : head < g.n

pub blocks_fit_lem : (g : Geometry) (head : ℕ) (blocks : List ℕ) → blocks_fit g head blocks ≡ true → BlocksFit g head blocks
unfolding blocks_fit
blocks_fit_lem g head blocks e =
    let a1 = within 1 64 (length blocks) in
    let a2 = all_below (λ i. ltb (at blocks i) (at blocks (suc i))) (length blocks - 1) in
    let a3 = all (λ b. ltb b g.l) blocks in
    let a4 = ltb head g.n in
    let e3 = and_l (a1 && a2 && a3) a4 e in
    let e2 = and_l (a1 && a2) a3 e3 in
    let e1 = and_l a1 a2 e2 in
    record {
      some = leb-true 1 (length blocks) (and_l (leb 1 (length blocks)) (leb (length blocks) 64) e1);
      most = leb-true (length blocks) 64 (and_r (leb 1 (length blocks)) (leb (length blocks) 64) e1);
      below = λ i h. ltb-true (at blocks i) g.l (all_at (λ b. ltb b g.l) blocks i (and_r (a1 && a2) a3 e3) h);
      ascending = ascends blocks (and_r a1 a2 e2);
      inside = ltb-true head g.n (and_r (a1 && a2 && a3) a4 e);
    }

pub record CommitPassed (rules : Rules) (s : State) (m : Memory) (head : ℕ) (blocks : List ℕ) (bytes_fit has_room : Bool) : Type 0 where
  pub sizes : state_fits s m ≡ true
  pub drive : drive_fits s.geometry.n s.drive ≡ true
  pub lengths : tables_fit m s.geometry ≡ true
  pub bytes : bytes_fit ≡ true
  pub named : BlocksFit s.geometry head blocks
  pub phase : is_running s.phase ≡ true
  pub agree : tables_agree s m ≡ true
  pub room : has_room ≡ true
  pub numbers : s.number ≤ rules.greatest

pub commit_passed : (rules : Rules) (s : State) (m : Memory) (head : ℕ) (blocks : List ℕ) (bytes_fit has_room : Bool)
    → judged (commit_checks rules s m head blocks bytes_fit has_room) ≡ Ok tt → CommitPassed rules s m head blocks bytes_fit has_room
unfolding commit_checks applies
commit_passed rules s m head blocks bytes_fit has_room e =
    let g = s.geometry in
    let lengths = not_false (tables_fit m g && bytes_fit) (cleared BufferLength _ e) in
    record {
      sizes = not_false (state_fits s m) (cleared Size _ e);
      drive = not_false (drive_fits g.n s.drive) (cleared WrongSettings _ e);
      lengths = and_l (tables_fit m g) bytes_fit lengths;
      bytes = and_r (tables_fit m g) bytes_fit lengths;
      named = blocks_fit_lem g head blocks (not_false (blocks_fit g head blocks) (cleared BlockNumbers _ e));
      phase = not_false (is_running s.phase) (cleared WrongPhase _ e);
      agree = not_false (tables_agree s m) (cleared Inconsistent _ e);
      room = not_false has_room (cleared NoRoom _ e);
      numbers = ltb-false rules.greatest s.number (cleared NumbersUsedUp _ e);
    }
