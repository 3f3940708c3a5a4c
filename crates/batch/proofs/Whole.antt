-- A batch as a whole: refused, or its commits made.
use Prim.Native.Nat.{ℕ, ◌*◌, ◌%◌}
use mathlib.Core.Path.{◌≡◌, sym, ◌∙◌, ap}
use mathlib.Core.Bool.{true, ◌&&◌}
use mathlib.Core.List.{List}
use lib.ListN.{length}
use lib.Dec.{eqb, leb}
use borrow.Author.Tests.{eqb-true, leb-true}
use Rattle.std.specs.Prelude.{Result, Ok, Err, ⊤}
use Rattle.geometry.specs.Geometry.{within}
use Rattle.state.specs.declared.State.{State}
use Rattle.answer.specs.declared.Cost.{Cost}
use Rattle.answer.specs.declared.Refusal.{Refusal}
use Rattle.answer.specs.declared.Refusal.TheVariants.{BufferLength, CommitCount}
use Rattle.answer.specs.Answer.{stores_alone}
use Rattle.layout.specs.Bounded.{is_zero, sum_below}
use Rattle.volume.specs.Tables.{Memory, memory}
use Rattle.volume.specs.Refusals.{applies, first_of, judged}
use Rattle.volume.specs.Format.{tables_fit}
use Rattle.volume.specs.Rules.{base}
use Rattle.volume.specs.Calls.{state_fits}
use Rattle.batches.specs.Batch.{commits_lent, blocks_of, bytes_of, commits_in, commits_made, batch_fits, batch_checks, BatchAfter, batch_done, batch_judged, batch_by, batch_of}
use Rattle.laws.proofs.Bounded.{and_l, and_r}
use Rattle.laws.proofs.Judged.{cleared, not_false}
use Rattle.checks.specs.Left.{lent}
use Rattle.batch.specs.Batch.{batch_left, Lent}

module _ (s : State) (im mp pl nu us words blocks bytes : List ℕ) (allowance : ℕ) (answers : List ℕ) (v : Result ⊤ Refusal)
    (f : v ≡ judged (batch_checks s (lent (length im) (length mp) (length pl) (length nu) (length us)) words (length blocks) (length bytes) (length answers))) where
  abbrev m : Memory
  m = memory im mp pl nu us

  by_memory : v ≡ judged (batch_checks s m words (length blocks) (length bytes) (length answers))
  unfolding batch_checks state_fits tables_fit memory judged first_of applies
  by_memory = f

  is_judged : (w : Result ⊤ Refusal) → v ≡ w → batch_judged w s m (commits_made base s m (commits_in words blocks bytes) allowance) answers ≡ batch_of s m words blocks bytes allowance answers
  unfolding batch_by
  is_judged w e = ap (λ (x : Result ⊤ Refusal). batch_judged x s m (commits_made base s m (commits_in words blocks bytes) allowance) answers) (sym e ∙ by_memory)

  pub whole_refused : (r : Refusal) (cost : Cost) → cost ≡ stores_alone 0 → v ≡ Err r
      → batch_left (record { verdict = Err r; answered = 0; cost = cost; state = s }) m answers ≡ batch_of s m words blocks bytes allowance answers
  whole_refused r cost k e =
      ap (λ (x : Cost). batch_left (record { verdict = Err r; answered = 0; cost = x; state = s }) m answers) k ∙ is_judged (Err r) e

  module _ (e : v ≡ Ok tt) where
    pub whole_done : (r : BatchAfter) → r ≡ batch_done (commits_made base s m (commits_in words blocks bytes) allowance) answers → r ≡ batch_of s m words blocks bytes allowance answers
    whole_done r d = d ∙ is_judged (Ok tt) e

    buffers : batch_fits words (length blocks) (length bytes) (length answers) ≡ true
    unfolding batch_checks applies
    buffers = and_r (tables_fit m s.geometry) _ (not_false _ (cleared BufferLength _ (sym by_memory ∙ e)))

    counts : within 1 32 (commits_lent words) ≡ true
    unfolding batch_checks applies
    counts = not_false _ (cleared CommitCount _ (sym by_memory ∙ e))

    pub whole_lent : Lent words (length blocks) (length bytes) (length answers)
    unfolding batch_fits
    whole_lent =
        let a1 = is_zero (length words % 4) in
        let a2 = eqb (sum_below (blocks_of words) (commits_lent words)) (length blocks) in
        let a3 = eqb (sum_below (bytes_of words) (commits_lent words)) (length bytes) in
        let a4 = eqb (length answers) (5 * commits_lent words) in
        let e3 = and_l (a1 && a2 && a3) a4 buffers in
        let e2 = and_l (a1 && a2) a3 e3 in
        record {
          few = leb-true (commits_lent words) 32 (and_r (leb 1 (commits_lent words)) (leb (commits_lent words) 32) counts);
          named = eqb-true (sum_below (blocks_of words) (commits_lent words)) (length blocks) (and_r a1 a2 e2);
          brought = eqb-true (sum_below (bytes_of words) (commits_lent words)) (length bytes) (and_r (a1 && a2) a3 e3);
          room = eqb-true (length answers) (5 * commits_lent words) (and_r (a1 && a2 && a3) a4 buffers);
        }
