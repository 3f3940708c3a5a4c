-- Document 02, point 3, "A morning's backlog in one call": a batch of commits.
use Rattle.std.specs.Prelude.{ℕ, ◌+◌, ◌*◌, ◌-◌, ◌/◌, ◌%◌, Bool, true, cond, not, ◌&&◌, List, [], ◌∷◌, ◌++◌, length, take, drop, eqb, Result, Ok, Err, ⊤}
use Rattle.geometry.specs.Geometry.{within}
use Rattle.answer.specs.declared.Refusal.{Refusal}
use Rattle.answer.specs.declared.Cost.{Cost}
use Rattle.answer.specs.declared.Refusal.TheVariants.{BlockNumbers, CommitCount}
use Rattle.answer.specs.Answer.{number_of, cost_of, stores_alone}
use Rattle.state.specs.declared.State.{State}
use Rattle.state.specs.declared.Outcome.{Outcome}
use Rattle.state.specs.declared.BatchOutcome.{BatchOutcome}
use Rattle.layout.specs.Bounded.{at, is_zero, sum_below, list_from}
use Rattle.volume.specs.Tables.{Memory}
use Rattle.volume.specs.Refusals.{Check, judged}
use Rattle.volume.specs.Rules.{Rules, base}
use Rattle.volume.specs.Store.{After, refused}
use Rattle.volume.specs.Calls.{state_checks, commit_of, drop_change, write_by}

-- The most commits of a batch.
abbrev pub batch_commits : ℕ
batch_commits = 32

-- A commit of a batch: its kind (0 a write, 1 a drop), its head, the blocks that it names, and its bytes.
pub record Commit : Type 0 where
  pub kind : ℕ
  pub head : ℕ
  pub blocks : List ℕ
  pub bytes : List ℕ

-- One commit, as it is made singly. A drop has no bytes; a kind that is neither is refused as wrong block numbers are.
unfoldable pub commit_made : Rules → State → Memory → Commit → ℕ → After
commit_made rules s m c allowance =
    let write = write_by rules s m c.head c.blocks c.bytes allowance in
    let drop = commit_of rules s m c.head (drop_change c.blocks) (is_zero (length c.bytes)) true allowance in
    let neither = refused BlockNumbers s m in
    cond (eqb c.kind 0) write (cond (eqb c.kind 1) drop neither)

-- What commits that are made one after the other answer, and what they leave.
pub record Answered : Type 0 where
  pub outcomes : List Outcome
  pub state : State
  pub memory : Memory

-- An answer, and what follows it.
abbrev pub answered_first : Outcome → Answered → Answered
answered_first o later = record { outcomes = o ∷ later.outcomes; state = later.state; memory = later.memory }

-- "Answer for each as the commits made singly do, up to and including the first that is turned back. Earlier ones stay." Each gets
-- what the one before it left, and what is left of the allowance.
unfoldable pub commits_made : Rules → State → Memory → List Commit → ℕ → Answered
commits_made rules s m [] allowance = record { outcomes = []; state = s; memory = m }
commits_made rules s m (c ∷ cs) allowance =
    let made = commit_made rules s m c allowance in
    let o = made.outcome in
    let go_on = commits_made rules o.state made.memory cs (allowance - (cost_of o.answer).stores) in
    let stop : Answered = record { outcomes = []; state = o.state; memory = made.memory } in
    answered_first o (cond (is_zero (number_of o.answer)) go_on stop)

-- What they cost together, one that met 10 included.
unfoldable pub total_cost : List Outcome → Cost
total_cost [] = stores_alone 0
total_cost (o ∷ os) =
    let first = cost_of o.answer in
    let rest = total_cost os in
    record { stores = first.stores + rest.stores; skipped = first.skipped + rest.skipped }

-- A commit is lent as four words: its kind, its head, how many block numbers are its own, and how many bytes. The block numbers of
-- all commits stand one after the other, and so do their bytes.
abbrev pub commit_words : ℕ
commit_words = 4

abbrev pub commits_lent : List ℕ → ℕ
commits_lent words = length words / commit_words

abbrev pub blocks_of : List ℕ → ℕ → ℕ
blocks_of words i = at words (commit_words * i + 2)

abbrev pub bytes_of : List ℕ → ℕ → ℕ
bytes_of words i = at words (commit_words * i + 3)

unfoldable pub commit_at : List ℕ → List ℕ → List ℕ → ℕ → Commit
commit_at words blocks bytes i =
    record {
      kind = at words (commit_words * i);
      head = at words (commit_words * i + 1);
      blocks = take (blocks_of words i) (drop (sum_below (blocks_of words) i) blocks);
      bytes = take (bytes_of words i) (drop (sum_below (bytes_of words) i) bytes);
    }

unfoldable pub commits_in : List ℕ → List ℕ → List ℕ → List Commit
commits_in words blocks bytes = list_from (commit_at words blocks bytes) 0 (commits_lent words)

-- How many words answer a commit.
abbrev pub answer_words : ℕ
answer_words = 5

-- Refusal 2 of a batch's own buffers, by their lengths: whole commits, whose counts add up to what is lent, and just the room for
-- their answers.
unfoldable pub batch_fits : List ℕ → ℕ → ℕ → ℕ → Bool
batch_fits words blocks bytes answers =
    is_zero (length words % commit_words)
    && eqb (sum_below (blocks_of words) (commits_lent words)) blocks
    && eqb (sum_below (bytes_of words) (commits_lent words)) bytes
    && eqb answers (answer_words * commits_lent words)

-- The refusals of a batch as a whole: 1, 11, 2, and 12, no commit or more than 32.
unfoldable pub batch_checks : State → Memory → List ℕ → ℕ → ℕ → ℕ → List Check
batch_checks s m words blocks bytes answers =
    state_checks s m (batch_fits words blocks bytes answers)
    ++ record { applies = not (within 1 batch_commits (commits_lent words)); refusal = CommitCount }
    ∷ []

-- The words that answer a commit: the number of its answer, its stores, the sum of its delays, and tail and number after it.
abbrev pub answer_of : Outcome → List ℕ
answer_of o =
    number_of o.answer ∷ (cost_of o.answer).stores ∷ (cost_of o.answer).skipped ∷ o.state.tail ∷ o.state.number ∷ []

-- The answers of the commits that were answered, and the rest as it came.
unfoldable pub answers_with : List Outcome → List ℕ → List ℕ
answers_with [] answers = answers
answers_with (o ∷ os) answers = answer_of o ++ answers_with os (drop answer_words answers)

-- What a batch hands back, and what it leaves in what it was lent.
pub record BatchAfter : Type 0 where
  pub outcome : BatchOutcome
  pub memory : Memory
  pub answers : List ℕ

abbrev pub batch_done : Answered → List ℕ → BatchAfter
batch_done r answers =
    record {
      outcome = record { verdict = Ok tt; answered = length r.outcomes; cost = total_cost r.outcomes; state = r.state };
      memory = r.memory;
      answers = answers_with r.outcomes answers;
    }

abbrev pub batch_judged : Result ⊤ Refusal → State → Memory → Answered → List ℕ → BatchAfter
batch_judged (Ok u) s m done answers = batch_done done answers
batch_judged (Err r) s m done answers =
    record {
      outcome = record { verdict = Err r; answered = 0; cost = stores_alone 0; state = s };
      memory = m;
      answers = answers;
    }

unfoldable pub batch_by : Rules → State → Memory → List ℕ → List ℕ → List ℕ → ℕ → List ℕ → BatchAfter
batch_by rules s m words blocks bytes allowance answers =
    let done = commits_made rules s m (commits_in words blocks bytes) allowance in
    batch_judged (judged (batch_checks s m words (length blocks) (length bytes) (length answers))) s m done answers

abbrev pub batch_of : State → Memory → List ℕ → List ℕ → List ℕ → ℕ → List ℕ → BatchAfter
batch_of = batch_by base
