-- What a batch hands back and leaves, as one value; and what is lent to one that no refusal stops.
use Rattle.std.specs.Prelude.{ℕ, ◌*◌, ◌≤◌, ◌≡◌, List}
use Rattle.state.specs.declared.BatchOutcome.{BatchOutcome}
use Rattle.layout.specs.Bounded.{sum_below}
use Rattle.volume.specs.Tables.{Memory}
use Rattle.batches.specs.Batch.{BatchAfter, batch_commits, answer_words, commits_lent, blocks_of, bytes_of}

abbrev pub batch_left : BatchOutcome → Memory → List ℕ → BatchAfter
batch_left outcome memory answers = record { outcome = outcome; memory = memory; answers = answers }

-- At most 32 commits, whose counts add up to the lengths of the block numbers and of the bytes, and room for their answers.
pub record Lent (words : List ℕ) (blocks bytes answers : ℕ) : Type 0 where
  pub few : commits_lent words ≤ batch_commits
  pub named : sum_below (blocks_of words) (commits_lent words) ≡ blocks
  pub brought : sum_below (bytes_of words) (commits_lent words) ≡ bytes
  pub room : answers ≡ answer_words * commits_lent words
