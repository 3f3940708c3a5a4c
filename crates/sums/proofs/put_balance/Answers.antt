-- The word stored is the balance of the sum found.
use Rattle.std.proofs.Common.{ℕ, ap, ◌∙◌}
use lib.Seq.{sets}
use Rattle.layout.specs.Word.{word_bytes, balance}
use Rattle.sums.proofs.put_balance.Goals as goal

pub returns : goal.returns
returns c =
    c.put_word.ensures
    ∙ ap (λ (w : ℕ). sets c.args.s.now 4 (word_bytes w)) (c.balance_of.ensures ∙ ap balance c.word_sum-sum.ensures)
