-- Word k is made of the four bytes that are read.
use Rattle.std.proofs.Common.{sym, ◌∙◌}
use Rattle.laws.proofs.Words.{at_words}
use Rattle.words.proofs.word_at.Goals as goal

pub returns : goal.returns
returns c =
    c.word_of.ensures ∙ sym (at_words c.args.s.now c.args.k (c.requires))
