-- The branches are the words from word 8 on.
use mathlib.Core.Path.{sym, ◌∙◌}
use Rattle.layout.specs.Word.{words_of}
use Rattle.map_sector.proofs.Maps.{branch_word}
use Rattle.map_sector.proofs.branch_at.Goals as goal

pub returns : goal.returns
returns c =
    c.word_at.ensures ∙ sym (branch_word (words_of c.args.s.now) c.args.i c.requires.i_lt_branch_room)
