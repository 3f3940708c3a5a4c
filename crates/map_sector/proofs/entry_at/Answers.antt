-- The entries are the words from word 32 on.
use mathlib.Core.Path.{sym, ◌∙◌}
use Rattle.layout.specs.Word.{words_of}
use Rattle.map_sector.proofs.Maps.{entry_word}
use Rattle.map_sector.proofs.entry_at.Goals as goal

pub returns : goal.returns
returns c =
    c.word_at.ensures ∙ sym (entry_word (words_of _) _)
