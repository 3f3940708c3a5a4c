-- The fields are words 2 to 7.
use Rattle.layout.specs.Word.{words_of}
use Rattle.map_sector.proofs.Maps.{header_words}
use Rattle.map_sector.proofs.header_fits.Goals as goal

pub returns : goal.returns
returns c =
    header_words c.args.l (words_of c.args.s.now) _ _ _ _ _ _ _ c.fields_fit.ensures
    c.word_at.ensures
    c.word_at-2.ensures
    c.word_at-3.ensures
    c.word_at-4.ensures
    c.word_at-5.ensures
    c.word_at-6.ensures
