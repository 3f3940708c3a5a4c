-- So far the first words are stored, one after the other.
use Rattle.std.proofs.Common.{ℕ, ◌+◌, ◌*◌, List, get_or, refl, ap, ◌∙◌, take_all}
use lib.Seq.{sets}
use Rattle.layout.specs.Word.{word_bytes, bytes_of}
use Rattle.laws.proofs.Words.{put_words_next}
use Rattle.words.proofs.put_words.Goals as goal

pub loop-i-init : goal.loop-i-init
unfolding bytes_of
loop-i-init c = refl

pub loop-i-preserved : goal.loop-i-preserved
loop-i-preserved c =
    c.put_word.ensures
    ∙ ap (λ (b : List ℕ). sets b (4 * (c.args.k + c.loop-i.i)) (word_bytes (get_or c.args.words.now c.loop-i.i 0))) c.loop-i.invariant
    ∙ put_words_next c.args.s.now c.args.k c.args.words.now c.loop-i.i c.loop-i-test.true

pub returns : goal.returns
returns c =
    c.loop-i.invariant ∙ ap (λ (ws : List ℕ). sets c.args.s.now (4 * c.args.k) (bytes_of ws)) (take_all c.loop-i.i c.args.words.now c.loop-i-test.false)
