-- So far i zeros are stored.
use Rattle.std.proofs.Common.{◌≡◌, ℕ, ◌+◌, ◌*◌, List, replicate, refl, ap, ◌∙◌, arith}
use lib.Seq.{sets}
use Rattle.layout.specs.Word.{word_bytes, bytes_of}
use Rattle.laws.proofs.Words.{put_zeros_next}
use Rattle.words.proofs.put_zeros.Goals as goal

pub loop-i-init : goal.loop-i-init
unfolding bytes_of
loop-i-init c = refl

pub loop-i-preserved : goal.loop-i-preserved
loop-i-preserved c =
    c.put_word.ensures
    ∙ ap (λ (b : List ℕ). sets b (4 * (c.args.k + c.loop-i.i)) (word_bytes 0)) c.loop-i.invariant
    ∙ put_zeros_next c.args.s.now c.args.k c.loop-i.i

pub returns : goal.returns
returns c =
    let e : c.loop-i.i ≡ c.args.n = omega arith in
    c.loop-i.invariant ∙ ap (λ (m : ℕ). sets c.args.s.now (4 * c.args.k) (bytes_of (replicate m 0))) e
