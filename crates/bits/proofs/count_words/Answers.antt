-- What is counted at word w is the number of marked sectors below 64w.
use Prim.Native.Nat.{ℕ, ◌+◌, ◌*◌, ◌^◌, ◌<◌}
use mathlib.Core.Path.{◌≡◌, ◌∙◌, ap}
use native.Mathlib.Omega.{arith}
use lib.Count.{ones}
use Rattle.layout.specs.Bounded.{count_below}
use Rattle.volume.specs.Tables.{bit_at}
use Rattle.laws.proofs.Bounded.{count_le}
use Rattle.bits.proofs.WordLaws.{set_none, set_more}
use Rattle.bits.proofs.count_words.Goals as goal

pub loop-w-init : goal.loop-w-init
loop-w-init c = set_none c.args.used.now

pub overflow_add-set : goal.overflow_add-set
overflow_add-set c =
    let below : c.word_at.result < 2 ^ 64 = omega arith in
    let more = set_more c.args.used.now c.loop-w.w c.word_at.result below c.word_at.ensures in
    let few = count_le (bit_at c.args.used.now) (64 * (c.loop-w.w + 1)) in
    omega arith

pub loop-w-preserved : goal.loop-w-preserved
loop-w-preserved c =
    let below : c.word_at.result < 2 ^ 64 = omega arith in
    ap (λ (x : ℕ). x + ones c.word_at.result) c.loop-w.invariant ∙ set_more c.args.used.now c.loop-w.w c.word_at.result below c.word_at.ensures

pub returns : goal.returns
returns c =
    let last : c.loop-w.w ≡ c.args.words = omega arith in
    c.loop-w.invariant ∙ ap (λ (x : ℕ). count_below (bit_at c.args.used.now) (64 * x)) last
