-- What is counted at k is the number of free sectors below k, from the last whole word on.
use mathlib.Core.Bool.{not}
use Prim.Native.Nat.{ℕ, ◌+◌, ◌/◌}
use mathlib.Core.Path.{◌≡◌, ◌∙◌, ap}
use native.Mathlib.Omega.{arith}
use Rattle.volume.specs.Tables.{bit_at, free_sectors}
use Rattle.bits.proofs.BitLaws.{free_le, free_hit, free_miss}
use Rattle.bits.proofs.WordLaws.{free_words}
use Rattle.bits.proofs.count_free.Goals.{then-not-is_set, else-not-is_set}
use Rattle.bits.proofs.count_free.Goals as goal

pub count_words-requires : goal.count_words-requires
count_words-requires c = record {
  words_in_bounds = omega arith;
  words_bound = omega arith;
}

pub overflow_sub-free : goal.overflow_sub-free
overflow_sub-free c =
    (free_words c.args.used.now (c.args.n / 64) c.count_words.result c.count_words.ensures).0

pub loop-k-init : goal.loop-k-init
loop-k-init c =
    (free_words c.args.used.now (c.args.n / 64) c.count_words.result c.count_words.ensures).1

pub overflow_add-free : goal.overflow_add-free
overflow_add-free c =
    let b = free_le c.loop-k.k c.args.used.now in
    omega arith

pub loop-k-preserved : goal.loop-k-preserved
loop-k-preserved c =
    elim c.if-not-is_set.branch [
      | then-not-is_set w ↦
          w.free-is ∙ ap (λ (x : ℕ). x + 1) c.loop-k.invariant
          ∙ free_hit c.loop-k.k c.args.used.now c.is_set.result c.is_set.ensures (ap not w.if-not-is_set.true)
      | else-not-is_set w ↦
          w.free-is ∙ c.loop-k.invariant
          ∙ free_miss c.loop-k.k c.args.used.now c.is_set.result c.is_set.ensures (ap not w.if-not-is_set.false)
    ]

pub returns : goal.returns
returns c =
    c.loop-k.invariant ∙ ap (λ (x : ℕ). free_sectors x (bit_at c.args.used.now)) (let e : c.loop-k.k ≡ c.args.n = omega arith in e)
