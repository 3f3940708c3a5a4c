-- The commits below i are made and answered, each with what those before it left.
use Prim.Native.Nat.{ℕ, ◌+◌, ◌*◌, ◌-◌}
use mathlib.Core.Path.{refl, sym, ◌∙◌, ap}
use native.Mathlib.Omega.{arith}
use Rattle.lending.specs.Lending.{held}
use Rattle.batches.specs.Batch.{blocks_of, bytes_of}
use Rattle.batch.specs.Batch.{batch_left}
use Rattle.batch.proofs.Commits.{part_inside, sum_fits, lent_keeps}
use Rattle.batch.proofs.Making.{making_starts, within_left, skipped_fits, making_more, making_stops, making_ends}
use Rattle.batch.proofs.make_commits.Goals as goal

pub loop-i-init : goal.loop-i-init
loop-i-init c =
    (record { image = refl; map = refl; places = refl; numbers = refl; used = refl }, refl, making_starts _ _ _ _ _ _ _)

pub answer_commit-o-requires : goal.answer_commit-o-requires
answer_commit-o-requires c =
    let named = part_inside (blocks_of c.args.words.now) c.loop-i.i _ c.loop-i.block _ c.loop-i.invariant.2.block_is c.requires.named c.loop-i-test.true in
    let brought = part_inside (bytes_of c.args.words.now) c.loop-i.i _ c.loop-i.byte _ c.loop-i.invariant.2.byte_is c.requires.brought c.loop-i-test.true in record {
      commit_words_in_bounds = omega arith;
      block_value = c.loop-i.invariant.2.block_is;
      byte_value = c.loop-i.invariant.2.byte_is;
      i_in_bounds = named;
      i_in_bounds_2 = brought;
      answer_words_in_bounds = omega arith;
      known_agreed = c.loop-i.invariant.2.agree;
    }

pub overflow_sub-left : goal.overflow_sub-left
overflow_sub-left c =
    let h = within_left _ _ _ _ _ _ _ c.loop-i.i _ _ _ _ _ _ _ c.loop-i.invariant.2 c.loop-i-test.true _ _ c.answer_commit-o.ensures.value.0 _ c.answer_commit-o.ensures.value.1 in
    omega arith

pub overflow_add-skipped : goal.overflow_add-skipped
overflow_add-skipped c =
    let h = skipped_fits _ _ _ _ _ _ _ c.loop-i.i _ _ _ _ _ _ _ c.loop-i.invariant.2 c.loop-i-test.true _ _ c.answer_commit-o.ensures.value.0 _ c.answer_commit-o.ensures.value.1 in
    omega arith

pub overflow_cast-block : goal.overflow_cast-block
overflow_cast-block c =
    let h = (c.type_inv.words (4 * c.loop-i.i + 2)).fits in
    omega arith

pub overflow_add-block-in-loop-i : goal.overflow_add-block-in-loop-i
overflow_add-block-in-loop-i c =
    let before = sum_fits (blocks_of c.args.words.now) (λ j. (c.type_inv.words (4 * j + 2)).fits) c.loop-i.i in
    let own = (c.type_inv.words (4 * c.loop-i.i + 2)).fits in
    omega arith

pub overflow_cast-byte : goal.overflow_cast-byte
overflow_cast-byte c =
    let h = (c.type_inv.words (4 * c.loop-i.i + 3)).fits in
    omega arith

pub overflow_add-byte-in-loop-i : goal.overflow_add-byte-in-loop-i
overflow_add-byte-in-loop-i c =
    let before = sum_fits (bytes_of c.args.words.now) (λ j. (c.type_inv.words (4 * j + 3)).fits) c.loop-i.i in
    let own = (c.type_inv.words (4 * c.loop-i.i + 3)).fits in
    omega arith

pub shape_of-answers-then-number-ne0 : goal.shape_of-answers-then-number-ne0
shape_of-answers-then-number-ne0 c =
    c.answer_commit-o.auto.answers ∙ c.loop-i.invariant.1

pub returns-then-number-ne0-clause-value : goal.returns-then-number-ne0-clause-value
returns-then-number-ne0-clause-value c =
    let left = within_left _ _ _ _ _ _ _ c.loop-i.i _ _ _ _ _ _ _ c.loop-i.invariant.2 c.loop-i-test.true _ _ c.answer_commit-o.ensures.value.0 _ c.answer_commit-o.ensures.value.1 in
    ap (λ x. batch_left x (held c.answer_commit-o.new.m) c.answer_commit-o.new.answers) c.answered.ensures
    ∙ making_stops _ _ _ _ _ _ _ c.loop-i.i _ _ c.loop-i.left c.loop-i.skipped _ _ _ c.loop-i.invariant.2 c.loop-i-test.true _ _ c.answer_commit-o.ensures.value.0 _ c.answer_commit-o.ensures.value.1 (c.loop-i.left - c.stores-left.result) _ (omega arith)
    (ap (λ (x : ℕ). c.loop-i.skipped + x) c.skipped-skipped.ensures) (λ e. c.if-number-ne0.true (c.number.ensures ∙ e)) (c.loop-i.i + 1) _ refl (omega arith)

pub loop-i-preserved : goal.loop-i-preserved
loop-i-preserved c =
    let left = within_left _ _ _ _ _ _ _ c.loop-i.i _ _ _ _ _ _ _ c.loop-i.invariant.2 c.loop-i-test.true _ _ c.answer_commit-o.ensures.value.0 _ c.answer_commit-o.ensures.value.1 in
    let ok = sym c.number.ensures ∙ c.if-number-ne0.false in
    let kept = lent_keeps _ _ _ _ _ _ _ _ c.entries_fit.ensures _ c.answer_commit-o.ensures.value.0 ok in (
      record {
        image = c.answer_commit-o.ensures.lent.image ∙ c.loop-i.invariant.0.image;
        map = c.answer_commit-o.ensures.lent.map ∙ c.loop-i.invariant.0.map;
        places = c.answer_commit-o.ensures.lent.places ∙ c.loop-i.invariant.0.places;
        numbers = c.answer_commit-o.ensures.lent.numbers ∙ c.loop-i.invariant.0.numbers;
        used = c.answer_commit-o.ensures.lent.used ∙ c.loop-i.invariant.0.used;
      },
      c.answer_commit-o.auto.answers ∙ c.loop-i.invariant.1,
      making_more _ _ _ _ _ _ _ c.loop-i.i _ _ c.loop-i.left c.loop-i.skipped _ _ _ c.loop-i.invariant.2 c.loop-i-test.true _ _ c.answer_commit-o.ensures.value.0 _ c.answer_commit-o.ensures.value.1 (c.loop-i.left - c.stores-left.result) _ (omega arith)
          (ap (λ (x : ℕ). c.loop-i.skipped + x) c.skipped-skipped.ensures) ok (λ e. kept.agree) _ _ refl refl,
    )

pub shape_of-answers : goal.shape_of-answers
shape_of-answers c =
    c.loop-i.invariant.1

pub returns-clause-value : goal.returns-clause-value
returns-clause-value c =
    ap (λ x. batch_left x (held c.loop-i.m) c.loop-i.answers) c.answered-2.ensures
    ∙ making_ends _ _ _ _ _ _ _ c.loop-i.i _ _ c.loop-i.left c.loop-i.skipped _ _ _ c.loop-i.invariant.2 c.loop-i-test.false _ _ (omega arith) (omega arith)
