-- The definition of a batch, its outcome in numbers.
use mathlib.Core.Path.{sym}
use Rattle.capi.proofs.Numbers.{batch_lent}
use Rattle.state.specs.declared.State.{State}
use Rattle.volume.specs.Tables.{memory}
use Rattle.batches.specs.Batch.{batch_of}
use Rattle.capi.proofs.calls.vlog_batch.Goals as goal

pub returns : goal.returns
returns c =
    batch_lent c.batch-o.new.m _ _ _ _ _ (
      c.image-1.given.1.1 (sym c.batch-o.ensures.lent.image),
      c.map-1.given.1.1 (sym c.batch-o.ensures.lent.map),
      c.places-1.given.1.1 (sym c.batch-o.ensures.lent.places),
      c.numbers-1.given.1.1 (sym c.batch-o.ensures.lent.numbers),
      c.used-1.given.1.1 (sym c.batch-o.ensures.lent.used),
    )
    c.args.c _ c.batch-o.result _ c.batch_result_of.result c.state_of-s.ensures c.batch_result_of.ensures
    (λ (s : State). batch_of s (memory c.args.image.now c.args.map.now c.args.places.now c.args.numbers.now c.args.used.now) c.args.commits.now c.args.blocks.now c.args.bytes.now
    c.args.allowance c.args.answers.now) c.batch-o.ensures.value
