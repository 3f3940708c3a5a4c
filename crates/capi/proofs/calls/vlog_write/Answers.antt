-- The definition of write, its outcome in numbers.
use mathlib.Core.Path.{sym}
use Rattle.capi.proofs.Numbers.{call_lent}
use Rattle.state.specs.declared.State.{State}
use Rattle.volume.specs.Tables.{memory}
use Rattle.volume.specs.Calls.{write_of}
use Rattle.capi.proofs.calls.vlog_write.Goals as goal

pub returns : goal.returns
returns c =
    call_lent c.write-o.new.m _ _ _ _ _ (
      c.image-1.given.1.1 (sym c.write-o.ensures.lent.image),
      c.map-1.given.1.1 (sym c.write-o.ensures.lent.map),
      c.places-1.given.1.1 (sym c.write-o.ensures.lent.places),
      c.numbers-1.given.1.1 (sym c.write-o.ensures.lent.numbers),
      c.used-1.given.1.1 (sym c.write-o.ensures.lent.used),
    )
    c.args.c _ c.write-o.result c.result_of.result c.state_of-s.ensures c.result_of.ensures
    (λ (s : State). write_of s (memory c.args.image.now c.args.map.now c.args.places.now c.args.numbers.now c.args.used.now) c.args.head c.args.blocks.now c.args.bytes.now c.args.allowance) c.write-o.ensures.value
