-- The definition of read, its outcome in numbers.
use Rattle.capi.proofs.Numbers.{read_in_numbers_lem}
use Rattle.state.specs.declared.State.{State}
use Rattle.volume.specs.Tables.{memory}
use Rattle.volume.specs.Calls.{read_of}
use Rattle.capi.proofs.calls.vlog_read.Goals as goal

pub returns : goal.returns
returns c =
    read_in_numbers_lem c.args.c _ c.read-o.result _ c.result_of.result
    c.state_of-s.ensures c.result_of.ensures _
    (λ (s : State). read_of s (memory c.args.image.now c.args.map.now c.args.places.now c.args.numbers.now c.args.used.now) c.args.block c.args.out.now)
    c.read-o.ensures
