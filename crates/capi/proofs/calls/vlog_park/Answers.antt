-- The definition of park, its outcome in numbers.
use Rattle.capi.proofs.Numbers.{call_in_numbers}
use Rattle.state.specs.declared.State.{State}
use Rattle.volume.specs.Tables.{memory}
use Rattle.volume.specs.Calls.{park_of}
use Rattle.capi.proofs.calls.vlog_park.Goals as goal

pub returns : goal.returns
returns c =
    call_in_numbers c.args.c _ c.park-o.result _ c.result_of.result
    c.state_of-s.ensures c.result_of.ensures
    (λ (s : State). park_of s (memory c.args.image.now c.args.map.now c.args.places.now c.args.numbers.now c.args.used.now) c.args.allowance)
    c.park-o.ensures
