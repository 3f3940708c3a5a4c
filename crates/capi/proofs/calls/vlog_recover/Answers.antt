-- The definition of recover, its outcome in numbers.
use Rattle.capi.proofs.Numbers.{call_in_numbers, held_behind}
use mathlib.Core.Path.{◌∙◌, ap}
use Rattle.std.proofs.Common.{rules}
use Rattle.geometry.specs.declared.Settings.{Settings}
use Rattle.state.specs.declared.State.{State}
use Rattle.volume.specs.Tables.{memory}
use Rattle.volume.specs.Store.{after}
use Rattle.volume.specs.Recover.{recover_of}
use Rattle.plain.specs.Plain.{settings_in}
use Rattle.capi.proofs.calls.vlog_recover.Goals as goal

pub returns : goal.returns
returns c =
    call_in_numbers c.args.c _ c.recover-o.result _ c.result_of.result c.state_of-s.ensures c.result_of.ensures
    (λ (s : State). recover_of s (memory c.args.image.now c.args.map.now c.args.places.now c.args.numbers.now c.args.used.now) (settings_in c.args.given) c.args.allowance)
    (ap (after c.recover-o.result) (held_behind c.recover-o.new.m _ _ _ _ _ (search rules) (search rules) (search rules) (search rules) (search rules)) ∙ c.recover-o.ensures.value
    ∙ ap (λ (x : Settings). recover_of c.state_of-s.result (memory c.args.image.now c.args.map.now c.args.places.now c.args.numbers.now c.args.used.now) x c.args.allowance) c.settings_of-settings.ensures)
