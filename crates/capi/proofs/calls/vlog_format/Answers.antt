-- The definition of format, its outcome in numbers.
use Rattle.capi.proofs.Numbers.{call_in_numbers, held_behind}
use mathlib.Core.Path.{◌∙◌, ap}
use Rattle.std.proofs.Common.{rules}
use Rattle.geometry.specs.declared.Settings.{Settings}
use Rattle.state.specs.declared.State.{State}
use Rattle.volume.specs.Tables.{memory}
use Rattle.volume.specs.Store.{after}
use Rattle.volume.specs.Format.{format_of}
use Rattle.plain.specs.Plain.{settings_in}
use Rattle.capi.proofs.calls.vlog_format.Goals as goal

pub returns : goal.returns
returns c =
    call_in_numbers c.args.c _ c.format-o.result _ c.result_of.result c.state_of-s.ensures c.result_of.ensures
    (λ (s : State). format_of s (memory c.args.image.now c.args.map.now c.args.places.now c.args.numbers.now c.args.used.now) (settings_in c.args.given) c.args.allowance)
    (ap (after c.format-o.result) (held_behind c.format-o.new.m _ _ _ _ _ (search rules) (search rules) (search rules) (search rules) (search rules)) ∙ c.format-o.ensures.value
    ∙ ap (λ (x : Settings). format_of c.state_of-s.result (memory c.args.image.now c.args.map.now c.args.places.now c.args.numbers.now c.args.used.now) x c.args.allowance) c.settings_of-settings.ensures)
