-- The stores are made or cut.
use mathlib.Core.Path.{sym, ◌∙◌, ap}
use native.Mathlib.Omega.{arith}
use Rattle.answer.specs.declared.Answer.TheVariants.{Scanned}
use Rattle.lending.specs.declared.Lengths.{Lengths}
use Rattle.volume.specs.Tables.{sector_at}
use Rattle.power.proofs.Runs.{left_enough}
use Rattle.resume.proofs.ResumeLaws.{recovery_cut_lem, recovery_whole}
use Rattle.resume.proofs.after_scan.Goals as goal

pub overflow_sub-stores : goal.overflow_sub-stores
overflow_sub-stores c =
    let h = left_enough _ _ _ (sym c.in-Some.is ∙ c.clear_all.ensures.0) in
    omega arith

pub returns-in-None-clause-value : goal.returns-in-None-clause-value
returns-in-None-clause-value c =
    recovery_cut_lem _ _ _ _ _ (Scanned _) _ _ c.args.m.now.map.now c.args.m.now.places.now c.args.m.now.numbers.now c.args.m.now.used.now _
    (ap (λ (x : Lengths). x.image) c.give_up.ensures.lengths ∙ c.clear_all.auto.image) (ap sector_at c.give_up.ensures.image ∙ c.clear_all.ensures.1)
    _ _ _ _ c.give_up.result (ap (λ (x : Lengths). x.map) c.give_up.ensures.lengths) (ap (λ (x : Lengths). x.places) c.give_up.ensures.lengths) (ap (λ (x : Lengths). x.numbers) c.give_up.ensures.lengths) (ap (λ (x : Lengths). x.used) c.give_up.ensures.lengths)
    (sym c.in-None.is ∙ c.clear_all.ensures.0) c.give_up.ensures.value

pub returns-in-Some-clause-value : goal.returns-in-Some-clause-value
returns-in-Some-clause-value c =
    recovery_whole _ _ _ _ _ (Scanned _) _ _ _ _ _ _ _ c.clear_all.auto.image c.clear_all.ensures.1
    c.scanned.result c.running.result _ c.scanned.ensures c.running.ensures (sym c.in-Some.is ∙ c.clear_all.ensures.0)
