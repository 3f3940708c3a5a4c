-- Refused it hands everything back; otherwise the one store is the record, made or cut.
use mathlib.Core.Path.{sym, ◌∙◌}
use native.Mathlib.Omega.{arith}
use Rattle.power.proofs.Runs.{left_enough}
use Rattle.park.proofs.ParkLaws.{first_sector, park_refused, park_cut, park_whole}
use Rattle.park.proofs.park.Goals as goal

pub store_record-power-requires : goal.store_record-power-requires
store_record-power-requires c =
    first_sector _ _ _ _ _ _ (sym c.in-Ok.is ∙ c.park_verdict-verdict.ensures)

pub overflow_sub-stores : goal.overflow_sub-stores
overflow_sub-stores c =
    let h = left_enough _ _ _ (sym c.in-Some.is ∙ c.store_record-power.ensures.0) in
    omega arith

pub returns-in-Err : goal.returns-in-Err
returns-in-Err c =
    park_refused _ _ _ _ _ _ _ _ (sym c.in-Err.is ∙ c.park_verdict-verdict.ensures)

pub returns-in-None : goal.returns-in-None
returns-in-None c =
    park_cut _ _ _ _ _ _ _ (sym c.in-Ok.is ∙ c.park_verdict-verdict.ensures) _ c.store_record-power.auto.image c.store_record-power.ensures.1
    c.power_failed.result c.cut.result (sym c.in-None.is ∙ c.store_record-power.ensures.0) c.power_failed.ensures c.cut.ensures

pub returns-in-Some : goal.returns-in-Some
returns-in-Some c =
    park_whole _ _ _ _ _ _ _ (sym c.in-Ok.is ∙ c.park_verdict-verdict.ensures) _ c.store_record-power.auto.image c.store_record-power.ensures.1
    c.accepted.result c.parked.result _ (sym c.in-Some.is ∙ c.store_record-power.ensures.0) c.accepted.ensures c.parked.ensures
