-- The uncommitted sectors and sector 0 are the two parts of the list.
use mathlib.Core.Path.{sym, ◌∙◌, ap}
use mathlib.Core.Bool.{◌||◌}
use Rattle.volume.specs.Tables.{bit_at, sector_at}
use Rattle.volume.specs.Recover.{is_blank}
use Rattle.clear.proofs.ClearLaws.{done_blank, done_marked, clear_fails, clear_runs}
use Rattle.clear.proofs.clear_all.Goals.{then-blank, else-blank}
use Rattle.clear.proofs.clear_all.Goals as goal

pub returns-in_err-left : goal.returns-in_err-left
returns-in_err-left c =
    clear_fails _ _ _ _ _ c.if-blank.done (is_blank (sector_at _ 0) || bit_at _ 0)
    (elim c.if-blank.branch [
      | then-blank w ↦
          done_blank c.is_blank-blank.result c.is_set-marked.result _ (sector_at _ 0) (bit_at _ 0) (c.is_blank-blank.ensures ∙ ap is_blank c.sector.ensures) w.if-blank.true (w.done-is ∙ w.if-blank.true)
      | else-blank w ↦
          done_marked c.is_blank-blank.result c.is_set-marked.result _ (sector_at _ 0) (bit_at _ 0) (c.is_blank-blank.ensures ∙ ap is_blank c.sector.ensures) w.if-blank.false w.done-is c.is_set-marked.ensures
    ])
    _ c.clear_above.ensures.0 _ c.in_err-left.was c.from_residual.ensures c.clear_above.ensures.1

pub returns : goal.returns
returns c =
    clear_runs _ _ _ _ _ c.if-blank.done (is_blank (sector_at _ 0) || bit_at _ 0)
    (elim c.if-blank.branch [
      | then-blank w ↦
          done_blank c.is_blank-blank.result c.is_set-marked.result _ (sector_at _ 0) (bit_at _ 0) (c.is_blank-blank.ensures ∙ ap is_blank c.sector.ensures) w.if-blank.true (w.done-is ∙ w.if-blank.true)
      | else-blank w ↦
          done_marked c.is_blank-blank.result c.is_set-marked.result _ (sector_at _ 0) (bit_at _ 0) (c.is_blank-blank.ensures ∙ ap is_blank c.sector.ensures) w.if-blank.false w.done-is c.is_set-marked.ensures
    ])
    _ _ c.clear_park.result (sym c.in_ok-left.was ∙ c.clear_above.ensures.0) c.clear_above.ensures.1 c.clear_park.ensures.0 c.clear_park.ensures.1
