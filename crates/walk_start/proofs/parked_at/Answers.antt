-- No record, no start there, or a start.
use mathlib.Core.Path.{◌∙◌, ap}
use native.Mathlib.Omega.{arith}
use lib.ListN.{length}
use borrow.Author.Tests.{not-true, not-false}
use Rattle.volume.specs.Tables.{sector_at}
use Rattle.laws.proofs.Sectors.{sector_length}
use Rattle.volume.specs.Recover.{image_view}
use Rattle.walk_start.proofs.StartLaws.{no_record, no_start, start_here}
use mathlib.Core.Bool.{not}
use Rattle.walk_start.proofs.parked_at.Goals as goal

pub is_park-requires : goal.is_park-requires
is_park-requires c =
    ap length c.sector-s.ensures ∙ sector_length _ 0 (omega arith)

pub returns-then-not-is_park : goal.returns-then-not-is_park
returns-then-not-is_park c =
    no_record _ (image_view _ _) (sector_at _ 0) _ c.sector-s.ensures c.is_park.result c.is_park.ensures (not-true c.is_park.result (ap not c.if-not-is_park.true))

pub parked_tail-sector-requires : goal.parked_tail-sector-requires
parked_tail-sector-requires c =
    ap length c.sector-s.ensures ∙ sector_length _ 0 (omega arith)

pub parked_number-number-requires : goal.parked_number-number-requires
parked_number-number-requires c =
    ap length c.sector-s.ensures ∙ sector_length _ 0 (omega arith)

pub returns-then-not-starts_at : goal.returns-then-not-starts_at
returns-then-not-starts_at c =
    no_start _ (image_view _ _) (sector_at _ 0) _ c.sector-s.ensures c.is_park.result c.is_park.ensures
    (not-false c.is_park.result (ap not c.if-not-is_park.false)) c.parked_tail-sector.result c.parked_number-number.result c.parked_tail-sector.ensures
    c.parked_number-number.ensures c.starts_at.result c.starts_at.ensures
    (not-true c.starts_at.result (ap not c.if-not-starts_at.true))

pub returns : goal.returns
returns c =
    start_here _ (image_view _ _) (sector_at _ 0) _ c.sector-s.ensures c.is_park.result c.is_park.ensures
    (not-false c.is_park.result (ap not c.if-not-is_park.false)) c.parked_tail-sector.result c.parked_number-number.result c.parked_tail-sector.ensures
    c.parked_number-number.ensures c.starts_at.result c.starts_at.ensures
    (not-false c.starts_at.result (ap not c.if-not-starts_at.false))
