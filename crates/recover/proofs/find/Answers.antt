-- A walk where a tail was parked, otherwise a scan.
use mathlib.Core.Path.{sym, ◌∙◌}
use native.Mathlib.Omega.{arith}
use Rattle.checks.proofs.SizeLaws.{size_passed}
use Rattle.recover.proofs.RecoverLaws.{asked_for, asked_scan, image_ready, tables_ready, park_ready}
use Rattle.recover.proofs.find.Goals as goal

pub overflow_cast-image : goal.overflow_cast-image
overflow_cast-image c =
    let s = size_passed _ _ _ _ _ _ c.requires in
    let h = s.range.sectors in
    omega arith

pub parked_at-requires : goal.parked_at-requires
parked_at-requires c = let rest = park_ready _ _ _ _ _ _ c.volume-g.result c.volume-g.ensures c.requires in record {
  image_len = rest.0;
  le_n = rest.1;
}

pub by_scan-requires : goal.by_scan-requires
by_scan-requires c =
    let here = image_ready _ _ _ _ _ _ c.volume-g.result c.volume-g.ensures c.requires in let rest = tables_ready _ _ _ _ _ _ c.volume-g.result c.volume-g.ensures c.requires in record {
      g_value = here.0;
      image_len = here.1;
      map_len = rest.0;
      places_len = rest.1.0;
      numbers_len = rest.1.1.0;
      used_len = rest.1.1.1;
    }

pub by_walk-requires : goal.by_walk-requires
by_walk-requires c =
    let here = image_ready _ _ _ _ _ _ c.volume-g.result c.volume-g.ensures c.requires in let rest = tables_ready _ _ _ _ _ _ c.volume-g.result c.volume-g.ensures c.requires in record {
      g_value = here.0;
      image_len = here.1;
      number_value = sym c.in-Some.is ∙ c.parked_at.ensures;
      map_len = rest.0;
      places_len = rest.1.0;
      numbers_len = rest.1.1.0;
      used_len = rest.1.1.1;
    }

pub returns-in-None-clause-value : goal.returns-in-None-clause-value
returns-in-None-clause-value c =
    asked_scan _ _ _ _ _ _ c.volume-g.result c.volume-g.ensures _ _ (sym c.in-None.is ∙ c.parked_at.ensures) c.by_scan.ensures.value

pub returns-in-Some-clause-value : goal.returns-in-Some-clause-value
returns-in-Some-clause-value c =
    asked_for _ _ _ _ _ _ c.volume-g.result c.volume-g.ensures _ _ c.by_walk.ensures.value
