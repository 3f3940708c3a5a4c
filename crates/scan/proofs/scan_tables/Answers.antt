-- Each return, by a law of ScanLaws.
use mathlib.Core.Path.{◌∙◌, ap}
use native.Mathlib.Omega.{arith}
use Rattle.layout.specs.Bounded.{distinct}
use Rattle.volume.specs.Tables.{sector_at}
use Rattle.soundness.proofs.Sounding.{sectors_some}
use Rattle.scan.proofs.ScanLaws.{distinct_fails, tables_decide}
use mathlib.Core.Bool.{not}
use Rattle.scan.proofs.scan_tables.Goals as goal

pub returns-then-not-numbers_distinct-clause-value : goal.returns-then-not-numbers_distinct-clause-value
returns-then-not-numbers_distinct-clause-value c =
    distinct_fails c.args.g (sector_at c.args.image.now) c.args.read.number c.numbers_distinct.result (c.numbers_distinct.ensures ∙ ap distinct c.requires.listed.number) (ap not c.if-not-numbers_distinct.true) _

pub scan_live-requires : goal.scan_live-requires
scan_live-requires c =
    let s = sectors_some c.args.g c.requires.g_value in record {
      le_n = omega arith;
      image_len = c.requires.image_len;
      numbered_len = c.requires.numbered_len;
      pieces_len = c.requires.pieces_len;
      listed = c.requires.listed;
      sized = c.requires.sized;
    }

pub log_agrees-requires : goal.log_agrees-requires
log_agrees-requires c = record {
  g_value = c.requires.g_value;
  map_len = c.scan_live.ensures.sized.map_len;
  places_len = c.scan_live.ensures.sized.places_len;
  numbers_len = c.scan_live.ensures.sized.numbers_len;
  used_len = c.scan_live.ensures.sized.used_len;
}

pub returns-clause-value : goal.returns-clause-value
returns-clause-value c =
    tables_decide c.args.g (sector_at c.args.image.now) c.args.read.number _ _ _ c.scan_live.ensures.value.0 c.scan_live.ensures.value.1 c.scan_live.ensures.value.2
    c.numbers_distinct.result (c.numbers_distinct.ensures ∙ ap distinct c.requires.listed.number) c.args.read.tail c.requires.tail_value _ c.log_agrees.result (ap not c.if-not-numbers_distinct.false) c.log_agrees.ensures.0 c.log_agrees.ensures.1
