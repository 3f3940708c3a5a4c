-- Each return, by a law of ScanLaws.
use native.Mathlib.Omega.{arith}
use lib.ListN.{length}
use Rattle.volume.specs.Tables.{sector_at}
use Rattle.volume.specs.Recover.{image_view}
use Rattle.signed.proofs.SignedLaws.{marks_none, above_listed}
use Rattle.scan.proofs.ScanLaws.{sectors_inside, scan_none, scan_damaged_lem, scan_finds}
use mathlib.Core.Path.{ap}
use mathlib.Core.Bool.{not}
use Rattle.scan.proofs.scan_listed.Goals as goal

pub returns-then-read-eq0-clause-value : goal.returns-then-read-eq0-clause-value
returns-then-read-eq0-clause-value c =
    scan_none c.args.g (sector_at c.args.image.now) c.args.read.tail c.args.read.number c.requires.tail_value c.requires.number_value c.if-read-eq0.true _ _

pub scan_tables-requires : goal.scan_tables-requires
scan_tables-requires c = record {
  g_value = c.requires.g_value;
  image_len = c.requires.image_len;
  tail_value = c.requires.tail_value;
  sectors_len_bound = c.requires.sectors_len_bound;
  numbered_len = c.requires.numbered_len;
  pieces_len = c.requires.pieces_len;
  listed = c.requires.listed;
  sized = c.requires.sized;
}

pub returns-then-not-scan_tables-clause-value : goal.returns-then-not-scan_tables-clause-value
returns-then-not-scan_tables-clause-value c =
    scan_damaged_lem c.args.g (sector_at c.args.image.now) c.args.read.tail c.args.read.number c.requires.tail_value c.requires.number_value c.if-read-eq0.false c.scan_tables.result _ c.scan_tables.ensures.value (ap not c.if-not-scan_tables.true) _

pub mark_above-requires : goal.mark_above-requires
mark_above-requires c = record {
  numbers_len = c.requires.numbered_len;
  by_index = λ i h. let b = sectors_inside c.args.g (sector_at c.args.image.now) c.args.read.number _ _ _ c.requires.listed i h in omega arith;
}

pub returns-clause-value : goal.returns-clause-value
returns-clause-value c =
    scan_finds c.args.g (sector_at c.args.image.now) c.args.read.tail c.args.read.number c.requires.tail_value c.requires.number_value c.if-read-eq0.false c.scan_tables.result _ c.scan_tables.ensures.value (ap not c.if-not-scan_tables.false) _
    (above_listed (image_view c.args.g (sector_at c.args.image.now)) c.args.read.number c.args.g.n _ _ _ _ c.requires.listed.sector c.requires.listed.number (marks_none c.args.above.now (length c.args.above.now) c.requires.above_value) c.mark_above.ensures)
