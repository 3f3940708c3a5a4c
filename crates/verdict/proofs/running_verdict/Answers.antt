-- Each refusal is the first that applies, by the laws of CommitChecks.
use Rattle.verdict.proofs.CommitChecks.{tables_refused, room_refused, numbers_refused, none_refused, bits_enough}
use mathlib.Core.Path.{ap}
use mathlib.Core.Bool.{not}
use Rattle.verdict.proofs.running_verdict.Goals as goal

pub count_free-free-requires : goal.count_free-free-requires
count_free-free-requires c =
    bits_enough _ _ _ _ _ _ c.requires.geometry_value

pub tables_stand-requires : goal.tables_stand-requires
tables_stand-requires c = record {
  used_value = c.requires.used_value;
  geometry_value = c.requires.geometry_value;
  free_value = c.count_free-free.ensures;
  known_agreed = c.requires.known_agreed;
}

pub returns-then-not-tables_stand : goal.returns-then-not-tables_stand
returns-then-not-tables_stand c =
    tables_refused _ _ _ _ _ _ _ c.requires.phase_value c.tables_stand.result c.tables_stand.ensures (ap not c.if-not-tables_stand.true)

pub returns-then-free-count : goal.returns-then-free-count
returns-then-free-count c =
    room_refused _ _ _ _ _ _ _ c.requires.phase_value c.tables_stand.result c.tables_stand.ensures (ap not c.if-not-tables_stand.false)
    c.count_free-free.result c.pieces_for-pieces.result c.count_free-free.ensures c.pieces_for-pieces.ensures c.if-free-count.true

pub returns-then-s-gt-GREATEST : goal.returns-then-s-gt-GREATEST
returns-then-s-gt-GREATEST c =
    numbers_refused _ _ _ _ _ _ _ c.requires.phase_value c.tables_stand.result c.tables_stand.ensures (ap not c.if-not-tables_stand.false)
    c.count_free-free.result c.pieces_for-pieces.result c.count_free-free.ensures c.pieces_for-pieces.ensures c.if-free-count.false c.if-s-gt-GREATEST.true

pub returns : goal.returns
returns c =
    none_refused _ _ _ _ _ _ _ c.requires.phase_value c.tables_stand.result c.tables_stand.ensures (ap not c.if-not-tables_stand.false)
    c.count_free-free.result c.pieces_for-pieces.result c.count_free-free.ensures c.pieces_for-pieces.ensures c.if-free-count.false c.if-s-gt-GREATEST.false
