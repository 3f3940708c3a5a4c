-- Test by test.
use mathlib.Core.Path.{refl, sym, ◌∙◌, ap}
use mathlib.Core.Bool.{true, false}
use native.Mathlib.Omega.{arith}
use lib.ListN.{length}
use borrow.Author.Tests.{not-true, not-false}
use Rattle.laws.proofs.Sectors.{sector_length}
use Rattle.signed.proofs.SignedLaws.{is_signed_lem}
use Rattle.targets.proofs.TargetLaws.{signed_here}
use Rattle.walk_start.proofs.StartLaws.{starts_low, starts_high, starts_unsigned, starts_member, starts_number}
use mathlib.Core.Bool.{not}
use Rattle.walk_start.proofs.starts_at.Goals as goal

pub returns-then-tail-lt1 : goal.returns-then-tail-lt1
returns-then-tail-lt1 c = starts_low _ _ _ _ c.if-tail-lt1.true

pub returns-then-g-tail : goal.returns-then-g-tail
returns-then-g-tail c = starts_high _ _ _ _ c.if-tail-lt1.false c.if-g-tail.true

pub is_valid-requires : goal.is_valid-requires
is_valid-requires c = record {
  s_len = ap length c.sector-s.ensures ∙ sector_length _ _ (omega arith);
  le_n = c.requires.le_n;
}

pub returns-then-not-is_valid : goal.returns-then-not-is_valid
returns-then-not-is_valid c =
    starts_unsigned _ _ _ _ (signed_here _ _ _ c.is_valid.result false (omega arith) (sym (is_signed_lem _ _ _ _ c.is_valid.result c.is_valid.result c.sector-s.ensures c.is_valid.ensures refl)) (not-true c.is_valid.result (ap not c.if-not-is_valid.true)))

pub is_closing-requires : goal.is_closing-requires
is_closing-requires c =
    ap length c.sector-s.ensures ∙ sector_length _ _ (omega arith)

pub returns-then-not-is_closing : goal.returns-then-not-is_closing
returns-then-not-is_closing c =
    starts_member _ _ _ _ c.if-tail-lt1.false c.if-g-tail.false (signed_here _ _ _ c.is_valid.result true (omega arith) (sym (is_signed_lem
    _ _ _ _ c.is_valid.result c.is_valid.result c.sector-s.ensures
    c.is_valid.ensures refl)) (not-false c.is_valid.result (ap not c.if-not-is_valid.false))) _ c.sector-s.ensures c.is_closing.result
    c.is_closing.ensures (not-true c.is_closing.result (ap not c.if-not-is_closing.true))

pub number_of-requires : goal.number_of-requires
number_of-requires c =
    ap length c.sector-s.ensures ∙ sector_length _ _ (omega arith)

pub returns : goal.returns
returns c =
    starts_number _ _ _ _ c.if-tail-lt1.false c.if-g-tail.false (signed_here _ _ _ c.is_valid.result true (omega arith) (sym (is_signed_lem
    _ _ _ _ c.is_valid.result c.is_valid.result c.sector-s.ensures
    c.is_valid.ensures refl)) (not-false c.is_valid.result (ap not c.if-not-is_valid.false))) _ c.sector-s.ensures c.is_closing.result
    c.is_closing.ensures (not-false c.is_closing.result (ap not c.if-not-is_closing.false)) c.number_of.result c.number_of.ensures
