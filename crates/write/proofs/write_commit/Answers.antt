-- Refused it hands everything back; otherwise it is the commit of the definition.
use mathlib.Core.Path.{refl, sym, ◌∙◌}
use mathlib.Core.Logic.{inr}
use native.Mathlib.Omega.{arith}
use Rattle.write.proofs.WriteLaws.{write_refused, write_passed, write_length, write_few, write_done}
use Rattle.write.proofs.write_commit.Goals as goal

pub overflow_cast-count : goal.overflow_cast-count
overflow_cast-count c =
    let h = write_few c.args.s c.args.m.now.image.now c.args.m.now.map.now c.args.m.now.places.now c.args.m.now.numbers.now c.args.m.now.used.now c.args.head c.args.blocks.now c.args.allowance c.args.bytes.now _ refl (sym c.in-Ok.is ∙ c.write_verdict-verdict.ensures) in
    omega arith

pub commit-requires : goal.commit-requires
commit-requires c = record {
  value = write_passed c.args.s c.args.m.now.image.now c.args.m.now.map.now c.args.m.now.places.now c.args.m.now.numbers.now c.args.m.now.used.now c.args.head c.args.blocks.now c.args.allowance c.args.bytes.now
      _ refl (sym c.in-Ok.is ∙ c.write_verdict-verdict.ensures);
  fact = inr refl;
  bytes_len = write_length c.args.s c.args.m.now.image.now c.args.m.now.map.now c.args.m.now.places.now c.args.m.now.numbers.now c.args.m.now.used.now c.args.head c.args.blocks.now c.args.allowance c.args.bytes.now
      _ refl (sym c.in-Ok.is ∙ c.write_verdict-verdict.ensures);
}

pub returns-in-Err-clause-value : goal.returns-in-Err-clause-value
returns-in-Err-clause-value c =
    write_refused _ _ _ _ _ _ _ _ _ _ _ refl _ (sym c.in-Err.is ∙ c.write_verdict-verdict.ensures)

pub returns-in-Ok-clause-value : goal.returns-in-Ok-clause-value
returns-in-Ok-clause-value c =
    write_done _ _ _ _ _ _ _ _ _ _ _ refl _ (sym c.in-Ok.is ∙ c.write_verdict-verdict.ensures) c.commit.ensures.value
