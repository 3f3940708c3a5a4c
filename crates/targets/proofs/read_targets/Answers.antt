-- What is read from i on, from where the loop is, is what is read from the start.
use mathlib.Core.Path.{refl, ◌∙◌}
use native.Mathlib.Omega.{arith}
use Rattle.signed.proofs.ViewLaws.{inside}
use Rattle.targets.proofs.TargetLaws.{sector_size, holds, reading_starts, reading_more, reading_ends}
use Rattle.targets.proofs.read_targets.Goals as goal

pub sector-s-requires : goal.sector-s-requires
sector-s-requires c =
    let h = inside _ _ _ c.requires.k_value in
    omega arith

pub number_of-holder-requires : goal.number_of-holder-requires
number_of-holder-requires c =
    sector_size _ _ _ _ c.requires.image_len (inside _ _ _ c.requires.k_value) c.sector-s.ensures

pub branch_count-count-requires : goal.branch_count-count-requires
branch_count-count-requires c =
    sector_size _ _ _ _ c.requires.image_len (inside _ _ _ c.requires.k_value) c.sector-s.ensures

pub loop-i-init : goal.loop-i-init
loop-i-init c = (
  refl,
  refl,
  holds _ _ _ _ c.number_of-holder.result c.branch_count-count.result c.requires.image_len c.requires.k_value c.sector-s.ensures c.number_of-holder.ensures c.branch_count-count.ensures,
  c.requires.waits,
  reading_starts _ _ _ _,
)

pub branch_at-target-requires : goal.branch_at-target-requires
branch_at-target-requires c = record {
  s_len = c.loop-i.invariant.2.bytes;
  i_lt_branch_room = omega arith;
}

pub read_target-requires : goal.read_target-requires
read_target-requires c =
    let at_i = c.loop-i.invariant.2.targets c.loop-i.i c.branch_at-target.result c.loop-i-test.true c.branch_at-target.ensures in record {
      image_len = c.loop-i.invariant.2.sized;
      le_target = at_i.1;
      target_lt_n = at_i.2;
      waits = c.loop-i.invariant.3;
    }

pub loop-i-preserved : goal.loop-i-preserved
loop-i-preserved c = (
  c.read_target.auto.waiting ∙ c.loop-i.invariant.0,
  c.read_target.auto.tree ∙ c.loop-i.invariant.1,
  c.loop-i.invariant.2,
  c.read_target.ensures.1,
  reading_more _ _ _ _ _ c.loop-i.i c.branch_at-target.result _ c.loop-i.invariant.2 c.loop-i-test.true c.branch_at-target.ensures c.loop-i.invariant.4 c.read_target.ensures.0,
)

pub returns : goal.returns
returns c =
    (reading_ends _ _ _ _ _ c.loop-i.i c.loop-i.invariant.2 c.loop-i-test.false c.loop-i.invariant.4, c.loop-i.invariant.3)
