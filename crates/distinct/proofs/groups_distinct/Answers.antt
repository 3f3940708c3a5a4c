-- The groups below g are walked.
use mathlib.Core.Path.{sym, ◌∙◌}
use Rattle.distinct.proofs.Chaining.{grouping_none, grouping_more, grouping_ends}
use Rattle.distinct.proofs.groups_distinct.Goals as goal

pub loop-g-init : goal.loop-g-init
loop-g-init c =
    grouping_none _ _ c.requires.stamps_len c.requires.by_index

pub chain_distinct-requires : goal.chain_distinct-requires
chain_distinct-requires c = record {
  g_lt_groups = c.loop-g-test.true;
  xs_in_bounds = c.requires.xs_in_bounds;
  back = c.requires.linked.back;
  head_value = c.requires.linked.ends c.loop-g.g c.loop-g-test.true;
  stamps_len = c.loop-g.invariant.long;
  by_index = c.loop-g.invariant.most;
}

pub shape_of-stamps-then-not-chain_distinct : goal.shape_of-stamps-then-not-chain_distinct
shape_of-stamps-then-not-chain_distinct c =
    c.chain_distinct.auto.stamps ∙ c.loop-g.invariant.long ∙ sym c.requires.stamps_len

pub returns-then-not-chain_distinct : goal.returns-then-not-chain_distinct
returns-then-not-chain_distinct c =
    sym (c.chain_distinct.ensures.1 (c.if-not-chain_distinct.true))

pub loop-g-preserved : goal.loop-g-preserved
loop-g-preserved c =
    grouping_more _ c.loop-g.stamps _ c.loop-g.g c.loop-g.invariant c.chain_distinct.auto.stamps
    (c.chain_distinct.ensures.0 (c.if-not-chain_distinct.false)) c.chain_distinct.ensures.2

pub shape_of-stamps : goal.shape_of-stamps
shape_of-stamps c =
    c.loop-g.invariant.long ∙ sym c.requires.stamps_len

pub returns : goal.returns
returns c =
    grouping_ends _ c.loop-g.stamps c.loop-g.g c.loop-g.invariant c.loop-g-test.false
    (λ i. (c.type_inv.xs i).fits)
