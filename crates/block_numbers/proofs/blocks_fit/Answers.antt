-- Each answer is the test that decided it.
use Rattle.block_numbers.proofs.BlockLaws.{too_few, too_many, not_rising, past_l, by_head}
use mathlib.Core.Path.{ap}
use mathlib.Core.Bool.{not}
use Rattle.block_numbers.proofs.blocks_fit.Goals as goal

pub returns-then-blocks-lt1 : goal.returns-then-blocks-lt1
returns-then-blocks-lt1 c =
    too_few _ _ _ c.if-blocks-lt1.true

pub returns-then-blocks-gt-COMMIT_BLOCKS : goal.returns-then-blocks-gt-COMMIT_BLOCKS
returns-then-blocks-gt-COMMIT_BLOCKS c =
    too_many _ _ _ c.if-blocks-lt1.false c.if-blocks-gt-COMMIT_BLOCKS.true

pub ascending-requires : goal.ascending-requires
ascending-requires c = c.if-blocks-lt1.false

pub returns-then-not-ascending : goal.returns-then-not-ascending
returns-then-not-ascending c =
    not_rising _ _ _ c.if-blocks-lt1.false c.if-blocks-gt-COMMIT_BLOCKS.false c.ascending.result c.ascending.ensures (ap not c.if-not-ascending.true)

pub returns-then-not-all_below : goal.returns-then-not-all_below
returns-then-not-all_below c =
    past_l _ _ _ c.if-blocks-lt1.false c.if-blocks-gt-COMMIT_BLOCKS.false c.ascending.result c.ascending.ensures (ap not c.if-not-ascending.false) c.all_below.result c.all_below.ensures (ap not c.if-not-all_below.true)

pub returns : goal.returns
returns c =
    by_head _ _ _ c.if-blocks-lt1.false c.if-blocks-gt-COMMIT_BLOCKS.false c.ascending.result c.ascending.ensures (ap not c.if-not-ascending.false) c.all_below.result c.all_below.ensures (ap not c.if-not-all_below.false)
