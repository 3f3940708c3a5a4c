-- The data and the members are the two parts of the list.
use mathlib.Core.Path.{sym, ◌∙◌}
use Rattle.volume.specs.Tables.{sector_at}
use Rattle.store.proofs.StoreLaws.{data_fails, members_run}
use Rattle.store.proofs.store.Goals as goal

pub returns-in_err-left : goal.returns-in_err-left
returns-in_err-left c =
    data_fails c.args.s c.args.map.now c.args.blocks.now c.args.bytes.now c.args.news.now c.args.taken.now c.args.branches.now c.args.written.now c.args.count
    c.args.members c.args.allowance (sector_at c.args.image.now) _ _ _ c.store_data.ensures.0 c.in_err-left.was c.from_residual.ensures c.store_data.ensures.1

pub returns : goal.returns
returns c =
    members_run c.args.s c.args.map.now c.args.blocks.now c.args.bytes.now c.args.news.now c.args.taken.now c.args.branches.now c.args.written.now c.args.count
    c.args.members c.args.allowance (sector_at c.args.image.now) _ _ _ c.store_members.result (sym c.in_ok-left.was ∙ c.store_data.ensures.0)
    c.store_data.ensures.1 c.store_members.ensures.0 c.store_members.ensures.1
