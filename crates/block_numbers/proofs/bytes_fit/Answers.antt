-- The quotient is compared, and there is no rest.
use Rattle.block_numbers.proofs.BlockLaws.{odd_bytes, whole_bytes}
use Rattle.block_numbers.proofs.bytes_fit.Goals as goal

pub returns-then-bytes-ne0 : goal.returns-then-bytes-ne0
returns-then-bytes-ne0 c =
    odd_bytes c.args.bytes c.args.blocks c.if-bytes-ne0.true

pub returns : goal.returns
returns c =
    whole_bytes c.args.bytes c.args.blocks c.if-bytes-ne0.false
