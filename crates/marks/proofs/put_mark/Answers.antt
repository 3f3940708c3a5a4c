-- The part that comes back holds the mark.
use Rattle.std.proofs.Common.{◌≡◌, length, ap, ◌∙◌, arith}
use lib.Seq.{sets}
use Rattle.laws.proofs.Runs.{sets_part}
use Rattle.marks.proofs.put_mark.Goals as goal

pub returns : goal.returns
returns c =
    let mark = c.copy_from_slice.ensures.after in
    let size : length c.args.mark.now ≡ length c.copy_from_slice.new.self = omega (arith, ap length mark) in
    sets_part c.args.s.now 0 c.copy_from_slice.new.self _ size (omega (arith, ap length mark)) ∙ ap (sets c.args.s.now 0) mark
