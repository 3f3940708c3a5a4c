-- The part that comes back holds the word's bytes.
use Rattle.std.proofs.Common.{◌≡◌, ◌+◌, ◌*◌, ◌-◌, length, ap, ◌∙◌, arith}
use lib.Seq.{sets}
use Rattle.laws.proofs.Runs.{sets_part}
use Rattle.words.proofs.put_word.Goals as goal

pub returns : goal.returns
returns c =
    let bytes = c.copy_from_slice.ensures.after ∙ c.to_le_bytes.ensures in
    let size : 4 * c.args.k + 4 - 4 * c.args.k ≡ length c.copy_from_slice.new.self = omega (arith, ap length bytes) in
    sets_part c.args.s.now (4 * c.args.k) c.copy_from_slice.new.self _ size (omega (arith, ap length bytes)) ∙ ap (sets c.args.s.now (4 * c.args.k)) bytes
