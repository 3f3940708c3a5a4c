-- Where no sector is marked, no store is due.
use mathlib.Core.Path.{sym, ◌∙◌}
use Rattle.volume.specs.Tables.{sector_at, bit_at}
use Rattle.volume.specs.Format.{blank_store}
use Rattle.power.proofs.Storing.{storing_ends}
use Rattle.clear.proofs.ClearLaws.{none_marked, storing_none}
use Rattle.clear.proofs.clear_above.Goals as goal

pub returns-then-is_blank : goal.returns-then-is_blank
returns-then-is_blank c =
    storing_ends (bit_at c.args.above.now) blank_store (sector_at c.args.image.now) c.args.allowance c.args.n c.args.allowance (sector_at c.args.image.now)
    (storing_none (bit_at c.args.above.now) blank_store (sector_at c.args.image.now) c.args.allowance (none_marked c.args.above.now (sym c.is_blank.ensures ∙ c.if-is_blank.true)) c.args.n)
