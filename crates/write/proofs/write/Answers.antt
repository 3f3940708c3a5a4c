-- Nothing is known of the tables.
use mathlib.Core.Path.{sym}
use mathlib.Core.Bool.{true≢false}
use Rattle.write.proofs.write.Goals as goal

pub write_commit-requires : goal.write_commit-requires
write_commit-requires c z = absurd (true≢false (sym z))
