-- One bit is cleared, or none.
use Prim.Native.Nat.{ℕ, ◌*◌, ◌<◌}
use mathlib.Core.Path.{sym, subst}
use lib.ListN.{length}
use borrow.Author.Tests.{ne_eqb}
use Rattle.settle.proofs.SettleLaws.{freed_none, freed_one}
use Rattle.settle.proofs.free_entry.Goals as goal

pub returns-then-entry-eq0 : goal.returns-then-entry-eq0
returns-then-entry-eq0 c =
    freed_none _ _ c.if-entry-eq0.true

pub clear_bit-requires : goal.clear_bit-requires
clear_bit-requires c =
    subst (λ (x : ℕ). x < 8 * length c.args.used.now) (sym c.sector_of.ensures) (c.requires (ne_eqb c.args.entry 0 c.if-entry-eq0.false))

pub returns : goal.returns
returns c =
    freed_one _ _ _ c.sector_of.result c.if-entry-eq0.false c.sector_of.ensures c.clear_bit.ensures
