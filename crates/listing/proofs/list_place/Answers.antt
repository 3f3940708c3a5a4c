-- The list grows by one, or stays.
use mathlib.Core.Path.{refl, sym}
use mathlib.Core.List.{append-nil}
use native.Mathlib.Omega.{arith}
use lib.ListN.{take}
use Rattle.listing.proofs.ListLaws.{list_more}
use Rattle.listing.proofs.list_place.Goals as goal

pub returns-then-known : goal.returns-then-known
returns-then-known c =
    rw c.if-known.true (refl, sym (append-nil (take c.args.count c.args.branches.now)), omega arith)

pub returns : goal.returns
returns c =
    rw c.if-known.false (refl, list_more _ _ _ c.requires, omega arith)
