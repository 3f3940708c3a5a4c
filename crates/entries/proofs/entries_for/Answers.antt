-- The entries below i are those of the blocks.
use Prim.Native.Nat.{ℕ, ◌+◌}
use mathlib.Core.Path.{◌≡◌, ◌∙◌, sym, ap, subst}
use mathlib.Core.List.{List, ◌++◌}
use native.Mathlib.Omega.{arith}
use lib.ListN.{drop, set}
use Rattle.layout.specs.Bounded.{at, list_from}
use Rattle.layout.specs.Entry.{entry_for}
use Rattle.volume.specs.Tables.{sector_at}
use Rattle.laws.proofs.Filling.{Filled, filled_none, filled_more}
use Rattle.entries.proofs.entries_for.Goals as goal

pub loop-i-init : goal.loop-i-init
loop-i-init c = filled_none (λ i. entry_for (sector_at c.args.bytes.now i) (at c.args.places.now i)) c.args.entries.now

pub loop-i-preserved : goal.loop-i-preserved
loop-i-preserved c =
    let g : ℕ → ℕ = (λ i. entry_for (sector_at c.args.bytes.now i) (at c.args.places.now i)) in
    let here : c.entry_for.result ≡ g c.loop-i.i = c.entry_for.ensures ∙ ap (λ (x : List ℕ). entry_for x (at c.args.places.now c.loop-i.i)) c.sector.ensures in
    subst (λ (x : ℕ). Filled g c.args.entries.now (c.loop-i.i + 1) (set c.loop-i.entries c.loop-i.i x)) (sym here) (filled_more g c.args.entries.now c.loop-i.i c.loop-i.entries (omega arith) c.loop-i.invariant)

pub returns : goal.returns
returns c =
    c.loop-i.invariant.1 ∙ ap (λ (x : ℕ). list_from (λ i. entry_for (sector_at c.args.bytes.now i) (at c.args.places.now i)) 0 x ++ drop x c.args.entries.now) (let e : c.loop-i.i ≡ c.args.count = omega arith in e)
