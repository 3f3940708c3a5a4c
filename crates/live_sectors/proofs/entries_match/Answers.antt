-- Every piece but the last is whole; either way the 96 comparisons decide.
use Prim.Native.Nat.{◌+◌, ◌*◌}
use mathlib.Core.Path.{refl}
use borrow.Author.Rules.{rules}
use Rattle.layout.specs.Bounded.{at}
use Rattle.live_sectors.proofs.LiveLaws.{entries_decided}
use Rattle.live_sectors.proofs.entries_match.Goals as goal

pub returns-then-first-map : goal.returns-then-first-map
returns-then-first-map c =
    entries_decided c.args.s.now c.args.map.now c.args.p c.requires.s_len (96 * c.args.p) refl c.entries_are.result
    (c.entries_are.ensures (λ i. at c.args.map.now (96 * c.args.p + i)) (λ i e h k. search rules))

pub returns : goal.returns
returns c =
    entries_decided c.args.s.now c.args.map.now c.args.p c.requires.s_len (96 * c.args.p) refl c.entries_are-2.result
    (c.entries_are-2.ensures (λ i. at c.args.map.now (96 * c.args.p + i)) (λ i e h k. search rules))
