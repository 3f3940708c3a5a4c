-- So far all were the same.
use Prim.Native.Nat.{◌<◌}
use mathlib.Core.Path.{refl, ap₂}
use native.Mathlib.Omega.{arith}
use lib.Dec.{eqb}
use Rattle.layout.specs.Bounded.{at}
use Rattle.layout.specs.Word.{words_of}
use Rattle.layout.specs.MapSector.{entry_words}
use Rattle.live_sectors.proofs.LiveLaws.{gathered_none, gathered_more, gathered_all}
use Rattle.live_sectors.proofs.entries_are.Goals as goal

pub loop-i-init : goal.loop-i-init
loop-i-init g c = λ wanted says. gathered_none _

pub loop-i-preserved : goal.loop-i-preserved
loop-i-preserved g c =
    λ wanted says.
    let here : c.loop-i.i < 96 = omega arith in
    gathered_more (λ i. eqb (at (entry_words (words_of c.args.s.now)) i) (wanted i)) c.loop-i.i c.loop-i.good _ (eqb c.entry_at.result c.entry.result)
    (c.loop-i.invariant wanted says) (ap₂ eqb c.entry_at.ensures (says c.loop-i.i c.entry.result here c.entry.ensures)) refl

pub returns : goal.returns
returns g c =
    λ wanted says. gathered_all _ c.loop-i.i 96 c.loop-i.good (omega arith) (c.loop-i.invariant wanted says)
