-- The branches below i fit.
use Prim.Native.Nat.{ℕ}
use mathlib.Core.Path.{◌≡◌, ap, ◌∙◌}
use mathlib.Core.Bool.{◌&&◌}
use native.Mathlib.Omega.{arith}
use Rattle.layout.specs.Bounded.{at}
use Rattle.layout.specs.Word.{words_of}
use Rattle.layout.specs.MapSector.{branch_words, branches_fit}
use Rattle.map_sector.specs.Header.{branch_fits}
use Rattle.map_sector.proofs.Branches.{branch_room_lem, each_none, each_next, each_branch}
use Rattle.map_sector.proofs.branches_fit.Goals as goal

pub loop-i-init : goal.loop-i-init
loop-i-init c = each_none (λ k. branch_fits c.args.n _ k (at (branch_words (words_of c.args.s.now)) k))

pub loop-i-preserved : goal.loop-i-preserved
loop-i-preserved c =
    let bs = branch_words (words_of c.args.s.now) in
    each_next (λ k. branch_fits c.args.n c.word_at-count.result k (at bs k)) c.loop-i.i c.loop-i.good _ c.loop-i.invariant
    (c.still_fits-good.ensures ∙ ap (λ (w : ℕ). c.loop-i.good && branch_fits c.args.n c.word_at-count.result c.loop-i.i w) c.branch_at.ensures)

pub returns : goal.returns
returns c =
    let bs = branch_words (words_of c.args.s.now) in
    each_branch c.args.n c.word_at-count.result c.loop-i.i bs c.loop-i.good (branch_room_lem c.args.s.now c.requires.s_len ∙ (let z : 24 ≡ c.loop-i.i = omega arith in z)) c.loop-i.invariant
    ∙ ap (λ (m : ℕ). branches_fit c.args.n m bs) c.word_at-count.ensures
