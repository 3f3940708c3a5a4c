-- The branches, then zeros.
use Prim.Native.Nat.{ℕ, ◌+◌, ◌*◌, ◌-◌}
use mathlib.Core.Path.{refl, ◌∙◌, ap}
use mathlib.Core.List.{List}
use lib.ListN.{length, replicate}
use lib.Seq.{sets}
use Rattle.layout.specs.Word.{bytes_of}
use Rattle.laws.proofs.Words.{put_run}
use Rattle.map_encoding.proofs.put_branches.Goals as goal

pub returns : goal.returns
returns c =
    let rest : List ℕ = replicate (24 - length c.args.branches.now) 0 in
    c.put_zeros.ensures
    ∙ ap (λ (t : List ℕ). sets t (4 * (8 + length c.args.branches.now)) (bytes_of rest)) c.put_words.ensures
    ∙ put_run c.args.s.now 8 c.args.branches.now (length c.args.branches.now) refl rest
