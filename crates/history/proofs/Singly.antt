-- A batch's answers and what it leaves are those of its commits made singly, one after the other, with what is left of the allowance.
use Prim.Native.Nat.{ℕ, ◌-◌}
use mathlib.Core.Path.{◌≡◌, refl, ap, ◌∙◌}
use mathlib.Core.Logic.{⊎_elim}
use mathlib.Core.Bool.{true, false, cond, ◌&&◌, ◌||◌}
use mathlib.Core.List.{List, [], ◌∷◌}
use lib.ListN.{length}
use lib.Dec.{eqb}
use Rattle.geometry.specs.declared.Geometry.{Geometry}
use Rattle.answer.specs.Answer.{cost_of}
use Rattle.layout.specs.Bounded.{is_zero}
use Rattle.volume.specs.Store.{After}
use Rattle.volume.specs.Rules.{Rules}
use Rattle.volume.specs.Calls.{drop_by}
use Rattle.batches.specs.Batch.{Commit, commit_made, Answered, answered_first, commits_made}
use Rattle.history.specs.History.{World, made, world_of, accepted}
use Rattle.history.specs.Singly.{all_single, single, made_singly}
use Rattle.laws.proofs.Bounded.{bool?, and_l, and_r}

one_single : (rules : Rules) (g : Geometry) (w : World) (c : Commit) (allowance : ℕ)
    → (eqb c.kind 0 || (eqb c.kind 1 && is_zero (length c.bytes))) ≡ true
    → commit_made rules w.state w.memory c allowance ≡ made rules g w (single c allowance)
unfolding commit_made single made drop_by
one_single rules g w c allowance e =
    ⊎_elim (λ (z : eqb c.kind 0 ≡ true). rw z refl)
    (λ (z : eqb c.kind 0 ≡ false).
    let d = rw z at e in
    let k = and_l (eqb c.kind 1) (is_zero (length c.bytes)) d in
    let n = and_r (eqb c.kind 1) (is_zero (length c.bytes)) d in
    rw (z, k, n) refl)
    (bool? (eqb c.kind 0))

pub singly : (rules : Rules) (g : Geometry) (cs : List Commit) (w : World) (allowance : ℕ) → all_single cs ≡ true
    → commits_made rules w.state w.memory cs allowance ≡ made_singly rules g w cs allowance
unfolding commits_made made_singly all_single
singly rules g [] w allowance e = refl
singly rules g (c ∷ cs) w allowance e =
    let this = eqb c.kind 0 || (eqb c.kind 1 && is_zero (length c.bytes)) in
    let r = made rules g w (single c allowance) in
    let one = one_single rules g w c allowance (and_l this (all_single cs) e) in
    let more = singly rules g cs (world_of r) (allowance - (cost_of r.outcome.answer).stores) (and_r this (all_single cs) e) in
    ap (λ (a : After). answered_first a.outcome (cond (accepted a)
    (commits_made rules a.outcome.state a.memory cs (allowance - (cost_of a.outcome.answer).stores))
    (record { outcomes = []; state = a.outcome.state; memory = a.memory }))) one
    ∙ ap (λ (later : Answered). answered_first r.outcome (cond (accepted r) later (record { outcomes = []; state = r.outcome.state; memory = r.memory }))) more
