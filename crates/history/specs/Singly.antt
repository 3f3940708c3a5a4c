-- Document 02, point 3: "answer for each as the commits made singly do". The commits of a batch as calls of a list, each of which gets
-- what the last one left, and what is left of the allowance.
use Rattle.std.specs.Prelude.{ℕ, ◌-◌, Bool, true, cond, ◌&&◌, ◌||◌, List, [], ◌∷◌, length, eqb}
use Rattle.geometry.specs.declared.Geometry.{Geometry}
use Rattle.answer.specs.Answer.{cost_of}
use Rattle.layout.specs.Bounded.{is_zero}
use Rattle.volume.specs.Rules.{Rules}
use Rattle.batches.specs.Batch.{Commit, Answered, answered_first}
use Rattle.history.specs.History.{Call, write, drop, World, made, world_of, accepted}

-- A call makes a write, or a drop without bytes.
unfoldable pub all_single : List Commit → Bool
all_single [] = true
all_single (c ∷ cs) = (eqb c.kind 0 || (eqb c.kind 1 && is_zero (length c.bytes))) && all_single cs

unfoldable pub single : Commit → ℕ → Call
single c allowance = cond (eqb c.kind 0) (write c.head c.blocks c.bytes allowance) (drop c.head c.blocks allowance)

-- Up to and including the first that is turned back.
unfoldable pub made_singly : Rules → Geometry → World → List Commit → ℕ → Answered
made_singly rules g w [] allowance = record { outcomes = []; state = w.state; memory = w.memory }
made_singly rules g w (c ∷ cs) allowance =
    let r = made rules g w (single c allowance) in
    let go_on = made_singly rules g (world_of r) cs (allowance - (cost_of r.outcome.answer).stores) in
    let stop : Answered = record { outcomes = []; state = r.outcome.state; memory = r.memory } in
    answered_first r.outcome (cond (accepted r) go_on stop)
