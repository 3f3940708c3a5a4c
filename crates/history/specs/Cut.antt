-- Document 01, "Power" and "Cut": the list of stores of a call of a history, and how many of them it may make.
use Rattle.std.specs.Prelude.{ℕ, ◌-◌, cond, List, [], ◌∷◌, ◌++◌, eqb}
use Rattle.geometry.specs.declared.Geometry.{Geometry}
use Rattle.geometry.specs.Geometry.{settings_of}
use Rattle.state.specs.declared.State.{State}
use Rattle.answer.specs.Answer.{is_refusal, cost_of}
use Rattle.volume.specs.Tables.{Memory}
use Rattle.volume.specs.Store.{Store}
use Rattle.volume.specs.Rules.{Rules}
use Rattle.volume.specs.Format.{volume_in}
use Rattle.volume.specs.Commit.{Change, commit_action}
use Rattle.volume.specs.Calls.{view_of, write_change, drop_change, park_action}
use Rattle.batches.specs.Batch.{Commit, commit_made, commits_in}
use Rattle.history.specs.History.{Call, write, drop, batch, read, park, recover, World, accepted, recovery_stores}

abbrev pub commit_list : Rules → World → ℕ → Change → List Store
commit_list rules w head change =
    (commit_action rules w.state w.memory.tables (view_of w.state.geometry w.memory.image) head change).stores

-- What the commits of a batch store: up to the one that is turned back, and with it where that is for want of stores.
unfoldable pub commits_list : Rules → State → Memory → List Commit → ℕ → List Store
commits_list rules s m [] allowance = []
commits_list rules s m (c ∷ cs) allowance =
    let r = commit_made rules s m c allowance in
    let own = commit_list rules (record { state = s; memory = m }) c.head (cond (eqb c.kind 0) (write_change c.blocks c.bytes) (drop_change c.blocks)) in
    let later = commits_list rules r.outcome.state r.memory cs (allowance - (cost_of r.outcome.answer).stores) in
    let whole = own ++ later in
    cond (is_refusal r.outcome.answer) [] (cond (accepted r) whole own)

-- What a call stores where it is not refused and has stores enough.
unfoldable pub listed : Rules → Geometry → World → Call → List Store
listed rules g w (write head blocks bytes allowance) = commit_list rules w head (write_change blocks bytes)
listed rules g w (drop head blocks allowance) = commit_list rules w head (drop_change blocks)
listed rules g w (batch words blocks bytes allowance answers) = commits_list rules w.state w.memory (commits_in words blocks bytes) allowance
listed rules g w (read block out) = []
listed rules g w (park allowance) = (park_action w.state w.memory).stores
listed rules g w (recover drive allowance) = recovery_stores (volume_in w.memory (settings_of g drive)) w.memory.image

unfoldable pub allowed : Call → ℕ
allowed (write head blocks bytes allowance) = allowance
allowed (drop head blocks allowance) = allowance
allowed (batch words blocks bytes allowance answers) = allowance
allowed (read block out) = 0
allowed (park allowance) = allowance
allowed (recover drive allowance) = allowance
