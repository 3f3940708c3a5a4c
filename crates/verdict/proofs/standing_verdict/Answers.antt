-- By the phase: a running volume is judged further, any other refused.
use mathlib.Core.Path.{ap}
use Rattle.state.specs.State.{is_running}
use Rattle.verdict.proofs.CommitChecks.{phase_refused}
use Rattle.verdict.proofs.standing_verdict.Goals as goal

pub running_verdict-requires : goal.running_verdict-requires
running_verdict-requires c = record {
  phase_value = ap is_running c.in-Running.is;
  used_value = c.requires.used_value;
  geometry_value = c.requires.geometry_value;
  count_le_commit_blocks = c.requires.count_le_commit_blocks;
  known_agreed = c.requires.known_agreed;
}

pub returns-in-Running : goal.returns-in-Running
returns-in-Running c = c.running_verdict.ensures

pub returns-in-Parked : goal.returns-in-Parked
returns-in-Parked c = phase_refused _ _ _ _ _ _ _ (ap is_running c.in-Parked.is)

pub returns-in-Cut : goal.returns-in-Cut
returns-in-Cut c = phase_refused _ _ _ _ _ _ _ (ap is_running c.in-Cut.is)
