-- Document 01, "Numbers a call turns back with", for callers that know numbers alone: states, answers and phases.
use Rattle.std.specs.Prelude.{ℕ, cond, eqb}
use Rattle.geometry.specs.declared.Settings.{Settings}
use Rattle.state.specs.declared.State.{State}
use Rattle.state.specs.declared.Phase.{Phase}
use Rattle.state.specs.declared.Phase.TheVariants.{Running, Parked, Cut}
use Rattle.state.specs.State.{phase_number}
use Rattle.state.specs.declared.Outcome.{Outcome}
use Rattle.state.specs.declared.BatchOutcome.{BatchOutcome}
use Rattle.answer.specs.declared.Cost.{Cost}
use Rattle.answer.specs.declared.Answer.{Answer}
use Rattle.answer.specs.Answer.{is_refusal, verdict_number, number_of, cost_of, way_of, reads_of}
use Rattle.plain.specs.declared.CState.{CState}
use Rattle.plain.specs.declared.CSettings.{CSettings}
use Rattle.plain.specs.declared.CResult.{CResult}
use Rattle.plain.specs.declared.CBatchResult.{CBatchResult}

-- A number that is no phase is neither running nor readable, as cut is.
unfoldable pub phase_of : ℕ → Phase
phase_of number = cond (eqb number 0) Running (cond (eqb number 1) Parked Cut)

abbrev pub state_in : CState → Phase → State
state_in c phase =
    record {
      geometry = record { n = c.n; l = c.l };
      tail = c.tail;
      number = c.number;
      phase = phase;
      drive = record { sectors = c.per_track; tracks = c.tracks; switch = c.head_switch };
    }

abbrev pub state_of : CState → State
state_of c = state_in c (phase_of c.phase)

-- What a format or a recovery is given.
abbrev pub settings_in : CSettings → Settings
settings_in c = record { l = c.l; drive = record { sectors = c.per_track; tracks = c.tracks; switch = c.head_switch } }

abbrev pub plain_in : State → ℕ → CState
plain_in s phase =
    record {
      n = s.geometry.n;
      l = s.geometry.l;
      tail = s.tail;
      number = s.number;
      phase = phase;
      per_track = s.drive.sectors;
      tracks = s.drive.tracks;
      head_switch = s.drive.switch;
    }

abbrev pub plain_of : State → CState
plain_of s = plain_in s (phase_number s.phase)

-- A refusal leaves the state as it came; any other answer has the state of the outcome.
unfoldable pub state_left : CState → Answer → State → CState
state_left c answer s = cond (is_refusal answer) c (plain_of s)

abbrev pub joined : ℕ → Cost → ℕ → ℕ → CState → CResult
joined answer cost way read left =
    record {
      answer = answer;
      stores = cost.stores;
      skipped = cost.skipped;
      way = way;
      read = read;
      n = left.n;
      l = left.l;
      tail = left.tail;
      number = left.number;
      phase = left.phase;
      per_track = left.per_track;
      tracks = left.tracks;
      head_switch = left.head_switch;
    }

-- The numbers of an outcome, for a call that was handed the state c.
unfoldable pub result_of : CState → Outcome → CResult
result_of c o =
    joined (number_of o.answer) (cost_of o.answer) (way_of o.answer) (reads_of o.answer)
    (state_left c o.answer o.state)

-- Commits change the phase of a running volume alone; any other goes back as it came, a number that is no phase too.
unfoldable pub phase_left : ℕ → Phase → ℕ
phase_left came phase = cond (eqb came 0) (phase_number phase) came

abbrev pub batch_joined : ℕ → ℕ → Cost → CState → CBatchResult
batch_joined answer answered cost left =
    record {
      answer = answer;
      answered = answered;
      stores = cost.stores;
      skipped = cost.skipped;
      n = left.n;
      l = left.l;
      tail = left.tail;
      number = left.number;
      phase = left.phase;
      per_track = left.per_track;
      tracks = left.tracks;
      head_switch = left.head_switch;
    }

-- The numbers of what a batch handed back that was handed the state c.
unfoldable pub batch_result_of : CState → BatchOutcome → CBatchResult
batch_result_of c o =
    batch_joined (verdict_number o.verdict) o.answered o.cost (plain_in o.state (phase_left c.phase o.state.phase))
