-- Document 01: the state that every call hands back, and its phases.
use Rattle.std.specs.Prelude.{ℕ, Bool, true, false}
use Rattle.geometry.specs.declared.Geometry.{Geometry}
use Rattle.geometry.specs.declared.Drive.{Drive}
use Rattle.state.specs.declared.State.{State}
use Rattle.state.specs.declared.Phase.{Phase}
use Rattle.state.specs.declared.Phase.TheVariants.{Running, Parked, Cut}

-- The phases as numbers, where numbers are all that a caller knows.
abbrev pub phase_number : Phase → ℕ
phase_number Running = 0
phase_number Parked = 1
phase_number Cut = 2

-- The state with another phase.
abbrev pub in_phase : State → Phase → State
in_phase s phase = record { geometry = s.geometry; tail = s.tail; number = s.number; phase = phase; drive = s.drive }

abbrev pub parked_state : State → State
parked_state s = in_phase s Parked

-- After a power failure in write, drop or park: all of it but the phase is kept.
abbrev pub cut_state : State → State
cut_state s = in_phase s Cut

abbrev pub fresh_state : Geometry → Drive → ℕ → ℕ → State
fresh_state g drive tail number = record { geometry = g; tail = tail; number = number; phase = Running; drive = drive }

-- With a new tail and number, as a commit leaves it.
abbrev pub committed_state : State → ℕ → ℕ → State
committed_state s tail number = fresh_state s.geometry s.drive tail number

-- After 8, 9 or their own 10, format and recover leave their N, L and drive, tail and number 0, phase cut.
abbrev pub lost_state : Geometry → Drive → State
lost_state g drive = record { geometry = g; tail = 0; number = 0; phase = Cut; drive = drive }

-- Write, drop and park need running; read needs running or parked.
abbrev pub is_running : Phase → Bool
is_running Running = true
is_running Parked = false
is_running Cut = false

abbrev pub is_readable : Phase → Bool
is_readable Running = true
is_readable Parked = true
is_readable Cut = false
