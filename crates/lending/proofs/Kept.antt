-- Whatever a storing call answers, what it was lent is as long as before.
use Prim.Native.Nat.{ℕ}
use mathlib.Core.Path.{◌≡◌, refl, ap}
use mathlib.Core.Bool.{Bool, true, false, cond}
use Rattle.std.specs.Prelude.{Result, Ok, Err, ⊤}
use Rattle.answer.specs.declared.Refusal.{Refusal}
use Rattle.state.specs.declared.State.{State}
use Rattle.geometry.specs.declared.Geometry.{Geometry}
use Rattle.geometry.specs.declared.Drive.{Drive}
use Rattle.geometry.specs.declared.Settings.{Settings}
use Rattle.lending.specs.declared.Memory as lent_memory
use Rattle.lending.specs.declared.Lengths as lent_lengths
use Rattle.lending.specs.Lending.{held, lengths_held}
use Rattle.volume.specs.Tables.{Memory, Lengths, memory}
use Rattle.volume.specs.Rules.{Rules}
use Rattle.volume.specs.Store.{After, Action, performed, unless_refused}
use Rattle.volume.specs.Commit.{Change}
use Rattle.volume.specs.Calls.{commit_of}
use Rattle.volume.specs.Format.{format_of}
use Rattle.volume.specs.Recover.{Finding, found, missing, recovered, recover_of}

either_lengths : (b : Bool) (x y : After) (l : Lengths) → x.memory.lengths ≡ l → y.memory.lengths ≡ l → (cond b x y).memory.lengths ≡ l
either_lengths true x y l p q = p
either_lengths false x y l p q = q

-- A call that is cut, and one that is not.
pub performed_lengths : (allowance : ℕ) (a : Action) (m : Memory) → (performed allowance a m).memory.lengths ≡ m.lengths
unfolding performed
performed_lengths allowance a m = either_lengths _ _ _ m.lengths refl refl

-- A refusal, and what no refusal stops.
pub unless_lengths : (v : Result ⊤ Refusal) (s : State) (m : Memory) (done : After) → done.memory.lengths ≡ m.lengths → (unless_refused v s m done).memory.lengths ≡ m.lengths
unless_lengths (Ok u) s m done e = e
unless_lengths (Err r) s m done e = refl

pub format_lengths : (s : State) (m : Memory) (settings : Settings) (allowance : ℕ) → (format_of s m settings allowance).memory.lengths ≡ m.lengths
unfolding format_of
format_lengths s m settings allowance = unless_lengths _ s m _ (performed_lengths allowance _ m)

pub commit_lengths : (rules : Rules) (s : State) (m : Memory) (head : ℕ) (change : Change) (bytes_fit has_room : Bool) (allowance : ℕ)
    → (commit_of rules s m head change bytes_fit has_room allowance).memory.lengths ≡ m.lengths
unfolding commit_of
commit_lengths rules s m head change bytes_fit has_room allowance = unless_lengths _ s m _ (performed_lengths allowance _ m)

recovered_lengths : (g : Geometry) (drive : Drive) (allowance : ℕ) (m : Memory) (f : Finding) → (recovered g drive allowance m f).memory.lengths ≡ m.lengths
unfolding recovered
recovered_lengths g drive allowance m (found log answer stores) = performed_lengths allowance _ m
recovered_lengths g drive allowance m (missing loss) = refl

pub recover_lengths : (s : State) (m : Memory) (settings : Settings) (allowance : ℕ) → (recover_of s m settings allowance).memory.lengths ≡ m.lengths
unfolding recover_of
recover_lengths s m settings allowance = unless_lengths _ s m _ (recovered_lengths _ _ allowance m _)

-- The same of the slices that are lent.
pub held_lengths : (x y : lent_memory.Memory) → (held x).lengths ≡ (held y).lengths → lengths_held x ≡ lengths_held y
unfolding memory
held_lengths x y e =
    let turned : Lengths → lent_lengths.Lengths =
    λ l. record { image = l.image; map = l.map; places = l.places; numbers = l.numbers; used = l.used } in
    ap turned e
