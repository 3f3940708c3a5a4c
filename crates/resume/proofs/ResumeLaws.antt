-- A log that was found: the cut, the whole, and which tables were lent.
use Prim.Native.Nat.{ℕ, ◌-◌}
use mathlib.Core.Path.{◌≡◌, refl, ◌∙◌, ap}
use mathlib.Core.Bool.{Bool}
use mathlib.Core.List.{List}
use lib.ListN.{length, take}
use Rattle.geometry.specs.declared.Geometry.{Geometry}
use Rattle.geometry.specs.declared.Drive.{Drive}
use Rattle.state.specs.declared.State.{State}
use Rattle.state.specs.declared.Outcome.{Outcome}
use Rattle.answer.specs.Answer.{stores_alone}
use Rattle.answer.specs.declared.Cost.{Cost}
use Rattle.answer.specs.declared.Answer.{Answer}
use Rattle.answer.specs.declared.Answer.TheVariants.{PowerFailed}
use Rattle.state.specs.State.{fresh_state, lost_state}
use Rattle.volume.specs.Tables.{memory, sector_at, tables_of, zero_tables}
use Rattle.volume.specs.Store.{Store, applied, after, Action, performed}
use Rattle.volume.specs.Recover.{Finding, found, missing, park_sector_cleared, is_blank, recovery_action, recovered}
use Rattle.std.specs.Prelude.{Option, Some, None}
use Rattle.power.specs.Power.{powered}
use Rattle.power.proofs.Performing.{memory_left, call_cut, call_whole}

-- A log that was found: cut, and whole.
module _ (g : Geometry) (drive : Drive) (allowance : ℕ) (tail number : ℕ) (answer : Cost → Answer) (stores : List Store) (im mp pl nu us im' : List ℕ) (e1 : length im' ≡ length im)
    (made : sector_at im' ≡ applied (take allowance stores) (sector_at im)) where
  abbrev action : Action
  action = recovery_action g drive (record { tables = tables_of mp pl nu us; tail = tail; number = number }) answer stores

  pub recovery_cut_lem : (mp' pl' nu' us' : List ℕ) (r : Outcome)
      → length mp' ≡ length mp → length pl' ≡ length pl → length nu' ≡ length nu → length us' ≡ length us → None ≡ powered (length stores) allowance
      → (r.answer ≡ PowerFailed (stores_alone allowance)) × (r.state ≡ lost_state g drive) × (tables_of mp' pl' nu' us' ≡ zero_tables)
      → after r (memory im' mp' pl' nu' us') ≡ performed allowance action (memory im mp pl nu us)
  unfolding memory
  recovery_cut_lem mp' pl' nu' us' r e2 e3 e4 e5 e w =
      call_cut allowance action (memory im mp pl nu us) (memory im' mp' pl' nu' us') (sector_at im') made r.answer r.state w.0 w.1 e
      (memory_left im mp pl nu us im' mp' pl' nu' us' (sector_at im') zero_tables e1 e2 e3 e4 e5 refl w.2)

  pub recovery_whole : (x : Answer) (s : State) (left : ℕ) → x ≡ answer (stores_alone (allowance - left)) → s ≡ fresh_state g drive tail number
      → Some left ≡ powered (length stores) allowance
      → after (record { answer = x; state = s }) (memory im' mp pl nu us) ≡ performed allowance action (memory im mp pl nu us)
  unfolding memory
  recovery_whole x s left p q e =
      call_whole allowance action (memory im mp pl nu us) (memory im' mp pl nu us) (sector_at im') made x s left p q e
      (memory_left im mp pl nu us im' mp pl nu us (sector_at im') (tables_of mp pl nu us) e1 refl refl refl refl refl refl)

-- Recovery looks at no table: only the lengths of those lent matter.
module _ (g : Geometry) (drive : Drive) (allowance : ℕ) (im mp pl nu us mp' pl' nu' us' : List ℕ) (e2 : length mp' ≡ length mp) (e3 : length pl' ≡ length pl) (e4 : length nu' ≡ length nu)
    (e5 : length us' ≡ length us) where
  pub performed_any : (a : Action) → performed allowance a (memory im mp' pl' nu' us') ≡ performed allowance a (memory im mp pl nu us)
  unfolding performed memory
  performed_any a = rw (e2, e3, e4, e5) refl

  pub recovered_any : (f : Finding) → recovered g drive allowance (memory im mp' pl' nu' us') f ≡ recovered g drive allowance (memory im mp pl nu us) f
  unfolding recovered memory
  recovered_any (found log answer stores) = performed_any (recovery_action g drive log answer stores)
  recovered_any (missing loss) = rw (e2, e3, e4, e5) refl

-- Whether sector 0 is blank, as it was read.
pub first_cleared : (allowance : ℕ) (image image' : ℕ → List ℕ) (s : List ℕ) (blank : Bool) (left : Option ℕ) → blank ≡ is_blank s → s ≡ image 0
    → (left ≡ powered (length (park_sector_cleared blank)) allowance) × (image' ≡ applied (take allowance (park_sector_cleared blank)) image)
    → (left ≡ powered (length (park_sector_cleared (is_blank (image 0)))) allowance) × (image' ≡ applied (take allowance (park_sector_cleared (is_blank (image 0)))) image)
first_cleared allowance image image' s blank left b e w =
    let z = b ∙ ap is_blank e in (
      w.0 ∙ ap (λ (x : Bool). powered (length (park_sector_cleared x)) allowance) z,
      w.1 ∙ ap (λ (x : Bool). applied (take allowance (park_sector_cleared x)) image) z,
    )
