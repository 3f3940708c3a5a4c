-- By a walk, or by the scan that follows one that found nothing; and the call.
use Prim.Native.Nat.{ℕ, ◌*◌, ◌/◌, ◌≤◌}
use mathlib.Core.Path.{◌≡◌, sym, ◌∙◌, ap, subst}
use mathlib.Core.Bool.{true}
use mathlib.Core.List.{List}
use native.Mathlib.Omega.{arith}
use lib.ListN.{length}
use Rattle.geometry.specs.declared.Geometry.{Geometry}
use Rattle.geometry.specs.declared.Drive.{Drive}
use Rattle.geometry.specs.declared.Settings.{Settings}
use Rattle.geometry.specs.Geometry.{sector_bytes, pieces_for, used_bytes, geometry_of, geometry_fits}
use Rattle.state.specs.declared.State.{State}
use Rattle.answer.specs.declared.Refusal.{Refusal}
use Rattle.answer.specs.declared.Answer.TheVariants.{Walked, Refused}
use Rattle.volume.specs.Tables.{memory, sector_at, tables_of}
use Rattle.volume.specs.Refusals.{judged}
use Rattle.volume.specs.Store.{After, after, performed, unless_refused}
use Rattle.volume.specs.Format.{size_checks}
use Rattle.volume.specs.Recover.{Finding, found, park_sector_cleared, is_blank, scan_finding, finding_of, recovery_action, recovered, image_view, recover_of}
use Rattle.layout.specs.ParkRecord.{parked_in}
use Rattle.checks.proofs.SizeLaws.{Lengths, volume_passed, volume_range}
use Rattle.std.specs.Prelude.{None, Result, Ok, Err, ⊤}
use Rattle.walk_start.specs.Starting.{start_of}
use Rattle.walk.specs.Walking.{Left}
use Rattle.walk.proofs.WalkedLaws.{found_nowhere}
use Rattle.resume.proofs.ResumeLaws.{performed_any, recovered_any}

-- What was found is what the definition finds. The image and the tables with a prime are the ones that a walk left.
module _ (g : Geometry) (drive : Drive) (allowance : ℕ) (im mp pl nu us im' mp' pl' nu' us' : List ℕ)
    (e1 : im' ≡ im) (e2 : length mp' ≡ length mp) (e3 : length pl' ≡ length pl) (e4 : length nu' ≡ length nu) (e5 : length us' ≡ length us) where
  abbrev finding : Finding
  finding = finding_of g (image_view g (sector_at im)) (sector_at im 0)

  pub walk_found : (r : After) (tail number read : ℕ)
      → finding ≡ found (record { tables = tables_of mp' pl' nu' us'; tail = tail; number = number }) (Walked read) (park_sector_cleared (is_blank (sector_at im 0)))
      → r
      ≡ performed allowance
      (recovery_action g drive (record { tables = tables_of mp' pl' nu' us'; tail = tail; number = number }) (Walked read) (park_sector_cleared (is_blank (sector_at im' 0))))
      (memory im' mp' pl' nu' us')
      → r ≡ recovered g drive allowance (memory im mp pl nu us) finding
  unfolding recovered
  walk_found r tail number read w e =
      e
      ∙ ap (λ (v : List ℕ).
      performed allowance
      (recovery_action g drive (record { tables = tables_of mp' pl' nu' us'; tail = tail; number = number }) (Walked read) (park_sector_cleared (is_blank (sector_at v 0))))
      (memory v mp' pl' nu' us')) e1
      ∙ performed_any g drive allowance im mp pl nu us mp' pl' nu' us' e2 e3 e4 e5 _ ∙ ap (λ (f : Finding). recovered g drive allowance (memory im mp pl nu us) f) (sym w)

  pub scan_found_lem : (r : After) → finding ≡ scan_finding g (image_view g (sector_at im)) (sector_at im 0)
      → r ≡ recovered g drive allowance (memory im' mp' pl' nu' us') (scan_finding g (image_view g (sector_at im')) (sector_at im' 0))
      → r ≡ recovered g drive allowance (memory im mp pl nu us) finding
  scan_found_lem r w e =
      e
      ∙ ap (λ (v : List ℕ). recovered g drive allowance (memory v mp' pl' nu' us') (scan_finding g (image_view g (sector_at v)) (sector_at v 0))) e1
      ∙ recovered_any g drive allowance im mp pl nu us mp' pl' nu' us' e2 e3 e4 e5 (scan_finding g (image_view g (sector_at im)) (sector_at im 0))
      ∙ ap (recovered g drive allowance (memory im mp pl nu us)) (sym w)

-- What a walk left is left in the same image.
pub left_here : (g : Geometry) (im im' : List ℕ) → im' ≡ im → (tail : ℕ) (mp pl nu us : List ℕ) → Left g (sector_at im) tail mp pl nu us → Left g (sector_at im') tail mp pl nu us
left_here g im im' e tail mp pl nu us left = subst (λ (v : List ℕ). Left g (sector_at v) tail mp pl nu us) (sym e) left

-- The volume is the one that was asked for.
module _ (im mp pl nu us : List ℕ) (settings : Settings) (g : Geometry) (asked : g ≡ geometry_of (length im / 512) settings) where
  abbrev found_in : Geometry → ℕ → After
  found_in x allowance = recovered x settings.drive allowance (memory im mp pl nu us) (finding_of x (image_view x (sector_at im)) (sector_at im 0))

  pub asked_for : (allowance : ℕ) (r : After) → r ≡ found_in g allowance → r ≡ found_in (geometry_of (length im / 512) settings) allowance
  asked_for allowance r e = e ∙ ap (λ (x : Geometry). found_in x allowance) asked

  pub asked_scan : (allowance : ℕ) (r : After) → None ≡ start_of g.n (image_view g (sector_at im)) (parked_in (sector_at im 0))
      → r ≡ recovered g settings.drive allowance (memory im mp pl nu us) (scan_finding g (image_view g (sector_at im)) (sector_at im 0))
      → r ≡ found_in (geometry_of (length im / 512) settings) allowance
  asked_scan allowance r s e = asked_for allowance r (e ∙ ap (recovered g settings.drive allowance (memory im mp pl nu us)) (sym (found_nowhere g (sector_at im) s)))

  module _ (pass : Ok tt ≡ judged (size_checks (memory im mp pl nu us) settings)) where
    passed : Lengths im mp pl nu us g
    passed = volume_passed im mp pl nu us settings g asked pass

    pub tables_ready : (length mp ≡ g.l) × ((length pl ≡ pieces_for g.l) × ((length nu ≡ pieces_for g.l) × (length us ≡ used_bytes g.n)))
    tables_ready = (passed.map, (passed.places, (passed.numbers, passed.used)))

    pub image_ready : (geometry_fits g ≡ true) × (length im ≡ sector_bytes * g.n)
    image_ready = (volume_range im mp pl nu us settings g asked pass, passed.image)

    pub park_ready : (length im ≡ sector_bytes * g.n) × (1 ≤ g.n)
    park_ready = let least = passed.range.least in (passed.image, omega arith)

-- The call.
module _ (s : State) (im mp pl nu us : List ℕ) (settings : Settings) (allowance : ℕ) where
  recover_is : (v : Result ⊤ Refusal) → v ≡ judged (size_checks (memory im mp pl nu us) settings)
      → unless_refused v s (memory im mp pl nu us)
      (recovered (geometry_of (length im / 512) settings) settings.drive allowance (memory im mp pl nu us)
      (finding_of (geometry_of (length im / 512) settings) (image_view (geometry_of (length im / 512) settings) (sector_at im)) (sector_at im 0)))
      ≡ recover_of s (memory im mp pl nu us) settings allowance
  unfolding recover_of memory
  recover_is v e =
      ap (λ (w : Result ⊤ Refusal).
      unless_refused w s (memory im mp pl nu us)
      (recovered (geometry_of (length im / 512) settings) settings.drive allowance (memory im mp pl nu us)
      (finding_of (geometry_of (length im / 512) settings) (image_view (geometry_of (length im / 512) settings) (sector_at im)) (sector_at im 0))))
      e

  pub recover_refused : (r : Refusal) → Err r ≡ judged (size_checks (memory im mp pl nu us) settings)
      → after (record { answer = Refused r; state = s }) (memory im mp pl nu us) ≡ recover_of s (memory im mp pl nu us) settings allowance
  recover_refused r e = recover_is (Err r) e

  pub recover_passed : (r : After) → Ok tt ≡ judged (size_checks (memory im mp pl nu us) settings)
      → r
      ≡ recovered (geometry_of (length im / 512) settings) settings.drive allowance (memory im mp pl nu us)
      (finding_of (geometry_of (length im / 512) settings) (image_view (geometry_of (length im / 512) settings) (sector_at im)) (sector_at im 0))
      → r ≡ recover_of s (memory im mp pl nu us) settings allowance
  recover_passed r e f = f ∙ recover_is (Ok tt) e
