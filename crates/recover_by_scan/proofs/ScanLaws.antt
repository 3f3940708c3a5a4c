-- What a scan found is the finding of the definition.
use Prim.Native.Nat.{ℕ}
use mathlib.Core.Path.{◌≡◌, refl, ◌∙◌, ap, subst}
use mathlib.Core.Bool.{Bool, ◌||◌}
use mathlib.Core.List.{List, ◌++◌}
use lib.ListN.{length}
use Rattle.geometry.specs.declared.Geometry.{Geometry}
use Rattle.geometry.specs.declared.Drive.{Drive}
use Rattle.state.specs.declared.State.{State}
use Rattle.answer.specs.declared.Loss.{Loss}
use Rattle.answer.specs.declared.Answer.TheVariants.{Scanned, Lost}
use Rattle.state.specs.State.{lost_state}
use Rattle.volume.specs.Tables.{memory, sector_at, tables_of, zero_tables}
use Rattle.volume.specs.Store.{stores_below, After, after, performed}
use Rattle.volume.specs.Format.{blank_store}
use Rattle.volume.specs.Recover.{park_sector_cleared, is_blank, scan_stores, scan_finding, recovery_action, recovered, image_view}
use Rattle.std.specs.Prelude.{Result, Ok, Err}
use Rattle.state.specs.declared.tail.Tail.{Tail}
use Rattle.scan.specs.Scanned.{scan_found, ScanAbove}
use Rattle.power.proofs.Performing.{memory_left}
use Rattle.resume.proofs.ResumeLaws.{performed_any}

-- The tables with a prime are the ones that the scan filled.
module _ (g : Geometry) (drive : Drive) (allowance : ℕ) (im mp pl nu us mp' pl' nu' us' : List ℕ)
    (e2 : length mp' ≡ length mp) (e3 : length pl' ≡ length pl) (e4 : length nu' ≡ length nu) (e5 : length us' ≡ length us)
    (found : Result Tail Loss)
    (finding : scan_found found g.n (image_view g (sector_at im)) (sector_at im 0) (tables_of mp' pl' nu' us') ≡ scan_finding g (image_view g (sector_at im)) (sector_at im 0)) where
  told : (other : Result Tail Loss) → found ≡ other
      → scan_found other g.n (image_view g (sector_at im)) (sector_at im 0) (tables_of mp' pl' nu' us') ≡ scan_finding g (image_view g (sector_at im)) (sector_at im 0)
  told other e =
      subst
      (λ (x : Result Tail Loss). scan_found x g.n (image_view g (sector_at im)) (sector_at im 0) (tables_of mp' pl' nu' us') ≡ scan_finding g (image_view g (sector_at im)) (sector_at im 0))
      e finding

  pub scan_found_lem : (r : After) (tail : Tail) (bits : ℕ → Bool) → ScanAbove found (image_view g (sector_at im)) bits → found ≡ Ok tail
      → (im' : List ℕ) → im' ≡ im
      → r
      ≡ performed allowance
      (recovery_action g drive (record { tables = tables_of mp' pl' nu' us'; tail = tail.sector; number = tail.number }) (Scanned g.n)
      (stores_below bits blank_store g.n ++ park_sector_cleared (is_blank (sector_at im' 0) || bits 0)))
      (memory im' mp' pl' nu' us')
      → r ≡ recovered g drive allowance (memory im mp pl nu us) (scan_finding g (image_view g (sector_at im)) (sector_at im 0))
  unfolding scan_found ScanAbove recovered scan_stores
  scan_found_lem r tail bits above log im' same e =
      e
      ∙ ap (λ (v : List ℕ).
      performed allowance
      (recovery_action g drive (record { tables = tables_of mp' pl' nu' us'; tail = tail.sector; number = tail.number }) (Scanned g.n)
      (stores_below bits blank_store g.n ++ park_sector_cleared (is_blank (sector_at v 0) || bits 0)))
      (memory v mp' pl' nu' us')) same
      ∙ ap (λ (b : ℕ → Bool).
      performed allowance
      (recovery_action g drive (record { tables = tables_of mp' pl' nu' us'; tail = tail.sector; number = tail.number }) (Scanned g.n)
      (stores_below b blank_store g.n ++ park_sector_cleared (is_blank (sector_at im 0) || b 0)))
      (memory im mp' pl' nu' us'))
      (subst (λ (x : Result Tail Loss). ScanAbove x (image_view g (sector_at im)) bits) log above)
      ∙ performed_any g drive allowance im mp pl nu us mp' pl' nu' us' e2 e3 e4 e5 _ ∙ ap (recovered g drive allowance (memory im mp pl nu us)) (told (Ok tail) log)

  -- The tables with two primes are the zeros that stand there afterwards.
  pub scan_missing : (im'' mp'' pl'' nu'' us'' : List ℕ) → im'' ≡ im → length mp'' ≡ length mp' → length pl'' ≡ length pl' → length nu'' ≡ length nu' → length us'' ≡ length us'
      → (loss : Loss) → found ≡ Err loss → (x : State) → x ≡ lost_state g drive
      → tables_of mp'' pl'' nu'' us'' ≡ zero_tables
      → after (record { answer = Lost loss; state = x }) (memory im'' mp'' pl'' nu'' us'')
      ≡ recovered g drive allowance (memory im mp pl nu us) (scan_finding g (image_view g (sector_at im)) (sector_at im 0))
  unfolding scan_found recovered memory
  scan_missing im'' mp'' pl'' nu'' us'' d1 d2 d3 d4 d5 loss missing x q z =
      ap (λ (v : List ℕ). after (record { answer = Lost loss; state = x }) (memory v mp'' pl'' nu'' us'')) d1
      ∙ ap (λ (y : State). after (record { answer = Lost loss; state = y }) (memory im mp'' pl'' nu'' us'')) q
      ∙ ap (after (record { answer = Lost loss; state = lost_state g drive }))
      (memory_left im mp pl nu us im mp'' pl'' nu'' us'' (sector_at im) zero_tables refl (d2 ∙ e2) (d3 ∙ e3) (d4 ∙ e4) (d5 ∙ e5) refl z)
      ∙ ap (recovered g drive allowance (memory im mp pl nu us)) (told (Err loss) missing)
