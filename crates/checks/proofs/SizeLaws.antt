-- Which refusal format and recover meet, by the tests that led there; and what one that meets none may rely on.
use Prim.Native.Nat.{ℕ, ◌*◌, ◌/◌, ◌%◌, ◌≤◌}
use mathlib.Core.Path.{◌≡◌, refl, sym, ◌∙◌, ap, subst}
use mathlib.Core.Bool.{Bool, true, false, not, ◌&&◌}
use mathlib.Core.List.{List}
use native.Mathlib.Nat.{div-add-mod}
use native.Mathlib.Omega.{arith}
use lib.ListN.{length}
use lib.Dec.{eqb}
use borrow.Author.Tests.{eqb-true, not-true, not-false}
use Rattle.std.specs.Prelude.{⊤, Result, Ok, Err}
use Rattle.geometry.specs.declared.Geometry.{Geometry}
use Rattle.geometry.specs.declared.Settings.{Settings}
use Rattle.answer.specs.declared.Refusal.{Refusal}
use Rattle.answer.specs.declared.Refusal.TheVariants.{Size, WrongSettings, BufferLength}
use Rattle.geometry.specs.Geometry.{pieces_for, used_bytes, geometry_of, geometry_fits, drive_fits}
use Rattle.layout.specs.Bounded.{is_zero}
use Rattle.volume.specs.Tables.{memory}
use Rattle.volume.specs.Refusals.{applies, first_of, judged}
use Rattle.volume.specs.Format.{image_fits, tables_fit, size_checks}
use Rattle.laws.proofs.Bounded.{and_l, and_r}
use Rattle.laws.proofs.Sizes.{Fits, fits, tables_fit_lem}
use Rattle.laws.proofs.Judged.{cleared}
use Rattle.lending.specs.declared.Lengths as lent_lengths
use Rattle.lending.specs.declared.Memory as lent_memory
use Rattle.lending.specs.Lending.{held, lengths_held}
use Rattle.checks.specs.Left.{lent, measured}

module _ (settings : Settings) (image map places numbers used : ℕ) (b1 : Bool) (f1 : b1 ≡ (is_zero (image % 512) && geometry_fits (geometry_of (image / 512) settings))) where
  pub size_refused : not b1 ≡ true → Err Size ≡ judged (size_checks (lent image map places numbers used) settings)
  unfolding judged first_of applies size_checks image_fits
  size_refused e = rw (sym f1 ∙ not-true b1 e) refl

  pub fits_number : not b1 ≡ false → image / 512 ≤ 65536
  fits_number e = (fits (geometry_of (image / 512) settings) (and_r (is_zero (image % 512)) (geometry_fits (geometry_of (image / 512) settings)) (sym f1 ∙ not-false b1 e))).sectors

  module _ (e1 : not b1 ≡ false) (g : Geometry) (q : g ≡ geometry_of (image / 512) settings) (bd : Bool) (fd : bd ≡ drive_fits g.n settings.drive) where
    settings_are : bd ≡ drive_fits (image / 512) settings.drive
    settings_are = fd ∙ ap (λ (x : Geometry). drive_fits x.n settings.drive) q

    pub settings_refused : not bd ≡ true → Err WrongSettings ≡ judged (size_checks (lent image map places numbers used) settings)
    unfolding judged first_of applies size_checks image_fits
    settings_refused e = rw (sym f1 ∙ not-false b1 e1, sym settings_are ∙ not-true bd e) refl

    module _ (ed : not bd ≡ false) (b2 : Bool)
        (f2 : b2 ≡ (eqb map g.l && eqb places (pieces_for g.l) && eqb numbers (pieces_for g.l) && eqb used (used_bytes g.n))) where
      lengths_are : b2 ≡ tables_fit (lent image map places numbers used) (geometry_of (image / 512) settings)
      unfolding tables_fit
      lengths_are = f2 ∙ ap (tables_fit (lent image map places numbers used)) q

      pub lengths_refused : not b2 ≡ true → Err BufferLength ≡ judged (size_checks (lent image map places numbers used) settings)
      unfolding judged first_of applies size_checks image_fits
      lengths_refused e = rw (sym f1 ∙ not-false b1 e1, sym settings_are ∙ not-false bd ed, sym lengths_are ∙ not-true b2 e) refl

      pub size_passes : not b2 ≡ false → Ok tt ≡ judged (size_checks (lent image map places numbers used) settings)
      unfolding judged first_of applies size_checks image_fits
      size_passes e = rw (sym f1 ∙ not-false b1 e1, sym settings_are ∙ not-false bd ed, sym lengths_are ∙ not-false b2 e) refl

-- The checks look at the lengths alone.
pub by_lengths : (m : lent_memory.Memory) (settings : Settings) (x : lent_lengths.Lengths) (r : Result ⊤ Refusal)
    → r ≡ judged (size_checks (measured x) settings) → x ≡ lengths_held m → r ≡ judged (size_checks (held m) settings)
unfolding size_checks image_fits tables_fit memory
by_lengths m settings x r e f = e ∙ ap (λ (y : lent_lengths.Lengths). judged (size_checks (measured y) settings)) f

-- What no refusal means.
pub record Lengths (im mp pl nu us : List ℕ) (g : Geometry) : Type 0 where
  pub range : Fits g
  pub image : length im ≡ 512 * g.n
  pub map : length mp ≡ g.l
  pub places : length pl ≡ pieces_for g.l
  pub numbers : length nu ≡ pieces_for g.l
  pub used : length us ≡ used_bytes g.n

pub size_passed : (im mp pl nu us : List ℕ) (settings : Settings) → Ok tt ≡ judged (size_checks (memory im mp pl nu us) settings)
    → Lengths im mp pl nu us (geometry_of (length im / 512) settings)
unfolding size_checks image_fits memory applies
size_passed im mp pl nu us settings e =
    let g = geometry_of (length im / 512) settings in
    let first = not-false (is_zero (length im % 512) && geometry_fits g) (cleared Size _ (sym e)) in
    let tables = tables_fit_lem im mp pl nu us g (not-false (tables_fit (memory im mp pl nu us) g) (cleared BufferLength _ (sym e))) in
    let whole = eqb-true (length im % 512) 0 (and_l (is_zero (length im % 512)) (geometry_fits g) first) in
    let cut = div-add-mod (length im) 512 in
    record {
      range = fits g (and_r (is_zero (length im % 512)) (geometry_fits g) first);
      image = omega arith;
      map = tables.map;
      places = tables.places;
      numbers = tables.numbers;
      used = tables.used;
    }

-- The same of the volume as the code has it.
pub volume_passed : (im mp pl nu us : List ℕ) (settings : Settings) (g : Geometry) → g ≡ geometry_of (length im / 512) settings
    → Ok tt ≡ judged (size_checks (memory im mp pl nu us) settings) → Lengths im mp pl nu us g
volume_passed im mp pl nu us settings g q e = subst (λ (x : Geometry). Lengths im mp pl nu us x) (sym q) (size_passed im mp pl nu us settings e)

pub size_range : (im mp pl nu us : List ℕ) (settings : Settings) → Ok tt ≡ judged (size_checks (memory im mp pl nu us) settings) → geometry_fits (geometry_of (length im / 512) settings) ≡ true
unfolding size_checks image_fits memory applies
size_range im mp pl nu us settings e =
    and_r (is_zero (length im % 512)) (geometry_fits (geometry_of (length im / 512) settings))
    (not-false (is_zero (length im % 512) && geometry_fits (geometry_of (length im / 512) settings)) (cleared Size _ (sym e)))

pub volume_range : (im mp pl nu us : List ℕ) (settings : Settings) (g : Geometry) → g ≡ geometry_of (length im / 512) settings
    → Ok tt ≡ judged (size_checks (memory im mp pl nu us) settings) → geometry_fits g ≡ true
volume_range im mp pl nu us settings g q e = ap (λ (x : Geometry). geometry_fits x) q ∙ size_range im mp pl nu us settings e
