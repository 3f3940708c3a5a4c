-- Which refusal by lengths a call on a state meets, by the tests that led there; and what one that meets none may rely on.
use Prim.Native.Nat.{ℕ, ◌*◌}
use mathlib.Core.Path.{◌≡◌, refl, sym, ◌∙◌}
use mathlib.Core.Bool.{Bool, true, false, not, ◌&&◌}
use mathlib.Core.List.{List, ◌++◌}
use lib.ListN.{length}
use lib.Dec.{eqb}
use borrow.Author.Tests.{not-true, not-false}
use Rattle.std.specs.Prelude.{Result, Ok, Err, ⊤}
use Rattle.geometry.specs.Geometry.{pieces_for, used_bytes, geometry_fits, drive_fits}
use Rattle.state.specs.declared.State.{State}
use Rattle.answer.specs.declared.Refusal.{Refusal}
use Rattle.answer.specs.declared.Refusal.TheVariants.{Size, WrongSettings, BufferLength}
use Rattle.answer.specs.Answer.{lengths}
use Rattle.volume.specs.Tables.{memory}
use Rattle.volume.specs.Refusals.{Check, applies, first_of, judged}
use Rattle.volume.specs.Format.{tables_fit}
use Rattle.volume.specs.Calls.{state_fits, state_checks}
use Rattle.laws.proofs.Bounded.{and_l}
use Rattle.laws.proofs.Judged.{is_in, first_clear, later, lengths_refused, lengths_passed}
use Rattle.checks.specs.Left.{lent}

module _ (s : State) (image map places numbers used : ℕ) (own : Bool) (b1 : Bool) (f1 : b1 ≡ (eqb image (512 * s.geometry.n) && geometry_fits s.geometry)) where
  abbrev verdict : Result ⊤ Refusal
  verdict = first_of lengths (state_checks s (lent image map places numbers used) own)

  pub state_refused : not b1 ≡ true → Err Size ≡ verdict
  unfolding state_fits first_of applies
  state_refused e = rw (sym f1 ∙ not-true b1 e) refl

  module _ (e1 : not b1 ≡ false) (bd : Bool) (fd : bd ≡ drive_fits s.geometry.n s.drive) where
    pub settings_refused : not bd ≡ true → Err WrongSettings ≡ verdict
    unfolding state_fits first_of applies
    settings_refused e = rw (sym f1 ∙ not-false b1 e1, sym fd ∙ not-true bd e) refl

    module _ (ed : not bd ≡ false) (b2 : Bool)
        (f2 : b2 ≡ (eqb map s.geometry.l && eqb places (pieces_for s.geometry.l) && eqb numbers (pieces_for s.geometry.l) && eqb used (used_bytes s.geometry.n))) where
      pub tables_refused : not b2 ≡ true → Err BufferLength ≡ verdict
      unfolding state_fits tables_fit first_of applies
      tables_refused e = rw (sym f1 ∙ not-false b1 e1, sym fd ∙ not-false bd ed, sym f2 ∙ not-true b2 e) refl

      module _ (e2 : not b2 ≡ false) where
        pub own_refused : not own ≡ true → Err BufferLength ≡ verdict
        unfolding state_fits tables_fit first_of applies
        own_refused e = rw (sym f1 ∙ not-false b1 e1, sym fd ∙ not-false bd ed, sym f2 ∙ not-false b2 e2, not-true own e) refl

        pub lengths_fit : not own ≡ false → Ok tt ≡ verdict
        unfolding state_fits tables_fit first_of applies
        lengths_fit e = rw (sym f1 ∙ not-false b1 e1, sym fd ∙ not-false bd ed, sym f2 ∙ not-false b2 e2, not-false own e) refl

-- A call that begins with these: they refuse it, or the rest decides.
module _ (s : State) (im mp pl nu us : List ℕ) (own : Bool) (rest : List Check) (v : Result ⊤ Refusal)
    (f : v ≡ first_of lengths (state_checks s (lent (length im) (length mp) (length pl) (length nu) (length us)) own)) where
  abbrev checks : List Check
  checks = state_checks s (memory im mp pl nu us) own ++ rest

  by_lengths : v ≡ first_of lengths checks
  unfolding state_fits tables_fit memory first_of applies
  by_lengths = f

  pub refused_by_lengths : (r : Refusal) → v ≡ Err r → Err r ≡ judged checks
  refused_by_lengths r e = lengths_refused checks r (sym e ∙ by_lengths)

  module _ (e : v ≡ Ok tt) where
    pub passed_by_lengths : (w : Result ⊤ Refusal) → w ≡ first_of later checks → w ≡ judged checks
    passed_by_lengths w k = lengths_passed checks w (sym e ∙ by_lengths) k

    clear : (r : Refusal) → is_in r lengths ≡ true → applies r checks ≡ false
    clear r i = first_clear r lengths checks (sym (sym e ∙ by_lengths)) i

    pub drive_passed : drive_fits s.geometry.n s.drive ≡ true
    unfolding applies is_in
    drive_passed = not-false (drive_fits s.geometry.n s.drive) (clear WrongSettings refl)

    pub sizes_passed : state_fits s (memory im mp pl nu us) ≡ true
    unfolding applies is_in
    sizes_passed = not-false (state_fits s (memory im mp pl nu us)) (clear Size refl)

    lengths_given : (tables_fit (memory im mp pl nu us) s.geometry && own) ≡ true
    unfolding applies is_in
    lengths_given = not-false (tables_fit (memory im mp pl nu us) s.geometry && own) (clear BufferLength refl)

    pub tables_passed : tables_fit (memory im mp pl nu us) s.geometry ≡ true
    tables_passed = and_l (tables_fit (memory im mp pl nu us) s.geometry) own lengths_given
