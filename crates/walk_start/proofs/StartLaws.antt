-- Where a walk starts: the park record and the tail, test by test.
use Prim.Native.Nat.{ℕ, ◌-◌, ◌≤◌, ◌<◌}
use mathlib.Core.Path.{◌≡◌, refl, sym, ◌∙◌, ap}
use mathlib.Core.Bool.{Bool, true, false, cond, ◌&&◌}
use mathlib.Core.List.{List}
use mathlib.Core.Option.{Option, none, some}
use lib.Dec.{eqb}
use Rattle.geometry.specs.declared.Geometry.{Geometry}
use Rattle.geometry.specs.Geometry.{within}
use Rattle.layout.specs.Bounded.{at}
use Rattle.layout.specs.Word.{words_of}
use Rattle.layout.specs.MapSector.{MapSector, View, fields}
use Rattle.layout.specs.ParkRecord.{Parked, is_park_record, parked_in}
use Rattle.volume.specs.Recover.{image_view, walk_starts}
use Rattle.laws.proofs.Bounded.{cond_true, cond_false}
use Rattle.laws.proofs.Lists.{within_below, within_above, within_both}
use Rattle.signed.specs.Signed.{signed_at}
use Rattle.signed.proofs.ViewLaws.{view_signed, view_unsigned}
use Rattle.walk_start.specs.Starting.{start_of}
use Rattle.state.specs.declared.tail.Tail.{Tail}
use Rattle.std.specs.Prelude.{Some, None}

module _ (g : Geometry) (image : ℕ → List ℕ) (tail number : ℕ) where
  abbrev parked : Parked
  parked = record { number = number; tail = tail }

  out_of_range : (o : Option MapSector) → within 1 (g.n - 1) tail ≡ false → false ≡ walk_starts g.n parked o
  unfolding walk_starts
  out_of_range none e = refl
  out_of_range (some m) e = rw e refl

  pub starts_low : tail < 1 → false ≡ walk_starts g.n parked (image_view g image tail)
  starts_low h = out_of_range (image_view g image tail) (within_below 1 (g.n - 1) tail h)

  pub starts_high : 1 ≤ tail → g.n - 1 < tail → false ≡ walk_starts g.n parked (image_view g image tail)
  starts_high h u = out_of_range (image_view g image tail) (within_above 1 (g.n - 1) tail h u)

  pub starts_unsigned : signed_at g image tail ≡ false → false ≡ walk_starts g.n parked (image_view g image tail)
  unfolding walk_starts
  starts_unsigned e = sym (ap (walk_starts g.n parked) (view_unsigned g image tail e))

  module _ (low : 1 ≤ tail) (high : tail ≤ g.n - 1) (e : signed_at g image tail ≡ true) (s : List ℕ) (is : s ≡ image tail) (closing : Bool)
      (f : closing ≡ eqb (at (words_of s) 5) 1) where
    says : walk_starts g.n parked (image_view g image tail) ≡ (within 1 (g.n - 1) tail && eqb (at (words_of s) 5) 1 && eqb (at (words_of s) 2) number)
    unfolding walk_starts
    says = ap (walk_starts g.n parked) (view_signed g image tail e ∙ ap (λ (x : List ℕ). some (fields (words_of x))) (sym is))

    pub starts_member : closing ≡ false → false ≡ walk_starts g.n parked (image_view g image tail)
    starts_member u = sym (says ∙ rw (within_both 1 (g.n - 1) tail low high, sym f ∙ u) refl)

    pub starts_number : closing ≡ true → (r : ℕ) → r ≡ at (words_of s) 2 → eqb r number ≡ walk_starts g.n parked (image_view g image tail)
    starts_number u r h = sym (says ∙ rw (within_both 1 (g.n - 1) tail low high, sym f ∙ u, sym h) refl)

module _ (n : ℕ) (view : View) (sector0 s : List ℕ) (is : s ≡ sector0) (r : Bool) (e : r ≡ is_park_record s (words_of s)) where
  pub no_record : r ≡ false → None ≡ start_of n view (parked_in sector0)
  unfolding parked_in start_of
  no_record f =
      sym (ap (λ (x : List ℕ). start_of n view (parked_in x)) (sym is)
      ∙ ap (start_of n view) (cond_false (is_park_record s (words_of s)) (some (record { number = at (words_of s) 2; tail = at (words_of s) 3 })) none (sym e ∙ f)))

  module _ (f : r ≡ true) (tail number : ℕ) (t : tail ≡ at (words_of s) 3) (m : number ≡ at (words_of s) 2) (b : Bool)
      (g : b ≡ walk_starts n (record { number = number; tail = tail }) (view tail)) where
    abbrev here : Tail
    here = record { sector = tail; number = number }

    starts : start_of n view (parked_in sector0) ≡ cond b (Some here) None
    unfolding parked_in start_of
    starts =
        ap (λ (x : List ℕ). start_of n view (parked_in x)) (sym is)
        ∙ ap (start_of n view) (cond_true (is_park_record s (words_of s)) (some (record { number = at (words_of s) 2; tail = at (words_of s) 3 })) none (sym e ∙ f))
        ∙ rw (sym t, sym m, sym g) refl

    pub no_start : b ≡ false → None ≡ start_of n view (parked_in sector0)
    no_start h = sym (starts ∙ cond_false b (Some here) None h)

    pub start_here : b ≡ true → Some here ≡ start_of n view (parked_in sector0)
    start_here h = sym (starts ∙ cond_true b (Some here) None h)
