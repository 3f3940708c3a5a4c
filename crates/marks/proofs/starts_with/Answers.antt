-- The library's test of two lists is ours, with the lists in the other order.
use Rattle.std.proofs.Common.{◌≡◌, ℕ, Bool, List, [], ◌∷◌, ◌&&◌, refl, sym, ap₂, ◌∙◌, take, length, nat_eq, ⊎_elim}
use borrow.Author.Tests.{eq-eqb, ne_eqb}
use Rattle.laws.proofs.Bounded.{eq?}
use Rattle.std.specs.Cmp.Lexicographic.{pointwise}
use Rattle.layout.specs.Bounded.{same}
use Rattle.layout.specs.Word.{starts_with}
use Rattle.marks.proofs.starts_with.Goals as goal

turned : (x y : ℕ) → nat_eq x y ≡ nat_eq y x
turned x y =
    ⊎_elim (λ (e : x ≡ y). eq-eqb x y e ∙ sym (eq-eqb y x (sym e)))
    (λ (d : x ≡ y → ⊥). ne_eqb x y d ∙ sym (ne_eqb y x (λ e. d (sym e)))) (eq? x y)

each_same : (xs ys : List ℕ) → pointwise nat_eq xs ys ≡ same ys xs
unfolding same
each_same [] [] = refl
each_same [] (y ∷ ys) = refl
each_same (x ∷ xs) [] = refl
each_same (x ∷ xs) (y ∷ ys) = ap₂ (λ (a b : Bool). a && b) (turned x y) (each_same xs ys)

pub returns : goal.returns
unfolding starts_with
returns c = c.starts_with.ensures.value ∙ each_same c.args.mark.now (take (length c.args.mark.now) c.args.s.now)
