-- The bytes gathered from the first on are the test of all of them.
use Rattle.std.proofs.Common.{◌≡◌, ℕ, Bool, true, false, ◌&&◌, List, [], ◌∷◌, refl, ◌∙◌, rules, tests}
use Rattle.std.specs.List.{fold}
use Rattle.std.proofs.lemmas.Iterator.{YieldsList-from_slice}
use Rattle.std.proofs.lemmas.Iterator.Consumers.{fold_from_yields_List}
use Rattle.layout.specs.Bounded.{all, is_zero}
use Rattle.blocks.proofs.is_blank.Goals as goal

both_true : (a : Bool) → a ≡ (a && true)
both_true true = refl
both_true false = refl

both_then : (a b c : Bool) → ((a && b) && c) ≡ (a && (b && c))
both_then true b c = refl
both_then false b c = refl

gathered : (good : Bool) (s : List ℕ) → fold (λ (a : Bool) (b : ℕ). a && is_zero b) good s ≡ (good && all is_zero s)
unfolding all
gathered good [] = both_true good
gathered good (b ∷ s) = gathered (good && is_zero b) s ∙ both_then good (is_zero b) (all is_zero s)

pub returns : goal.returns
returns c =
    fold_from_yields_List _ (λ (a : Bool) (b : ℕ). a && is_zero b) true c.fold.result c.fold.ensures.ran (YieldsList-from_slice c.args.s.now cc) (λ a x b q k. search (rules, tests))
    ∙ gathered true c.args.s.now
