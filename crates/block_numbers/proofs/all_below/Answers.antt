-- The chain's two outcomes, against the definition.
use Rattle.std.proofs.Common.{◌≡◌, ℕ, zero, suc, ◌<◌, ◌≤◌, Bool, true, false, ◌&&◌, List, [], ◌∷◌, length, refl, sym, ap, ◌∙◌, rules, arith, ltb, lt-ltb, le-ltb}
use Rattle.std.specs.Bool.{MatchBool}
use Rattle.std.specs.List.{AllWithin, HoldsAt}
use Rattle.std.proofs.lemmas.Iterator.{cases_from_all, YieldsList-from_slice}
use borrow.Author.Tests.{tests}
use Rattle.layout.specs.Bounded.{at, all}
use Rattle.block_numbers.proofs.all_below.Goals as goal

each : (l : ℕ) (xs : List ℕ) → ((k : ℕ) → k < length xs → at xs k < l) → all (λ b. ltb b l) xs ≡ true
unfolding all
each l [] h = refl
each l (x ∷ xs) h = rw (lt-ltb x l (h 0 (omega arith)), each l xs (λ k b. h (suc k) (omega arith))) refl

never : (a : Bool) → (a && false) ≡ false
never true = refl
never false = refl

one_not : (l : ℕ) (xs : List ℕ) (k : ℕ) → k < length xs → l ≤ at xs k → all (λ b. ltb b l) xs ≡ false
unfolding all
one_not l [] k b h = absurd (omega arith)
one_not l (x ∷ xs) zero b h = rw (le-ltb x l h) refl
one_not l (x ∷ xs) (suc k) b h = ap (λ (a : Bool). ltb x l && a) (one_not l xs k (omega arith) h) ∙ never (ltb x l)

either : (l : ℕ) (xs : List ℕ) (r : Bool) → MatchBool r (AllWithin (λ x. x < l) xs 0 (length xs)) ((k : ℕ) × (k < length xs) × HoldsAt (λ x. l ≤ x) xs k)
    → r ≡ all (λ b. ltb b l) xs
either l xs true h = sym (each l xs (λ k b. h k 0 (omega arith) b))
either l xs false h = sym (one_not l xs h.0 h.1 (h.2 0))

pub returns : goal.returns
returns c =
    either c.args.l c.args.blocks.now c.all.result
    (cases_from_all _ _ _ (λ x. x < c.args.l) (λ x. c.args.l ≤ x) c.all.ensures.ran (YieldsList-from_slice c.args.blocks.now cc)
    (λ x q k. search (rules, tests)) (λ x q k. search (rules, tests)))
