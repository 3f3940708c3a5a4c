-- The chain's two outcomes, against the definition.
use Rattle.std.proofs.Common.{◌≡◌, ℕ, ◌<◌, ◌≤◌, Bool, true, false, List, length, sym, rules, arith, leb, le-leb}
use Rattle.std.specs.Bool.{MatchBool}
use Rattle.std.specs.List.{AllWithin, HoldsAt}
use Rattle.std.proofs.lemmas.Iterator.{cases_from_all, YieldsList-from_slice}
use borrow.Author.Tests.{tests, lt-leb}
use Rattle.layout.specs.Bounded.{at, all_below}
use Rattle.laws.proofs.Bounded.{all_below_is}
use Rattle.numbers.proofs.Numbering.{all_below_not}
use Rattle.numbers.proofs.all_from_1.Goals as goal

either : (xs : List ℕ) (r : Bool) → MatchBool r (AllWithin (λ x. 1 ≤ x) xs 0 (length xs)) ((k : ℕ) × (k < length xs) × HoldsAt (λ x. x < 1) xs k)
    → r ≡ all_below (λ q. leb 1 (at xs q)) (length xs)
either xs true h = sym (all_below_is (λ q. leb 1 (at xs q)) (length xs) (λ k b. le-leb 1 (at xs k) (h k 0 (omega arith) b)))
either xs false h = all_below_not (λ q. leb 1 (at xs q)) (length xs) h.0 h.1 (lt-leb 1 (at xs h.0) (h.2 0))

pub returns : goal.returns
returns c =
    either c.args.numbers.now c.all.result
    (cases_from_all _ _ _ (λ x. 1 ≤ x) (λ x. x < 1) c.all.ensures.ran (YieldsList-from_slice c.args.numbers.now cc)
    (λ x q k. search (rules, tests)) (λ x q k. search (rules, tests)))
