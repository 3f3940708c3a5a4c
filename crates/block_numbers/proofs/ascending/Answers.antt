-- Each block and the next, against the definition.
use Rattle.std.proofs.Common.{◌≡◌, ℕ, ◌+◌, ◌-◌, ◌≤◌, Bool, true, false, List, length, sym, ap, ◌∙◌, add-one, rules, arith, ltb}
use Rattle.std.specs.List.{IsAllAdjacentAnswer}
use Rattle.std.proofs.lemmas.List.Sorted.{answers_always}
use Rattle.layout.specs.Bounded.{at, all_below}
use Rattle.laws.proofs.Bounded.{all_below_is}
use Rattle.block_numbers.proofs.BlockLaws.{rises, rises_not}
use Rattle.block_numbers.proofs.ascending.Goals as goal

next : (xs : List ℕ) (k : ℕ) → ltb (at xs k) (at xs (k + 1)) ≡ rises xs k
next xs k = ap (λ (j : ℕ). ltb (at xs k) (at xs j)) (add-one k)

either : (xs : List ℕ) (r : Bool) → 1 ≤ length xs → IsAllAdjacentAnswer (λ x y b. b ≡ ltb x y) xs r → r ≡ all_below (rises xs) (length xs - 1)
either xs true some h = sym (all_below_is (rises xs) (length xs - 1) (λ k b. sym (h k 0 (omega arith) ∙ next xs k)))
either xs false some h = rises_not xs h.0 (length xs - 1) (omega arith) (sym (h.2 0 ∙ next xs h.0))

pub returns : goal.returns
returns c =
    either c.args.blocks.now c.is_sorted_by.result c.requires (c.is_sorted_by.ensures.cases ltb (answers_always _ _ _ (λ f a r g h. search rules)))
