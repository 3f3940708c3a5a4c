-- From the stores that the code made to what the definition says of a storing call: the cut, and the memory that is left.
use Prim.Native.Nat.{ℕ, ◌-◌, ◌≤◌, ◌<◌}
use mathlib.Core.Path.{◌≡◌, refl, sym, ◌∙◌, ap}
use mathlib.Core.Logic.{⊎_elim}
use mathlib.Core.List.{List}
use native.Mathlib.Omega.{arith}
use Rattle.std.specs.Prelude.{Some, None}
use lib.ListN.{length, take}
use lib.Seq.{take_all}
use lib.Dec.{ltb}
use borrow.Author.Tests.{lt-ltb, le-ltb}
use Rattle.state.specs.declared.State.{State}
use Rattle.answer.specs.declared.Cost.{Cost}
use Rattle.answer.specs.declared.Answer.{Answer}
use Rattle.answer.specs.declared.Answer.TheVariants.{PowerFailed}
use Rattle.volume.specs.Tables.{Tables, Memory, memory, sector_at, tables_of}
use Rattle.volume.specs.Store.{Store, applied, after, memory_with, Action, performed}
use Rattle.laws.proofs.Bounded.{lt?, cond_true, cond_false}
use Rattle.laws.proofs.Judged.{performed_cut, performed_whole}
use Rattle.power.specs.Power.{powered, made}
use Rattle.power.proofs.Runs.{failed_short, left_enough}

-- The memory that a call leaves, by its parts.
pub memory_left : (im mp pl nu us im' mp' pl' nu' us' : List ℕ) (image : ℕ → List ℕ) (t : Tables)
    → length im' ≡ length im → length mp' ≡ length mp → length pl' ≡ length pl → length nu' ≡ length nu → length us' ≡ length us
    → sector_at im' ≡ image → tables_of mp' pl' nu' us' ≡ t
    → memory im' mp' pl' nu' us' ≡ memory_with (memory im mp pl nu us) image t
unfolding memory
memory_left im mp pl nu us im' mp' pl' nu' us' image t e1 e2 e3 e4 e5 i f =
    ap (λ (q : Tables). record {
      lengths = record { image = length im'; map = length mp'; places = length pl'; numbers = length nu'; used = length us' };
      image = sector_at im';
      tables = q;
    }) f ∙ rw (e1, e2, e3, e4, e5, i) refl

-- A storing call by the stores that it made, and the memory that it left.
module _ (allowance : ℕ) (a : Action) (m m' : Memory) (image : ℕ → List ℕ) (made : image ≡ applied (take allowance a.stores) m.image) where
  pub call_cut : (x : Answer) (y : State) → x ≡ PowerFailed (a.cost allowance) → y ≡ a.cut_state
      → None ≡ powered (length a.stores) allowance → m' ≡ memory_with m image a.cut_tables
      → after (record { answer = x; state = y }) m' ≡ performed allowance a m
  call_cut x y p q e f =
      ap (λ (z : Answer). after (record { answer = z; state = y }) m') p
      ∙ ap (λ (z : State). after (record { answer = PowerFailed (a.cost allowance); state = z }) m') q
      ∙ ap (after (record { answer = PowerFailed (a.cost allowance); state = a.cut_state })) (f ∙ ap (λ (i : ℕ → List ℕ). memory_with m i a.cut_tables) made)
      ∙ sym (performed_cut allowance a m (failed_short (length a.stores) allowance e))

  pub call_whole : (x : Answer) (y : State) (left : ℕ) → x ≡ a.answer (a.cost (allowance - left)) → y ≡ a.state
      → Some left ≡ powered (length a.stores) allowance → m' ≡ memory_with m image a.tables
      → after (record { answer = x; state = y }) m' ≡ performed allowance a m
  call_whole x y left p q e f =
      let enough = left_enough (length a.stores) allowance left e in
      let count : allowance - left ≡ length a.stores = omega arith in
      ap (λ (z : Answer). after (record { answer = z; state = y }) m') (p ∙ ap (λ (k : ℕ). a.answer (a.cost k)) count)
      ∙ ap (λ (z : State). after (record { answer = a.answer (a.cost (length a.stores)); state = z }) m') q
      ∙ ap (after (record { answer = a.answer (a.cost (length a.stores)); state = a.state }))
      (f ∙ ap (λ (i : ℕ → List ℕ). memory_with m i a.tables) (made ∙ ap (λ (zs : List Store). applied zs m.image) (take_all allowance a.stores (omega arith))))
      ∙ sym (performed_whole allowance a m (omega arith))

-- Of what an action costs, only the cost of the stores that are made is looked at.
pub performed_cost : (allowance : ℕ) (a : Action) (cost : ℕ → Cost) (m : Memory)
    → a.cost (made (length a.stores) allowance) ≡ cost (made (length a.stores) allowance)
    → performed allowance a m
    ≡ performed allowance
    (record { stores = a.stores; cost = cost; answer = a.answer; state = a.state; tables = a.tables; cut_state = a.cut_state; cut_tables = a.cut_tables })
    m
unfolding performed
performed_cost allowance a cost m e =
    let needed = length a.stores in
    ⊎_elim (λ (h : allowance < needed).
    let short = lt-ltb allowance needed h in
    let k : made needed allowance ≡ allowance = cond_true (ltb allowance needed) allowance needed short in
    rw short
    (ap (λ (c : Cost). after (record { answer = PowerFailed c; state = a.cut_state })
    (memory_with m (applied (take allowance a.stores) m.image) a.cut_tables))
    (ap a.cost (sym k) ∙ e ∙ ap cost k)))
    (λ (h : needed ≤ allowance).
    let enough = le-ltb allowance needed h in
    let k : made needed allowance ≡ needed = cond_false (ltb allowance needed) allowance needed enough in
    rw enough
    (ap (λ (c : Cost). after (record { answer = a.answer c; state = a.state }) (memory_with m (applied a.stores m.image) a.tables))
    (ap a.cost (sym k) ∙ e ∙ ap cost k)))
    (lt? allowance needed)
