-- The stores of a commit go to the places of its plan, in their order.
use Prim.Native.Nat.{ℕ, zero, suc, ◌+◌}
use mathlib.Core.Path.{◌≡◌, refl, sym, ◌∙◌, ap, ap₂}
use mathlib.Core.Logic.{⊎_elim}
use mathlib.Core.Bool.{Bool, true, false}
use mathlib.Core.List.{List, [], ◌∷◌, ◌++◌}
use native.Mathlib.Omega.{arith}
use lib.ListN.{length, length-append}
use lib.Seq.{ext_get_or}
use Rattle.state.specs.declared.State.{State}
use Rattle.geometry.specs.Geometry.{pieces_for}
use Rattle.layout.specs.Bounded.{at, always, count_below, list_from}
use Rattle.volume.specs.Tables.{Tables}
use Rattle.volume.specs.Store.{Store, stores_below}
use Rattle.volume.specs.Commit.{Change, Plan, rank, member_place, data_store, member_store, commit_stores}
use Rattle.laws.proofs.Bounded.{bool?, count_hit, count_miss, count_always, length_list_from, list_from_at}
use Rattle.laws.proofs.Stores.{below_hit, below_miss, below_length}
use Rattle.quotes.specs.Promise.{sectors_of}

sectors_append : (xs ys : List Store) → sectors_of (xs ++ ys) ≡ sectors_of xs ++ sectors_of ys
unfolding sectors_of
sectors_append [] ys = refl
sectors_append (x ∷ xs) ys = ap (λ (l : List ℕ). x.sector ∷ l) (sectors_append xs ys)

-- Lists of the values of a function, put together.
from_append : (f : ℕ → ℕ) (from m n : ℕ) → list_from f from m ++ list_from f (from + m) n ≡ list_from f from (m + n)
unfolding list_from
from_append f from zero n = ap₂ (λ (a b : ℕ). list_from f a b) (let e : from + 0 ≡ from = omega arith in e) (let e : n ≡ 0 + n = omega arith in e)
from_append f from (suc m) n =
    ap (λ (k : ℕ). f from ∷ list_from f (suc from) m ++ list_from f k n) (let e : from + suc m ≡ suc from + m = omega arith in e)
    ∙ ap (λ (l : List ℕ). f from ∷ l) (from_append f (suc from) m n)
    ∙ ap (λ (k : ℕ). list_from f from k) (let e : suc (m + n) ≡ suc m + n = omega arith in e)

-- Stores that go to the places of a list, one after the other.
module _ (which : ℕ → Bool) (store : ℕ → Store) (place : ℕ → ℕ) (first : ℕ) (goes : (i : ℕ) → (store i).sector ≡ place (first + count_below which i)) where
  pub sectors_below : (n : ℕ) → sectors_of (stores_below which store n) ≡ list_from place first (count_below which n)
  unfolding stores_below count_below sectors_of list_from
  sectors_below zero = refl
  sectors_below (suc n) =
      let c = count_below which n in
      ⊎_elim (λ (z : which n ≡ true).
      ap sectors_of (below_hit which store n z) ∙ sectors_append (stores_below which store n) (store n ∷ [])
      ∙ ap₂ (λ (l : List ℕ) (k : ℕ). l ++ (k ∷ [])) (sectors_below n) (goes n)
      ∙ from_append place first c 1
      ∙ ap (list_from place first) (let e : c + 1 ≡ suc c = omega arith in e ∙ sym (count_hit which n z)))
      (λ (z : which n ≡ false). ap sectors_of (below_miss which store n z) ∙ sectors_below n ∙ ap (list_from place first) (sym (count_miss which n z)))
      (bool? (which n))

listed_whole : (xs : List ℕ) (n : ℕ) → length xs ≡ n → list_from (at xs) 0 n ≡ xs
listed_whole xs n e =
    ext_get_or 0 (list_from (at xs) 0 n) xs (length_list_from (at xs) 0 n ∙ sym e)
    (λ k h. list_from_at (at xs) 0 n k 0 (let l = length_list_from (at xs) 0 n in omega arith) ∙ ap (at xs) (let z : 0 + k ≡ k = omega arith in z))

module _ (s : State) (t : Tables) (plan : Plan) (change : Change) (data_are : plan.data_sectors ≡ change.data_sectors)
    (members_are : plan.members ≡ count_below plan.written (pieces_for s.geometry.l))
    (taken : length plan.places ≡ change.data_sectors + plan.members) where
  pub stores_count : length (commit_stores s t plan change) ≡ length plan.places
  unfolding commit_stores
  stores_count =
      length-append (stores_below always (data_store plan change) change.data_sectors) (stores_below plan.written (member_store s t plan change) (pieces_for s.geometry.l))
      ∙ ap₂ ◌+◌ (below_length always (data_store plan change) change.data_sectors ∙ count_always change.data_sectors)
      (below_length plan.written (member_store s t plan change) (pieces_for s.geometry.l) ∙ sym members_are)
      ∙ sym taken

  data_goes : (i : ℕ) → (data_store plan change i).sector ≡ at plan.places (0 + count_below always i)
  unfolding data_store
  data_goes i = ap (at plan.places) (let c = count_always i in let e : i ≡ 0 + count_below always i = omega arith in e)

  member_goes : (p : ℕ) → (member_store s t plan change p).sector ≡ at plan.places (change.data_sectors + count_below plan.written p)
  unfolding member_store member_place rank
  member_goes p = ap (λ (d : ℕ). at plan.places (d + count_below plan.written p)) data_are

  pub stores_sectors : sectors_of (commit_stores s t plan change) ≡ plan.places
  unfolding commit_stores
  stores_sectors =
      let d = change.data_sectors in
      sectors_append (stores_below always (data_store plan change) d) (stores_below plan.written (member_store s t plan change) (pieces_for s.geometry.l))
      ∙ ap₂ ◌++◌
      (sectors_below always (data_store plan change) (at plan.places) 0 data_goes d ∙ ap (list_from (at plan.places) 0) (count_always d))
      (sectors_below plan.written (member_store s t plan change) (at plan.places) d member_goes (pieces_for s.geometry.l)
      ∙ ap (list_from (at plan.places) d) (sym members_are))
      ∙ ap (λ (k : ℕ). list_from (at plan.places) 0 d ++ list_from (at plan.places) k plan.members) (let e : d ≡ 0 + d = omega arith in e)
      ∙ from_append (at plan.places) 0 d plan.members ∙ listed_whole plan.places (d + plan.members) taken
