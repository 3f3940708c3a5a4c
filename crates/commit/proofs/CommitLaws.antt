-- A commit by its parts: carried out, it is the action of its plan; and the plan and the change in the arrays are those of the
-- definition.
use Prim.Native.Nat.{ℕ, zero, suc, ◌+◌, ◌-◌, ◌≤◌, ◌<◌}
use mathlib.Core.Path.{◌≡◌, refl, sym, ◌∙◌, ap}
use mathlib.Core.Bool.{Bool, false, cond}
use mathlib.Core.List.{List, [], ◌∷◌, ◌++◌}
use native.Mathlib.Omega.{arith}
use lib.ListN.{length, take}
use lib.Dec.{eqb}
use Rattle.geometry.specs.declared.Geometry.{Geometry}
use Rattle.state.specs.declared.State.{State}
use Rattle.state.specs.declared.Outcome.{Outcome}
use Rattle.answer.specs.declared.Answer.{Answer}
use Rattle.answer.specs.declared.Answer.TheVariants.{Accepted, PowerFailed}
use Rattle.geometry.specs.Geometry.{pieces_for}
use Rattle.state.specs.State.{committed_state, cut_state}
use Rattle.layout.specs.Bounded.{at, always, is_zero, count_below, updated, updates}
use Rattle.layout.specs.MapSector.{encoded}
use Rattle.volume.specs.Tables.{Tables, memory, sector_at, tables_of, named_by, used_by, piece_entries}
use Rattle.volume.specs.Store.{Store, applied, stores_below, after, Action, performed}
use Rattle.volume.specs.Commit.{Change, Plan, rank, member_place, changed_entries, committed_tables, member, data_store, member_store, commit_stores, bill, plan_action}
use Rattle.std.specs.Prelude.{Some, None}
use Rattle.power.specs.Power.{powered}
use Rattle.pieces.specs.Arrays.{flagged, plan_of, change_of, block_store, Settling}
use Rattle.commit.specs.Commit.{change_with}
use Rattle.power.proofs.Performing.{memory_left, call_cut, call_whole}

module _ (s : State) (allowance : ℕ) (im mp pl nu us im' : List ℕ) (blocks bytes news taken branches written : List ℕ) (count members skipped : ℕ)
    (e1 : length im' ≡ length im) where
  abbrev action : Action
  action = plan_action s (tables_of mp pl nu us) (plan_of branches written members count taken skipped) (change_with blocks bytes news count)

  abbrev made : List Store
  made =
      stores_below always (block_store taken bytes) count
      ++ stores_below (flagged written) (member_store s (tables_of mp [] [] []) (plan_of branches written members count taken 0) (change_of blocks news count)) (pieces_for s.geometry.l)

  stores_are : made ≡ action.stores
  unfolding plan_action commit_stores data_store member_store member member_place rank committed_tables changed_entries
  stores_are = refl

  module _ (i : sector_at im' ≡ applied (take allowance made) (sector_at im)) where
    image_is : sector_at im' ≡ applied (take allowance action.stores) (memory im mp pl nu us).image
    unfolding memory
    image_is = i ∙ ap (λ (xs : List Store). applied (take allowance xs) (sector_at im)) stores_are

    pub carried_cut : (x : Answer) (y : State) → x ≡ PowerFailed (record { stores = allowance; skipped = skipped }) → y ≡ cut_state s → None ≡ powered (length made) allowance
        → after (record { answer = x; state = y }) (memory im' mp pl nu us) ≡ performed allowance action (memory im mp pl nu us)
    unfolding plan_action
    carried_cut x y p q e =
        call_cut allowance action (memory im mp pl nu us) (memory im' mp pl nu us) (sector_at im') image_is x y p q
        (e ∙ ap (λ (xs : List Store). powered (length xs) allowance) stores_are)
        (memory_left im mp pl nu us im' mp pl nu us (sector_at im') (tables_of mp pl nu us) e1 refl refl refl refl refl refl)

    pub carried_whole : (mp' pl' nu' us' : List ℕ) (r : Outcome) (left : ℕ) → length mp' ≡ length mp → length pl' ≡ length pl → length nu' ≡ length nu
        → length us' ≡ length us → Settling s.geometry s.number blocks news taken count written
        → members ≡ count_below (flagged written) (pieces_for s.geometry.l) → 1 ≤ members → Some left ≡ powered (length made) allowance
        → (r.answer ≡ Accepted (record { stores = allowance - left; skipped = skipped }))
        × (r.state ≡ committed_state s (at taken (length taken - 1)) (s.number + members))
        × (tables_of mp' pl' nu' us' ≡ committed_tables s (tables_of mp pl nu us) (plan_of [] written 0 count taken 0) (change_of blocks news count))
        → after r (memory im' mp' pl' nu' us') ≡ performed allowance action (memory im mp pl nu us)
    unfolding plan_action committed_tables changed_entries member_place rank
    carried_whole mp' pl' nu' us' r left e2 e3 e4 e5 g m one e w =
        let all = g.taken_all in
        call_whole allowance action (memory im mp pl nu us) (memory im' mp' pl' nu' us') (sector_at im') image_is r.answer r.state left w.0
        (w.1 ∙ ap (λ (k : ℕ). committed_state s (at taken k) (s.number + members)) (let h : length taken - 1 ≡ count + (members - 1) = omega arith in h))
        (e ∙ ap (λ (xs : List Store). powered (length xs) allowance) stores_are)
        (memory_left im mp pl nu us im' mp' pl' nu' us' (sector_at im') action.tables e1 e2 e3 e4 e5 refl w.2)

-- The last sector taken is the last member's.
pub some_taken : (g : Geometry) (number : ℕ) (blocks news taken written : List ℕ) (count members : ℕ) → Settling g number blocks news taken count written
    → members ≡ count_below (flagged written) (pieces_for g.l) → 1 ≤ members → 1 ≤ length taken
some_taken g number blocks news taken written count members s m one = let all = s.taken_all in omega arith

pub tail_is : (s y : State) (tail tail' number : ℕ) → y ≡ committed_state s tail number → tail ≡ tail' → y ≡ committed_state s tail' number
tail_is s y tail tail' number e f = e ∙ ap (λ (k : ℕ). committed_state s k number) f

-- Changes and stores that agree below the bound are the same.
updates_same : (f : ℕ → ℕ) (place value value' : ℕ → ℕ) (n : ℕ) → ((i : ℕ) → i < n → value i ≡ value' i) → updates f place value n ≡ updates f place value' n
unfolding updates
updates_same f place value value' zero h = refl
updates_same f place value value' (suc n) h =
    ap (λ (g : ℕ → ℕ). updated g (place n) (value n)) (updates_same f place value value' n (λ i k. h i (omega arith)))
    ∙ ap (updated (updates f place value' n) (place n)) (h n (omega arith))

stores_same : (which : ℕ → Bool) (store store' : ℕ → Store) (n : ℕ) → ((i : ℕ) → i < n → store i ≡ store' i) → stores_below which store n ≡ stores_below which store' n
unfolding stores_below
stores_same which store store' zero h = refl
stores_same which store store' (suc n) h =
    ap (λ (xs : List Store). cond (which n) (xs ++ (store n ∷ [])) xs) (stores_same which store store' n (λ i k. h i (omega arith)))
    ∙ ap (λ (x : Store). cond (which n) (stores_below which store' n ++ (x ∷ [])) (stores_below which store' n)) (h n (omega arith))

-- The plan of the action, by its fields; whether it folds is not asked.
module _ (s : State) (t : Tables) (plan : Plan) (change : Change) where
  pub action_plan : (b : List ℕ) (w : ℕ → Bool) (m d : ℕ) (p : List ℕ) → b ≡ plan.branches → w ≡ plan.written → m ≡ plan.members → d ≡ plan.data_sectors
      → p ≡ plan.places
      → plan_action s t (record { fold = false; branches = b; written = w; members = m; data_sectors = d; places = p; skipped = plan.skipped }) change
      ≡ plan_action s t plan change
  unfolding plan_action commit_stores data_store member_store member member_place rank committed_tables changed_entries
  action_plan b w m d p e1 e2 e3 e4 e5 = rw (e1, e2, e3, e4, e5) refl

-- The change of the action, by what it asks of it: the data stores, and the entries.
module _ (s : State) (t : Tables) (plan : Plan) where
  abbrev with_change : List Store → (ℕ → ℕ) → Action
  with_change datas entry =
      let place : ℕ → ℕ = λ p. cond (plan.written p) (member_place plan (rank plan p)) (t.place p) in
      let members : ℕ → Store = λ p. record {
        sector = member_place plan (rank plan p);
        bytes = encoded s.geometry.l
            (record {
              number = suc (s.number + rank plan p);
              piece = p;
              closing = eqb (suc (rank plan p)) plan.members;
              branches = cond (is_zero (rank plan p)) plan.branches (member_place plan (rank plan p - 1) ∷ []);
              entries = piece_entries s.geometry.l entry p;
            });
      } in
      record {
        stores = datas ++ stores_below plan.written members (pieces_for s.geometry.l);
        cost = bill plan;
        answer = Accepted;
        state = committed_state s (member_place plan (plan.members - 1)) (s.number + plan.members);
        tables = record {
          entry = entry;
          place = place;
          number = λ p. cond (plan.written p) (suc (s.number + rank plan p)) (t.number p);
          is_used = used_by (named_by s.geometry.l entry place);
        };
        cut_state = cut_state s;
        cut_tables = t;
      }

  by_change : (change : Change)
      → plan_action s t plan change
      ≡ with_change (stores_below always (λ i. record { sector = at plan.places i; bytes = change.content i }) change.data_sectors)
      (updates t.entry (at change.blocks) (λ i. change.entry i (at plan.places i)) (length change.blocks))
  unfolding plan_action commit_stores data_store member_store member committed_tables changed_entries
  by_change change = refl

  pub action_change : (blocks : List ℕ) (d : ℕ) (content content' : ℕ → List ℕ) (entry entry' : ℕ → ℕ → ℕ)
      → ((i : ℕ) → i < d → content i ≡ content' i) → ((i : ℕ) → i < length blocks → entry i (at plan.places i) ≡ entry' i (at plan.places i))
      → plan_action s t plan (record { blocks = blocks; data_sectors = d; content = content; entry = entry })
      ≡ plan_action s t plan (record { blocks = blocks; data_sectors = d; content = content'; entry = entry' })
  action_change blocks d content content' entry entry' same new =
      by_change (record { blocks = blocks; data_sectors = d; content = content; entry = entry })
      ∙ ap (λ (xs : List Store). with_change xs (updates t.entry (at blocks) (λ i. entry i (at plan.places i)) (length blocks)))
      (stores_same always (λ i. record { sector = at plan.places i; bytes = content i }) (λ i. record { sector = at plan.places i; bytes = content' i }) d
      (λ i h. ap (λ (x : List ℕ). record { sector = at plan.places i; bytes = x }) (same i h)))
      ∙ ap (with_change (stores_below always (λ i. record { sector = at plan.places i; bytes = content' i }) d))
      (updates_same t.entry (at blocks) (λ i. entry i (at plan.places i)) (λ i. entry' i (at plan.places i)) (length blocks) new)
      ∙ sym (by_change (record { blocks = blocks; data_sectors = d; content = content'; entry = entry' }))
