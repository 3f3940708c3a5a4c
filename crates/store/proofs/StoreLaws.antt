-- A member as the code makes it is the member of the definition.
use Prim.Native.Nat.{ℕ, suc, ◌+◌, ◌*◌, ◌-◌, ◌≤◌, ◌<◌}
use mathlib.Core.Path.{◌≡◌, refl, sym, ◌∙◌, ap, subst}
use mathlib.Core.Logic.{⊎_elim}
use mathlib.Core.Bool.{Bool, true, false, cond}
use mathlib.Core.List.{List, [], ◌∷◌, ◌++◌}
use native.Mathlib.Nat.{not-suc-le-zero}
use native.Mathlib.Numerals.{add-one}
use native.Mathlib.Omega.{arith}
use lib.ListN.{length, take}
use lib.Dec.{eqb}
use borrow.Author.Tests.{eq-eqb, ne_eqb}
use Rattle.state.specs.declared.State.{State}
use Rattle.geometry.specs.Geometry.{pieces_for, piece_of}
use Rattle.layout.specs.Bounded.{at, always, is_zero, count_below, updated, updates}
use Rattle.layout.specs.MapSector.{encoded}
use Rattle.volume.specs.Tables.{tables_of, piece_entries}
use Rattle.volume.specs.Store.{Store, applied, stores_below}
use Rattle.volume.specs.Commit.{rank, member_place, changed_entries, committed_tables, member, member_store}
use Rattle.laws.proofs.Bounded.{lt?, eq?, clash, count_hit, count_miss}
use Rattle.laws.proofs.Stores.{below_length}
use Rattle.std.specs.Prelude.{Option, Some, None}
use Rattle.power.specs.Power.{powered}
use Rattle.power.proofs.Runs.{first_fails, second_runs}
use Rattle.pieces.specs.Arrays.{flagged, plan_of, change_of, block_store}
use Rattle.piece_entries.specs.Cursor.{Cursor}

same_sector : (l p : ℕ) (n n' : ℕ) (c c' : Bool) (b b' e : List ℕ) → n ≡ n' → c ≡ c' → b ≡ b'
    → encoded l (record { number = n; piece = p; closing = c; branches = b; entries = e })
    ≡ encoded l (record { number = n'; piece = p; closing = c'; branches = b'; entries = e })
same_sector l p n n' c c' b b' e f g h =
    ap (λ (x : ℕ). encoded l (record { number = x; piece = p; closing = c; branches = b; entries = e })) f
    ∙ ap (λ (x : Bool). encoded l (record { number = n'; piece = p; closing = x; branches = b; entries = e })) g
    ∙ ap (λ (x : List ℕ). encoded l (record { number = n'; piece = p; closing = c'; branches = x; entries = e })) h

module _ (l number p members j count : ℕ) (branches taken entries : List ℕ) where
  abbrev made : List ℕ
  made =
      encoded l
      (record {
        number = suc (number + j);
        piece = p;
        closing = eqb (suc j) members;
        branches = cond (is_zero j) branches (at taken (count + (j - 1)) ∷ []);
        entries = entries;
      })

  listed_are : cond (is_zero j) branches (at taken (count + j - 1) ∷ []) ≡ cond (is_zero j) branches (at taken (count + (j - 1)) ∷ [])
  listed_are =
      ⊎_elim (λ (z : j ≡ 0). rw (eq-eqb j 0 z) refl)
      (λ (z : j ≡ 0 → ⊥). ap (λ (x : ℕ). cond (is_zero j) branches (at taken x ∷ [])) (let d : j ≡ 0 → ⊥ = z in let e : count + j - 1 ≡ count + (j - 1) = omega arith in e))
      (eq? j 0)

  pub listed_member : (listed : List ℕ) → listed ≡ cond (is_zero j) branches (at taken (count + j - 1) ∷ [])
      → encoded l (record { number = number + 1 + j; piece = p; closing = eqb (j + 1) members; branches = listed; entries = entries }) ≡ made
  listed_member listed e =
      same_sector l p (number + 1 + j) (suc (number + j)) (eqb (j + 1) members) (eqb (suc j) members) listed _ entries (omega arith)
      (ap (λ (x : ℕ). eqb x members) (add-one j)) (e ∙ listed_are)

-- No more branches than there is room for.
pub few_listed : (branches listed : List ℕ) (first : Bool) (last : ℕ) → length branches ≤ 24 → listed ≡ cond first branches (last ∷ []) → length listed ≤ 24
few_listed branches listed true last h e = subst (λ (xs : List ℕ). length xs ≤ 24) (sym e) h
few_listed branches listed false last h e = subst (λ (xs : List ℕ). length xs ≤ 24) (sym e) (omega arith)

module _ (s : State) (map blocks news taken branches written : List ℕ) (count members : ℕ) where
  abbrev pub stores : ℕ → Store
  stores = member_store s (tables_of map [] [] []) (plan_of branches written members count taken 0) (change_of blocks news count)

  -- The member that was stored, by its rank.
  pub member_stored : (p j : ℕ) (image image' : ℕ → List ℕ) → j ≡ count_below (flagged written) p
      → image'
      ≡ updated image (at taken (count + j))
      (encoded s.geometry.l
      (record {
        number = suc (s.number + j);
        piece = p;
        closing = eqb (suc j) members;
        branches = cond (is_zero j) branches (at taken (count + (j - 1)) ∷ []);
        entries = piece_entries s.geometry.l (updates (at map) (at blocks) (at news) (length blocks)) p;
      }))
      → image' ≡ updated image (stores p).sector (stores p).bytes
  unfolding member_store member_place rank member committed_tables changed_entries
  member_stored p j image image' e u =
      u
      ∙ ap (λ (x : ℕ).
      updated image (at taken (count + x))
      (encoded s.geometry.l
      (record {
        number = suc (s.number + x);
        piece = p;
        closing = eqb (suc x) members;
        branches = cond (is_zero x) branches (at taken (count + (x - 1)) ∷ []);
        entries = piece_entries s.geometry.l (updates (at map) (at blocks) (at news) (length blocks)) p;
      })))
      e

pub is_flagged : (written : List ℕ) (p : ℕ) → at written p ≡ 1 → flagged written p ≡ true
unfolding flagged
is_flagged written p e = eq-eqb (at written p) 1 e

pub not_flagged : (written : List ℕ) (p : ℕ) → (at written p ≡ 1 → ⊥) → flagged written p ≡ false
unfolding flagged
not_flagged written p d = ne_eqb (at written p) 1 d

pub rank_starts : (written : List ℕ) → 0 ≡ count_below (flagged written) 0
unfolding count_below
rank_starts written = refl

pub rank_skips : (written : List ℕ) (p j : ℕ) → flagged written p ≡ false → j ≡ count_below (flagged written) p → j ≡ count_below (flagged written) (p + 1)
rank_skips written p j d e = e ∙ sym (count_miss (flagged written) p d) ∙ ap (count_below (flagged written)) (sym (add-one p))

pub rank_grows : (written : List ℕ) (p j : ℕ) → flagged written p ≡ true → j ≡ count_below (flagged written) p → j + 1 ≡ count_below (flagged written) (p + 1)
rank_grows written p j e f =
    add-one j ∙ ap suc f ∙ sym (count_hit (flagged written) p e) ∙ ap (count_below (flagged written)) (sym (add-one p))

-- No block is behind the cursor of piece 0, and none is of a piece that is not flagged.
pub cursor_starts : (blocks : List ℕ) → ((i j : ℕ) → i < j → j < length blocks → at blocks i < at blocks j) → Cursor blocks 0 0
cursor_starts blocks up = record { ascending = up; most = omega arith; behind = λ i h. absurd (not-suc-le-zero h); ahead = λ i h b. omega arith }

pub cursor_skips : (blocks written : List ℕ) (p from : ℕ) → ((i : ℕ) → i < length blocks → flagged written (piece_of (at blocks i)) ≡ true)
    → flagged written p ≡ false → Cursor blocks p from → Cursor blocks (p + 1) from
cursor_skips blocks written p from touched d c =
    record {
      ascending = c.ascending;
      most = c.most;
      behind = λ i h. let low = c.behind i h in omega arith;
      ahead = λ i h b.
          let low = c.ahead i h b in
          ⊎_elim (λ (z : at blocks i < 96 * (p + 1)).
          let e : piece_of (at blocks i) ≡ p = omega arith in
          clash (flagged written p) (ap (flagged written) (sym e) ∙ touched i b) d)
          (λ (z : 96 * (p + 1) ≤ at blocks i). z) (lt? (at blocks i) (96 * (p + 1)));
    }

-- Data, then members.
module _ (s : State) (map blocks bytes news taken branches written : List ℕ) (count members allowance : ℕ) (before : ℕ → List ℕ) where
  abbrev datas : List Store
  datas = stores_below always (block_store taken bytes) count

  abbrev member_list : List Store
  member_list = stores_below (flagged written) (stores s map blocks news taken branches written count members) (pieces_for s.geometry.l)

  pub data_fails : (image : ℕ → List ℕ) (p r : Option ℕ) → p ≡ powered (count_below always count) allowance → p ≡ None → r ≡ None
      → image ≡ applied (take allowance datas) before
      → (r ≡ powered (length (datas ++ member_list)) allowance) × (image ≡ applied (take allowance (datas ++ member_list)) before)
  data_fails image p r e f g i =
      let both = first_fails datas member_list before image allowance (sym f ∙ e ∙ ap (λ (k : ℕ). powered k allowance) (sym (below_length always (block_store taken bytes) count))) i in
      (g ∙ both.0, both.1)

  pub members_run : (image mid : ℕ → List ℕ) (left : ℕ) (p : Option ℕ) → Some left ≡ powered (count_below always count) allowance
      → mid ≡ applied (take allowance datas) before → p ≡ powered (count_below (flagged written) (pieces_for s.geometry.l)) left
      → image ≡ applied (take left member_list) mid
      → (p ≡ powered (length (datas ++ member_list)) allowance) × (image ≡ applied (take allowance (datas ++ member_list)) before)
  members_run image mid left p e m f i =
      second_runs datas member_list before image allowance left mid p
      (e ∙ ap (λ (k : ℕ). powered k allowance) (sym (below_length always (block_store taken bytes) count))) m
      (f ∙ ap (λ (k : ℕ). powered k left) (sym (below_length (flagged written) (stores s map blocks news taken branches written count members) (pieces_for s.geometry.l)))) i
