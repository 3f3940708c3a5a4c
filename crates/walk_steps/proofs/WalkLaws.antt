-- The steps of a walk, and the sectors that it takes.
use Prim.Native.Nat.{ℕ, zero, suc, ◌+◌, ◌*◌, ◌≤◌, ◌<◌}
use mathlib.Core.Path.{◌≡◌, refl, sym, ◌∙◌, ap, subst, fun_ext}
use mathlib.Core.Logic.{⊎_elim}
use mathlib.Core.Bool.{Bool, true, false, cond, ◌&&◌}
use mathlib.Core.List.{List, [], ◌∷◌}
use mathlib.Core.Option.{Option, none, some}
use native.Mathlib.Numerals.{add-one}
use native.Mathlib.Omega.{arith}
use lib.ListN.{length, set, take, replicate, length-set, length-replicate}
use lib.Seq.{ext_get_or, get_or-set_same, get_or-set_other}
use lib.Dec.{eqb, ltb}
use borrow.Author.Tests.{eq-eqb, ne_eqb, eqb-false}
use Rattle.geometry.specs.declared.Geometry.{Geometry}
use Rattle.geometry.specs.Geometry.{sector_bytes, pieces_for, geometry_fits}
use Rattle.layout.specs.Bounded.{at, best, is_zero, list_from, updated}
use Rattle.layout.specs.Word.{words_of}
use Rattle.layout.specs.MapSector.{MapSector, View, valid, fields}
use Rattle.volume.specs.Tables.{sector_at}
use Rattle.volume.specs.Commit.{branches_in}
use Rattle.volume.specs.Recover.{number_in, piece_in, image_view, Walk, waiting_number, target_waits, targets_read, walk_step, walked_for, walk_from}
use Rattle.laws.proofs.Filling.{zeros_get}
use Rattle.laws.proofs.Bounded.{bool?, eq?, cond_true, cond_false, length_list_from, best_below, at_set}
use Rattle.soundness.proofs.Sounding.{blocks_most}
use Rattle.tournament.specs.Tournament.{ranked, key_at, Tournament, Replayed, Keyed}
use Rattle.tournament.proofs.TournamentLaws.{keyed_first}
use Rattle.signed.specs.Signed.{signed_at}
use Rattle.signed.proofs.Newest.{listed}
use Rattle.signed.proofs.ViewLaws.{is_valid, view_signed, view_unsigned, valid_piece}
use Rattle.targets.specs.Waiting.{walk_of, Waits, Put}
use Rattle.targets.proofs.TargetLaws.{rekeyed, put_ready, put_waits}

-- A sector with a number is signed.
pub number_signed : (g : Geometry) (image : ℕ → List ℕ) (k : ℕ) → (number_in (image_view g image k) ≡ 0 → ⊥) → signed_at g image k ≡ true
unfolding number_in
number_signed g image k d =
    ⊎_elim (λ (z : signed_at g image k ≡ true). z)
    (λ (z : signed_at g image k ≡ false). absurd (d (ap number_in (view_unsigned g image k z)))) (bool? (signed_at g image k))

-- What a call needs that goes to entry q of the tournament.
pub entry_ready : {pieces : ℕ} {view : View} {waiting tree taken : List ℕ} → Waits pieces view waiting tree taken → (q : ℕ) → q < pieces
    → (length tree ≡ 512) × ((length taken ≤ 256) × ((q < length taken) × Tournament (length taken) tree))
entry_ready {tree = tree} w q h =
    let few = w.few in
    let long = w.taken_long in
    (w.tree_long, (omega arith, (omega arith, subst (λ (n : ℕ). Tournament n tree) (sym long) w.keyed.tournament)))

-- A step, from the entry with the greatest key.
module _ (g : Geometry) (im waiting tree taken : List ℕ) (w : Waits (pieces_for g.l) (image_view g (sector_at im)) waiting tree taken) (p : ℕ) where
  abbrev view : View
  view = image_view g (sector_at im)

  abbrev now : Walk
  now = walk_of waiting taken

  abbrev number : ℕ
  number = waiting_number view now p

  abbrev Newest : Type 0
  Newest = p ≡ best (waiting_number view now) (pieces_for g.l)

  after : ℕ → Walk
  after q =
      targets_read view (number_in (view (at waiting q))) (record { waiting = updated (at waiting) q 0; taken = updated (at taken) q (at waiting q) })
      (branches_in (view (at waiting q)))

  step_is : Newest → walk_step (pieces_for g.l) view now ≡ cond (is_zero number) now (after p)
  unfolding walk_step after
  step_is e = ap (λ (q : ℕ). cond (is_zero (waiting_number view now q)) now (after q)) (sym e)

  module _ (pos : 0 < pieces_for g.l) (newest : p ≡ best (key_at (length taken) tree) (length taken)) (r : ℕ) (key : r ≡ key_at (length taken) tree p) where
    p_is : Newest
    p_is = newest ∙ ap (λ (n : ℕ). best (key_at n tree) n) w.taken_long ∙ keyed_first (pieces_for g.l) (waiting_number view now) tree w.keyed pos

    p_inside : p < pieces_for g.l
    p_inside = subst (λ (x : ℕ). x < pieces_for g.l) (sym p_is) (best_below (waiting_number view now) (pieces_for g.l) pos)

    key_is : r ≡ number
    key_is = key ∙ ap (λ (n : ℕ). key_at n tree p) w.taken_long ∙ w.keyed.keys p p_inside

    pub step_none : r ≡ 0 → (now ≡ walk_step (pieces_for g.l) view now) × Waits (pieces_for g.l) view waiting tree taken
    step_none z = (sym (step_is p_is ∙ cond_true (is_zero number) now (after p) (eq-eqb number 0 (sym key_is ∙ z))), w)

    pub step_ready : length im ≡ sector_bytes * g.n → (r ≡ 0 → ⊥)
        → (length im ≡ sector_bytes * g.n) × (Waits (pieces_for g.l) view waiting tree taken × ((p < pieces_for g.l) × (Newest × (number ≡ 0 → ⊥))))
    step_ready sized d = (sized, (w, (p_inside, (p_is, λ (z : number ≡ 0). d (key_is ∙ z)))))

  -- What waits there as the newest, and its number.
  module _ (i : p < pieces_for g.l) (d : number ≡ 0 → ⊥) where
    waits : at waiting p ≡ 0 → ⊥
    waits z = d (cond_true (is_zero (at waiting p)) 0 (number_in (view (at waiting p))) (eq-eqb (at waiting p) 0 z))

    newest_signed : signed_at g (sector_at im) (at waiting p) ≡ true
    newest_signed =
        number_signed g (sector_at im) (at waiting p)
        (λ (z : number_in (view (at waiting p)) ≡ 0). d (cond_false (is_zero (at waiting p)) 0 (number_in (view (at waiting p))) (ne_eqb (at waiting p) 0 waits) ∙ z))

    -- Once taken, it no longer waits.
    done_waits : (tree' : List ℕ) → length tree' ≡ length tree
        → Replayed (length taken) (set tree (length taken + p) (ranked (length taken) p 0)) tree'
        → Waits (pieces_for g.l) view (set waiting p 0) tree' (set taken p (at waiting p))
    done_waits tree' long replayed =
        let a = w.waiting_long in
        record {
          few = w.few;
          waiting_long = length-set waiting p 0 ∙ a;
          tree_long = long ∙ w.tree_long;
          taken_long = length-set taken p (at waiting p) ∙ w.taken_long;
          keyed = rekeyed (length taken) (pieces_for g.l) p 0 (waiting_number view now) (waiting_number view (walk_of (set waiting p 0) (set taken p (at waiting p))))
              tree tree' w.taken_long w.few i w.tree_long w.keyed replayed
              (λ j h.
              ⊎_elim (λ (z : j ≡ p).
              cond_true (eqb j p) 0 (waiting_number view now j) (eq-eqb j p z)
              ∙ sym (cond_true (is_zero (at (set waiting p 0) j)) 0 (number_in (view (at (set waiting p 0) j)))
              (eq-eqb (at (set waiting p 0) j) 0 (ap (at (set waiting p 0)) z ∙ get_or-set_same waiting p 0 0 (omega arith)))))
              (λ (z : j ≡ p → ⊥).
              cond_false (eqb j p) 0 (waiting_number view now j) (ne_eqb j p z)
              ∙ ap (λ (x : ℕ). cond (is_zero x) 0 (number_in (view x))) (sym (get_or-set_other waiting p j 0 0 z))) (eq? j p));
        }

    pub read_ready : length im ≡ sector_bytes * g.n → (tree' : List ℕ) → length tree' ≡ length tree
        → Replayed (length taken) (set tree (length taken + p) (ranked (length taken) p 0)) tree'
        → (length im ≡ sector_bytes * g.n)
        × ((signed_at g (sector_at im) (at waiting p) ≡ true) × Waits (pieces_for g.l) view (set waiting p 0) tree' (set taken p (at waiting p)))
    read_ready sized tree' long replayed = (sized, (newest_signed, done_waits tree' long replayed))

    pub step_some : Newest → (end : Walk)
        → end ≡ targets_read view (number_in (view (at waiting p))) (walk_of (set waiting p 0) (set taken p (at waiting p))) (branches_in (view (at waiting p)))
        → end ≡ walk_step (pieces_for g.l) view now
    unfolding after
    step_some newest end e =
        let a = w.waiting_long in
        let t = w.taken_long in
        e
        ∙ ap (λ (f : ℕ → ℕ). targets_read view (number_in (view (at waiting p))) (record { waiting = f; taken = at (set taken p (at waiting p)) }) (branches_in (view (at waiting p))))
        (at_set waiting p 0 (omega arith))
        ∙ ap (λ (f : ℕ → ℕ). targets_read view (number_in (view (at waiting p))) (record { waiting = updated (at waiting) p 0; taken = f }) (branches_in (view (at waiting p))))
        (at_set taken p (at waiting p) (omega arith))
        ∙ sym (step_is newest ∙ cond_false (is_zero number) now (after p) (ne_eqb number 0 d))

-- So many steps.
module _ (pieces : ℕ) (view : View) (start : Walk) where
  pub walked_none : start ≡ walked_for pieces view start 0
  unfolding walked_for
  walked_none = refl

  pub walked_more : (w w' : Walk) (steps : ℕ) → w ≡ walked_for pieces view start steps → w' ≡ walk_step pieces view w → w' ≡ walked_for pieces view start (steps + 1)
  unfolding walked_for
  walked_more w w' steps e f = f ∙ ap (walk_step pieces view) e ∙ sym (ap (walked_for pieces view start) (add-one steps))

  pub walked_all : (w : Walk) (steps m : ℕ) → m ≡ pieces → steps ≤ m → m ≤ steps → w ≡ walked_for pieces view start steps → w ≡ walked_for pieces view start pieces
  walked_all w steps m e a b f = let same : steps ≡ pieces = omega arith in f ∙ ap (walked_for pieces view start) same

-- The tail alone waits.
module _ (g : Geometry) (image : ℕ → List ℕ) (tail : ℕ) (low : 1 ≤ tail) (e : signed_at g image tail ≡ true) (s : List ℕ) (is : s ≡ image tail)
    (waiting tree taken : List ℕ) (w : Waits (pieces_for g.l) (image_view g image) waiting tree taken) where
  tail_valid : valid g s (words_of s) ≡ true
  tail_valid = ap (λ (x : List ℕ). valid g x (words_of x)) is ∙ is_valid g image tail e

  tail_says : image_view g image tail ≡ some (fields (words_of s))
  tail_says = view_signed g image tail e ∙ ap (λ (x : List ℕ). some (fields (words_of x))) (sym is)

  pub start_ready : length s ≡ 512
      → (length s ≡ 512) × ((at (words_of s) 4 < length waiting) × ((length waiting ≤ 256) × ((length tree ≡ 512) × Tournament (length waiting) tree)))
  start_ready size = put_ready g (image_view g image) waiting tree taken w s tail_valid size

  module _ (waiting' tree' : List ℕ) (done : Put s tail waiting tree waiting' tree') (kept : length tree' ≡ length tree) where
    begun : (walk_of waiting' taken ≡ record { waiting = updated (at waiting) (at (words_of s) 4) tail; taken = at taken })
        × Waits (pieces_for g.l) (image_view g image) waiting' tree' taken
    begun = put_waits g (image_view g image) waiting tree taken w s tail_valid tail low tail_says waiting' tree' done kept

    pub start_waits : (0 < pieces_for g.l) × Waits (pieces_for g.l) (image_view g image) waiting' tree' taken
    start_waits = let i = valid_piece g image s tail_valid in (omega arith, begun.1)

    module _ (none_waits : waiting ≡ replicate (pieces_for g.l) 0) (none_taken : taken ≡ replicate (pieces_for g.l) 0) where
      all_zero : (xs : List ℕ) → xs ≡ replicate (pieces_for g.l) 0 → at xs ≡ (λ _. 0)
      all_zero xs f = ap (λ (ys : List ℕ). at ys) f ∙ fun_ext (zeros_get (pieces_for g.l))

      start_is : walk_of waiting' taken ≡ record { waiting = updated (λ _. 0) (piece_in (image_view g image tail)) tail; taken = λ _. 0 }
      unfolding piece_in
      start_is =
          begun.0
          ∙ ap (λ (f : ℕ → ℕ). record { waiting = updated f (at (words_of s) 4) tail; taken = at taken }) (all_zero waiting none_waits)
          ∙ ap (λ (f : ℕ → ℕ). record { waiting = updated (λ _. 0) (at (words_of s) 4) tail; taken = f }) (all_zero taken none_taken)
          ∙ ap (λ (q : ℕ). record { waiting = updated (λ _. 0) q tail; taken = λ _. 0 }) (sym (ap piece_in tail_says))

      pub walk_is : (waiting'' taken'' : List ℕ) → length taken'' ≡ length taken
          → walk_of waiting'' taken'' ≡ walked_for (pieces_for g.l) (image_view g image) (walk_of waiting' taken) (pieces_for g.l)
          → taken'' ≡ list_from (walk_from (pieces_for g.l) (image_view g image) tail) 0 (pieces_for g.l)
      unfolding walk_from
      walk_is waiting'' taken'' same-long f =
          let long : length taken'' ≡ pieces_for g.l = same-long ∙ w.taken_long in
          let same : at taken'' ≡ walk_from (pieces_for g.l) (image_view g image) tail =
          ap (λ (x : Walk). x.taken) (f ∙ ap (λ (x : Walk). walked_for (pieces_for g.l) (image_view g image) x (pieces_for g.l)) start_is) in
          ext_get_or 0 taken'' (list_from (walk_from (pieces_for g.l) (image_view g image) tail) 0 (pieces_for g.l))
          (long ∙ sym (length_list_from (walk_from (pieces_for g.l) (image_view g image) tail) 0 (pieces_for g.l)))
          (λ i h. ap (λ (u : ℕ → ℕ). u i) same ∙ sym (listed (walk_from (pieces_for g.l) (image_view g image) tail) (pieces_for g.l) i (omega arith)))

-- Nothing waits and nothing is taken yet, in arrays as long as there are pieces.
zeros_part : (n m : ℕ) → n ≤ m → take n (replicate {A = ℕ} m 0) ≡ replicate n 0
zeros_part zero m h = refl
zeros_part (suc n) zero h = absurd (omega arith)
zeros_part (suc n) (suc m) h = ap (λ (xs : List ℕ). 0 ∷ xs) (zeros_part n m (omega arith))

module _ (g : Geometry) (fits : geometry_fits g ≡ true) (taken : List ℕ) (none_taken : taken ≡ replicate (pieces_for g.l) 0) where
  taken_long_lem : length taken ≡ pieces_for g.l
  taken_long_lem = ap length none_taken ∙ length-replicate (pieces_for g.l) 0

  pub few_taken : length taken ≤ 256
  few_taken = let long = taken_long_lem in let most = blocks_most g fits in omega arith

  none_waits : take (length taken) (replicate {A = ℕ} 256 0) ≡ replicate (pieces_for g.l) 0
  none_waits = zeros_part (length taken) 256 few_taken ∙ ap (λ (n : ℕ). replicate n 0) taken_long_lem

  no_number : (view : View) (q : ℕ) → waiting_number view (walk_of (take (length taken) (replicate {A = ℕ} 256 0)) taken) q ≡ 0
  no_number view q =
      let k = at (take (length taken) (replicate {A = ℕ} 256 0)) q in
      cond_true (is_zero k) 0 (number_in (view k)) (eq-eqb k 0 (ap (λ (xs : List ℕ). at xs q) none_waits ∙ zeros_get (pieces_for g.l) q))

  pub none_wait : (view : View) (tree : List ℕ) → length tree ≡ 512 → Keyed (length taken) (λ _. 0) tree
      → (take (length taken) (replicate {A = ℕ} 256 0) ≡ replicate (pieces_for g.l) 0)
      × ((taken ≡ replicate (pieces_for g.l) 0) × Waits (pieces_for g.l) view (take (length taken) (replicate {A = ℕ} 256 0)) tree taken)
  none_wait view tree room keyed =
      let long = taken_long_lem in
      let few = few_taken in
      let all : Keyed (pieces_for g.l) (λ _. 0) tree = subst (λ (n : ℕ). Keyed n (λ _. 0) tree) long keyed in (
        none_waits,
        (
          none_taken,
          record {
            few = omega arith;
            waiting_long = ap length none_waits ∙ length-replicate (pieces_for g.l) 0;
            tree_long = room;
            taken_long = long;
            keyed = record { tournament = all.tournament; keys = λ q h. all.keys q h ∙ sym (no_number view q) };
          },
        ),
      )

-- What a walk takes is signed.
module _ (pieces : ℕ) (view : View) where
  Taken : Walk → Type 0
  Taken w = (q : ℕ) → (w.taken q ≡ 0 → ⊥) → number_in (view (w.taken q)) ≡ 0 → ⊥

  read_kept : (holder : ℕ) (w : Walk) (target : ℕ) (o : Option MapSector) → (target_waits view holder w target o).taken ≡ w.taken
  unfolding target_waits
  read_kept holder w target none = refl
  read_kept holder w target (some m) =
      go (ltb m.number holder && is_zero (w.taken m.piece) && ltb (waiting_number view w m.piece) m.number)
    where
      go : (b : Bool) → (cond {A = Walk} b (record { waiting = updated w.waiting m.piece target; taken = w.taken }) w).taken ≡ w.taken
      go true = refl
      go false = refl

  reads_kept : (holder : ℕ) (w : Walk) (ts : List ℕ) → (targets_read view holder w ts).taken ≡ w.taken
  unfolding targets_read
  reads_kept holder w [] = refl
  reads_kept holder w (t ∷ ts) = reads_kept holder (target_waits view holder w t (view t)) ts ∙ read_kept holder w t (view t)

  step_taken : (w : Walk) → Taken w → Taken (walk_step pieces view w)
  unfolding walk_step Taken
  step_taken w h =
      let p = best (waiting_number view w) pieces in
      let k = w.waiting p in
      let done : Walk = record { waiting = updated w.waiting p 0; taken = updated w.taken p k } in
      let read : Walk = targets_read view (number_in (view k)) done (branches_in (view k)) in
      ⊎_elim (λ (z : is_zero (waiting_number view w p) ≡ true).
      subst Taken (sym (cond_true (is_zero (waiting_number view w p)) w read z)) h)
      (λ (z : is_zero (waiting_number view w p) ≡ false).
      subst Taken (sym (cond_false (is_zero (waiting_number view w p)) w read z))
      (λ q d. subst (λ (f : ℕ → ℕ). (f q ≡ 0 → ⊥) → number_in (view (f q)) ≡ 0 → ⊥) (sym (reads_kept (number_in (view k)) done (branches_in (view k))))
      (λ d' y.
      ⊎_elim (λ (x : q ≡ p).
      fresh w p z (ap (λ (v : ℕ). number_in (view v)) (sym (cond_true (eqb q p) k (w.taken q) (eq-eqb q p x))) ∙ y))
      (λ (x : q ≡ p → ⊥).
      let same : updated w.taken p k q ≡ w.taken q = cond_false (eqb q p) k (w.taken q) (ne_eqb q p x) in
      h q (λ (v : w.taken q ≡ 0). d' (same ∙ v)) (ap (λ (v : ℕ). number_in (view v)) (sym same) ∙ y)) (eq? q p)) d))
      (bool? (is_zero (waiting_number view w p)))
    where
      fresh : (w : Walk) (p : ℕ) → is_zero (waiting_number view w p) ≡ false → number_in (view (w.waiting p)) ≡ 0 → ⊥
      fresh w p z y = eqb-false (waiting_number view w p) 0 z (go (is_zero (w.waiting p)))
        where
          go : (b : Bool) → cond b 0 (number_in (view (w.waiting p))) ≡ 0
          go true = refl
          go false = y

  walked_taken : (w : Walk) → Taken w → (steps : ℕ) → Taken (walked_for pieces view w steps)
  unfolding walked_for
  walked_taken w h zero = h
  walked_taken w h (suc steps) = step_taken (walked_for pieces view w steps) (walked_taken w h steps)

  pub walk_signed : (tail q : ℕ) → (walk_from pieces view tail q ≡ 0 → ⊥) → number_in (view (walk_from pieces view tail q)) ≡ 0 → ⊥
  unfolding walk_from Taken
  walk_signed tail q =
      walked_taken (record { waiting = updated (λ _. 0) (piece_in (view tail)) tail; taken = λ _. 0 }) (λ j d. absurd (d refl)) pieces q
