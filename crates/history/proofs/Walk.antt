-- The walk of a parked volume finds the same log as the scan: each step takes the newest live map sector that is not done.
use Prim.Native.Nat.{ℕ, zero, suc, ◌-◌, ◌≤◌, ◌<◌}
use mathlib.Core.Path.{◌≡◌, refl, sym, ◌∙◌, ap, subst}
use mathlib.Core.Logic.{◌⊎◌, inl, inr, ⊎_elim}
use mathlib.Core.Bool.{Bool, true, false, cond, ◌&&◌, true≢false}
use mathlib.Core.List.{List, [], ◌∷◌}
use mathlib.Core.Option.{Option, none, some}
use native.Mathlib.Omega.{arith}
use lib.Dec.{ltb}
use borrow.Author.Tests.{lt-ltb, ltb-true, eq-eqb, ne_eqb, eqb-true}
use Rattle.geometry.specs.declared.Geometry.{Geometry}
use Rattle.geometry.specs.Geometry.{pieces_for}
use Rattle.layout.specs.Bounded.{best, count_below, elem, is_zero, updated}
use Rattle.layout.specs.MapSector.{MapSector, View}
use Rattle.volume.specs.Tables.{Tables}
use Rattle.volume.specs.Commit.{branches_in}
use Rattle.volume.specs.Recover.{number_in, piece_in, Walk, waiting_number, target_waits, targets_read, walk_step, walked_for, walk_from, image_view}
use Rattle.history.specs.History.{Disk, Reaches, itself, through}
use Rattle.laws.proofs.Bounded.{bool?, lt?, eq?, clash, and_l, and_r, and_i, cond_true, cond_false, updated_here, updated_other, elem_cons, best_unique, best_below, best_most, count_less, count_some, count_before, count_le}
use Rattle.laws.proofs.Names.{piece}
use Rattle.laws.proofs.Sizes.{Fits, some_pieces}
use Rattle.history.proofs.Invariant.{Committed, Settled, reaches_below}
use Rattle.history.proofs.Scan.{option?, tail_says}

module _ (g : Geometry) (image : ℕ → List ℕ) (t : Tables) (tail number : ℕ) (disk : Disk) (fit : Fits g)
    (settled : Settled g image t tail number disk) where
  abbrev view : View
  view = image_view g image

  abbrev c : Committed g image t tail number disk
  c = settled.committed

  place_some : (p : ℕ) → p < pieces_for g.l → t.place p ≡ 0 → ⊥
  place_some p h e = let low = c.ground.agreed.sound.low (piece p) h in omega arith

  live_number : (p : ℕ) → p < pieces_for g.l → number_in (image_view g image (t.place p)) ≡ t.number p
  unfolding number_in
  live_number p h = let w = c.ground.agreed.live p h in ap number_in w.1 ∙ w.3

  -- Done pieces have their live sector; what waits is of its piece, not newer than the piece's live one, and not done.
  record Good (w : Walk) : Type 0 where
    done_live : (p : ℕ) → (w.taken p ≡ 0 → ⊥) → w.taken p ≡ t.place p
    waits : (p : ℕ) → (w.waiting p ≡ 0 → ⊥)
        → (a : MapSector) × (image_view g image (w.waiting p) ≡ some a) × (a.piece ≡ p) × (a.number ≤ t.number p) × (w.taken p ≡ 0)

  Ready : Walk → ℕ → Type 0
  Ready w q = (w.taken q ≡ 0 → ⊥) ⊎ (w.waiting q ≡ t.place q)

  abbrev waits? : Walk → ℕ → MapSector → Bool
  waits? w holder m = ltb m.number holder && is_zero (w.taken m.piece) && ltb (waiting_number view w m.piece) m.number

  abbrev next : Walk → ℕ → MapSector → Walk
  next w target m = record { waiting = updated w.waiting m.piece target; taken = w.taken }

  reads_none : (holder : ℕ) (w : Walk) (target : ℕ) → image_view g image target ≡ none → target_waits view holder w target (view target) ≡ w
  unfolding target_waits
  reads_none holder w target e = ap (target_waits view holder w target) e

  reads_kept : (holder : ℕ) (w : Walk) (target : ℕ) (m : MapSector) → image_view g image target ≡ some m → waits? w holder m ≡ false
      → target_waits view holder w target (view target) ≡ w
  unfolding target_waits
  reads_kept holder w target m e b = ap (target_waits view holder w target) e ∙ cond_false (waits? w holder m) (next w target m) w b

  reads_new : (holder : ℕ) (w : Walk) (target : ℕ) (m : MapSector) → image_view g image target ≡ some m → waits? w holder m ≡ true
      → target_waits view holder w target (view target) ≡ next w target m
  unfolding target_waits
  reads_new holder w target m e b = ap (target_waits view holder w target) e ∙ cond_true (waits? w holder m) (next w target m) w b

  -- Three ways for a target that is read.
  Read : ℕ → Walk → ℕ → Type 0
  Read holder w target =
      ((target_waits view holder w target (view target) ≡ w) × ((m : MapSector) → image_view g image target ≡ some m → waits? w holder m ≡ false))
      ⊎ ((m : MapSector) × (image_view g image target ≡ some m) × (waits? w holder m ≡ true)
      × (target_waits view holder w target (view target) ≡ next w target m))

  read? : (holder : ℕ) (w : Walk) (target : ℕ) → Read holder w target
  unfolding Read
  read? holder w target =
      ⊎_elim (λ (e : image_view g image target ≡ none).
      inl (reads_none holder w target e, λ m q. let z : ◌≡◌ {A = ℕ} 0 1 = cc in absurd (omega arith)))
      (λ v.
      ⊎_elim (λ (b : waits? w holder v.0 ≡ true). inr (v.0, v.1, b, reads_new holder w target v.0 v.1 b))
      (λ (b : waits? w holder v.0 ≡ false).
      inl (
        reads_kept holder w target v.0 v.1 b,
        λ m q. let same : m ≡ v.0 = cc in subst (λ (x : MapSector). waits? w holder x ≡ false) (sym same) b,
      ))
      (bool? (waits? w holder v.0)))
      (option? (image_view g image target))

  waits_2 : (w : Walk) (holder : ℕ) (m : MapSector) → waits? w holder m ≡ true → w.taken m.piece ≡ 0
  waits_2 w holder m e =
      eqb-true (w.taken m.piece) 0
      (and_r (ltb m.number holder) (is_zero (w.taken m.piece))
      (and_l (ltb m.number holder && is_zero (w.taken m.piece)) (ltb (waiting_number view w m.piece) m.number) e))

  waits_3 : (w : Walk) (holder : ℕ) (m : MapSector) → waits? w holder m ≡ true → waiting_number view w m.piece < m.number
  waits_3 w holder m e =
      ltb-true (waiting_number view w m.piece) m.number
      (and_r (ltb m.number holder && is_zero (w.taken m.piece)) (ltb (waiting_number view w m.piece) m.number) e)

  -- The number of what waits.
  waiting_is : (w : Walk) (p : ℕ) (a : MapSector) → (w.waiting p ≡ 0 → ⊥) → image_view g image (w.waiting p) ≡ some a → waiting_number view w p ≡ a.number
  unfolding number_in
  waiting_is w p a d e = cond_false (is_zero (w.waiting p)) 0 (number_in (view (w.waiting p))) (ne_eqb (w.waiting p) 0 d) ∙ ap number_in e

  waiting_live : (w : Walk) (q : ℕ) → q < pieces_for g.l → w.waiting q ≡ t.place q → waiting_number view w q ≡ t.number q
  waiting_live w q h e =
      let v = c.ground.agreed.live q h in
      waiting_is w q v.0 (λ (z : w.waiting q ≡ 0). place_some q h (sym e ∙ z)) (ap view e ∙ v.1) ∙ v.3

  next_good : (w : Walk) (holder target : ℕ) (m : MapSector) → Good w → image_view g image target ≡ some m → waits? w holder m ≡ true → Good (next w target m)
  next_good w holder target m good e b =
      record {
        done_live = good.done_live;
        waits = λ p d.
            ⊎_elim (λ (z : p ≡ m.piece).
            let here : updated w.waiting m.piece target p ≡ target = ap (updated w.waiting m.piece target) z ∙ updated_here w.waiting m.piece target in (
              m,
              ap view here ∙ e,
              sym z,
              subst (λ (x : ℕ). m.number ≤ t.number x) (sym z) (c.latest target m e (settled.none_above target m e)),
              ap w.taken z ∙ waits_2 w holder m b,
            ))
            (λ (z : p ≡ m.piece → ⊥).
            let same = updated_other w.waiting m.piece p target z in
            let v = good.waits p (λ (y : w.waiting p ≡ 0). d (same ∙ y)) in
            (v.0, ap view same ∙ v.1, v.2, v.3, v.4))
            (eq? p m.piece);
      }

  -- What waits with its live sector keeps it.
  next_ready : (w : Walk) (holder target : ℕ) (m : MapSector) → image_view g image target ≡ some m → waits? w holder m ≡ true
      → (q : ℕ) → q < pieces_for g.l → Ready w q → Ready (next w target m) q
  unfolding Ready
  next_ready w holder target m e b q h r =
      ⊎_elim inl
      (λ (z : w.waiting q ≡ t.place q).
      inr (updated_other w.waiting m.piece q target
      (λ (y : q ≡ m.piece).
      let a = waiting_live w q h z in
      let k = waits_3 w holder m b in
      let k' : waiting_number view w q < m.number = subst (λ (x : ℕ). waiting_number view w x < m.number) (sym y) k in
      let u = c.latest target m e (settled.none_above target m e) in
      let u' : m.number ≤ t.number q = subst (λ (x : ℕ). m.number ≤ t.number x) (sym y) u in
      omega arith) ∙ z))
      r

  -- A live target with a lower number is ready once it is read.
  target_ready : (holder : ℕ) (w : Walk) → Good w → (q : ℕ) → q < pieces_for g.l → t.number q < holder
      → Ready (target_waits view holder w (t.place q) (view (t.place q))) q
  unfolding Ready Read
  target_ready holder w good q h lower =
      let v = c.ground.agreed.live q h in
      let m = v.0 in
      let piece_is : m.piece ≡ q = v.2 in
      let number_is : m.number ≡ t.number q = v.3 in
      ⊎_elim (λ r.
      let no = r.1 m v.1 in
      ⊎_elim (λ (z : w.taken q ≡ 0).
      ⊎_elim (λ (y : waiting_number view w q < t.number q).
      clash (waits? w holder m)
      (and_i (ltb m.number holder && is_zero (w.taken m.piece)) (ltb (waiting_number view w m.piece) m.number)
      (and_i (ltb m.number holder) (is_zero (w.taken m.piece)) (lt-ltb m.number holder (omega arith))
      (eq-eqb (w.taken m.piece) 0 (ap w.taken piece_is ∙ z)))
      (lt-ltb (waiting_number view w m.piece) m.number
      (subst (λ (x : ℕ). waiting_number view w x < m.number) (sym piece_is) (let u : waiting_number view w q < m.number = omega arith in u))))
      no)
      (λ (y : t.number q ≤ waiting_number view w q).
      inr (subst (λ (x : Walk). x.waiting q ≡ t.place q) (sym r.0) (already q h y)))
      (lt? (waiting_number view w q) (t.number q)))
      (λ (z : w.taken q ≡ 0 → ⊥). inl (subst (λ (x : Walk). x.taken q ≡ 0 → ⊥) (sym r.0) z)) (eq? (w.taken q) 0))
      (λ r.
      let same : r.0 ≡ m = let a = r.1 in let b = v.1 in cc in
      let at : r.0.piece ≡ q = ap (λ (x : MapSector). x.piece) same ∙ piece_is in
      inr (subst (λ (x : Walk). x.waiting q ≡ t.place q) (sym r.3)
      (ap (updated w.waiting r.0.piece (t.place q)) (sym at) ∙ updated_here w.waiting r.0.piece (t.place q))))
      (read? holder w (t.place q))
    where
      already : (q : ℕ) → q < pieces_for g.l → t.number q ≤ waiting_number view w q → w.waiting q ≡ t.place q
      already q h y =
          let low = c.ground.agreed.sound.from1 q h in
          ⊎_elim (λ (z : w.waiting q ≡ 0).
          let e : waiting_number view w q ≡ 0 = cond_true (is_zero (w.waiting q)) 0 (number_in (view (w.waiting q))) (eq-eqb (w.waiting q) 0 z) in
          absurd (omega arith))
          (λ (z : w.waiting q ≡ 0 → ⊥).
          let v = good.waits q z in
          let u = c.ground.agreed.live q h in
          let a = waiting_is w q v.0 z v.1 in
          let b = v.3 in
          let d = u.3 in
          c.apart (w.waiting q) (t.place q) v.0 u.0 v.1 u.1 (omega arith))
          (eq? (w.waiting q) 0)

  -- A list of targets read: nothing that is done changes, what was ready stays so, and each live target becomes ready.
  record Goes (holder : ℕ) (xs : List ℕ) (w r : Walk) : Type 0 where
    good : Good r
    taken : r.taken ≡ w.taken
    kept : (q : ℕ) → q < pieces_for g.l → Ready w q → Ready r q
    reads : (q : ℕ) → q < pieces_for g.l → elem (t.place q) xs ≡ true → t.number q < holder → Ready r q

  one_read : (holder target : ℕ) (w : Walk) → Good w → Goes holder (target ∷ []) w (target_waits view holder w target (view target))
  unfolding Read elem
  one_read holder target w good =
      let after : Goes holder [] w (target_waits view holder w target (view target)) =
      ⊎_elim (λ r.
      subst (λ (x : Walk). Goes holder [] w x) (sym r.0)
      (record { good = good; taken = refl; kept = λ q h z. z; reads = λ q h e. absurd (true≢false (sym e)) }))
      (λ r.
      subst (λ (x : Walk). Goes holder [] w x) (sym r.3)
      (record {
        good = next_good w holder target r.0 good r.1 r.2;
        taken = refl;
        kept = next_ready w holder target r.0 r.1 r.2;
        reads = λ q h e. absurd (true≢false (sym e));
      }))
      (read? holder w target) in
      record {
        good = after.good;
        taken = after.taken;
        kept = after.kept;
        reads = λ q h e lower.
            ⊎_elim (λ (z : t.place q ≡ target).
            subst (λ (k : ℕ). Ready (target_waits view holder w k (view k)) q) z (target_ready holder w good q h lower))
            (λ (z : elem (t.place q) [] ≡ true). absurd (true≢false (sym z))) (elem_cons (t.place q) target [] e);
      }

  all_read : (holder : ℕ) (xs : List ℕ) (w : Walk) → Good w → Goes holder xs w (targets_read view holder w xs)
  unfolding targets_read elem
  all_read holder [] w good = record { good = good; taken = refl; kept = λ q h z. z; reads = λ q h e. absurd (true≢false (sym e)) }
  all_read holder (x ∷ xs) w good =
      let one = one_read holder x w good in
      let rest = all_read holder xs (target_waits view holder w x (view x)) one.good in
      record {
        good = rest.good;
        taken = rest.taken ∙ one.taken;
        kept = λ q h z. rest.kept q h (one.kept q h z);
        reads = λ q h e lower.
            ⊎_elim (λ (z : t.place q ≡ x). rest.kept q h (one.reads q h (rw z (here x)) lower))
            (λ (z : elem (t.place q) xs ≡ true). rest.reads q h z lower) (elem_cons (t.place q) x xs e);
      }
    where
      here : (k : ℕ) → elem k (k ∷ []) ≡ true
      here k = rw (eq-eqb k k refl) refl

  -- Between steps.
  record Between (w : Walk) : Type 0 where
    good : Good w
    links : (p : ℕ) → p < pieces_for g.l → (w.taken p ≡ 0 → ⊥) → (q : ℕ) → q < pieces_for g.l
        → elem (t.place q) (branches_in (view (t.place p))) ≡ true → t.number q < t.number p → Ready w q
    starts : (p : ℕ) → p < pieces_for g.l → t.place p ≡ tail → Ready w p

  undone : Walk → ℕ → Bool
  undone w p = is_zero (w.taken p)

  -- The newest live sector that is not done is ready, since whatever leads to it is newer.
  newest_ready : (w : Walk) → Between w → (top : ℕ) → ((p : ℕ) → p < pieces_for g.l → w.taken p ≡ 0 → t.number p ≤ t.number top)
      → Reaches view t.place (pieces_for g.l) tail top → Ready w top
  unfolding branches_in
  newest_ready w b top most (itself h e v) = b.starts top h e
  newest_ready w b top most (through {q = q} {a = a} {b = m} r e h f v lt) =
      let hq = reaches_below r in
      let lq = c.ground.agreed.live q hq in
      let lt' = c.ground.agreed.live top h in
      let na : a.number ≡ t.number q = (let same : a ≡ lq.0 = let x = lq.1 in cc in ap (λ (x : MapSector). x.number) same ∙ lq.3) in
      let nb : m.number ≡ t.number top = (let same : m ≡ lt'.0 = let x = lt'.1 in cc in ap (λ (x : MapSector). x.number) same ∙ lt'.3) in
      b.links q hq (λ (z : w.taken q ≡ 0). let x = most q hq z in omega arith) top h
      (subst (λ (o : Option MapSector). elem (t.place top) (branches_in o) ≡ true) (sym e) f) (omega arith)

  -- One step, where some piece is not done.
  step_key : Walk → ℕ → ℕ
  step_key w p = cond (is_zero (w.taken p)) (t.number p) 0

  module _ (w : Walk) (b : Between w) (p0 : ℕ) (h0 : p0 < pieces_for g.l) (u0 : w.taken p0 ≡ 0) where
    top : ℕ
    top = best (step_key w) (pieces_for g.l)

    key_undone : (p : ℕ) → w.taken p ≡ 0 → step_key w p ≡ t.number p
    unfolding step_key
    key_undone p e = cond_true (is_zero (w.taken p)) (t.number p) 0 (eq-eqb (w.taken p) 0 e)

    top_below : top < pieces_for g.l
    unfolding top
    top_below = best_below (step_key w) (pieces_for g.l) (omega arith)

    top_undone : w.taken top ≡ 0
    unfolding top step_key
    top_undone =
        let most = best_most (step_key w) (pieces_for g.l) p0 h0 in
        let key = key_undone p0 u0 in
        let low = c.ground.agreed.sound.from1 p0 h0 in
        ⊎_elim (λ (z : w.taken top ≡ 0). z)
        (λ (z : w.taken top ≡ 0 → ⊥).
        let e : step_key w top ≡ 0 = cond_false (is_zero (w.taken top)) (t.number top) 0 (ne_eqb (w.taken top) 0 z) in
        absurd (omega arith))
        (eq? (w.taken top) 0)

    top_most : (p : ℕ) → p < pieces_for g.l → w.taken p ≡ 0 → t.number p ≤ t.number top
    unfolding top
    top_most p h e =
        let most = best_most (step_key w) (pieces_for g.l) p h in
        let a = key_undone p e in
        let d = key_undone top top_undone in
        omega arith

    top_waits : w.waiting top ≡ t.place top
    unfolding Ready
    top_waits =
        ⊎_elim (λ (z : w.taken top ≡ 0 → ⊥). absurd (z top_undone)) (λ z. z)
        (newest_ready w b top top_most (c.ground.chain top top_below))

    top_number : waiting_number view w top ≡ t.number top
    top_number = waiting_live w top top_below top_waits

    chooses : best (waiting_number view w) (pieces_for g.l) ≡ top
    chooses =
        best_unique (waiting_number view w) (pieces_for g.l) top top_below
        (λ r h d.
        let low = c.ground.agreed.sound.from1 top top_below in
        let num = top_number in
        ⊎_elim (λ (z : w.waiting r ≡ 0).
        let e : waiting_number view w r ≡ 0 = cond_true (is_zero (w.waiting r)) 0 (number_in (view (w.waiting r))) (eq-eqb (w.waiting r) 0 z) in
        omega arith)
        (λ (z : w.waiting r ≡ 0 → ⊥).
        let v = b.good.waits r z in
        let x = waiting_is w r v.0 z v.1 in
        let y = v.3 in
        let m = top_most r h v.4 in
        ⊎_elim (λ (k : t.number r ≡ t.number top). absurd (d (c.ground.agreed.sound.numbers r top h top_below k)))
        (λ (k : t.number r ≡ t.number top → ⊥). omega arith) (eq? (t.number r) (t.number top)))
        (eq? (w.waiting r) 0))

    done : Walk
    done = record { waiting = updated w.waiting top 0; taken = updated w.taken top (t.place top) }

    stepped : Walk
    stepped = targets_read view (t.number top) done (branches_in (view (t.place top)))

    step_is : walk_step (pieces_for g.l) view w ≡ stepped
    unfolding walk_step stepped done
    step_is =
        let some : is_zero (waiting_number view w top) ≡ false =
        ne_eqb (waiting_number view w top) 0
        (λ (z : waiting_number view w top ≡ 0). let n1 = top_number in let low = c.ground.agreed.sound.from1 top top_below in omega arith) in
        rw (chooses, some, top_waits, live_number top top_below) refl

    done_good : Good done
    unfolding done
    done_good =
        record {
          done_live = λ p d.
              ⊎_elim (λ (z : p ≡ top).
              rw z (updated_here w.taken top (t.place top)))
              (λ (z : p ≡ top → ⊥).
              let same = updated_other w.taken top p (t.place top) z in
              same ∙ b.good.done_live p (λ (y : w.taken p ≡ 0). d (same ∙ y)))
              (eq? p top);
          waits = λ p d.
              ⊎_elim (λ (z : p ≡ top).
              absurd (d (ap (updated w.waiting top 0) z ∙ updated_here w.waiting top 0)))
              (λ (z : p ≡ top → ⊥).
              let same = updated_other w.waiting top p 0 z in
              let taken = updated_other w.taken top p (t.place top) z in
              let v = b.good.waits p (λ (y : w.waiting p ≡ 0). d (same ∙ y)) in
              (v.0, ap view same ∙ v.1, v.2, v.3, taken ∙ v.4))
              (eq? p top);
        }

    done_ready : (q : ℕ) → Ready w q → Ready done q
    unfolding Ready done
    done_ready q r =
        ⊎_elim (λ (z : q ≡ top).
        inl (λ (e : updated w.taken top (t.place top) q ≡ 0).
        place_some top top_below (sym (updated_here w.taken top (t.place top)) ∙ ap (updated w.taken top (t.place top)) (sym z) ∙ e)))
        (λ (z : q ≡ top → ⊥).
        ⊎_elim (λ (y : w.taken q ≡ 0 → ⊥).
        inl (λ (e : updated w.taken top (t.place top) q ≡ 0). y (sym (updated_other w.taken top q (t.place top) z) ∙ e)))
        (λ (y : w.waiting q ≡ t.place q). inr (updated_other w.waiting top q 0 z ∙ y)) r)
        (eq? q top)

    goes : Goes (t.number top) (branches_in (view (t.place top))) done stepped
    unfolding stepped
    goes = all_read (t.number top) (branches_in (view (t.place top))) done done_good

    step_between : Between stepped
    unfolding done
    step_between =
        record {
          good = goes.good;
          links = λ p h d q k e lower.
              ⊎_elim (λ (z : p ≡ top).
              goes.reads q k (subst (λ (x : ℕ). elem (t.place q) (branches_in (view (t.place x))) ≡ true) z e)
              (subst (λ (x : ℕ). t.number q < t.number x) z lower))
              (λ (z : p ≡ top → ⊥).
              let before : w.taken p ≡ 0 → ⊥ =
              λ (y : w.taken p ≡ 0).
              d (ap (λ (f : ℕ → ℕ). f p) goes.taken ∙ updated_other w.taken top p (t.place top) z ∙ y) in
              goes.kept q k (done_ready q (b.links p h before q k e lower)))
              (eq? p top);
          starts = λ p h e. goes.kept p h (done_ready p (b.starts p h e));
        }

    fewer : count_below (undone stepped) (pieces_for g.l) < count_below (undone w) (pieces_for g.l)
    unfolding undone done
    fewer =
        let same : (p : ℕ) → stepped.taken p ≡ updated w.taken top (t.place top) p = λ p. ap (λ (f : ℕ → ℕ). f p) goes.taken in
        count_less (λ p. is_zero (stepped.taken p)) (λ p. is_zero (w.taken p)) (pieces_for g.l) top
        (λ p h e.
        ⊎_elim (λ (z : p ≡ top). eq-eqb (w.taken p) 0 (ap w.taken z ∙ top_undone))
        (λ (z : p ≡ top → ⊥). ap is_zero (sym (updated_other w.taken top p (t.place top) z) ∙ sym (same p)) ∙ e) (eq? p top))
        top_below
        (ap is_zero (same top ∙ updated_here w.taken top (t.place top)) ∙ ne_eqb (t.place top) 0 (place_some top top_below))
        (eq-eqb (w.taken top) 0 top_undone)

  undone_is : (w : Walk) (p : ℕ) → undone w p ≡ true → w.taken p ≡ 0
  unfolding undone
  undone_is w p e = eqb-true (w.taken p) 0 e

  -- Where all are done, a step does nothing.
  all_done_step : (w : Walk) → Between w → count_below (undone w) (pieces_for g.l) ≡ 0 → walk_step (pieces_for g.l) view w ≡ w
  unfolding walk_step undone
  all_done_step w b e =
      let p = best (waiting_number view w) (pieces_for g.l) in
      let h = best_below (waiting_number view w) (pieces_for g.l) (some_pieces g.l fit.some) in
      let nothing : w.waiting p ≡ 0 =
      ⊎_elim (λ (z : w.waiting p ≡ 0). z)
      (λ (z : w.waiting p ≡ 0 → ⊥).
      let v = b.good.waits p z in
      let x = count_before (λ q. is_zero (w.taken q)) p (pieces_for g.l) h (eq-eqb (w.taken p) 0 v.4) in
      absurd (omega arith))
      (eq? (w.waiting p) 0) in
      let zero-key : waiting_number view w p ≡ 0 =
      cond_true (is_zero (w.waiting p)) 0 (number_in (view (w.waiting p))) (eq-eqb (w.waiting p) 0 nothing) in
      rw zero-key refl

  walk_start : Walk
  walk_start = record { waiting = updated (λ _. 0) (piece_in (view tail)) tail; taken = λ _. 0 }

  -- The tail's piece is the one whose live sector it is.
  tail_piece : (p : ℕ) → p < pieces_for g.l → t.place p ≡ tail → piece_in (view tail) ≡ p
  unfolding piece_in
  tail_piece p h e =
      let v = c.ground.agreed.live p h in
      ap (λ (k : ℕ). piece_in (view k)) (sym e) ∙ ap piece_in v.1 ∙ v.2

  start_between : Between walk_start
  unfolding walk_start piece_in Ready
  start_between =
      let m = tail_says g image t tail number disk fit c in
      let at : piece_in (view tail) ≡ m.0.piece = ap piece_in m.1 in
      record {
        good = record {
          done_live = λ p d. absurd (d refl);
          waits = λ p d.
              ⊎_elim (λ (z : p ≡ piece_in (view tail)).
              let here : updated (λ _. 0) (piece_in (view tail)) tail p ≡ tail =
              ap (updated (λ _. 0) (piece_in (view tail)) tail) z ∙ updated_here (λ _. 0) (piece_in (view tail)) tail in
              let mine : m.0.piece ≡ p = sym at ∙ sym z in (
                m.0,
                ap view here ∙ m.1,
                mine,
                subst (λ (x : ℕ). m.0.number ≤ t.number x) mine (c.latest tail m.0 m.1 (settled.none_above tail m.0 m.1)),
                refl,
              ))
              (λ (z : p ≡ piece_in (view tail) → ⊥). absurd (d (updated_other (λ _. 0) (piece_in (view tail)) p tail z))) (eq? p (piece_in (view tail)));
        };
        links = λ p h d. absurd (d refl);
        starts = λ p h e.
            let q = tail_piece p h e in
            inr (ap (updated (λ _. 0) (piece_in (view tail)) tail) (sym q) ∙ updated_here (λ _. 0) (piece_in (view tail)) tail ∙ sym e);
      }

  walked : (k : ℕ) → Between (walked_for (pieces_for g.l) view walk_start k)
      × (count_below (undone (walked_for (pieces_for g.l) view walk_start k)) (pieces_for g.l) ≤ pieces_for g.l - k)
  unfolding walked_for
  walked zero = (start_between, let x = count_le (undone walk_start) (pieces_for g.l) in omega arith)
  walked (suc k) =
      let w = walked_for (pieces_for g.l) view walk_start k in
      let before = walked k in
      let bound = before.1 in
      ⊎_elim (λ (z : 0 < count_below (undone w) (pieces_for g.l)).
      let v = count_some (undone w) (pieces_for g.l) z in
      let u = undone_is w v.0 v.2 in
      let s = step_is w before.0 v.0 v.1 u in
      let f = fewer w before.0 v.0 v.1 u in (
        subst Between (sym s) (step_between w before.0 v.0 v.1 u),
        subst (λ (x : Walk). count_below (undone x) (pieces_for g.l) ≤ pieces_for g.l - suc k) (sym s) (omega arith),
      ))
      (λ (z : count_below (undone w) (pieces_for g.l) ≤ 0).
      let s = all_done_step w before.0 (omega arith) in (
        subst Between (sym s) before.0,
        subst (λ (x : Walk). count_below (undone x) (pieces_for g.l) ≤ pieces_for g.l - suc k) (sym s) (omega arith),
      ))
      (lt? 0 (count_below (undone w) (pieces_for g.l)))

  -- The walk takes the live sector of every piece.
  pub walk_places : (p : ℕ) → p < pieces_for g.l → walk_from (pieces_for g.l) view tail p ≡ t.place p
  unfolding walk_from walk_start undone
  walk_places p h =
      let w = walked_for (pieces_for g.l) view walk_start (pieces_for g.l) in
      let r = walked (pieces_for g.l) in
      let bound = r.1 in
      r.0.good.done_live p
      (λ (z : w.taken p ≡ 0).
      let x = count_before (undone w) p (pieces_for g.l) h (eq-eqb (w.taken p) 0 z) in
      omega arith)
