-- A target that is read, and the branches of a sector one after the other.
use Prim.Native.Nat.{ℕ, suc, ◌+◌, ◌*◌, ◌-◌, ◌≤◌, ◌<◌}
use mathlib.Core.Path.{◌≡◌, refl, sym, ◌∙◌, ap, ap₂, subst}
use mathlib.Core.Logic.{⊎_elim}
use mathlib.Core.Bool.{Bool, true, false, cond, ◌&&◌, true≢false}
use mathlib.Core.List.{List}
use mathlib.Core.Option.{some}
use native.Mathlib.Numerals.{add-one}
use native.Mathlib.Omega.{arith}
use lib.ListN.{length, set, take, drop, length-set, drop_of_length-le}
use lib.Seq.{get_or-take, drop-cons, length-take-le}
use lib.Dec.{leb, ltb}
use borrow.Author.Tests.{eq-eqb, ne_eqb, lt-ltb, le-ltb, leb-true}
use Rattle.geometry.specs.declared.Geometry.{Geometry}
use Rattle.geometry.specs.Geometry.{sector_bytes, within, pieces_for}
use Rattle.layout.specs.Bounded.{at, all, updated}
use Rattle.layout.specs.Word.{words_of}
use Rattle.layout.specs.MapSector.{View, branch_words, fields, valid}
use Rattle.volume.specs.Tables.{sector_at}
use Rattle.volume.specs.Commit.{branches_in}
use Rattle.volume.specs.Recover.{number_in, image_view, Walk, waiting_number, target_waits, targets_read}
use Rattle.laws.proofs.Bounded.{bool?, eq?, and_l, and_r, cond_true, cond_false, at_set, all_at}
use Rattle.laws.proofs.Sectors.{sector_length}
use Rattle.signed.specs.Signed.{is_signed, signed_at, below}
use Rattle.signed.proofs.ViewLaws.{inside, view_signed, valid_view, invalid_view, valid_piece, signed_count, signed_branches}
use Rattle.tournament.specs.Tournament.{ranked, key_at, Tournament, Replayed, Keyed}
use Rattle.tournament.proofs.TournamentLaws.{changed_to}
use Rattle.map_sector.proofs.Branches.{branch_room_lem}
use Rattle.targets.specs.Waiting.{walk_of, may_wait, does_wait, Waits, Put}

and_out : (a b : Bool) → (a && b) ≡ false → b ≡ true → a ≡ false
and_out true b e t = absurd (true≢false (sym t ∙ e))
and_out false b e t = refl

-- The tests of a target, one after the other.
module _ (tree taken : List ℕ) (holder number p : ℕ) where
  pub piece_left : length taken ≤ p → false ≡ may_wait tree taken holder number p
  unfolding may_wait
  piece_left b = rw (le-ltb p (length taken) b) refl

  module _ (b : p < length taken) where
    pub late_left : holder ≤ number → false ≡ may_wait tree taken holder number p
    unfolding may_wait
    late_left h = rw (lt-ltb p (length taken) b, le-ltb number holder h) refl

    pub done_left : number < holder → (at taken p ≡ 0 → ⊥) → false ≡ may_wait tree taken holder number p
    unfolding may_wait
    done_left h d = rw (lt-ltb p (length taken) b, lt-ltb number holder h, ne_eqb (at taken p) 0 d) refl

    pub newer_waits : number < holder → at taken p ≡ 0 → (v : ℕ) → v ≡ key_at (length taken) tree p → ltb v number ≡ may_wait tree taken holder number p
    unfolding may_wait
    newer_waits h z v e = rw (lt-ltb p (length taken) b, lt-ltb number holder h, eq-eqb (at taken p) 0 z) (ap (λ (x : ℕ). ltb x number) e)

-- Another number waits for piece p.
pub rekeyed : (n pieces p number : ℕ) (key key' : ℕ → ℕ) (tree tree' : List ℕ) → n ≡ pieces → pieces ≤ 256 → p < pieces → length tree ≡ 512
    → Keyed pieces key tree → Replayed n (set tree (n + p) (ranked n p number)) tree' → ((j : ℕ) → j < pieces → updated key p number j ≡ key' j)
    → Keyed pieces key' tree'
rekeyed n pieces p number key key' tree tree' e few inside room s r same =
    changed_to pieces p number tree tree' few inside room (subst (λ (x : ℕ). Replayed x (set tree (x + p) (ranked x p number)) tree') e r) key key' s same

-- A sector of an image, signed or not.
pub signed_here : (g : Geometry) (image : ℕ → List ℕ) (k : ℕ) (r v : Bool) → k < g.n → r ≡ is_signed g image k → r ≡ v → signed_at g image k ≡ v
unfolding signed_at below
signed_here g image k r v h e f = rw (lt-ltb k g.n h) (sym e ∙ f)

-- The test of a target's bytes, after the one of its header.
module _ (g : Geometry) (tree taken : List ℕ) (holder : ℕ) (s : List ℕ) (number p : ℕ) (num : number ≡ at (words_of s) 2) (piece : p ≡ at (words_of s) 4) (r : Bool)
    (judged : r ≡ may_wait tree taken holder number p) where
  header : r ≡ may_wait tree taken holder (at (words_of s) 2) (at (words_of s) 4)
  header = judged ∙ ap₂ (λ (x y : ℕ). may_wait tree taken holder x y) num piece

  pub header_decides : r ≡ false → false ≡ does_wait g tree taken holder s
  unfolding does_wait
  header_decides t = ap (λ (b : Bool). b && valid g s (words_of s)) (sym t ∙ header)

  pub sum_decides : r ≡ true → (v : Bool) → v ≡ valid g s (words_of s) → v ≡ does_wait g tree taken holder s
  unfolding does_wait
  sum_decides t v e = e ∙ ap (λ (b : Bool). b && valid g s (words_of s)) (sym t ∙ header)

pub put_done : (s : List ℕ) (k : ℕ) (waiting tree : List ℕ) (p number : ℕ) → p ≡ at (words_of s) 4 → number ≡ at (words_of s) 2 → (tree' : List ℕ)
    → Replayed (length waiting) (set tree (length waiting + p) (ranked (length waiting) p number)) tree' → Put s k waiting tree (set waiting p k) tree'
put_done s k waiting tree p number e f tree' r =
    record {
      placed = ap (λ (x : ℕ). set waiting x k) e;
      replayed = subst (λ (x : ℕ). Replayed (length waiting) (set tree (length waiting + at (words_of s) 4) (ranked (length waiting) (at (words_of s) 4) x)) tree') f
          (subst (λ (x : ℕ). Replayed (length waiting) (set tree (length waiting + x) (ranked (length waiting) x number)) tree') e r);
    }

-- A signed sector k with the bytes s comes to wait.
module _ (g : Geometry) (view : View) (waiting tree taken : List ℕ) (w : Waits (pieces_for g.l) view waiting tree taken) (s : List ℕ)
    (signed : valid g s (words_of s) ≡ true) where
  put_inside : at (words_of s) 4 < pieces_for g.l
  put_inside = valid_piece g (λ _. s) s signed

  pub put_ready : length s ≡ 512
      → (length s ≡ 512) × ((at (words_of s) 4 < length waiting) × ((length waiting ≤ 256) × ((length tree ≡ 512) × Tournament (length waiting) tree)))
  put_ready size =
      let i = put_inside in
      let long = w.waiting_long in
      let few = w.few in
      (size, (omega arith, (omega arith, (w.tree_long, subst (λ (n : ℕ). Tournament n tree) (sym long) w.keyed.tournament))))

  module _ (k : ℕ) (low : 1 ≤ k) (says : view k ≡ some (fields (words_of s))) where
    abbrev pub put : Walk
    put = record { waiting = updated (at waiting) (at (words_of s) 4) k; taken = at taken }

    -- The numbers of what waits, with the sector in its place.
    keys_put : (j : ℕ) → updated (waiting_number view (walk_of waiting taken)) (at (words_of s) 4) (at (words_of s) 2) j ≡ waiting_number view put j
    unfolding number_in
    keys_put j =
        ⊎_elim (λ (z : j ≡ at (words_of s) 4).
        rw (eq-eqb j (at (words_of s) 4) z, ne_eqb k 0 (λ (y : k ≡ 0). omega arith)) (sym (ap number_in says)))
        (λ (d : j ≡ at (words_of s) 4 → ⊥). rw (ne_eqb j (at (words_of s) 4) d) refl) (eq? j (at (words_of s) 4))

    pub put_waits : (waiting' tree' : List ℕ) → Put s k waiting tree waiting' tree' → length tree' ≡ length tree
        → (walk_of waiting' taken ≡ put) × Waits (pieces_for g.l) view waiting' tree' taken
    put_waits waiting' tree' done kept =
        let i = put_inside in
        let long = w.waiting_long in
        let same : walk_of waiting' taken ≡ put =
        ap (λ (h : ℕ → ℕ). record { waiting = h; taken = at taken }) (ap (λ (xs : List ℕ). at xs) done.placed ∙ at_set waiting (at (words_of s) 4) k (omega arith)) in (
          same,
          record {
            few = w.few;
            waiting_long = ap length done.placed ∙ length-set waiting (at (words_of s) 4) k ∙ long;
            tree_long = kept ∙ w.tree_long;
            taken_long = w.taken_long;
            keyed = rekeyed (length waiting) (pieces_for g.l) (at (words_of s) 4) (at (words_of s) 2) (waiting_number view (walk_of waiting taken))
                (waiting_number view (walk_of waiting' taken)) tree tree' long w.few i w.tree_long w.keyed done.replayed
                (λ j h. keys_put j ∙ ap (λ (x : Walk). waiting_number view x j) (sym same));
          },
        )

-- A target that was judged by its bytes.
module _ (g : Geometry) (image : ℕ → List ℕ) (holder : ℕ) (waiting tree taken : List ℕ) (w : Waits (pieces_for g.l) (image_view g image) waiting tree taken)
    (target : ℕ) (h : target < g.n) (s : List ℕ) (is : s ≡ image target) (r : Bool) (judged : r ≡ does_wait g tree taken holder s) where
  abbrev view : View
  view = image_view g image

  abbrev now : Walk
  now = walk_of waiting taken

  abbrev may : Bool
  may = may_wait tree taken holder (at (words_of s) 2) (at (words_of s) 4)

  abbrev next : Walk
  next = record { waiting = updated (at waiting) (at (words_of s) 4) target; taken = at taken }

  read_is : valid g s (words_of s) ≡ true → target_waits view holder now target (view target) ≡ cond may next now
  unfolding target_waits may_wait
  read_is v =
      let i = valid_piece g image s v in
      let long = w.taken_long in
      ap (target_waits view holder now target) (valid_view g image target h s is _ refl v)
      ∙ rw (sym (ap (λ (n : ℕ). key_at n tree (at (words_of s) 4)) long ∙ w.keyed.keys (at (words_of s) 4) i), lt-ltb (at (words_of s) 4) (length taken) (omega arith)) refl

  pub target_out : r ≡ false → (now ≡ target_waits view holder now target (view target)) × Waits (pieces_for g.l) view waiting tree taken
  unfolding does_wait target_waits
  target_out t = (
    ⊎_elim (λ (v : valid g s (words_of s) ≡ true). sym (read_is v ∙ cond_false may next now (and_out may (valid g s (words_of s)) (sym judged ∙ t) v)))
        (λ (v : valid g s (words_of s) ≡ false). sym (ap (target_waits view holder now target) (invalid_view g image target h s is _ refl v))) (bool? (valid g s (words_of s))),
    w,
  )

  target_valid : r ≡ true → valid g s (words_of s) ≡ true
  unfolding does_wait
  target_valid t = and_r may (valid g s (words_of s)) (sym judged ∙ t)

  pub target_ready : length s ≡ 512 → r ≡ true
      → (length s ≡ 512) × ((at (words_of s) 4 < length waiting) × ((length waiting ≤ 256) × ((length tree ≡ 512) × Tournament (length waiting) tree)))
  target_ready size t = put_ready g view waiting tree taken w s (target_valid t) size

  pub target_in : 1 ≤ target → r ≡ true → (waiting' tree' : List ℕ) → Put s target waiting tree waiting' tree' → length tree' ≡ length tree
      → (walk_of waiting' taken ≡ target_waits view holder now target (view target)) × Waits (pieces_for g.l) view waiting' tree' taken
  unfolding does_wait
  target_in low t waiting' tree' done kept =
      let v = target_valid t in
      let put = put_waits g view waiting tree taken w s v target low (valid_view g image target h s is _ refl v) waiting' tree' done kept in
      (put.0 ∙ sym (read_is v ∙ cond_true may next now (and_l may (valid g s (words_of s)) (sym judged ∙ t))), put.1)

-- The branches of a signed sector.
module _ (g : Geometry) (image : ℕ → List ℕ) (k : ℕ) (e : signed_at g image k ≡ true) (size : length (image k) ≡ 512) (s : List ℕ) (is : s ≡ image k) where
  abbrev seen : View
  seen = image_view g image

  holder_is : (r : ℕ) → r ≡ at (words_of s) 2 → r ≡ number_in (seen k)
  unfolding number_in
  holder_is r f = f ∙ ap (λ (x : List ℕ). at (words_of x) 2) is ∙ sym (ap number_in (view_signed g image k e))

  branches_are : branches_in (seen k) ≡ take (at (words_of s) 6) (branch_words (words_of s))
  unfolding branches_in
  branches_are = ap branches_in (view_signed g image k e) ∙ ap (λ (x : List ℕ). take (at (words_of x) 6) (branch_words (words_of x))) (sym is)

  module _ (count : ℕ) (f : count ≡ at (words_of s) 6) where
    count_most : count ≤ 24
    count_most = let h = signed_count g image k e in let u = f ∙ ap (λ (x : List ℕ). at (words_of x) 6) is in omega arith

    words_long : length (branch_words (words_of s)) ≡ 24
    words_long = branch_room_lem s (ap length is ∙ size)

    pub count_is : length (branches_in (seen k)) ≡ count
    count_is =
        let c = count_most in
        let w = words_long in
        ap length branches_are ∙ length-take-le (at (words_of s) 6) (branch_words (words_of s)) (omega arith) ∙ sym f

    module _ (i target : ℕ) (h : i < count) (u : target ≡ at (branch_words (words_of s)) i) where
      target_is : target ≡ at (branches_in (seen k)) i
      target_is =
          u ∙ sym (ap (λ (xs : List ℕ). at xs i) branches_are ∙ get_or-take (at (words_of s) 6) (branch_words (words_of s)) i 0 (omega arith))

      in_range : within 1 (g.n - 1) target ≡ true
      in_range =
          let c = count_is in
          ap (within 1 (g.n - 1)) target_is
          ∙ all_at (within 1 (g.n - 1)) (branches_in (seen k)) i
          (ap (all (within 1 (g.n - 1))) (branches_are ∙ ap (λ (x : List ℕ). take (at (words_of x) 6) (branch_words (words_of x))) is) ∙ signed_branches g image k e)
          (omega arith)

      target_low : 1 ≤ target
      target_low = leb-true 1 target (and_l (leb 1 target) (leb target (g.n - 1)) in_range)

      target_high : k < g.n → target < g.n
      target_high b = let z = leb-true target (g.n - 1) (and_r (leb 1 target) (leb target (g.n - 1)) in_range) in omega arith

-- What a loop over the branches of sector k goes by, with its bytes s.
pub record Held (g : Geometry) (im : List ℕ) (k : ℕ) (s : List ℕ) (holder count : ℕ) : Type 0 where
  pub sized : length im ≡ sector_bytes * g.n
  pub bytes : length s ≡ 512
  pub most : count ≤ 24
  pub held : holder ≡ number_in (image_view g (sector_at im) k)
  pub counted : length (branches_in (image_view g (sector_at im) k)) ≡ count
  pub targets : (i target : ℕ) → i < count → target ≡ at (branch_words (words_of s)) i
      → (target ≡ at (branches_in (image_view g (sector_at im) k)) i) × (1 ≤ target) × (target < g.n)

pub sector_size : (n : ℕ) (im : List ℕ) (k : ℕ) (s : List ℕ) → length im ≡ sector_bytes * n → k < n → s ≡ sector_at im k → length s ≡ 512
sector_size n im k s e h is = ap length is ∙ sector_length im k (omega arith)

pub holds : (g : Geometry) (im : List ℕ) (k : ℕ) (s : List ℕ) (holder count : ℕ) → length im ≡ sector_bytes * g.n → signed_at g (sector_at im) k ≡ true
    → s ≡ sector_at im k → holder ≡ at (words_of s) 2 → count ≡ at (words_of s) 6 → Held g im k s holder count
holds g im k s holder count sized e is num f =
    let h = inside g (sector_at im) k e in
    let size = sector_length im k (omega arith) in
    record {
      sized = sized;
      bytes = ap length is ∙ size;
      most = count_most g (sector_at im) k e size s is count f;
      held = holder_is g (sector_at im) k e size s is holder num;
      counted = count_is g (sector_at im) k e size s is count f;
      targets = λ i target b u. (
        target_is g (sector_at im) k e size s is count f i target b u,
        target_low g (sector_at im) k e size s is count f i target b u,
        target_high g (sector_at im) k e size s is count f i target b u h,
      );
    }

-- One branch after the other: what is left to be read from here is what was to be read at the start.
module _ (g : Geometry) (im : List ℕ) (k : ℕ) where
  abbrev seen_in : View
  seen_in = image_view g (sector_at im)

  abbrev listed : List ℕ
  listed = branches_in (image_view g (sector_at im) k)

  unfoldable pub Reading : Walk → Walk → ℕ → Type 0
  Reading start w i = targets_read seen_in (number_in (seen_in k)) start listed ≡ targets_read seen_in (number_in (seen_in k)) w (drop i listed)

  pub reading_starts : (w : Walk) → Reading w w 0
  unfolding Reading
  reading_starts w = refl

  module _ (start w : Walk) (i : ℕ) where
    pub reading_more : (target : ℕ) {s : List ℕ} {holder count : ℕ} (w' : Walk) → Held g im k s holder count → i < count → target ≡ at (branch_words (words_of s)) i
        → Reading start w i → w' ≡ target_waits seen_in holder w target (seen_in target) → Reading start w' (i + 1)
    unfolding targets_read Reading
    reading_more target {holder = holder} w' h b u r e =
        let many = h.counted in
        let here = (h.targets i target b u).0 in
        r ∙ ap (targets_read seen_in (number_in (seen_in k)) w) (drop-cons listed i 0 (omega arith))
        ∙ ap (λ (x : Walk). targets_read seen_in (number_in (seen_in k)) x (drop (suc i) listed))
        (ap (λ (x : ℕ). target_waits seen_in (number_in (seen_in k)) w x (seen_in x)) (sym here) ∙ ap (λ (x : ℕ). target_waits seen_in x w target (seen_in target)) (sym h.held) ∙ sym e)
        ∙ ap (λ (x : ℕ). targets_read seen_in (number_in (seen_in k)) w' (drop x listed)) (sym (add-one i))

    pub reading_ends : {s : List ℕ} {holder count : ℕ} → Held g im k s holder count → count ≤ i → Reading start w i
        → w ≡ targets_read seen_in (number_in (seen_in k)) start listed
    unfolding targets_read Reading
    reading_ends h b r =
        let many = h.counted in
        let past : length listed ≤ i = omega arith in
        sym (r ∙ ap (targets_read seen_in (number_in (seen_in k)) w) (drop_of_length-le listed past))
