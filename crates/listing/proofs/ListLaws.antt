-- Branches, newest to oldest: the candidates, one step of the listing, and what a listed sector's branches reach.
use Prim.Native.Nat.{ℕ, zero, suc, ◌+◌, ◌*◌, ◌-◌, ◌≤◌, ◌<◌}
use mathlib.Core.Path.{◌≡◌, refl, sym, ◌∙◌, ap, fun_ext, subst}
use mathlib.Core.Logic.{◌⊎◌, inl, inr, ⊎_elim}
use mathlib.Core.Bool.{Bool, true, false, cond, not, ◌&&◌, ◌||◌}
use mathlib.Core.List.{List, [], ◌∷◌, ◌++◌, append_assoc, append-nil}
use native.Mathlib.Nat.{not-suc-le-zero}
use native.Mathlib.Numerals.{add-one}
use native.Mathlib.Omega.{arith}
use lib.ListN.{length, set, take, drop, replicate, get_or-eq_default}
use lib.Seq.{set_split, take-append-add, take_at, take_all, take-suc, get_or-take, length-take-le}
use lib.Dec.{eqb, ltb, leb}
use borrow.Author.Tests.{eq-eqb, ne_eqb, lt-ltb, le-ltb, leb-true}
use Rattle.geometry.specs.declared.Geometry.{Geometry}
use Rattle.geometry.specs.Geometry.{within, pieces_for}
use Rattle.layout.specs.Bounded.{at, all, best, elem, is_zero}
use Rattle.layout.specs.Word.{words_of, word_sum, starts_with}
use Rattle.layout.specs.MapSector.{View, map_mark, valid, branches_fit, branch_words, entry_words, decoded}
use Rattle.volume.specs.Tables.{Tables, sector_at, tables_of}
use Rattle.volume.specs.Commit.{older_key, listing, branches_in}
use Rattle.volume.specs.Calls.{view_of}
use Rattle.laws.proofs.Bounded.{bool?, lt?, eq?, and_l, and_r, cond_true, cond_false, tabled_at, all_at}
use Rattle.pieces.specs.Arrays.{flagged, unflagged, Live}
use Rattle.pieces.proofs.FlagLaws.{flag_set, none_flagged}
use Rattle.tournament.specs.Tournament.{key_at, below, Keyed}
use Rattle.tournament.proofs.TournamentLaws.{keyed_first, keyed_below}
use Rattle.laws.proofs.Sectors.{sector_length}
use Rattle.map_sector.proofs.Branches.{branch_room_lem}
use Rattle.listing.specs.Listing.{NoneOlder, Taken}

-- The key of a candidate.
module _ (nu touched : List ℕ) (bound : ℕ) where
  abbrev pub key : ℕ → ℕ
  key = older_key (tables_of [] [] nu []) (unflagged (length nu) touched) bound

  remains : (q : ℕ) → q < length nu → unflagged (length nu) touched q ≡ not (flagged touched q)
  unfolding unflagged
  remains q h = tabled_at false (length nu) (λ r. not (flagged touched r)) q h

  pub key_is : (q : ℕ) → q < length nu → key q ≡ cond (not (flagged touched q) && ltb (at nu q) bound) (at nu q) 0
  unfolding older_key
  key_is q h = ap (λ (b : Bool). cond (b && ltb (at nu q) bound) (at nu q) 0) (remains q h)

  pub key_touched : (q : ℕ) → q < length nu → at touched q ≡ 1 → 0 ≡ key q
  unfolding flagged
  key_touched q h e = sym (key_is q h ∙ rw (eq-eqb (at touched q) 1 e) refl)

  pub key_older : (q : ℕ) → q < length nu → (at touched q ≡ 1 → ⊥) → at nu q < bound → at nu q ≡ key q
  unfolding flagged
  key_older q h d e = sym (key_is q h ∙ rw (ne_eqb (at touched q) 1 d, lt-ltb (at nu q) bound e) refl)

  pub key_newer : (q : ℕ) → q < length nu → (at touched q ≡ 1 → ⊥) → bound ≤ at nu q → 0 ≡ key q
  unfolding flagged
  key_newer q h d e = sym (key_is q h ∙ rw (ne_eqb (at touched q) 1 d, le-ltb (at nu q) bound e) refl)

  -- A candidate is older than the bound; with its number as the bound those below it are left.
  key_under : (q : ℕ) → (key q ≡ 0 → ⊥) → key q < bound
  unfolding older_key
  key_under q d = either (unflagged (length nu) touched q) (lt? (at nu q) bound) d
    where
      either : (b : Bool) → (at nu q < bound) ⊎ (bound ≤ at nu q) → (cond (b && ltb (at nu q) bound) (at nu q) 0 ≡ 0 → ⊥)
          → cond (b && ltb (at nu q) bound) (at nu q) 0 < bound
      either true (inl h) d = rw (lt-ltb (at nu q) bound h) h
      either true (inr h) d = absurd (d (rw (le-ltb (at nu q) bound h) refl))
      either false h d = absurd (d refl)

pub key_below : (nu touched : List ℕ) (bound bound' : ℕ) → bound' ≤ bound → below bound' (key nu touched bound) ≡ key nu touched bound'
unfolding older_key below
key_below nu touched bound bound' h = fun_ext (λ q. either q (unflagged (length nu) touched q) (lt? (at nu q) bound) (lt? (at nu q) bound'))
  where
    zero_out : (b : Bool) → ◌≡◌ {A = ℕ} (cond b 0 0) 0
    zero_out true = refl
    zero_out false = refl

    either : (q : ℕ) (b : Bool) → (at nu q < bound) ⊎ (bound ≤ at nu q) → (at nu q < bound') ⊎ (bound' ≤ at nu q)
        → cond (ltb (cond (b && ltb (at nu q) bound) (at nu q) 0) bound') (cond (b && ltb (at nu q) bound) (at nu q) 0) 0
        ≡ cond (b && ltb (at nu q) bound') (at nu q) 0
    either q true (inl k) (inl m) = rw (lt-ltb (at nu q) bound k, lt-ltb (at nu q) bound' m) refl
    either q true (inl k) (inr m) = rw (lt-ltb (at nu q) bound k, le-ltb (at nu q) bound' m) refl
    either q true (inr k) (inl m) = absurd (omega arith)
    either q true (inr k) (inr m) = rw (le-ltb (at nu q) bound k, le-ltb (at nu q) bound' m) (zero_out (ltb 0 bound'))
    either q false k m = zero_out (ltb 0 bound')

-- The candidates in a tournament.
module _ (nu touched : List ℕ) (bound : ℕ) (tree : List ℕ) (s : Keyed (length nu) (key nu touched bound) tree) where
  pub newest_first_lem : (r : ℕ) → 0 < length nu → r ≡ best (key_at (length nu) tree) (length nu) → r ≡ best (key nu touched bound) (length nu)
  newest_first_lem r h e = e ∙ keyed_first (length nu) (key nu touched bound) tree s h

  pub older_left : (q bound' : ℕ) (tree' : List ℕ) → bound' ≡ key nu touched bound q → (bound' ≡ 0 → ⊥)
      → Keyed (length nu) (below bound' (key_at (length nu) tree)) tree' → Keyed (length nu) (key nu touched bound') tree'
  older_left q bound' tree' e d k =
      let h = key_under nu touched bound q (λ (z : key nu touched bound q ≡ 0). d (e ∙ z)) in
      subst (λ (x : ℕ → ℕ). Keyed (length nu) x tree') (key_below nu touched bound bound' (omega arith))
      (keyed_below (length nu) (key nu touched bound) tree s bound' tree' k)

-- One more in the list of branches.
pub list_more : (bs : List ℕ) (count place : ℕ) → count < length bs → take (count + 1) (set bs count place) ≡ take count bs ++ (place ∷ [])
list_more bs count place h =
    let e = length-take-le count bs (omega arith) in
    ap (take (count + 1)) (set_split bs count place h)
    ∙ ap (λ (k : ℕ). take k (take count bs ++ place ∷ drop (suc count) bs)) (let q : count + 1 ≡ length (take count bs) + 1 = omega arith in q)
    ∙ take-append-add (take count bs) (place ∷ drop (suc count) bs) 1

-- What one branch reaches.
module _ (reached pl nu : List ℕ) (p b bound : ℕ) (only : (q : ℕ) → at pl q ≡ b → (q ≡ p) × (q < length pl)) where
  abbrev then : ℕ → Bool
  then q = flagged reached q || (eqb (at pl q) b && ltb (at nu q) bound)

  same : (a : Bool) → a ≡ (a || false)
  same true = refl
  same false = refl

  also : (a : Bool) → true ≡ (a || true)
  also true = refl
  also false = refl

  away : (q : ℕ) → (at pl q ≡ b → ⊥) → flagged reached q ≡ then q
  away q d = rw (ne_eqb (at pl q) b d) (same (flagged reached q))

  pub reach_none : (at pl p ≡ b → p < length pl → ⊥) → flagged reached ≡ then
  reach_none d =
      fun_ext (λ q.
      ⊎_elim (λ (e : at pl q ≡ b). let w = only q e in absurd (d (ap (at pl) (sym w.0) ∙ e) (let h = w.1 in let z = w.0 in omega arith)))
      (λ (f : at pl q ≡ b → ⊥). away q f) (eq? (at pl q) b))

  pub reach_newer : bound ≤ at nu p → flagged reached ≡ then
  reach_newer h =
      fun_ext (λ q.
      ⊎_elim (λ (e : at pl q ≡ b).
      let w = only q e in
      rw (eq-eqb (at pl q) b e, le-ltb (at nu q) bound (subst (λ (x : ℕ). bound ≤ at nu x) (sym w.0) h)) (same (flagged reached q)))
      (λ (f : at pl q ≡ b → ⊥). away q f) (eq? (at pl q) b))

  pub reach_one : at pl p ≡ b → at nu p < bound → p < length reached → flagged (set reached p 1) ≡ then
  reach_one e h k =
      flag_set reached p k
      ∙ fun_ext (λ q.
      ⊎_elim (λ (z : q ≡ p).
      rw (eq-eqb q p z, eq-eqb (at pl q) b (ap (at pl) z ∙ e), lt-ltb (at nu q) bound (subst (λ (x : ℕ). at nu x < bound) (sym z) h)) (also (flagged reached q)))
      (λ (z : q ≡ p → ⊥). rw (ne_eqb q p z) (away q (λ (f : at pl q ≡ b). z (only q f).0))) (eq? q p))

-- A test of a whole list, at one place.
-- A signed sector: its branches are sectors, and at most 24 of them.
module _ (g : Geometry) (bytes : List ℕ) (signed : valid g bytes (words_of bytes) ≡ true) where
  abbrev ws : List ℕ
  ws = words_of bytes

  c1 : Bool
  c1 = starts_with map_mark bytes && is_zero (word_sum ws) && leb 1 (at ws 2) && is_zero (at ws 3) && ltb (at ws 4) (pieces_for g.l) && leb (at ws 5) 1

  c2 : Bool
  c2 = leb (at ws 6) 24

  c3 : Bool
  c3 = eqb (at ws 7) g.l

  c4 : Bool
  c4 = branches_fit g.n (at ws 6) (branch_words ws)

  c5 : Bool
  c5 = all is_zero (drop (g.l - 96 * at ws 4) (entry_words ws))

  pub few_branches : at ws 6 ≤ 24
  unfolding valid c1 c2 c3 c4 c5
  few_branches = leb-true (at ws 6) 24 (and_r c1 c2 (and_l (c1 && c2) c3 (and_l (c1 && c2 && c3) c4 (and_l (c1 && c2 && c3 && c4) c5 signed))))

  fit : branches_fit g.n (at ws 6) (branch_words ws) ≡ true
  unfolding valid c1 c2 c3 c4 c5
  fit = and_r (c1 && c2 && c3) c4 (and_l (c1 && c2 && c3 && c4) c5 signed)

  pub branch_inside : (i : ℕ) → length (branch_words ws) ≡ 24 → i < at ws 6 → (1 ≤ at (branch_words ws) i) × (at (branch_words ws) i ≤ g.n - 1)
  unfolding branches_fit
  branch_inside i len h =
      let few = few_branches in
      let bs = branch_words ws in
      let inside = and_l (all (within 1 (g.n - 1)) (take (at ws 6) bs)) (all is_zero (drop (at ws 6) bs)) fit in
      let k = length-take-le (at ws 6) bs (omega arith) in
      let w = all_at (within 1 (g.n - 1)) (take (at ws 6) bs) i inside (omega arith) in
      let e = get_or-take (at ws 6) bs i 0 h in
      let z = at (take (at ws 6) bs) i in
      let low = leb-true 1 z (and_l (leb 1 z) (leb z (g.n - 1)) w) in
      let high = leb-true z (g.n - 1) (and_r (leb 1 z) (leb z (g.n - 1)) w) in
      (omega arith, omega arith)

  pub branches_view : branches_in (decoded g bytes) ≡ take (at ws 6) (branch_words ws)
  unfolding decoded branches_in
  branches_view = rw signed refl

-- Reached by the first i of a sector's branches.
elem_end : (k : ℕ) (xs : List ℕ) (x : ℕ) → elem k (xs ++ (x ∷ [])) ≡ (elem k xs || eqb k x)
unfolding elem
elem_end k [] x = either (eqb k x)
  where
    either : (a : Bool) → (a || false) ≡ (false || a)
    either true = refl
    either false = refl
elem_end k (y ∷ xs) x = ap (λ (b : Bool). eqb k y || b) (elem_end k xs x) ∙ shift (eqb k y) (elem k xs) (eqb k x)
  where
    shift : (a b c : Bool) → (a || (b || c)) ≡ ((a || b) || c)
    shift true b c = refl
    shift false b c = refl

module _ (before : ℕ → Bool) (pl nu bs : List ℕ) (bound : ℕ) where
  unfoldable pub reached_by : ℕ → ℕ → Bool
  reached_by i q = before q || (elem (at pl q) (take i bs) && ltb (at nu q) bound)

  pub reached_none : before ≡ reached_by 0
  unfolding elem reached_by
  reached_none = fun_ext (λ q. either (before q))
    where
      either : (a : Bool) → a ≡ (a || false)
      either true = refl
      either false = refl

  pub reached_more : (i : ℕ) (f g : ℕ → Bool) → f ≡ reached_by i → i < length bs
      → g ≡ (λ q. f q || (eqb (at pl q) (at bs i) && ltb (at nu q) bound)) → g ≡ reached_by (i + 1)
  unfolding reached_by
  reached_more i f g p h r =
      r
      ∙ fun_ext (λ q.
      ap (λ (x : ℕ → Bool). x q || (eqb (at pl q) (at bs i) && ltb (at nu q) bound)) p
      ∙ either (before q) (elem (at pl q) (take i bs)) (eqb (at pl q) (at bs i)) (ltb (at nu q) bound)
      ∙ ap (λ (x : Bool). before q || (x && ltb (at nu q) bound))
      (sym
      (ap (λ (xs : List ℕ). elem (at pl q) xs)
      (ap (λ (k : ℕ). take k bs) (add-one i) ∙ take-suc bs i 0 h)
      ∙ elem_end (at pl q) (take i bs) (at bs i))))
    where
      either : (a x y z : Bool) → ((a || (x && z)) || (y && z)) ≡ (a || ((x || y) && z))
      either true x y z = refl
      either false true y true = refl
      either false true true false = refl
      either false true false false = refl
      either false false y z = refl

  pub reached_whole : (i n : ℕ) (f : ℕ → Bool) → f ≡ reached_by i → i ≡ n → f ≡ (λ q. before q || (elem (at pl q) (take n bs) && ltb (at nu q) bound))
  unfolding reached_by
  reached_whole i n f e h = subst (λ (x : ℕ). f ≡ (λ q. before q || (elem (at pl q) (take x bs) && ltb (at nu q) bound))) h e

-- One step of the listing.
module _ (pieces : ℕ) (t : Tables) (view : View) (remaining : ℕ → Bool) where
  pub listing_ends : (steps bound : ℕ) (reached : ℕ → Bool) → older_key t remaining bound (best (older_key t remaining bound) pieces) ≡ 0
      → listing pieces t view remaining steps bound reached ≡ []
  unfolding listing
  listing_ends zero bound reached e = refl
  listing_ends (suc steps) bound reached e = cond_true (is_zero (older_key t remaining bound (best (older_key t remaining bound) pieces))) [] _ (eq-eqb _ 0 e)

  pub listing_over : (steps bound : ℕ) (reached : ℕ → Bool) → steps ≡ 0 → listing pieces t view remaining steps bound reached ≡ []
  unfolding listing
  listing_over zero bound reached e = refl
  listing_over (suc steps) bound reached e = absurd (omega arith)

  key_number : (bound q : ℕ) → (older_key t remaining bound q ≡ 0 → ⊥) → older_key t remaining bound q ≡ t.number q
  unfolding older_key
  key_number bound q d =
      ⊎_elim (λ (e : (remaining q && ltb (t.number q) bound) ≡ true). cond_true _ (t.number q) 0 e)
      (λ (e : (remaining q && ltb (t.number q) bound) ≡ false). absurd (d (cond_false _ (t.number q) 0 e)))
      (bool? (remaining q && ltb (t.number q) bound))

  -- The newest candidate is listed unless it is reached; the rest is listed from its number on.
  pub listing_on : (steps bound : ℕ) (reached : ℕ → Bool) (q number : ℕ) → 0 < steps → q ≡ best (older_key t remaining bound) pieces
      → number ≡ older_key t remaining bound q → (number ≡ 0 → ⊥)
      → listing pieces t view remaining steps bound reached
      ≡ cond (reached q) [] (t.place q ∷ [])
      ++ listing pieces t view remaining (steps - 1) number
      (λ r. reached r || (elem (t.place r) (branches_in (view (t.place q))) && ltb (t.number r) number))
  unfolding listing
  listing_on zero bound reached q number h e f d = absurd (not-suc-le-zero h)
  listing_on (suc steps) bound reached q number h e f d =
      let key = older_key t remaining bound in
      let known = key_number bound q (λ (z : key q ≡ 0). d (f ∙ z)) in
      ap (λ (x : ℕ). cond (is_zero (key x)) [] (cond (reached x) (from x) (t.place x ∷ from x))) (sym e)
      ∙ cond_false (is_zero (key q)) [] _ (ne_eqb (key q) 0 (λ (z : key q ≡ 0). d (f ∙ z)))
      ∙ either (reached q) (t.place q) (from q)
      ∙ ap (λ (xs : List ℕ). cond (reached q) [] (t.place q ∷ []) ++ xs)
      (ap (λ (x : ℕ).
      listing pieces t view remaining steps x (λ r. reached r || (elem (t.place r) (branches_in (view (t.place q))) && ltb (t.number r) x)))
      (sym known ∙ sym f)
      ∙ ap (λ (k : ℕ).
      listing pieces t view remaining k number (λ r. reached r || (elem (t.place r) (branches_in (view (t.place q))) && ltb (t.number r) number)))
      (let z : steps ≡ suc steps - 1 = omega arith in z))
    where
      from : ℕ → List ℕ
      from x =
          listing pieces t view remaining steps (t.number x)
          (λ r. reached r || (elem (t.place r) (branches_in (view (t.place x))) && ltb (t.number r) (t.number x)))

      either : (b : Bool) (x : ℕ) (xs : List ℕ) → cond b xs (x ∷ xs) ≡ cond b [] (x ∷ []) ++ xs
      either true x xs = refl
      either false x xs = refl

-- The whole listing: what is listed so far, and what is listed from here on.
module _ (g : Geometry) (image : ℕ → List ℕ) (pl nu touched : List ℕ) (number : ℕ) where
  abbrev pub listed_from : ℕ → ℕ → (ℕ → Bool) → List ℕ
  listed_from steps bound reached =
      listing (length nu) (tables_of [] pl nu []) (view_of g image) (unflagged (length nu) touched) steps bound reached

  unfoldable pub Listing : List ℕ → ℕ → ℕ → (ℕ → Bool) → Type 0
  Listing done steps bound reached = listed_from (length nu) (suc number) (λ _. false) ≡ done ++ listed_from steps bound reached

  any_places : (bound : ℕ) → key nu touched bound ≡ older_key (tables_of [] pl nu []) (unflagged (length nu) touched) bound
  unfolding older_key
  any_places bound = refl

  pub listing_starts : (flags branches : List ℕ) (size : ℕ) → flags ≡ replicate size 0 → Listing (take 0 branches) (length nu - 0) (number + 1) (flagged flags)
  unfolding Listing
  listing_starts flags branches size e = rw (add-one, none_flagged flags size e, let z : length nu - 0 ≡ length nu = omega arith in z) refl

  pub listing_more : (done done' : List ℕ) (steps bound bound' q place : ℕ) (reached reached' : ℕ → Bool) (known : Bool)
      → Listing done steps bound reached → 0 < steps → q ≡ best (key nu touched bound) (length nu) → bound' ≡ key nu touched bound q
      → (bound' ≡ 0 → ⊥) → known ≡ reached q → place ≡ at pl q → done' ≡ done ++ cond known [] (place ∷ [])
      → reached' ≡ (λ r. reached r || (elem (at pl r) (branches_in (view_of g image (at pl q))) && ltb (at nu r) bound'))
      → Listing done' (steps - 1) bound' reached'
  unfolding Listing
  listing_more done done' steps bound bound' q place reached reached' known s h e f d k p u r =
      let here = any_places bound in
      let rest : List ℕ = listed_from (steps - 1) bound' (λ r. reached r || (elem (at pl r) (branches_in (view_of g image (at pl q))) && ltb (at nu r) bound')) in
      s
      ∙ ap (λ (xs : List ℕ). done ++ xs)
      (listing_on (length nu) (tables_of [] pl nu []) (view_of g image) (unflagged (length nu) touched) steps bound reached q bound' h
      (e ∙ ap (λ (x : ℕ → ℕ). best x (length nu)) here) (f ∙ ap (λ (x : ℕ → ℕ). x q) here) d)
      ∙ sym (append_assoc done (cond (reached q) [] (at pl q ∷ [])) rest)
      ∙ ap (λ (b : Bool). (done ++ cond b [] (at pl q ∷ [])) ++ rest) (sym k)
      ∙ ap (λ (x : ℕ). (done ++ cond known [] (x ∷ [])) ++ rest) (sym p)
      ∙ ap (λ (xs : List ℕ). xs ++ rest) (sym u)
      ∙ ap (λ (x : ℕ → Bool). done' ++ listed_from (steps - 1) bound' x) (sym r)

  -- It ends with all of it, or with the first 25.
  pub listing_full : (branches : List ℕ) (count steps bound : ℕ) (reached : ℕ → Bool) → length branches ≡ 25
      → Listing (take count branches) steps bound reached → count ≡ 25 → take count branches ≡ take 25 (listed_from (length nu) (suc number) (λ _. false))
  unfolding Listing
  listing_full branches count steps bound reached e s full =
      let len = length-take-le count branches (omega arith) in
      sym (ap (take 25) s ∙ take_at (take count branches) (listed_from steps bound reached) 25 (omega arith))

  all_of_it : (branches : List ℕ) (count : ℕ) (rest : List ℕ) → count ≤ 25 → count ≤ length branches → rest ≡ []
      → listed_from (length nu) (suc number) (λ _. false) ≡ take count branches ++ rest
      → take count branches ≡ take 25 (listed_from (length nu) (suc number) (λ _. false))
  all_of_it branches count rest h k e s =
      let len = length-take-le count branches k in
      sym
      (ap (take 25) (s ∙ ap (λ (xs : List ℕ). take count branches ++ xs) e ∙ append-nil (take count branches))
      ∙ take_all 25 (take count branches) (omega arith))

  pub listing_no_more : (branches : List ℕ) (count steps bound : ℕ) (reached : ℕ → Bool) → count ≤ 25 → length branches ≡ 25
      → Listing (take count branches) steps bound reached → NoneOlder nu touched bound
      → take count branches ≡ take 25 (listed_from (length nu) (suc number) (λ _. false))
  unfolding Listing
  listing_no_more branches count steps bound reached h len s none =
      all_of_it branches count (listed_from steps bound reached) h (omega arith)
      (listing_ends (length nu) (tables_of [] pl nu []) (view_of g image) (unflagged (length nu) touched) steps bound reached
      (subst (λ (x : ℕ → ℕ). x (best x (length nu)) ≡ 0) (any_places bound) none))
      s

  pub listing_done : (branches : List ℕ) (count steps bound : ℕ) (reached : ℕ → Bool) → count ≤ 25 → length branches ≡ 25
      → Listing (take count branches) steps bound reached → steps ≡ 0
      → take count branches ≡ take 25 (listed_from (length nu) (suc number) (λ _. false))
  unfolding Listing
  listing_done branches count steps bound reached h len s z =
      all_of_it branches count (listed_from steps bound reached) h (omega arith)
      (listing_over (length nu) (tables_of [] pl nu []) (view_of g image) (unflagged (length nu) touched) steps bound reached z) s

-- The live sector at a branch is the one of the piece that the sector there says.
pub only_there : (g : Geometry) (image : ℕ → List ℕ) (pl : List ℕ) (n b p : ℕ) → Live g image (at pl) n → length pl ≡ n → 1 ≤ b
    → p ≡ at (words_of (image b)) 4 → (q : ℕ) → at pl q ≡ b → (q ≡ p) × (q < length pl)
only_there g image pl n b p live len low e q f =
    ⊎_elim (λ (h : q < length pl).
    (sym (live.piece q (omega arith)) ∙ ap (λ (x : ℕ). at (words_of (image x)) 4) f ∙ sym e, h))
    (λ (h : length pl ≤ q). let z = get_or-eq_default pl 0 {n = q} h in absurd (omega arith)) (lt? q (length pl))

pub reach_there : (reached pl nu : List ℕ) (b b' bound : ℕ) (f : ℕ → Bool) → b ≡ b'
    → f ≡ (λ q. flagged reached q || (eqb (at pl q) b && ltb (at nu q) bound)) → f ≡ (λ q. flagged reached q || (eqb (at pl q) b' && ltb (at nu q) bound))
reach_there reached pl nu b b' bound f e r = subst (λ (x : ℕ). f ≡ (λ q. flagged reached q || (eqb (at pl q) x && ltb (at nu q) bound))) e r

-- All branches of a listed sector.
pub reached_all : (g : Geometry) (bytes : List ℕ) (before f : ℕ → Bool) (pl nu : List ℕ) (bound : ℕ) → valid g bytes (words_of bytes) ≡ true
    → f ≡ (λ r. before r || (elem (at pl r) (take (at (words_of bytes) 6) (branch_words (words_of bytes))) && ltb (at nu r) bound))
    → f ≡ (λ r. before r || (elem (at pl r) (branches_in (decoded g bytes)) && ltb (at nu r) bound))
reached_all g bytes before f pl nu bound v h =
    h ∙ fun_ext (λ q. ap (λ (xs : List ℕ). before q || (elem (at pl q) xs && ltb (at nu q) bound)) (sym (branches_view g bytes v)))

-- A sector of the image, and a word of it.
module _ (n : ℕ) (im s : List ℕ) (place : ℕ) (len : length im ≡ 512 * n) (inside : place < n) (is : s ≡ sector_at im place) where
  pub whole_sector : length s ≡ 512
  whole_sector = ap length is ∙ sector_length im place (omega arith)

  pub word_there : (w k : ℕ) → w ≡ at (words_of s) k → w ≡ at (words_of (sector_at im place)) k
  word_there w k e = e ∙ ap (λ (x : List ℕ). at (words_of x) k) is

  room_there : length (branch_words (words_of (sector_at im place))) ≡ 24
  room_there = branch_room_lem (sector_at im place) (sector_length im place (omega arith))

-- The branches of a signed sector; each names a sector.
module _ (g : Geometry) (im s : List ℕ) (place : ℕ) (len : length im ≡ 512 * g.n) (inside : place < g.n) (is : s ≡ sector_at im place)
    (signed : valid g (sector_at im place) (words_of (sector_at im place)) ≡ true) where
  pub branches_there : (count : ℕ) → count ≡ at (words_of s) 6
      → (count ≡ at (words_of (sector_at im place)) 6) × (count ≤ length (branch_words (words_of (sector_at im place))))
  branches_there count e =
      let few = few_branches g (sector_at im place) signed in
      let there = word_there g.n im s place len inside is count 6 e in
      let room = room_there g.n im s place len inside is in
      (there, omega arith)

  pub branch_whole : (i : ℕ) → i < at (words_of (sector_at im place)) 6 → (length s ≡ 512) × (i < 24)
  branch_whole i h =
      let few = few_branches g (sector_at im place) signed in
      (whole_sector g.n im s place len inside is, omega arith)

  pub branch_there : (i b : ℕ) → i < at (words_of (sector_at im place)) 6 → b ≡ at (branch_words (words_of s)) i
      → (b ≡ at (branch_words (words_of (sector_at im place))) i) × (1 ≤ b) × (b < g.n)
  branch_there i b h e =
      let there = e ∙ ap (λ (x : List ℕ). at (branch_words (words_of x)) i) is in
      let w = branch_inside g (sector_at im place) signed i (room_there g.n im s place len inside is) h in
      let low = w.0 in
      let high = w.1 in
      (there, omega arith, omega arith)

-- The newest candidate is taken: the older ones are left, or there is none.
module _ (nu touched : List ℕ) (bound : ℕ) (tree : List ℕ) (s : Keyed (length nu) (key nu touched bound) tree) (some : 0 < length nu) (q number : ℕ)
    (first : (q ≡ best (key_at (length nu) tree) (length nu)) × (q < length nu)) (is : number ≡ key nu touched bound q) where
  pub taken_one : (tree' : List ℕ) → (number ≡ 0 → ⊥) → Keyed (length nu) (below number (key_at (length nu) tree)) tree' → Taken nu touched bound tree' q number
  taken_one tree' d k =
      record {
        newest = newest_first_lem nu touched bound tree s q some first.0;
        inside = first.1;
        some = d;
        key = is;
        older = older_left nu touched bound tree s q number tree' is d k;
      }

  pub taken_none : number ≡ 0 → NoneOlder nu touched bound
  taken_none z = ap (key nu touched bound) (sym (newest_first_lem nu touched bound tree s q some first.0)) ∙ sym is ∙ z

-- One step: the newest candidate is listed unless it is reached, and all of its branches are reached.
pub listing_next : (g : Geometry) (image : ℕ → List ℕ) (pl nu touched : List ℕ) (number : ℕ) (done done' : List ℕ) (i bound bound' q : ℕ)
    (tree reached reached' : List ℕ) → Live g image (at pl) (length nu)
    → Listing g image pl nu touched number done (length nu - i) bound (flagged reached) → i < length nu → Taken nu touched bound tree q bound'
    → done' ≡ done ++ cond (eqb (at reached q) 1) [] (at pl q ∷ [])
    → flagged reached' ≡ (λ r. flagged reached r || (elem (at pl r) (take (at (words_of (image (at pl q))) 6) (branch_words (words_of (image (at pl q))))) && ltb (at nu r) bound'))
    → Listing g image pl nu touched number done' (length nu - (i + 1)) bound' (flagged reached')
unfolding flagged
listing_next g image pl nu touched number done done' i bound bound' q tree reached reached' live s h t e r =
    subst (λ (k : ℕ). Listing g image pl nu touched number done' k bound' (flagged reached')) (let k : length nu - i - 1 ≡ length nu - (i + 1) = omega arith in k)
    (listing_more g image pl nu touched number done done' (length nu - i) bound bound' q (at pl q) (flagged reached) (flagged reached') (eqb (at reached q) 1) s
    (omega arith) t.newest t.key t.some refl refl e
    (reached_all g (image (at pl q)) (flagged reached) (flagged reached') pl nu bound' (live.signed q t.inside) r))
