-- A finished format meets the invariant, whatever the image held before.
use Prim.Native.Nat.{ℕ, zero, suc, ◌+◌, ◌*◌, ◌-◌, ◌≤◌, ◌<◌}
use mathlib.Core.Path.{◌≡◌, refl, sym, ◌∙◌, ap, subst}
use mathlib.Core.Logic.{inl, ⊎_elim}
use mathlib.Core.Bool.{Bool, true, false, cond, not}
use mathlib.Core.List.{List, [], ◌∷◌}
use mathlib.Core.Option.{some}
use native.Mathlib.Omega.{arith}
use lib.ListN.{length, drop, replicate}
use lib.Dec.{leb}
use borrow.Author.Tests.{eq-eqb, ne_eqb}
use Rattle.geometry.specs.declared.Geometry.{Geometry}
use Rattle.geometry.specs.Geometry.{within, pieces_for}
use Rattle.layout.specs.Bounded.{all, is_zero, always, best, count_below, elem, list_from}
use Rattle.layout.specs.MapSector.{MapSector, decoded, encoded}
use Rattle.layout.specs.Entry.{blank, is_empty}
use Rattle.volume.specs.Tables.{named_by, used_by, free_sectors, piece_entries}
use Rattle.volume.specs.Store.{Store, applied, stores_below}
use Rattle.volume.specs.Format.{blank_store, fresh_piece, piece_store, format_stores, format_tables}
use Rattle.volume.specs.Recover.{image_view}
use Rattle.history.specs.History.{zero_disk, Reaches, itself, through}
use Rattle.laws.proofs.Bounded.{lt?, clash, elem_here, best_unique, tabled_at, tabled_past, count_same, count_le}
use Rattle.laws.proofs.Codec.{is_word, WellFormed, decoded_encoded, blank_unsigned}
use Rattle.laws.proofs.Names.{Name, piece, block, Named, sector_named, Sound, elem_named, named_distinct, within_is}
use Rattle.laws.proofs.Stores.{Outcome, applied_cases, applied_skip, applied_at, applied_append, below_has, below_own}
use Rattle.laws.proofs.Sizes.{Fits, some_pieces, view_at, view_below}
use Rattle.agreement.proofs.Room.{free_count, named_length}
use Rattle.agreement.proofs.Members.{entries_count, entries_words, entries_past_l}
use Rattle.history.proofs.Invariant.{Ground, Settled}

constant : (f : ℕ → ℕ) (from n : ℕ) → ((k : ℕ) → f k ≡ 0) → list_from f from n ≡ replicate n 0
unfolding list_from
constant f from zero h = refl
constant f from (suc n) h = λ i. ◌∷◌ (h from i) (constant f (suc from) n h i)

no_entries : (l p : ℕ) → replicate 96 0 ≡ piece_entries l (λ _. 0) p
unfolding piece_entries
no_entries l p = sym (constant (λ b. cond (leb l b) 0 0) (96 * p) 96 (λ k. either (leb l k)))
  where
    either : (b : Bool) → ◌≡◌ {A = ℕ} (cond b 0 0) 0
    either true = refl
    either false = refl

count_zero : (m : ℕ) → count_below (λ b. false) m ≡ 0
unfolding count_below
count_zero zero = refl
count_zero (suc m) = count_zero m

module _ (g : Geometry) (fit : Fits g) (before : ℕ → List ℕ) where
  abbrev pub image' : ℕ → List ℕ
  image' = applied (format_stores g) before

  blanked : ℕ → List ℕ
  blanked = applied (stores_below always blank_store g.n) before

  split : image' ≡ applied (stores_below always (piece_store g.l) (pieces_for g.l)) blanked
  unfolding format_stores blanked
  split = applied_append (stores_below always blank_store g.n) (stores_below always (piece_store g.l) (pieces_for g.l)) before

  all_blank : (k : ℕ) → k < g.n → blanked k ≡ blank
  unfolding blanked
  all_blank k h =
      applied_at (stores_below always blank_store g.n) before (blank_store k) (below_own always blank_store g.n k h refl)
      (λ r a e. let w = below_has always blank_store g.n r a in ap (λ (x : Store). x.bytes) w.3)

  piece_stands : (p : ℕ) → p < pieces_for g.l → image' (suc p) ≡ encoded g.l (fresh_piece g.l p)
  piece_stands p h =
      ap (λ (f : ℕ → List ℕ). f (suc p)) split
      ∙ applied_at (stores_below always (piece_store g.l) (pieces_for g.l)) blanked (piece_store g.l p) (below_own always (piece_store g.l) (pieces_for g.l) p h refl)
      (λ r a e.
      let w = below_has always (piece_store g.l) (pieces_for g.l) r a in
      let q : suc w.0 ≡ suc p = ap (λ (x : Store). x.sector) (sym w.3) ∙ e in
      ap (λ (x : Store). x.bytes) w.3 ∙ ap (λ (z : ℕ). encoded g.l (fresh_piece g.l z)) (let y : w.0 ≡ p = omega arith in y))

  fresh_fits : (p : ℕ) → p < pieces_for g.l → WellFormed g (fresh_piece g.l p)
  unfolding all
  fresh_fits p h =
      let most = fit.most in
      let least = fit.least in
      record {
        sectors = fit.sectors;
        blocks = omega arith;
        low = omega arith;
        high = omega arith;
        piece = h;
        few = few p;
        branches = inside p h;
        count = ap length (no_entries g.l p) ∙ entries_count g.l (λ _. 0) p;
        entries = subst (λ (xs : List ℕ). all is_word xs ≡ true) (sym (no_entries g.l p)) (entries_words g.l (λ _. 0) p (λ b i. omega arith));
        past = subst (λ (xs : List ℕ). all is_zero (drop (g.l - 96 * p) xs) ≡ true) (sym (no_entries g.l p)) (entries_past_l g.l (λ _. 0) p);
      }
    where
      few : (p : ℕ) → length (fresh_piece g.l p).branches ≤ 24
      few zero = omega arith
      few (suc p) = rw (ne_eqb (suc p) 0 (λ (e : suc p ≡ 0). omega arith)) (omega arith)

      inside : (p : ℕ) → p < pieces_for g.l → all (within 1 (g.n - 1)) (fresh_piece g.l p).branches ≡ true
      inside zero i = refl
      inside (suc p) i =
          let least = fit.least in
          rw (ne_eqb (suc p) 0 (λ (e : suc p ≡ 0). omega arith), within_is 1 (g.n - 1) (suc p) (omega arith) (omega arith)) refl

  view_piece : (p : ℕ) → p < pieces_for g.l → image_view g image' (suc p) ≡ some (fresh_piece g.l p)
  view_piece p h =
      let least = fit.least in
      view_at g image' (suc p) (omega arith) ∙ ap (decoded g) (piece_stands p h) ∙ decoded_encoded g (fresh_piece g.l p) (fresh_fits p h)

  -- Only those are signed.
  signed_pieces_lem : (k : ℕ) (a : MapSector) → image_view g image' k ≡ some a → (p : ℕ) × (p < pieces_for g.l) × (k ≡ suc p) × (a ≡ fresh_piece g.l p)
  unfolding Outcome
  signed_pieces_lem k a e =
      let below = view_below g image' k a e in
      ⊎_elim (λ w.
      let q = view_at g image' k below ∙ ap (decoded g) (ap (λ (f : ℕ → List ℕ). f k) split ∙ w.0 ∙ all_blank k below) ∙ blank_unsigned g in
      let z : ◌≡◌ {A = ℕ} 0 1 = cc in
      absurd (omega arith))
      (λ w.
      let v = below_has always (piece_store g.l) (pieces_for g.l) w.0 w.1 in
      let at : k ≡ suc v.0 = sym w.2 ∙ ap (λ (x : Store). x.sector) v.3 in
      let q = subst (λ (j : ℕ). image_view g image' j ≡ some a) at e in
      let r = view_piece v.0 v.1 in
      (v.0, v.1, at, cc))
      (applied_cases (stores_below always (piece_store g.l) (pieces_for g.l)) blanked k)

  pub blank_0 : image' 0 ≡ blank
  blank_0 =
      let least = fit.least in
      ap (λ (f : ℕ → List ℕ). f 0) split
      ∙ applied_skip (stores_below always (piece_store g.l) (pieces_for g.l)) blanked 0
      (λ r a e.
      let w = below_has always (piece_store g.l) (pieces_for g.l) r a in
      let q : suc w.0 ≡ 0 = ap (λ (x : Store). x.sector) (sym w.3) ∙ e in
      omega arith)
      ∙ all_blank 0 (omega arith)

  -- The tables.
  entry_0 : (b : ℕ) → (format_tables g.l).entry b ≡ 0
  unfolding format_tables
  entry_0 b = refl

  place_at : (p : ℕ) → p < pieces_for g.l → (format_tables g.l).place p ≡ suc p
  unfolding format_tables
  place_at p h = tabled_at 0 (pieces_for g.l) suc p h

  number_at : (p : ℕ) → p < pieces_for g.l → (format_tables g.l).number p ≡ suc p
  unfolding format_tables
  number_at p h = tabled_at 0 (pieces_for g.l) suc p h

  used_at : (k : ℕ) → (format_tables g.l).is_used k ≡ used_by (named_by g.l (format_tables g.l).entry (format_tables g.l).place) k
  unfolding format_tables
  used_at k = refl

  abbrev Here : Name → Type 0
  Here x = Named g.l (format_tables g.l).entry (format_tables g.l).place x

  abbrev sector : Name → ℕ
  sector x = sector_named g.l (format_tables g.l).entry (format_tables g.l).place x

  low : (x : Name) → Here x → 1 ≤ sector x
  low (piece p) h = rw (place_at p h) (omega arith)
  low (block b) h = clash (is_empty ((format_tables g.l).entry b)) (ap is_empty (entry_0 b)) h.1

  high : (x : Name) → Here x → sector x ≤ g.n - 1
  high (piece p) h = let least = fit.least in rw (place_at p h) (omega arith)
  high (block b) h = clash (is_empty ((format_tables g.l).entry b)) (ap is_empty (entry_0 b)) h.1

  once : (x y : Name) → Here x → Here y → sector x ≡ sector y → x ≡ y
  once (piece p) (piece q) h k e =
      let a = place_at p h in let b = place_at q k in ap piece (let z : p ≡ q = omega arith in z)
  once (piece p) (block c) h k e = clash (is_empty ((format_tables g.l).entry c)) (ap is_empty (entry_0 c)) k.1
  once (block b) (piece q) h k e = clash (is_empty ((format_tables g.l).entry b)) (ap is_empty (entry_0 b)) h.1
  once (block b) (block c) h k e = clash (is_empty ((format_tables g.l).entry b)) (ap is_empty (entry_0 b)) h.1

  none_full : count_below (λ b. not (is_empty ((format_tables g.l).entry b))) g.l ≡ 0
  none_full = count_same (λ b. not (is_empty ((format_tables g.l).entry b))) (λ b. false) g.l (λ b h. ap (λ (e : ℕ). not (is_empty e)) (entry_0 b)) ∙ count_zero g.l

  room : pieces_for g.l ≤ free_sectors g.n (format_tables g.l).is_used
  unfolding free_sectors
  room =
      let least = fit.least in
      let named = named_by g.l (format_tables g.l).entry (format_tables g.l).place in
      let count = free_count g.n named (omega arith)
      (λ k e. let w = elem_named g.l (format_tables g.l).entry (format_tables g.l).place k e in
      (rw (← w.2) (low w.0 w.1), let z = high w.0 w.1 in let y = w.2 in omega arith))
      (named_distinct g.l (format_tables g.l).entry (format_tables g.l).place once) in
      let exact = count_same (λ k. not ((format_tables g.l).is_used k)) (λ k. not (used_by named k)) g.n (λ k h. ap not (used_at k)) in
      let len = named_length g.l (format_tables g.l).entry (format_tables g.l).place in
      let full = none_full in
      let all = count_le always (pieces_for g.l) in
      omega arith

  newest : (p : ℕ) → suc p ≡ pieces_for g.l → best (format_tables g.l).number (pieces_for g.l) ≡ p
  newest p e =
      best_unique (format_tables g.l).number (pieces_for g.l) p (omega arith)
      (λ j h d.
      let a = number_at j h in
      let b = number_at p (omega arith) in
      ⊎_elim (λ (z : j < p). omega arith) (λ (z : p ≤ j). absurd (d (omega arith))) (lt? j p))

  sound : Sound g (format_tables g.l) (pieces_for g.l) (pieces_for g.l)
  sound =
      let some = some_pieces g.l fit.some in
      let last : suc (pieces_for g.l - 1) ≡ pieces_for g.l = omega arith in
      let top = newest (pieces_for g.l - 1) last in
      record {
        low = low;
        high = high;
        once = once;
        used = λ k h. used_at k;
        room = room;
        numbers = λ p q h k e. let a = number_at p h in let b = number_at q k in omega arith;
        from1 = λ p h. rw (number_at p h) (omega arith);
        tail_is = rw (top, place_at (pieces_for g.l - 1) (omega arith)) (omega arith);
        number_is = rw (top, number_at (pieces_for g.l - 1) (omega arith)) (omega arith);
      }

  -- Each piece is reached from the one after it.
  reached : (k p : ℕ) → p + suc k ≡ pieces_for g.l → Reaches (image_view g image') (format_tables g.l).place (pieces_for g.l) (pieces_for g.l) p
  unfolding elem
  reached zero p e =
      let last : suc p ≡ pieces_for g.l = omega arith in
      itself {p = p} (omega arith) (place_at p (omega arith) ∙ last) (ap (image_view g image') (sym last) ∙ view_piece p (omega arith))
  reached (suc k) p e =
      let here = place_at p (omega arith) in
      let next = place_at (suc p) (omega arith) in
      through {q = suc p} {p = p} (reached k (suc p) (omega arith))
      (ap (image_view g image') next ∙ view_piece (suc p) (omega arith)) (omega arith)
      (rw (here, ne_eqb (suc p) 0 (λ (z : suc p ≡ 0). omega arith)) (elem_here (suc p) []))
      (ap (image_view g image') here ∙ view_piece p (omega arith)) (omega arith)

  zero_entries : (λ (b : ℕ). 0) ≡ (format_tables g.l).entry
  unfolding format_tables
  zero_entries = refl

  past_place : (p : ℕ) → pieces_for g.l ≤ p → (format_tables g.l).place p ≡ 0
  unfolding format_tables
  past_place p h = tabled_past 0 (pieces_for g.l) suc p h

  past_number : (p : ℕ) → pieces_for g.l ≤ p → (format_tables g.l).number p ≡ 0
  unfolding format_tables
  past_number p h = tabled_past 0 (pieces_for g.l) suc p h

  ground : Ground g image' (format_tables g.l) (pieces_for g.l) (pieces_for g.l) zero_disk
  ground =
      let most = fit.most in
      record {
        agreed = record {
          sound = sound;
          words = λ b h. rw (entry_0 b) (omega arith);
          live = λ p h. (
            fresh_piece g.l p,
            ap (image_view g image') (place_at p h) ∙ view_piece p h,
            refl,
            sym (number_at p h),
            no_entries g.l p ∙ ap (λ (f : ℕ → ℕ). piece_entries g.l f p) (zero_entries),
          );
        };
        high = omega arith;
        closes = λ m e.
            let w = signed_pieces_lem (pieces_for g.l) m e in
            ap (λ (x : MapSector). x.closing) w.3 ∙ eq-eqb (suc w.0) (pieces_for g.l) (sym w.2);
        chain = λ p h. reached (pieces_for g.l - suc p) p (omega arith);
        empty = λ b h e. refl;
        full = λ b h e. clash (is_empty ((format_tables g.l).entry b)) (ap is_empty (entry_0 b)) e;
        unsigned = λ b h e. clash (is_empty ((format_tables g.l).entry b)) (ap is_empty (entry_0 b)) e;
        places_past = past_place;
        numbers_past = past_number;
        entries_past = λ b h. entry_0 b;
        used_all = used_at;
      }

  pub format_settles : Settled g image' (format_tables g.l) (pieces_for g.l) (pieces_for g.l) zero_disk
  format_settles =
      let above : (k : ℕ) (a : MapSector) → image_view g image' k ≡ some a → a.number ≤ pieces_for g.l =
      λ k a e. let w = signed_pieces_lem k a e in let q = ap (λ (x : MapSector). x.number) w.3 in let b = w.1 in omega arith in
      record {
        committed = record {
          ground = ground;
          apart = λ j k a b e f z.
              let v = signed_pieces_lem j a e in
              let w = signed_pieces_lem k b f in
              let x = ap (λ (m : MapSector). m.number) v.3 in
              let y = ap (λ (m : MapSector). m.number) w.3 in
              let c = v.2 in
              let d = w.2 in
              omega arith;
          latest = λ k a e h.
              let w = signed_pieces_lem k a e in
              let x = ap (λ (m : MapSector). m.number) w.3 in
              let y : a.piece ≡ w.0 = ap (λ (m : MapSector). m.piece) w.3 in
              let z = number_at w.0 w.1 in
              rw y (omega arith);
          unclosed = λ k a e h. let b = above k a e in absurd (omega arith);
          park = inl blank_0;
        };
        none_above = above;
      }
