-- Which refusal a commit meets, by the tests that led there; and what one that meets none may rely on.
use Prim.Native.Nat.{ℕ, ◌+◌, ◌*◌, ◌≤◌, ◌<◌}
use mathlib.Core.Path.{◌≡◌, refl, sym, ◌∙◌}
use mathlib.Core.Logic.{⊎_elim}
use mathlib.Core.Bool.{Bool, true, false, not}
use mathlib.Core.List.{List, []}
use native.Mathlib.Omega.{arith}
use lib.ListN.{length}
use lib.Dec.{eqb, ltb}
use borrow.Author.Tests.{eqb-true, lt-ltb, le-ltb, not-true, not-false, ltb-false}
use Rattle.std.specs.Prelude.{Result, Ok, Err, ⊤}
use Rattle.geometry.specs.declared.Geometry.{Geometry}
use Rattle.state.specs.declared.State.{State}
use Rattle.answer.specs.declared.Refusal.{Refusal}
use Rattle.answer.specs.declared.Refusal.TheVariants.{BlockNumbers, WrongPhase, Inconsistent, NoRoom, NumbersUsedUp}
use Rattle.geometry.specs.Geometry.{pieces_for, used_bytes, geometry_fits, drive_fits}
use Rattle.answer.specs.Answer.{lengths, named, standing}
use Rattle.state.specs.State.{is_running}
use Rattle.layout.specs.Bounded.{at, same}
use Rattle.layout.specs.Word.{words_of}
use Rattle.layout.specs.MapSector.{valid, decoded}
use Rattle.volume.specs.Tables.{bit_at, memory, sector_at, tables_of, free_sectors, consistent, piece_entries, says_piece, live_valid}
use Rattle.volume.specs.Refusals.{Check, applies, first_of, judged}
use Rattle.volume.specs.Rules.{base}
use Rattle.volume.specs.Format.{tables_fit}
use Rattle.volume.specs.Calls.{view_of, state_fits, state_checks, blocks_fit, tables_agree, commit_checks}
use Rattle.laws.proofs.Bounded.{bool?, not_of, and_l, and_r, all_below_at}
use Rattle.laws.proofs.Names.{sound, piece}
use Rattle.laws.proofs.Sizes.{fits, state_fits_lem, tables_fit_lem}
use Rattle.laws.proofs.Judged.{later, part_passed}
use Rattle.laws.proofs.CommitPassed.{blocks_fit_lem, commit_passed}
use Rattle.pieces.specs.Arrays.{Live}
use Rattle.checks.specs.Left.{lent}
use Rattle.checks.proofs.StateLaws.{refused_by_lengths, passed_by_lengths, sizes_passed, tables_passed}

-- How the volume stands.
pub bits_enough : (im mp pl nu us : List ℕ) (g : Geometry) → tables_fit (memory im mp pl nu us) g ≡ true → g.n ≤ 8 * length us
bits_enough im mp pl nu us g e = let u = (tables_fit_lem im mp pl nu us g e).used in omega arith

module _ (s : State) (im mp pl nu us : List ℕ) (count : ℕ) where
  abbrev free : ℕ
  free = free_sectors s.geometry.n (bit_at us)

  abbrev stands : Result ⊤ Refusal
  stands = first_of standing (commit_checks base s (memory im mp pl nu us) 0 [] true (not (ltb free (count + pieces_for s.geometry.l))))

  pub pieces_few : state_fits s (memory im mp pl nu us) ≡ true → pieces_for s.geometry.l ≤ 256
  pieces_few e = let m = (fits s.geometry (state_fits_lem s im mp pl nu us e).range).most in omega arith

  pub phase_refused : is_running s.phase ≡ false → Err WrongPhase ≡ stands
  unfolding commit_checks first_of applies
  phase_refused e = rw e refl

  module _ (e4 : is_running s.phase ≡ true) (b5 : Bool) (f5 : b5 ≡ tables_agree s (memory im mp pl nu us)) where
    pub tables_refused : not b5 ≡ true → Err Inconsistent ≡ stands
    unfolding commit_checks first_of applies
    tables_refused e = rw (e4, sym f5 ∙ not-true b5 e) refl

    module _ (e5 : not b5 ≡ false) (k pieces : ℕ) (f6 : k ≡ free) (p : pieces ≡ pieces_for s.geometry.l) where
      pub room_refused : k < count + pieces → Err NoRoom ≡ stands
      unfolding commit_checks first_of applies
      room_refused e = rw (e4, sym f5 ∙ not-false b5 e5, lt-ltb free (count + pieces_for s.geometry.l) (omega arith)) refl

      module _ (h : count + pieces ≤ k) where
        enough : ltb free (count + pieces_for s.geometry.l) ≡ false
        enough = le-ltb free (count + pieces_for s.geometry.l) (omega arith)

        pub numbers_refused : 4294967039 < s.number → Err NumbersUsedUp ≡ stands
        unfolding commit_checks first_of applies
        numbers_refused e = rw (e4, sym f5 ∙ not-false b5 e5, enough, lt-ltb 4294967039 s.number e) refl

        pub none_refused : s.number ≤ 4294967039 → Ok tt ≡ stands
        unfolding commit_checks first_of applies
        none_refused e = rw (e4, sym f5 ∙ not-false b5 e5, enough, le-ltb 4294967039 s.number e) refl

-- All together: the verdict on the lengths is v.
module _ (s : State) (im mp pl nu us : List ℕ) (head : ℕ) (blocks : List ℕ) (fit : Bool) (count : ℕ) (v : Result ⊤ Refusal)
    (f : v ≡ first_of lengths (state_checks s (lent (length im) (length mp) (length pl) (length nu) (length us)) fit)) where
  abbrev checks : List Check
  checks = commit_checks base s (memory im mp pl nu us) head blocks fit (not (ltb (free_sectors s.geometry.n (bit_at us)) (count + pieces_for s.geometry.l)))

  pub lengths_refused : (r : Refusal) → v ≡ Err r → Err r ≡ judged checks
  unfolding commit_checks
  lengths_refused r e = refused_by_lengths s im mp pl nu us fit _ v f r e

  module _ (e : v ≡ Ok tt) where
    pub state_passed : state_fits s (memory im mp pl nu us) ≡ true
    state_passed = sizes_passed s im mp pl nu us fit [] v f e

    pub lengths_passed : tables_fit (memory im mp pl nu us) s.geometry ≡ true
    lengths_passed = tables_passed s im mp pl nu us fit [] v f e

    then : (w : Result ⊤ Refusal) → w ≡ first_of later checks → w ≡ judged checks
    unfolding commit_checks
    then w k = passed_by_lengths s im mp pl nu us fit _ v f e w k

    module _ (b3 : Bool) (f3 : b3 ≡ blocks_fit s.geometry head blocks) where
      pub blocks_refused : not b3 ≡ true → Err BlockNumbers ≡ judged checks
      unfolding commit_checks first_of applies
      blocks_refused e3 = then (Err BlockNumbers) (rw (sym f3 ∙ not-true b3 e3) refl)

      module _ (e3 : not b3 ≡ false) where
        pub few_blocks : length blocks ≤ 64
        few_blocks = (blocks_fit_lem s.geometry head blocks (sym f3 ∙ not-false b3 e3)).most

        named_pass : Ok tt ≡ first_of named checks
        unfolding commit_checks first_of applies
        named_pass = rw (sym f3 ∙ not-false b3 e3) refl

        by_standing : first_of standing (commit_checks base s (memory im mp pl nu us) 0 [] true (not (ltb (free_sectors s.geometry.n (bit_at us)) (count + pieces_for s.geometry.l))))
            ≡ first_of standing checks
        unfolding first_of applies commit_checks
        by_standing = refl

        pub standing_decides : (w : Result ⊤ Refusal)
            → w ≡ first_of standing (commit_checks base s (memory im mp pl nu us) 0 [] true (not (ltb (free_sectors s.geometry.n (bit_at us)) (count + pieces_for s.geometry.l))))
            → w ≡ judged checks
        standing_decides w k = then w (part_passed named standing checks w named_pass (k ∙ by_standing))

-- What a commit that no refusal stops relies on.
pub record Passed (s : State) (im mp pl nu us : List ℕ) (head : ℕ) (blocks : List ℕ) (count : ℕ) : Type 0 where
  pub range : geometry_fits s.geometry ≡ true
  pub drive : drive_fits s.geometry.n s.drive ≡ true
  pub image : length im ≡ 512 * s.geometry.n
  pub map : length mp ≡ s.geometry.l
  pub places : length pl ≡ pieces_for s.geometry.l
  pub numbers : length nu ≡ pieces_for s.geometry.l
  pub used : length us ≡ used_bytes s.geometry.n
  pub low : 1 ≤ length blocks
  pub high : length blocks ≤ 64
  pub ascending : (i j : ℕ) → i < j → j < length blocks → at blocks i < at blocks j
  pub inside : (i : ℕ) → i < length blocks → at blocks i < s.geometry.l
  pub head_below : head < s.geometry.n
  pub sound_tables : consistent s.geometry (tables_of mp pl nu us) s.tail s.number ≡ true
  pub live : Live s.geometry (sector_at im) (at pl) (pieces_for s.geometry.l)
  pub room : count + pieces_for s.geometry.l ≤ free_sectors s.geometry.n (bit_at us)
  pub few : s.number ≤ 4294967039

-- A live place is signed with its piece.
says : (g : Geometry) (p number : ℕ) (bytes es : List ℕ) → says_piece (decoded g bytes) p number es ≡ true
    → (valid g bytes (words_of bytes) ≡ true) × (at (words_of bytes) 4 ≡ p)
unfolding says_piece decoded
says g p number bytes es e =
    ⊎_elim (λ (v : valid g bytes (words_of bytes) ≡ true).
    let f = rw v at e in
    (v, eqb-true (at (words_of bytes) 4) p (and_l _ (eqb (at (words_of bytes) 2) number) (and_l _ (same _ es) f))))
    (λ (v : valid g bytes (words_of bytes) ≡ false). let z : ◌≡◌ {A = ℕ} 0 1 = (let f = rw v at e in cc) in absurd (omega arith))
    (bool? (valid g bytes (words_of bytes)))

pub passed : (s : State) (im mp pl nu us : List ℕ) (head : ℕ) (blocks : List ℕ) (count : ℕ)
    → Ok tt ≡ judged (commit_checks base s (memory im mp pl nu us) head blocks true (not (ltb (free_sectors s.geometry.n (bit_at us)) (count + pieces_for s.geometry.l))))
    → Passed s im mp pl nu us head blocks count
unfolding tables_agree live_valid memory
passed s im mp pl nu us head blocks count e =
    let g = s.geometry in
    let t = tables_of mp pl nu us in
    let p = pieces_for g.l in
    let free = free_sectors g.n (bit_at us) in
    let all = commit_passed base s (memory im mp pl nu us) head blocks true (not (ltb free (count + p))) (sym e) in
    let sizes = state_fits_lem s im mp pl nu us all.sizes in
    let tables = tables_fit_lem im mp pl nu us g all.lengths in
    let named = all.named in
    let g1 = consistent g t s.tail s.number in
    let g2 = live_valid g.l t (view_of g (sector_at im)) in
    let agree = and_l g1 g2 all.agree in
    let snd = sound g t s.tail s.number agree in
    let least = (fits g sizes.range).least in
    let says-it : (q : ℕ) → q < p → (valid g (sector_at im (at pl q)) (words_of (sector_at im (at pl q))) ≡ true) × (at (words_of (sector_at im (at pl q))) 4 ≡ q)
    = λ q h. says g q (at nu q) (sector_at im (at pl q)) (piece_entries g.l (at mp) q)
    (all_below_at (λ q. says_piece (view_of g (sector_at im) (at pl q)) q (at nu q) (piece_entries g.l (at mp) q)) p (and_r g1 g2 all.agree) q h) in
    record {
      range = sizes.range;
      drive = all.drive;
      image = sizes.image;
      map = tables.map;
      places = tables.places;
      numbers = tables.numbers;
      used = tables.used;
      low = named.some;
      high = named.most;
      ascending = named.ascending;
      inside = named.below;
      head_below = named.inside;
      sound_tables = agree;
      live = record {
        low = λ q h. snd.low (piece q) h;
        high = λ q h. let z = snd.high (piece q) h in (let y : at pl q < g.n = omega arith in y);
        signed = λ q h. (says-it q h).0;
        piece = λ q h. (says-it q h).1;
      };
      room = ltb-false free (count + p) (not_of (ltb free (count + p)) all.room);
      few = all.numbers;
    }
