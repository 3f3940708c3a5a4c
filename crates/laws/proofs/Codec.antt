-- What the rest leans on of the formats: a map sector that was made is signed and says what it was made of; a stored block, a
-- blank sector and a park record are never signed; a park record says what it was made of; a block is read as it was written.
use Prim.Native.Nat.{ℕ, zero, suc, ◌+◌, ◌*◌, ◌-◌, ◌/◌, ◌%◌, ◌^◌, ◌≤◌, ◌<◌}
use mathlib.Core.Path.{◌≡◌, refl, sym, ◌∙◌, ap}
use mathlib.Core.Logic.{⊎_elim}
use mathlib.Core.Bool.{Bool, true, false}
use mathlib.Core.List.{List, [], ◌∷◌, ◌++◌, append_assoc}
use mathlib.Core.Option.{none, some}
use native.Mathlib.Nat.{div-div-eq-div-mul, mod-eq_of_lt}
use native.Mathlib.Omega.{arith}
use lib.ListN.{length, take, drop, replicate, length-append, length-replicate}
use lib.Seq.{take-append_seam, drop-append_seam, take_at, drop_at}
use lib.Dec.{leb, ltb, eqb}
use borrow.Author.Tests.{ltb-true, lt-ltb, le-leb, lt-leb, leb-true, eq-eqb, ne_eqb, eqb-true}
use Rattle.geometry.specs.declared.Geometry.{Geometry}
use Rattle.geometry.specs.Geometry.{within, pieces_for, branch_room}
use Rattle.layout.specs.Bounded.{all, same, is_zero}
use Rattle.layout.specs.Word.{word, words_of, bytes_of, word_sum, balance, starts_with, balanced}
use Rattle.layout.specs.MapSector.{MapSector, map_mark, kind_of, encoded, branches_fit, valid, fields, decoded}
use Rattle.layout.specs.Entry.{blank, is_empty, sector_of, complemented, needs_flip, stored, entry_for, restored}
use Rattle.layout.specs.ParkRecord.{Parked, park_record, is_park_record, parked_in}
use Rattle.laws.proofs.Bounded.{bool?, and_l, and_r, and_i, cond_true, cond_false}

-- Words.

abbrev pub is_word : ℕ → Bool
is_word w = ltb w (2 ^ 32)

pub word_bytes_lem : (w : ℕ) → w < 2 ^ 32 → word (w % 256) (w / 256 % 256) (w / 65536 % 256) (w / 16777216 % 256) ≡ w
word_bytes_lem w h =
    let b : w / 256 / 256 ≡ w / 65536 = div-div-eq-div-mul w 256 256 in
    let c : w / 256 / 256 / 256 ≡ w / 16777216 = ap (λ (x : ℕ). x / 256) b ∙ div-div-eq-div-mul w 65536 256 in
    let top : w / 256 / 256 / 256 % 256 ≡ w / 256 / 256 / 256 = mod-eq_of_lt (omega arith) in
    rw (← b, ← c) (omega arith)

pub words_of_bytes : (ws : List ℕ) → all is_word ws ≡ true → words_of (bytes_of ws) ≡ ws
unfolding all words_of bytes_of
words_of_bytes [] a = refl
words_of_bytes (w ∷ ws) a =
    rw (word_bytes_lem w (ltb-true w (2 ^ 32) (and_l (is_word w) (all is_word ws) a)), words_of_bytes ws (and_r (is_word w) (all is_word ws) a))

pub sum_below_lem : (ws : List ℕ) → word_sum ws < 2 ^ 32
unfolding word_sum
sum_below_lem [] = omega arith
sum_below_lem (w ∷ ws) = omega arith

-- A balanced sector adds up to zero.
pub balance_sums : (mark : ℕ) (ws : List ℕ) → word_sum (mark ∷ balance (word_sum (mark ∷ ws)) ∷ ws) ≡ 0
unfolding word_sum
balance_sums mark ws = let h = sum_below_lem ws in omega arith

pub all_append : (test : ℕ → Bool) (xs ys : List ℕ) → all test xs ≡ true → all test ys ≡ true → all test (xs ++ ys) ≡ true
unfolding all
all_append test [] ys p q = q
all_append test (x ∷ xs) ys p q =
    and_i (test x) (all test (xs ++ ys)) (and_l (test x) (all test xs) p) (all_append test xs ys (and_r (test x) (all test xs) p) q)

pub all_implies : (test other : ℕ → Bool) (xs : List ℕ) → ((x : ℕ) → test x ≡ true → other x ≡ true) → all test xs ≡ true
    → all other xs ≡ true
unfolding all
all_implies test other [] f p = refl
all_implies test other (x ∷ xs) f p =
    and_i (other x) (all other xs) (f x (and_l (test x) (all test xs) p)) (all_implies test other xs f (and_r (test x) (all test xs) p))

pub all_replicate : (test : ℕ → Bool) (n x : ℕ) → test x ≡ true → all test (replicate n x) ≡ true
unfolding all
all_replicate test zero x e = refl
all_replicate test (suc n) x e = and_i (test x) (all test (replicate n x)) e (all_replicate test n x e)

-- A map sector that a volume of N sectors and L blocks can hold.
pub record WellFormed (g : Geometry) (m : MapSector) : Type 0 where
  pub sectors : g.n ≤ 65536
  pub blocks : g.l < 2 ^ 32
  pub low : 1 ≤ m.number
  pub high : m.number < 2 ^ 32
  pub piece : m.piece < pieces_for g.l
  pub few : length m.branches ≤ branch_room
  pub branches : all (within 1 (g.n - 1)) m.branches ≡ true
  pub count : length m.entries ≡ 96
  pub entries : all is_word m.entries ≡ true
  pub past : all is_zero (drop (g.l - 96 * m.piece) m.entries) ≡ true

abbrev mark_word : ℕ
mark_word = 0x314D4C56

-- The words from 2 on.
body : ℕ → MapSector → List ℕ
body l m =
    m.number ∷ 0 ∷ m.piece ∷ kind_of m.closing ∷ length m.branches ∷ l
    ∷ (m.branches ++ (replicate (branch_room - length m.branches) 0 ++ m.entries))

kind_small : (c : Bool) → (kind_of c ≤ 1) × (eqb (kind_of c) 1 ≡ c)
kind_small true = (omega arith, refl)
kind_small false = (omega arith, refl)

module _ (g : Geometry) (m : MapSector) (ok : WellFormed g m) where
  body_words : all is_word (body g.l m) ≡ true
  unfolding all body
  body_words =
      let k = (kind_small m.closing).0 in
      let w = lt-ltb m.number (2 ^ 32) ok.high in
      let p = lt-ltb m.piece (2 ^ 32) (let h = ok.piece in let b = ok.blocks in omega arith) in
      let c = lt-ltb (kind_of m.closing) (2 ^ 32) (omega arith) in
      let f = lt-ltb (length m.branches) (2 ^ 32) (let h = ok.few in omega arith) in
      let b = lt-ltb g.l (2 ^ 32) ok.blocks in
      rw (w, p, c, f, b)
      (all_append is_word m.branches (replicate (branch_room - length m.branches) 0 ++ m.entries)
      (all_implies (within 1 (g.n - 1)) is_word m.branches
      (λ x h.
      let s = ok.sectors in
      let t = leb-true x (g.n - 1) (and_r (leb 1 x) (leb x (g.n - 1)) h) in
      lt-ltb x (2 ^ 32) (omega arith))
      ok.branches)
      (all_append is_word (replicate (branch_room - length m.branches) 0) m.entries
      (all_replicate is_word (branch_room - length m.branches) 0 refl) ok.entries))

  padded : length (m.branches ++ replicate (branch_room - length m.branches) 0) ≡ branch_room
  padded = let h = ok.few in simp (length-append, length-replicate) (omega arith)

  weight : ℕ
  weight = balance (word_sum (mark_word ∷ body g.l m))

  sector_words : words_of (encoded g.l m) ≡ mark_word ∷ weight ∷ body g.l m
  unfolding encoded balanced words_of bytes_of body weight all
  sector_words =
      ap (λ (ws : List ℕ). mark_word ∷ ws)
      (words_of_bytes (weight ∷ body g.l m)
      (and_i (is_word weight) (all is_word (body g.l m)) (lt-ltb weight (2 ^ 32) (omega arith)) body_words))

  branch_words_lem : take branch_room (m.branches ++ (replicate (branch_room - length m.branches) 0 ++ m.entries))
      ≡ m.branches ++ replicate (branch_room - length m.branches) 0
  branch_words_lem =
      ap (take branch_room) (sym (append_assoc m.branches (replicate (branch_room - length m.branches) 0) m.entries))
      ∙ take_at (m.branches ++ replicate (branch_room - length m.branches) 0) m.entries branch_room padded

  entry_words_lem : drop branch_room (m.branches ++ (replicate (branch_room - length m.branches) 0 ++ m.entries)) ≡ m.entries
  entry_words_lem =
      ap (drop branch_room) (sym (append_assoc m.branches (replicate (branch_room - length m.branches) 0) m.entries))
      ∙ drop_at (m.branches ++ replicate (branch_room - length m.branches) 0) m.entries branch_room padded

  starts : starts_with map_mark (encoded g.l m) ≡ true
  unfolding encoded balanced starts_with same
  starts = refl

  branches_fit_lem : branches_fit g.n (length m.branches) (m.branches ++ replicate (branch_room - length m.branches) 0) ≡ true
  unfolding branches_fit
  branches_fit_lem =
      rw (
        take-append_seam m.branches (replicate (branch_room - length m.branches) 0),
        drop-append_seam m.branches (replicate (branch_room - length m.branches) 0),
        ok.branches,
      )
      (all_replicate is_zero (branch_room - length m.branches) 0 refl)

  sector_valid : valid g (encoded g.l m) (mark_word ∷ weight ∷ body g.l m) ≡ true
  unfolding valid body weight
  sector_valid =
      let k = (kind_small m.closing).0 in
      rw (
        starts,
        eq-eqb (word_sum (mark_word ∷ weight ∷ body g.l m)) 0 (balance_sums mark_word (body g.l m)),
        le-leb 1 m.number ok.low,
        lt-ltb m.piece (pieces_for g.l) ok.piece,
        le-leb (kind_of m.closing) 1 k,
        le-leb (length m.branches) branch_room ok.few,
        eq-eqb g.l g.l refl,
        branch_words_lem,
        branches_fit_lem,
        entry_words_lem,
      )
      ok.past

  sector_fields : fields (mark_word ∷ weight ∷ body g.l m) ≡ m
  unfolding body
  sector_fields = λ i.
      record {
        number = m.number;
        piece = m.piece;
        closing = (kind_small m.closing).1 i;
        branches =
            (ap (take (length m.branches)) branch_words_lem
            ∙ take-append_seam m.branches (replicate (branch_room - length m.branches) 0)) i;
        entries = entry_words_lem i;
      }

  -- A map sector that was made is signed, and says what it was made of.
  pub decoded_encoded : decoded g (encoded g.l m) ≡ some m
  unfolding decoded
  decoded_encoded =
      rw (
        sector_words,
        cond_true (valid g (encoded g.l m) (mark_word ∷ weight ∷ body g.l m)) (some (fields (mark_word ∷ weight ∷ body g.l m))) none sector_valid,
      )
      (ap some sector_fields)

-- What does not begin with the mark is not signed.
pub unmarked : (g : Geometry) (bytes : List ℕ) → starts_with map_mark bytes ≡ false → decoded g bytes ≡ none
unfolding decoded valid
unmarked g bytes e = rw e refl

pub blank_unsigned : (g : Geometry) → decoded g blank ≡ none
unfolding starts_with same
blank_unsigned g = unmarked g blank refl

pub park_unsigned : (g : Geometry) (p : Parked) → decoded g (park_record p) ≡ none
unfolding starts_with same park_record balanced
park_unsigned g p = unmarked g (park_record p) refl

first_byte : (b : ℕ) (bs : List ℕ) → needs_flip (b ∷ bs) ≡ true → b ≡ 0x56
unfolding needs_flip starts_with same
first_byte b bs e = eqb-true b 0x56 (and_l (eqb b 0x56) (same (take 3 bs) (0x4C ∷ 0x4D ∷ 0x31 ∷ [])) e)

flip_unmarked : (block : List ℕ) → needs_flip block ≡ true → starts_with map_mark (complemented block) ≡ false
unfolding starts_with same complemented
flip_unmarked [] e = refl
flip_unmarked (b ∷ bs) e = rw (first_byte b bs e) refl

pub stored_unsigned : (g : Geometry) (block : List ℕ) → decoded g (stored block) ≡ none
unfolding stored needs_flip
stored_unsigned g block =
    ⊎_elim (λ (z : needs_flip block ≡ true).
    unmarked g (stored block) (rw (cond_true (needs_flip block) (complemented block) block z) (flip_unmarked block z)))
    (λ (z : needs_flip block ≡ false).
    unmarked g (stored block) (rw (cond_false (needs_flip block) (complemented block) block z) z))
    (bool? (needs_flip block))

flip_back : (block : List ℕ) → needs_flip block ≡ true → complemented (complemented block) ≡ block
unfolding complemented
flip_back [] e = refl
flip_back (b ∷ bs) e = rw (first_byte b bs e) refl

-- A written block is read as it was written.
pub restored_stored : (block : List ℕ) (place : ℕ) → 1 ≤ place → place < 2 ^ 31 → restored (entry_for block place) (stored block) ≡ block
unfolding restored entry_for stored
restored_stored block place low high =
    ⊎_elim (λ (z : needs_flip block ≡ true).
    rw (
      z,
      ne_eqb (place + 2 ^ 31) 0 (λ (e : place + 2 ^ 31 ≡ 0). omega arith),
      le-leb (2 ^ 31) (place + 2 ^ 31) (omega arith),
    )
    (flip_back block z))
    (λ (z : needs_flip block ≡ false).
    rw (z, ne_eqb place 0 (λ (e : place ≡ 0). omega arith), lt-leb (2 ^ 31) place high) refl)
    (bool? (needs_flip block))

pub entry_sector : (block : List ℕ) (place : ℕ) → place < 2 ^ 31 → sector_of (entry_for block place) ≡ place
unfolding entry_for
entry_sector block place high =
    ⊎_elim (λ (z : needs_flip block ≡ true). rw z (omega arith)) (λ (z : needs_flip block ≡ false). rw z (mod-eq_of_lt high))
    (bool? (needs_flip block))

pub entry_full : (block : List ℕ) (place : ℕ) → 1 ≤ place → is_empty (entry_for block place) ≡ false
unfolding entry_for
entry_full block place low =
    ⊎_elim (λ (z : needs_flip block ≡ true). rw z (ne_eqb (place + 2 ^ 31) 0 (λ (e : place + 2 ^ 31 ≡ 0). omega arith)))
    (λ (z : needs_flip block ≡ false). rw z (ne_eqb place 0 (λ (e : place ≡ 0). omega arith))) (bool? (needs_flip block))

pub entry_word : (block : List ℕ) (place : ℕ) → place < 2 ^ 31 → entry_for block place < 2 ^ 32
unfolding entry_for
entry_word block place high =
    ⊎_elim (λ (z : needs_flip block ≡ true). rw z (omega arith)) (λ (z : needs_flip block ≡ false). rw z (omega arith))
    (bool? (needs_flip block))

pub restored_empty : (bytes : List ℕ) → restored 0 bytes ≡ blank
unfolding restored
restored_empty bytes = refl

-- A park record says what it was made of, and a blank sector is none.
park_words : Parked → List ℕ
park_words p =
    let ws = p.number ∷ p.tail ∷ replicate 124 0 in
    0x31504C56 ∷ balance (word_sum (0x31504C56 ∷ ws)) ∷ ws

park_words_lem : (p : Parked) → p.number < 2 ^ 32 → p.tail < 2 ^ 32 → words_of (park_record p) ≡ park_words p
unfolding park_record balanced words_of bytes_of park_words all
park_words_lem p a b =
    let ws = p.number ∷ p.tail ∷ replicate 124 0 in
    let bal = balance (word_sum (0x31504C56 ∷ ws)) in
    ap (λ (xs : List ℕ). 0x31504C56 ∷ xs)
    (words_of_bytes (bal ∷ ws)
    (rw (lt-ltb bal (2 ^ 32) (omega arith), lt-ltb p.number (2 ^ 32) a, lt-ltb p.tail (2 ^ 32) b)
    (all_replicate is_word 124 0 refl)))

park_laid_out : (p : Parked) → is_park_record (park_record p) (park_words p) ≡ true
unfolding is_park_record starts_with same park_record balanced park_words
park_laid_out p =
    let ws = p.number ∷ p.tail ∷ replicate 124 0 in
    rw (eq-eqb (word_sum (0x31504C56 ∷ balance (word_sum (0x31504C56 ∷ ws)) ∷ ws)) 0 (balance_sums 0x31504C56 ws))
    (all_replicate is_zero 124 0 refl)

pub parked_park_record : (p : Parked) → p.number < 2 ^ 32 → p.tail < 2 ^ 32 → parked_in (park_record p) ≡ some p
unfolding parked_in park_words
parked_park_record p a b = rw (park_words_lem p a b, park_laid_out p) refl

pub blank_unparked : parked_in blank ≡ none
unfolding parked_in is_park_record starts_with same
blank_unparked = refl
