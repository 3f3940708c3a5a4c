-- Words and bytes: where a word's bytes stand, what is made of bytes that words gave, and lengths.
use Prim.Native.Nat.{ℕ, zero, suc, ◌+◌, ◌*◌, ◌/◌, ◌%◌, ◌^◌, ◌≤◌, ◌<◌}
use mathlib.Core.Path.{◌≡◌, refl, sym, ap, ◌∙◌}
use mathlib.Core.Bool.{true}
use mathlib.Core.List.{List, [], ◌∷◌, ◌++◌}
use native.Mathlib.Omega.{arith}
use native.Mathlib.Nat.{le_of_suc-le-suc}
use native.Mathlib.Numerals.{add-one}
use lib.ListN.{length, set, take, replicate, length-replicate, replicate-append-replicate}
use lib.Seq.{sets, take-suc, length-take-le}
use borrow.Author.Tests.{lt-ltb}
use Rattle.layout.specs.Bounded.{at, all}
use Rattle.layout.specs.Word.{word, word_bytes, words_of, bytes_of}
use Rattle.laws.proofs.Codec.{is_word}
use Rattle.laws.proofs.Runs.{sets_append, sets_inside, sets_after}

-- Every number of the list is a byte, or a word. (Past the end stands 0.)
abbrev pub Bytes : List ℕ → Type 0
Bytes bs = (i : ℕ) → at bs i < 256

abbrev pub Words : List ℕ → Type 0
Words ws = (i : ℕ) → at ws i < 2 ^ 32

-- 4k, as `get_or` and `drop` compute with it.
quad : ℕ → ℕ
quad zero = zero
quad (suc k) = suc (suc (suc (suc (quad k))))

quad_is : (k : ℕ) → quad k ≡ 4 * k
unfolding quad
quad_is zero = refl
quad_is (suc k) = let e : quad k ≡ 4 * k = quad_is k in omega arith

at_quad : (bs : List ℕ) (k : ℕ) → quad k + 4 ≤ length bs
    → at (words_of bs) k ≡ word (at bs (quad k)) (at bs (suc (quad k))) (at bs (suc (suc (quad k)))) (at bs (suc (suc (suc (quad k)))))
unfolding quad words_of
at_quad [] k h = absurd (omega arith)
at_quad (a ∷ []) k h = absurd (omega arith)
at_quad (a ∷ b ∷ []) k h = absurd (omega arith)
at_quad (a ∷ b ∷ c ∷ []) k h = absurd (omega arith)
at_quad (a ∷ b ∷ c ∷ d ∷ bs) zero h = refl
at_quad (a ∷ b ∷ c ∷ d ∷ bs) (suc k) h = at_quad bs k (omega arith)

-- Word k is made of bytes 4k to 4k + 3.
pub at_words : (bs : List ℕ) (k : ℕ) → 4 * k + 4 ≤ length bs
    → at (words_of bs) k ≡ word (at bs (4 * k)) (at bs (4 * k + 1)) (at bs (4 * k + 2)) (at bs (4 * k + 3))
at_words bs k h =
    let e : quad k ≡ 4 * k = quad_is k in
    let e₁ : suc (quad k) ≡ 4 * k + 1 = omega arith in
    let e₂ : suc (suc (quad k)) ≡ 4 * k + 2 = omega arith in
    let e₃ : suc (suc (suc (quad k))) ≡ 4 * k + 3 = omega arith in
    at_quad bs k (omega arith) ∙ cc

pub length_bytes_of : (ws : List ℕ) → length (bytes_of ws) ≡ 4 * length ws
unfolding bytes_of
length_bytes_of [] = refl
length_bytes_of (w ∷ ws) = let e : length (bytes_of ws) ≡ 4 * length ws = length_bytes_of ws in omega arith

pub length_words_of : (bs : List ℕ) → length (words_of bs) ≡ length bs / 4
unfolding words_of
length_words_of [] = refl
length_words_of (a ∷ []) = refl
length_words_of (a ∷ b ∷ []) = refl
length_words_of (a ∷ b ∷ c ∷ []) = refl
length_words_of (a ∷ b ∷ c ∷ d ∷ bs) = let e : length (words_of bs) ≡ length bs / 4 = length_words_of bs in omega arith

pub all_words : (ws : List ℕ) → Words ws → all is_word ws ≡ true
unfolding all
all_words [] h = refl
all_words (w ∷ ws) h = rw (lt-ltb w (2 ^ 32) (h 0), all_words ws (λ i. h (suc i))) refl

pub bytes_append : (xs ys : List ℕ) → bytes_of (xs ++ ys) ≡ bytes_of xs ++ bytes_of ys
unfolding bytes_of
bytes_append [] ys = refl
bytes_append (x ∷ xs) ys = rw (bytes_append xs ys)

-- Words of bytes that begin with whole words.
pub words_append : (n : ℕ) (xs ys : List ℕ) → length xs ≡ 4 * n → words_of (xs ++ ys) ≡ words_of xs ++ words_of ys
unfolding words_of
words_append n [] ys h = refl
words_append n (a ∷ []) ys h = absurd (omega arith)
words_append n (a ∷ b ∷ []) ys h = absurd (omega arith)
words_append n (a ∷ b ∷ c ∷ []) ys h = absurd (omega arith)
words_append zero (a ∷ b ∷ c ∷ d ∷ xs) ys h = absurd (omega arith)
words_append (suc n) (a ∷ b ∷ c ∷ d ∷ xs) ys h = rw (words_append n xs ys (omega arith))

-- Words that are made of bytes are words.
pub words_bounded : (bs : List ℕ) → Bytes bs → Words (words_of bs)
unfolding words_of
words_bounded [] h i = omega arith
words_bounded (a ∷ []) h i = omega arith
words_bounded (a ∷ b ∷ []) h i = omega arith
words_bounded (a ∷ b ∷ c ∷ []) h i = omega arith
words_bounded (a ∷ b ∷ c ∷ d ∷ bs) h zero = omega (arith, h 0, h 1, h 2, h 3)
words_bounded (a ∷ b ∷ c ∷ d ∷ bs) h (suc i) = words_bounded bs (λ j. h (suc (suc (suc (suc j))))) i

-- Lists of words, by their parts.
pub words_cons : (w : ℕ) (ws : List ℕ) → w < 2 ^ 32 → Words ws → Words (w ∷ ws)
words_cons w ws h hs zero = h
words_cons w ws h hs (suc i) = hs i

pub words_nil : Words []
words_nil i = omega arith

pub words_both : (xs ys : List ℕ) → Words xs → Words ys → Words (xs ++ ys)
words_both [] ys hx hy i = hy i
words_both (x ∷ xs) ys hx hy zero = hx 0
words_both (x ∷ xs) ys hx hy (suc i) = words_both xs ys (λ j. hx (suc j)) hy i

pub words_zeros : (n : ℕ) → Words (replicate n 0)
words_zeros zero i = omega arith
words_zeros (suc n) zero = omega arith
words_zeros (suc n) (suc i) = words_zeros n i

-- More words are stored after a run of words.
pub put_run : (l : List ℕ) (k : ℕ) (ws : List ℕ) (j : ℕ) → length ws ≡ j → (vs : List ℕ)
    → sets (sets l (4 * k) (bytes_of ws)) (4 * (k + j)) (bytes_of vs) ≡ sets l (4 * k) (bytes_of (ws ++ vs))
put_run l k ws j h vs =
    let start : 4 * (k + j) ≡ 4 * k + length (bytes_of ws) = omega (arith, length_bytes_of ws) in
    rw (start, bytes_append) (sym (sets_append l (4 * k) (bytes_of ws) (bytes_of vs)))

pub put_next : (l : List ℕ) (k : ℕ) (ws : List ℕ) (j : ℕ) → length ws ≡ j → (w : ℕ)
    → sets (sets l (4 * k) (bytes_of ws)) (4 * (k + j)) (word_bytes w) ≡ sets l (4 * k) (bytes_of (ws ++ w ∷ []))
unfolding bytes_of
put_next l k ws j h w = put_run l k ws j h (w ∷ [])

pub put_words_next : (l : List ℕ) (k : ℕ) (ws : List ℕ) (j : ℕ) → j < length ws
    → sets (sets l (4 * k) (bytes_of (take j ws))) (4 * (k + j)) (word_bytes (at ws j)) ≡ sets l (4 * k) (bytes_of (take (j + 1) ws))
put_words_next l k ws j h =
    put_next l k (take j ws) j (length-take-le j ws (omega arith)) (at ws j)
    ∙ ap (λ (xs : List ℕ). sets l (4 * k) (bytes_of xs)) (rw (add-one, take-suc ws j 0 h))

zeros_next : (j : ℕ) → ◌≡◌ {A = List ℕ} (replicate j 0 ++ 0 ∷ []) (replicate (j + 1) 0)
zeros_next j = replicate-append-replicate j 1 0

pub put_zeros_next : (l : List ℕ) (k j : ℕ)
    → sets (sets l (4 * k) (bytes_of (replicate j 0))) (4 * (k + j)) (word_bytes 0) ≡ sets l (4 * k) (bytes_of (replicate (j + 1) 0))
put_zeros_next l k j =
    put_next l k (replicate j 0) j (length-replicate j 0) 0
    ∙ ap (λ (xs : List ℕ). sets l (4 * k) (bytes_of xs)) (zeros_next j)

-- Another word takes the place of one of a run.
bytes_set : (ws : List ℕ) (j w : ℕ) → j < length ws → sets (bytes_of ws) (quad j) (word_bytes w) ≡ bytes_of (set ws j w)
unfolding bytes_of quad
bytes_set [] j w h = absurd (omega arith)
bytes_set (x ∷ ws) zero w h = refl
bytes_set (x ∷ ws) (suc j) w h =
    let v = word_bytes w in
    let a : ℕ = x % 256 in
    let b : ℕ = x / 256 % 256 in
    let c : ℕ = x / 65536 % 256 in
    let d : ℕ = x / 16777216 % 256 in
    let q = quad j in
    let rest = bytes_of ws in
    sets_after a (b ∷ c ∷ d ∷ rest) (suc (suc (suc q))) v
    ∙ ap (λ (t : List ℕ). a ∷ t) (sets_after b (c ∷ d ∷ rest) (suc (suc q)) v
    ∙ ap (λ (t : List ℕ). b ∷ t) (sets_after c (d ∷ rest) (suc q) v
    ∙ ap (λ (t : List ℕ). c ∷ t) (sets_after d rest q v
    ∙ ap (λ (t : List ℕ). d ∷ t) (bytes_set ws j w (le_of_suc-le-suc h)))))

pub put_inside : (l : List ℕ) (k : ℕ) (ws : List ℕ) (j w : ℕ) → j < length ws
    → sets (sets l (4 * k) (bytes_of ws)) (4 * (k + j)) (word_bytes w) ≡ sets l (4 * k) (bytes_of (set ws j w))
put_inside l k ws j w h =
    let start : 4 * (k + j) ≡ 4 * k + quad j = omega (arith, quad_is j) in
    rw start
    (sets_inside l (4 * k) (quad j) (bytes_of ws) (word_bytes w) (omega (arith, quad_is j, length_bytes_of ws))
    ∙ ap (sets l (4 * k)) (bytes_set ws j w h))
