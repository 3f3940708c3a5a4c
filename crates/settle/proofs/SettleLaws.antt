-- Tables changed one at a time: bits, entries, live places and numbers.
use Prim.Native.Nat.{ℕ, ◌+◌, ◌≤◌, ◌<◌}
use mathlib.Core.Path.{◌≡◌, refl, ◌∙◌, ap, fun_ext}
use mathlib.Core.Logic.{⊎_elim}
use mathlib.Core.Bool.{Bool, true, false, cond, not, ◌&&◌, ◌||◌}
use mathlib.Core.List.{List}
use native.Mathlib.Numerals.{add-one}
use native.Mathlib.Omega.{arith}
use lib.ListN.{length, set}
use lib.Dec.{eqb, ltb}
use borrow.Author.Tests.{eq-eqb, ne_eqb, lt-ltb, le-ltb}
use Rattle.layout.specs.Bounded.{at, any_below, updated, updates}
use Rattle.layout.specs.Entry.{is_empty, sector_of}
use Rattle.laws.proofs.Bounded.{lt?, eq?, at_set}
use Rattle.pieces.specs.Arrays.{without}

-- An entry's sector freed.
pub freed_none : (bits : ℕ → Bool) (entry : ℕ) → entry ≡ 0 → bits ≡ (λ k. bits k && not (not (is_empty entry) && eqb k (sector_of entry)))
freed_none bits entry e = fun_ext (λ k. rw (eq-eqb entry 0 e) (either (bits k)))
  where
    either : (a : Bool) → a ≡ (a && true)
    either true = refl
    either false = refl

pub freed_one : (bits bits' : ℕ → Bool) (entry sector : ℕ) → (entry ≡ 0 → ⊥) → sector ≡ sector_of entry → bits' ≡ updated bits sector false
    → bits' ≡ (λ k. bits k && not (not (is_empty entry) && eqb k (sector_of entry)))
freed_one bits bits' entry sector d s e =
    e ∙ fun_ext (λ k. ap (λ (x : ℕ). updated bits x false k) s ∙ rw (ne_eqb entry 0 d) (either (eqb k (sector_of entry)) (bits k)))
  where
    either : (e b : Bool) → cond e false b ≡ (b && not e)
    either true true = refl
    either true false = refl
    either false true = refl
    either false false = refl

-- Sectors freed, one more at a time.
module _ (bits : ℕ → Bool) (test : ℕ → Bool) (sector : ℕ → ℕ) where
  pub without_none : bits ≡ without bits test sector 0
  unfolding without any_below
  without_none = fun_ext (λ k. either (bits k))
    where
      either : (a : Bool) → a ≡ (a && true)
      either true = refl
      either false = refl

  pub without_more : (i : ℕ) (f g : ℕ → Bool) → f ≡ without bits test sector i → g ≡ (λ k. f k && not (test i && eqb k (sector i)))
      → g ≡ without bits test sector (i + 1)
  unfolding without any_below
  without_more i f g e h =
      rw add-one
      (h
      ∙ fun_ext (λ k.
      ap (λ (x : ℕ → Bool). x k && not (test i && eqb k (sector i))) e
      ∙ either (bits k) (any_below (λ j. test j && eqb k (sector j)) i) (test i && eqb k (sector i))))
    where
      either : (b a t : Bool) → ((b && not a) && not t) ≡ (b && not (a || t))
      either true true t = refl
      either true false t = refl
      either false a t = refl

  pub without_hit : (i : ℕ) (f g : ℕ → Bool) → test i ≡ true → f ≡ without bits test sector i → g ≡ updated f (sector i) false
      → g ≡ without bits test sector (i + 1)
  without_hit i f g t e h =
      without_more i f g e (h ∙ fun_ext (λ k. rw t (either (eqb k (sector i)) (f k))))
    where
      either : (e b : Bool) → cond e false b ≡ (b && not e)
      either true true = refl
      either true false = refl
      either false true = refl
      either false false = refl

  pub without_miss : (i : ℕ) (f : ℕ → Bool) → test i ≡ false → f ≡ without bits test sector i → f ≡ without bits test sector (i + 1)
  without_miss i f t e =
      without_more i f f e (fun_ext (λ k. rw t (either (f k))))
    where
      either : (a : Bool) → a ≡ (a && true)
      either true = refl
      either false = refl

-- Sectors marked, one more at a time.
module _ (bits : ℕ → Bool) (taken : List ℕ) where
  abbrev pub marking : ℕ → ℕ → Bool
  marking i k = bits k || any_below (λ j. eqb k (at taken j)) i

  pub marking_none : bits ≡ marking 0
  unfolding any_below
  marking_none = fun_ext (λ k. either (bits k))
    where
      either : (a : Bool) → a ≡ (a || false)
      either true = refl
      either false = refl

  pub marking_more : (i : ℕ) (f g : ℕ → Bool) → f ≡ marking i → g ≡ updated f (at taken i) true → g ≡ marking (i + 1)
  unfolding any_below
  marking_more i f g e h =
      rw add-one
      (h
      ∙ fun_ext (λ k.
      ap (λ (x : ℕ → Bool). updated x (at taken i) true k) e ∙ either (bits k) (any_below (λ j. eqb k (at taken j)) i) (eqb k (at taken i))))
    where
      either : (b a t : Bool) → cond t true (b || a) ≡ (b || (a || t))
      either true a true = refl
      either true a false = refl
      either false true true = refl
      either false true false = refl
      either false false true = refl
      either false false false = refl

-- A word stored in a table.
pub changed_none : (map blocks news : List ℕ) → at map ≡ updates (at map) (at blocks) (at news) 0
unfolding updates
changed_none map blocks news = refl

pub changed_more : (map₀ map blocks news : List ℕ) (i : ℕ) → at blocks i < length map → at map ≡ updates (at map₀) (at blocks) (at news) i
    → at (set map (at blocks i) (at news i)) ≡ updates (at map₀) (at blocks) (at news) (i + 1)
unfolding updates
changed_more map₀ map blocks news i h e =
    rw add-one (at_set map (at blocks i) (at news i) h ∙ ap (λ (f : ℕ → ℕ). updated f (at blocks i) (at news i)) e)

-- The places, or the numbers, of the pieces that were written.
module _ (which : ℕ → Bool) (value old : ℕ → ℕ) where
  abbrev pub live : ℕ → ℕ → ℕ
  live p q = cond (ltb q p && which q) (value q) (old q)

  pub live_none : old ≡ live 0
  live_none = fun_ext (λ q. rw (le-ltb q 0 (omega arith)) refl)

  pub live_skip : (p : ℕ) (f : ℕ → ℕ) → which p ≡ false → f ≡ live p → f ≡ live (p + 1)
  live_skip p f w e =
      e
      ∙ fun_ext (λ q.
      ⊎_elim (λ (z : q ≡ p). rw (z, w, le-ltb p p (omega arith), lt-ltb p (p + 1) (omega arith)) refl)
      (λ (z : q ≡ p → ⊥).
      ⊎_elim (λ (h : q < p). rw (lt-ltb q p h, lt-ltb q (p + 1) (omega arith)) refl)
      (λ (h : p ≤ q). rw (le-ltb q p h, le-ltb q (p + 1) (let y : q ≡ p → ⊥ = z in omega arith)) refl) (lt? q p))
      (eq? q p))

  pub live_put : (p : ℕ) (f g : ℕ → ℕ) → which p ≡ true → f ≡ live p → g ≡ updated f p (value p) → g ≡ live (p + 1)
  live_put p f g w e h =
      h
      ∙ fun_ext (λ q.
      ap (λ (x : ℕ → ℕ). updated x p (value p) q) e
      ∙ ⊎_elim (λ (z : q ≡ p). rw (z, w, eq-eqb p p refl, lt-ltb p (p + 1) (omega arith)) refl)
      (λ (z : q ≡ p → ⊥).
      ⊎_elim (λ (h : q < p). rw (ne_eqb q p z, lt-ltb q p h, lt-ltb q (p + 1) (omega arith)) refl)
      (λ (h : p ≤ q). rw (ne_eqb q p z, le-ltb q p h, le-ltb q (p + 1) (let y : q ≡ p → ⊥ = z in omega arith)) refl) (lt? q p))
      (eq? q p))

  pub live_all : (p : ℕ) (f : ℕ → ℕ) → ((q : ℕ) → p ≤ q → which q ≡ false) → f ≡ live p → f ≡ (λ q. cond (which q) (value q) (old q))
  live_all p f past e =
      e
      ∙ fun_ext (λ q.
      ⊎_elim (λ (h : q < p). rw (lt-ltb q p h) refl) (λ (h : p ≤ q). rw (le-ltb q p h, past q h) refl) (lt? q p))
