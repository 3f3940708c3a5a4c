-- One commit of a batch: which call it is by its kind, the words of its answer, and what it keeps.
use Prim.Native.Nat.{ℕ, zero, suc, ◌+◌, ◌*◌, ◌-◌, ◌^◌, ◌≤◌, ◌<◌}
use mathlib.Core.Path.{◌≡◌, refl, sym, ◌∙◌, subst}
use mathlib.Core.Logic.{⊎_elim}
use mathlib.Core.Bool.{true, false}
use mathlib.Core.List.{List, [], ◌∷◌, ◌++◌, append_assoc}
use native.Mathlib.Omega.{arith}
use lib.ListN.{length, take, drop, set}
use lib.Seq.{sets-eq}
use lib.Dec.{eqb}
use borrow.Author.Tests.{eq-eqb, ne_eqb}
use Rattle.state.specs.declared.State.{State}
use Rattle.answer.specs.declared.Refusal.TheVariants.{BlockNumbers}
use Rattle.answer.specs.Answer.{number_of}
use Rattle.volume.specs.Tables.{Memory, memory}
use Rattle.volume.specs.Store.{After, refused}
use Rattle.volume.specs.Rules.{base}
use Rattle.volume.specs.Calls.{commit_of, drop_change, write_of}
use Rattle.layout.specs.Bounded.{at, sum_below}
use Rattle.batches.specs.Batch.{Commit, commit_made, blocks_of, bytes_of, commit_at}
use Rattle.laws.proofs.Bounded.{bool?}
use Rattle.laws.proofs.Placing.{base_chooses}
use Rattle.batch_checks.proofs.BatchLaws.{sum_grows}
use Rattle.agreement.proofs.Kept.{KeptBy, write_keeps, drop_keeps}

module _ (s : State) (m : Memory) (kind head : ℕ) (blocks bytes : List ℕ) (allowance : ℕ) where
  abbrev one : Commit
  one = record { kind = kind; head = head; blocks = blocks; bytes = bytes }

  pub made_write : kind ≡ 0 → (r : After) → r ≡ write_of s m head blocks bytes allowance → r ≡ commit_made base s m one allowance
  unfolding commit_made
  made_write e r f = rw (eq-eqb kind 0 e) f

  module _ (d : kind ≡ 0 → ⊥) where
    pub made_drop : kind ≡ 1 → (r : After) → r ≡ commit_of base s m head (drop_change blocks) (eqb (length bytes) 0) true allowance
        → r ≡ commit_made base s m one allowance
    unfolding commit_made
    made_drop e r f = rw (ne_eqb kind 0 d, eq-eqb kind 1 e) f

    pub made_neither : (kind ≡ 1 → ⊥) → refused BlockNumbers s m ≡ commit_made base s m one allowance
    unfolding commit_made
    made_neither e = rw (ne_eqb kind 0 d, ne_eqb kind 1 e) refl

-- The i-th of those that are lent: its own block numbers and bytes begin where those before it end.
pub made_at : (words blocks bytes : List ℕ) (i block byte blocks_end bytes_end : ℕ) → block ≡ sum_below (blocks_of words) i → byte ≡ sum_below (bytes_of words) i
    → blocks_end ≡ block + blocks_of words i → bytes_end ≡ byte + bytes_of words i → (s : State) (m : Memory) (allowance : ℕ) (r : After)
    → r
    ≡ commit_made base s m
    (record {
      kind = at words (4 * i);
      head = at words (4 * i + 1);
      blocks = take (blocks_end - block) (drop block blocks);
      bytes = take (bytes_end - byte) (drop byte bytes);
    }) allowance
    → r ≡ commit_made base s m (commit_at words blocks bytes i) allowance
unfolding commit_at
made_at words blocks bytes i block byte blocks_end bytes_end b y be ye s m allowance r e =
    let few : blocks_end - block ≡ blocks_of words i = omega arith in
    let long : bytes_end - byte ≡ bytes_of words i = omega arith in
    rw (few, long, b, y) at e

-- What one commit is lent of the whole stands within it.
pub part_inside : (f : ℕ → ℕ) (i n first total : ℕ) → first ≡ sum_below f i → sum_below f n ≡ total → i < n → first + f i ≤ total
unfolding sum_below
part_inside f i n first total e all h = let g = sum_grows f (suc i) n h in omega arith

-- A sum of words, of as many as a batch has.
pub sum_fits : (f : ℕ → ℕ) → ((j : ℕ) → f j < 2 ^ 32) → (i : ℕ) → sum_below f i ≤ 4294967296 * i
unfolding sum_below
sum_fits f h zero = omega arith
sum_fits f h (suc i) = let r = sum_fits f h i in let one = h i in omega arith

-- Five words, one after the other.
pub put_five : (l : List ℕ) (i a b c d e : ℕ) → 5 * i + 5 ≤ length l
    → set (set (set (set (set l (5 * i) a) (5 * i + 1) b) (5 * i + 2) c) (5 * i + 3) d) (5 * i + 4) e
    ≡ take (5 * i) l ++ ((a ∷ b ∷ c ∷ d ∷ e ∷ []) ++ drop (5 * i + 5) l)
put_five l i a b c d e h =
    let e1 : 5 * i + 1 ≡ suc (5 * i) = omega arith in
    let e2 : 5 * i + 2 ≡ suc (suc (5 * i)) = omega arith in
    let e3 : 5 * i + 3 ≡ suc (suc (suc (5 * i))) = omega arith in
    let e4 : 5 * i + 4 ≡ suc (suc (suc (suc (5 * i)))) = omega arith in
    rw (e1, e2, e3, e4) (sets-eq (a ∷ b ∷ c ∷ d ∷ e ∷ []) l (5 * i) h)
    ∙ append_assoc (take (5 * i) l) (a ∷ b ∷ c ∷ d ∷ e ∷ []) (drop (5 * i + 5) l)

-- An accepted commit of a batch keeps the tables in agreement with the image.
made_keeps : (s : State) (m : Memory) (c : Commit) (allowance : ℕ) → ((b : ℕ) → b < s.geometry.l → m.tables.entry b < 2 ^ 32)
    → (r : After) → r ≡ commit_made base s m c allowance → number_of r.outcome.answer ≡ 0 → KeptBy s m r
unfolding commit_made
made_keeps s m c allowance words r f ok =
    ⊎_elim (λ (e : eqb c.kind 0 ≡ true).
    let g = rw e at f in
    subst (KeptBy s m) (sym g)
    (write_keeps base base_chooses s m c.head c.blocks c.bytes allowance words (subst (λ (a : After). number_of a.outcome.answer ≡ 0) g ok)))
    (λ (e : eqb c.kind 0 ≡ false).
    ⊎_elim (λ (h : eqb c.kind 1 ≡ true).
    let g = rw (e, h) at f in
    subst (KeptBy s m) (sym g)
    (drop_keeps base base_chooses s m c.head c.blocks (eqb (length c.bytes) 0) allowance words (subst (λ (a : After). number_of a.outcome.answer ≡ 0) g ok)))
    (λ (h : eqb c.kind 1 ≡ false).
    let z : number_of (refused BlockNumbers s m).outcome.answer ≡ 0 = subst (λ (a : After). number_of a.outcome.answer ≡ 0) (rw (e, h) at f) ok in
    absurd (omega arith))
    (bool? (eqb c.kind 1)))
    (bool? (eqb c.kind 0))

pub lent_keeps : (s : State) (im mp pl nu us : List ℕ) (c : Commit) (allowance : ℕ) → ((b : ℕ) → at mp b < 2 ^ 32)
    → (r : After) → r ≡ commit_made base s (memory im mp pl nu us) c allowance → number_of r.outcome.answer ≡ 0
    → KeptBy s (memory im mp pl nu us) r
unfolding memory
lent_keeps s im mp pl nu us c allowance words r f ok = made_keeps s (memory im mp pl nu us) c allowance (λ b h. words b) r f ok
