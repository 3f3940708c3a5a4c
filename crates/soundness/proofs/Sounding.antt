-- Sound tables: what each test of the code says of the whole, in the code's order.
use Prim.Native.Nat.{ℕ, ◌+◌, ◌*◌, ◌-◌, ◌≤◌}
use mathlib.Core.Path.{◌≡◌, refl, sym, ◌∙◌, ap, ap₂}
use mathlib.Core.Bool.{Bool, true, false, not, ◌&&◌, beq}
use native.Mathlib.Omega.{arith}
use lib.ListN.{length}
use lib.Dec.{eqb, leb}
use borrow.Author.Tests.{leb-true, eq-eqb, ne_eqb}
use Rattle.geometry.specs.declared.Geometry.{Geometry}
use Rattle.geometry.specs.Geometry.{within, pieces_for, most_blocks, most_sectors, used_bytes, geometry_fits}
use Rattle.layout.specs.Bounded.{all_below, best, all, distinct, always, gathered}
use mathlib.Core.List.{List, []}
use Rattle.volume.specs.Tables.{Tables, named_by, used_by, free_sectors, consistent}
use Rattle.soundness.specs.Parts.{names_sound}
use Rattle.laws.proofs.Bounded.{and_l, and_r, not_of, all_below_at, all_below_is, count_le, count_same}
use Rattle.laws.proofs.Names.{beq_true}
use Rattle.names.proofs.Counting.{counted_once}
use Rattle.names.proofs.Marking.{not_false}
use Rattle.numbers.proofs.Numbering.{Agree}

never : (x : Bool) → (x && false) ≡ false
never true = refl
never false = refl

and_true : (x : Bool) → (x && true) ≡ x
and_true true = refl
and_true false = refl

pub twice : (free count n p : ℕ) → (free + count + 1 ≡ n → ⊥) → false ≡ (eqb (free + count + 1) n && leb p free)
twice free count n p d = rw (ne_eqb (free + count + 1) n d) refl

pub once_then : (free count n p q : ℕ) → free + count + 1 ≡ n → q ≡ p → leb q free ≡ (eqb (free + count + 1) n && leb p free)
once_then free count n p q e f = rw (eq-eqb (free + count + 1) n e, f) refl

-- The sizes that a geometry gives.
module _ (g : Geometry) (h : geometry_fits g ≡ true) where
  low : within 1 most_blocks g.l ≡ true
  low = and_l (within 1 most_blocks g.l) (within (2 * pieces_for g.l + 2) most_sectors g.n) h

  high : within (2 * pieces_for g.l + 2) most_sectors g.n ≡ true
  high = and_r (within 1 most_blocks g.l) (within (2 * pieces_for g.l + 2) most_sectors g.n) h

  pub blocks_some : 1 ≤ g.l
  blocks_some = leb-true 1 g.l (and_l (leb 1 g.l) (leb g.l most_blocks) low)

  pub blocks_most : g.l ≤ most_blocks
  blocks_most = leb-true g.l most_blocks (and_r (leb 1 g.l) (leb g.l most_blocks) low)

  pub sectors_some : 2 * pieces_for g.l + 2 ≤ g.n
  sectors_some = leb-true (2 * pieces_for g.l + 2) g.n (and_l (leb (2 * pieces_for g.l + 2) g.n) (leb g.n most_sectors) high)

  pub sectors_most : g.n ≤ most_sectors
  sectors_most = leb-true g.n most_sectors (and_r (leb (2 * pieces_for g.l + 2) g.n) (leb g.n most_sectors) high)

pub free_few : (n free : ℕ) (bits : ℕ → Bool) → free ≡ free_sectors n bits → free ≤ n
unfolding free_sectors
free_few n free bits e = let h = count_le (λ k. not (bits k)) n in omega arith

-- The conditions on names and used bits.
module _ (g : Geometry) (entry place : ℕ → ℕ) (is_used : ℕ → Bool) where
  abbrev Names : List ℕ
  Names = named_by g.l entry place

  abbrev Bits : Bool
  Bits = all_below (λ k. beq (is_used k) (used_by Names k)) (8 * used_bytes g.n)

  abbrev Room : Bool
  Room = leb (pieces_for g.l) (free_sectors g.n is_used)

  abbrev Sound : Bool
  Sound = names_sound g entry place is_used

  module _ (r : Bool) (h : r ≡ all (within 1 (g.n - 1)) Names) where
    pub names_fail : not r ≡ true → false ≡ Sound
    unfolding names_sound
    names_fail e = sym (ap (λ (b : Bool). b && distinct Names && Bits && Room) (sym h ∙ not_of r e))

    module _ (e : not r ≡ false) where
      inside : all (within 1 (g.n - 1)) Names ≡ true
      inside = sym h ∙ not_false r e

      -- Bits that were compared with the marks were compared with the names.
      module _ (s : Bool) (len : ℕ) (long : len ≡ used_bytes g.n) (marks : ℕ → Bool) (made : marks ≡ used_by Names)
          (t : s ≡ all_below (λ k. beq (is_used k) (marks k)) (8 * len)) where
        compared : s ≡ Bits
        compared =
            t
            ∙ ap (λ (f : ℕ → Bool). all_below (λ k. beq (is_used k) (f k)) (8 * len)) made
            ∙ ap (λ (x : ℕ). all_below (λ k. beq (is_used k) (used_by Names k)) (8 * x)) long

        pub bits_fail : not s ≡ true → false ≡ Sound
        unfolding names_sound
        bits_fail f =
            sym (ap (λ (b : Bool). all (within 1 (g.n - 1)) Names && distinct Names && b && Room) (sym compared ∙ not_of s f)
            ∙ ap (λ (b : Bool). b && Room) (never (all (within 1 (g.n - 1)) Names && distinct Names)))

        pub bits_pass : not s ≡ false → Bits ≡ true
        bits_pass f = sym compared ∙ not_false s f

      -- The used map is that of the names, so its free sectors are theirs.
      pub room_decides : Bits ≡ true → 1 ≤ g.n → (free count : ℕ) → free ≡ free_sectors g.n is_used → count ≡ length Names
          → (o : Bool) → o ≡ (eqb (free + count + 1) g.n && leb (pieces_for g.l) free) → o ≡ Sound
      unfolding names_sound free_sectors
      room_decides bits some free count counted named o w =
          let free-is : free ≡ free_sectors g.n (used_by Names) =
          counted
          ∙ count_same (λ k. not (is_used k)) (λ k. not (used_by Names k)) g.n
          (λ k b. ap not (beq_true (is_used k) (used_by Names k)
          (all_below_at (λ k. beq (is_used k) (used_by Names k)) (8 * used_bytes g.n) bits k (omega arith)))) in
          w
          ∙ ap₂ (λ (a b : Bool). a && b) (counted_once g.n some Names inside free count free-is named) (ap (leb (pieces_for g.l)) counted)
          ∙ sym (ap₂ (λ (a b : Bool). a && distinct Names && b && Room) inside bits ∙ ap (λ (b : Bool). b && Room) (and_true (distinct Names)))

beq_self : (b : Bool) → beq b b ≡ true
beq_self true = refl
beq_self false = refl

-- A used map that is made of the names need not be compared.
pub bits_made : (g : Geometry) (entry place : ℕ → ℕ) → Bits g entry place (used_by (named_by g.l entry place)) ≡ true
bits_made g entry place =
    let named = named_by g.l entry place in
    all_below_is (λ k. beq (used_by named k) (used_by named k)) (8 * used_bytes g.n) (λ k h. beq_self (used_by named k))

parted : (s d e f g : Bool) → (s && d && e && f && g) ≡ (s && (d && e && f && g))
parted true d e f g = refl
parted false d e f g = refl

-- The whole: names and used bits, then numbers and tail.
module _ (g : Geometry) (t : Tables) (tail number : ℕ) (r : Bool) (e : r ≡ names_sound g t.entry t.place t.is_used) where
  abbrev Numbers : ℕ → Bool
  Numbers m = Agree t.place t.number m tail number

  parts : consistent g t tail number ≡ (names_sound g t.entry t.place t.is_used && Numbers (pieces_for g.l))
  unfolding consistent names_sound
  parts =
      let p = pieces_for g.l in
      let newest = best t.number p in
      parted (names_sound g t.entry t.place t.is_used) (distinct (gathered always t.number [] p)) (all_below (λ q. leb 1 (t.number q)) p)
      (eqb tail (t.place newest)) (eqb number (t.number newest))

  pub sound_fails : not r ≡ true → false ≡ consistent g t tail number
  sound_fails f = sym (parts ∙ ap (λ (b : Bool). b && Numbers (pieces_for g.l)) (sym e ∙ not_of r f))

  pub numbers_decide : not r ≡ false → (m : ℕ) → m ≡ pieces_for g.l → (u : Bool) → u ≡ Numbers m → u ≡ consistent g t tail number
  numbers_decide f m same u v = v ∙ ap Numbers same ∙ sym (parts ∙ ap (λ (b : Bool). b && Numbers (pieces_for g.l)) (sym e ∙ not_false r f))
