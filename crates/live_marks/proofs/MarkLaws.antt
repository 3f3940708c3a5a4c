-- The marks that a scan leaves are those of the log that it found.
use Prim.Native.Nat.{ℕ, ◌*◌, ◌≤◌, ◌/◌, ◌%◌, ◌^◌}
use mathlib.Core.Path.{◌≡◌, sym, ◌∙◌, ap}
use mathlib.Core.Bool.{Bool, true, false, cond, not, ◌&&◌, true≢false}
use mathlib.Core.List.{List}
use mathlib.Core.Option.{Option, none}
use native.Mathlib.Nat.{zero-div}
use lib.ListN.{length}
use lib.Dec.{eqb}
use borrow.Author.Tests.{eqb-true, eq-eqb, ne_eqb}
use Rattle.geometry.specs.declared.Geometry.{Geometry}
use Rattle.geometry.specs.Geometry.{sector_bytes, used_bytes, geometry_fits}
use Rattle.answer.specs.declared.Loss.{Loss}
use Rattle.volume.specs.Tables.{Tables, sector_at, bit_at}
use Rattle.volume.specs.Recover.{scan_finding, image_view}
use Rattle.std.specs.Prelude.{Result, Ok, Err, is_ok}
use Rattle.state.specs.declared.tail.Tail.{Tail}
use Rattle.scan.specs.Scanned.{scan_found}
use Rattle.laws.proofs.Bounded.{and_l, and_r, past_end}
use Rattle.live_marks.specs.Live.{marked, marks_of, sizes_fit, scan_marks, live_marks}

-- Whether a scan found a log, and what it left.
pub marks_told : (g : Geometry) (im : List ℕ) (result : Result Tail Loss) (t : Tables)
    → scan_found result g.n (image_view g (sector_at im)) (sector_at im 0) t ≡ scan_finding g (image_view g (sector_at im)) (sector_at im 0)
    → (log : Bool) → log ≡ is_ok result → marked log t.is_used ≡ scan_marks g im
unfolding scan_found marks_of marked scan_marks
marks_told g im (Ok tail) t e log f = ap (λ (b : Bool). marked b t.is_used) f ∙ ap marks_of e
marks_told g im (Err loss) t e log f = ap (λ (b : Bool). marked b t.is_used) f ∙ ap marks_of e

-- What an answer says that was turned round.
pub turned_false : (b x : Bool) → b ≡ x → not b ≡ true → x ≡ false
turned_false false x e n = sym e
turned_false true x e n = absurd (true≢false (sym n))

pub turned_true : (b x : Bool) → b ≡ x → not b ≡ false → x ≡ true
turned_true true x e n = sym e
turned_true false x e n = absurd (true≢false n)

-- What the tests of the sizes say.
pub record Sizes (g : Geometry) (bytes marks : ℕ) : Type 0 where
  pub volume : geometry_fits g ≡ true
  pub image : bytes ≡ sector_bytes * g.n
  pub used : marks ≡ used_bytes g.n

pub sizes : (g : Geometry) (bytes marks : ℕ) → sizes_fit g bytes marks ≡ true → Sizes g bytes marks
sizes g bytes marks e =
    let rest = and_r (geometry_fits g) (eqb bytes (sector_bytes * g.n) && eqb marks (used_bytes g.n)) e in
    record {
      volume = and_l (geometry_fits g) (eqb bytes (sector_bytes * g.n) && eqb marks (used_bytes g.n)) e;
      image = eqb-true bytes (sector_bytes * g.n) (and_l (eqb bytes (sector_bytes * g.n)) (eqb marks (used_bytes g.n)) rest);
      used = eqb-true marks (used_bytes g.n) (and_r (eqb bytes (sector_bytes * g.n)) (eqb marks (used_bytes g.n)) rest);
    }

pub live_none : (g : Geometry) (im : List ℕ) (marks : ℕ) (bits : ℕ → Bool) → sizes_fit g (length im) marks ≡ false → marked false bits ≡ live_marks g im marks
unfolding marked live_marks
live_none g im marks bits e = sym (ap (λ (b : Bool). cond b (scan_marks g im) none) e)

pub live_scanned : (g : Geometry) (im : List ℕ) (marks : ℕ) (m : Option (ℕ → Bool)) → sizes_fit g (length im) marks ≡ true → m ≡ scan_marks g im
    → m ≡ live_marks g im marks
unfolding live_marks
live_scanned g im marks m e h = h ∙ sym (ap (λ (b : Bool). cond b (scan_marks g im) none) e)

-- Whether a sector is live by its mark.
pub zero_dead : (us : List ℕ) (k : ℕ) → k ≡ 0 → false ≡ (not (eqb k 0) && bit_at us k)
zero_dead us k e = sym (ap (λ (b : Bool). not b && bit_at us k) (eq-eqb k 0 e))

pub other_live : (us : List ℕ) (k : ℕ) (r : Bool) → (k ≡ 0 → ⊥) → r ≡ bit_at us k → r ≡ (not (eqb k 0) && bit_at us k)
other_live us k r d e = e ∙ sym (ap (λ (b : Bool). not b && bit_at us k) (ne_eqb k 0 d))

pub past_dead : (us : List ℕ) (k : ℕ) → length us ≤ k / 8 → false ≡ bit_at us k
unfolding bit_at
past_dead us k h =
    sym (ap (λ (x : ℕ). eqb (x % 2) 1) (zero-div (2 ^ (k % 8))))
    ∙ ap (λ (x : ℕ). eqb (x / 2 ^ (k % 8) % 2) 1) (past_end us (k / 8) h)
