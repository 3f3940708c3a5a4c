-- The sectors that a map's entries name, beside others.
use Rattle.std.specs.Prelude.{ℕ, zero, suc, Bool, true, not, List}
use Rattle.layout.specs.Bounded.{gathered, updated}
use Rattle.layout.specs.Entry.{is_empty, sector_of}

-- Others, and in front of them the sectors of the first m entries that are not empty.
abbrev pub with_entries : (ℕ → ℕ) → ℕ → List ℕ → List ℕ
with_entries entry m others = gathered (λ b. not (is_empty (entry b))) (λ b. sector_of (entry b)) others m

-- Bits with those of the first m sectors set, one after the other.
unfoldable pub marked : (ℕ → ℕ) → ℕ → (ℕ → Bool) → ℕ → Bool
marked sector zero bits = bits
marked sector (suc m) bits = updated (marked sector m bits) (sector m) true
