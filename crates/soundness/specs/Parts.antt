-- Of the conditions of "sound" those on names and used bits, which are judged together.
use Rattle.std.specs.Prelude.{ℕ, ◌*◌, ◌-◌, Bool, ◌&&◌, leb}
use Rattle.std.specs.Bool.{beq}
use Rattle.geometry.specs.declared.Geometry.{Geometry}
use Rattle.geometry.specs.Geometry.{within, pieces_for, used_bytes}
use Rattle.layout.specs.Bounded.{all_below, all, distinct}
use Rattle.volume.specs.Tables.{named_by, used_by, free_sectors}

-- The named sectors lie in 1 to N - 1 and none is named twice; the used bits are exactly sector 0 and those; P sectors are free.
unfoldable pub names_sound : Geometry → (ℕ → ℕ) → (ℕ → ℕ) → (ℕ → Bool) → Bool
names_sound g entry place is_used =
    let named = named_by g.l entry place in
    all (within 1 (g.n - 1)) named
    && distinct named
    && all_below (λ k. beq (is_used k) (used_by named k)) (8 * used_bytes g.n)
    && leb (pieces_for g.l) (free_sectors g.n is_used)
