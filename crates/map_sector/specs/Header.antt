-- Words 2 to 7 of a map sector: what a signed sector of a volume of L blocks has there; and one of its 24 branches.
use Rattle.std.specs.Prelude.{ℕ, ◌-◌, Bool, cond, ◌&&◌, List, eqb, leb, ltb}
use Rattle.geometry.specs.Geometry.{within, pieces_for, branch_room}
use Rattle.layout.specs.Bounded.{at, is_zero}

unfoldable pub fields_fit : ℕ → ℕ → ℕ → ℕ → ℕ → ℕ → ℕ → Bool
fields_fit l number reserved piece kind count blocks =
    leb 1 number && is_zero reserved && ltb piece (pieces_for l) && leb kind 1 && leb count branch_room && eqb blocks l

unfoldable pub header_fits : ℕ → List ℕ → Bool
header_fits l ws = fields_fit l (at ws 2) (at ws 3) (at ws 4) (at ws 5) (at ws 6) (at ws 7)

-- Branch i of a sector with so many: a sector from 1 to N - 1, and past the last one zero.
unfoldable pub branch_fits : ℕ → ℕ → ℕ → ℕ → Bool
branch_fits n count i w = cond (ltb i count) (within 1 (n - 1) w) (is_zero w)
