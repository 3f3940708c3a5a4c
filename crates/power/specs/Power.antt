-- How a run of stores ends: with too few allowed the power fails (None), otherwise so many are left.
use Rattle.std.specs.Prelude.{ℕ, ◌-◌, cond, ltb, Option, Some, None}

unfoldable pub powered : ℕ → ℕ → Option ℕ
powered needed allowance = cond (ltb allowance needed) None (Some (allowance - needed))

-- How many of the needed stores are made.
abbrev pub made : ℕ → ℕ → ℕ
made needed allowance = cond (ltb allowance needed) allowance needed
