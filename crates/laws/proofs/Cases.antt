-- A proof by the value of a test.
use mathlib.Core.Bool.{Bool, true, false}
use mathlib.Core.Path.{◌≡◌, refl}

pub either : {P : Type 0} (test : Bool) → (test ≡ true → P) → (test ≡ false → P) → P
either true passed failed = passed refl
either false passed failed = failed refl
