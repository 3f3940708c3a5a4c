-- The order in which refusals are judged, as documents 01 and 02 have it: the lowest number first, but 11 just after 1, and 12 just after 2.
use mathlib.Core.Path.{◌≡◌, refl}
use mathlib.Core.List.{[], ◌∷◌, map}
use Rattle.answer.specs.Answer.{order, refusal_number}

pub order_is : map refusal_number order ≡ 1 ∷ 11 ∷ 2 ∷ 12 ∷ 3 ∷ 4 ∷ 5 ∷ 6 ∷ 7 ∷ []
order_is = refl
