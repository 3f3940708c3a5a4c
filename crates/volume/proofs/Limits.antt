-- The branch limit, at the plan alone: one piece is touched, and the others' live sectors have no branches, so that each of them is
-- listed. 24 are listed; with 25 the commit folds.
use Prim.Native.Nat.{ℕ, suc, ◌+◌, ◌*◌}
use mathlib.Core.Path.{◌≡◌, refl}
use mathlib.Core.Bool.{Bool, true, false}
use mathlib.Core.List.{List, [], ◌∷◌, map}
use mathlib.Core.Option.{some}
use lib.ListN.{length}
use lib.Dec.{leb}
use Rattle.geometry.proofs.Sized.{sized, one_track}
use Rattle.state.specs.State.{fresh_state}
use Rattle.layout.specs.Bounded.{any_below, count_below, best, elem, list_from, tabled}
use Rattle.layout.specs.MapSector.{View}
use Rattle.volume.specs.Tables.{Tables}
use Rattle.tracks.specs.Placing.{nearest, placed_up_to, place_of}
use Rattle.volume.specs.Rules.{base}
use Rattle.volume.specs.Commit.{touches, branches_in, older_key, listing, branches_for, planned}
use Rattle.volume.specs.Calls.{drop_change}

-- Piece p in sector p + 1 with number p + 1, and no branches anywhere.
apart : ℕ → Tables
apart pieces = record { entry = λ _. 0; place = suc; number = suc; is_used = λ k. leb k pieces }

no_branches : View
no_branches k = some (record { number = k; piece = 0; closing = true; branches = []; entries = [] })

record Planned : Type 0 where
  fold : Bool
  branches : ℕ
  members : ℕ

record Pieces : Type 0 where
  pieces : ℕ
  says : Planned

limit_gives : Pieces → Planned
unfolding any_below count_below best elem list_from tabled nearest placed_up_to place_of touches branches_in older_key listing branches_for planned drop_change apart no_branches
limit_gives r =
    let n = 2 * r.pieces + 2 in
    let plan = planned base (fresh_state (sized n (96 * r.pieces)) (one_track n) r.pieces r.pieces) (apart r.pieces) no_branches 0 (drop_change (0 ∷ [])) in
    record { fold = plan.fold; branches = length plan.branches; members = plan.members }

limits : List Pieces
limits =
    record { pieces = 25; says = record { fold = false; branches = 24; members = 1 } }
    ∷ record { pieces = 26; says = record { fold = true; branches = 0; members = 26 } }
    ∷ []

limits_hold : map limit_gives limits ≡ map (λ r. r.says) limits
unfolding limit_gives limits
limits_hold = refl
