-- What taking the newest candidate gives, and that there is none.
use Rattle.std.specs.Prelude.{ℕ, ◌<◌, ◌≡◌, List, [], length}
use Rattle.layout.specs.Bounded.{best}
use Rattle.volume.specs.Tables.{tables_of}
use Rattle.volume.specs.Commit.{older_key}
use Rattle.pieces.specs.Arrays.{unflagged}
use Rattle.tournament.specs.Tournament.{Keyed}

-- No piece is untouched and older than bound.
abbrev pub NoneOlder : List ℕ → List ℕ → ℕ → Type 0
NoneOlder numbers touched bound =
    let key = older_key (tables_of [] [] numbers []) (unflagged (length numbers) touched) bound in
    key (best key (length numbers)) ≡ 0

-- The newest piece that is untouched and older than bound, and its number. In the tournament are those that are older still.
pub record Taken (numbers touched : List ℕ) (bound : ℕ) (tree : List ℕ) (piece number : ℕ) : Type 0 where
  pub newest : piece ≡ best (older_key (tables_of [] [] numbers []) (unflagged (length numbers) touched) bound) (length numbers)
  pub inside : piece < length numbers
  pub some : number ≡ 0 → ⊥
  pub key : number ≡ older_key (tables_of [] [] numbers []) (unflagged (length numbers) touched) bound piece
  pub older : Keyed (length numbers) (older_key (tables_of [] [] numbers []) (unflagged (length numbers) touched) number) tree
