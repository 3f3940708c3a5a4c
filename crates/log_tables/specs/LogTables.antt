-- The tables of a log that was found, in the arrays that were lent.
use Rattle.std.specs.Prelude.{ℕ, cond, ◌&&◌, List, set, leb, ltb}
use Rattle.geometry.specs.Geometry.{piece_of, index_of}
use Rattle.layout.specs.Bounded.{at, list_from}
use Rattle.layout.specs.Word.{words_of}
use Rattle.layout.specs.MapSector.{View, entry_words}
use Rattle.volume.specs.Tables.{Tables, named_by, used_by}
use Rattle.volume.specs.Recover.{piece_number, scan_place}

-- The tables of these words, places and numbers: used are sector 0 and the sectors that they name.
abbrev pub tables_named : ℕ → List ℕ → List ℕ → List ℕ → Tables
tables_named l map places numbers =
    record { entry = at map; place = at places; number = at numbers; is_used = used_by (named_by l (at map) (at places)) }

-- Sector k, numbered x, is the live one of its piece q where x is up to c and higher than the one that stands there.
unfoldable pub raised : ℕ → ℕ → ℕ → ℕ → List ℕ × List ℕ → List ℕ × List ℕ
raised c k x q s = cond (leb x c && ltb (at s.1 q) x) (set s.0 q k, set s.1 q x) s

-- The live sectors of the pieces, up to number c, and their numbers.
unfoldable pub live_places : View → ℕ → ℕ → ℕ → List ℕ
live_places view c n pieces = list_from (scan_place n view c) 0 pieces

unfoldable pub live_numbers : View → ℕ → ℕ → ℕ → List ℕ
live_numbers view c n pieces = list_from (λ p. piece_number c p (view (scan_place n view c p))) 0 pieces

-- The map that live sectors hold.
unfoldable pub map_from : (ℕ → List ℕ) → List ℕ → ℕ → List ℕ
map_from image places l = list_from (λ b. at (entry_words (words_of (image (at places (piece_of b))))) (index_of b)) 0 l
