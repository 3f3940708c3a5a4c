-- The walk as the arrays of the code hold it.
use Rattle.std.specs.Prelude.{ℕ, zero, suc, ◌+◌, ◌<◌, ◌≡◌, true, List, length}
use Rattle.geometry.specs.declared.Geometry.{Geometry}
use Rattle.geometry.specs.Geometry.{pieces_for}
use Rattle.layout.specs.Bounded.{at}
use Rattle.layout.specs.Word.{words_of}
use Rattle.volume.specs.Tables.{tables_of}
use Rattle.volume.specs.Recover.{tables_from, walk_from, image_view}
use Rattle.signed.specs.Signed.{signed_at}

-- The tables that a complete walk leaves: the sectors that it took are signed, and the tables are theirs.
pub record Left (g : Geometry) (image : ℕ → List ℕ) (tail : ℕ) (map places numbers used : List ℕ) : Type 0 where
  pub long : length places ≡ pieces_for g.l
  pub signed : (p : ℕ) → p < pieces_for g.l → signed_at g image (at places p) ≡ true
  pub tables : tables_of map places numbers used ≡ tables_from g.l (image_view g image) (walk_from (pieces_for g.l) (image_view g image) tail)

-- The branch counts of the sectors at so many places.
unfoldable pub branch_word_count : (ℕ → List ℕ) → (ℕ → ℕ) → ℕ → ℕ
branch_word_count image place zero = 0
branch_word_count image place (suc p) = branch_word_count image place p + at (words_of (image (place p))) 6
