-- The words are laid one after the other.
use Prim.Native.Nat.{ℕ}
use Rattle.std.proofs.Common.{◌≡◌, Bool, true, false, refl, ◌∙◌, ap}
use Rattle.std.specs.Int.{from_bool}
use mathlib.Core.List.{[], ◌∷◌, ◌++◌}
use lib.Seq.{sets}
use Rattle.layout.specs.Word.{bytes_of}
use Rattle.layout.specs.MapSector.{map_mark, kind_of}
use Rattle.map_encoding.proofs.Encoding.{header_stored}
use Rattle.map_encoding.proofs.put_header.Goals as goal

kind_is : (closing : Bool) → from_bool closing ≡ kind_of closing
kind_is true = refl
kind_is false = refl

pub returns : goal.returns
returns c =
    header_stored c.args.s.now _ _ _ _ _ _ _ _ 0 c.args.number 0 c.args.piece _ c.args.branches c.args.l
    c.put_mark.ensures c.put_word.ensures c.put_word-2.ensures c.put_word-3.ensures
    c.put_word-4.ensures c.put_word-5.ensures c.put_word-6.ensures c.put_word-7.ensures
    ∙ ap (λ (kind : ℕ). sets c.args.s.now 0 (map_mark ++ bytes_of (0 ∷ c.args.number ∷ 0 ∷ c.args.piece ∷ kind ∷ c.args.branches ∷ c.args.l ∷ []))) (c.from.ensures ∙ kind_is c.args.closing)
