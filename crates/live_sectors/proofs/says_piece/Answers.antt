-- Each return, by a law of LiveLaws.
use Prim.Native.Nat.{ℕ}
use mathlib.Core.Path.{◌∙◌, ap}
use Rattle.layout.specs.Bounded.{at, same}
use Rattle.layout.specs.Word.{words_of}
use Rattle.layout.specs.MapSector.{entry_words}
use Rattle.volume.specs.Tables.{piece_entries}
use Rattle.live_sectors.proofs.LiveLaws.{says_unsigned, says_other_piece, says_other_number, says_entries}
use mathlib.Core.Bool.{not}
use Rattle.live_sectors.proofs.says_piece.Goals as goal

pub returns-then-not-is_valid : goal.returns-then-not-is_valid
returns-then-not-is_valid c =
    says_unsigned _ _ _ _ (piece_entries _ _ _)
    c.is_valid.result c.is_valid.ensures (ap not c.if-not-is_valid.true)

pub returns-then-piece_of-p : goal.returns-then-piece_of-p
returns-then-piece_of-p c =
    says_other_piece _ _ _ _ (piece_entries _ _ _)
    c.is_valid.result c.is_valid.ensures (ap not c.if-not-is_valid.false) c.piece_of.result c.piece_of.ensures c.if-piece_of-p.true

pub returns-then-number_of-number : goal.returns-then-number_of-number
returns-then-number_of-number c =
    says_other_number _ _ _ _ (piece_entries _ _ _)
    c.is_valid.result c.is_valid.ensures (ap not c.if-not-is_valid.false)
    c.piece_of.result c.piece_of.ensures c.if-piece_of-p.false c.number_of.result c.number_of.ensures c.if-number_of-number.true

pub returns : goal.returns
returns c =
    says_entries c.args.g c.args.p c.args.number c.args.s.now (piece_entries c.args.g.l (at c.args.map.now) c.args.p)
    c.is_valid.result c.is_valid.ensures (ap not c.if-not-is_valid.false)
    c.piece_of.result c.piece_of.ensures c.if-piece_of-p.false c.number_of.result c.number_of.ensures c.if-number_of-number.false c.entries_match.result
    (c.entries_match.ensures
    ∙ ap (λ (x : ℕ). same (entry_words (words_of c.args.s.now)) (piece_entries x (at c.args.map.now) c.args.p)) c.requires.map_len)
