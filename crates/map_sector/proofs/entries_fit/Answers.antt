-- The entries past L are the words from there to the sector's end.
use Prim.Native.Nat.{ℕ, ◌*◌, ◌-◌}
use mathlib.Core.Path.{◌≡◌, sym, ap, ◌∙◌}
use native.Mathlib.Omega.{arith}
use lib.ListN.{length, drop}
use Rattle.geometry.specs.Geometry.{entries_per_piece}
use Rattle.layout.specs.Bounded.{all, is_zero}
use Rattle.layout.specs.Word.{words_of}
use Rattle.layout.specs.MapSector.{entry_words}
use Rattle.laws.proofs.Words.{length_words_of}
use Rattle.map_sector.proofs.Maps.{entries_all, entries_past}
use Rattle.map_sector.proofs.entries_fit.Goals as goal

pub returns-then-held-ge-ENTRIES : goal.returns-then-held-ge-ENTRIES
returns-then-held-ge-ENTRIES c =
    let ws = words_of c.args.s.now in
    let long : length ws ≡ 128 = omega (arith, length_words_of c.args.s.now) in
    sym (ap (λ (p : ℕ). all is_zero (drop (c.args.l - entries_per_piece * p) (entry_words ws))) (sym c.word_at.ensures) ∙ entries_all (c.args.l - entries_per_piece * c.word_at.result) ws long c.if-held-ge-ENTRIES.true)

pub returns : goal.returns
returns c =
    let ws = words_of c.args.s.now in
    let long : length ws ≡ 128 = omega (arith, length_words_of c.args.s.now) in
    c.words_zero.ensures
    ∙ sym (ap (λ (p : ℕ). all is_zero (drop (c.args.l - entries_per_piece * p) (entry_words ws))) (sym c.word_at.ensures) ∙ entries_past (c.args.l - entries_per_piece * c.word_at.result) ws long)
