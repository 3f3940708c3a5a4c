-- The words that the map has, then zeros: together the words of the piece.
use Rattle.std.proofs.Common.{ℕ, ◌+◌, ◌*◌, ◌-◌, List, take, drop, replicate, ap, ◌∙◌, arith}
use lib.Seq.{sets}
use Rattle.layout.specs.Word.{bytes_of}
use Rattle.laws.proofs.Words.{put_run}
use Rattle.piece_entries.proofs.EntryLaws.{held_length, listed}
use Rattle.piece_entries.proofs.put_piece.Goals as goal

pub returns : goal.returns
returns c =
    let start : ℕ = c.min-start.result in
    let end : ℕ = c.min-end.result in
    let rest : List ℕ = replicate (96 - (end - start)) 0 in
    c.put_zeros.ensures
    ∙ ap (λ (t : List ℕ). sets t (4 * (32 + (end - start))) (bytes_of rest)) c.put_words.ensures
    ∙ put_run c.args.s.now 32 (take (end - start) (drop start c.args.map.now)) (end - start) (held_length c.args.map.now start end (omega arith) (omega arith)) rest
    ∙ ap (λ (ws : List ℕ). sets c.args.s.now 128 (bytes_of ws)) (listed c.args.map.now (96 * c.args.p) 96 start end c.min-start.ensures c.min-end.ensures)
