-- A word or a byte that starts at k and is full.
use native.Mathlib.Omega.{arith}
use Rattle.searching.proofs.TrackLaws.{run_byte, run_word}
use Rattle.searching.proofs.used_run.Goals as goal

pub returns-then-word_at : goal.returns-then-word_at
returns-then-word_at c =
    run_word c.args.n c.args.steps c.args.used.now c.args.k c.word_at.result c.requires.k_lt_n c.if-k-eq0.true (omega arith) (omega arith) c.word_at.ensures c.if-word_at.true

pub returns-then-used-k : goal.returns-then-used-k
returns-then-used-k c =
    run_byte c.args.n c.args.steps c.args.used.now c.args.k c.requires.k_lt_n c.if-k-eq0-2.true (omega arith) (omega arith) c.if-used-k.true
