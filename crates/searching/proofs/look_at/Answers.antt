-- Nothing is kept of the position, or it is known to be full; or found on some track, or on none, and as much is known of the position then.
use native.Mathlib.Omega.{arith}
use Rattle.volume.specs.Tables.{bit_at}
use Rattle.searching.proofs.TrackLaws.{at_position, known_more, lowest_found}
use Rattle.searching.proofs.look_at.Goals as goal

pub returns-then-known-position-clause-found : goal.returns-then-known-position-clause-found
returns-then-known-position-clause-found c =
    let there = at_position c.args.size c.args.position c.lowest_at-lowest.result.skipped c.lowest_at-lowest.result.sector c.requires.position_lt_size c.lowest_at-lowest.ensures.0 in
    lowest_found (bit_at c.args.used.now) c.args.n c.args.size c.args.position c.lowest_at-lowest.result.sector _ c.below.ensures there c.lowest_at-lowest.ensures.1 c.lowest_at-lowest.ensures.2

pub returns-clause-found : goal.returns-clause-found
returns-clause-found c =
    let there = at_position c.args.size c.args.position c.lowest_at-lowest-2.result.skipped c.lowest_at-lowest-2.result.sector c.requires.position_lt_size c.lowest_at-lowest-2.ensures.0 in
    lowest_found (bit_at c.args.used.now) c.args.n c.args.size c.args.position c.lowest_at-lowest-2.result.sector _ c.below-2.ensures there c.lowest_at-lowest-2.ensures.1 c.lowest_at-lowest-2.ensures.2

pub returns-clause-known : goal.returns-clause-known
returns-clause-known c =
    known_more c.args.known.now (bit_at c.args.used.now) c.args.n c.args.size c.args.position c.lowest_at-lowest-2.result.skipped c.lowest_at-lowest-2.result.sector c.noted.result (omega arith) c.lowest_at-lowest-2.ensures.0
    c.lowest_at-lowest-2.ensures.1 c.noted.ensures c.requires.known
