-- The live sectors of the pieces below p are valid; one that is not decides.
use mathlib.Core.Path.{◌≡◌, ◌∙◌, ap}
use native.Mathlib.Omega.{arith}
use lib.ListN.{length}
use Rattle.geometry.specs.Geometry.{pieces_for}
use Rattle.layout.specs.Bounded.{at}
use Rattle.laws.proofs.Sectors.{sector_length}
use Rattle.live_sectors.proofs.LiveLaws.{live_none, live_more, live_fails, live_all}
use mathlib.Core.Bool.{not}
use Rattle.live_sectors.proofs.live_valid.Goals as goal

pub loop-p-init : goal.loop-p-init
loop-p-init c = live_none c.args.g c.args.image.now c.args.t.now.map.now c.args.t.now.places.now c.args.t.now.numbers.now

pub sector-s-requires : goal.sector-s-requires
sector-s-requires c =
    let b = c.requires.by_index c.loop-p.p (omega arith) in
    omega arith

pub says_piece-requires : goal.says_piece-requires
says_piece-requires c =
    let b = c.requires.by_index c.loop-p.p (omega arith) in record {
      s_len = ap length c.sector-s.ensures ∙ sector_length c.args.image.now (at c.args.t.now.places.now c.loop-p.p) (omega arith);
      le_n = c.requires.le_n;
      map_len = c.requires.map_len;
      p_lt_most_pieces = omega arith;
    }

pub returns-then-not-says_piece : goal.returns-then-not-says_piece
returns-then-not-says_piece c =
    live_fails c.args.g c.args.image.now c.args.t.now.map.now c.args.t.now.places.now c.args.t.now.numbers.now c.loop-p.p
    _ c.sector-s.ensures c.says_piece.result c.says_piece.ensures (omega arith) (ap not c.if-not-says_piece.true)

pub loop-p-preserved : goal.loop-p-preserved
loop-p-preserved c =
    live_more c.args.g c.args.image.now c.args.t.now.map.now c.args.t.now.places.now c.args.t.now.numbers.now c.loop-p.p
    _ c.sector-s.ensures c.says_piece.result c.says_piece.ensures c.loop-p.invariant (ap not c.if-not-says_piece.false)

pub returns : goal.returns
returns c =
    let e : c.loop-p.p ≡ pieces_for c.args.g.l = (omega arith) in
    live_all c.args.g c.args.image.now c.args.t.now.map.now c.args.t.now.places.now c.args.t.now.numbers.now c.loop-p.p e c.loop-p.invariant
