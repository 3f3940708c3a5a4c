-- The live sectors are found in tables of zeros, and each lies in the image.
use Prim.Native.Nat.{ℕ}
use mathlib.Core.Path.{◌∙◌, ap}
use native.Mathlib.Omega.{arith}
use lib.ListN.{replicate}
use Rattle.geometry.specs.Geometry.{pieces_for}
use Rattle.volume.specs.Tables.{sector_at}
use Rattle.volume.specs.Recover.{image_view}
use Rattle.signed.proofs.ViewLaws.{piece_inside}
use Rattle.log_tables.proofs.LiveLaws.{live_listed}
use Rattle.scan.proofs.ScanLaws.{place_inside, pieces_inside, is_map}
use Rattle.scan.proofs.scan_live.Goals as goal

pub find_live-requires : goal.find_live-requires
find_live-requires c = record {
  numbered_len = c.requires.numbered_len;
  pieces_len = c.requires.pieces_len;
  numbers_len = omega arith;
  by_index = λ i h. let b = pieces_inside c.args.g (sector_at c.args.image.now) c.args.c _ _ _ c.requires.listed i h in omega arith;
}

pub fill_map-requires : goal.fill_map-requires
fill_map-requires c =
    let found = live_listed (image_view c.args.g (sector_at c.args.image.now)) c.args.c (pieces_for c.args.g.l) (piece_inside c.args.g (sector_at c.args.image.now)) c.args.g.n _ _ _ _ _ _ _ c.requires.le_n
    c.requires.listed (c.fill.ensures.after (λ y e. e) ∙ ap (λ (x : ℕ). replicate x 0) c.requires.sized.places_len) (c.fill-2.ensures.after (λ y e. e) ∙ ap (λ (x : ℕ). replicate x 0) c.requires.sized.numbers_len) c.find_live.ensures in record {
      map_len_bound = omega arith;
      by_index = λ q h. let b = place_inside c.args.g (sector_at c.args.image.now) c.args.c q _ c.requires.le_n found.0 (omega arith) in omega arith;
    }

pub returns-clause-value : goal.returns-clause-value
returns-clause-value c =
    let found = live_listed (image_view c.args.g (sector_at c.args.image.now)) c.args.c (pieces_for c.args.g.l) (piece_inside c.args.g (sector_at c.args.image.now)) c.args.g.n _ _ _ _ _ _ _ c.requires.le_n
    c.requires.listed (c.fill.ensures.after (λ y e. e) ∙ ap (λ (x : ℕ). replicate x 0) c.requires.sized.places_len) (c.fill-2.ensures.after (λ y e. e) ∙ ap (λ (x : ℕ). replicate x 0) c.requires.sized.numbers_len) c.find_live.ensures in
    (found.0, found.1, is_map _ _ _ _ _ c.requires.sized.map_len c.fill_map.ensures)
