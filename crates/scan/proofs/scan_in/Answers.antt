-- What was read stands at the ends of the arrays.
use mathlib.Core.Path.{◌∙◌}
use native.Mathlib.Omega.{arith}
use lib.ListN.{length}
use Rattle.soundness.proofs.Sounding.{blocks_most, sectors_some, sectors_most}
use Rattle.volume.specs.Tables.{sector_at}
use Rattle.volume.specs.Recover.{image_view}
use Rattle.signed.proofs.Listing.{lent_listed}
use Rattle.scan.proofs.scan_in.Goals as goal

pub read_signed-read-requires : goal.read_signed-read-requires
read_signed-read-requires c =
    let s = sectors_some c.args.g c.requires.g_value in
    let b = blocks_most c.args.g c.requires.g_value in
    let m = sectors_most c.args.g c.requires.g_value in record {
      image_len = c.requires.image_len;
      le_n = omega arith;
      n_le_most_sectors = m;
      l_bound = omega arith;
      n_in_bounds = c.requires.n_in_bounds;
      numbers_len = c.requires.numbered_len;
      pieces_len = c.requires.pieces_len;
    }

pub scan_listed-requires : goal.scan_listed-requires
scan_listed-requires c =
    let lent = lent_listed (image_view c.args.g (sector_at c.args.image.now)) c.args.g.n (length c.args.sectors.now) c.read_signed-read.result.from
    c.read_signed-read.new.sectors c.read_signed-read.new.numbers c.read_signed-read.new.pieces c.read_signed-read.auto.sectors
    (c.read_signed-read.auto.numbers ∙ c.requires.numbered_len) (c.read_signed-read.auto.pieces ∙ c.requires.pieces_len) c.requires.sectors_len_bound
    c.read_signed-read.ensures.1 in record {
      g_value = c.requires.g_value;
      image_len = c.requires.image_len;
      tail_value = c.read_signed-read.ensures.2;
      number_value = c.read_signed-read.ensures.3;
      sectors_len_bound = lent.0;
      numbered_len = lent.1;
      pieces_len = lent.2;
      listed = lent.3;
      sized = c.requires.sized;
      n_bound = c.requires.n_bound;
      above_value = c.requires.above_value;
    }
