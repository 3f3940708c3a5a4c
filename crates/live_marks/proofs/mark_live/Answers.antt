-- The sizes are tested, and the rest is the scan's.
use Rattle.live_marks.proofs.MarkLaws.{turned_false, turned_true, sizes, live_none, live_scanned}
use mathlib.Core.Path.{ap}
use mathlib.Core.Bool.{not}
use Rattle.live_marks.proofs.mark_live.Goals as goal

pub returns-then-not-sizes_fit : goal.returns-then-not-sizes_fit
returns-then-not-sizes_fit c =
    live_none _ _ _ _ (turned_false c.sizes_fit.result _ c.sizes_fit.ensures (ap not c.if-not-sizes_fit.true))

pub mark_scanned-requires : goal.mark_scanned-requires
mark_scanned-requires c =
    let the_sizes = sizes c.args.g _ _ (turned_true c.sizes_fit.result _ c.sizes_fit.ensures (ap not c.if-not-sizes_fit.false)) in record {
      g_value = the_sizes.volume;
      image_len = the_sizes.image;
      used_len = the_sizes.used;
    }

pub returns : goal.returns
returns c =
    live_scanned _ _ _ _ (turned_true c.sizes_fit.result _ c.sizes_fit.ensures (ap not c.if-not-sizes_fit.false)) c.mark_scanned.ensures
