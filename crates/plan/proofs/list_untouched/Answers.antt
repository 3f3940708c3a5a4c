-- The flags are set before the others are listed.
use mathlib.Core.Path.{◌∙◌, sym}
use native.Mathlib.Omega.{arith}
use Rattle.plan.proofs.PlanLaws.{touchable, flags_room, pieces_few, pieces_room, live_for}
use Rattle.plan.proofs.list_untouched.Goals as goal

pub touch_pieces-requires : goal.touch_pieces-requires
touch_pieces-requires c = let whole = touchable c.args.s.geometry c.args.written.now c.args.blocks.now c.requires.geometry_value c.requires.by_index c.requires.written_value in record {
  flags_value = whole.0;
  by_index = whole.1;
}

pub list_branches-requires : goal.list_branches-requires
list_branches-requires c =
    let room = flags_room _ _ c.requires.written_value c.touch_pieces.auto.flags in record {
      image_len = c.requires.image_len;
      places_len = c.requires.places_len ∙ sym c.requires.numbers_len;
      numbers_len_bound = pieces_few c.args.s.geometry c.requires.geometry_value _ c.requires.numbers_len;
      numbers_in_bounds = pieces_room c.args.s.geometry c.requires.geometry_value _ _ c.requires.numbers_len room;
      number_bound = omega arith;
      branches_len = c.requires.branches_len;
      live = live_for _ _ _ _ _ c.requires.numbers_len c.requires.live;
    }

pub returns : goal.returns
returns c =
    record {
      touching = c.touch_pieces.ensures;
      flags = flags_room _ _ c.requires.written_value c.touch_pieces.auto.flags;
      room = c.list_branches.auto.branches ∙ c.requires.branches_len;
      most = c.list_branches.ensures.1;
      listing_is = c.list_branches.ensures.0;
    }
