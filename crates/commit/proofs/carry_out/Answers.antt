-- The stores end in a cut or are whole; the tables follow.
use mathlib.Core.Path.{refl, sym, ◌∙◌, ap}
use native.Mathlib.Omega.{arith}
use Rattle.lending.specs.declared.Lengths.{Lengths}
use Rattle.laws.proofs.Sizes.{fits}
use Rattle.power.proofs.Runs.{left_enough}
use Rattle.commit.proofs.CommitLaws.{carried_cut, carried_whole}
use Rattle.commit.proofs.carry_out.Goals as goal

pub store-power-requires : goal.store-power-requires
store-power-requires c =
    let most = (fits c.args.s.geometry c.requires.geometry_value).most in record {
      image_len = c.requires.image_len;
      ready = record {
        whole = c.requires.map_len;
        enough = c.requires.settling.enough;
        ascending = c.requires.settling.ascending;
        touched = c.requires.settling.touched;
        inside = c.requires.settling.inside;
        below = c.requires.settling.below;
        taken_all = omega arith;
        room = c.requires.branches_len_bound;
        numbers = omega arith;
        most = omega arith;
        flags = c.requires.settling.flags;
        counted = c.requires.members_value;
      };
      bytes_len = c.requires.bytes_len;
    }

pub overflow_sub-allowance : goal.overflow_sub-allowance
overflow_sub-allowance c =
    let h = left_enough _ _ _ (sym c.in-Some.is ∙ c.store-power.ensures.0) in
    omega arith

pub finish-requires : goal.finish-requires
finish-requires c = record {
  members_value = c.requires.members_value;
  le_members = c.requires.le_members;
  geometry_value = c.requires.geometry_value;
  map_len = c.requires.map_len;
  places_len = c.requires.places_len;
  numbers_len = c.requires.numbers_len;
  used_len = c.requires.used_len;
  number_value = c.requires.number_value;
  settling = c.requires.settling;
}

pub returns-in-None-clause-value : goal.returns-in-None-clause-value
returns-in-None-clause-value c =
    carried_cut c.args.s c.args.allowance c.args.m.now.image.now c.args.m.now.map.now c.args.m.now.places.now c.args.m.now.numbers.now c.args.m.now.used.now _ c.args.blocks.now
    c.args.bytes.now c.args.news.now c.args.taken.now c.args.branches.now c.args.written.now c.args.count c.args.members c.args.skipped c.store-power.auto.image
    c.store-power.ensures.1 _ c.cut.result refl c.cut.ensures
    (sym c.in-None.is ∙ c.store-power.ensures.0)

pub returns-in-Some-clause-value : goal.returns-in-Some-clause-value
returns-in-Some-clause-value c =
    rw c.finish.ensures.image (carried_whole c.args.s c.args.allowance c.args.m.now.image.now c.args.m.now.map.now c.args.m.now.places.now c.args.m.now.numbers.now c.args.m.now.used.now _ c.args.blocks.now
    c.args.bytes.now c.args.news.now c.args.taken.now c.args.branches.now c.args.written.now c.args.count c.args.members c.args.skipped c.store-power.auto.image
    c.store-power.ensures.1 _ _ _ _ c.finish.result _ (ap (λ (x : Lengths). x.map) c.finish.ensures.lengths) (ap (λ (x : Lengths). x.places) c.finish.ensures.lengths) (ap (λ (x : Lengths). x.numbers) c.finish.ensures.lengths) (ap (λ (x : Lengths). x.used) c.finish.ensures.lengths)
    c.requires.settling c.requires.members_value c.requires.le_members (sym c.in-Some.is ∙ c.store-power.ensures.0) c.finish.ensures.value)
