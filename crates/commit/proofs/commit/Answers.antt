-- What the checks and the plan give is what storing and settling ask for.
use mathlib.Core.Path.{refl, sym, ◌∙◌}
use native.Mathlib.Omega.{arith}
use lib.Seq.{length-take-le}
use Rattle.lending.specs.Lending.{held}
use Rattle.verdict.proofs.CommitChecks.{passed}
use Rattle.commit.proofs.CommitPlan.{few_blocks, some_members, total_few, ts_word, ts_enough, ts_all, settling, members_counted, commit_done}
use Rattle.commit.proofs.commit.Goals as goal

pub plan-planned-requires : goal.plan-planned-requires
plan-planned-requires c =
    let p = passed _ _ _ _ _ _ _ _ _ c.requires.value in record {
      geometry_value = p.range;
      drive_value = p.drive;
      image_len = p.image;
      places_len = p.places;
      numbers_len = p.numbers;
      used_len = p.used;
      head_lt_n = p.head_below;
      number_le_greatest = p.few;
      count_le_commit_blocks = few_blocks _ _ _ _ _ _ _ _ _ c.requires.value c.requires.fact;
      by_index = p.inside;
      live = p.live;
      written_value = refl;
      branches_len = refl;
      taken_len = refl;
    }

pub overflow_add-total : goal.overflow_add-total
overflow_add-total c =
    let total = total_few _ _ _ _ _ _ _ _ _ c.requires.value c.requires.fact _ _ _ _ _ _ _ _ c.plan-planned.ensures refl in
    omega arith

pub slice_bounds-taken-end : goal.slice_bounds-taken-end
slice_bounds-taken-end c =
    let total = total_few _ _ _ _ _ _ _ _ _ c.requires.value c.requires.fact _ _ _ _ _ _ _ _ c.plan-planned.ensures refl in
    omega arith

pub slice_bounds-sectors-end : goal.slice_bounds-sectors-end
slice_bounds-sectors-end c =
    ts_all _ _ _ _ _ _ _ _ _ c.requires.value c.requires.fact _ _ _ _ _ _ _ _ c.plan-planned.ensures refl c.plan-planned.auto.taken

pub entries_for-requires : goal.entries_for-requires
entries_for-requires c = record {
  bytes_len = c.requires.bytes_len;
  count_in_bounds = ts_enough _ _ _ _ _ _ _ _ _ c.requires.value c.requires.fact _ _ _ _ _ _ _ _ c.plan-planned.ensures refl;
  count_in_bounds_2 = few_blocks _ _ _ _ _ _ _ _ _ c.requires.value c.requires.fact;
  by_index = ts_word _ _ _ _ _ _ _ _ _ c.requires.value c.requires.fact _ _ _ _ _ _ _ _ c.plan-planned.ensures refl;
}

pub slice_bounds-carry_out-end-2 : goal.slice_bounds-carry_out-end-2
slice_bounds-carry_out-end-2 c =
    sym (length-take-le c.plan-planned.result.branches c.plan-planned.new.branches (omega arith))

pub carry_out-requires : goal.carry_out-requires
carry_out-requires c =
    let p = passed _ _ _ _ _ _ _ _ _ c.requires.value in
    let cut = length-take-le c.plan-planned.result.branches c.plan-planned.new.branches (omega arith) in
    let whole = settling _ _ _ _ _ _ _ _ _ c.requires.value c.requires.fact _ _ _ _ _ _ _ _ c.plan-planned.ensures refl _ _ c.entries_for.ensures c.plan-planned.auto.written in
    let counted = members_counted _ _ _ _ _ _ _ _ _ c.requires.value c.requires.fact _ _ _ _ _ _ _ _ c.plan-planned.ensures refl _ _ c.entries_for.ensures in
    let some = some_members _ _ _ _ _ _ _ _ _ c.requires.value c.requires.fact _ _ _ _ _ _ _ _ c.plan-planned.ensures refl in record {
      geometry_value = p.range;
      image_len = p.image;
      map_len = p.map;
      places_len = p.places;
      numbers_len = p.numbers;
      used_len = p.used;
      number_value = p.sound_tables;
      settling = whole;
      members_value = counted;
      le_members = some;
      branches_len_bound = omega arith;
      bytes_len = c.requires.bytes_len;
    }

pub returns-clause-value : goal.returns-clause-value
returns-clause-value c =
    c.carry_out.ensures.value
    ∙ commit_done _ _ _ _ _ _ _ _ _ c.requires.value c.requires.fact _ _ _ _ _ _ _ _ c.plan-planned.ensures refl _ _ c.entries_for.ensures
    (held c.args.m.now)
