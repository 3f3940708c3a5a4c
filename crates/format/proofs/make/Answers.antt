-- The stores end in a cut or are whole; the tables follow.
use mathlib.Core.Path.{sym, ◌∙◌}
use mathlib.Core.Path.{ap}
use native.Mathlib.Omega.{arith}
use Rattle.lending.specs.declared.Lengths.{Lengths}
use Rattle.volume.specs.Tables.{sector_at}
use Rattle.power.proofs.Runs.{left_enough}
use Rattle.checks.proofs.SizeLaws.{size_passed, volume_passed}
use Rattle.fresh.proofs.FormatLaws.{format_cut_lem, format_whole}
use Rattle.format.proofs.make.Goals as goal

pub overflow_cast-m : goal.overflow_cast-m
overflow_cast-m c =
    let s = size_passed _ _ _ _ _ _ c.requires in
    omega arith

pub store_all-power-requires : goal.store_all-power-requires
store_all-power-requires c =
    let s = volume_passed _ _ _ _ _ _ c.volume-g.result c.volume-g.ensures c.requires in record {
      pieces_value = c.pieces_for-pieces.ensures;
      pieces_le_most_pieces = omega arith;
      pieces_lt_n = omega arith;
      image_len = s.image;
    }

pub fresh_held-requires : goal.fresh_held-requires
fresh_held-requires c =
    let s = volume_passed _ _ _ _ _ _ c.volume-g.result c.volume-g.ensures c.requires in record {
      pieces_value = c.pieces_for-pieces.ensures;
      pieces_le_most_pieces = omega arith;
      places_len = s.places ∙ sym c.pieces_for-pieces.ensures;
      numbers_len = s.numbers ∙ sym c.pieces_for-pieces.ensures;
      pieces_bound = omega arith;
    }

pub overflow_sub-stores : goal.overflow_sub-stores
overflow_sub-stores c =
    let h = left_enough _ _ _ (sym c.in-Some.is ∙ c.store_all-power.ensures.0) in
    omega arith

pub returns-in-None-clause-value : goal.returns-in-None-clause-value
returns-in-None-clause-value c =
    format_cut_lem _ c.volume-g.result _ _ _ _ _ _ _ _ _
    _ _ (ap (λ (x : Lengths). x.image) c.zero_held.ensures.lengths ∙ c.store_all-power.auto.image) (ap (λ (x : Lengths). x.map) c.zero_held.ensures.lengths)
    (ap (λ (x : Lengths). x.places) c.zero_held.ensures.lengths) (ap (λ (x : Lengths). x.numbers) c.zero_held.ensures.lengths)
    (ap (λ (x : Lengths). x.used) c.zero_held.ensures.lengths) (ap sector_at c.zero_held.ensures.image ∙ c.store_all-power.ensures.1)
    c.volume-g.ensures c.power_failed.result c.lost.result c.power_failed.ensures c.lost.ensures
    (sym c.in-None.is ∙ c.store_all-power.ensures.0) c.zero_held.ensures.tables

pub returns-in-Some-clause-value : goal.returns-in-Some-clause-value
returns-in-Some-clause-value c =
    format_whole _ c.volume-g.result _ _ _ _ _ _ _ _
    _ _ _ (ap (λ (x : Lengths). x.image) c.fresh_held.ensures.lengths ∙ c.store_all-power.auto.image) (ap (λ (x : Lengths). x.map) c.fresh_held.ensures.lengths)
    (ap (λ (x : Lengths). x.places) c.fresh_held.ensures.lengths) (ap (λ (x : Lengths). x.numbers) c.fresh_held.ensures.lengths)
    (ap (λ (x : Lengths). x.used) c.fresh_held.ensures.lengths) (ap sector_at c.fresh_held.ensures.image ∙ c.store_all-power.ensures.1)
    c.volume-g.ensures c.accepted.result c.running.result c.pieces_for-pieces.result _ c.pieces_for-pieces.ensures c.accepted.ensures
    c.running.ensures (sym c.in-Some.is ∙ c.store_all-power.ensures.0) c.fresh_held.ensures.tables
