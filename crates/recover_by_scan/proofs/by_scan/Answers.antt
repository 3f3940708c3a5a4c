-- What the scan found is the finding of the definition.
use mathlib.Core.Path.{refl, ◌∙◌, ap}
use native.Mathlib.Omega.{arith}
use Prim.Native.Nat.{ℕ}
use lib.ListN.{length-replicate}
use Rattle.lending.specs.declared.Lengths.{Lengths}
use Rattle.volume.specs.Tables.{bit_at}
use Rattle.laws.proofs.Sizes.{fits}
use Rattle.recover_by_scan.proofs.ScanLaws.{scan_found_lem, scan_missing}
use Rattle.recover_by_scan.proofs.by_scan.Goals as goal

pub scan_held-requires : goal.scan_held-requires
scan_held-requires g c =
    record {
      n_le_size = c.requires.n_le_size;
      size_le_most_sectors = c.requires.size_le_most_sectors;
      g_value = c.requires.g_value;
      image_len = c.requires.image_len;
      map_len = c.requires.map_len;
      places_len = c.requires.places_len;
      numbers_len = c.requires.numbers_len;
      used_len = c.requires.used_len;
      n_bound = omega arith;
      above_value = rw (length-replicate {A = ℕ}) refl;
    }

pub whole_as_slice-scan_held : goal.whole_as_slice-scan_held
whole_as_slice-scan_held g c = omega arith

pub shared_whole_as_slice-after_scan : goal.shared_whole_as_slice-after_scan
shared_whole_as_slice-after_scan g c = omega arith

pub after_scan-requires : goal.after_scan-requires
after_scan-requires g c =
    let least = (fits c.args.g c.requires.g_value).least in
    record {
      le_n = omega arith;
      image_len = ap (λ (x : Lengths). x.image) c.scan_held.ensures.lengths ∙ c.requires.image_len;
      n_bound = omega arith;
    }

pub returns-in-Err-clause-value : goal.returns-in-Err-clause-value
returns-in-Err-clause-value g c =
    scan_missing _ _ _ _ _ _ _ _ c.scan_held.new.m.map.now c.scan_held.new.m.places.now c.scan_held.new.m.numbers.now c.scan_held.new.m.used.now
    (ap (λ (x : Lengths). x.map) c.scan_held.ensures.lengths) (ap (λ (x : Lengths). x.places) c.scan_held.ensures.lengths) (ap (λ (x : Lengths). x.numbers) c.scan_held.ensures.lengths) (ap (λ (x : Lengths). x.used) c.scan_held.ensures.lengths)
    c.scan_held.result c.scan_held.ensures.value.0 _ _ _ _ _ (c.zero_held.ensures.image ∙ c.scan_held.ensures.image) (ap (λ (x : Lengths). x.map) c.zero_held.ensures.lengths)
    (ap (λ (x : Lengths). x.places) c.zero_held.ensures.lengths) (ap (λ (x : Lengths). x.numbers) c.zero_held.ensures.lengths)
    (ap (λ (x : Lengths). x.used) c.zero_held.ensures.lengths)
    _ c.in-Err.is c.lost.result c.lost.ensures c.zero_held.ensures.tables

pub returns-in-Ok-clause-value : goal.returns-in-Ok-clause-value
returns-in-Ok-clause-value g c =
    scan_found_lem _ _ _ _ _ _ _ _ c.scan_held.new.m.map.now c.scan_held.new.m.places.now c.scan_held.new.m.numbers.now c.scan_held.new.m.used.now
    (ap (λ (x : Lengths). x.map) c.scan_held.ensures.lengths) (ap (λ (x : Lengths). x.places) c.scan_held.ensures.lengths) (ap (λ (x : Lengths). x.numbers) c.scan_held.ensures.lengths) (ap (λ (x : Lengths). x.used) c.scan_held.ensures.lengths)
    c.scan_held.result c.scan_held.ensures.value.0 _ _ (bit_at c.scan_held.new.above) c.scan_held.ensures.value.1 c.in-Ok.is _ c.scan_held.ensures.image c.after_scan.ensures.value
