-- The tables have room for any volume: the scan has the parts that belong to this one, and its finding is the answer.
use Prim.Native.Nat.{ℕ}
use mathlib.Core.List.{List}
use mathlib.Core.Path.{refl, ◌∙◌, ap}
use native.Mathlib.Omega.{arith}
use lib.Seq.{length-take-le}
use Rattle.std.proofs.Common.{rules}
use Rattle.volume.specs.Tables.{bit_at}
use Rattle.laws.proofs.Sizes.{fits}
use Rattle.live_marks.specs.Live.{marked}
use Rattle.live_marks.proofs.MarkLaws.{marks_told}
use Rattle.live_marks.proofs.mark_scanned.Goals as goal

pub scan-requires : goal.scan-requires
scan-requires c =
    let sizes = fits c.args.g c.requires.g_value in
    let sectors = sizes.sectors in record {
      g_value = c.requires.g_value;
      image_len = c.requires.image_len;
      sized = record {
        map_len = length-take-le _ _ sizes.most;
        places_len = length-take-le _ _ (omega arith) ∙ c.pieces_for-p.ensures;
        numbers_len = length-take-le _ _ (omega arith) ∙ c.pieces_for-p.ensures;
        used_len = c.requires.used_len;
      };
      n_bound = omega arith;
      above_value = refl;
    }

pub returns : goal.returns
returns c =
    ap (λ (us : List ℕ). marked c.is_ok.result (bit_at us)) (search rules)
    ∙ marks_told c.args.g c.args.image.now c.scan.result _ c.scan.ensures.value.0 c.is_ok.result c.is_ok.ensures.value
