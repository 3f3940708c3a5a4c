-- 1,024 bits are enough for a small volume; otherwise the map itself is marked.
use native.Mathlib.Omega.{arith}
use Prim.Native.Nat.{ℕ}
use mathlib.Core.Path.{refl, sym, ◌∙◌, ap}
use lib.ListN.{replicate}
use Rattle.layout.specs.Bounded.{at}
use Rattle.names.proofs.Marking.{place_below, entry_below, named_bits}
use Rattle.soundness.proofs.Sounding.{sectors_some}
use Rattle.log_tables.proofs.AgreeLaws.{taken_bits}
use Rattle.log_tables.proofs.agrees.make_used.Goals as goal

pub mark_few-requires : goal.mark_few-requires
mark_few-requires c =
    let some = sectors_some c.args.g c.requires.g_value in record {
      marks_len = refl;
      marks_value = refl;
      by_index = (λ q h. (let z = place_below c.args.g (at c.args.map.now) (at c.args.places.now) _ _ c.requires.places_len c.requires.map_len c.requires.places_value (omega arith) q h in omega arith));
      by_index_2 = (λ b h. (let z = entry_below c.args.g (at c.args.map.now) (at c.args.places.now) _ _ c.requires.places_len c.requires.map_len c.requires.places_value (omega arith) b h in omega arith));
    }

pub returns-then-g-le-SMALL : goal.returns-then-g-le-SMALL
returns-then-g-le-SMALL c =
    let some = sectors_some c.args.g c.requires.g_value in
    taken_bits c.args.g.n _ c.requires.places_value (omega arith) _ (named_bits c.args.g (at c.args.map.now) (at c.args.places.now) _ _ c.requires.places_len c.requires.map_len _ c.mark_few.ensures) _ c.requires.used_len (omega arith) _ c.copy_from_slice.ensures.after

pub mark_all-requires : goal.mark_all-requires
mark_all-requires c =
    let some = sectors_some c.args.g c.requires.g_value in record {
      marks_nonzero = omega arith;
      marks_value = c.fill.ensures.after (λ y e. e) ∙ ap (λ (x : ℕ). replicate x 0) (sym c.fill.auto.self);
      by_index = (λ q h. (let z = place_below c.args.g (at c.args.map.now) (at c.args.places.now) _ _ c.requires.places_len c.requires.map_len c.requires.places_value (omega arith) q h in omega arith));
      by_index_2 = (λ b h. (let z = entry_below c.args.g (at c.args.map.now) (at c.args.places.now) _ _ c.requires.places_len c.requires.map_len c.requires.places_value (omega arith) b h in omega arith));
    }

pub returns : goal.returns
returns c =
    named_bits c.args.g (at c.args.map.now) (at c.args.places.now) _ _ c.requires.places_len c.requires.map_len _ c.mark_all.ensures
