-- Residues that are all different decide; otherwise the chains do, in tables that start with zeros.
use Prim.Native.Nat.{ℕ}
use mathlib.Core.Path.{◌∙◌}
use native.Mathlib.Omega.{arith}
use lib.ListN.{length-replicate}
use Rattle.laws.proofs.Filling.{zeros_get}
use Rattle.distinct.specs.Chains.{groups, rests}
use Rattle.distinct.proofs.words_distinct.Goals as goal

pub link-requires : goal.link-requires
link-requires c =
    let n = length-replicate {A = ℕ} 65536 0 in record {
      xs_len_bound = c.requires;
      heads_len = length-replicate {A = ℕ} groups 0;
      by_index = zeros_get groups;
      xs_in_bounds = omega arith;
    }

pub groups_distinct-requires : goal.groups_distinct-requires
groups_distinct-requires c =
    let n = c.link.auto.next ∙ length-replicate {A = ℕ} 65536 0 in record {
      xs_in_bounds = omega arith;
      heads_len = c.link.auto.heads ∙ length-replicate {A = ℕ} groups 0;
      linked = c.link.ensures;
      stamps_len = length-replicate {A = ℕ} rests 0;
      by_index = λ k. let z = zeros_get rests k in omega arith;
    }
