-- The quarters, and what is left where four do not divide the number.
use Rattle.std.proofs.Common.{ℕ, Bool, length, ap, ◌∙◌, arith}
use Rattle.layout.specs.Entry.{sector_of}
use Rattle.names.specs.Marked.{marked}
use Rattle.layout.specs.Bounded.{at}
use Rattle.names.proofs.Marking.{entries_marked}
use Rattle.names.proofs.mark_entries.Goals as goal

pub mark_quarters-requires : goal.mark_quarters-requires
mark_quarters-requires c = record {
  quarter_in_bounds = omega arith;
  by_index = c.requires;
}

pub mark_rest-requires : goal.mark_rest-requires
mark_rest-requires c = record {
  from_in_bounds = omega arith;
  by_index = λ b h. (let z = c.requires b h in omega arith);
}

pub returns : goal.returns
returns c =
    λ others e.
    c.mark_rest.ensures _ c.mark_quarters.ensures ∙ ap (λ (b : ℕ → Bool). marked (λ b. sector_of (at c.args.map.now b)) (length c.args.map.now) b) e ∙ entries_marked (at c.args.map.now) others (length c.args.map.now)
