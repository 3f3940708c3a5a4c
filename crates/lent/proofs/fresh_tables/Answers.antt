-- Filled one after the other, they are the tables of the definition.
use mathlib.Core.Path.{sym, ◌∙◌, ap}
use Prim.Native.Nat.{ℕ, suc}
use native.Mathlib.Omega.{arith}
use lib.ListN.{length, replicate}
use Rattle.layout.specs.Bounded.{list_from}
use Rattle.lent.proofs.LentLaws.{fresh_tables}
use Rattle.lent.proofs.fresh_tables.Goals as goal

pub mark_first-requires : goal.mark_first-requires
mark_first-requires c = record {
  used_value = c.fill-2.ensures.after (λ y e. e) ∙ ap (λ (x : ℕ). replicate x 0) (sym c.fill-2.ensures.len);
  count_bound = omega arith;
}

pub returns-clause-tables : goal.returns-clause-tables
returns-clause-tables c =
    fresh_tables c.args.l _ _ _ _ (length c.args.t.now.map.now) c.args.pieces c.requires.pieces_value (c.fill.ensures.after (λ y e. e))
    (c.count_up.ensures ∙ ap (λ (x : ℕ). list_from suc 0 x) c.requires.places_len) (c.count_up-2.ensures ∙ ap (λ (x : ℕ). list_from suc 0 x) c.requires.numbers_len)
    c.mark_first.ensures
