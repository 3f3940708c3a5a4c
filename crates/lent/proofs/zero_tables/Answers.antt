-- Each table is zeros.
use lib.ListN.{length}
use Rattle.lent.proofs.LentLaws.{zero_tables_lem}
use Rattle.lent.proofs.zero_tables.Goals as goal

pub returns-clause-tables : goal.returns-clause-tables
returns-clause-tables c =
    zero_tables_lem _ _ _ _ (length c.args.t.now.map.now) (length c.args.t.now.places.now) (length c.args.t.now.numbers.now) (length c.args.t.now.used.now)
    (c.fill.ensures.after (λ y e. e)) (c.fill-2.ensures.after (λ y e. e)) (c.fill-3.ensures.after (λ y e. e)) (c.fill-4.ensures.after (λ y e. e))
