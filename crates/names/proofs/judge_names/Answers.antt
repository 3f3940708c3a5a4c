-- Names that lie inside are counted.
use Rattle.std.proofs.Common.{length, sym, ◌∙◌, arith}
use Rattle.layout.specs.Bounded.{at}
use Rattle.names.proofs.Marking.{told}
use Rattle.names.proofs.judge_names.Goals as goal

pub returns : goal.returns
returns c =
    let inside = sym c.all_inside.ensures ∙ c.if-not-all_inside.false in
    let names = told c.args.g (at c.args.map.now) (at c.args.places.now) (length c.args.places.now) (length c.args.map.now) c.requires.places_len
    c.requires.map_len c.requires.le_n inside c.entries_inside-entries.result c.entries_inside-entries.ensures.0 in
    (inside, names.0, names.1, names.2, omega arith)
