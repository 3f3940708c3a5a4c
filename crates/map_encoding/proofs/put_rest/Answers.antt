-- The balance is that of the sector with the entries in.
use borrow.Author.Rules.{rules}
use Rattle.map_encoding.proofs.Encoding.{then_balanced}
use Rattle.map_encoding.proofs.put_rest.Goals as goal

pub put_entries-next-requires : goal.put_entries-next-requires
put_entries-next-requires c = record {
  s_len = search rules;
  map_len_bound = search rules;
  p_lt_most_pieces = search rules;
  blocks_in_bounds = search rules;
  by_index = search rules;
  cursor = search rules;
}

pub returns : goal.returns
returns c = (search rules, search (rules, then_balanced))
