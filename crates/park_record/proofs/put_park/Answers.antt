-- The words are laid with a zero for the balance, and the balance takes its place.
use Rattle.park_record.proofs.Parks.{park_stored}
use Rattle.park_record.proofs.put_park.Goals as goal

pub returns : goal.returns
returns c =
    park_stored c.args.s.now _ _ _ _ _ _ c.args.number c.args.tail c.requires c.ranges.number.fits c.ranges.tail.fits
    c.put_mark.ensures c.put_word.ensures c.put_word-2.ensures c.put_word-3.ensures
    c.put_zeros.ensures c.put_balance.ensures
