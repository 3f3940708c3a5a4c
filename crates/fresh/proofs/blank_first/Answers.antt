-- The part that comes back is zeros.
use Rattle.fresh.proofs.Blanking.{lent_blanked}
use Rattle.fresh.proofs.blank_first.Goals as goal

pub returns : goal.returns
returns c =
    lent_blanked c.args.image.now c.fill.new.self c.args.count c.requires (c.fill.ensures.after (λ y e. e))
