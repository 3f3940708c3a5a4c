-- Each refusal is the first that applies, by the laws of StateLaws.
use Rattle.checks.proofs.StateLaws.{state_refused, settings_refused, tables_refused, own_refused, lengths_fit}
use mathlib.Core.Path.{ap}
use mathlib.Core.Bool.{not}
use Rattle.checks.proofs.state_verdict.Goals as goal

pub returns-then-not-state_fits : goal.returns-then-not-state_fits
returns-then-not-state_fits c =
    state_refused _ _ _ _ _ _ _ c.state_fits.result c.state_fits.ensures (ap not c.if-not-state_fits.true)

pub returns-then-not-fits : goal.returns-then-not-fits
returns-then-not-fits c =
    settings_refused _ _ _ _ _ _ _ c.state_fits.result c.state_fits.ensures (ap not c.if-not-state_fits.false)
    c.fits.result c.fits.ensures (ap not c.if-not-fits.true)

pub returns-then-not-tables_fit : goal.returns-then-not-tables_fit
returns-then-not-tables_fit c =
    tables_refused _ _ _ _ _ _ _ c.state_fits.result c.state_fits.ensures (ap not c.if-not-state_fits.false)
    c.fits.result c.fits.ensures (ap not c.if-not-fits.false) c.tables_fit.result c.tables_fit.ensures (ap not c.if-not-tables_fit.true)

pub returns-then-not-own : goal.returns-then-not-own
returns-then-not-own c =
    own_refused _ _ _ _ _ _ _ c.state_fits.result c.state_fits.ensures (ap not c.if-not-state_fits.false)
    c.fits.result c.fits.ensures (ap not c.if-not-fits.false) c.tables_fit.result c.tables_fit.ensures (ap not c.if-not-tables_fit.false) (ap not c.if-not-own.true)

pub returns : goal.returns
returns c =
    lengths_fit _ _ _ _ _ _ _ c.state_fits.result c.state_fits.ensures (ap not c.if-not-state_fits.false)
    c.fits.result c.fits.ensures (ap not c.if-not-fits.false) c.tables_fit.result c.tables_fit.ensures (ap not c.if-not-tables_fit.false) (ap not c.if-not-own.false)
