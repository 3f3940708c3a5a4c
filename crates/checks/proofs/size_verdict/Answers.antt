-- Each refusal is the first that applies, by the laws of SizeLaws.
use native.Mathlib.Omega.{arith}
use Rattle.checks.proofs.SizeLaws.{size_refused, settings_refused, lengths_refused, size_passes, fits_number}
use mathlib.Core.Path.{ap}
use mathlib.Core.Bool.{not}
use Rattle.checks.proofs.size_verdict.Goals as goal

pub returns-then-not-image_fits : goal.returns-then-not-image_fits
returns-then-not-image_fits c =
    size_refused _ _ _ _ _ _ c.image_fits.result c.image_fits.ensures (ap not c.if-not-image_fits.true)

pub overflow_cast-lent : goal.overflow_cast-lent
overflow_cast-lent c =
    let h = fits_number c.args.settings c.args.lent.image c.args.lent.map c.args.lent.places c.args.lent.numbers c.args.lent.used c.image_fits.result c.image_fits.ensures (ap not c.if-not-image_fits.false) in
    omega arith

pub returns-then-not-fits : goal.returns-then-not-fits
returns-then-not-fits c =
    settings_refused _ _ _ _ _ _ c.image_fits.result c.image_fits.ensures (ap not c.if-not-image_fits.false) c.volume-g.result c.volume-g.ensures
    c.fits.result c.fits.ensures (ap not c.if-not-fits.true)

pub returns-then-not-tables_fit : goal.returns-then-not-tables_fit
returns-then-not-tables_fit c =
    lengths_refused _ _ _ _ _ _ c.image_fits.result c.image_fits.ensures (ap not c.if-not-image_fits.false) c.volume-g.result c.volume-g.ensures
    c.fits.result c.fits.ensures (ap not c.if-not-fits.false) c.tables_fit.result c.tables_fit.ensures (ap not c.if-not-tables_fit.true)

pub returns : goal.returns
returns c =
    size_passes _ _ _ _ _ _ c.image_fits.result c.image_fits.ensures (ap not c.if-not-image_fits.false) c.volume-g.result c.volume-g.ensures
    c.fits.result c.fits.ensures (ap not c.if-not-fits.false) c.tables_fit.result c.tables_fit.ensures (ap not c.if-not-tables_fit.false)
