use Rattle.text.proofs.FieldLaws.{Fitting}
use Rattle.text.proofs.fields.fits.Given as goal

abbrev pub invariant-loop-j : goal.invariant-loop-j
invariant-loop-j l = Fitting l.line l.form l.at l.j
