use mathlib.Core.Path.{sym, ap}
use Rattle.reading_lines.proofs.LineLaws.{wrote_as}
use Rattle.listing.specs.Listing.{posed_if, posed_lines}
use Rattle.listing.proofs.whole.posed_lines.Goals as goal

pub returns-in-Ok : goal.returns-in-Ok
unfolding posed_lines
returns-in-Ok c = wrote_as (ap (λ r. posed_if r c.args.m c.args.margin) (sym c.in-Ok.ensures)) c.read_lines.ensures

pub returns-in-Err : goal.returns-in-Err
unfolding posed_lines
returns-in-Err c = wrote_as (ap (λ r. posed_if r c.args.m c.args.margin) (sym c.in-Err.ensures)) c.refused.ensures
