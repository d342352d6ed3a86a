use Rattle.reading_lines.proofs.LineLaws.{fields-start, fields-room, fields-more, fields-end}
use Rattle.reading_lines.proofs.lines.float_fields.Goals as goal

pub loop-x-init : goal.loop-x-init
loop-x-init c = fields-start _ _ _ c.requires

pub float_field-k-requires : goal.float_field-k-requires
float_field-k-requires c = fields-room _ c.loop-x.invariant c.loop-x-test.true

pub loop-x-preserved : goal.loop-x-preserved
loop-x-preserved c = fields-more _ c.loop-x.invariant c.loop-x-test.true c.float_field-k.ensures

pub returns : goal.returns
returns c = fields-end c.loop-x.invariant c.loop-x-test.false
