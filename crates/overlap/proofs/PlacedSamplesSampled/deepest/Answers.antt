use Rattle.material.specs.Material.{drawn_material}
use Rattle.drawing.specs.Samples.{mouths_in}
use Rattle.drawing.proofs.Starts.{part-starts}
use Rattle.overlap.proofs.Lent.{part-asks, part-taken}
use Rattle.overlap.proofs.PlacedSamplesSampled.deepest.Goals as goal

pub sunk_part-requires : goal.sunk_part-requires
sunk_part-requires c =
    let s = c.args.self.now.posed in
    let h = c.requires in
    let asks = part-asks s.parts.now s.segs.now s.few s.there c.args.i h (part-starts s.parts.now s.few c.args.i h s.begun) in
    (asks.0, asks.1)

pub returns : goal.returns
returns c =
    let s = c.args.self.now.posed in
    let h = c.requires in
    part-taken s.parts.now s.segs.now s.few s.there c.args.i h (part-starts s.parts.now s.few c.args.i h s.begun)
    s.q (mouths_in c.args.self.now.mouths.now) (drawn_material c.args.m.now.material) c.args.from c.placement_at-place.ensures c.sunk_part.ensures
