use Rattle.material.specs.Material.{drawn_material}
use Rattle.strips.specs.Strips.{table_rows}
use Rattle.overlap.proofs.Deepest.{samples_taken}
use Rattle.overlap.proofs.prepared.PlacedTablesSampled.deepest.Goals as goal

pub sunk_part-requires : goal.sunk_part-requires
sunk_part-requires c =
    let x = c.part-p.ensures.1 in
    (x.sampled_small, x.samples_few)

pub returns : goal.returns
returns c =
    let s = c.args.self.now in
    samples_taken (table_rows s.tables.now) s.q (drawn_material c.args.m.now.material) c.args.from c.args.i c.part-p.ensures.0 c.placement_at-place.ensures c.sunk_part.ensures
