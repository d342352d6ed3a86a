use mathlib.Core.Path.{◌≡◌}
use Rattle.material.specs.Material.{drawn_material}
use Rattle.material.proofs.Squares.{PlainNumber}
use Rattle.overlap.specs.Overlap.{owner_at, sunk_among}
use Rattle.overlap.proofs.Deepest.{sunk_from}
use Rattle.overlap.proofs.sunk.sunk_in.Given as goal

abbrev pub invariant-loop-i : goal.invariant-loop-i
invariant-loop-i g l =
    let m = drawn_material l.m in
    let samples = g.S.Sampled.samples l.s in
    let n = g.S.Sampled.count l.s in
    record {
      plain : PlainNumber l.d;
      deep : sunk_from m samples (owner_at l.w) n l.d l.i ≡ sunk_among samples n (owner_at l.w) m;
    }
