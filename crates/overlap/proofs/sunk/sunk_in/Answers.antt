use native.Mathlib.Omega.{arith}
use Prim.Native.Nat.{◌<◌, ◌≤◌}
use borrow.Author.Tests.{eq-eqb, ne_eqb}
use mathlib.Core.Path.{◌≡◌, sym, ap, subst, ◌∙◌}
use Rattle.material.specs.Material.{Material, drawn_material, deepest_square}
use Rattle.material.proofs.Squares.{PlainNumber, zero_plain}
use Rattle.overlap.specs.Overlap.{owner_at}
use Rattle.overlap.proofs.Deepest.{sunk_start, sunk_plain, sunk_more, sunk_skip, sunk_end}
use Rattle.overlap.proofs.sunk.sunk_in.Goals as goal
use Rattle.overlap.proofs.sunk.sunk_in.Goals.{then-w-i-eq1, else-w-i-eq1}

pub loop-i-init : goal.loop-i-init
loop-i-init g c =
    let s = c.args in
    record { plain = zero_plain; deep = sunk_start (drawn_material s.m.now) (g.S.Sampled.samples s.s.now) (owner_at s.w) (g.S.Sampled.count s.s.now) }

pub bounds-w-i : goal.bounds-w-i
bounds-w-i g c =
    let h = g.met.S.Sampled.few c.args.s.now in
    let e = c.count-i-end.ensures in
    omega (arith, h, e)

pub deepest-d-requires : goal.deepest-d-requires
deepest-d-requires g c =
    let s = c.args in
    let e = c.count-i-end.ensures in
    omega (arith, e)

pub loop-i-preserved : goal.loop-i-preserved
loop-i-preserved g c =
    let s = c.args in
    let e = c.count-i-end.ensures in
    let k = c.loop-i.invariant in
    let m = drawn_material s.m.now in
    let f = g.S.Sampled.samples s.s.now in
    let n = g.S.Sampled.count s.s.now in
    let h : c.loop-i.i < g.S.Sampled.count s.s.now = omega (arith, e) in
    let same : drawn_material c.ranged-ranged.result.material ≡ m = ap drawn_material c.ranged-ranged.ensures.0 in
    elim c.if-w-i-eq1.branch [
      | then-w-i-eq1 w ↦
          let sunk : w.deepest-d.result ≡ deepest_square m c.loop-i.d (f c.loop-i.i) =
          subst (λ (x : Material). w.deepest-d.result ≡ deepest_square x c.loop-i.d (f c.loop-i.i)) same w.deepest-d.ensures in
          let taken = w.d-is ∙ sunk in
          record {
            plain = sunk_plain m f (owner_at s.w) n c.loop-i.d c.loop-i.i k.plain taken;
            deep = sunk_more m f (owner_at s.w) n c.loop-i.d c.loop-i.i k.plain taken h (eq-eqb _ 1 w.if-w-i-eq1.true) ∙ k.deep;
          }
      | else-w-i-eq1 w ↦ record {
        plain = subst PlainNumber (sym w.d-is) k.plain;
        deep = rw w.d-is (sunk_skip m f (owner_at s.w) n c.loop-i.d c.loop-i.i h (ne_eqb _ 1 w.if-w-i-eq1.false) ∙ k.deep);
      }
    ]

pub returns : goal.returns
returns g c =
    let s = c.args in
    let e = c.count-i-end.ensures in
    let h : g.S.Sampled.count s.s.now ≤ c.loop-i.i = omega (arith, e, c.loop-i-test.false) in
    c.root.ensures.value
    ∙ sym (sunk_end (drawn_material s.m.now) (g.S.Sampled.samples s.s.now) (owner_at s.w) (g.S.Sampled.count s.s.now) c.loop-i.d c.loop-i.i h)
    ∙ c.loop-i.invariant.deep
