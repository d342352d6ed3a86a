use native.Mathlib.Omega.{arith}
use Prim.Native.Nat.{◌<◌}
use mathlib.Core.Path.{refl, ap, ◌∙◌}
use Rattle.mechanism.specs.Description.{pair_at}
use Rattle.mechanism.proofs.Checks.{accepted-few}
use Rattle.mechanism.proofs.Drawn.{accepted-pair-drawn}
use Rattle.tables.specs.declared.Arrays.{Arrays}
use Rattle.tables.proofs.Known.{pair-faces, pair-face-names, pair-discs, pair-disc_names}
use Rattle.tables.proofs.Written.{same_arrays, table_start, table_next, table_end}
use Rattle.tables.proofs.Arrays.put_pairs.Goals as goal

pub loop-i-init : goal.loop-i-init
loop-i-init c = record {
  drawn = refl;
  sampled = refl;
  parts = refl;
  faces = table_start _ _;
  fnames = table_start _ _;
  discs = table_start _ _;
  dnames = table_start _ _;
  sides = table_start _ _;
  centers = table_start _ _;
  choices = table_start _ _;
}

pub offset_bounds-m-i : goal.offset_bounds-m-i
offset_bounds-m-i c = let f = (accepted-few c.args.m c.requires).pairs.count in omega arith

pub bounds-m-i : goal.bounds-m-i
bounds-m-i c = let f = (accepted-few c.args.m c.requires).pairs.count in omega arith

pub put_pair-requires : goal.put_pair-requires
put_pair-requires c =
    let m = c.args.m in
    let few = (accepted-few m c.requires).pairs.count in
    let h : c.loop-i.i < m.pairs.count = c.loop-i-test.true in
    (omega (arith, few, h), accepted-pair-drawn m c.requires c.loop-i.i h)

pub loop-i-preserved : goal.loop-i-preserved
loop-i-preserved c =
    let ps = c.args.m.parts in
    let o = c.args.m.outlines in
    let p = pair_at c.args.m.pairs c.loop-i.i in
    let h : c.loop-i.i < c.args.m.pairs.count = c.loop-i-test.true in
    let k = c.loop-i.invariant in
    let e = c.put_pair.ensures in
    record {
      drawn = ap (λ (a : Arrays). a.drawn) e ∙ k.drawn;
      sampled = ap (λ (a : Arrays). a.sampled) e ∙ k.sampled;
      parts = ap (λ (a : Arrays). a.parts) e ∙ k.parts;
      faces = table_next _ _ h (ap (λ (a : Arrays). a.faces) e) (omega (arith, pair-faces ps o p)) k.faces;
      fnames = table_next _ _ h (ap (λ (a : Arrays). a.fnames) e) (omega (arith, pair-face-names ps o p)) k.fnames;
      discs = table_next _ _ h (ap (λ (a : Arrays). a.discs) e) (omega (arith, pair-discs ps o p)) k.discs;
      dnames = table_next _ _ h (ap (λ (a : Arrays). a.dnames) e) (omega (arith, pair-disc_names ps o p)) k.dnames;
      sides = table_next _ _ h (ap (λ (a : Arrays). a.sides) e) (omega arith) k.sides;
      centers = table_next _ _ h (ap (λ (a : Arrays). a.centers) e) (omega arith) k.centers;
      choices = table_next _ _ h (ap (λ (a : Arrays). a.choices) e) (omega arith) k.choices;
    }

pub returns : goal.returns
returns c =
    let h = c.loop-i-test.false in
    let k = c.loop-i.invariant in
    same_arrays k.drawn k.sampled k.parts (table_end _ _ h k.faces) (table_end _ _ h k.fnames) (table_end _ _ h k.discs) (table_end _ _ h k.dnames)
    (table_end _ _ h k.sides) (table_end _ _ h k.centers) (table_end _ _ h k.choices)
