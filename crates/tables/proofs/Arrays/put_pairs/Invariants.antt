use Prim.Native.Nat.{◌*◌}
use mathlib.Core.Path.{◌≡◌}
use Rattle.mechanism.specs.Description.{pair_at}
use Rattle.tables.specs.Tables.{of_pair, pair_faces, pair_face_names, pair_discs, pair_disc_names, pair_sides, pair_centers, pair_choices}
use Rattle.tables.proofs.Written.{TablePut}
use Rattle.tables.proofs.Arrays.put_pairs.Given as goal

abbrev pub invariant-loop-i : goal.invariant-loop-i
invariant-loop-i l =
    let m = l.m in
    let n = m.pairs.count in
    let b = l.initial.self in
    let a = l.self in
    record {
      drawn : a.drawn ≡ b.drawn;
      sampled : a.sampled ≡ b.sampled;
      parts : a.parts ≡ b.parts;
      faces : TablePut (of_pair m pair_faces) n b.faces a.faces (24 * l.i) l.i;
      fnames : TablePut (of_pair m pair_face_names) n b.fnames a.fnames (24 * l.i) l.i;
      discs : TablePut (of_pair m pair_discs) n b.discs a.discs (56 * l.i) l.i;
      dnames : TablePut (of_pair m pair_disc_names) n b.dnames a.dnames (56 * l.i) l.i;
      sides : TablePut (λ k. pair_sides m.parts m.outlines (pair_at m.pairs k) k) n b.sides a.sides (2 * l.i) l.i;
      centers : TablePut (of_pair m pair_centers) n b.centers a.centers (2 * l.i) l.i;
      choices : TablePut (λ k. pair_choices m.parts (pair_at m.pairs k)) n b.choices a.choices (4 * l.i) l.i;
    }
