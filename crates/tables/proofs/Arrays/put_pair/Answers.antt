use native.Mathlib.Omega.{arith}
use Prim.Native.Nat.{◌+◌, ◌*◌}
use mathlib.Core.Path.{refl, ap, ◌∙◌}
use mathlib.Core.List.{[], ◌∷◌}
use lib.Seq.{sets}
use Rattle.drawing.specs.Drawing.{row_of}
use Rattle.sides.specs.declared.contacts.PairFeatures.{PairFeatures}
use Rattle.strips.specs.Strips.{face_row, disc_row, piece_row}
use Rattle.tables.specs.Tables.{with_features, with_sides, side_row, pair_choices}
use Rattle.tables.specs.declared.Arrays.{Arrays}
use Rattle.tables.proofs.Known.{features_are, faces_a, discs_a}
use Rattle.tables.proofs.Written.{same_arrays, pair-join}
use Rattle.tables.proofs.Arrays.put_pair.Goals as goal

pub returns : goal.returns
returns c =
    let s = c.args in
    let a : Arrays = s.self.now in
    let i = s.i in
    let f = c.pair_features_at-f.result in
    let e = features_are s.ps s.o s.p c.requires.1 c.pair_features_at-f.ensures in
    let n = faces_a s.ps s.o s.p in
    let d = discs_a s.ps s.o s.p in
    let g = s.p.geometry in
    let chosen : Arrays → Arrays = λ x. record x { choices = sets x.choices (4 * i) (pair_choices s.ps s.p) } in
    c.put_choices.ensures
    ∙ ap chosen (c.put_sides.ensures ∙ ap (λ (x : Arrays). with_sides x i g f) (c.put_side-2.ensures ∙ ap (λ (x : Arrays). with_features x (2 * i + 1) f.b) c.put_side.ensures))
    ∙ same_arrays refl refl refl
    (pair-join (λ q. face_row q.face) (λ t. t.face) a.faces e refl refl (omega arith) (omega (arith, n)))
    (pair-join (λ q. piece_row q.piece) (λ t. t.face) a.fnames e refl refl (omega arith) (omega (arith, n)))
    (pair-join (λ q. disc_row q.disc) (λ t. t.disc) a.discs e refl refl (omega arith) (omega (arith, d)))
    (pair-join (λ q. piece_row q.piece) (λ t. t.disc) a.dnames e refl refl (omega arith) (omega (arith, d)))
    (ap (λ (h : PairFeatures). sets a.sides (2 * i) (side_row (2 * i) g h.a ∷ side_row (2 * i + 1) g h.b ∷ [])) e)
    (ap (λ (h : PairFeatures). sets a.centers (2 * i) (row_of h.a.center.point ∷ row_of h.b.center.point ∷ [])) e)
    refl
