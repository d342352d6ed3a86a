use mathlib.Core.Path.{sym, ap, ◌∙◌}
use Rattle.strips.specs.Strips.{table_rows, side_at, side_in, row_of_material}
use Rattle.strips.specs.declared.SideFacts.{SideFacts}
use Rattle.drawing.specs.Prepared.{choice_at}
use Rattle.proximities.proofs.Wrote.{wrote_same}
use Rattle.candidates.proofs.Pairs.{features_places, center_places, features_from, center_from}
use Rattle.candidates.proofs.prepared.candidates_of.Goals as goal

pub of_features-requires : goal.of_features-requires
of_features-requires c =
    let t = table_rows c.args.t.now in
    let ea = c.side-a.ensures.features ∙ ap (side_in t) c.row_a-i.ensures in
    let eb = c.side-b.ensures.features ∙ ap (side_in t) c.row_b-j.ensures in
    let f = c.facts.ensures.0 ∙ ap (side_at t) c.row_a-i.ensures in
    features_places t c.args.pair ea eb (sym (ap (λ (s : SideFacts). s.geometry) f) ∙ c.if-facts-eq0.true) c.requires

pub returns-then-facts-eq0 : goal.returns-then-facts-eq0
returns-then-facts-eq0 c =
    let t = table_rows c.args.t.now in
    let ea = c.side-a.ensures.features ∙ ap (side_in t) c.row_a-i.ensures in
    let eb = c.side-b.ensures.features ∙ ap (side_in t) c.row_b-j.ensures in
    let f = c.facts.ensures.0 ∙ ap (side_at t) c.row_a-i.ensures in
    let eca = c.choice_at.ensures ∙ ap (choice_at t) (c.row_of_material.ensures ∙ ap row_of_material c.row_a-i.ensures) in
    let ecb = c.choice_at-2.ensures ∙ ap (choice_at t) (c.row_of_material-2.ensures ∙ ap row_of_material c.row_b-j.ensures) in
    wrote_same (features_from t c.args.pair ea eb c.args.q eca ecb (sym (ap (λ (s : SideFacts). s.geometry) f) ∙ c.if-facts-eq0.true)) c.of_features.ensures

pub of_center-requires : goal.of_center-requires
of_center-requires c =
    let t = table_rows c.args.t.now in
    let ea = c.side-a.ensures.features ∙ ap (side_in t) c.row_a-i.ensures in
    let f = c.facts.ensures.0 ∙ ap (side_at t) c.row_a-i.ensures in
    center_places t c.args.pair ea (λ h. c.if-facts-eq0.false (ap (λ (s : SideFacts). s.geometry) f ∙ h)) c.requires

pub returns : goal.returns
returns c =
    let t = table_rows c.args.t.now in
    let ea = c.side-a.ensures.features ∙ ap (side_in t) c.row_a-i.ensures in
    let eb = c.side-b.ensures.features ∙ ap (side_in t) c.row_b-j.ensures in
    let f = c.facts.ensures.0 ∙ ap (side_at t) c.row_a-i.ensures in
    let eca = c.choice_at.ensures ∙ ap (choice_at t) (c.row_of_material.ensures ∙ ap row_of_material c.row_a-i.ensures) in
    wrote_same (center_from t c.args.pair ea eb c.args.q eca (λ h. c.if-facts-eq0.false (ap (λ (s : SideFacts). s.geometry) f ∙ h))) c.of_center.ensures
