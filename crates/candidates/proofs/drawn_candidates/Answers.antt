use mathlib.Core.Path.{sym, ap, ◌∙◌}
use mathlib.Core.Bool.{false≢true}
use Rattle.drawing.specs.Drawing.{side_chosen}
use Rattle.proximities.proofs.Wrote.{wrote_same}
use Rattle.candidates.proofs.Sides.{parts_few, pair_places, features_read, center_read}
use Rattle.candidates.proofs.drawn_candidates.Goals as goal
use Rattle.candidates.proofs.drawn_candidates.Goals.{in-Features, in_default}

pub invariant_of-from : goal.invariant_of-from
invariant_of-from c = record { few = parts_few c.args.ps c.args.o c.args.p c.requires.0 c.pair_features_at-f.ensures }

pub of_features-requires : goal.of_features-requires
of_features-requires c = pair_places c.args.ps c.args.o c.args.p c.requires.0 c.pair_features_at-f.ensures c.requires.1

pub returns-then-features : goal.returns-then-features
returns-then-features c =
    let s = c.args in
    let a = c.side_chosen.ensures ∙ ap (side_chosen s.ps s.p.a) c.if-features.true in
    let b = c.side_chosen-2.ensures ∙ ap (side_chosen s.ps s.p.b) c.if-features.true in
    elim c.match-matches.branch [
      | in-Features w ↦ wrote_same (features_read s.ps s.o s.p c.requires.0 c.pair_features_at-f.ensures s.q w.in-Features.is a b) c.of_features.ensures
      | in_default w ↦ absurd (false≢true (sym w.matches-is ∙ c.if-features.true))
    ]

pub invariant_of-from-2 : goal.invariant_of-from-2
invariant_of-from-2 c = record { few = parts_few c.args.ps c.args.o c.args.p c.requires.0 c.pair_features_at-f.ensures }

pub returns : goal.returns
returns c =
    let s = c.args in
    let a = c.side_chosen.ensures ∙ ap (side_chosen s.ps s.p.a) c.if-features.false in
    elim c.match-matches.branch [
      | in-Features w ↦ absurd (false≢true (sym c.if-features.false ∙ w.matches-is))
      | in_default w ↦ wrote_same (center_read s.ps s.o s.p c.requires.0 c.pair_features_at-f.ensures s.q w.in_default.is a) c.of_center.ensures
    ]
