use mathlib.Core.Path.{sym, ap, ◌∙◌}
use Rattle.mechanism.proofs.Checks.{accepted-few, parts-few}
use Rattle.bodies.specs.Check.{Checked}
use Rattle.tables.specs.Tables.{with_pairs, prepared_over}
use Rattle.tables.specs.declared.Arrays.{Arrays}
use Rattle.tables.proofs.Written.{points-put}
use Rattle.tables.proofs.Arrays.prepare.Goals as goal

pub returns-clause-after : goal.returns-clause-after
returns-clause-after c =
    let s = c.args in
    let a : Arrays = s.self.now in
    let fine = sym c.check.ensures ∙ c.in_ok-check.was in
    let few = parts-few s.m.parts (accepted-few s.m fine).parts in
    let w = c.put_all_points.ensures in
    c.put_pairs.ensures
    ∙ ap (λ (x : Arrays). with_pairs x s.m) (points-put a s.m.parts s.m.outlines few w.drawn w.sampled w.parts)
    ∙ ap (λ (x : Checked). prepared_over x a s.m) (sym fine)
