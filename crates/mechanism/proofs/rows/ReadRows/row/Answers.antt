use mathlib.Core.Path.{◌≡◌, sym, ap, ◌∙◌}
use mathlib.Core.List.{List, []}
use Prim.Native.Nat.{ℕ}
use lib.ListN.{get_or}
use Rattle.std.proofs.lemmas.List.{get_or_past}
use Rattle.mechanism.specs.Rows.{row_in}
use Rattle.mechanism.proofs.rows.ReadRows.row.Goals as goal
use Rattle.mechanism.proofs.rows.ReadRows.row.Goals.{then-i-self, else-i-self, then-i-self-2, else-i-self-2}

pub returns : goal.returns
unfolding lib.Ieee.div lib.Ieee.of_bits
returns c =
    let s = c.args.self.now in
    let i = c.args.i in
    let value = c.if-i-self-2.value in
    let p = get_or s.places.now i [] in
    let v = get_or s.values.now i [] in
    let place_is : row_in c.if-i-self.place value ≡ row_in p value = elim c.if-i-self.branch [
      | then-i-self w ↦ ap (λ (x : List ℕ). row_in x value) w.place-is
      | else-i-self w ↦ ap (λ (x : List ℕ). row_in x value) w.place-is ∙ sym (ap (λ (x : List ℕ). row_in x value) (get_or_past s.places.now i [] w.if-i-self.false))
    ] in
    let value_is : row_in p value ≡ row_in p v = elim c.if-i-self-2.branch [
      | then-i-self-2 w ↦ ap (row_in p) w.value-is
      | else-i-self-2 w ↦ ap (row_in p) w.value-is ∙ sym (ap (row_in p) (get_or_past s.values.now i [] w.if-i-self-2.false))
    ] in
    c.from.ensures ∙ place_is ∙ value_is
