use Prim.Native.Nat.{ℕ, ◌*◌}
use mathlib.Core.Path.{ap₂}
use mathlib.Core.List.{List}
use lib.Ieee.{Float}
use Rattle.tables.specs.declared.Arrays.{Arrays}
use Rattle.tables.proofs.Written.{set-two}
use Rattle.tables.proofs.Arrays.put_sides.Goals as goal

pub returns : goal.returns
returns c =
    let a : Arrays = c.args.self.now in
    let at = 2 * c.args.i in
    ap₂ (λ (x : List (List ℕ)) (y : List (List Float)). record a { sides = x; centers = y })
    (set-two a.sides at c.side_row.ensures c.side_row-2.ensures)
    (set-two a.centers at c.center_row.ensures c.center_row-2.ensures)
