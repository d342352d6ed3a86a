use mathlib.Core.Path.{◌≡◌}
use lib.Ieee.{Float}
use lib.ListN.{take}
use Rattle.geometry.specs.Signed.{dot_of}
use Rattle.pair_rows.proofs.Along.{Summed}
use Rattle.pair_rows.proofs.put_sums.Given as goal

abbrev pub invariant-loop-c : goal.invariant-loop-c
invariant-loop-c g l =
    (f : Float → Float → Float) → ((x y r : Float) → goal.F-post g l.change x y r → r ≡ f x y)
    → Summed (λ x c. f x (dot_of l.v c.column)) (take l.fn.k.count l.fn.k.column) l.n l.at l.initial.out l.out l.c-index
