-- Reading the bodies by number. What stands past a list's end is never part of a description; here it has some value, so that every definition is total. Definitions only.
use Rattle.std.specs.Prelude.{ℕ, get_or}
use Rattle.std.specs.Float.{nan}
use Rattle.geometry.specs.declared.Point.{Point}
use Rattle.bodies.specs.declared.Body.{Body}
use Rattle.bodies.specs.declared.Joint.TheVariants.{Ground}
use Rattle.bodies.specs.declared.Bodies.{Bodies}

abbrev pub no_point : Point
no_point = record { x = nan; y = nan }

abbrev pub no_body : Body
no_body = record { parent = 0; joint = Ground }

-- body i + 1, as the ground is body 0
abbrev pub body_at : Bodies → ℕ → Body
body_at b i = get_or b.body i no_body
