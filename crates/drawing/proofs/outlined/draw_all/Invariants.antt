use Rattle.drawing.proofs.Draws.{Draws}
use Rattle.drawing.proofs.outlined.draw_all.Given as goal

abbrev pub invariant-loop-i : goal.invariant-loop-i
invariant-loop-i g l = Draws (g.O.Outlined.count l.o) (g.O.Outlined.polygon l.o) l.c l.w l.initial.points l.initial.starts l.initial.at l.initial.k l.points l.starts l.at l.k l.i
