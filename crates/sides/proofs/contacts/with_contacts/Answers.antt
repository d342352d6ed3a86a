use mathlib.Core.Path.{sym}
use Rattle.mechanism.proofs.Checks.{accepted-few}
use Rattle.sides.proofs.Accepted.{accepted-drawn}
use Rattle.sides.proofs.contacts.with_contacts.Goals as goal

pub all_contacts-requires : goal.all_contacts-requires
all_contacts-requires c =
    let m = c.args.m in
    let e = sym c.in_ok-check.ensures in
    ((accepted-few m e).parts, (accepted-few m e).pairs.count, accepted-drawn m e)
