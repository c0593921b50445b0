use Rattle.std.proofs.Common.{arith}
use Rattle.ipcz_messages.proofs.Leftovers.{none_only, two_only}
use Rattle.ipcz_messages.proofs.messages.leftovers.only_of.Goals as goal

pub returns-in_err-only : goal.returns-in_err-only
returns-in_err-only c =
    rw c.from_residual.ensures (λ i h. none_only c.args.made.now c.args.node c.args.line i c.in_err-only.ensures.none h)

pub returns-in-Some : goal.returns-in-Some
returns-in-Some c i h =
    two_only c.args.made.now c.args.node c.args.line c.in_ok-only.only c.in-Some.field-0 i (omega (arith, c.in-Some.ensures.behind))
    c.in-Some.ensures.behind.1 c.in_ok-only.ensures.holds c.in-Some.ensures.holds h
