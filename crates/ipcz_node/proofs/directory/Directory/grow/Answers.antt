use Rattle.std.proofs.Common.{arith}
use Rattle.ipcz_node.proofs.Directories.{same_filed, room_for_some}
use Rattle.ipcz_node.proofs.Holding.{hold_more}
use Rattle.ipcz_node.proofs.Dryness.{dry_same}
use Rattle.ipcz_node.proofs.Readiness.{ready_room}
use Rattle.ipcz_node.proofs.directory.Directory.grow.Goals as goal

pub invariant_of-self-2 : goal.invariant_of-self-2
invariant_of-self-2 c = (
  (
    same_filed _ _ _ _ _ _ _ _ c.reserve.ensures.routers c.reserve-2.ensures.members c.reserve-3.ensures.members c.reserve-4.ensures.members
        c.self.invariant.0.0,
    room_for_some _ _ _ _ _ c.args.links _ _ _ _ _ c.reserve-2.new.self.room _ _ c.reserve.ensures.routers c.self.invariant.0.1 c.reserve-4.ensures.room
        c.in_ok-reserve.ensures.ok (omega (arith, c.in_ok-reserve-2.ensures.ok, c.in-Some.ensures.some)) c.in_ok-reserve-3.ensures.ok
        (λ some. omega (arith, c.in_ok-reserve-4.ensures.ok, c.in-Some-flags_wanted.ensures.some some, c.len.ensures.count)),
  ),
  hold_more _ _ c.self.inside.ends c.args.routers c.self.inside.room _ _ c.reserve.ensures.routers
      (omega (arith, c.in_ok-reserve-6.ensures.ok, c.in-Some-sum.ensures.some)) c.self.invariant.1,
  dry_same _ _ _ c.reserve.ensures.routers c.self.invariant.2,
  ready_room _ _ _ _ _ _ c.args.routers c.reserve.ensures.routers c.reserve-5.ensures.members c.reserve-5.ensures.room
      (λ some. omega (arith, c.in_ok-reserve-5.ensures.ok, c.in-Some-flags_wanted.ensures.some some, c.len.ensures.count)) c.self.invariant.3,
)
