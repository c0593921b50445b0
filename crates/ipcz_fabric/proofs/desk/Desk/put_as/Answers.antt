use Rattle.ipcz_rule.specs.declared.history.Call.TheVariants as calls
use Rattle.ipcz_rule.specs.Steps.{put_part}
use Rattle.ipcz_fabric.specs.Portals.{ends_of}
use Rattle.ipcz_fabric.specs.Replays.{Extends}
use Rattle.ipcz_fabric.proofs.Replaying.{calls_at, left_seen, by_told}
use Rattle.ipcz_fabric.proofs.Stops.{desk_more}
use Rattle.ipcz_fabric.proofs.desk.Desk.put_as.Goals as goal

pub invariant_of-self : goal.invariant_of-self
invariant_of-self g c =
    let noted = c.put_noted.ensures.noted in
    desk_more g.F.FabricName.table (calls.Put c.args.profile c.args.portal.now.end c.args.bytes (ends_of c.args.portals.items) noted.0) c.args.me.now.id
    c.self.inside.cell.part noted.2.part c.put_noted.new.cell.part c.self.inside.stop c.self.invariant noted.3 noted.4.part

pub returns-clause-left : goal.returns-clause-left
returns-clause-left g c =
    left_seen (λ e. e.why) c.args.me.now.id (calls.Put c.args.profile c.args.portal.now.end c.args.bytes (ends_of c.args.portals.items))
    (put_part c.args.portal.now.end c.args.bytes (ends_of c.args.portals.items)) c.put_noted.result c.self.inside.cell c.args.self.now c.put_noted.new.cell
    c.self.view_is c.put_noted.ensures.left

pub returns-clause-extends : goal.returns-clause-extends
returns-clause-extends g c =
    let noted = c.put_noted.ensures.noted in
    by_told (λ e. e.why)
    (λ told. Extends g.F.FabricName.table c.args.self.now.part.node (calls.Put c.args.profile c.args.portal.now.end c.args.bytes (ends_of c.args.portals.items) told)
    c.args.me.now c.put_noted.new.me)
    c.put_noted.result noted.0 noted.1
    (calls_at g.F.FabricName.table (calls.Put c.args.profile c.args.portal.now.end c.args.bytes (ends_of c.args.portals.items) noted.0) c.self.inside.cell c.args.self.now
    noted.2 c.put_noted.new.cell c.args.me.now c.put_noted.new.me c.self.view_is c.self.invariant.0 noted.3 noted.4.part noted.5)

pub returns-clause-full : goal.returns-clause-full
returns-clause-full g c = rw (← c.self.view_is) c.put_noted.ensures.full
