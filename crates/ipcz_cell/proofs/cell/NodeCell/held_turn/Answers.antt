use Rattle.std.proofs.Common.{◌≡◌, true, sym, subst}
use Rattle.std.specs.Prelude.{IsSomeAnd}
use Rattle.ipcz_router.specs.ActTable.{may_take}
use Rattle.ipcz_router.specs.declared.act.RouterAct.TheVariants as router_acts
use Rattle.ipcz_node.specs.declared.act.Act.TheVariants as acts
use Rattle.ipcz_node.specs.Node.{router_in}
use Rattle.ipcz_rule.specs.declared.view.Part.{Part}
use Rattle.ipcz_cell.proofs.TurnActs.{touch_acts, stood_in, may_unlock, held_touch, held_stand_in}
use Rattle.ipcz_cell.proofs.cell.NodeCell.held_turn.Goals as goal

pub unlock_turn-requires : goal.unlock_turn-requires
unlock_turn-requires g c =
    subst (λ (p : Part). IsSomeAnd (router_in p.state c.args.serial) (λ r. may_take r router_acts.Unlock ≡ true)) (sym c.prepare.ensures.part)
    (may_unlock c.args.act c.requires.held (router_in c.args.self.now.part.state c.args.serial) c.requires.possible)

pub returns-in-Ok : goal.returns-in-Ok
returns-in-Ok g c =
    let ready = c.prepare.ensures in
    let done = c.touch_act.ensures in
    touch_acts g.F.FabricName.table (acts.Router c.args.serial c.args.act) c.args.self.now c.prepare.new.self c.touch_act.new.self c.touch_act.result (held_touch c.args.act c.requires.held) ready.part ready.seen done.event done.part done.seen

pub returns-in-Err-OutOfMemory : goal.returns-in-Err-OutOfMemory
returns-in-Err-OutOfMemory g c =
    let ready = c.prepare.ensures in
    stood_in g.F.FabricName.table c.args.serial c.args.act c.args.self.now c.prepare.new.self c.unlock_turn.new.self c.unlock_turn.result (held_stand_in c.args.act c.args.serial c.requires.held) c.in-Err-OutOfMemory.ensures.grows c.in-Err-OutOfMemory.ensures.full ready.part ready.seen c.unlock_turn.ensures
