use Rattle.std.proofs.Common.{◌∙◌, ◌+◌, ◌++◌, ◌∷◌, [], ap, subst, inl, inr, arith}
use Rattle.ipcz_fabric.specs.Portals.{PortalValue}
use Rattle.ipcz_fabric.specs.Hubs.{AddsHeld}
use Rattle.ipcz_fabric.proofs.Holding.{walk_more, walk_end}
use Rattle.ipcz_fabric.proofs.hub.add_held.Goals as goal

pub returns-in_default : goal.returns-in_default
returns-in_default g c = subst (λ n. AddsHeld c.args.cell.now.part.state n c.args.portals.now.items c.loop-serial.portals.items) c.node-node.ensures.node
    (walk_end c.args.cell.now.part.state c.node-node.result c.args.portals.now.items c.loop-serial.from c.loop-serial.portals.items c.loop-serial.invariant
    (inr c.in_default.ensures))

pub returns-then-serial : goal.returns-then-serial
returns-then-serial g c = subst (λ n. AddsHeld c.args.cell.now.part.state n c.args.portals.now.items c.push.new.self.items) c.node-node.ensures.node
    (walk_end c.args.cell.now.part.state c.node-node.result c.args.portals.now.items (c.in-Some.serial + 1) c.push.new.self.items
    (walk_more c.args.cell.now.part.state c.node-node.result c.args.portals.now.items c.loop-serial.from c.in-Some.serial c.in-Some.end c.loop-serial.portals.items
    c.push.new.self.items c.loop-serial.invariant c.in-Some.ensures
    (c.in_ok-push.ensures.items ∙ ap (λ (p : PortalValue). c.loop-serial.portals.items ++ p ∷ []) c.new.ensures))
    (inl (omega (arith, c.if-serial.true))))

pub loop-serial-preserved : goal.loop-serial-preserved
loop-serial-preserved g c = walk_more c.args.cell.now.part.state c.node-node.result c.args.portals.now.items c.loop-serial.from c.in-Some.serial c.in-Some.end
    c.loop-serial.portals.items c.push.new.self.items c.loop-serial.invariant c.in-Some.ensures
    (c.in_ok-push.ensures.items ∙ ap (λ (p : PortalValue). c.loop-serial.portals.items ++ p ∷ []) c.new.ensures)
