use Rattle.std.specs.Prelude.{Ok}
use Rattle.std.proofs.Common.{sym, subst}
use Rattle.ipcz_node.specs.declared.act.Act.{Act}
use Rattle.ipcz_node.specs.declared.act.Act.TheVariants as acts
use Rattle.ipcz_node.specs.declared.happened.Happened.TheVariants as events
use Rattle.ipcz_cell.specs.Mails.{Handles, IsTold}
use Rattle.ipcz_cell.specs.TurnEnds.{Acts}
use Rattle.ipcz_cell.proofs.TurnActs.{told_then, told_of}
use Rattle.ipcz_cell.proofs.TurnParts.{hand_takes, idle_acts}
use Rattle.ipcz_cell.proofs.cell.NodeCell.take.Goals as goal

pub returns-in-Hand : goal.returns-in-Hand
returns-in-Hand g c =
    let t = g.F.FabricName.table in
    let old = c.args.self.now in
    let new = c.handle_as.new.self in
    subst (λ (a : Act). IsTold g.T.Told.tells (λ done. Acts t a old done new) c.handle_as.result) (sym c.in-Hand.is)
    (told_then g.T.Told.tells (λ done. Handles t.size c.in-Hand.from old done new) (λ done. Acts t (acts.Hand c.in-Hand.from) old done new) c.handle_as.result
    (hand_takes t c.in-Hand.from old new) c.handle_as.ensures)

pub returns-in-Look : goal.returns-in-Look
returns-in-Look g c =
    subst (λ (a : Act). IsTold g.T.Told.tells (λ done. Acts g.F.FabricName.table a c.args.self.now done c.look_turn.new.self) c.look_turn.result) (sym c.in-Look.is) c.look_turn.ensures

pub returns-in-Post : goal.returns-in-Post
returns-in-Post g c =
    subst (λ (a : Act). IsTold g.T.Told.tells (λ done. Acts g.F.FabricName.table a c.args.self.now done c.post_turn.new.self) c.post_turn.result) (sym c.in-Post.is) c.post_turn.ensures

pub returns-in-Close : goal.returns-in-Close
returns-in-Close g c =
    let t = g.F.FabricName.table in
    subst (λ (a : Act). IsTold g.T.Told.tells (λ done. Acts t a c.args.self.now done c.close_turn.new.self) c.tell.result) (sym c.in-Close.is)
    (told_of g.T.Told.tells (λ done. Acts t (acts.Close c.in-Close.end) c.args.self.now done c.close_turn.new.self) c.close_turn.result c.tell.result c.tell.ensures c.close_turn.ensures)

pub returns-in-Router : goal.returns-in-Router
returns-in-Router g c =
    subst (λ (a : Act). IsTold g.T.Told.tells (λ done. Acts g.F.FabricName.table a c.args.self.now done c.router_turn.new.self) c.router_turn.result) (sym c.in-Router.is) c.router_turn.ensures

pub returns-in-Idle : goal.returns-in-Idle
returns-in-Idle g c =
    let t = g.F.FabricName.table in
    subst (λ (a : Act). IsTold g.T.Told.tells (λ done. Acts t a c.args.self.now done c.args.self.now) (Ok c.told.result)) (sym c.in-Idle.is)
    (events.Idle, c.told.ensures, idle_acts t c.args.self.now)
