use Rattle.ipcz_fabric.specs.Selecting.{GivesParcel}
use Rattle.ipcz_fabric.proofs.AskedInTurn.{looked_before, looked_in_vain}
use Rattle.ipcz_fabric.proofs.caller.Caller.get_any.Goals as goal

pub returns-clause-extends : goal.returns-clause-extends
returns-clause-extends g c =
    let t = g.F.FabricName.table in
    let look = looked_in_vain (λ e. e.place) (λ e. e.why) t c.args.portals.now _ c.take_first-first.result c.are_empty.result c.args.self.now
    c.take_first-first.new.self c.are_empty.ensures c.if-not-are_empty.false c.take_first-first.ensures.extends in
    looked_before (λ e. e.place) (λ e. e.why) (λ a. a.0) (λ a. GivesParcel a.1.n a.1.bytes a.1.portals) t c.args.portals.now c.args.self.now
    c.take_first-first.new.self c.take_any_patiently.new.self c.take_any_patiently.result look c.take_any_patiently.ensures.extends
