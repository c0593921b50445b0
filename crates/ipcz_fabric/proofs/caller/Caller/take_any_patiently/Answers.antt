use Rattle.std.proofs.Common.{refl, suc}
use Rattle.ipcz_fabric.proofs.AskedInTurn.{looked_in_vain, looks_more}
use Rattle.ipcz_fabric.proofs.caller.Caller.take_any_patiently.Goals as goal

pub loop-try-init : goal.loop-try-init
loop-try-init g c = (tt, tt, (0, refl))

pub loop-try-preserved : goal.loop-try-preserved
loop-try-preserved g c =
    let t = g.F.FabricName.table in
    let look = looked_in_vain (λ e. e.place) (λ e. e.why) t c.args.portals.now _ c.take_first-taken.result c.are_empty.result c.loop-try.self
    c.take_first-taken.new.self c.are_empty.ensures c.if-not-are_empty.false c.take_first-taken.ensures.extends in
    let so_far = c.loop-try.invariant.2 in
    (tt, tt, (suc so_far.0, looks_more t c.args.portals.now so_far.0 c.args.self.now c.loop-try.self c.take_first-taken.new.self so_far.1 look))
