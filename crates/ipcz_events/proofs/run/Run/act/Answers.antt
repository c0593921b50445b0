use Rattle.std.proofs.Common.{subst, sym}
use Rattle.ipcz_world.specs.Listing.{ArePossible}
use Rattle.ipcz_events.proofs.Asked.{obeyed-so, stopped-so}
use Rattle.ipcz_events.proofs.run.Run.act.Goals as goal

pub returns-then-taken : goal.returns-then-taken
returns-then-taken c =
    obeyed-so c.args.nodes c.args.self.now c.take_asked.new.self c.args.node c.args.words.now c.args.out.now.items c.take_asked.new.out.items c.in_ok-taken.taken
    c.in_ok-taken.ensures c.if-taken.true

pub returns : goal.returns
returns c =
    stopped-so c.args.nodes c.args.self.now c.take_asked.new.self c.args.node c.args.words.now c.args.out.now.items c.take_asked.new.out.items c.in_ok-taken.taken
    c.in_ok-taken.ensures c.from_vec.result c.take_asked.new.self c.if-taken.false
    (subst (ArePossible c.take_asked.new.self.session.world c.args.node) (sym c.from_vec.ensures) c.in_ok-possible.ensures.possible)
