use Rattle.ipcz_promise.proofs.Ready.{none-ready, some-reached, some-ready}
use Rattle.ipcz_promise.proofs.calls.ready_from.Goals as goal

pub returns : goal.returns
returns c = record {
  ready = λ a k. some-ready c.args.world.now.world a c.args.node c.args.serial c.ready_from.result k c.ready_from.ensures.here c.ready_from.ensures.away;
  reached = some-reached c.args.world.now.world c.args.node c.args.serial c.ready_from.result c.ready_from.ensures.here c.ready_from.ensures.away;
  none = λ a k. none-ready c.args.world.now.world a c.args.node c.args.serial c.ready_from.result k c.ready_from.ensures.here;
}
