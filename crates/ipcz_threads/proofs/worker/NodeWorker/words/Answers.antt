use Rattle.std.proofs.Common.{ap, subst}
use Rattle.ipcz_cell.specs.Mails.{HasSeen}
use Rattle.ipcz_threads.proofs.Wording.{goes_on-start, goes_on-word, goes_on-none, goes_on-end}
use Rattle.ipcz_threads.proofs.worker.NodeWorker.words.Goals as goal

pub loop-i-init : goal.loop-i-init
loop-i-init g c =
    let t = g.F.FabricName.table in
    record {
      on = goes_on-start t c.args.self.now c.claimed-claimed.result c.claimed-claimed.new.self c.new-words.result.items
          (subst (λ w. HasSeen t.size c.claimed-claimed.result w.cell c.claimed-claimed.new.self) c.self.view_is c.claimed-claimed.ensures.seen) c.new-words.ensures.items;
      starved = ap (λ w. w.starved) c.self.view_is;
      left = ap (λ w. w.left) c.self.view_is;
    }

pub returns-in_default : goal.returns-in_default
returns-in_default g c =
    goes_on-none g.F.FabricName.table c.args.self.now c.claimed-claimed.result c.loop-i.i c.loop-i.self-inside.cell c.loop-i.words.items c.loop-i.invariant.on c.loop-i-test.true
    (record { cell = c.word.new.self; starved = c.loop-i.self-inside.starved; left = c.loop-i.self-inside.left }) c.in_default.ensures c.loop-i.invariant.starved
    c.loop-i.invariant.left

pub loop-i-preserved : goal.loop-i-preserved
loop-i-preserved g c = record {
  on = goes_on-word g.F.FabricName.table c.args.self.now c.claimed-claimed.result c.loop-i.i c.loop-i.self-inside.cell c.loop-i.words.items c.loop-i.invariant.on c.loop-i-test.true
      c.in-Some.word c.word.new.self c.push.new.self.items c.in-Some.ensures c.in_ok-push.ensures.items;
  starved = c.loop-i.invariant.starved;
  left = c.loop-i.invariant.left;
}

pub returns : goal.returns
returns g c =
    goes_on-end g.F.FabricName.table c.args.self.now c.claimed-claimed.result c.loop-i.i
    (record { cell = c.loop-i.self-inside.cell; starved = c.loop-i.self-inside.starved; left = c.loop-i.self-inside.left }) c.loop-i.words.items c.loop-i.invariant.on
    c.loop-i-test.false c.loop-i.invariant.starved c.loop-i.invariant.left
