use Rattle.std.proofs.Common.{subst}
use Rattle.std.specs.Prelude.{slice_index_or}
use Rattle.ipcz_threads.specs.Rounds.{TakesTurns}
use Rattle.ipcz_threads.proofs.workers.take_round.Goals as goal

pub returns : goal.returns
returns g c = record {
  many = c.for_each_mut.auto.s;
  each = λ i w within.
      let at = (c.for_each_mut.ensures i w within).1 in
      subst (λ x. TakesTurns g.G.Gate.answers g.F.FabricName.table c.args.limit x (slice_index_or c.for_each_mut.new.s i w)) at.argument_is
      (subst (λ y. TakesTurns g.G.Gate.answers g.F.FabricName.table c.args.limit at.argument.now y) at.left at.call);
}
