use Rattle.std.proofs.Common.{◌≡◌, length, refl, sym, subst, arith}
use Rattle.std.proofs.lemmas.Option.{slice_get_read}
use Rattle.ipcz_cell.specs.Opens.{FindsQuiet}
use Rattle.ipcz_threads.proofs.workers.is_quiet_at.Goals as goal

pub returns-clause-asked : goal.returns-clause-asked
returns-clause-asked g c = (
  c.index-workers-node.result,
  c.quiet.new.self,
  slice_get_read c.args.workers.now (length c.args.workers.now) c.args.node c.index-workers-node.result refl (omega (arith, c.requires)) c.index-workers-node.is,
  subst (λ w. FindsQuiet g.F.FabricName.table w.cell c.quiet.result c.quiet.new.self.cell) (sym c.index-workers-node.is) c.quiet.ensures.quiet,
  subst (λ w. c.quiet.new.self.starved ≡ w.starved) (sym c.index-workers-node.is) c.quiet.ensures.starved,
  subst (λ w. c.quiet.new.self.left ≡ w.left) (sym c.index-workers-node.is) c.quiet.ensures.left,
  refl,
)
