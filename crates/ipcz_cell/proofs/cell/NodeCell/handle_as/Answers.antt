use Rattle.std.proofs.lemmas.Result.{err_from_is_err_and}
use Rattle.std.proofs.Common.{◌≡◌, ◌∙◌, Some, ap, sym, subst}
use Rattle.ipcz_cell.specs.CellStates.{CellState}
use Rattle.ipcz_cell.specs.Mails.{old_named, Handles, IsTold}
use Rattle.ipcz_cell.proofs.TurnActs.{told_of}
use Rattle.ipcz_cell.proofs.TurnChains.{unnamed, names_none, fits_same, item_handled, item_refused}
use Rattle.ipcz_cell.proofs.cell.NodeCell.handle_as.Goals as goal
use Rattle.ipcz_cell.proofs.cell.NodeCell.handle_as.Goals.{in_default-via-in-None-1, in_default-via-in-Some+in_ok-handle_lone+else-branch}

pub handle_lone-requires-clause-known : goal.handle_lone-requires-clause-known
handle_lone-requires-clause-known g c = λ x is low.
    let item = c.in-Some.ensures in
    let held : c.args.self.now.part.message ≡ Some item.0 = sym (ap (λ (z : CellState). z.part.message) c.self.view_is) ∙ (c.self.invariant.0.message ∙ item.1) in
    sym (unnamed c.args.from x (names_none c.args.self.now.part.message x is (ap old_named held ∙ item.2)))

pub returns : goal.returns
returns g c =
    let old = c.args.self.now in
    let item = c.in-Some.ensures in
    let held : old.part.message ≡ Some item.0 = sym (ap (λ (z : CellState). z.part.message) c.self.view_is) ∙ (c.self.invariant.0.message ∙ item.1) in
    let done = c.in_ok-handle_lone.ensures in
    let fit = done.fit c.if-branch.true in (
      _,
      item.3 old.part.state c.args.from (fits_same old.part.state c.args.from old.part.message fit.0 item.0 fit.1 held fit.2),
      item_handled g.F.FabricName.table.size c.args.from old c.handle_lone.new.self item.0 held item.2 (done.taken c.if-branch.true) done.seen,
    )

pub returns-in_err-handle_lone : goal.returns-in_err-handle_lone
returns-in_err-handle_lone g c =
    let item = c.in-Some.ensures in
    let held : c.args.self.now.part.message ≡ Some item.0 = sym (ap (λ (z : CellState). z.part.message) c.self.view_is) ∙ (c.self.invariant.0.message ∙ item.1) in
    let done = c.in_err-handle_lone.ensures in
    let p = err_from_is_err_and c.from_residual.result c.from_residual.ensures.1 in
    rw (p.1, p.2) (item_refused g.F.FabricName.table.size c.args.from c.args.self.now c.handle_lone.new.self item.0 _ held item.2 done.why done.full done.err done.seen)

pub returns-2 : goal.returns-2
returns-2 g c =
    let t = g.F.FabricName.table in
    subst (λ (old : CellState). IsTold g.T.Told.tells (λ done. Handles t.size c.args.from old done c.handle_by.new.self) c.tell.result) same
    (told_of g.T.Told.tells (λ done. Handles t.size c.args.from c.in_default.self done c.handle_by.new.self) c.handle_by.result c.tell.result c.tell.ensures c.handle_by.ensures)
  where
    same : c.in_default.self ≡ c.args.self.now
    same = elim c.in_default.branch [
      | in_default-via-in-None-1 w ↦ w.self-is
      | in_default-via-in-Some+in_ok-handle_lone+else-branch w ↦ w.self-is ∙ w.in_ok-handle_lone.ensures.left w.if-branch.false
    ]
