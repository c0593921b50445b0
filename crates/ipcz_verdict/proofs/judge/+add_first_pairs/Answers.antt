use Rattle.std.proofs.Common.{◌≡◌, OnOk, subst}
use Rattle.ipcz_verdict.proofs.Beginning.{more_books}
use Rattle.ipcz_verdict.proofs.judge.+add_first_pairs.Goals as goal

pub returns : goal.returns
returns t c =
    subst (λ x. OnOk c.add_first_pairs.result (c.add_first_pairs.new.portals.items ≡ x))
    (more_books c.args.portals.now.items c.add_pairs.new.portals.items c.args.i c.args.left c.in_ok-add_pairs.ensures c.if-left-eq0.false)
    c.add_first_pairs.ensures
