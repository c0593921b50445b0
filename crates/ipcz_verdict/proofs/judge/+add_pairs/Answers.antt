use Rattle.std.proofs.Common.{◌≡◌, OnOk, subst}
use Rattle.ipcz_verdict.proofs.Beginning.{two_books}
use Rattle.ipcz_verdict.proofs.judge.+add_pairs.Goals as goal

pub returns : goal.returns
returns t c =
    subst (λ x. OnOk c.add_pairs.result (c.add_pairs.new.portals.items ≡ x))
    (two_books c.args.portals.now.items c.push.new.self.items c.push-2.new.self.items c.new.result c.new-2.result c.args.i c.args.j c.args.left c.in_ok-push.ensures.items
    c.in_ok-push-2.ensures.items c.new.ensures c.new-2.ensures c.if-left-eq0.false)
    c.add_pairs.ensures
