use Rattle.std.proofs.Common.{◌++◌, ◌∙◌, sym, ap}
use Rattle.ipcz_verdict.specs.Desks.{ends_in, portal_at}
use Rattle.ipcz_verdict.proofs.Deciding.{close_done, close_miscounted, close_unheld}
use Rattle.ipcz_verdict.proofs.calls.close.Goals as goal

pub returns-then-not-holds-clause-decided : goal.returns-then-not-holds-clause-decided
returns-then-not-holds-clause-decided c = close_unheld c.args.portals.now c.args.portals.now c.args.node c.args.at c.args.number (sym c.holds.ensures ∙ c.if-not-holds.true)

pub returns-then-put_count-number-clause-decided : goal.returns-then-put_count-number-clause-decided
returns-then-put_count-number-clause-decided c = close_miscounted c.args.portals.now c.args.portals.now c.args.node c.args.at c.args.number (λ e. c.if-put_count-number.true (c.put_count.ensures ∙ e))

pub returns-clause-decided : goal.returns-clause-decided
returns-clause-decided c =
    close_done c.args.portals.now c.shut.new.portals c.close_dropped.new.portals c.args.node c.args.at c.args.number c.shut.new.dropped.items
    (sym c.holds.ensures ∙ c.if-not-holds.false) (sym c.put_count.ensures ∙ c.if-put_count-number.false) c.in_ok-shut.ensures.portals
    (c.in_ok-shut.ensures.dropped ∙ ap (λ t. t ++ ends_in (portal_at c.args.portals.now c.args.at).waiting) c.new-dropped.ensures.items) c.in_ok-close_dropped.ensures
