use Rattle.std.proofs.Common.{◌∙◌, sym}
use Rattle.ipcz_world.proofs.code.StatesOfNodes.{world_is}
use Rattle.ipcz_world.proofs.Vocabulary.{mail_at, node_at}
use Rattle.ipcz_world.proofs.code.LoneFinds.{alone, found-lone, lowest, none-beyond, none-full, none-held, sends-there}
use Rattle.ipcz_world.proofs.state.State.lone_sender.Goals as goal

pub returns-clause-some : goal.returns-clause-some
unfolding node_at mail_at
returns-clause-some c =
    let at = c.in-Some.ensures in
    found-lone (world_is c.self.view_is) (c.has_full.ensures.none c.if-has_full.false) at.here at.before at.behind c.node.ensures
    c.in-Some-next_sender.ensures.some c.if-link-self.false c.way.ensures.way (sym c.is_clear.ensures ∙ c.if-not-is_clear.false)

pub returns-then-has_full-clause-none : goal.returns-then-has_full-clause-none
unfolding mail_at
returns-then-has_full-clause-none c n serial link lone =
    none-full (world_is c.self.view_is) (c.has_full.ensures.some c.if-has_full.true) lone

pub returns-in_default-clause-none : goal.returns-in_default-clause-none
returns-in_default-clause-none c n serial link lone =
    c.in_default.ensures.none n (alone lone)

pub returns-in_default-next_sender-clause-none : goal.returns-in_default-next_sender-clause-none
unfolding node_at
returns-in_default-next_sender-clause-none c n serial link lone =
    let at = c.in-Some.ensures in
    c.in_default-next_sender.ensures.none serial link (sends-there (world_is c.self.view_is) lone at.here at.busy c.node.ensures)

pub returns-then-link-self-clause-none : goal.returns-then-link-self-clause-none
unfolding node_at
returns-then-link-self-clause-none c n serial link lone =
    let at = c.in-Some.ensures in
    none-beyond (world_is c.self.view_is) lone at.here at.busy c.node.ensures lowest c.in-Some-next_sender.ensures.some c.if-link-self.true

pub returns-then-not-is_clear-clause-none : goal.returns-then-not-is_clear-clause-none
unfolding node_at mail_at
returns-then-not-is_clear-clause-none c n serial link lone =
    let at = c.in-Some.ensures in
    none-held (world_is c.self.view_is) lone at.here at.busy c.node.ensures lowest c.in-Some-next_sender.ensures.some c.way.ensures.way
    (sym c.is_clear.ensures ∙ c.if-not-is_clear.true)
