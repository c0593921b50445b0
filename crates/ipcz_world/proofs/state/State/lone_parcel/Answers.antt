use Rattle.std.proofs.Common.{◌∙◌, sym}
use Rattle.ipcz_world.proofs.code.StatesOfNodes.{world_is}
use Rattle.ipcz_world.proofs.Vocabulary.{mail_at, node_at}
use Rattle.ipcz_world.proofs.code.LoneFinds.{alone, found-lone, none-beyond, none-full, none-held, only_one, sends-there}
use Rattle.ipcz_world.proofs.state.State.lone_parcel.Goals.{then-link-self-via-then-link-self, then-link-self-via-else-link-self+then-not-is_clear}
use Rattle.ipcz_world.proofs.state.State.lone_parcel.Goals as goal

pub returns-clause-some : goal.returns-clause-some
unfolding node_at mail_at
returns-clause-some c =
    let at = c.in-Some.ensures in
    found-lone (world_is c.self.view_is) (c.has_full.ensures.none c.if-has_full.false) at.here at.before at.behind c.node.ensures
    c.in-Some-only_sender.ensures.some c.if-link-self.false c.way.ensures.way (sym c.is_clear.ensures ∙ c.if-not-is_clear.false)

pub returns-then-has_full-clause-none : goal.returns-then-has_full-clause-none
unfolding mail_at
returns-then-has_full-clause-none c n serial link lone =
    none-full (world_is c.self.view_is) (c.has_full.ensures.some c.if-has_full.true) lone

pub returns-in_default-clause-none : goal.returns-in_default-clause-none
returns-in_default-clause-none c n serial link lone =
    c.in_default.ensures.none n (alone lone)

pub returns-in_default-only_sender-clause-none : goal.returns-in_default-only_sender-clause-none
unfolding node_at
returns-in_default-only_sender-clause-none c n serial link lone =
    let at = c.in-Some.ensures in
    c.in_default-only_sender.ensures.none serial link (sends-there (world_is c.self.view_is) lone at.here at.busy c.node.ensures)

pub returns-then-link-self-clause-none : goal.returns-then-link-self-clause-none
unfolding node_at mail_at
returns-then-link-self-clause-none c n serial link lone =
    let at = c.in-Some.ensures in
    elim c.then-link-self.branch [
      | then-link-self-via-then-link-self b ↦
          none-beyond (world_is c.self.view_is) lone at.here at.busy c.node.ensures only_one c.in-Some-only_sender.ensures.some b.if-link-self.true
      | then-link-self-via-else-link-self+then-not-is_clear b ↦
          none-held (world_is c.self.view_is) lone at.here at.busy c.node.ensures only_one c.in-Some-only_sender.ensures.some b.way.ensures.way
          (sym b.is_clear.ensures ∙ b.if-not-is_clear.true)
    ]
