use Rattle.std.proofs.Common.{◌∙◌, [], ap, sym, arith}
use Rattle.ipcz_base.specs.Indexed.{place_at}
use Rattle.ipcz_node.specs.Preparing.{outlook_grows}
use Rattle.ipcz_node.proofs.Growing.{closes_none, item_alone, message_alone}
use Rattle.ipcz_node.proofs.state.NodeState.make_room.Goals as goal

pub returns-in_err-reserve-in-Item-clause-grows : goal.returns-in_err-reserve-in-Item-clause-grows
returns-in_err-reserve-in-Item-clause-grows c none =
    let n = c.args.self.now.node in
    let alone = item_alone n c.in-Item.to c.in-Item.field-1 (sym (ap (outlook_grows n) c.in-Item.is) ∙ none) in
    absurd (let no = c.in_err-reserve-in-Item.ensures.empty (ap (λ v. place_at [] v.node.outboxes c.in-Item.to) c.self.view_is ∙ alone.0) in cc)

pub returns-in_ok-reserve-in-Item-clause-grows : goal.returns-in_ok-reserve-in-Item-clause-grows
returns-in_ok-reserve-in-Item-clause-grows c none =
    let n = c.args.self.now.node in
    let alone = item_alone n c.in-Item.to c.in-Item.field-1 (sym (ap (outlook_grows n) c.in-Item.is) ∙ none) in
    let count = c.serials_as-count.ensures ∙ alone.1 in
    c.reserve_moves.ensures.full (omega (arith, count)) (omega (arith, count)) (omega (arith, count))

pub returns-in-Message-clause-grows : goal.returns-in-Message-clause-grows
returns-in-Message-clause-grows c none =
    let n = c.args.self.now.node in
    let alone = message_alone n c.in-Message.to (sym (ap (outlook_grows n) c.in-Message.is) ∙ none) in
    c.reserve-in-Message.ensures.empty (ap (λ v. place_at [] v.node.outboxes c.in-Message.to) c.self-in-Message.view_is ∙ alone)

pub returns-in-Closing-clause-grows : goal.returns-in-Closing-clause-grows
returns-in-Closing-clause-grows c none =
    let n = c.args.self.now.node in
    let alone = closes_none n c.in-Closing.ends (sym (ap (outlook_grows n) c.in-Closing.is) ∙ none) in
    c.reserve-in-Closing.ensures.succeeds (omega (arith, alone))
