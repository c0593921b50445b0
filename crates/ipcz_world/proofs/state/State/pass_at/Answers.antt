use Rattle.std.proofs.Common.{◌∙◌, inl, inr, ap, sym, subst, refl, arith}
use Rattle.ipcz_world.proofs.code.StatesOfNodes.{world_is}
use Rattle.ipcz_world.proofs.Vocabulary.{LinkEnd, World, mail_at, node_at, set_mail, set_node, SendsNext, IsPassing, with_hand}
use Rattle.ipcz_world.specs.FastPath.{lone_message}
use Rattle.ipcz_world.proofs.code.LoneFinds.{link_is, lowest}
use Rattle.ipcz_world.proofs.code.Passing.{found-item, handed-passing, has-sent}
use Rattle.ipcz_world.proofs.code.PassingWithin.{handed-leads, left-leads, sent-passing}
use Rattle.ipcz_world.proofs.code.Writes.{lengths-kept}
use Rattle.ipcz_world.proofs.state.State.pass_at.Goals as goal

pub returns-in_default-clause-begun : goal.returns-in_default-clause-begun
unfolding node_at
returns-in_default-clause-begun c serial link sends to =
    absurd (c.in_default.ensures.none serial link
    (subst (λ x. SendsNext x serial link) (sym (c.node.ensures ∙ ap (λ (v : World). node_at v c.args.n) (world_is c.self.view_is))) sends))

pub returns-then-link-n-clause-begun : goal.returns-then-link-n-clause-begun
unfolding node_at
returns-then-link-n-clause-begun c serial link sends to =
    let found = subst (λ x. SendsNext x c.in-Some.serial c.in-Some.link) (c.node.ensures ∙ ap (λ (v : World). node_at v c.args.n) (world_is c.self.view_is))
    c.in-Some.ensures.some in
    let same = link_is lowest sends found in
    absurd (c.if-link-n.true (sym (to ∙ ap (λ (e : LinkEnd). e.other) same)))

pub send_next-number-requires : goal.send_next-number-requires
unfolding node_at
send_next-number-requires c =
    found-item (subst (λ x. SendsNext x c.in-Some.serial c.in-Some.link) c.node.ensures c.in-Some.ensures.some) c.node_mut.ensures.value

pub hand_lone-requires-clause-lengths : goal.hand_lone-requires-clause-lengths
unfolding set_node
hand_lone-requires-clause-lengths c =
    lengths-kept (world_is c.self.view_is) c.args.n c.send_next-number.new.self.node c.requires.lengths c.requires.here

pub returns-then-hand_lone : goal.returns-then-hand_lone
unfolding node_at set_node
returns-then-hand_lone c =
    let there = ap (λ (v : World). node_at v c.args.n) (world_is c.self.view_is) in
    let sends = subst (λ x. SendsNext x c.in-Some.serial c.in-Some.link) (c.node.ensures ∙ there) c.in-Some.ensures.some in
    let s = c.send_next-number.ensures in
    let sent = has-sent sends (c.node_mut.ensures.value ∙ there) s.node s.number s.item s.serials in
    let taken = c.hand_lone.ensures.taken c.if-hand_lone.true in
    let after = sent-passing (world_is c.self.view_is) c.requires c.if-link-n.false sent in
    let on = handed-leads (world_is c.self.view_is) c.requires c.if-link-n.false sent c.hand_lone.new.self.world taken (c.hand_lone.ensures.allowed c.if-hand_lone.true) in
    record {
      passing = λ _. subst (IsPassing c.hand_lone.new.self.world c.args.n) c.if-link-n.false (handed-passing _ _ _ _ c.in-Some.link _ _ after taken);
      acts = inr (inr refl);
      none = λ e. cc;
      walk = λ _. on.walk;
      count = on.count;
      begun = λ _ _ _ _. omega arith;
    }

pub leave_in_hand-requires : goal.leave_in_hand-requires
unfolding node_at set_node mail_at
leave_in_hand-requires c =
    let there = ap (λ (v : World). node_at v c.args.n) (world_is c.self.view_is) in
    let sends = subst (λ x. SendsNext x c.in-Some.serial c.in-Some.link) (c.node.ensures ∙ there) c.in-Some.ensures.some in
    let s = c.send_next-number.ensures in
    let sent = has-sent sends (c.node_mut.ensures.value ∙ there) s.node s.number s.item s.serials in
    let left = (c.hand_lone.ensures.left c.if-hand_lone.false).0 in
    let after = subst (λ v. IsPassing v c.args.n c.in-Some.link.other) (sym left) (sent-passing (world_is c.self.view_is) c.requires c.if-link-n.false sent) in
    record { lengths = after.lengths; here = after.here; there = after.there; hand = after.hand; clear = after.box }

pub returns : goal.returns
unfolding node_at set_node set_mail
returns c =
    let there = ap (λ (v : World). node_at v c.args.n) (world_is c.self.view_is) in
    let sends = subst (λ x. SendsNext x c.in-Some.serial c.in-Some.link) (c.node.ensures ∙ there) c.in-Some.ensures.some in
    let s = c.send_next-number.ensures in
    let sent = has-sent sends (c.node_mut.ensures.value ∙ there) s.node s.number s.item s.serials in
    let left = c.hand_lone.ensures.left c.if-hand_lone.false in
    let world = c.leave_in_hand.ensures ∙ (λ j. with_hand (left.0 j) c.args.n c.in-Some.link.other
    (lone_message c.in-Some.link c.send_next-number.result.0 (left.1 j))) in
    let on = left-leads (world_is c.self.view_is) c.requires c.if-link-n.false sent c.leave_in_hand.new.self.world world in
    record {
      passing = λ e. cc;
      acts = inr (inl refl);
      none = λ e. cc;
      walk = λ _. on.walk;
      count = on.count;
      begun = λ _ _ _ _. omega arith;
    }
