use Rattle.std.proofs.Common.{◌≡◌, ◌∙◌, ◌+◌, ap, sym, subst, arith}
use Rattle.ipcz_world.proofs.code.StatesOfNodes.{world_is}
use Rattle.ipcz_world.proofs.Vocabulary.{Node, World, node_at, set_mail, set_node, SendsNext, IsPassing, with_hand, next_node, Walk}
use Rattle.ipcz_world.proofs.code.Passing.{found-item, handed-counts, handed-passing, handed-sender, handed-walk, has-sent, passing-sender, told}
use Rattle.ipcz_world.proofs.state.State.pass_on.Goals as goal

pub node_mut-requires : goal.node_mut-requires
node_mut-requires c =
    let w = c.args.self.now.world in
    let m = c.args.over.now.other in
    let passing = subst (λ v. IsPassing v c.args.n m) (sym (world_is c.self-2.view_is))
    (handed-passing w c.hand_lone.new.self.world c.args.n m c.args.over.now c.args.number.now c.args.item.now c.requires.passing
    (c.hand_lone.ensures.taken c.if-not-hand_lone.false)) in
    omega (arith, passing.here, passing.lengths.nodes)

pub send_next-next-requires : goal.send_next-next-requires
unfolding node_at
send_next-next-requires c =
    let at = λ (v : World). node_at v c.args.n in
    let sends = subst (λ x. SendsNext x c.in-Some.serial c.in-Some.link) (c.node.ensures ∙ ap at (world_is c.self.view_is)) c.in-Some.ensures.some in
    found-item sends (c.node_mut.ensures.value ∙ ap at (world_is c.self-2.view_is)
    ∙ handed-sender _ _ _ _ c.args.over.now _ _ c.requires.passing (c.hand_lone.ensures.taken c.if-not-hand_lone.false) c.requires.apart)

pub returns-clause-passing : goal.returns-clause-passing
unfolding node_at set_node
returns-clause-passing c _ =
    let w = c.args.self.now.world in
    let n = c.args.n in
    let m = c.args.over.now.other in
    let u = c.hand_lone.new.self.world in
    let taken = c.hand_lone.ensures.taken c.if-not-hand_lone.false in
    let at = λ (v : World). node_at v n in
    let sends = subst (λ x. SendsNext x c.in-Some.serial c.in-Some.link) (c.node.ensures ∙ ap at (world_is c.self.view_is)) c.in-Some.ensures.some in
    let there = c.node_mut.ensures.value ∙ ap at (world_is c.self-2.view_is) ∙ handed-sender w u n m c.args.over.now _ _ c.requires.passing taken c.requires.apart in
    let s = c.send_next-next.ensures in
    let sent = has-sent sends there s.node s.number s.item s.serials in
    let after = handed-passing w u n m c.args.over.now _ _ c.requires.passing taken in
    let count : c.send_next-next.new.self.node.count ≡ u.count =
    ap (λ (x : Node). x.count) sent.behind ∙ c.requires.passing.counts n c.requires.passing.here
    ∙ sym (handed-counts w u n m c.args.over.now _ _ c.requires.passing taken) in
    subst (λ v. IsPassing (set_node v n c.send_next-next.new.self.node) n m) (sym (world_is c.self-2.view_is))
    (passing-sender u n m c.send_next-next.new.self.node after c.requires.apart count)

pub returns-clause-walk : goal.returns-clause-walk
unfolding node_at set_node set_mail
returns-clause-walk c _ w0 acts walk =
    let w = c.args.self.now.world in
    let n = c.args.n in
    let m = c.args.over.now.other in
    let u = c.hand_lone.new.self.world in
    let taken = c.hand_lone.ensures.taken c.if-not-hand_lone.false in
    let at = λ (v : World). node_at v n in
    let sends = subst (λ x. SendsNext x c.in-Some.serial c.in-Some.link) (c.node.ensures ∙ ap at (world_is c.self.view_is)) c.in-Some.ensures.some in
    let there = c.node_mut.ensures.value ∙ ap at (world_is c.self-2.view_is) ∙ handed-sender w u n m c.args.over.now _ _ c.requires.passing taken c.requires.apart in
    let s = c.send_next-next.ensures in
    let sent = has-sent sends there s.node s.number s.item s.serials in
    let on = handed-walk w u n m c.args.over.now c.args.number.now c.args.item.now c.requires.passing taken c.requires.apart
    (c.hand_lone.ensures.allowed c.if-not-hand_lone.false) c.in-Some.serial c.in-Some.link sends c.if-link-to.false sent.low w0 acts walk in
    subst (λ v. Walk w0 v (acts + 4) (next_node v m))
    (sym (λ j. with_hand (set_node (world_is c.self-2.view_is j) n (sent.behind j)) n m (told sent j))) on
