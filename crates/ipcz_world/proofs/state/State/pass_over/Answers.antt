use Rattle.std.proofs.Common.{◌≡◌, ◌∙◌, ◌+◌, ap, sym, subst, subst₂, refl, arith}
use Rattle.ipcz_world.proofs.code.StatesOfNodes.{world_is}
use Rattle.ipcz_world.proofs.Vocabulary.{LinkEnd, Node, World, node_at, set_mail, set_node, IsPassing, with_hand, next_node, IsRegular, Walk, the_view}
use Rattle.ipcz_world.specs.FastPath.{IsLoneSender, lone_message}
use Rattle.ipcz_world.proofs.code.LoneWorlds.{quiet_is}
use Rattle.ipcz_world.proofs.code.Passing.{first-walk, found-item, has-sent, passing-alone, passing-sender}
use Rattle.ipcz_world.proofs.state.State.pass_over.Goals.{then-loop-acts-test+else-pass_on, else-loop-acts-test}
use Rattle.ipcz_world.proofs.state.State.pass_over.Goals as goal

pub send_next-first-requires : goal.send_next-first-requires
unfolding node_at
send_next-first-requires c =
    let lone = subst (λ v. IsLoneSender v c.args.n c.args.serial c.args.link) (sym (world_is c.self.view_is)) c.requires.lone in
    found-item lone.sends c.node_mut.ensures.value

pub loop-acts-init : goal.loop-acts-init
unfolding node_at set_node
loop-acts-init c =
    let w = (the_view c.self.inside).world in
    let n = c.args.n in
    let link = c.args.link in
    let x = c.send_next-first.new.self.node in
    let lone = subst (λ v. IsLoneSender v n c.args.serial link) (sym (world_is c.self.view_is)) c.requires.lone in
    let passing = passing-alone w n c.args.serial link (subst IsRegular (sym (world_is c.self.view_is)) c.requires.regular) lone in
    let s = c.send_next-first.ensures in
    let sent = has-sent lone.sends c.node_mut.ensures.value s.node s.number s.item s.serials in
    let quiet = quiet_is (node_at w link.other) (lone.others link.other lone.there (λ e. c.requires.apart (sym e))) in
    record {
      laps = (0, refl);
      within = omega (arith, c.requires.enough);
      to = refl;
      passing = passing-sender w n link.other x passing c.requires.apart (ap (λ (k : Node). k.count) sent.behind ∙ passing.counts n passing.here);
      walk = subst (λ v. Walk v (with_hand (set_node w n x) n link.other
          (lone_message link c.send_next-first.result.0 c.send_next-first.result.1)) 3 (next_node w link.other)) (world_is c.self.view_is)
          (first-walk w n link.other passing c.requires.apart refl sent quiet);
    }

pub overflow_sub-most : goal.overflow_sub-most
overflow_sub-most c =
    c.loop-acts.invariant.within

pub pass_on-requires-clause-passing : goal.pass_on-requires-clause-passing
pass_on-requires-clause-passing c =
    subst (IsPassing c.loop-acts.self.world c.args.n) (sym c.loop-acts.invariant.to) c.loop-acts.invariant.passing

pub pass_on-requires-clause-apart : goal.pass_on-requires-clause-apart
pass_on-requires-clause-apart c e =
    c.requires.apart (e ∙ c.loop-acts.invariant.to)

pub loop-acts-smaller : goal.loop-acts-smaller
loop-acts-smaller c =
    omega (arith, c.loop-acts-test.true)

pub loop-acts-preserved : goal.loop-acts-preserved
loop-acts-preserved c =
    let held = c.loop-acts.invariant in
    let on = c.pass_on.ensures in
    let did = c.if-pass_on.true in
    record {
      laps = (held.laps.0 + 1, omega (arith, held.laps.1));
      within = omega (arith, held.within, c.loop-acts-test.true);
      to = on.to ∙ held.to;
      passing = subst (IsPassing c.pass_on.new.self.world c.args.n) held.to (on.passing did);
      walk = subst (λ m. Walk c.args.self.now.world (with_hand c.pass_on.new.self.world c.args.n m
          (lone_message c.pass_on.new.over c.pass_on.new.number c.pass_on.new.item)) (c.loop-acts.acts + 4) (next_node c.pass_on.new.self.world m)) held.to
          (on.walk did c.args.self.now.world c.loop-acts.acts
          (subst (λ m. Walk c.args.self.now.world (with_hand c.loop-acts.self.world c.args.n m
          (lone_message c.loop-acts.over c.loop-acts.number c.loop-acts.item)) c.loop-acts.acts (next_node c.loop-acts.self.world m)) (sym held.to)
          held.walk));
    }

pub leave_in_hand-requires : goal.leave_in_hand-requires
leave_in_hand-requires c =
    let l = c.loop-acts in
    let t = c.loop-acts-test in
    let same : (t.self.world ≡ l.self.world) × (t.over ≡ l.over) = elim t.branch [
      | then-loop-acts-test+else-pass_on b ↦ let left = b.pass_on.ensures.left b.if-pass_on.false in (world_is b.self-is ∙ left.0, b.over-is ∙ left.1)
      | else-loop-acts-test b ↦ (world_is b.self-is, b.over-is)
    ] in
    let to = ap (λ (e : LinkEnd). e.other) same.1 ∙ l.invariant.to in
    let passing = subst₂ (λ v m. IsPassing v c.args.n m) (sym same.0) (sym to) l.invariant.passing in
    record { lengths = passing.lengths; here = passing.here; there = passing.there; hand = passing.hand; clear = passing.box }

pub next_node-requires : goal.next_node-requires
unfolding set_node set_mail
next_node-requires c =
    let same : c.loop-acts-test.self.world ≡ c.loop-acts.self.world = elim c.loop-acts-test.branch [
      | then-loop-acts-test+else-pass_on b ↦ world_is b.self-is ∙ (b.pass_on.ensures.left b.if-pass_on.false).0
      | else-loop-acts-test b ↦ world_is b.self-is
    ] in
    let held = ap (λ (v : World). v.count) c.leave_in_hand.ensures in
    let kept = ap (λ (v : World). v.count) same in
    record { node = omega (arith, c.loop-acts.invariant.passing.there, held, kept) }

pub returns-clause-walk : goal.returns-clause-walk
unfolding set_node set_mail
returns-clause-walk c =
    let l = c.loop-acts in
    let t = c.loop-acts-test in
    let n = c.args.n in
    let same : (t.self.world ≡ l.self.world) × (t.over ≡ l.over) × (t.number ≡ l.number) × (t.item ≡ l.item) = elim t.branch [
      | then-loop-acts-test+else-pass_on b ↦
          let left = b.pass_on.ensures.left b.if-pass_on.false in
          (world_is b.self-is ∙ left.0, b.over-is ∙ left.1, b.number-is ∙ left.2, b.item-is ∙ left.3)
      | else-loop-acts-test b ↦ (world_is b.self-is, b.over-is, b.number-is, b.item-is)
    ] in
    let world : c.leave_in_hand.new.self.world ≡ with_hand l.self.world n c.args.link.other (lone_message l.over l.number l.item) =
    c.leave_in_hand.ensures ∙ (λ j. with_hand (same.0 j) n (same.1 j).other (lone_message (same.1 j) (same.2 j) (same.3 j)))
    ∙ ap (λ m. with_hand l.self.world n m (lone_message l.over l.number l.item)) l.invariant.to in
    let next = c.next_node.ensures ∙ ap (λ v. next_node v c.args.link.other) world in
    subst₂ (λ v k. Walk c.args.self.now.world v l.acts k) (sym world) (sym next) l.invariant.walk

pub returns-clause-within : goal.returns-clause-within
returns-clause-within c =
    c.loop-acts.invariant.within

pub returns-clause-begun : goal.returns-clause-begun
returns-clause-begun c =
    omega (arith, c.loop-acts.invariant.laps.1)
