use Rattle.std.proofs.Common.{◌≡◌, ◌+◌, Bool, false, true, sym, subst, arith}
use Rattle.ipcz_node.specs.Acts.{has_mail_for}
use Rattle.ipcz_rule.specs.declared.view.Part.{Part}
use Rattle.ipcz_cell.specs.Turns.{CanPost}
use Rattle.ipcz_cell.proofs.FirstActs.{empty_end, empty_found, empty_more, empty_none, empty_pass}
use Rattle.ipcz_cell.proofs.cell.NodeCell.first_empty.Goals as goal

pub loop-tried-init : goal.loop-tried-init
loop-tried-init g c =
    let next = c.next_with_mail-to.ensures in
    let old = c.args.self.now in (empty_pass g.F.FabricName.table old old 0 c.next_with_mail-to.result (empty_none g.F.FabricName.table old) next.none, omega arith, next.most, next.there)

pub can_post-requires-clause-mail : goal.can_post-requires-clause-mail
can_post-requires-clause-mail g c =
    let l = c.loop-tried.invariant in
    let few = c.if-to-nodes.false in
    let inside = c.fabric.invariant in
    subst (λ (p : Part). has_mail_for p.state c.loop-tried.to ≡ true) (sym l.0.looked.part) (l.3 (let most = inside.5.limits.nodes in let nodes = inside.3 in omega (arith, few, most, nodes)))

pub returns-then-to-nodes : goal.returns-then-to-nodes
returns-then-to-nodes g c =
    let all = c.if-to-nodes.true in
    let nodes = c.fabric.invariant.3 in
    empty_end g.F.FabricName.table c.args.self.now c.loop-tried.self c.loop-tried.to (omega (arith, all, nodes)) c.loop-tried.invariant.0

pub returns-then-can_post : goal.returns-then-can_post
returns-then-can_post g c =
    let t = g.F.FabricName.table in
    let can = subst (λ (b : Bool). CanPost t c.loop-tried.to c.loop-tried.self b c.can_post.new.self) c.if-can_post.true c.can_post.ensures in
    let nodes = c.fabric.invariant.3 in
    let below = c.if-to-nodes.false in
    empty_found t c.args.self.now c.loop-tried.self c.can_post.new.self c.loop-tried.to c.loop-tried.invariant.0 can (omega (arith, nodes, below))

pub loop-tried-preserved : goal.loop-tried-preserved
loop-tried-preserved g c =
    let t = g.F.FabricName.table in
    let old = c.args.self.now in
    let l = c.loop-tried.invariant in
    let can = subst (λ (b : Bool). CanPost t c.loop-tried.to c.loop-tried.self b c.can_post.new.self) c.if-can_post.false c.can_post.ensures in
    let more = empty_more t old c.loop-tried.self c.can_post.new.self c.loop-tried.to l.0 can in
    let next = c.next_with_mail-to-in-loop-tried.ensures in
    let part = more.looked.part in
    let up = l.1 in
    let on = next.from in (
      empty_pass t old c.can_post.new.self (c.loop-tried.to + 1) c.next_with_mail-to-in-loop-tried.result more (λ j low high. subst (λ (p : Part). has_mail_for p.state j ≡ false) part (next.none j low high)),
      omega (arith, up, on),
      next.most,
      λ low. subst (λ (p : Part). has_mail_for p.state c.next_with_mail-to-in-loop-tried.result ≡ true) part (next.there low),
    )

pub returns : goal.returns
returns g c =
    let nodes = c.fabric.invariant.3 in
    let up = c.loop-tried.invariant.1 in
    empty_end g.F.FabricName.table c.args.self.now c.loop-tried.self c.loop-tried.to (omega (arith, nodes, up, c.loop-tried-test.false)) c.loop-tried.invariant.0
