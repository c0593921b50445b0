use Rattle.std.proofs.Common.{ℕ, ◌+◌, ◌∙◌, ap, subst, arith}
use Rattle.std.specs.Prelude.{unwrap_or}
use Rattle.ipcz_cell.specs.CellStates.{CellState}
use Rattle.ipcz_cell.specs.Mails.{HasSeen}
use Rattle.ipcz_cell.proofs.FirstActs.{full_end, full_found, full_more, full_pass, lowest_is}
use Rattle.ipcz_cell.proofs.cell.NodeCell.first_full.Goals as goal

pub mail_place-place-requires-clause-from : goal.mail_place-place-requires-clause-from
mail_place-place-requires-clause-from g c =
    let low = lowest_is g.F.FabricName.table _ _ _ _ _ _ c.self.invariant.0 c.args.self.now (ap (λ (z : CellState). z.part) c.self.view_is) c.requires c.lowest-batch.result c.lowest-batch.ensures in
    let end = c.unwrap_or-end.ensures ∙ ap (unwrap_or c.lowest-batch.result) c.fabric.invariant.3 in
    omega (arith, low.inside, end, c.if-from-end.false)

pub returns-then-from-end : goal.returns-then-from-end
returns-then-from-end g c =
    let t = g.F.FabricName.table in
    let low = lowest_is t _ _ _ _ _ _ c.self.invariant.0 c.args.self.now (ap (λ (z : CellState). z.part) c.self.view_is) c.requires c.lowest-batch.result c.lowest-batch.ensures in
    let end = c.unwrap_or-end.ensures ∙ ap (unwrap_or c.lowest-batch.result) c.fabric.invariant.3 in
    full_end t c.args.self.now c.loop-looked.self c.load_at-inbox.result c.loop-looked.from c.lowest-batch.result low (omega (arith, end, c.if-from-end.true)) c.loop-looked.invariant.0

pub returns-then-load_at-eq1 : goal.returns-then-load_at-eq1
returns-then-load_at-eq1 g c =
    let t = g.F.FabricName.table in
    let low = lowest_is t _ _ _ _ _ _ c.self.invariant.0 c.args.self.now (ap (λ (z : CellState). z.part) c.self.view_is) c.requires c.lowest-batch.result c.lowest-batch.ensures in
    let end = c.unwrap_or-end.ensures ∙ ap (unwrap_or c.lowest-batch.result) c.fabric.invariant.3 in
    full_found t c.args.self.now c.loop-looked.self c.load_at.new.self c.load_at-inbox.result c.loop-looked.from c.load_at.result c.node-node.result c.node-node.ensures.node c.loop-looked.invariant.0
    (subst (λ (i : ℕ). HasSeen i c.load_at.result c.loop-looked.self c.load_at.new.self) c.mail_place-place.ensures.word c.load_at.ensures) c.if-load_at-eq1.true
    (omega (arith, low.inside, end, c.if-from-end.false)) (λ s l. low.below s (omega (arith, l, end, c.if-from-end.false)))

pub returns : goal.returns
returns g c =
    let t = g.F.FabricName.table in
    let low = lowest_is t _ _ _ _ _ _ c.self.invariant.0 c.args.self.now (ap (λ (z : CellState). z.part) c.self.view_is) c.requires c.lowest-batch.result c.lowest-batch.ensures in
    let nodes = c.fabric.invariant.3 in
    let up = c.loop-looked.invariant.1 in
    full_end t c.args.self.now c.loop-looked.self c.load_at-inbox.result c.loop-looked.from c.lowest-batch.result low (omega (arith, low.inside, nodes, up, c.loop-looked-test.false)) c.loop-looked.invariant.0

pub loop-looked-preserved : goal.loop-looked-preserved
loop-looked-preserved g c =
    let t = g.F.FabricName.table in
    let old = c.args.self.now in
    let l = c.loop-looked.invariant in
    let more = full_more t old c.loop-looked.self c.load_at.new.self c.load_at-inbox.result c.loop-looked.from c.load_at.result c.node-node.result c.node-node.ensures.node l.0
    (subst (λ (i : ℕ). HasSeen i c.load_at.result c.loop-looked.self c.load_at.new.self) c.mail_place-place.ensures.word c.load_at.ensures) c.if-load_at-eq1.false in
    let next = c.next_set-from-in-loop-looked.ensures in
    let up = l.1 in (full_pass t old c.load_at.new.self c.load_at-inbox.result (c.loop-looked.from + 1) c.next_set-from-in-loop-looked.result more next.clear, omega (arith, up, next.from), next.most)
