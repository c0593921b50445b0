use Rattle.std.proofs.Common.{◌≡◌, ℕ, List, [], ◌∷◌, ◌++◌, is_some, ap, sym, subst, ◌∙◌, refl, arith}
use Rattle.ipcz_router.specs.declared.act.Answer.TheVariants as answers
use Rattle.ipcz_router.specs.declared.act.RouterAct.TheVariants as router_acts
use Rattle.ipcz_node.specs.declared.act.Act.TheVariants as acts
use Rattle.ipcz_node.specs.Node.{Node}
use Rattle.ipcz_node.specs.Acts.{commit}
use Rattle.ipcz_rule.specs.Rule.{saw}
use Rattle.ipcz_rule.specs.Batches.{BatchMine}
use Rattle.ipcz_rule.specs.Steps.{act_part}
use Rattle.ipcz_cell.specs.CellStates.{CellState, part_in, change_part}
use Rattle.ipcz_cell.specs.Cells.{IsCell}
use Rattle.ipcz_cell.specs.Claims.{AreReached, CanClaim, FindsNone, Got, Slotless, Lost}
use Rattle.ipcz_cell.proofs.Mailing.{seen_cell, told_hit, told_miss}
use Rattle.ipcz_cell.proofs.NumberClaims.{kept_cell, reuses_if}
use Rattle.ipcz_cell.proofs.Seating.{number_inside}
use Rattle.ipcz_cell.proofs.Counting.{claimed_cell}
use Rattle.ipcz_cell.proofs.Slotting.{none_claimed, none_then, if_none}
use Rattle.ipcz_cell.proofs.cell.NodeCell.word_claim_for.Goals as goal
use Rattle.ipcz_cell.specs.Seats.{mine_of}

pub count_here-found-requires-clause-can : goal.count_here-found-requires-clause-can
count_here-found-requires-clause-can g c = subst (λ (z : Node). CanClaim z c.args.serial) (sym c.self.invariant.0.seated.state) c.claim_ready.ensures.can

pub invariant_of-self : goal.invariant_of-self
invariant_of-self g c =
    let was = c.self.invariant.0 in
    let t = g.F.FabricName.table in
    let n = c.count_here-found.result in
    let me = (mine_of c.self.inside.seat.me) in
    let loaded = c.count_here-found.ensures in
    let words = c.fabric.invariant.4 in
    let hit = told_hit n t.size _ _ (c.if-found-fabric.true ∙ words) loaded.done.2 in (
      claimed_cell t _ _ _ _ _ me was _ (mine_of c.count_here-found.new.seat.me) loaded.table loaded.sound c.commit_word.new.state.node c.args.serial (me.0.seen ++ (t.size, n) ∷ []) answers.NoWord hit
          (c.commit_word.ensures ∙ ap (λ (z : Node). commit z (acts.Router c.args.serial router_acts.Claim) answers.NoWord) c.claim_ready.ensures.node),
      none_then c.count_here-found.ensures.slots c.self.invariant.1,
    )

pub dry_here-requires-clause-node : goal.dry_here-requires-clause-node
dry_here-requires-clause-node g c =
    let number = number_inside _ _ _ _ c.self.invariant.0.seated in
    let e = c.number-node.ensures ∙ ap (λ (z : Node). z.number) c.claim_ready.ensures.node in
    omega (arith, number, e)

pub dry_here-requires-clause-can : goal.dry_here-requires-clause-can
dry_here-requires-clause-can g c =
    let was = c.self.invariant.0 in
    let t = g.F.FabricName.table in
    let n = c.count_here-found.result in
    let me = (mine_of c.self.inside.seat.me) in
    let loaded = c.count_here-found.ensures in
    let words = c.fabric.invariant.4 in
    let seen = told_miss n t.size _ _ (λ e. c.if-found-fabric.false (e ∙ sym words)) loaded.done.2 in
    let here = c.number_at.ensures.me ∙ seen in
    subst (λ (m : BatchMine). CanClaim (part_in m.0).state c.args.serial) (sym here) (subst (λ (z : Node). CanClaim z c.args.serial) (sym was.seated.state) c.claim_ready.ensures.can)

pub invariant_of-self-in_default : goal.invariant_of-self-in_default
invariant_of-self-in_default g c =
    let was = c.self.invariant.0 in
    let t = g.F.FabricName.table in
    let n = c.count_here-found.result in
    let me = (mine_of c.self.inside.seat.me) in
    let loaded = c.count_here-found.ensures in
    let words = c.fabric.invariant.4 in
    let seen = told_miss n t.size _ _ (λ e. c.if-found-fabric.false (e ∙ sym words)) loaded.done.2 in
    let here = c.number_at.ensures.me ∙ seen in
    let dried = c.dry_here.ensures in
    let done = dried.done ∙ ap (λ (m : BatchMine). (change_part (act_part (acts.Router c.args.serial router_acts.Claim) answers.NoWord) m.0, m.1)) here in (
      claimed_cell t _ _ _ _ _ me was _ (mine_of c.dry_here.new.seat.me) (dried.table ∙ (c.number_at.ensures.table.0 ∙ loaded.table)) dried.sound c.commit_word-in_default.new.state.node c.args.serial (me.0.seen ++ (t.size, n) ∷ []) answers.NoWord done
          (c.commit_word-in_default.ensures ∙ ap (λ (z : Node). commit z (acts.Router c.args.serial router_acts.Claim) answers.NoWord) c.claim_ready.ensures.node),
      none_then c.dry_here.ensures.slots (if_none c.number_at.result _ c.in_default.is c.number_at.ensures.none),
    )

pub returns-in_default : goal.returns-in_default
returns-in_default g c =
    let was = c.self.invariant.0 in
    let t = g.F.FabricName.table in
    let n = c.count_here-found.result in
    let me = (mine_of c.self.inside.seat.me) in
    let loaded = c.count_here-found.ensures in
    let words = c.fabric.invariant.4 in
    let seen = told_miss n t.size _ _ (λ e. c.if-found-fabric.false (e ∙ sym words)) loaded.done.2 in
    let here = c.number_at.ensures.me ∙ seen in
    let done = c.dry_here.ensures.done ∙ ap (λ (m : BatchMine). (change_part (act_part (acts.Router c.args.serial router_acts.Claim) answers.NoWord) m.0, m.1)) here in
    let most = loaded.done.0 in
    let other = (λ (e : n ≡ t.size). c.if-found-fabric.false (e ∙ sym words)) in
    let why = if_none c.number_at.result _ c.in_default.is c.number_at.ensures.why in
    Slotless n refl (reuses_if t.reuses (λ e. sym (ap is_some c.in_default.is) ∙ c.number_at.ensures.order e)) (omega (arith, most, other))
    (ap (λ (m : BatchMine). part_in m.0) done ∙ ap (λ (o : CellState). act_part (acts.Router c.args.serial router_acts.Claim) answers.NoWord o.part) c.self.view_is)
    (ap (λ (m : BatchMine). m.0.seen) done ∙ ap (λ (o : CellState). o.seen ++ (t.size, n) ∷ []) c.self.view_is)
    (subst (λ (l : List ℕ). FindsNone t n c.args.self.now.looked l) (sym c.dry_here.ensures.slots.2)
    (subst (λ (l : List ℕ). FindsNone t n l c.number_at.new.seat.me.0.looked) (loaded.slots.2 ∙ ap (λ (o : CellState). o.looked) c.self.view_is) why))

pub claim_here-now-requires-clause-can : goal.claim_here-now-requires-clause-can
claim_here-now-requires-clause-can g c =
    let was = c.self.invariant.0 in
    let t = g.F.FabricName.table in
    let n = c.count_here-found.result in
    let me = (mine_of c.self.inside.seat.me) in
    let loaded = c.count_here-found.ensures in
    let words = c.fabric.invariant.4 in
    let seen = told_miss n t.size _ _ (λ e. c.if-found-fabric.false (e ∙ sym words)) loaded.done.2 in
    let here = c.number_at.ensures.me ∙ seen in
    subst (λ (m : BatchMine). CanClaim (part_in m.0).state c.args.serial) (sym here) (subst (λ (z : Node). CanClaim z c.args.serial) (sym was.seated.state) c.claim_ready.ensures.can)

pub invariant_of-self-then-now-found : goal.invariant_of-self-then-now-found
invariant_of-self-then-now-found g c =
    let was = c.self.invariant.0 in
    let t = g.F.FabricName.table in
    let n = c.count_here-found.result in
    let me = (mine_of c.self.inside.seat.me) in
    let loaded = c.count_here-found.ensures in
    let words = c.fabric.invariant.4 in
    let seen = told_miss n t.size _ _ (λ e. c.if-found-fabric.false (e ∙ sym words)) loaded.done.2 in
    let here = c.number_at.ensures.me ∙ seen in
    let now = c.claim_here-now.result in
    let claim = c.claim_here-now.ensures in
    let miss = told_miss now n _ _ c.if-now-found.true claim.done in
    let counted = seen_cell t _ _ _ _ _ _ was _ (mine_of c.count_here-found.new.seat.me) loaded.table loaded.sound _ n seen in
    let numbered = kept_cell t _ _ _ _ _ _ counted _ (mine_of c.number_at.new.seat.me) c.number_at.ensures.table.0 c.number_at.ensures.me in
    let raced = seen_cell t _ _ _ _ _ _ numbered _ (mine_of c.claim_here-now.new.seat.me) claim.table claim.sound _ now miss in
    (subst (λ (z : Node). IsCell t z c.self.inside.message c.self.inside.probed c.self.inside.held c.leave_slot.new.seat.table_id (mine_of c.leave_slot.new.seat.me)) (sym c.claim_ready.ensures.node) (kept_cell t _ _ _ _ _ _ raced _ (mine_of c.leave_slot.new.seat.me) c.leave_slot.ensures.table.0 c.leave_slot.ensures.me), c.leave_slot.ensures.none)

pub returns-then-now-found : goal.returns-then-now-found
returns-then-now-found g c =
    let was = c.self.invariant.0 in
    let t = g.F.FabricName.table in
    let n = c.count_here-found.result in
    let me = (mine_of c.self.inside.seat.me) in
    let loaded = c.count_here-found.ensures in
    let words = c.fabric.invariant.4 in
    let seen = told_miss n t.size _ _ (λ e. c.if-found-fabric.false (e ∙ sym words)) loaded.done.2 in
    let here = c.number_at.ensures.me ∙ seen in
    let now = c.claim_here-now.result in
    let miss = told_miss now n _ _ c.if-now-found.true c.claim_here-now.ensures.done in
    let done = c.leave_slot.ensures.me ∙ (miss ∙ ap (λ (m : BatchMine). (saw t.size now m.0, m.1)) here) in
    Lost n now refl c.if-now-found.true (ap (λ (m : BatchMine). part_in m.0) done ∙ ap (λ (o : CellState). o.part) c.self.view_is)
    (ap (λ (m : BatchMine). m.0.seen) done ∙ ap (λ (o : CellState). (o.seen ++ (t.size, n) ∷ []) ++ (t.size, now) ∷ []) c.self.view_is)

pub invariant_of-self-2 : goal.invariant_of-self-2
invariant_of-self-2 g c =
    let was = c.self.invariant.0 in
    let t = g.F.FabricName.table in
    let n = c.count_here-found.result in
    let me = (mine_of c.self.inside.seat.me) in
    let loaded = c.count_here-found.ensures in
    let words = c.fabric.invariant.4 in
    let seen = told_miss n t.size _ _ (λ e. c.if-found-fabric.false (e ∙ sym words)) loaded.done.2 in
    let here = c.number_at.ensures.me ∙ seen in
    let now = c.claim_here-now.result in
    let number = c.in-Some.number in
    let hit = told_hit now n _ _ c.if-now-found.false c.claim_here-now.ensures.done in
    let done = hit ∙ ap (λ (m : BatchMine). (change_part (act_part (acts.Router c.args.serial router_acts.Claim) (answers.Claimed number)) (saw t.size number m.0), m.1)) here in (
      claimed_cell t _ _ _ _ _ me was _ (mine_of c.claim_here-now.new.seat.me) (c.claim_here-now.ensures.table ∙ (c.number_at.ensures.table.0 ∙ loaded.table)) c.claim_here-now.ensures.sound c.commit_word-2.new.state.node c.args.serial ((me.0.seen ++ (t.size, n) ∷ []) ++ (t.size, number) ∷ []) (answers.Claimed number) done
          (c.commit_word-2.ensures ∙ ap (λ (z : Node). commit z (acts.Router c.args.serial router_acts.Claim) (answers.Claimed number)) c.claim_ready.ensures.node),
      none_claimed _ _ _ _ c.if-now-found.false c.claim_here-now.ensures.slots,
    )

pub returns : goal.returns
returns g c =
    let was = c.self.invariant.0 in
    let t = g.F.FabricName.table in
    let n = c.count_here-found.result in
    let me = (mine_of c.self.inside.seat.me) in
    let loaded = c.count_here-found.ensures in
    let words = c.fabric.invariant.4 in
    let seen = told_miss n t.size _ _ (λ e. c.if-found-fabric.false (e ∙ sym words)) loaded.done.2 in
    let here = c.number_at.ensures.me ∙ seen in
    let now = c.claim_here-now.result in
    let number = c.in-Some.number in
    let hit = told_hit now n _ _ c.if-now-found.false c.claim_here-now.ensures.done in
    let done = hit ∙ ap (λ (m : BatchMine). (change_part (act_part (acts.Router c.args.serial router_acts.Claim) (answers.Claimed number)) (saw t.size number m.0), m.1)) here in
    let reached = subst (λ (o : CellState). AreReached t.size o.seen n) c.self.view_is loaded.done.1 in
    Got n number refl c.in-Some.ensures.number.0 reached (ap (λ (m : BatchMine). part_in m.0) done ∙ ap (λ (o : CellState). act_part (acts.Router c.args.serial router_acts.Claim) (answers.Claimed number) o.part) c.self.view_is)
    (ap (λ (m : BatchMine). m.0.seen) done ∙ ap (λ (o : CellState). (o.seen ++ (t.size, n) ∷ []) ++ (t.size, number) ∷ []) c.self.view_is)
