use Rattle.std.proofs.Common.{◌≡◌, ℕ, List, subst, [], ◌∷◌, ◌++◌, Err, ap, sym, ◌∙◌, refl, arith, ⊎_elim}
use Rattle.ipcz_node.specs.Calls.{serials_refusal}
use Rattle.ipcz_rule.specs.declared.view.Part.{Part}
use Rattle.ipcz_cell.specs.Claims.{FindsNone}
use Rattle.ipcz_cell.specs.Opens.{UnderWay, Fresh, NoSlot, Lost}
use Rattle.ipcz_cell.proofs.OpenSteps.{no_open, same_open, fresh_open}
use Rattle.ipcz_cell.proofs.cell.NodeCell.open_pair.Goals as goal

pub returns-then-is_opening : goal.returns-then-is_opening
returns-then-is_opening g c =
    UnderWay c.word_open.result refl c.word_open.ensures.inside
    (same_open _ _ _ _ c.open_prepare.ensures.part c.open_prepare.ensures.seen c.word_open.ensures.opens)

pub returns-in-Ok : goal.returns-in-Ok
returns-in-Ok g c =
    let t = g.F.FabricName.table in
    let n = c.load_count-count.result in
    let claims = c.in-Ok.ensures.claims in
    Fresh n c.in-Ok.number c.word_open-in-Ok.result refl (no_open _ (sym c.is_opening.ensures ∙ c.if-is_opening.false)) claims.0 c.load_count-count.ensures.reached
    (fresh_open t n c.in-Ok.number c.args.self.now c.load_count-count.new.self c.open_prepare-2.new.self c.claim_at.new.self c.word_open-in-Ok.new.self c.word_open-in-Ok.result
    c.load_count-count.ensures.seen c.open_prepare-2.ensures.part c.open_prepare-2.ensures.seen claims c.word_open-in-Ok.ensures.opens)

pub returns-in-Err : goal.returns-in-Err
returns-in-Err g c =
    let t = g.F.FabricName.table in
    let n = c.load_count-count.result in
    let most = c.load_count-count.ensures.most in
    let other = (λ (e : n ≡ t.size). c.if-count-fabric.false (e ∙ sym c.fabric.invariant.4)) in
    let load = c.load_count-count.ensures.seen in
    let room = c.open_prepare-2.ensures in
    let idle = no_open _ (sym c.is_opening.ensures ∙ c.if-is_opening.false) in
    let fine = ap (λ (p : Part). serials_refusal p.state) (sym load.part) ∙ c.in_ok-open_prepare-2.ensures.allowed in
    ⊎_elim
    (λ lost. Lost n lost.1.0 (ap Err lost.0) idle fine (omega (arith, most, other)) lost.1.1 (lost.1.2 ∙ (room.part ∙ load.part)) (lost.1.3 ∙ ap (λ l. l ++ (t.size, lost.1.0) ∷ []) (room.seen ∙ load.seen)))
    (λ none. NoSlot n (ap Err none.0) none.1.reuses idle fine (omega (arith, most, other)) (none.1.part ∙ (room.part ∙ load.part)) (none.1.seen ∙ (room.seen ∙ load.seen)) (subst (λ (l : List ℕ). FindsNone t n l c.claim_at.new.self.looked) (room.looked ∙ load.looked) none.1.none))
    c.in-Err.ensures.claims
