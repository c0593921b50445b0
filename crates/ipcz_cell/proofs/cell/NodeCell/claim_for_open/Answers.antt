use Rattle.std.proofs.Common.{◌≡◌, ℕ, ap, sym, subst, ◌∙◌, refl, arith}
use Rattle.ipcz_rule.specs.declared.view.Part.{Part}
use Rattle.ipcz_cell.specs.Mails.{HasSeen}
use Rattle.ipcz_cell.specs.Opens.{Exhausted}
use Rattle.ipcz_cell.proofs.OpenSteps.{for_open}
use Rattle.ipcz_cell.proofs.cell.NodeCell.claim_for_open.Goals as goal

pub returns-then-count-fabric : goal.returns-then-count-fabric
returns-then-count-fabric g c =
    Exhausted refl (subst (λ (n : ℕ). HasSeen g.F.FabricName.table.size n c.args.self.now c.load_count-count.new.self) (c.if-count-fabric.true ∙ c.fabric.invariant.4) c.load_count-count.ensures.seen)

pub claim_at-requires-clause-free : goal.claim_at-requires-clause-free
claim_at-requires-clause-free g c = ap (λ (p : Part). p.state.opening) c.load_count-count.ensures.seen.part ∙ c.requires

pub claim_at-requires-clause-few : goal.claim_at-requires-clause-few
claim_at-requires-clause-few g c =
    let most = c.load_count-count.ensures.most in
    let other = (λ (e : c.load_count-count.result ≡ g.F.FabricName.table.size). c.if-count-fabric.false (e ∙ sym c.fabric.invariant.4)) in
    omega (arith, most, other)

pub returns : goal.returns
returns g c =
    let most = c.load_count-count.ensures.most in
    let other = (λ (e : c.load_count-count.result ≡ g.F.FabricName.table.size). c.if-count-fabric.false (e ∙ sym c.fabric.invariant.4)) in
    for_open g.F.FabricName.table c.load_count-count.result _ _ _ _ (omega (arith, most, other)) c.load_count-count.ensures.reached c.load_count-count.ensures.seen c.claim_at.ensures.claims
