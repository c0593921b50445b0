use Rattle.std.proofs.Common.{◌≡◌, ◌<◌, ◌∙◌, ℕ, sym, subst, refl, arith}
use Rattle.ipcz_rule.specs.declared.history.CallerView.{CallerView}
use Rattle.ipcz_fabric.specs.Hubs.{ExtendsByTurn, IsTurnAnswer}
use Rattle.ipcz_fabric.specs.Workers.{IsWorkOf}
use Rattle.ipcz_fabric.proofs.TurnsCounted.{turns_counted}
use Rattle.ipcz_fabric.proofs.Working.{shown}
use Rattle.ipcz_fabric.proofs.caller.Caller.take_turns.Goals as goal

pub returns-clause-works : goal.returns-clause-works
returns-clause-works g c = λ inside.
    let t = g.F.FabricName.table in
    shown _ _ _ _ _ _ c.run_worker-turns.ensures.works (λ s. s.node ≡ c.args.node) (λ s. tt) (λ s turns may u. g.G.Gate.answers c.args.node turns may)
    (λ s a u. IsTurnAnswer t c.args.node a)
    (λ s u turns may is h. (subst (λ (n : ℕ). g.G.Gate.answers n turns may) is h.0, h.1 ∙ is))
    (λ u v a is h. (subst (λ (n : ℕ). IsTurnAnswer t n a) is (h.0 (subst (λ (n : ℕ). n < t.count) (sym is) inside)), h.2 ∙ is))
    refl

pub returns-clause-extends : goal.returns-clause-extends
returns-clause-extends g c = λ inside.
    let t = g.F.FabricName.table in
    let done = shown _ _ _ _ _ _ c.run_worker-turns.ensures.works (λ s. s.node ≡ c.args.node) (λ s. s.me)
    (λ d turns may e. g.G.Gate.answers c.args.node turns may × (e ≡ d)) (λ d a e. ExtendsByTurn t c.args.node a d e)
    (λ s u turns may is h. ((subst (λ (n : ℕ). g.G.Gate.answers n turns may) is h.0, h.2), h.1 ∙ is))
    (λ u v a is h. (subst (λ (n : ℕ). ExtendsByTurn t n a u.me v.me) is (h.1 (subst (λ (n : ℕ). n < t.count) (sym is) inside)), h.2 ∙ is))
    refl in
    subst (λ (d : CallerView). IsWorkOf t c.args.node g.G.Gate.answers c.args.limit d c.run_worker-turns.result c.run_worker-turns.new.worker.me)
    c.replace.ensures.value done

pub returns-clause-counts : goal.returns-clause-counts
returns-clause-counts g c =
    let inside : c.args.node < g.F.FabricName.table.count = omega (arith, c.if-node-nodes.false, c.nodes.ensures) in
    turns_counted g.F.FabricName.table c.args.node g.G.Gate.answers c.args.limit c.args.self.now c.run_worker-turns.result c.run_worker-turns.new.worker.me
    (returns-clause-extends g c inside)
