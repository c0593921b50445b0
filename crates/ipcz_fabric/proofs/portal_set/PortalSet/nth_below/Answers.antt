use Rattle.std.proofs.Common.{arith, ap, subst, ◌≡◌, ◌∙◌, ℕ, length, Some}
use Rattle.ipcz_fabric.specs.Portals.{portal_at}
use Rattle.ipcz_fabric.specs.PortalSets.{AreOnce, IsNth}
use Rattle.ipcz_fabric.proofs.PortalSets.{noted_once}
use Rattle.ipcz_fabric.proofs.Rounds.{first_in_round}
use Rattle.ipcz_fabric.proofs.portal_set.PortalSet.nth_below.Goals as goal

pub returns-then-nth-limit-clause-first : goal.returns-then-nth-limit-clause-first
returns-then-nth-limit-clause-first g c =
    let at = c.in-Some.ensures.there in
    let count : c.len.result ≡ length c.args.self.now = omega (arith, c.len.ensures, ap length c.self.view_is) in
    first_in_round c.args.self.now c.args.from c.requires
    (subst AreOnce c.self.view_is (noted_once g.F.FabricName.table.count c.self.inside.portals.items c.self.inside.places c.self.inside.nodes.items c.self.invariant))
    c.in-Some.place c.nth_of-nth.result c.nth_of-nth.result (portal_at c.args.node c.args.end) (at.1 ∙ ap Some at.2)
    (subst (λ (n : ℕ). IsNth n c.args.from c.in-Some.place c.nth_of-nth.result) count c.nth_of-nth.ensures) (omega arith)

pub returns-else-nth-limit-clause-first : goal.returns-else-nth-limit-clause-first
returns-else-nth-limit-clause-first g c =
    let at = c.in-Some.ensures.there in
    let count : c.len.result ≡ length c.args.self.now = omega (arith, c.len.ensures, ap length c.self.view_is) in
    first_in_round c.args.self.now c.args.from c.requires
    (subst AreOnce c.self.view_is (noted_once g.F.FabricName.table.count c.self.inside.portals.items c.self.inside.places c.self.inside.nodes.items c.self.invariant))
    c.in-Some.place c.nth_of-nth.result c.args.limit (portal_at c.args.node c.args.end) (at.1 ∙ ap Some at.2)
    (subst (λ (n : ℕ). IsNth n c.args.from c.in-Some.place c.nth_of-nth.result) count c.nth_of-nth.ensures) (omega (arith, c.if-nth-limit.false))
