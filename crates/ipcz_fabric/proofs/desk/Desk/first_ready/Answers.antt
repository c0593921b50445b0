use Rattle.std.proofs.Common.{arith, ap, subst, sym, ◌∙◌, ◌≡◌, ◌≤◌, ◌<◌, ◌+◌, ℕ, Bool, true, false, Some, None}
use Rattle.ipcz_node.specs.Finding.{IsNextReady}
use Rattle.ipcz_cell.specs.CellStates.{CellState}
use Rattle.ipcz_fabric.specs.PortalSets.{in_round}
use Rattle.ipcz_fabric.specs.Readiness.{FindsHere, IsThere, finds_at}
use Rattle.ipcz_fabric.proofs.Scanning.{IsScanned, found_there, scan_end, scan_found, scan_passed, scan_start}
use Rattle.ipcz_fabric.proofs.desk.Desk.first_ready.Goals.{then-has_come, else-has_come}
use Rattle.ipcz_fabric.proofs.desk.Desk.first_ready.Goals as goal

pub loop-serial-init : goal.loop-serial-init
loop-serial-init g c = (scan_start c.args.self.now (in_round c.args.portals.now c.args.begin) c.args.limit, omega arith, λ low. absurd (omega (arith, low)))

pub loop-serial-preserved : goal.loop-serial-preserved
loop-serial-preserved g c =
    let cell = c.args.self.now in
    let list = in_round c.args.portals.now c.args.begin in
    let so_far = c.loop-serial.invariant in
    let own = c.node-node.ensures.node ∙ ap (λ (x : CellState). x.part.node) c.self.view_is in
    let next = subst (λ (x : CellState). IsNextReady x.part.state c.loop-serial.from (Some (c.in-Some.serial, c.in-Some.end))) c.self.view_is c.in-Some.ensures.next in
    let finds = λ (b : Bool) (h : c.has_come.result ≡ b). ap (λ (x : CellState). finds_at x.part.state c.in-Some.end) (sym c.self.view_is) ∙ (sym c.has_come.ensures ∙ h) in
    let is = λ (first : ℕ). IsScanned cell list (c.in-Some.serial + 1) first × (first ≤ c.args.limit) × (first < c.args.limit → IsThere list first (FindsHere cell)) in
    elim c.if-has_come.branch [
      | then-has_come w ↦
          let found = w.nth_below-first.result in
          let is_here = w.nth_below-first.ensures in
          subst is (sym w.first-is) (
            scan_found cell list c.node-node.result c.loop-serial.from c.in-Some.serial c.loop-serial.first found c.in-Some.end own next so_far.0 is_here.most is_here.first,
            omega (arith, is_here.most, so_far.1),
            found_there cell list c.node-node.result c.loop-serial.first c.args.limit found c.in-Some.end own (finds true w.if-has_come.true) is_here.most is_here.there so_far.2,
          )
      | else-has_come w ↦
          subst is (sym w.first-is) (
            scan_passed cell list c.loop-serial.from c.in-Some.serial c.loop-serial.first c.in-Some.end next so_far.0 (finds false w.if-has_come.false),
            so_far.1,
            so_far.2,
          )
    ]

pub returns-clause-none : goal.returns-clause-none
returns-clause-none g c = scan_end c.args.self.now (in_round c.args.portals.now c.args.begin) c.loop-serial.from c.loop-serial.first
    (subst (λ (x : CellState). IsNextReady x.part.state c.loop-serial.from None) c.self.view_is c.in_default.ensures.next) c.loop-serial.invariant.0
