use Rattle.std.specs.Prelude.{ℕ, ◌<◌, ◌≤◌, get_or, length, false}
use Rattle.std.proofs.Common.{arith, subst}
use Rattle.std.proofs.lemmas.Option.{slice_get-get_or}
use Rattle.ipcz_fabric.specs.PortalSets.{in_round}
use Rattle.ipcz_fabric.specs.Readiness.{EachBefore, Finds}
use Rattle.ipcz_fabric.proofs.Rounds.{first_from, none_in_round, of_nth, round_length}
use Rattle.ipcz_fabric.proofs.Scanning.{look_more, looked_at_all, stopped_more, stopped_there, told_none}
use Rattle.ipcz_fabric.proofs.hub.Hub.first_ready.Goals.{then-loop-looked-test+else-first-gt0, else-loop-looked-test}
use Rattle.ipcz_fabric.proofs.hub.Hub.first_ready.Goals as goal

pub loop-looked-preserved : goal.loop-looked-preserved
loop-looked-preserved g c =
    let nodes = c.nodes-nodes.result.now in
    let l = c.loop-looked in
    let node = get_or nodes l.looked 0 in
    let found = c.look_at-found in
    let after = c.stopped_at-stopped in
    look_more g.F.FabricName.table (in_round c.args.portals.now c.args.from) nodes l.first l.looked l.stopped node found.result.0 after.result
    (slice_get-get_or nodes l.looked 0 (omega (arith, c.loop-looked-test.true))) l.invariant found.ensures.most found.ensures.found found.ensures.none
    (stopped_more node l.stopped after.result found.result.1 found.ensures.stop l.invariant.why after.ensures.before after.ensures.none after.ensures.now)

pub returns-then-first-len-clause-ready : goal.returns-then-first-len-clause-ready
returns-then-first-len-clause-ready g c =
    let t = g.F.FabricName.table in
    let list = c.args.portals.now in
    let from = c.args.from in
    let nodes = c.nodes-nodes.result.now in
    let l = c.loop-looked in
    let place = c.place_of_nth in
    let past : 0 < l.first → length nodes ≤ l.looked = λ some. elim c.loop-looked-test.branch [
      | then-loop-looked-test+else-first-gt0 w ↦ absurd (omega (arith, some, w.if-first-gt0.false))
      | else-loop-looked-test w ↦ omega (arith, w.loop-looked-test.false)
    ] in
    let low : l.first < length list = omega (arith, c.if-first-len.true, c.len.ensures.count) in
    first_from list from c.requires t l.first place.result low place.ensures.inside place.ensures.nth
    (l.invariant.found (omega (arith, low, round_length list from c.requires)))
    (looked_at_all t (in_round list from) nodes l.first l.looked l.stopped l.invariant
    (λ k p is. let at = of_nth list from c.requires k p is in c.nodes-nodes.ensures.all at.0 p at.3) past)

pub returns-clause-none : goal.returns-clause-none
returns-clause-none g c =
    let t = g.F.FabricName.table in
    let list = c.args.portals.now in
    let from = c.args.from in
    let nodes = c.nodes-nodes.result.now in
    let l = c.loop-looked in
    let stopped = c.place_stopped.result in
    let past : 0 < l.first → length nodes ≤ l.looked = λ some. elim c.loop-looked-test.branch [
      | then-loop-looked-test+else-first-gt0 w ↦ absurd (omega (arith, some, w.if-first-gt0.false))
      | else-loop-looked-test w ↦ omega (arith, w.loop-looked-test.false)
    ] in (
      none_in_round list from c.requires t (
          subst (λ (n : ℕ). EachBefore (in_round list from) n (Finds t false))
          (omega (arith, c.if-first-len.false, c.len.ensures.count, l.invariant.most, round_length list from c.requires))
          (looked_at_all t (in_round list from) nodes l.first l.looked l.stopped l.invariant
          (λ k p is. let at = of_nth list from c.requires k p is in c.nodes-nodes.ensures.all at.0 p at.3) past)
          ),
      told_none list stopped c.none_of.result.place c.none_of.result.why
          (stopped_there list l.stopped stopped l.invariant.why c.place_stopped.ensures.place c.place_stopped.ensures.why c.place_stopped.ensures.some)
          c.none_of.ensures.none c.none_of.ensures.stopped,
    )
