use Rattle.std.proofs.Common.{ℕ, subst}
use Rattle.std.specs.Prelude.{Err, MatchResult}
use Rattle.ipcz_rule.specs.declared.history.Call.TheVariants as calls
use Rattle.ipcz_rule.specs.declared.history.CallerView.{CallerView}
use Rattle.ipcz_fabric.specs.Replays.{Extends, GetsParcel}
use Rattle.ipcz_fabric.proofs.Locking.{lent, if_ok, if_err}
use Rattle.ipcz_fabric.proofs.Portaling.{are_there, get_refused}
use Rattle.ipcz_fabric.proofs.caller.Caller.get.Goals as goal

pub returns-clause-got : goal.returns-clause-got
returns-clause-got g c = if_ok
    (λ x h. record {
      cell = c.deref_mut.result.now;
      here = lent g.F.FabricName.table _ _ _ _ c.place.ensures.node c.deref_mut.ensures.value c.lock.ensures;
      holds = h;
    })
    c.get_here.result c.get_here.ensures.got

pub returns-clause-here : goal.returns-clause-here
returns-clause-here g c = if_ok (λ x h. are_there _ _ _ h.portals_are) c.get_here.result c.get_here.ensures.got

pub returns-clause-why : goal.returns-clause-why
returns-clause-why g c = if_err (λ e h. get_refused _ c.deref_mut.result.now.part.state _ _ h) c.get_here.result c.get_here.ensures.why

pub returns-clause-refused : goal.returns-clause-refused
returns-clause-refused g c = if_err
    (λ e h. record {
      cell = c.deref_mut.result.now;
      here = lent g.F.FabricName.table _ _ _ _ c.place.ensures.node c.deref_mut.ensures.value c.lock.ensures;
      holds = h;
    })
    c.get_here.result c.get_here.ensures.why

pub returns-clause-extends : goal.returns-clause-extends
returns-clause-extends g c =
    let t = g.F.FabricName.table in
    let here = c.args.portal.now.node in
    let at = c.args.portal.now.end in
    let is = lent t _ _ _ _ c.place.ensures.node c.deref_mut.ensures.value c.lock.ensures in
    subst
    (λ (x : CallerView). MatchResult c.get_here.result (λ r. GetsParcel t here here at r.n r.bytes r.portals.items x c.get_here.new.me)
    (λ why. Extends t here (calls.Got at (Err why)) x c.get_here.new.me)) c.self.view_is
    (subst
    (λ (n : ℕ). MatchResult c.get_here.result (λ r. GetsParcel t n here at r.n r.bytes r.portals.items c.self.inside.seat c.get_here.new.me)
    (λ why. Extends t n (calls.Got at (Err why)) c.self.inside.seat c.get_here.new.me)) is.node_is c.get_here.ensures.extends)
