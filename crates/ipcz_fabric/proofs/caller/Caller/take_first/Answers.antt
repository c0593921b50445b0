use Rattle.std.proofs.Common.{ℕ, ◌≡◌, ◌≢◌, ◌∙◌, ap, refl, subst, sym, take}
use Rattle.std.specs.Prelude.{Bool, true, false, Ok, Err, MatchBool}
use Rattle.ipcz_base.specs.declared.refusal.Refusal.TheVariants.{Empty}
use Rattle.ipcz_rule.specs.Histories.{at_node}
use Rattle.ipcz_fabric.specs.declared.missed.Missed.{Missed}
use Rattle.ipcz_fabric.specs.declared.missed.Missed.TheVariants.{Refused}
use Rattle.ipcz_fabric.specs.Portals.{IsGot, portals_at}
use Rattle.ipcz_fabric.specs.Stopping.{IsMissed, TellsStop, refusal_of, stop_in}
use Rattle.ipcz_fabric.specs.Selecting.{GivesParcel}
use Rattle.ipcz_fabric.proofs.AskedInTurn.{more_empty, first_at, all_empty, vain_more, vain_all, looked_at}
use Rattle.ipcz_fabric.proofs.Taking.{got_by}
use Rattle.ipcz_fabric.proofs.caller.Caller.take_first.Goals as goal

-- what the test tells
empty : (found : Bool) (why : Missed) → found ≡ true → MatchBool found (why ≡ Refused Empty) (why ≢ Refused Empty) → why ≡ Refused Empty
empty found why is h = subst (λ b. MatchBool b (why ≡ Refused Empty) (why ≢ Refused Empty)) is h

full : (found : Bool) (why : Missed) → found ≡ false → MatchBool found (why ≡ Refused Empty) (why ≢ Refused Empty) → why ≢ Refused Empty
full found why is h = subst (λ b. MatchBool b (why ≡ Refused Empty) (why ≢ Refused Empty)) is h

pub loop-place-preserved : goal.loop-place-preserved
loop-place-preserved g c =
    let t = g.F.FabricName.table in (
      more_empty t c.args.portals.now c.loop-place.place c.index-portals-place.result c.loop-place-test.true c.index-portals-place.is c.loop-place.invariant.0
          Empty refl (subst (IsMissed t c.index-portals-place.result.node c.index-portals-place.result.end) (empty c.is_empty.result c.in-Err.why c.if-not-is_empty.false c.is_empty.ensures) c.in-Err.ensures.refused),
      vain_more t c.args.portals.now c.loop-place.place c.index-portals-place.result c.args.self.now c.loop-place.self c.take.new.self (refusal_of c.in-Err.why) c.loop-place-test.true
          c.index-portals-place.is c.loop-place.invariant.1 (ap refusal_of (empty c.is_empty.result c.in-Err.why c.if-not-is_empty.false c.is_empty.ensures)) c.in-Err.ensures.extends,
    )

pub returns-in-Ok-clause-got : goal.returns-in-Ok-clause-got
returns-in-Ok-clause-got g c =
    let t = g.F.FabricName.table in
    first_at t c.args.portals.now c.loop-place.place c.index-portals-place.result c.loop-place-test.true c.index-portals-place.is c.loop-place.invariant.0
    (λ p. IsGot t p.node p.end c.arrival_of.result.n c.arrival_of.result.bytes c.arrival_of.result.portals)
    (got_by t _ _ _ _ _ _ _ _ c.in-Ok.ensures.taken c.arrival_of.ensures.number c.arrival_of.ensures.bytes c.arrival_of.ensures.portals c.node.ensures)

pub returns-in-Ok-clause-extends : goal.returns-in-Ok-clause-extends
returns-in-Ok-clause-extends g c =
    let t = g.F.FabricName.table in
    looked_at t c.args.portals.now c.loop-place.place c.index-portals-place.result c.args.self.now c.loop-place.self c.take.new.self c.loop-place-test.true
    c.index-portals-place.is c.loop-place.invariant.1 (Ok (c.in-Ok.n, c.in-Ok.parcel)) c.in-Ok.ensures.extends
    (GivesParcel c.arrival_of.result.n c.arrival_of.result.bytes c.arrival_of.result.portals) (
      c.in-Ok.parcel,
      ap (λ (k : ℕ). Ok (k, c.in-Ok.parcel)) (sym c.arrival_of.ensures.number),
      record {
        bytes_are = c.arrival_of.ensures.bytes;
        portals_are = c.arrival_of.ensures.portals ∙ ap (λ (k : ℕ). portals_at k (take 8 c.in-Ok.parcel.ends)) c.node.ensures;
      },
    )

pub returns-then-not-is_empty-clause-refused : goal.returns-then-not-is_empty-clause-refused
returns-then-not-is_empty-clause-refused g c =
    let t = g.F.FabricName.table in
    first_at t c.args.portals.now c.loop-place.place c.index-portals-place.result c.loop-place-test.true c.index-portals-place.is c.loop-place.invariant.0
    (λ p. IsMissed t p.node p.end c.in-Err.why × (c.in-Err.why ≢ Refused Empty)) (c.in-Err.ensures.refused, full c.is_empty.result c.in-Err.why c.if-not-is_empty.true c.is_empty.ensures)

pub returns-then-not-is_empty-clause-extends : goal.returns-then-not-is_empty-clause-extends
returns-then-not-is_empty-clause-extends g c =
    let t = g.F.FabricName.table in
    looked_at t c.args.portals.now c.loop-place.place c.index-portals-place.result c.args.self.now c.loop-place.self c.take.new.self c.loop-place-test.true
    c.index-portals-place.is c.loop-place.invariant.1 (Err (refusal_of c.in-Err.why)) c.in-Err.ensures.extends
    (λ p answer. (answer ≡ Err (refusal_of c.in-Err.why)) × TellsStop (stop_in (at_node p.node c.take.new.self.seen)) c.in-Err.why) (refl, c.in-Err.ensures.stop)

pub returns-clause-refused : goal.returns-clause-refused
returns-clause-refused g c = (refl, all_empty g.F.FabricName.table c.args.portals.now c.loop-place.place c.loop-place-test.false c.loop-place.invariant.0)

pub returns-clause-extends : goal.returns-clause-extends
returns-clause-extends g c =
    vain_all g.F.FabricName.table c.args.portals.now c.loop-place.place c.args.self.now c.loop-place.self c.loop-place-test.false c.loop-place.invariant.1
