-- The kinds of step, in the forms that the calls of a cell use.
use Rattle.std.specs.Prelude.{not, ◌≡◌, ℕ, Bool, true, false, [], ◌∷◌, Option, Some, None, IsSomeAnd}
use Rattle.std.proofs.Common.{sym, subst, refl}
use Rattle.ipcz_base.specs.declared.end.End.{End}
use Rattle.ipcz_base.specs.declared.parcel.Parcel as parcels
use Rattle.ipcz_router.specs.Router.{Router}
use Rattle.ipcz_router.specs.ActTable.{may_take}
use Rattle.ipcz_router.specs.declared.act.Answer.TheVariants as answers
use Rattle.ipcz_router.specs.declared.act.RouterAct.{RouterAct}
use Rattle.ipcz_node.specs.declared.act.Act.{Act}
use Rattle.ipcz_node.specs.declared.act.Act.TheVariants as acts
use Rattle.ipcz_node.specs.Node.{Node, router_in}
use Rattle.ipcz_node.specs.Calls.{get_refusal, got_at}
use Rattle.ipcz_node.specs.Acts.{act_lacks_serials}
use Rattle.ipcz_node.specs.RoomyNodes.{IsPossibleAct}
use Rattle.ipcz_rule.specs.declared.view.Part.{Part}
use Rattle.ipcz_rule.specs.Rule.{with_part}
use Rattle.ipcz_rule.specs.Batches.{BatchMine}
use Rattle.ipcz_rule.specs.Steps.{act_part, CanAct}
use Rattle.ipcz_cell.specs.Parts.{got_part, part_got}
use Rattle.ipcz_rule.specs.GivenUp.{GivesEnd}
use Rattle.ipcz_rule.specs.Steps.{is_touch_act}
use Rattle.ipcz_rule.proofs.BatchPlainKinds.{gets, pending_closes, touches_acts}
use Rattle.ipcz_cell.specs.Seats.{Keeps}

-- a get of what is found
pub gets_found : (all : Bool) (count size slots id i : ℕ) (m : BatchMine) (p : Part) (at : End) (g : ℕ × parcels.Parcel) → m.0.parts ≡ p ∷ [] → get_refusal p.state at ≡ None → got_at p.state at ≡ Some g →
    Keeps all count size slots id m i (λ n. n) (λ n m'. m' ≡ (with_part (got_part at p) m.0, m.1))
gets_found all count size slots id i m p at g is fine got =
    subst (λ (o : Option (ℕ × parcels.Parcel)). Keeps all count size slots id m i (λ n. n) (λ n m'. m' ≡ (with_part (part_got at o p) m.0, m.1))) (sym got)
    (gets (not all) all count size slots id i m p at g.0 g.1 is fine got)

can_act : (x : Node) (serial : ℕ) (act : RouterAct) (o : Option Router) → router_in x serial ≡ o → IsSomeAnd o (λ r. may_take r act ≡ true) → act_lacks_serials x (acts.Router serial act) ≡ false →
    (r : Router) × CanAct x serial r act
can_act x serial act (Some r) e may serials = (r, record { there = e; may = may; serials = serials })
can_act x serial act None e may serials = absurd may

-- the router of a possible act
pub actor : (x : Node) (serial : ℕ) (act : RouterAct) → IsPossibleAct x (acts.Router serial act) → act_lacks_serials x (acts.Router serial act) ≡ false → (r : Router) × CanAct x serial r act
actor x serial act may serials = can_act x serial act (router_in x serial) refl may serials

-- an act that a touch does
pub acts_touch : (all : Bool) (count size slots id i : ℕ) (m : BatchMine) (p : Part) (act : Act) → m.0.parts ≡ p ∷ [] → is_touch_act act ≡ true → IsPossibleAct p.state act → act_lacks_serials p.state act ≡ false →
    (all ≡ true → GivesEnd p.state act None) → Keeps all count size slots id m i (λ n. n) (λ n m'. m' ≡ (with_part (act_part act answers.Plain p) m.0, m.1))
acts_touch all count size slots id i m p (acts.Router serial act) is touch may serials none = let a = actor p.state serial act may serials in touches_acts (not all) all count size slots id i m p serial a.0 act is a.1 touch none
acts_touch all count size slots id i m p (acts.Close e) is touch may serials none = pending_closes (not all) all count size slots id i m p e is may
acts_touch all count size slots id i m p other is touch may serials none = absurd cc
