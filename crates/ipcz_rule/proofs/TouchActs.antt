-- All acts of a node that are touches, as one kind.
use Rattle.std.specs.Prelude.{◌≡◌, ◌⊎◌, ℕ, true, false, [], ◌∷◌, Option, Some, None, IsSomeAnd, refl}
use Rattle.std.proofs.Common.{sym, subst, inl, inr, ⊎_elim}
use Rattle.ipcz_base.specs.declared.end.End.{End}
use Rattle.ipcz_router.specs.Router.{Router}
use Rattle.ipcz_router.specs.ActTable.{may_take}
use Rattle.ipcz_router.specs.declared.act.RouterAct.{RouterAct}
use Rattle.ipcz_router.specs.declared.act.Answer.TheVariants as answers
use Rattle.ipcz_node.specs.declared.act.Act.{Act}
use Rattle.ipcz_node.specs.declared.act.Act.TheVariants as acts
use Rattle.ipcz_node.specs.Node.{Node, router_in}
use Rattle.ipcz_node.specs.Acts.{act_lacks_serials}
use Rattle.ipcz_node.specs.RoomyNodes.{IsPossibleAct}
use Rattle.ipcz_rule.specs.declared.view.Part.{Part}
use Rattle.ipcz_rule.specs.Rule.{Mine, with_part}
use Rattle.ipcz_rule.specs.Steps.{CanAct, is_touch_act, act_part}
use Rattle.ipcz_rule.specs.Kinds.{IsTurns, TouchActs}
use Rattle.ipcz_rule.proofs.Calling.{pending_closes_turns}
use Rattle.ipcz_rule.proofs.Dropping.{touches_acts_turns}

some_and : (o : Option Router) (act : RouterAct) → IsSomeAnd o (λ r. may_take r act ≡ true) → (r : Router) × (o ≡ Some r) × (may_take r act ≡ true)
some_and None act h = absurd h
some_and (Some r) act h = (r, refl, h)

-- the router of a possible act, and what the act needs of it
pub can_act : (x : Node) (serial : ℕ) (act : RouterAct) → IsPossibleAct x (acts.Router serial act) → act_lacks_serials x (acts.Router serial act) ≡ false → (r : Router) × CanAct x serial r act
can_act x serial act can serials = let t = some_and (router_in x serial) act can in (t.0, record { there = t.1; may = t.2; serials = serials })

-- a touch is a pending close or an act of a router
which : (act : Act) → is_touch_act act ≡ true → ((e : End) × (act ≡ acts.Close e)) ⊎ ((serial : ℕ) × (a : RouterAct) × (act ≡ acts.Router serial a))
which (acts.Close end) e = inl (end, refl)
which (acts.Router serial act) e = inr (serial, act, refl)
which other e = cc

-- what is owed of an act that is a touch
abbrev Touch : ℕ → ℕ → ℕ → ℕ → ℕ → Mine → Part → Act → Type 0
Touch count size slots id i m p act = IsPossibleAct p.state act → act_lacks_serials p.state act ≡ false → is_touch_act act ≡ true →
    IsTurns count size slots id m i (λ n. n) (λ n. (p.node, act) ∷ []) (λ n m'. m' ≡ (with_part (act_part act answers.Plain p) m.0, m.1))

touch_close : (count size slots id i : ℕ) (m : Mine) (p : Part) (end : End) → m.0.parts ≡ p ∷ [] → Touch count size slots id i m p (acts.Close end)
touch_close count size slots id i m p end is can serials e = pending_closes_turns count size slots id i m p end is can

touch_router : (count size slots id i : ℕ) (m : Mine) (p : Part) (serial : ℕ) (act : RouterAct) → m.0.parts ≡ p ∷ [] → Touch count size slots id i m p (acts.Router serial act)
touch_router count size slots id i m p serial act is can serials e = let t = can_act p.state serial act can serials in touches_acts_turns count size slots id i m p serial t.0 act is t.1 e

pub touch_acts : TouchActs IsTurns
touch_acts count size slots id i m p act is e can serials = ⊎_elim
    (λ (t : (end : End) × (act ≡ acts.Close end)). subst (Touch count size slots id i m p) (sym t.1) (touch_close count size slots id i m p t.0 is) can serials e)
    (λ (t : (serial : ℕ) × (a : RouterAct) × (act ≡ acts.Router serial a)). subst (Touch count size slots id i m p) (sym t.2) (touch_router count size slots id i m p t.0 t.1 is) can serials e)
    (which act e)
