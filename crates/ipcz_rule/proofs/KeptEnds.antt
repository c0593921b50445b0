-- Turns leave ends of link words that nobody held with nobody; and those that are held as they are, if no act of theirs lets one go.
use Rattle.std.specs.Prelude.{◌≡◌, ℕ, Bool, true, false, Some, None, List, [], ◌∷◌, ◌⊎◌}
use Rattle.std.proofs.Common.{ap, ◌∙◌, sym, subst, inl, inr, ⊎_elim}
use Rattle.ipcz_base.specs.declared.side.Side.{Side}
use Rattle.ipcz_router.specs.Router.{Router}
use Rattle.ipcz_router.specs.ActEffects.{leaves_by}
use Rattle.ipcz_router.specs.LettingGo.{let_go_end, let_go_spare}
use Rattle.ipcz_router.specs.declared.act.RouterAct.{RouterAct}
use Rattle.ipcz_router.specs.declared.act.RouterAct.TheVariants as router_acts
use Rattle.ipcz_node.specs.declared.act.Act.{Act}
use Rattle.ipcz_node.specs.declared.act.Act.TheVariants as acts
use Rattle.ipcz_node.specs.Node.{Node, router_in}
use Rattle.ipcz_world.specs.World.{World, node_at, router_at}
use Rattle.ipcz_world.specs.Turns.{can_take, after_act}
use Rattle.ipcz_world.specs.Lawful.{Lawful}
use Rattle.ipcz_world.specs.Books.{Books}
use Rattle.ipcz_world.specs.Routes.{Routes}
use Rattle.ipcz_world.specs.HeldEnds.{lets_go, OneLetsGo}
use Rattle.ipcz_world.proofs.Whole.{each_step_keeps_lawful, messages_in_hand_fit}
use Rattle.ipcz_world.proofs.lawful.LastingTurns.{turns_held_were_held, turns_keep_held}
use Rattle.ipcz_world.proofs.lawful.StayingHeld.{held_until_let_go}
use Rattle.ipcz_world.proofs.lawful.GivingUp.{let_go_are_given_up}
use Rattle.ipcz_rule.specs.Rule.{St, Rules}
use Rattle.ipcz_rule.specs.Kinds.{Follows, KeepsEnds, turn_where}
use Rattle.ipcz_rule.specs.GivenUp.{GivesEnd}

pub turns_keep : (all : Bool) (count size : ℕ) (s s' : St) (r : Rules count size s) (turns : List (ℕ × Act)) → (all ≡ true → (i : ℕ) (side : Side) → OneLetsGo r.world turns i side → ⊥) →
    Follows count size s r turns s' → (r' : Rules count size s') × KeepsEnds all r.world r'.world
turns_keep all count size s s' r turns none f = (
  f.0,
  (
    (λ i side held. turns_held_were_held each_step_keeps_lawful r.world f.0.world r.books f.0.books r.routes f.0.routes turns i side r.lawful f.1 held),
    (λ e i side held. ⊎_elim (λ h. h) (λ gone. absurd (none e i side gone))
        (turns_keep_held each_step_keeps_lawful (held_until_let_go messages_in_hand_fit) r.world f.0.world r.books f.0.books r.routes f.0.routes turns i side r.lawful f.1 held)),
  ),
)

-- an act by which no router lets an end go
abbrev pub IsKeeping : Act → Type 0
IsKeeping (acts.Router serial act) = (r : Router) (i : ℕ) (s : Side) → lets_go i s r act ≡ true → ⊥
IsKeeping other = Unit {0}

keeping_by : (w : World) (n : ℕ) (act : Act) (i : ℕ) (s : Side) → IsKeeping act → (serial : ℕ) (deed : RouterAct) (r : Router) → act ≡ acts.Router serial deed → lets_go i s r deed ≡ true → ⊥
keeping_by w n (acts.Router t a) i s keeps serial deed r is gone = keeps r i s (ap (lets_go i s r) (let e : a ≡ deed = cc in e) ∙ gone)
keeping_by w n other i s keeps serial deed r is gone = absurd (cc)

pub one_keeps : (w : World) (n : ℕ) (act : Act) → IsKeeping act → (i : ℕ) (s : Side) → OneLetsGo w ((n, act) ∷ []) i s → ⊥
one_keeps w n act keeps i s (inl g) = keeping_by w n act i s keeps g.serial g.deed g.router g.is g.gone
one_keeps w n act keeps i s (inr g) = g

-- and neither do two such acts let one go
pub two_keep : (w : World) (n k : ℕ) (act then : Act) → IsKeeping act → IsKeeping then → (i : ℕ) (s : Side) → OneLetsGo w ((n, act) ∷ (k, then) ∷ []) i s → ⊥
two_keep w n k act then keeps more i s (inl g) = keeping_by w n act i s keeps g.serial g.deed g.router g.is g.gone
two_keep w n k act then keeps more i s (inr g) = one_keeps (after_act w n act) k then more i s g

pub where_keeps : (hit : Bool) (w : World) (n : ℕ) (act : Act) → IsKeeping act → (i : ℕ) (s : Side) → OneLetsGo w (turn_where hit n act) i s → ⊥
where_keeps true w n act keeps i s g = one_keeps w n act keeps i s g
where_keeps false w n act keeps i s g = g

-- the acts on a word are such
pub mark_keeps : (serial : ℕ) → IsKeeping (acts.Router serial router_acts.Mark)
unfolding lets_go leaves_by
mark_keeps serial r i s h = cc

pub wake_keeps : (serial : ℕ) → IsKeeping (acts.Router serial router_acts.Wake)
unfolding lets_go leaves_by
wake_keeps serial r i s h = cc

pub lock_keeps : (serial : ℕ) → IsKeeping (acts.Router serial router_acts.Lock)
unfolding lets_go leaves_by
lock_keeps serial r i s h = cc

pub unlock_keeps : (serial : ℕ) → IsKeeping (acts.Router serial router_acts.Unlock)
unfolding lets_go leaves_by
unlock_keeps serial r i s h = cc

pub claim_keeps : (serial : ℕ) → IsKeeping (acts.Router serial router_acts.Claim)
unfolding lets_go leaves_by
claim_keeps serial r i s h = cc

-- what an act lets go, where it is known what it gives up
pub gone_is : (w : World) (b : Books) (g : Routes) (n : ℕ) (serial : ℕ) (act : RouterAct) (r : Router) (i : ℕ) (s : Side) → Lawful w b g → router_in (node_at w n) serial ≡ Some r →
    can_take w n (acts.Router serial act) ≡ true → OneLetsGo w ((n, acts.Router serial act) ∷ []) i s → (let_go_end r act ≡ Some (i, s)) ⊎ (let_go_spare r act ≡ Some i)
unfolding router_at
gone_is w b g n serial act r i s law here can (inr gone) = absurd gone
gone_is w b g n serial act r i s law here can (inl gone) =
    let a : act ≡ gone.deed = same_deed serial gone.serial act gone.deed gone.is in
    let t : serial ≡ gone.serial = same_serial serial gone.serial act gone.deed gone.is in
    let q : r ≡ gone.router = same_some r gone.router (sym here ∙ (ap (router_in (node_at w n)) t ∙ gone.here)) in
    let_go_are_given_up.ends w b g n serial r act i s law here can (subst (λ (d : RouterAct). lets_go i s r d ≡ true) (sym a) (subst (λ (u : Router). lets_go i s u gone.deed ≡ true) (sym q) gone.gone))
  where
    same_deed : (x y : ℕ) (c d : RouterAct) → acts.Router x c ≡ acts.Router y d → c ≡ d
    same_deed x y c d e = cc

    same_serial : (x y : ℕ) (c d : RouterAct) → acts.Router x c ≡ acts.Router y d → x ≡ y
    same_serial x y c d e = cc

    same_some : (x y : Router) → Some x ≡ Some y → x ≡ y
    same_some x y e = cc

-- an act that gives up no end lets none go
pub gives_none : (w : World) (b : Books) (g : Routes) (n : ℕ) (act : Act) (x : Node) → Lawful w b g → node_at w n ≡ x → can_take w n act ≡ true → GivesEnd x act None →
    (i : ℕ) (s : Side) → OneLetsGo w ((n, act) ∷ []) i s → ⊥
unfolding router_at
gives_none w b g n (acts.Router serial act) x law is can none i s gone = by gone
  where
    same_serial : (x y : ℕ) (c d : RouterAct) → acts.Router x c ≡ acts.Router y d → x ≡ y
    same_serial x y c d e = cc

    by : OneLetsGo w ((n, acts.Router serial act) ∷ []) i s → ⊥
    by (inr g) = g
    by (inl l) =
        let t : serial ≡ l.serial = same_serial serial l.serial act l.deed l.is in
        let here : router_in (node_at w n) serial ≡ Some l.router = ap (router_in (node_at w n)) t ∙ l.here in
        let nothing : let_go_end l.router act ≡ None = none l.router (ap (λ (y : Node). router_in y serial) (sym is) ∙ here) in
        ⊎_elim (λ e. let f = sym nothing ∙ e in cc)
        (λ e. let q = let_go_are_given_up.spares w b g n serial l.router act i law here e in let f = sym nothing ∙ q.2 in cc)
        (gone_is w b g n serial act l.router i s law here can (inl l))
gives_none w b g n other x law is can none i s (inl gone) = absurd (let e = gone.is in cc)
gives_none w b g n other x law is can none i s (inr gone) = gone
