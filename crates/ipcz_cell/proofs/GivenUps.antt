-- What an act gives up of the link words, as the rule's kinds of step want it.
use Rattle.std.specs.Prelude.{◌≡◌, ◌≢◌, ℕ, Bool, true, false, Option, Some, None, MatchOption, refl}
use Rattle.std.proofs.Common.{subst}
use Rattle.ipcz_base.specs.declared.side.Side.{Side}
use Rattle.ipcz_router.specs.Router.{Router}
use Rattle.ipcz_router.specs.ActEffects.{leaves_by}
use Rattle.ipcz_router.specs.LettingGo.{let_go_end}
use Rattle.ipcz_router.specs.declared.act.RouterAct.{RouterAct}
use Rattle.ipcz_router.specs.declared.act.RouterAct.TheVariants as router_acts
use Rattle.ipcz_node.specs.declared.act.Act.{Act}
use Rattle.ipcz_node.specs.declared.act.Act.TheVariants as acts
use Rattle.ipcz_node.specs.Node.{Node, router_in}
use Rattle.ipcz_rule.specs.GivenUp.{GivesEnd}
use Rattle.ipcz_cell.specs.GivenUp.{RouterGives, GivesUp}
use Rattle.ipcz_cell.specs.declared.letting.GivenUp.{GivenUp}
use Rattle.ipcz_cell.specs.declared.letting.GivenUp.TheVariants as given

-- an act of a router gives up what that router gives up
pub there_gives : (x : Node) (serial : ℕ) (act : RouterAct) (what : GivenUp) (r : Router) → GivesUp true x (acts.Router serial act) what → router_in x serial ≡ Some r → RouterGives r act what
there_gives x serial act what r h at = subst (λ o. MatchOption o (what ≡ given.Nothing) (λ r. RouterGives r act what)) at h

-- who gives up nothing gives up no end
pub gives_no_end : (reuses : Bool) (x : Node) (act : Act) → GivesUp reuses x act given.Nothing → reuses ≡ true → GivesEnd x act None
gives_no_end true x (acts.Router serial act) none again = λ r at. there_gives x serial act given.Nothing r none at
gives_no_end true x other none again = refl
gives_no_end false x act none again = absurd (cc)

-- something is given up where slots are used again, by an act of a router
pub record IsRouters (reuses : Bool) (x : Node) (act : Act) (what : GivenUp) : Type 0 where
  pub reused : reuses ≡ true
  pub serial : ℕ
  pub deed : RouterAct
  pub is : act ≡ acts.Router serial deed
  pub gives : (r : Router) → router_in x serial ≡ Some r → RouterGives r deed what

pub routers_end : (reuses : Bool) (x : Node) (act : Act) (i : ℕ) (s : Side) → GivesUp reuses x act (given.End i s) → IsRouters reuses x act (given.End i s)
routers_end true x (acts.Router serial deed) i s h = record { reused = refl; serial = serial; deed = deed; is = refl; gives = λ r at. there_gives x serial deed (given.End i s) r h at }
routers_end true x other i s h = absurd (cc)
routers_end false x act i s h = absurd (cc)

pub routers_both : (reuses : Bool) (x : Node) (act : Act) (i : ℕ) (s : Side) (j : ℕ) → GivesUp reuses x act (given.EndAndSpare i s j) → IsRouters reuses x act (given.EndAndSpare i s j)
routers_both true x (acts.Router serial deed) i s j h = record { reused = refl; serial = serial; deed = deed; is = refl; gives = λ r at. there_gives x serial deed (given.EndAndSpare i s j) r h at }
routers_both true x other i s j h = absurd (cc)
routers_both false x act i s j h = absurd (cc)

keeps_end : (r : Router) (act : RouterAct) → act ≢ router_acts.FinishOut → act ≢ router_acts.Discard → act ≢ router_acts.Leave → act ≢ router_acts.Retire → let_go_end r act ≡ None
unfolding let_go_end leaves_by
keeps_end r router_acts.FinishOut finish discard leave retire = absurd (finish refl)
keeps_end r router_acts.Discard finish discard leave retire = absurd (discard refl)
keeps_end r router_acts.Leave finish discard leave retire = absurd (leave refl)
keeps_end r router_acts.Retire finish discard leave retire = absurd (retire refl)
keeps_end r other finish discard leave retire = refl

-- the other acts give nothing up
pub nothing_given : (reuses : Bool) (x : Node) (serial : ℕ) (act : RouterAct) → act ≢ router_acts.FinishOut → act ≢ router_acts.Discard → act ≢ router_acts.Leave → act ≢ router_acts.Retire →
    GivesUp reuses x (acts.Router serial act) given.Nothing
nothing_given true x serial act finish discard leave retire = go (router_in x serial) where
  go : (o : Option Router) → MatchOption o (given.Nothing ≡ given.Nothing) (λ r. RouterGives r act given.Nothing)
  go None = refl
  go (Some r) = keeps_end r act finish discard leave retire
nothing_given false x serial act finish discard leave retire = refl
