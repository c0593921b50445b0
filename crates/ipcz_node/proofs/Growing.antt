-- What grows by an act: nothing if it sends into an empty outbox and moves no ends, and nothing if it leaves none to be closed.
use Rattle.std.proofs.Common.{◌≡◌, ℕ, suc, Bool, true, false, true≢false, not, ◌||◌, nat_eq, Option, Some, None, List, [], ◌∷◌, length, refl, sym, ap, ◌∙◌, arith}
use Rattle.std.proofs.lemmas.Bool.Decides.{nat_tests}
use Rattle.ipcz_base.specs.declared.message.Message.{Message}
use Rattle.ipcz_base.specs.Indexed.{place_at}
use Rattle.ipcz_router.specs.Router.{Router}
use Rattle.ipcz_router.specs.ActEffects.{output_of}
use Rattle.ipcz_router.specs.declared.act.RouterAct.{RouterAct}
use Rattle.ipcz_router.specs.declared.act.RouterAct.TheVariants as acts
use Rattle.ipcz_router.specs.declared.outlook.Outlook.{Outlook}
use Rattle.ipcz_router.specs.declared.outlook.Outlook.TheVariants as outlooks
use Rattle.ipcz_node.specs.declared.act.Act.TheVariants.{Router as OfRouter}
use Rattle.ipcz_node.specs.Node.{Node, router_in}
use Rattle.ipcz_node.specs.Preparing.{act_grows, moved_count, outlook_at, outlook_grows, serials_as}

no_more : (k : ℕ) → not (nat_eq k 0) ≡ false → k ≡ 0
no_more k h = grind (arith, h, nat_tests)

empty_box : (ms : List Message) → not (nat_eq (length ms) 0) ≡ false → ms ≡ []
empty_box [] h = refl
empty_box (m ∷ ms) h = absurd (let none : suc (length ms) ≡ 0 = no_more (suc (length ms)) h in omega (arith, none))

either_none : (a b : Bool) → (a || b) ≡ false → (a ≡ false) × (b ≡ false)
either_none false b h = (refl, h)
either_none true b h = absurd (true≢false h)

-- an item
pub item_alone : (n : Node) (to ends : ℕ) → outlook_grows n (outlooks.Item to ends) ≡ false →
    (place_at [] n.outboxes to ≡ []) × (moved_count n to ends ≡ 0)
unfolding outlook_grows
item_alone n to ends h =
    let both = either_none (not (nat_eq (length (place_at [] n.outboxes to)) 0)) (not (nat_eq (moved_count n to ends) 0)) h in
    (empty_box (place_at [] n.outboxes to) both.0, no_more (moved_count n to ends) both.1)

-- a message
pub message_alone : (n : Node) (to : ℕ) → outlook_grows n (outlooks.Message to) ≡ false → place_at [] n.outboxes to ≡ []
unfolding outlook_grows
message_alone n to h = empty_box (place_at [] n.outboxes to) h

-- ends that are to be closed
pub closes_none : (n : Node) (ends : ℕ) → outlook_grows n (outlooks.Closing ends) ≡ false → ends ≡ 0
unfolding outlook_grows
closes_none n ends h = no_more ends h

-- if nothing grows, no serial is taken
pub takes_none : (n : Node) (o : Outlook) → outlook_grows n o ≡ false → serials_as n o ≡ 0
takes_none n (outlooks.Item to ends) h = (item_alone n to ends h).1
takes_none n other h = refl

-- an item without ends
pub send_lone : (n : Node) (serial to : ℕ) (act : RouterAct) → outlook_at (router_in n serial) act ≡ outlooks.Item to 0 →
    act_grows n (OfRouter serial act) ≡ false → place_at [] n.outboxes to ≡ []
unfolding act_grows
send_lone n serial to act is h = (item_alone n to 0 (sym (ap (outlook_grows n) is) ∙ h)).0

-- acts that give nothing
abbrev pub gives : RouterAct → Bool
gives acts.SendOut = true
gives acts.SendIn = true
gives acts.Discard = true
gives acts.Wake = true
gives acts.Begin = true
gives acts.Retire = true
gives other = false

gives_nothing : (r : Router) (act : RouterAct) → gives act ≡ false → outlook_at (Some r) act ≡ outlooks.Nothing
unfolding output_of
gives_nothing r acts.SendOut h = absurd (true≢false h)
gives_nothing r acts.SendIn h = absurd (true≢false h)
gives_nothing r acts.Discard h = absurd (true≢false h)
gives_nothing r acts.Wake h = absurd (true≢false h)
gives_nothing r acts.Begin h = absurd (true≢false h)
gives_nothing r acts.Retire h = absurd (true≢false h)
gives_nothing r other h = refl

-- make nothing grow
pub grows_not : (n : Node) (serial : ℕ) (act : RouterAct) → gives act ≡ false → act_grows n (OfRouter serial act) ≡ false
unfolding act_grows outlook_grows
grows_not n serial act h = go (router_in n serial)
  where
    go : (o : Option Router) → outlook_grows n (outlook_at o act) ≡ false
    go None = refl
    go (Some r) = ap (outlook_grows n) (gives_nothing r act h)
