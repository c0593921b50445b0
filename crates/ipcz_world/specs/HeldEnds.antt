-- Worlds that last: claims may pass over numbers, and the ends of link words are held, or were let go for good.
-- (This project's own: ipcz gives a link state back to its memory when the last router lets it go.)
use Rattle.std.specs.Prelude.{◌≡◌, ◌≢◌, ◌⊎◌, ◌≤◌, ◌<◌, ℕ, zero, suc, ◌+◌, Bool, true, false, ◌&&◌, ◌||◌, nat_eq, Option, Some, None, List, [], ◌∷◌, ◌++◌, replicate, slice_get}
use Rattle.ipcz_base.specs.declared.side.Side.{Side}
use Rattle.ipcz_base.specs.declared.link_id.LinkId.TheVariants.{Central}
use Rattle.ipcz_base.specs.declared.message.Message.{Message}
use Rattle.ipcz_base.specs.declared.message.Message.TheVariants as messages
use Rattle.ipcz_base.specs.Links.{has_link}
use Rattle.ipcz_base.specs.Sides.{same_side}
use Rattle.ipcz_router.specs.Router.{Router, router_has}
use Rattle.ipcz_router.specs.ActEffects.{leaves_by, rewet, run_dry}
use Rattle.ipcz_router.specs.LettingGo.{let_go_end, let_go_spare}
use Rattle.ipcz_router.specs.declared.act.RouterAct.{RouterAct}
use Rattle.ipcz_router.specs.declared.act.RouterAct.TheVariants as acts
use Rattle.ipcz_node.specs.Node.{outbox}
use Rattle.ipcz_node.specs.declared.act.Act.TheVariants.{Router as OfRouter}
use Rattle.ipcz_world.specs.declared.step.Step.{Step}
use Rattle.ipcz_world.specs.declared.step.Step.TheVariants.{Turn}
use Rattle.ipcz_world.specs.declared.step.Reply.{Reply}
use Rattle.ipcz_world.specs.World.{World, Key, node_at, mail_at, router_at, messages_in, set_claimed, word_at, has_unclaimed_word}
use Rattle.ipcz_world.specs.Turns.{router_of, message_in_hand, can_take, after_act}
use Rattle.ipcz_world.specs.Steps.{StepAny, claim_for_open}
use Rattle.ipcz_world.specs.Books.{Books}
use Rattle.ipcz_world.specs.Routes.{Routes, lose_word}
use Rattle.ipcz_world.specs.Lawful.{Lawful}
use Rattle.ipcz_world.specs.Ranks.{AreTurns}
use Rattle.ipcz_world.specs.Flows.{IsUnderWay}
use Rattle.ipcz_node.specs.declared.act.Act.{Act}
use Rattle.ipcz_word.specs.Word.{Word, empty_word, is_free}
use Rattle.ipcz_world.specs.World.{set_router}

-- the world after a claim has passed over so many numbers
abbrev pub passed_over : World → ℕ → World
passed_over w count = set_claimed w (w.claimed + count)

-- the numbers from one on, so many, are lost: they are nobody's for good
abbrev pub lose_words : Routes → ℕ → ℕ → Routes
lose_words g i zero = g
lose_words g i (suc left) = lose_words (lose_word g i) (i + 1) left

-- law: passing over numbers keeps a world lawful
abbrev pub PassingKeepsLawful : Type 0
PassingKeepsLawful =
    (w : World) (b : Books) (g : Routes) (count : ℕ) → Lawful w b g → w.claimed + count ≤ w.size →
    Lawful (passed_over w count) b (lose_words g w.claimed count)

-- the world with so many numbers more, none of them claimed
abbrev pub grown : World → ℕ → World
grown w count = record w { words = w.words ++ replicate count empty_word; size = w.size + count }

-- law: there may be more numbers at any time, so that no limit of them matters to the law
abbrev pub GrowingKeepsLawful : Type 0
GrowingKeepsLawful = (w : World) (b : Books) (g : Routes) (count : ℕ) → Lawful w b g → Lawful (grown w count) b g

-- the world in which a router was told that no word is left
abbrev pub dry_act : World → Key → Router → World
dry_act w k r = set_router w k (run_dry r)

-- law: a claim may be told that no word is left, whether or not numbers are left
abbrev pub DryKeepsLawful : Type 0
DryKeepsLawful =
    (w : World) (b : Books) (g : Routes) (n serial : ℕ) (r : Router) → Lawful w b g → n < w.count → router_of w n serial ≡ Some r →
    can_take w n (OfRouter serial acts.Claim) ≡ true → Lawful (dry_act w (record { node = n; serial = serial }) r) b g

-- the world in which a router may claim again
abbrev pub wet_act : World → Key → Router → World
wet_act w k r = set_router w k (rewet r)

-- law: at any time routers may be told to claim again
abbrev pub WetKeepsLawful : Type 0
WetKeepsLawful =
    (w : World) (b : Books) (g : Routes) (k : Key) (r : Router) → Lawful w b g → router_at w k ≡ Some r → Lawful (wet_act w k r) b g

-- whether a spare is this word
unfoldable pub is_spare : ℕ → Option ℕ → Bool
is_spare i None = false
is_spare i (Some j) = nat_eq j i

-- whether a router holds the end of a word: one of its edges has the link at this side, or the word is its spare, which has both ends
abbrev pub router_holds : ℕ → Side → Router → Bool
router_holds i s r = router_has r (Central i) s || is_spare i r.spare

-- whether a message brings the end of a word: a BypassPeer brings both ends of the fresh word, an AcceptBypass that of its receiver
unfoldable pub message_holds : ℕ → Side → Message → Bool
message_holds i s (messages.BypassPeer link side old target fresh) = nat_eq fresh i
message_holds i s (messages.AcceptBypass old side fresh length) = nat_eq fresh i && same_side side s
message_holds i s other = false

-- the end of a word is held: by a router, for an open under way, or by a message that waits, is in a mailbox, or is in hand
pub data IsEndHeld (w : World) (i : ℕ) (s : Side) : Type 0 where
  ByRouter : (k : Key) → (r : Router) → router_at w k ≡ Some r → router_holds i s r ≡ true → IsEndHeld w i s
  ByOpen : (n : ℕ) → (node_at w n).opening ≡ Some i → IsEndHeld w i s
  ByOutbox : (from to place : ℕ) → (m : Message) → slice_get (outbox (node_at w from) to) place ≡ Some m → message_holds i s m ≡ true →
      IsEndHeld w i s
  ByMailbox : (k place : ℕ) → (m : Message) → slice_get (messages_in (mail_at w k)) place ≡ Some m → message_holds i s m ≡ true →
      IsEndHeld w i s

-- law: an end that is held after a step was held before it, or its word was claimed by it: who lets an end go never holds it again, nor
-- does anyone else
abbrev pub HeldWereHeld : Type 0
HeldWereHeld =
    (w v : World) (b : Books) (g : Routes) (step : Step) (reply : Reply) (i : ℕ) (s : Side) → Lawful w b g → StepAny w step reply v →
    IsEndHeld v i s → IsEndHeld w i s ⊎ (w.claimed ≤ i)

-- law: the same of any turns, in whatever order
abbrev pub TurnsHeldWereHeld : Type 0
TurnsHeldWereHeld =
    (w v : World) (b d : Books) (g h : Routes) (turns : List (ℕ × Act)) (i : ℕ) (s : Side) → Lawful w b g → AreTurns w b g turns v d h →
    IsEndHeld v i s → IsEndHeld w i s ⊎ (w.claimed ≤ i)

-- law: the same of the first half of an open
abbrev pub HeldForOpenWereHeld : Type 0
HeldForOpenWereHeld =
    (w : World) (b : Books) (g : Routes) (n i : ℕ) (s : Side) → Lawful w b g → n < w.count → IsEndHeld (claim_for_open w n) i s →
    IsEndHeld w i s ⊎ (w.claimed ≤ i)

-- law: of a number that isn't claimed, or that is lost, no end is held
abbrev pub LostAreNotHeld : Type 0
LostAreNotHeld =
    (w : World) (b : Books) (g : Routes) (i : ℕ) (s : Side) → Lawful w b g → (w.claimed ≤ i) ⊎ (g.lost i ≡ true) → IsEndHeld w i s → ⊥

-- whether an act of a router lets the end of a word go: it gives up the decaying link that has it, or its router leaves and held it
unfoldable pub lets_go : ℕ → Side → Router → RouterAct → Bool
lets_go i s r acts.FinishOut = has_link r.outward.decaying (Central i) s
lets_go i s r act = leaves_by r act && router_holds i s r

-- law: nobody holds it then
abbrev pub LetGoAreNotHeld : Type 0
LetGoAreNotHeld =
    (w : World) (b : Books) (g : Routes) (n serial : ℕ) (r : Router) (act : RouterAct) (i : ℕ) (s : Side) → Lawful w b g → n < w.count →
    router_of w n serial ≡ Some r → can_take w n (OfRouter serial act) ≡ true → lets_go i s r act ≡ true →
    IsEndHeld (after_act w n (OfRouter serial act)) i s → ⊥

-- an act of a node lets the end of a word go
pub record LetsGo (w : World) (n : ℕ) (act : Act) (i : ℕ) (s : Side) : Type 0 where
  pub serial : ℕ
  pub deed : RouterAct
  pub router : Router
  pub is : act ≡ OfRouter serial deed
  pub here : router_of w n serial ≡ Some router
  pub gone : lets_go i s router deed ≡ true

-- law: an end that is held is held after an act as well, or the act lets it go: no end is lost
abbrev pub HeldUntilLetGo : Type 0
HeldUntilLetGo =
    (w : World) (b : Books) (g : Routes) (n : ℕ) (act : Act) (i : ℕ) (s : Side) → Lawful w b g → n < w.count → can_take w n act ≡ true →
    IsEndHeld w i s → IsEndHeld (after_act w n act) i s ⊎ LetsGo w n act i s

-- one of these turns lets the end of a word go
abbrev pub OneLetsGo : World → List (ℕ × Act) → ℕ → Side → Type 0
OneLetsGo w [] i s = ⊥
OneLetsGo w (t ∷ ts) i s = LetsGo w t.0 t.1 i s ⊎ OneLetsGo (after_act w t.0 t.1) ts i s

-- law: an end that is held is held after turns as well, however many, or one of them lets it go
abbrev pub TurnsKeepHeld : Type 0
TurnsKeepHeld =
    (w v : World) (b d : Books) (g h : Routes) (turns : List (ℕ × Act)) (i : ℕ) (s : Side) → Lawful w b g → AreTurns w b g turns v d h →
    IsEndHeld w i s → IsEndHeld v i s ⊎ OneLetsGo w turns i s

-- law: an act of a router lets nothing go but what the router gives up by it: the end of one word, and a spare; and who gives up a spare
-- gives up the end of another word
pub record LetGoAreGivenUp : Type 0 where
  pub ends : (w : World) (b : Books) (g : Routes) (n serial : ℕ) (r : Router) (act : RouterAct) (i : ℕ) (s : Side) → Lawful w b g →
      router_of w n serial ≡ Some r → can_take w n (OfRouter serial act) ≡ true → lets_go i s r act ≡ true →
      (let_go_end r act ≡ Some (i, s)) ⊎ (let_go_spare r act ≡ Some i)
  pub spares : (w : World) (b : Books) (g : Routes) (n serial : ℕ) (r : Router) (act : RouterAct) (j : ℕ) → Lawful w b g →
      router_of w n serial ≡ Some r → let_go_spare r act ≡ Some j → (i : ℕ) × (s : Side) × (let_go_end r act ≡ Some (i, s)) × (j ≢ i)

-- law: the first half of an open lets no end go
abbrev pub OpeningKeepsHeld : Type 0
OpeningKeepsHeld =
    (w : World) (b : Books) (g : Routes) (n i : ℕ) (s : Side) → Lawful w b g → (node_at w n).opening ≡ None → IsEndHeld w i s →
    IsEndHeld (claim_for_open w n) i s

-- law: who claims a word, a router for its bypass or a node for an open, holds both its ends; and so are those of a word held that is free
pub record ClaimedAreHeld : Type 0 where
  pub router : (w : World) (n serial : ℕ) (s : Side) → can_take w n (OfRouter serial acts.Claim) ≡ true → has_unclaimed_word w ≡ true →
      IsEndHeld (after_act w n (OfRouter serial acts.Claim)) w.claimed s
  pub open_under_way : (w : World) (n : ℕ) (s : Side) → IsEndHeld (claim_for_open w n) w.claimed s
  pub free : (w : World) (b : Books) (g : Routes) (i : ℕ) (s : Side) → Lawful w b g → is_free (word_at w i) ≡ true → IsEndHeld w i s

-- whether a step is a turn
unfoldable pub is_turn : Step → Bool
is_turn (Turn n) = true
is_turn other = false

-- law: after a call it is held
abbrev pub CallsKeepHeld : Type 0
CallsKeepHeld =
    (w v : World) (b : Books) (g : Routes) (step : Step) (reply : Reply) (i : ℕ) (s : Side) → Lawful w b g → is_turn step ≡ false →
    StepAny w step reply v → IsEndHeld w i s → IsEndHeld v i s

-- an end is held by this router, and not otherwise
abbrev pub IsOfRouter : (w : World) (i : ℕ) (s : Side) → Key → IsEndHeld w i s → Type 0
IsOfRouter w i s k (ByRouter q r here holds) = q ≡ k
IsOfRouter w i s k (ByOpen n opening) = ⊥
IsOfRouter w i s k (ByOutbox from to place m there holds) = ⊥
IsOfRouter w i s k (ByMailbox q place m there holds) = ⊥

-- an end is held for the open under way at this node, and not otherwise
abbrev pub IsOfOpen : (w : World) (i : ℕ) (s : Side) → ℕ → IsEndHeld w i s → Type 0
IsOfOpen w i s n (ByRouter q r here holds) = ⊥
IsOfOpen w i s n (ByOpen m opening) = m ≡ n
IsOfOpen w i s n (ByOutbox from to place m there holds) = ⊥
IsOfOpen w i s n (ByMailbox q place m there holds) = ⊥

-- law: an end is held in one place at most: that of a router by nobody else, that for an open by nobody else, and of the messages under way one
-- at most brings it
pub record HeldInOnePlace : Type 0 where
  pub router : (w : World) (b : Books) (g : Routes) (k : Key) (r : Router) (i : ℕ) (s : Side) → Lawful w b g → router_at w k ≡ Some r →
      router_holds i s r ≡ true → (h : IsEndHeld w i s) → IsOfRouter w i s k h
  pub open_under_way : (w : World) (b : Books) (g : Routes) (n i : ℕ) (s : Side) → Lawful w b g → (node_at w n).opening ≡ Some i →
      (h : IsEndHeld w i s) → IsOfOpen w i s n h
  pub message : (w : World) (b : Books) (g : Routes) (from to place from' to' place' : ℕ) (m m' : Message) (i : ℕ) (s : Side) → Lawful w b g →
      IsUnderWay w from to place m → IsUnderWay w from' to' place' m' → message_holds i s m ≡ true → message_holds i s m' ≡ true →
      (from' ≡ from) × ((to' ≡ to) × (place' ≡ place))

-- law: the old word of an AcceptBypass in hand is held at the side of the router that it is for
abbrev pub AcceptedAreHeld : Type 0
AcceptedAreHeld =
    (w : World) (b : Books) (g : Routes) (n from old : ℕ) (side : Side) (fresh length : ℕ) → Lawful w b g → n < w.count →
    from < w.count → message_in_hand w n from ≡ Some (messages.AcceptBypass old side fresh length) → IsEndHeld w old side

-- the world with other words
abbrev pub with_words : World → List Word → World
with_words w words = record w { words = words }

-- an end of a word is held, or it isn't claimed yet; the other words are dead
abbrev pub IsLive : World → ℕ → Type 0
IsLive w i = ((s : Side) × IsEndHeld w i s) ⊎ (w.claimed ≤ i)

-- the world with other words says the same of each that isn't dead
abbrev pub AgreesOnLive : World → List Word → Type 0
AgreesOnLive w words = (i : ℕ) → IsLive w i → word_at (with_words w words) i ≡ word_at w i

-- law: what dead words say doesn't matter: with others in their place each step is one as well, has the same reply, and leads to a world
-- that says the same of all that aren't dead then
abbrev pub DeadWordsDoNotMatter : Type 0
DeadWordsDoNotMatter =
    (w v : World) (words : List Word) (b : Books) (g : Routes) (step : Step) (reply : Reply) → Lawful w b g → AgreesOnLive w words →
    StepAny w step reply v →
    (after : List Word) × StepAny (with_words w words) step reply (with_words v after) × AgreesOnLive v after
