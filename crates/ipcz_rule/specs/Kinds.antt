-- The kinds of atomic step of a seat with one node: what each needs of the node, and what it leaves of the seat. Each keeps the rule.
-- In addition it is said of a step that a turn takes which turns of the shown world it is: none, or one act of its node.
-- Of a step of a call it is said that it is this very call of the shown world, with its answer (specs/Deeds).
-- In each the seat is `id`, the table has so many slots, and `i` is the word. What a step tells that may find its word changed is by a test
-- of the number found: if it fails, the step was a load.
use Rattle.std.specs.Prelude.{◌≡◌, ◌≢◌, ◌≤◌, ◌<◌, if◌then◌else◌, ◌⊎◌, cond, length, slice_index, ◌+◌, ◌*◌, ◌-◌, ℕ, Bool, true, false, eqb, List, [], ◌∷◌, ◌++◌, Some}
use Rattle.std.specs.Prelude.{None, is_some, MatchBool, bit_and, bit_or}
use Rattle.std.specs.Int.{bit_at}
use prog.Atomic.{either}
use mathlib.Core.Option.{some}
use lib.ListN.{get_elem?}
use Rattle.atomic_table.specs.Table.{Act as TableAct, Me, Joins, Valid, stepped, carried_after}
use Rattle.ipcz_base.specs.declared.profile.Profile.{Profile}
use Rattle.ipcz_base.specs.declared.end.End.{End}
use Rattle.ipcz_base.specs.declared.message.Message.{Message}
use Rattle.ipcz_base.specs.declared.parcel.Parcel as parcels
use Rattle.ipcz_base.specs.declared.side.Side.{Side}
use Rattle.ipcz_base.specs.Sides.{opposite}
use Rattle.ipcz_word.specs.Word.{Plan, Refuses, plan_of, open_word}
use Rattle.ipcz_word.specs.Layout.{bits_of, word_of_bits, stable_bit, waiting_bit, locked_bit}
use Rattle.ipcz_router.specs.Router.{Router, primary_word, source_of}
use Rattle.ipcz_router.specs.declared.act.RouterAct.{RouterAct}
use Rattle.ipcz_router.specs.declared.act.RouterAct.TheVariants as router_acts
use Rattle.ipcz_router.specs.declared.act.Answer.TheVariants as answers
use Rattle.ipcz_node.specs.declared.act.Act.{Act}
use Rattle.ipcz_node.specs.declared.act.Act.TheVariants as acts
use Rattle.ipcz_node.specs.Node.{router_in}
use Rattle.ipcz_node.specs.Acts.{first_of, has_mail_for, post_of, act_lacks_serials}
use Rattle.ipcz_node.specs.RoomyNodes.{IsPossibleAct}
use Rattle.ipcz_node.specs.Calls.{put_refusal, put_number, get_refusal, got_at, close_refusal, serials_refusal}
use Rattle.ipcz_node.specs.Hands.{message_lacks_serials}
use Rattle.ipcz_world.specs.WordAnswers.{word_after}
use Rattle.ipcz_rule.specs.declared.view.View.{View}
use Rattle.ipcz_rule.specs.declared.view.Part.{Part}
use Rattle.ipcz_rule.specs.declared.history.Call.{Call}
use Rattle.ipcz_rule.specs.declared.history.CallerView.{CallerView}
use Rattle.ipcz_rule.specs.Histories.{IsNoted, lent_caller}
use Rattle.ipcz_world.specs.HeldEnds.{IsEndHeld}
use Rattle.ipcz_world.specs.Ranks.{AreTurns}
use Rattle.ipcz_world.specs.World.{World}
use Rattle.ipcz_world.specs.Books.{Books}
use Rattle.ipcz_world.specs.Routes.{Routes}
use Rattle.ipcz_world.specs.Wordless.{is_wordless}
use Rattle.ipcz_world.specs.Steps.{put_of, opened_reply}
use Rattle.ipcz_world.specs.declared.step.Step.TheVariants.{Open, Get, Close}
use Rattle.ipcz_world.specs.declared.step.Reply.TheVariants as replies
use Rattle.ipcz_rule.specs.Deeds.{Deed, Does, Beside, AreDeeds, deed_where}
use Rattle.ipcz_rule.specs.Deeds as asides
use Rattle.ipcz_rule.specs.GivenUp.{GivesEnd}
use Rattle.ipcz_rule.specs.Rule.{Slot, St, Mine, Rules, has_number, with_part, saw, announcing, forgetting}
use Rattle.ipcz_rule.specs.Steps.{put_part, get_part, close_part, claimed_part, open_part, wet_part, act_part, acted_view, CanAct}
use Rattle.ipcz_rule.specs.Steps.{is_touch_act}
use Rattle.ipcz_rule.specs.Steps.{probe_part, unprobe_part, post_part, look_part, old_word, trusted, hand_part}

-- the rule after a step, and the turns that lead from the world that was shown to the one that is shown then
abbrev pub Follows : (count size : ℕ) (s : St) → Rules count size s → List (ℕ × Act) → St → Type 0
Follows count size s r turns s' = (r' : Rules count size s') × AreTurns r.world r.books r.routes turns r'.world r'.books r'.routes

-- what may be said of a step of a seat on a word: of the seat's number and what it has, of what the word becomes, of the turns that the
-- step is, and of what it leaves of the seat, by the number found
abbrev pub FormOf : Type 0 → Type 1
FormOf S = (count size slots id : ℕ) → Me S View → ℕ → (ℕ → ℕ) → (ℕ → List (ℕ × Act)) → (ℕ → Me S View → Type 0) → Type 0

-- the same of this table, in which a slot has a message at most
abbrev pub Form : Type 1
Form = FormOf Slot

-- that it keeps the rule and is these turns, whatever world the rule shows before
abbrev pub IsTurns : Form
IsTurns count size slots id me i f turns told =
    (s : St) (r : Rules count size s) → length s.homes ≡ slots → get_elem? s.views id ≡ some me.0 →
    slice_index s.words i < 18446744073709551616 →
    (v : View) × (a : TableAct Slot) × Valid s.homes me.1 a ×
    Follows count size s r (turns (slice_index s.words i)) (stepped s i (f (slice_index s.words i)) id me.1 v a) ×
    told (slice_index s.words i) (v, carried_after me.1 a)

-- an end that is held in the second world was held in the first, or its number wasn't claimed there; and if `all` do, each that was held in the
-- first is held in the second
abbrev pub KeepsEnds : (all : Bool) → World → World → Type 0
KeepsEnds all w v =
    ((i : ℕ) (s : Side) → IsEndHeld v i s → IsEndHeld w i s ⊎ (w.claimed ≤ i)) × (all ≡ true → (i : ℕ) (s : Side) → IsEndHeld w i s → IsEndHeld v i s)

-- that it keeps the rule, that ends which nobody held are held by nobody, and if `all` are kept that those which were held are
abbrev pub IsKept : (all : Bool) → Form
IsKept all count size slots id me i f turns told =
    (s : St) (r : Rules count size s) → length s.homes ≡ slots → get_elem? s.views id ≡ some me.0 →
    slice_index s.words i < 18446744073709551616 →
    (v : View) × (a : TableAct Slot) × Valid s.homes me.1 a ×
    ((r' : Rules count size (stepped s i (f (slice_index s.words i)) id me.1 v a)) × KeepsEnds all r.world r'.world) ×
    told (slice_index s.words i) (v, carried_after me.1 a)

-- the same of a step that a call takes, in place of the turns by the deeds of the shown world that it is
abbrev pub DeedFormOf : Type 0 → Type 1
DeedFormOf S = (count size slots id : ℕ) → Me S View → ℕ → (ℕ → ℕ) → (ℕ → List Deed) → (ℕ → Me S View → Type 0) → Type 0

abbrev pub DeedForm : Type 1
DeedForm = DeedFormOf Slot

-- deeds, by which the ends that are held are those that were, and those of numbers that weren't claimed
abbrev pub Done : World → Books → Routes → List Deed → World → Books → Routes → Type 0
Done w b g deeds v c h = AreDeeds w b g deeds v c h × KeepsEnds true w v

-- that it keeps the rule and is these deeds, whatever world the rule shows before
abbrev pub IsDeeds : DeedForm
IsDeeds count size slots id me i f deeds told =
    (s : St) (r : Rules count size s) → length s.homes ≡ slots → get_elem? s.views id ≡ some me.0 →
    slice_index s.words i < 18446744073709551616 →
    (v : View) × (a : TableAct Slot) × Valid s.homes me.1 a ×
    ((r' : Rules count size (stepped s i (f (slice_index s.words i)) id me.1 v a)) ×
    Done r.world r.books r.routes (deeds (slice_index s.words i)) r'.world r'.books r'.routes) ×
    told (slice_index s.words i) (v, carried_after me.1 a)

-- one act of a node if a test holds, else nothing
abbrev pub turn_where : Bool → ℕ → Act → List (ℕ × Act)
turn_where hit n act = cond hit ((n, act) ∷ []) []

-- a load of any word
abbrev pub Loads : {S : Type 0} → FormOf S → Type 0
Loads {S} F = (count size slots id i : ℕ) (m : Me S View) (p : Part) → m.0.parts ≡ p ∷ [] →
    F count size slots id m i (λ n. n) (λ n. []) (λ n m'. m' ≡ (saw i n m.0, m.1))

-- touch, of a put of whichever profile: it is answered how many were put there before
abbrev pub Puts : {S : Type 0} → DeedFormOf S → Type 0
Puts {S} F = (profile : Profile) (count size slots id i : ℕ) (m : Me S View) (p : Part) (at : End) (bytes : List ℕ) (ends : List End) → m.0.parts ≡ p ∷ [] →
    put_refusal profile p.state at bytes ends ≡ None →
    F count size slots id m i (λ n. n) (λ n. Does (put_of profile p.node at bytes ends) (replies.Put (put_number p.state at)) ∷ [])
    (λ n m'. m' ≡ (with_part (put_part at bytes ends p) m.0, m.1))

-- touch, of a get that gives this parcel
abbrev pub Gets : {S : Type 0} → DeedFormOf S → Type 0
Gets {S} F = (count size slots id i : ℕ) (m : Me S View) (p : Part) (at : End) (number : ℕ) (q : parcels.Parcel) → m.0.parts ≡ p ∷ [] →
    get_refusal p.state at ≡ None → got_at p.state at ≡ Some (number, q) →
    F count size slots id m i (λ n. n) (λ n. Does (Get p.node at) (replies.Got number q) ∷ [])
    (λ n m'. m' ≡ (with_part (get_part at number q p) m.0, m.1))

-- touch, of a close: it is answered how many were put there
abbrev pub Closes : {S : Type 0} → DeedFormOf S → Type 0
Closes {S} F = (count size slots id i : ℕ) (m : Me S View) (p : Part) (at : End) → m.0.parts ≡ p ∷ [] → close_refusal p.state at ≡ None →
    F count size slots id m i (λ n. n) (λ n. Does (Close p.node at) (replies.Closed (put_number p.state at)) ∷ [])
    (λ n m'. m' ≡ (with_part (close_part at p) m.0, m.1))

-- touch, of a close that is pending
abbrev pub PendingCloses : {S : Type 0} → FormOf S → Type 0
PendingCloses {S} F = (count size slots id i : ℕ) (m : Me S View) (p : Part) (e : End) → m.0.parts ≡ p ∷ [] → first_of p.state.pending ≡ Some e →
    F count size slots id m i (λ n. n) (λ n. (p.node, acts.Close e) ∷ [])
    (λ n m'. m' ≡ (with_part (act_part (acts.Close e) answers.Plain p) m.0, m.1))

-- touch, of an act of a router: send, discard, finish, leave, begin, retire, rest
abbrev pub Touches : {S : Type 0} → FormOf S → Type 0
Touches {S} F = (count size slots id i : ℕ) (m : Me S View) (p : Part) (serial : ℕ) (r : Router) (act : RouterAct) → m.0.parts ≡ p ∷ [] →
    CanAct p.state serial r act → is_wordless act ≡ true →
    F count size slots id m i (λ n. n) (λ n. (p.node, acts.Router serial act) ∷ []) (λ n m'. m' ≡
    (with_part (act_part (acts.Router serial act) answers.Plain p) m.0, m.1))

-- the same, where it keeps all ends if the act gives none up
abbrev pub TouchesKept : Type 0
TouchesKept = (all : Bool) (count size slots id i : ℕ) (m : Mine) (p : Part) (serial : ℕ) (r : Router) (act : RouterAct) → m.0.parts ≡ p ∷ [] →
    CanAct p.state serial r act → is_wordless act ≡ true → (all ≡ true → GivesEnd p.state (acts.Router serial act) None) →
    IsKept all count size slots id m i (λ n. n) (λ n. (p.node, acts.Router serial act) ∷ [])
    (λ n m'. m' ≡ (with_part (act_part (acts.Router serial act) answers.Plain p) m.0, m.1))

-- touch, of any of these acts
abbrev pub TouchActs : {S : Type 0} → FormOf S → Type 0
TouchActs {S} F = (count size slots id i : ℕ) (m : Me S View) (p : Part) (act : Act) → m.0.parts ≡ p ∷ [] → is_touch_act act ≡ true →
    IsPossibleAct p.state act → act_lacks_serials p.state act ≡ false →
    F count size slots id m i (λ n. n) (λ n. (p.node, act) ∷ []) (λ n m'. m' ≡ (with_part (act_part act answers.Plain p) m.0, m.1))

-- what an act of a router leaves of the seat if the test holds of the number found; else the step was a load
abbrev pub Acted : {S : Type 0} → ℕ → ℕ → Router → RouterAct → (ℕ → Bool) → Me S View → Part → ℕ → Me S View → Type 0
Acted i serial r act hit m p n m' = MatchBool (hit n) (m' ≡ (acted_view i n serial r.end.side (source_of r) act p m.0, m.1))
    (m' ≡ (saw i n m.0, m.1))

-- mark
abbrev pub Marks : {S : Type 0} → FormOf S → Type 0
Marks {S} F = (count size slots id i : ℕ) (m : Me S View) (p : Part) (serial : ℕ) (r : Router) → m.0.parts ≡ p ∷ [] →
    CanAct p.state serial r router_acts.Mark → primary_word r ≡ Some i →
    F count size slots id m i (λ n. bit_or n (stable_bit r.end.side)) (λ n. (p.node, acts.Router serial router_acts.Mark) ∷ [])
    (λ n m'. m' ≡ (acted_view i n serial r.end.side (source_of r) router_acts.Mark p m.0, m.1))

-- wake
abbrev pub Wakes : {S : Type 0} → FormOf S → Type 0
Wakes {S} F = (count size slots id i : ℕ) (m : Me S View) (p : Part) (serial : ℕ) (r : Router) → m.0.parts ≡ p ∷ [] →
    CanAct p.state serial r router_acts.Wake → primary_word r ≡ Some i →
    F count size slots id m i (λ n. bit_and n (18446744073709551615 - waiting_bit (opposite r.end.side)))
    (λ n. (p.node, acts.Router serial router_acts.Wake) ∷ [])
    (λ n m'. m' ≡ (acted_view i n serial r.end.side (source_of r) router_acts.Wake p m.0, m.1))

-- unlock: the mask clears bits 8 to 15 too, where the source stands
abbrev pub Unlocks : {S : Type 0} → FormOf S → Type 0
Unlocks {S} F = (count size slots id i : ℕ) (m : Me S View) (p : Part) (serial : ℕ) (r : Router) → m.0.parts ≡ p ∷ [] →
    CanAct p.state serial r router_acts.Unlock → primary_word r ≡ Some i →
    F count size slots id m i (λ n. bit_and n (18446744073709486335 - locked_bit r.end.side))
    (λ n. (p.node, acts.Router serial router_acts.Unlock) ∷ [])
    (λ n m'. m' ≡ (acted_view i n serial r.end.side (source_of r) router_acts.Unlock p m.0, m.1))

-- lock or wait: the word is exchanged for that after the plan, if it is what was found before
abbrev pub TriesLock : {S : Type 0} → FormOf S → Type 0
TriesLock {S} F = (count size slots id i old : ℕ) (m : Me S View) (p : Part) (serial : ℕ) (r : Router) → m.0.parts ≡ p ∷ [] →
    CanAct p.state serial r router_acts.Lock → primary_word r ≡ Some i →
    F count size slots id m i (λ n. either (eqb n old)
    (bits_of (word_after (word_of_bits old) r.end.side (source_of r) router_acts.Lock)) n)
    (λ n. turn_where (eqb n old) p.node (acts.Router serial router_acts.Lock))
    (Acted i serial r router_acts.Lock (λ n. eqb n old) m p)

-- whether a plan is that the lock is refused
abbrev pub is_refusal : Plan → Bool
is_refusal Refuses = true
is_refusal other = false

-- a load of a link's word by a router that wants its lock: if the plan is Refused, it is the lock's refusal
abbrev pub LoadsForLock : {S : Type 0} → FormOf S → Type 0
LoadsForLock {S} F = (count size slots id i : ℕ) (m : Me S View) (p : Part) (serial : ℕ) (r : Router) → m.0.parts ≡ p ∷ [] →
    CanAct p.state serial r router_acts.Lock → primary_word r ≡ Some i →
    F count size slots id m i (λ n. n)
    (λ n. turn_where (is_refusal (plan_of (word_of_bits n) r.end.side)) p.node (acts.Router serial router_acts.Lock))
    (Acted i serial r router_acts.Lock (λ n. is_refusal (plan_of (word_of_bits n) r.end.side)) m p)

-- a load of the claim count by a proxy that wants a word: if it finds that each was claimed, it is the claim's NoWord
abbrev pub LoadsForClaim : {S : Type 0} → FormOf S → Type 0
LoadsForClaim {S} F = (count size slots id : ℕ) (m : Me S View) (p : Part) (serial : ℕ) (r : Router) → m.0.parts ≡ p ∷ [] →
    CanAct p.state serial r router_acts.Claim →
    F count size slots id m size (λ n. n) (λ n. turn_where (eqb n size) p.node (acts.Router serial router_acts.Claim))
    (λ n m'. MatchBool (eqb n size)
    (m' ≡ (with_part (act_part (acts.Router serial router_acts.Claim) answers.NoWord p) (saw size n m.0), m.1))
    (m' ≡ (saw size n m.0, m.1)))

-- touch, of a claim of a proxy that is told that no word is left, whether or not numbers are left
abbrev pub Dries : {S : Type 0} → DeedFormOf S → Type 0
Dries {S} F = (count size slots id i : ℕ) (m : Me S View) (p : Part) (serial : ℕ) (r : Router) → m.0.parts ≡ p ∷ [] →
    CanAct p.state serial r router_acts.Claim →
    F count size slots id m i (λ n. n) (λ n. Beside (asides.Dries p.node serial) ∷ []) (λ n m'. m' ≡
    (with_part (act_part (acts.Router serial router_acts.Claim) answers.NoWord p) m.0, m.1))

-- touch, of a router: it may claim again
abbrev pub Wets : {S : Type 0} → DeedFormOf S → Type 0
Wets {S} F = (count size slots id i : ℕ) (m : Me S View) (p : Part) (serial : ℕ) → m.0.parts ≡ p ∷ [] → is_some (router_in p.state serial) ≡ true →
    F count size slots id m i (λ n. n) (λ n. Beside (asides.Wets p.node serial) ∷ []) (λ n m'. m' ≡ (with_part (wet_part serial p) m.0, m.1))

-- claim: the count is exchanged for the next, if it is what was found before
abbrev pub Claims : {S : Type 0} → FormOf S → Type 0
Claims {S} F = (count size slots id c : ℕ) (m : Me S View) (p : Part) (serial : ℕ) (r : Router) → m.0.parts ≡ p ∷ [] →
    CanAct p.state serial r router_acts.Claim → c < size →
    F count size slots id m size (λ n. either (eqb n c) (c + 1) n) (λ n. turn_where (eqb n c) p.node (acts.Router serial router_acts.Claim))
    (λ n m'. MatchBool (eqb n c)
    (m' ≡ (with_part (act_part (acts.Router serial router_acts.Claim) (answers.Claimed c) p) (saw size n m.0), m.1))
    (m' ≡ (saw size n m.0, m.1)))

-- the first half of an open, which is no call yet: a claim for it
abbrev pub ClaimsForOpen : {S : Type 0} → DeedFormOf S → Type 0
ClaimsForOpen {S} F = (count size slots id c : ℕ) (m : Me S View) (p : Part) → m.0.parts ≡ p ∷ [] → p.state.opening ≡ None → c < size →
    F count size slots id m size (λ n. either (eqb n c) (c + 1) n) (λ n. deed_where (eqb n c) (Beside (asides.ClaimsWord p.node)))
    (λ n m'. MatchBool (eqb n c) (m' ≡ (with_part (claimed_part c p) (saw size n m.0), m.1)) (m' ≡ (saw size n m.0, m.1)))

-- open: the word that was claimed for it goes from 0 to that of an open pair; it is 0 as long as the open is under way. It is answered the ends of
-- the word's pair
abbrev pub Opens : {S : Type 0} → DeedFormOf S → Type 0
Opens {S} F = (count size slots id i : ℕ) (m : Me S View) (p : Part) → m.0.parts ≡ p ∷ [] → p.state.opening ≡ Some i → serials_refusal p.state ≡ None →
    F count size slots id m i (λ n. either (eqb n 0) (bits_of open_word) n) (λ n. Does (Open p.node) (opened_reply i) ∷ [])
    (λ n m'. (n ≡ 0) × (m' ≡ (with_part (open_part i p) (saw i n m.0), m.1)))

-- probe: the slot of an empty mailbox is taken, and its word is 3
abbrev pub Probes : Form → Type 0
Probes F = (count size slots id i k to : ℕ) (m : Mine) (p : Part) → m.0.parts ≡ p ∷ [] → k ≡ p.node * count + to →
    i ≡ size + 1 + count + k → to < count →
    F count size slots id m i (λ n. either (eqb n 0) 3 n) (λ n. [])
    (λ n m'. MatchBool (eqb n 0) (m' ≡ (with_part (probe_part to p) (saw i n m.0), (k, None) ∷ m.1)) (m' ≡ (saw i n m.0, m.1)))

-- a probed mailbox is given back
abbrev pub Unprobes : Form → Type 0
Unprobes F = (count size slots id i k to : ℕ) (m : Mine) (p : Part) (rest : List (ℕ × Slot)) → m.0.parts ≡ p ∷ [] →
    k ≡ p.node * count + to → i ≡ size + 1 + count + k → to < count →
    has_number p.probed to ≡ true → m.1 ≡ (k, None) ∷ rest →
    F count size slots id m i (λ n. 0) (λ n. []) (λ n m'. m' ≡ (with_part (unprobe_part to p) m.0, rest))

-- a message is announced to a node: the sender's bit is set in its inbox
abbrev pub Announces : {S : Type 0} → FormOf S → Type 0
Announces {S} F = (count size slots id i to bits : ℕ) (m : Me S View) (p : Part) → m.0.parts ≡ p ∷ [] → i ≡ size + 1 + to → to < count → bit_at bits p.node ≡ 1 →
    F count size slots id m i (λ n. bit_or n bits) (λ n. []) (λ n m'. m' ≡ (announcing to m.0, m.1))

-- a load of an inbox before a post: if the sender's bit is set there, the message is announced
abbrev pub LoadsForPost : {S : Type 0} → FormOf S → Type 0
LoadsForPost {S} F = (count size slots id i to : ℕ) (m : Me S View) (p : Part) → m.0.parts ≡ p ∷ [] → i ≡ size + 1 + to → to < count →
    F count size slots id m i (λ n. n) (λ n. []) (λ n m'. m' ≡ (if eqb (bit_at n p.node) 1 then announcing to m.0 else forgetting m.0, m.1))

-- a sender's bit is cleared in the own inbox, while its message is in hand: all other bits are kept
abbrev pub Clears : Form → Type 0
Clears F = (count size slots id i from kept : ℕ) (m : Mine) (p : Part) → m.0.parts ≡ p ∷ [] → i ≡ size + 1 + p.node → p.state.hand ≡ Some from →
    ((j : ℕ) → j < 64 → j ≢ from → bit_at kept j ≡ 1) →
    F count size slots id m i (λ n. bit_and n kept) (λ n. []) (λ n m'. m' ≡ (forgetting m.0, m.1))

-- post: the message leaves the outbox, and the slot goes home with it; it was announced by the step before
abbrev pub Posts : Form → Type 0
Posts F = (count size slots id i k to : ℕ) (m : Mine) (p : Part) (x : Message) (rest : List (ℕ × Slot)) → m.0.parts ≡ p ∷ [] →
    k ≡ p.node * count + to → i ≡ size + 1 + count + k → to < count →
    has_number p.probed to ≡ true → m.0.announced ≡ Some to → has_mail_for p.state to ≡ true → post_of p.state (acts.Post to) ≡ Some x → m.1 ≡ (k, Some x) ∷ rest →
    F count size slots id m i (λ n. 1) (λ n. (p.node, acts.Post to) ∷ []) (λ n m'. m' ≡ (with_part (post_part to p) m.0, rest))

-- look: if the mailbox is full, its message is taken into the hand
abbrev pub Looks : Form → Type 0
Looks F = (count size slots id i k from : ℕ) (m : Mine) (p : Part) → m.0.parts ≡ p ∷ [] → k ≡ from * count + p.node →
    i ≡ size + 1 + count + k → from < count → p.state.hand ≡ None →
    F count size slots id m i (λ n. either (eqb n 1) 2 n) (λ n. turn_where (eqb n 1) p.node (acts.Look from))
    (λ n m'. MatchBool (eqb n 1) ((x : Message) × (m' ≡ (with_part (look_part from x p) (saw i n m.0), (k, Some x) ∷ m.1)))
    (m' ≡ (saw i n m.0, m.1)))

-- handle: the message in hand is handled, and its slot goes home empty
abbrev pub Hands : Form → Type 0
Hands F = (count size slots id i k from : ℕ) (m : Mine) (p : Part) (x : Message) (rest : List (ℕ × Slot)) → m.0.parts ≡ p ∷ [] →
    k ≡ from * count + p.node → i ≡ size + 1 + count + k →
    p.state.hand ≡ Some from → p.message ≡ Some x → message_lacks_serials p.state from x (trusted from x) ≡ false → m.1 ≡ (k, None) ∷ rest →
    F count size slots id m i (λ n. 0) (λ n. (p.node, acts.Hand from) ∷ [])
    (λ n m'. m' ≡ (with_part (hand_part from (trusted from x) x p) m.0, rest))

-- a load of the old link's word before an AcceptBypass in hand is handled: it names the sender
abbrev pub LoadsForHand : {S : Type 0} → FormOf S → Type 0
LoadsForHand {S} F = (count size slots id from old : ℕ) (m : Me S View) (p : Part) (x : Message) → m.0.parts ≡ p ∷ [] → p.state.hand ≡ Some from →
    p.message ≡ Some x → old_word x ≡ Some old →
    F count size slots id m old (λ n. n) (λ n. []) (λ n m'. ((word_of_bits n).source ≡ Some from) × (m' ≡ (saw old n m.0, m.1)))

-- the slot of the message in hand is given back, while the message stays in hand: a load
abbrev pub GivesBack : Form → Type 0
GivesBack F = (count size slots id i k from : ℕ) (m : Mine) (p : Part) (s : Slot) (rest : List (ℕ × Slot)) → m.0.parts ≡ p ∷ [] →
    k ≡ from * count + p.node → i ≡ size + 1 + count + k →
    p.state.hand ≡ Some from → m.1 ≡ (k, s) ∷ rest →
    F count size slots id m i (λ n. n) (λ n. []) (λ n m'. m' ≡ (saw i n m.0, rest))

-- a view that has the parts of two
abbrev pub together : View → View → View
together v w = record { parts = v.parts ++ w.parts; seen = v.seen; announced = None; caller = lent_caller v.caller w.caller }

-- a view that says nothing
abbrev pub spent : View
spent = record { parts = []; seen = []; announced = None; caller = None }

-- join: a seat takes in the parts of another, and its caller
abbrev pub JoinsParts : Type 0
JoinsParts = (count size id : ℕ) (v : View) (other : ℕ) (w : View) → Joins (Rules count size) id v other w (together v w) spent

-- a load by which a call is written into the history of the seat's node, of a caller that has lent its view
abbrev pub Notes : {S : Type 0} → FormOf S → Type 0
Notes {S} F = (count size slots id i : ℕ) (m : Me S View) (p : Part) (c : CallerView) (call : Call) → m.0.parts ≡ p ∷ [] → m.0.caller ≡ Some c →
    F count size slots id m i (λ n. n) (λ n. []) (λ n m'. IsNoted m.0 p c call m'.0 × (m'.1 ≡ m.1))
