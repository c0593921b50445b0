-- A turn from its parts: the choice of an act, and the act.
use Rattle.std.specs.Prelude.{◌≡◌, ◌≢◌, ◌<◌, ◌||◌, not, ℕ, Bool, true, false, if◌then◌else◌, List, [], ◌∷◌, ◌++◌, Option, Some, None, Result, Ok, Err, IfSome, MatchBool, MatchResult}
use Rattle.std.proofs.Common.{ap, sym, subst, ◌∙◌, refl, inl, inr, arith, append_assoc, append-nil}
use Rattle.ipcz_base.specs.declared.message.Message.{Message}
use Rattle.ipcz_base.specs.declared.message.Message.TheVariants as messages
use Rattle.ipcz_base.specs.declared.refusal.Refusal.{Refusal}
use Rattle.ipcz_base.specs.declared.refusal.Refusal.TheVariants as refusals
use Rattle.ipcz_router.specs.Router.{Router}
use Rattle.ipcz_router.specs.declared.act.Answer.{Answer}
use Rattle.ipcz_router.specs.declared.act.Answer.TheVariants as answers
use Rattle.ipcz_router.specs.declared.act.RouterAct.TheVariants as router_acts
use Rattle.ipcz_node.specs.declared.act.Act.{Act}
use Rattle.ipcz_node.specs.declared.act.Act.TheVariants as acts
use Rattle.ipcz_node.specs.declared.happened.Happened.{Happened}
use Rattle.ipcz_node.specs.declared.happened.Happened.TheVariants as events
use Rattle.ipcz_node.specs.Node.{Node, router_in}
use Rattle.ipcz_node.specs.Acts.{commit, stand_in}
use Rattle.ipcz_node.specs.RoomyNodes.{IsPossibleAct, IsReadyFor, NodeRoom, RoomyNode}
use Rattle.ipcz_node.specs.Events.{event_of, event_at, router_event, word_event, link_of}
use Rattle.ipcz_node.specs.Hands.{fits, grows_where_it_fits, message_grows, message_lacks_serials}
use Rattle.ipcz_node.specs.Telling.{HasRoomFor}
use Rattle.ipcz_rule.specs.declared.view.Part.{Part}
use Rattle.ipcz_cell.specs.TableNames.{TableName}
use Rattle.ipcz_cell.specs.CellStates.{CellState, roomy}
use Rattle.ipcz_rule.specs.Steps.{old_word}
use Rattle.ipcz_cell.specs.Claims.{FindsNone, Answered, Got as Claimed, Dry as WasDry, Slotless as HadNoSlot, Lost as WasLost}
use Rattle.ipcz_cell.specs.Mails.{mail_word, old_named, OldLoaded, source_found, Handles}
use Rattle.ipcz_world.specs.RoomyWorlds.{HasRoomToHandle}
use Rattle.ipcz_cell.specs.Turns.{IsFirst, IsLast, Chooses, IsInside}
use Rattle.ipcz_rule.specs.Races.{IsWaitedFor}
use Rattle.ipcz_cell.specs.TurnEnds.{hand_grows, IsDone, IsTaken, IsLost, IsRefused, NoSerials, NoMemory, LostIt, hand_lacks_serials, HasRoom, LooksFor, Acts, EndsRaced, IsLostTurn, Turns, Got, Dry, NoSlot}
use Rattle.ipcz_cell.proofs.TurnWords.{seen_two}
use Rattle.ipcz_cell.proofs.TurnActs.{acts_whole}

abbrev Seen : Type 0
Seen = List (ℕ × ℕ)

-- what was loaded for the message in hand
pub hand_loaded : (size : ℕ) (o : Option Message) (x : Message) (found : Seen) → o ≡ Some x → OldLoaded size (old_word x) found → OldLoaded size (old_named o) found
hand_loaded size o x found e h = subst (λ (q : Option Message). OldLoaded size (old_named q) found) (sym e) h

-- for a message that makes nothing grow there is room
fits_small : (k : RoomyNode) (x : Message) → grows_where_it_fits x ≡ false → HasRoomFor k x
unfolding grows_where_it_fits HasRoomFor
fits_small k (messages.Item link side number item moves) e = cc
fits_small k (messages.BypassPeer link side old target fresh) e = cc
fits_small k (messages.AcceptBypass old side fresh length) e = cc
fits_small k (messages.StopProxying side old in_length out_length) e = cc
fits_small k other e = tt

stays_small : (k : RoomyNode) (from : ℕ) (x : Message) (source : Option ℕ) → message_grows k.node from x source ≡ false → HasRoomToHandle k from x source
stays_small k sender x source e = go (fits k.node sender x source) e
  where
    go : (b : Bool) → (not b || grows_where_it_fits x) ≡ false → MatchBool b (HasRoomFor k x) (0 < k.room.strays)
    go true e = fits_small k x e
    go false e = cc

-- the message in hand is handled
pub hand_takes : (t : TableName) (from : ℕ) (old new : CellState) (r : Result Happened Refusal) → Handles t.size from old r new → Acts t (acts.Hand from) old r new
unfolding stand_in
hand_takes t sender old new (Ok event) h = acts_whole t (acts.Hand sender) old new event h.found h.seen tt (record {
  answer = answers.Plain;
  answered = (refl, hand_loaded t.size old.part.message h.message h.found h.in_hand h.loaded);
  part = (h.message, h.in_hand, h.outcome.1);
  event_is = (h.message, h.in_hand, h.outcome.0);
})
hand_takes t sender old new (Err why) h = record {
  found = h.found;
  seen = h.seen;
  looks = tt;
  outcome = (h.outcome.1, go (message_lacks_serials old.part.state sender h.message (source_found h.found)) refl);
  full = λ room. h.full (subst (λ (o : Option Message). IfSome o (λ x. HasRoomToHandle (roomy old) sender x (source_found h.found))) h.in_hand room);
}
  where
    lacks : (b : Bool) → message_lacks_serials old.part.state sender h.message (source_found h.found) ≡ b → hand_lacks_serials old.part.state sender (source_found h.found) old.part.message ≡ b
    lacks b f = ap (hand_lacks_serials old.part.state sender (source_found h.found)) h.in_hand ∙ f

    why_is : (b : Bool) → message_lacks_serials old.part.state sender h.message (source_found h.found) ≡ b → why ≡ (if b then refusals.NumbersEnd else refusals.OutOfMemory)
    why_is b f = h.outcome.0 ∙ ap (λ (b : Bool). if b then refusals.NumbersEnd else refusals.OutOfMemory) f

    loaded : OldLoaded t.size (old_named old.part.message) h.found
    loaded = hand_loaded t.size old.part.message h.message h.found h.in_hand h.loaded

    go : (b : Bool) → message_lacks_serials old.part.state sender h.message (source_found h.found) ≡ b → IsRefused t.size old.part (acts.Hand sender) (IsLost t old.part (acts.Hand sender) h.found) why h.found
    go true f = NoSerials (why_is true f) (lacks true f) loaded
    go false f = NoMemory (why_is false f) (lacks false f) (ap (hand_grows old.part.state sender (source_found h.found)) h.in_hand ∙ grows (message_grows old.part.state sender h.message (source_found h.found)) refl) refl loaded
      where
        grows : (b : Bool) → message_grows old.part.state sender h.message (source_found h.found) ≡ b → b ≡ true
        grows true e = refl
        grows false e = absurd (h.full (stays_small (roomy old) sender h.message (source_found h.found) e) (why_is false f))

-- nothing is done
pub idle_acts : (t : TableName) (old : CellState) → Acts t acts.Idle old (Ok events.Idle) old
unfolding event_of commit
idle_acts t old = acts_whole t acts.Idle old old events.Idle [] (sym (append-nil old.seen)) tt (record { answer = answers.Plain; answered = (refl, refl); part = refl; event_is = refl })

-- what a claim is seen to be
claim_event : (n : Node) (serial : ℕ) (answer : Answer) (event : Happened) → IsPossibleAct n (acts.Router serial router_acts.Claim) → ((r : Router) → event ≡ word_event serial (link_of r.outward.primary) answer) → event ≡ event_of n (acts.Router serial router_acts.Claim) answer
unfolding event_of event_at router_event
claim_event n serial answer event may is = go (router_in n serial) refl may
  where
    go : (o : Option Router) → router_in n serial ≡ o → Rattle.std.specs.Prelude.IsSomeAnd o (λ r. Rattle.ipcz_router.specs.ActTable.may_take r router_acts.Claim ≡ true) → event ≡ event_at n serial (router_in n serial) router_acts.Claim answer
    go None e h = absurd h
    go (Some r) e h = is r ∙ sym (ap (λ (o : Option Router). event_at n serial o router_acts.Claim answer) e)

-- the first number that was found
abbrev first_count : Seen → ℕ
first_count [] = 0
first_count (s ∷ rest) = s.1

abbrev number_in : ℕ → Result ℕ Refusal → ℕ
number_in d (Ok n) = n
number_in d (Err why) = d

abbrev refusal_in : Refusal → Result ℕ Refusal → Refusal
refusal_in d (Ok n) = d
refusal_in d (Err why) = why

pub claim_acts : (t : TableName) (serial word : ℕ) (old new : CellState) → IsPossibleAct old.part.state (acts.Router serial router_acts.Claim) → Answered t serial old new (Ok word) →
    Acts t (acts.Router serial router_acts.Claim) old (Ok (events.Claim serial word)) new
unfolding word_event
claim_acts t serial word old new may (Claimed c n e number reached part seen) =
    let same : word ≡ n = ap (number_in 0) e in
    acts_whole t (acts.Router serial router_acts.Claim) old new (events.Claim serial word) ((t.size, c) ∷ (t.size, n) ∷ []) (seen ∙ seen_two old.seen (t.size, c) (t.size, n)) (λ k e low. cc) (record {
      answer = answers.Claimed n;
      answered = Got c n number refl refl;
      part = part;
      event_is = claim_event old.part.state serial (answers.Claimed n) (events.Claim serial word) may (λ r. ap (events.Claim serial) same);
    })
claim_acts t serial word old new may (WasDry e part seen) = cc
claim_acts t serial word old new may (HadNoSlot c e again less part seen none) = cc
claim_acts t serial word old new may (WasLost n found e other part seen) = cc

pub claim_dries : (t : TableName) (serial : ℕ) (old new : CellState) (why : Refusal) → why ≡ refusals.NoWord → IsPossibleAct old.part.state (acts.Router serial router_acts.Claim) → Answered t serial old new (Err why) →
    Acts t (acts.Router serial router_acts.Claim) old (Ok (events.ClaimNoWord serial)) new
unfolding word_event
claim_dries t serial old new why dry may (Claimed c n e number reached part seen) = cc
claim_dries t serial old new why dry may (WasDry e part seen) =
    acts_whole t (acts.Router serial router_acts.Claim) old new (events.ClaimNoWord serial) ((t.size, t.size) ∷ []) seen (λ k e low. absurd (let same : t.size ≡ k = ap first_count e in omega (arith, same, low))) (record {
      answer = answers.NoWord;
      answered = Dry refl refl;
      part = part;
      event_is = claim_event old.part.state serial answers.NoWord (events.ClaimNoWord serial) may (λ r. refl);
    })
claim_dries t serial old new why dry may (HadNoSlot c e again less part seen none) =
    acts_whole t (acts.Router serial router_acts.Claim) old new (events.ClaimNoWord serial) ((t.size, c) ∷ []) seen (λ k e low. subst (λ (m : ℕ). FindsNone t m old.looked new.looked) (ap first_count e) none) (record {
      answer = answers.NoWord;
      answered = NoSlot c less again refl refl;
      part = part;
      event_is = claim_event old.part.state serial answers.NoWord (events.ClaimNoWord serial) may (λ r. refl);
    })
claim_dries t serial old new why dry may (WasLost n found e other part seen) = absurd (let bad : refusals.NoWord ≡ refusals.Raced = sym dry ∙ ap (refusal_in why) e in cc)

-- an act that was lost to another thread ends with a load and an exchange of one word
ends_with : (t : TableName) (p : Part) (loads found before : Seen) (word n m : ℕ) → IsWaitedFor t.count t.size p word n → m ≢ n → loads ≡ before ++ (word, n) ∷ [] →
    found ≡ (word, m) ∷ [] → EndsRaced t p (loads ++ found)
ends_with t p loads found before word n m waits other last is = record {
  before = before;
  word = word;
  loaded = n;
  exchanged = m;
  differ = other;
  of = inr waits;
  last = (λ j. last j ++ is j) ∙ append_assoc before ((word, n) ∷ []) ((word, m) ∷ []);
}

lost_ends : (t : TableName) (p : Part) (loads found : Seen) (act : Act) → IsFirst t p loads act → IsLost t p act found → EndsRaced t p (loads ++ found)
lost_ends t p loads found (acts.Look sender) first lost =
    let full = subst (λ (b : Bool). MatchBool b (Unit {0}) (IsLast loads (mail_word t sender p.node) 1)) lost.2 first.full in
    ends_with t p loads found full.before (mail_word t sender p.node) 1 lost.0 (inl (sender, first.inside, refl, refl)) lost.1 full.last lost.3
lost_ends t p loads found (acts.Post to) first lost = let load = first.can.free lost.2 in ends_with t p loads found load.before (mail_word t p.node to) 0 lost.0 (inr (to, first.inside, refl, refl)) lost.1 load.last lost.3
lost_ends t p loads found (acts.Router serial router_acts.Lock) first lost = record { before = loads; word = lost.0; loaded = lost.1; exchanged = lost.2; differ = lost.6; of = inl (let l = lost.5 in omega (arith, l)); last = ap (λ (l : Seen). loads ++ l) lost.7 }
lost_ends t p loads found (acts.Router serial router_acts.Claim) first lost = record { before = loads; word = t.size; loaded = lost.0; exchanged = lost.1; differ = lost.2; of = inl (omega arith); last = ap (λ (l : Seen). loads ++ l) lost.3 }
lost_ends t p loads found other first lost = absurd lost

refused_by : (size : ℕ) (p : Part) (act : Act) (L M : Type 0) (why : Refusal) (seen : Seen) → (L → M) → IsRefused size p act L why seen → IsRefused size p act M why seen
refused_by size p act L M why seen f (NoSerials a b c) = NoSerials a b c
refused_by size p act L M why seen f (NoMemory a b c d e) = NoMemory a b c d e
refused_by size p act L M why seen f (LostIt a l) = LostIt a (f l)

-- an act that was chosen may be taken
pub chosen : (t : TableName) (act : Act) (old mid : CellState) → Chooses t old act mid → IsPossibleAct old.part.state act → IsInside t act × IsPossibleAct mid.part.state act
chosen t act old mid c may = (go act c.first, subst (λ (p : Part). IsPossibleAct p.state act) (sym c.looked.part) may)
  where
    go : (act : Act) → IsFirst t old.part c.found act → IsInside t act
    go (acts.Look sender) h = h.inside
    go (acts.Post to) h = h.inside
    go other h = tt

-- the room for an act is the cell's, whatever it has seen
same_room : (act : Act) (seen : Seen) (c d : CellState) → c.part ≡ d.part → c.room ≡ d.room → HasRoom c act seen → HasRoom d act seen
same_room (acts.Hand sender) seen c d part room h =
    subst (λ (k : Part × NodeRoom). IfSome k.0.message (λ x. HasRoomToHandle (record { node = k.0.state; room = k.1 }) sender x (source_found seen))) (λ j. (part j, room j)) h
same_room other seen c d part room h = subst (λ (k : Part × NodeRoom). IsReadyFor (record { node = k.0.state; room = k.1 }) other) (λ j. (part j, room j)) h

-- a turn
pub turn_done : (t : TableName) (act : Act) (old mid new : CellState) (answer : Result Happened Refusal) → Chooses t old act mid → Acts t act mid answer new → Turns t old answer new
turn_done t act old mid new answer c h = record {
  act = act;
  loads = c.found;
  found = h.found;
  first = c.first;
  seen = h.seen ∙ (ap (λ (l : Seen). l ++ h.found) c.looked.seen ∙ append_assoc old.seen c.found h.found);
  looks = subst (λ (l : List ℕ). LooksFor t act h.found l new.looked) c.looked.looked h.looks;
  outcome = go answer (subst (λ (p : Part). MatchResult answer (λ event. IsTaken t p act event new.part h.found) (λ why. (new.part ≡ p) × IsRefused t.size p act (IsLost t p act h.found) why h.found)) c.looked.part h.outcome);
  full = λ room. subst (λ (p : Part). MatchResult answer (λ event. IsDone t p act event new.part h.found) (λ why. why ≢ refusals.OutOfMemory)) c.looked.part
      (h.full (same_room act h.found old mid (sym c.looked.part) (sym c.looked.room) room));
}
  where
    go : (r : Result Happened Refusal) → MatchResult r (λ event. IsTaken t old.part act event new.part h.found) (λ why. (new.part ≡ old.part) × IsRefused t.size old.part act (IsLost t old.part act h.found) why h.found) →
        MatchResult r (λ event. IsTaken t old.part act event new.part h.found) (λ why. (new.part ≡ old.part) × IsRefused t.size old.part act (IsLostTurn t old.part act c.found h.found) why h.found)
    go (Ok event) d = d
    go (Err why) d = (
      d.0,
      refused_by t.size old.part act (IsLost t old.part act h.found) (IsLostTurn t old.part act c.found h.found) why h.found
          (λ l. record { lost = l; ends = lost_ends t old.part c.found h.found act c.first l }) d.1,
    )

-- its act
pub turn_act : (t : TableName) (act : Act) (old mid new : CellState) (answer : Result Happened Refusal) (c : Chooses t old act mid) (h : Acts t act mid answer new) →
    (turn_done t act old mid new answer c h).act ≡ act
unfolding turn_done
turn_act t act old mid new answer c h = refl
