-- What a turn of a cell answers and leaves.
use Rattle.std.specs.Prelude.{◌≡◌, ◌≢◌, ◌<◌, ◌≤◌, ◌⊎◌, ℕ, [], ◌∷◌, ◌++◌, List, Bool, true, false, if◌then◌else◌, Option, Some, None, Result}
use Rattle.std.specs.Prelude.{IfSome, MatchResult}
use Rattle.ipcz_base.specs.declared.message.Message.{Message}
use Rattle.ipcz_base.specs.declared.refusal.Refusal.{Refusal}
use Rattle.ipcz_base.specs.declared.refusal.Refusal.TheVariants.{NumbersEnd, OutOfMemory, Raced}
use Rattle.ipcz_base.specs.declared.side.Side.{Side}
use Rattle.ipcz_word.specs.Layout.{word_of_bits, plan_bits}
use Rattle.ipcz_word.specs.Word.{plan_of}
use Rattle.ipcz_word.specs.declared.lock_plan.LockPlan.{LockPlan}
use Rattle.ipcz_word.specs.declared.lock_plan.LockPlan.TheVariants as plans
use Rattle.ipcz_base.specs.declared.link_id.LinkId.TheVariants.{Central}
use Rattle.ipcz_router.specs.declared.act.Answer.{Answer}
use Rattle.ipcz_router.specs.declared.act.Answer.TheVariants as answers
use Rattle.ipcz_router.specs.declared.act.RouterAct.{RouterAct}
use Rattle.ipcz_router.specs.declared.act.RouterAct.TheVariants as router_acts
use Rattle.ipcz_node.specs.declared.act.Act.{Act}
use Rattle.ipcz_node.specs.declared.act.Act.TheVariants as acts
use Rattle.ipcz_node.specs.declared.happened.Happened.{Happened}
use Rattle.ipcz_node.specs.declared.happened.Happened.TheVariants as events
use Rattle.ipcz_node.specs.Acts.{stand_in, act_lacks_serials}
use Rattle.ipcz_node.specs.Preparing.{act_grows}
use Rattle.ipcz_node.specs.Events.{event_of, hand_event}
use Rattle.ipcz_node.specs.Hands.{message_grows, message_lacks_serials}
use Rattle.ipcz_node.specs.Node.{Node, word_side, source_in}
use Rattle.ipcz_node.specs.RoomyNodes.{IsReadyFor}
use Rattle.ipcz_world.specs.Coding.{IsLinkNumber}
use Rattle.ipcz_world.specs.WordAnswers.{word_answer}
use Rattle.ipcz_rule.specs.declared.view.Part.{Part}
use Rattle.ipcz_rule.specs.Rule.{has_number}
use Rattle.ipcz_rule.specs.Races.{IsWaitedFor}
use Rattle.ipcz_rule.specs.Batches.{batch_from}
use Rattle.ipcz_rule.specs.Steps.{act_part, hand_part}
use Rattle.ipcz_cell.specs.TableNames.{TableName}
use Rattle.ipcz_cell.specs.CellStates.{CellState, roomy}
use Rattle.ipcz_cell.specs.Claims.{IsNumberAt, FindsNone}
use Rattle.ipcz_cell.specs.Cells.{has_batch}
use Rattle.ipcz_cell.specs.Mails.{mail_word, old_named, OldLoaded, source_found, looked_part, posted_part}
use Rattle.ipcz_world.specs.RoomyWorlds.{HasRoomToHandle}
use Rattle.ipcz_cell.specs.Words.{lock_seen}
use Rattle.ipcz_cell.specs.Turns.{IsFirst}

-- the answer to a router's act on the word of its link, which was found so at the router's side; a lock names this source
pub record IsWordAnswer (n : Node) (serial : ℕ) (source : Option ℕ) (act : RouterAct) (answer : Answer) (word : ℕ) (side : Side)
    (found : ℕ) : Type 0 where
  pub named : word_side n serial ≡ Some (word, side)
  pub is_word : IsLinkNumber found
  pub answered : answer ≡ word_answer (word_of_bits found) side source act

-- an act on a word that needs no luck: one step
pub record FoundWord (n : Node) (serial : ℕ) (act : RouterAct) (answer : Answer) (seen : List (ℕ × ℕ)) : Type 0 where
  pub word : ℕ
  pub side : Side
  pub found : ℕ
  pub answered : IsWordAnswer n serial None act answer word side found
  pub seen_is : seen ≡ (word, found) ∷ []

-- a try for the lock, which names the node inward of the router: a load, and an exchange unless the load found that the lock is refused
pub record TriedWord (n : Node) (serial : ℕ) (answer : Answer) (seen : List (ℕ × ℕ)) : Type 0 where
  pub word : ℕ
  pub side : Side
  pub found : ℕ
  pub answered : IsWordAnswer n serial (source_in n serial) router_acts.Lock answer word side found
  pub seen_is : seen ≡ lock_seen word found (plan_bits found side (source_in n serial) (plan_of (word_of_bits found) side)) []

-- a claim: a load of the claim count, and an exchange unless the load found that each number was claimed, or there was no slot
pub data CountedWord (t : TableName) (answer : Answer) (seen : List (ℕ × ℕ)) : Type 0 where
  Got : (c n : ℕ) → IsNumberAt t c n → answer ≡ answers.Claimed n → seen ≡ (t.size, c) ∷ (t.size, n) ∷ [] → CountedWord t answer seen
  Dry : answer ≡ answers.NoWord → seen ≡ (t.size, t.size) ∷ [] → CountedWord t answer seen
  NoSlot : (c : ℕ) → c < t.size → t.reuses ≡ true → answer ≡ answers.NoWord → seen ≡ (t.size, c) ∷ [] → CountedWord t answer seen

-- what a try for the lock of a word, which was found so, is seen to be
abbrev pub try_event : ℕ → ℕ → ℕ → LockPlan → Happened
try_event serial word found (plans.Lock new) = events.Lock serial (Central word) new
try_event serial word found (plans.Wait new) = events.Wait serial (Central word) new
try_event serial word found plans.Refused = events.Refused serial (Central word) found

-- an act is answered so, by what its steps have seen
abbrev pub IsAnswered : TableName → Part → Act → Answer → List (ℕ × ℕ) → Type 0
IsAnswered t p (acts.Hand from) answer seen = (answer ≡ answers.Plain) × OldLoaded t.size (old_named p.message) seen
IsAnswered t p (acts.Look from) answer seen = (answer ≡ answers.Plain) × (seen ≡ (if has_batch p from then [] else (mail_word t from p.node, 1) ∷ []))
IsAnswered t p (acts.Post to) answer seen = (answer ≡ answers.Plain) ×
    (seen ≡ (if has_number p.probed to then [] else (mail_word t p.node to, 0) ∷ []))
IsAnswered t p (acts.Router serial router_acts.Mark) answer seen = FoundWord p.state serial router_acts.Mark answer seen
IsAnswered t p (acts.Router serial router_acts.Wake) answer seen = FoundWord p.state serial router_acts.Wake answer seen
IsAnswered t p (acts.Router serial router_acts.Unlock) answer seen = FoundWord p.state serial router_acts.Unlock answer seen
IsAnswered t p (acts.Router serial router_acts.Lock) answer seen = TriedWord p.state serial answer seen
IsAnswered t p (acts.Router serial router_acts.Claim) answer seen = CountedWord t answer seen
IsAnswered t p other answer seen = (answer ≡ answers.Plain) × (seen ≡ [])

-- the part of the node is this one after an act that has seen so much
abbrev pub IsAfter : TableName → Act → Answer → List (ℕ × ℕ) → Part → Part → Type 0
IsAfter t (acts.Hand from) answer seen p p' = (x : Message) × (p.message ≡ Some x) × (p' ≡ hand_part from (source_found seen) x p)
IsAfter t (acts.Look from) answer seen p p' = (x : Message) × (xs : List Message) × (p' ≡ looked_part from x xs p) ×
    (has_batch p from ≡ true → batch_from p from ≡ x ∷ xs)
IsAfter t (acts.Post to) answer seen p p' = p' ≡ posted_part t to p
IsAfter t other answer seen p p' = p' ≡ act_part other answer p

-- an act is told so
abbrev pub IsEvent : Act → Answer → List (ℕ × ℕ) → Part → Happened → Type 0
IsEvent (acts.Hand from) answer seen p event =
    (x : Message) × (p.message ≡ Some x) × (event ≡ hand_event p.state from x (source_found seen))
IsEvent other answer seen p event = event ≡ event_of p.state other answer

-- an act was done whole
pub record IsDone (t : TableName) (p : Part) (act : Act) (event : Happened) (p' : Part) (seen : List (ℕ × ℕ)) : Type 0 where
  pub answer : Answer
  pub answered : IsAnswered t p act answer seen
  pub part : IsAfter t act answer seen p p'
  pub event_is : IsEvent act answer seen p event

-- whether handling this message, if there is one, makes something grow
abbrev pub hand_grows : Node → ℕ → Option ℕ → Option Message → Bool
hand_grows n from source None = false
hand_grows n from source (Some x) = message_grows n from x source

-- whether an act that has seen so much makes something grow, and so may want memory
abbrev pub may_grow : Part → Act → List (ℕ × ℕ) → Bool
may_grow p (acts.Hand from) seen = hand_grows p.state from (source_found seen) p.message
may_grow p other seen = act_grows p.state other

-- an act was done, or what stands in for it, only if it makes something grow
pub record IsTaken (t : TableName) (p : Part) (act : Act) (event : Happened) (p' : Part) (seen : List (ℕ × ℕ)) : Type 0 where
  pub taken : Act
  pub which : (taken ≡ act) ⊎ ((taken ≡ stand_in act) × (may_grow p act seen ≡ true))
  pub done : IsDone t p taken event p' seen

-- whether handling this message, if there is one, wants more serials than are left
abbrev pub hand_lacks_serials : Node → ℕ → Option ℕ → Option Message → Bool
hand_lacks_serials n from source None = false
hand_lacks_serials n from source (Some x) = message_lacks_serials n from x source

-- whether an act that has seen so much wants more serials than are left
abbrev pub lacks_serials : Part → Act → List (ℕ × ℕ) → Bool
lacks_serials p (acts.Hand from) seen = hand_lacks_serials p.state from (source_found seen) p.message
lacks_serials p other seen = act_lacks_serials p.state other

-- what an act has seen before it is refused for want of serials or memory: the hand of an AcceptBypass its load, another act nothing
abbrev pub IsSeenBefore : ℕ → Part → Act → List (ℕ × ℕ) → Type 0
IsSeenBefore size p (acts.Hand from) seen = OldLoaded size (old_named p.message) seen
IsSeenBefore size p other seen = seen ≡ []

-- an act was lost to another thread: an exchange found another number than the one that it was for. A look, a post, a try for the lock and
-- a claim can be, and no other act
abbrev pub IsLost : TableName → Part → Act → List (ℕ × ℕ) → Type 0
IsLost t p (acts.Look from) seen = (n : ℕ) × (n ≢ 1) × (has_batch p from ≡ false) × (seen ≡ (mail_word t from p.node, n) ∷ [])
IsLost t p (acts.Post to) seen = (n : ℕ) × (n ≢ 0) × (has_number p.probed to ≡ false) × (seen ≡ (mail_word t p.node to, n) ∷ [])
IsLost t p (acts.Router serial router_acts.Lock) seen = (word n found : ℕ) × (side : Side) × (word_side p.state serial ≡ Some (word, side)) ×
    (word < t.size) × (found ≢ n) × (seen ≡ (word, n) ∷ (word, found) ∷ [])
IsLost t p (acts.Router serial router_acts.Claim) seen = (n found : ℕ) × (found ≢ n) × (seen ≡ (t.size, n) ∷ (t.size, found) ∷ [])
IsLost t p other seen = ⊥

-- why an act was refused, if Lost is what it means that it was lost to another thread
pub data IsRefused (size : ℕ) (p : Part) (act : Act) (Lost : Type 0) (why : Refusal) (seen : List (ℕ × ℕ)) : Type 0 where
  NoSerials : why ≡ NumbersEnd → lacks_serials p act seen ≡ true → IsSeenBefore size p act seen → IsRefused size p act Lost why seen
  NoMemory : why ≡ OutOfMemory → lacks_serials p act seen ≡ false → may_grow p act seen ≡ true → act ≡ stand_in act →
      IsSeenBefore size p act seen → IsRefused size p act Lost why seen
  LostIt : why ≡ Raced → Lost → IsRefused size p act Lost why seen

-- there is room for what an act wants that has seen so much
abbrev pub HasRoom : CellState → Act → List (ℕ × ℕ) → Type 0
HasRoom c (acts.Hand from) seen = IfSome c.part.message (λ x. HasRoomToHandle (roomy c) from x (source_found seen))
HasRoom c other seen = IsReadyFor (roomy c) other

-- an act for which there was room was done itself, with nothing in its stead, or it wasn't refused for want of memory
abbrev pub IsDoneIfRoom : TableName → Act → List (ℕ × ℕ) → CellState → Result Happened Refusal → CellState → Type 0
IsDoneIfRoom t act seen old answer new =
    HasRoom old act seen → MatchResult answer (λ event. IsDone t old.part act event new.part seen) (λ why. why ≢ OutOfMemory)

-- a claim that has found the claim count below the last number, and taken none, has looked for one in vain (`FindsNone`)
abbrev pub LooksFor : TableName → Act → List (ℕ × ℕ) → List ℕ → List ℕ → Type 0
LooksFor t (acts.Router serial router_acts.Claim) seen old new = (c : ℕ) → seen ≡ (t.size, c) ∷ [] → c < t.size → FindsNone t c old new
LooksFor t other seen old new = Unit {0}

-- what was done of an act: all of it, or nothing
pub record Acts (t : TableName) (act : Act) (old : CellState) (answer : Result Happened Refusal) (new : CellState) : Type 0 where
  pub found : List (ℕ × ℕ)
  pub seen : new.seen ≡ old.seen ++ found
  pub looks : LooksFor t act found old.looked new.looked
  pub outcome : MatchResult answer (λ event. IsTaken t old.part act event new.part found)
      (λ why. (new.part ≡ old.part) × IsRefused t.size old.part act (IsLost t old.part act found) why found)
  pub full : IsDoneIfRoom t act found old answer new

-- the last of what was seen is a load and an exchange of one word, which have found different numbers: it is a link word or the claim
-- count, or a mailbox that the node waits for
pub record EndsRaced (t : TableName) (p : Part) (seen : List (ℕ × ℕ)) : Type 0 where
  pub before : List (ℕ × ℕ)
  pub word : ℕ
  pub loaded : ℕ
  pub exchanged : ℕ
  pub differ : exchanged ≢ loaded
  pub of : (word ≤ t.size) ⊎ IsWaitedFor t.count t.size p word loaded
  pub last : seen ≡ before ++ (word, loaded) ∷ (word, exchanged) ∷ []

-- the first act was lost to another thread, and what the turn has seen ends so
pub record IsLostTurn (t : TableName) (p : Part) (act : Act) (loads found : List (ℕ × ℕ)) : Type 0 where
  pub lost : IsLost t p act found
  pub ends : EndsRaced t p (loads ++ found)

-- a turn: the first act for the mailboxes as its loads have found them was done, or nothing was
pub record Turns (t : TableName) (old : CellState) (answer : Result Happened Refusal) (new : CellState) : Type 0 where
  pub act : Act
  pub loads : List (ℕ × ℕ)
  pub found : List (ℕ × ℕ)
  pub first : IsFirst t old.part loads act
  pub seen : new.seen ≡ old.seen ++ (loads ++ found)
  pub looks : LooksFor t act found old.looked new.looked
  pub outcome : MatchResult answer (λ event. IsTaken t old.part act event new.part found)
      (λ why. (new.part ≡ old.part) × IsRefused t.size old.part act (IsLostTurn t old.part act loads found) why found)
  pub full : IsDoneIfRoom t act found old answer new
