-- Which act, event or line has a text that begins with a known word.
use Rattle.std.proofs.Common.{◌≡◌, ◌≢◌, ◌⊎◌, ℕ, true, false, List, [], ◌∷◌, ◌++◌, Option, Some, None, Bor, refl, sym, ap, ◌∙◌, subst, arith}
use Rattle.std.proofs.Common.{codes, inl, inr, append_assoc}
use Rattle.std.specs.List.{AllByRecursion}
use Rattle.std.specs.Fmt.{decimal}
use Rattle.std.proofs.lemmas.Fmt.{decimal_injective}
use Rattle.std.proofs.lemmas.List.Elements.{All-append, All-cons, All-from_recursion, All-nil, All-weaker}
use Rattle.ipcz_lines.specs.declared.line.parts.Link.{Link}
use Rattle.ipcz_lines.specs.declared.line.parts.Link.TheVariants as links
use Rattle.ipcz_lines.specs.declared.line.parts.Way.{Way}
use Rattle.ipcz_lines.specs.declared.line.parts.Way.TheVariants as ways
use Rattle.ipcz_lines.specs.declared.line.parts.WordStep.{WordStep}
use Rattle.ipcz_lines.specs.declared.line.parts.WordStep.TheVariants as steps
use Rattle.ipcz_lines.specs.declared.line.parts.Kind.{Kind}
use Rattle.ipcz_lines.specs.declared.line.parts.Kind.TheVariants as kinds
use Rattle.ipcz_lines.specs.declared.line.parts.Refusal.{Refusal}
use Rattle.ipcz_lines.specs.declared.line.parts.Refusal.TheVariants as refusals
use Rattle.ipcz_lines.specs.declared.line.RouterEvent.{RouterEvent}
use Rattle.ipcz_lines.specs.declared.line.RouterEvent.TheVariants as acts
use Rattle.ipcz_lines.specs.declared.line.parts.Answer.{Answer}
use Rattle.ipcz_lines.specs.declared.line.parts.Fault.{Fault}
use Rattle.ipcz_lines.specs.declared.line.parts.Fault.TheVariants as faults
use Rattle.ipcz_lines.specs.declared.line.ReadLine.{ReadLine}
use Rattle.ipcz_lines.specs.declared.line.Event.{Event}
use Rattle.ipcz_lines.specs.declared.line.Event.TheVariants as events
use Rattle.ipcz_lines.specs.declared.line.Line.{Line}
use Rattle.ipcz_lines.specs.declared.line.Line.TheVariants as lines
use Rattle.ipcz_lines.specs.LineParts.{joined, AreParted, IsAnswer, IsEndText, IsFault, IsWordText, answer_text, fate_text, fault_text}
use Rattle.ipcz_lines.specs.LineParts.{IsKind, IsLink, IsName, IsNodeNumber, IsNumber, IsWordNumber, Reads, kind_text, link_text}
use Rattle.ipcz_lines.specs.LineParts.{refusal_text, step_text, way_text}
use Rattle.ipcz_lines.specs.Lines.{IsPrintable, IsReadLine, with_line_feed, AreMoves, AreNames, AreWords, FitsLine, IsEvent, IsRouterEvent}
use Rattle.ipcz_lines.specs.Lines.{IsTurn, event_text, line_text, opened_text, parcel_text, IsAct, IsWordAct, act_text, and_more}
use Rattle.ipcz_lines.specs.Lines.{central_text, moves_text, spaced}
use Rattle.ipcz_lines.proofs.Lacking.{Lacks, apart, decimal_lacks, differ, name_lacks, parts_agree, not_parted, one_parting, rests_agree}

abbrev pub NoSpace : ℕ → Type 0
NoSpace b = b ≢ 32

known : (text : List ℕ) → AllByRecursion NoSpace text → Lacks 32 text
known text h = All-from_recursion NoSpace text h

pub number_lacks : (n : ℕ) → IsNumber n → Lacks 32 (decimal n)
number_lacks n h = decimal_lacks 32 n h (λ d. absurd (omega arith))

pub way_lacks : (way : Way) → Lacks 32 (way_text way)
way_lacks ways.Out = known (codes "out") (omega arith)
way_lacks ways.In = known (codes "in") (omega arith)

pub link_lacks : (link : Link) → IsLink link → Lacks 32 (link_text link)
link_lacks (links.Central word) h = All-cons NoSpace 67 (decimal word) (λ e. absurd (omega arith)) (number_lacks word (omega arith))
link_lacks (links.Peripheral node serial) h =
    All-cons NoSpace 80 (decimal node ++ 46 ∷ decimal serial) (λ e. absurd (omega arith))
    (All-append NoSpace (decimal node) (46 ∷ decimal serial) (number_lacks node (omega arith))
    (All-cons NoSpace 46 (decimal serial) (λ e. absurd (omega arith)) (number_lacks serial h.1)))

-- the node and the serial of a peripheral link
pub record IsPeripheral (bytes : List ℕ) : Type 0 where
  pub node : ℕ
  pub serial : ℕ
  pub is_node : IsNodeNumber node
  pub is_serial : IsNumber serial
  pub text : decimal node ++ 46 ∷ decimal serial ≡ bytes

pub peripheral_only : (x : Link) (bytes : List ℕ) → IsLink x → link_text x ≡ 80 ∷ bytes → IsPeripheral bytes
peripheral_only (links.Central word) bytes h e = absurd (apart (link_text (links.Central word)) (80 ∷ bytes) refl e)
peripheral_only (links.Peripheral node serial) bytes h e =
    record { node = node; serial = serial; is_node = h.0; is_serial = h.1; text = rests_agree (codes "P") _ bytes e }

pub node_lacks_point : (node : ℕ) → IsNodeNumber node → Lacks 46 (decimal node)
node_lacks_point node h = decimal_lacks 46 node (omega arith) (λ d. absurd (omega arith))

-- a send with its way, number, link and moves
pub record Sent (bytes : List ℕ) : Type 0 where
  pub way : Way
  pub n : ℕ
  pub link : Link
  pub moves : Bor (List ℕ)
  pub number : IsNumber n
  pub is_link : IsLink link
  pub are_moves : AreMoves moves.now
  pub text : spaced (way_text way) (spaced (decimal n) (and_more (link_text link) (moves_text moves.now))) ≡ bytes

pub sent_only : (x : RouterEvent) (bytes : List ℕ) → IsAct x → act_text x ≡ spaced (codes "send") bytes → Sent bytes
sent_only (acts.Send way n link moves) bytes h e =
    record {
      way = way;
      n = n;
      link = link;
      moves = moves;
      number = h.0;
      is_link = h.1;
      are_moves = h.2;
      text = rests_agree (codes "send ") _ bytes e;
    }
sent_only (acts.Word steps.Mark w a) bytes h e = absurd (apart (act_text (acts.Word steps.Mark w a)) (spaced (codes "send") bytes) refl e)
sent_only (acts.Claim None) bytes h e = absurd (apart (act_text (acts.Claim None)) (spaced (codes "send") bytes) refl e)
sent_only other bytes h e = absurd (apart (act_text other) (spaced (codes "send") bytes) refl e)

-- a discard with its number, and whether the router leaves
pub record Discarded (bytes : List ℕ) : Type 0 where
  pub n : ℕ
  pub number : IsNumber n
  pub text : (decimal n ≡ bytes) ⊎ (spaced (decimal n) (codes "leave") ≡ bytes)

pub discarded_only : (x : RouterEvent) (bytes : List ℕ) → IsAct x → act_text x ≡ spaced (codes "discard") bytes → Discarded bytes
discarded_only (acts.Discard n true) bytes h e = record { n = n; number = h; text = inr (rests_agree (codes "discard ") _ bytes e) }
discarded_only (acts.Discard n false) bytes h e = record { n = n; number = h; text = inl (rests_agree (codes "discard ") _ bytes e) }
discarded_only (acts.Word steps.Mark w a) bytes h e =
    absurd (apart (act_text (acts.Word steps.Mark w a)) (spaced (codes "discard") bytes) refl e)
discarded_only (acts.Claim None) bytes h e = absurd (apart (act_text (acts.Claim None)) (spaced (codes "discard") bytes) refl e)
discarded_only other bytes h e = absurd (apart (act_text other) (spaced (codes "discard") bytes) refl e)

-- a finish with its way and link
pub record Finished (bytes : List ℕ) : Type 0 where
  pub way : Way
  pub link : Link
  pub is_link : IsLink link
  pub text : spaced (way_text way) (link_text link) ≡ bytes

pub finished_only : (x : RouterEvent) (bytes : List ℕ) → IsAct x → act_text x ≡ spaced (codes "finish") bytes → Finished bytes
finished_only (acts.Finish way link) bytes h e =
    record { way = way; link = link; is_link = h; text = rests_agree (codes "finish ") _ bytes e }
finished_only (acts.Word steps.Mark w a) bytes h e =
    absurd (apart (act_text (acts.Word steps.Mark w a)) (spaced (codes "finish") bytes) refl e)
finished_only (acts.Claim None) bytes h e = absurd (apart (act_text (acts.Claim None)) (spaced (codes "finish") bytes) refl e)
finished_only other bytes h e = absurd (apart (act_text other) (spaced (codes "finish") bytes) refl e)

-- a retire with its number and link
pub record Retired (bytes : List ℕ) : Type 0 where
  pub n : ℕ
  pub link : Link
  pub number : IsNumber n
  pub is_link : IsLink link
  pub text : spaced (decimal n) (link_text link) ≡ bytes

pub retired_only : (x : RouterEvent) (bytes : List ℕ) → IsAct x → act_text x ≡ spaced (codes "retire") bytes → Retired bytes
retired_only (acts.Retire n link) bytes h e =
    record { n = n; link = link; number = h.0; is_link = h.1; text = rests_agree (codes "retire ") _ bytes e }
retired_only (acts.Word steps.Mark w a) bytes h e =
    absurd (apart (act_text (acts.Word steps.Mark w a)) (spaced (codes "retire") bytes) refl e)
retired_only (acts.Claim None) bytes h e = absurd (apart (act_text (acts.Claim None)) (spaced (codes "retire") bytes) refl e)
retired_only other bytes h e = absurd (apart (act_text other) (spaced (codes "retire") bytes) refl e)

pub claimed_only : (x : RouterEvent) (bytes : List ℕ) → IsAct x → act_text x ≡ spaced (codes "claim") bytes
    → (codes "NoWord" ≡ bytes) ⊎ ((word : ℕ) × IsWordNumber word × (decimal word ≡ bytes))
claimed_only (acts.Claim (Some word)) bytes h e = inr (word, h, rests_agree (codes "claim ") _ bytes e)
claimed_only (acts.Claim None) bytes h e = inl (rests_agree (codes "claim ") _ bytes e)
claimed_only (acts.Word steps.Mark w a) bytes h e =
    absurd (apart (act_text (acts.Word steps.Mark w a)) (spaced (codes "claim") bytes) refl e)
claimed_only other bytes h e = absurd (apart (act_text other) (spaced (codes "claim") bytes) refl e)

pub begun_only : (x : RouterEvent) (bytes : List ℕ) → IsAct x → act_text x ≡ spaced (codes "begin") bytes
    → (word : ℕ) × IsWordNumber word × (central_text word ≡ bytes)
begun_only (acts.Begin word) bytes h e = (word, h, rests_agree (codes "begin ") _ bytes e)
begun_only (acts.Word steps.Mark w a) bytes h e = absurd (apart (act_text (acts.Word steps.Mark w a)) (spaced (codes "begin") bytes) refl e)
begun_only (acts.Claim None) bytes h e = absurd (apart (act_text (acts.Claim None)) (spaced (codes "begin") bytes) refl e)
begun_only other bytes h e = absurd (apart (act_text other) (spaced (codes "begin") bytes) refl e)

step_lacks : (step : WordStep) → Lacks 32 (step_text step)
step_lacks steps.Mark = known (codes "mark") (omega arith)
step_lacks steps.Wake = known (codes "wake") (omega arith)
step_lacks steps.Lock = known (codes "lock") (omega arith)
step_lacks steps.Wait = known (codes "wait") (omega arith)
step_lacks steps.Refused = known (codes "refused") (omega arith)
step_lacks steps.Unlock = known (codes "unlock") (omega arith)

pub central_lacks : (word : ℕ) → IsWordNumber word → Lacks 32 (central_text word)
central_lacks word h = All-cons NoSpace 67 (decimal word) (λ e. absurd (omega arith)) (number_lacks word (omega arith))

-- a step of a word with its value after that
pub record Stepped (first bytes : List ℕ) : Type 0 where
  pub step : WordStep
  pub word : ℕ
  pub after : ℕ
  pub is_word : IsWordNumber word
  pub is_after : IsWordNumber after
  pub named : step_text step ≡ first
  pub text : spaced (central_text word) (decimal after) ≡ bytes

pub stepped_only : (x : RouterEvent) (first bytes : List ℕ) → Lacks 32 first → IsWordAct x → act_text x ≡ spaced first bytes
    → Stepped first bytes
stepped_only (acts.Word step word after) first bytes none h e =
    let r = one_parting 32 (step_text step) (spaced (central_text word) (decimal after)) first bytes (step_lacks step) none e in
    record { step = step; word = word; after = after; is_word = h.0; is_after = h.1; named = r.0; text = r.1 }
stepped_only other first bytes none h e = absurd h

pub word_act : (x : RouterEvent) → IsWordAct x → IsAct x
word_act (acts.Word step word after) h = h
word_act other h = absurd h

-- an act of one word
pub lone_act : (x : RouterEvent) (bytes : List ℕ) → Lacks 32 bytes → act_text x ≡ bytes → (codes "leave" ≡ bytes) ⊎ (codes "rest" ≡ bytes)
lone_act acts.Leave bytes none e = inl e
lone_act acts.Rest bytes none e = inr e
lone_act (acts.Send way n link moves) bytes none e = absurd (not_parted 32 (codes "send") _ bytes none e)
lone_act (acts.Discard n leaves) bytes none e = absurd (not_parted 32 (codes "discard") _ bytes none e)
lone_act (acts.Finish way link) bytes none e = absurd (not_parted 32 (codes "finish") _ bytes none e)
lone_act (acts.Word step word after) bytes none e = absurd (not_parted 32 (step_text step) _ bytes none e)
lone_act (acts.Claim None) bytes none e = absurd (not_parted 32 (codes "claim") (codes "NoWord") bytes none e)
lone_act (acts.Claim (Some word)) bytes none e = absurd (not_parted 32 (codes "claim") _ bytes none e)
lone_act (acts.Begin word) bytes none e = absurd (not_parted 32 (codes "begin") _ bytes none e)
lone_act (acts.Retire n link) bytes none e = absurd (not_parted 32 (codes "retire") _ bytes none e)

-- the first words that tell an act
pub record NoActWord (first : List ℕ) : Type 0 where
  pub send : first ≢ codes "send"
  pub discard : first ≢ codes "discard"
  pub finish : first ≢ codes "finish"
  pub retire : first ≢ codes "retire"
  pub claim : first ≢ codes "claim"
  pub begin_ : first ≢ codes "begin"

known_first : (word first a b : List ℕ) → AllByRecursion NoSpace word → Lacks 32 first → first ≢ word → word ++ 32 ∷ a ≡ spaced first b → ⊥
known_first word first a b lack none other e = other (sym (one_parting 32 word a first b (known word lack) none e).0)

-- behind another word stands a step of a word
pub other_act : (x : RouterEvent) (first rest : List ℕ) → Lacks 32 first → NoActWord first → IsAct x → act_text x ≡ spaced first rest
    → IsWordAct x
other_act (acts.Word step word after) first rest none unlike h e = h
other_act acts.Leave first rest none unlike h e =
    absurd (not_parted 32 first rest (codes "leave") (known (codes "leave") (omega arith)) (sym e))
other_act acts.Rest first rest none unlike h e =
    absurd (not_parted 32 first rest (codes "rest") (known (codes "rest") (omega arith)) (sym e))
other_act (acts.Send way n link moves) first rest none unlike h e =
    absurd (known_first (codes "send") first _ rest (omega arith) none unlike.send e)
other_act (acts.Discard n leaves) first rest none unlike h e =
    absurd (known_first (codes "discard") first _ rest (omega arith) none unlike.discard e)
other_act (acts.Finish way link) first rest none unlike h e =
    absurd (known_first (codes "finish") first _ rest (omega arith) none unlike.finish e)
other_act (acts.Claim None) first rest none unlike h e =
    absurd (known_first (codes "claim") first (codes "NoWord") rest (omega arith) none unlike.claim e)
other_act (acts.Claim (Some word)) first rest none unlike h e =
    absurd (known_first (codes "claim") first _ rest (omega arith) none unlike.claim e)
other_act (acts.Begin word) first rest none unlike h e =
    absurd (known_first (codes "begin") first _ rest (omega arith) none unlike.begin_ e)
other_act (acts.Retire n link) first rest none unlike h e =
    absurd (known_first (codes "retire") first _ rest (omega arith) none unlike.retire e)

-- what is read as a step of a word is read as an act
pub step_reads : (first rest bytes : List ℕ) (r : Option RouterEvent) → Lacks 32 first → NoActWord first → bytes ≡ spaced first rest
    → Reads act_text IsWordAct (spaced first rest) r → Reads act_text IsAct bytes r
step_reads first rest bytes (Some x) none unlike e h = (word_act x h.0, h.1 ∙ sym e)
step_reads first rest bytes None none unlike e h = λ x fits t. h x (other_act x first rest none unlike fits (t ∙ e)) (t ∙ e)

-- ends behind a link, or none
pub with_moves : (link moves bytes : List ℕ) → AreMoves moves → and_more link (moves_text moves) ≡ bytes
    → (link ≡ bytes) ⊎ (AreParted IsEndText 44 moves × (spaced link (spaced (codes "moves") moves) ≡ bytes))
with_moves link [] bytes h e = inl e
with_moves link (m ∷ ms) bytes h e = inr (h, e)

pub refusal_lacks : (why : Refusal) → Lacks 32 (refusal_text why)
refusal_lacks refusals.OutOfMemory = known (codes "OutOfMemory") (omega arith)
refusal_lacks refusals.Empty = known (codes "Empty") (omega arith)
refusal_lacks refusals.PeerClosed = known (codes "PeerClosed") (omega arith)
refusal_lacks refusals.NoWord = known (codes "NoWord") (omega arith)
refusal_lacks refusals.SelfAttach = known (codes "SelfAttach") (omega arith)
refusal_lacks refusals.PeerAttach = known (codes "PeerAttach") (omega arith)
refusal_lacks refusals.Stranger = known (codes "Stranger") (omega arith)
refusal_lacks refusals.NumbersEnd = known (codes "NumbersEnd") (omega arith)
refusal_lacks refusals.BadData = known (codes "BadData") (omega arith)
refusal_lacks refusals.TooMany = known (codes "TooMany") (omega arith)
refusal_lacks refusals.Raced = known (codes "Raced") (omega arith)
refusal_lacks refusals.Occupied = known (codes "Occupied") (omega arith)
refusal_lacks refusals.Passed = known (codes "Passed") (omega arith)
refusal_lacks refusals.Forged = known (codes "Forged") (omega arith)
refusal_lacks refusals.UnknownName = known (codes "UnknownName") (omega arith)
refusal_lacks refusals.Away = known (codes "Away") (omega arith)

-- an event of one word
pub lone_event : (x : Event) (bytes : List ℕ) → Lacks 32 bytes → IsEvent x → event_text x ≡ bytes
    → (codes "idle" ≡ bytes) ⊎ ((why : Refusal) × (refusal_text why ≡ bytes))
lone_event events.Idle bytes none h e = inl e
lone_event (events.Refused why) bytes none h e = inr (why, e)
lone_event (events.Hand kind link unfit) bytes none h e = absurd (not_parted 32 (codes "hand") _ bytes none e)
lone_event (events.Look sender) bytes none h e = absurd (not_parted 32 (codes "look") _ bytes none e)
lone_event (events.Post destination) bytes none h e = absurd (not_parted 32 (codes "post") _ bytes none e)
lone_event (events.Close end) bytes none h e = absurd (not_parted 32 (codes "close") _ bytes none e)
lone_event (events.Router serial act) bytes none h e = absurd (not_parted 32 (114 ∷ decimal serial) _ bytes none e)

-- what a router did, with its number
pub record Routed (first bytes : List ℕ) : Type 0 where
  pub serial : ℕ
  pub act : RouterEvent
  pub number : IsNumber serial
  pub is_act : IsAct act
  pub named : 114 ∷ decimal serial ≡ first
  pub text : act_text act ≡ bytes

pub routed_only : (x : Event) (first bytes : List ℕ) → Lacks 32 first → IsRouterEvent x → event_text x ≡ spaced first bytes
    → Routed first bytes
routed_only (events.Router serial act) first bytes none h e =
    let r =
    one_parting 32 (114 ∷ decimal serial) (act_text act) first bytes
    (All-cons NoSpace 114 (decimal serial) (λ q. absurd (omega arith)) (number_lacks serial h.0)) none e in
    record { serial = serial; act = act; number = h.0; is_act = h.1; named = r.0; text = r.1 }
routed_only other first bytes none h e = absurd h

pub router_event : (x : Event) → IsRouterEvent x → IsEvent x
router_event (events.Router serial act) h = h
router_event other h = absurd h

-- the first words that tell an event
pub record NoEventWord (first : List ℕ) : Type 0 where
  pub hand : first ≢ codes "hand"
  pub look : first ≢ codes "look"
  pub post : first ≢ codes "post"
  pub close : first ≢ codes "close"

-- behind another word stands what a router did
pub other_event : (x : Event) (first rest : List ℕ) → Lacks 32 first → NoEventWord first → IsEvent x → event_text x ≡ spaced first rest
    → IsRouterEvent x
other_event (events.Router serial act) first rest none unlike h e = h
other_event events.Idle first rest none unlike h e =
    absurd (not_parted 32 first rest (codes "idle") (known (codes "idle") (omega arith)) (sym e))
other_event (events.Refused why) first rest none unlike h e =
    absurd (not_parted 32 first rest (refusal_text why) (refusal_lacks why) (sym e))
other_event (events.Hand kind link unfit) first rest none unlike h e =
    absurd (known_first (codes "hand") first _ rest (omega arith) none unlike.hand e)
other_event (events.Look sender) first rest none unlike h e =
    absurd (known_first (codes "look") first _ rest (omega arith) none unlike.look e)
other_event (events.Post destination) first rest none unlike h e =
    absurd (known_first (codes "post") first _ rest (omega arith) none unlike.post e)
other_event (events.Close end) first rest none unlike h e =
    absurd (known_first (codes "close") first _ rest (omega arith) none unlike.close e)

-- what is read as a router's event is read as an event
pub router_reads : (first rest bytes : List ℕ) (r : Option Event) → Lacks 32 first → NoEventWord first → bytes ≡ spaced first rest
    → Reads event_text IsRouterEvent (spaced first rest) r → Reads event_text IsEvent bytes r
router_reads first rest bytes (Some x) none unlike e h = (router_event x h.0, h.1 ∙ sym e)
router_reads first rest bytes None none unlike e h = λ x fits t. h x (other_event x first rest none unlike fits (t ∙ e)) (t ∙ e)

-- a hand of a kind, on a link, of a message that may be unfit
pub record Handed (bytes : List ℕ) : Type 0 where
  pub kind : Kind
  pub link : Link
  pub is_kind : IsKind kind
  pub is_link : IsLink link
  pub text : (spaced (kind_text kind) (link_text link) ≡ bytes) ⊎
      (spaced (kind_text kind) (spaced (link_text link) (fate_text kind)) ≡ bytes)

pub handed_only : (x : Event) (bytes : List ℕ) → IsEvent x → event_text x ≡ spaced (codes "hand") bytes → Handed bytes
handed_only (events.Hand kind link true) bytes h e =
    record { kind = kind; link = link; is_kind = h.0; is_link = h.1; text = inr (rests_agree (codes "hand ") _ bytes e) }
handed_only (events.Hand kind link false) bytes h e =
    record { kind = kind; link = link; is_kind = h.0; is_link = h.1; text = inl (rests_agree (codes "hand ") _ bytes e) }
handed_only (events.Refused refusals.Empty) bytes h e = absurd (apart (codes "Empty") (spaced (codes "hand") bytes) refl e)
handed_only other bytes h e = absurd (apart (event_text other) (spaced (codes "hand") bytes) refl e)

-- a kind is told from what stands behind it in one way
pub kinds_agree : (k l : Kind) (a b : List ℕ) → IsKind k → IsKind l → spaced (kind_text k) a ≡ spaced (kind_text l) b → (k ≡ l) × (a ≡ b)
kinds_agree (kinds.Item n) (kinds.Item m) a b h i e =
    let r =
    one_parting 32 (decimal n) a (decimal m) b (number_lacks n h) (number_lacks m i)
    (rests_agree (codes "item ") _ (decimal m ++ 32 ∷ b) e) in
    (ap (λ (q : ℕ). kinds.Item q) (decimal_injective n m h i r.0), r.1)
kinds_agree kinds.BypassPeer kinds.BypassPeer a b h i e = (refl, rests_agree (codes "BypassPeer ") a b e)
kinds_agree kinds.AcceptBypass kinds.AcceptBypass a b h i e = (refl, rests_agree (codes "AcceptBypass ") a b e)
kinds_agree kinds.StopProxying kinds.StopProxying a b h i e = (refl, rests_agree (codes "StopProxying ") a b e)
kinds_agree kinds.ProxyWillStop kinds.ProxyWillStop a b h i e = (refl, rests_agree (codes "ProxyWillStop ") a b e)
kinds_agree kinds.Flush kinds.Flush a b h i e = (refl, rests_agree (codes "Flush ") a b e)
kinds_agree k l a b h i e = absurd (apart (spaced (kind_text k) a) (spaced (kind_text l) b) refl e)

-- the first word of a kind is item with a number behind it, or all of it
pub kind_word : (kind : Kind) (a first rest : List ℕ) → IsKind kind → Lacks 32 first → spaced (kind_text kind) a ≡ spaced first rest
    → ((first ≡ codes "item") × (n : ℕ) × IsNumber n × (kind ≡ kinds.Item n) × (spaced (decimal n) a ≡ rest)) ⊎
    ((kind_text kind ≡ first) × (a ≡ rest))
kind_word (kinds.Item n) a first rest h none e =
    let r = one_parting 32 (codes "item") (spaced (decimal n) a) first rest (known (codes "item") (omega arith)) none e in
    inl (sym r.0, n, h, refl, r.1)
kind_word kinds.BypassPeer a first rest h none e =
    inr (one_parting 32 (codes "BypassPeer") a first rest (known (codes "BypassPeer") (omega arith)) none e)
kind_word kinds.AcceptBypass a first rest h none e =
    inr (one_parting 32 (codes "AcceptBypass") a first rest (known (codes "AcceptBypass") (omega arith)) none e)
kind_word kinds.StopProxying a first rest h none e =
    inr (one_parting 32 (codes "StopProxying") a first rest (known (codes "StopProxying") (omega arith)) none e)
kind_word kinds.ProxyWillStop a first rest h none e =
    inr (one_parting 32 (codes "ProxyWillStop") a first rest (known (codes "ProxyWillStop") (omega arith)) none e)
kind_word kinds.Flush a first rest h none e = inr (one_parting 32 (codes "Flush") a first rest (known (codes "Flush") (omega arith)) none e)

words_apart : (values text : List ℕ) → differ (codes "words") text ≡ true → ((b : ℕ) (bs : List ℕ)
    → differ (spaced (codes "words") (b ∷ bs)) text ≡ true) → and_more (codes "words") values ≡ text → ⊥
words_apart [] text h k e = apart (codes "words") text h e
words_apart (b ∷ bs) text h k e = apart (spaced (codes "words") (b ∷ bs)) text (k b bs) e

-- a name and an answer
pub record Answered (bytes : List ℕ) : Type 0 where
  pub name : Bor (List ℕ)
  pub answer : Answer
  pub is_name : IsName name.now
  pub is_answer : IsAnswer answer
  pub text : spaced name.now (answer_text answer) ≡ bytes

pub put_only : (x : Line) (bytes : List ℕ) → FitsLine x → line_text x ≡ spaced (codes "put") bytes → Answered bytes
put_only (lines.Put name answer) bytes h e =
    record { name = name; answer = answer; is_name = h.0; is_answer = h.1; text = rests_agree (codes "put ") _ bytes e }
put_only (lines.Words values) bytes h e = absurd (words_apart values.now (spaced (codes "put") bytes) refl (λ b bs. refl) e)
put_only other bytes h e = absurd (apart (line_text other) (spaced (codes "put") bytes) refl e)

pub closed_only : (x : Line) (bytes : List ℕ) → FitsLine x → line_text x ≡ spaced (codes "close") bytes → Answered bytes
closed_only (lines.Close name answer) bytes h e =
    record { name = name; answer = answer; is_name = h.0; is_answer = h.1; text = rests_agree (codes "close ") _ bytes e }
closed_only (lines.Words values) bytes h e = absurd (words_apart values.now (spaced (codes "close") bytes) refl (λ b bs. refl) e)
closed_only other bytes h e = absurd (apart (line_text other) (spaced (codes "close") bytes) refl e)

-- two names, and what an open was answered
pub record Opened (bytes : List ℕ) : Type 0 where
  pub first : List ℕ
  pub second : List ℕ
  pub why : Option Refusal
  pub is_first : IsName first
  pub is_second : IsName second
  pub text : spaced first (spaced second (opened_text why)) ≡ bytes

pub opened_only : (x : Line) (bytes : List ℕ) → FitsLine x → line_text x ≡ spaced (codes "open") bytes → Opened bytes
opened_only (lines.Open first second why) bytes h e =
    record {
      first =
          first.now;
      second = second.now;
      why = why;
      is_first = h.0;
      is_second = h.1;
      text = rests_agree (codes "open ") _ bytes e;
    }
opened_only (lines.Words values) bytes h e = absurd (words_apart values.now (spaced (codes "open") bytes) refl (λ b bs. refl) e)
opened_only other bytes h e = absurd (apart (line_text other) (spaced (codes "open") bytes) refl e)

-- a name, and why nothing was got or what was
pub record Got (bytes : List ℕ) : Type 0 where
  pub name : List ℕ
  pub behind : List ℕ
  pub is_name : IsName name
  pub got : ((why : Refusal) × (refusal_text why ≡ behind)) ⊎
      ((n : ℕ) × (names : List ℕ) × (data_ : List ℕ) × IsNumber n × AreNames names × (parcel_text n names data_ ≡ behind))
  pub text : spaced name behind ≡ bytes

pub got_only : (x : Line) (bytes : List ℕ) → FitsLine x → line_text x ≡ spaced (codes "get") bytes → Got bytes
got_only (lines.Missed name why) bytes h e =
    record { name = name.now; behind = refusal_text why; is_name = h; got = inl (why, refl); text = rests_agree (codes "get ") _ bytes e }
got_only (lines.Got name n names bs) bytes h e =
    record {
      name =
          name.now;
      behind = parcel_text n names.now bs.now;
      is_name = h.0;
      got = inr (n, names.now, bs.now, h.1, h.2, refl);
      text =
          rests_agree (codes "get ") _ bytes e;
    }
got_only (lines.Words values) bytes h e = absurd (words_apart values.now (spaced (codes "get") bytes) refl (λ b bs. refl) e)
got_only other bytes h e = absurd (apart (line_text other) (spaced (codes "get") bytes) refl e)

pub refused_only : (x : Line) (bytes : List ℕ) → FitsLine x → line_text x ≡ spaced (codes "refused") bytes
    → (fault : Fault) × IsFault fault × (fault_text fault ≡ bytes)
refused_only (lines.Refused fault) bytes h e = (fault, h, rests_agree (codes "refused ") _ bytes e)
refused_only (lines.Words values) bytes h e = absurd (words_apart values.now (spaced (codes "refused") bytes) refl (λ b bs. refl) e)
refused_only other bytes h e = absurd (apart (line_text other) (spaced (codes "refused") bytes) refl e)

pub values_only : (x : Line) (bytes : List ℕ) → FitsLine x → line_text x ≡ spaced (codes "words") bytes → AreParted IsWordText 32 bytes
values_only (lines.Words values) bytes h e = some_values values.now bytes h e
  where
    some_values : (values bytes : List ℕ) → AreWords values → and_more (codes "words") values ≡ spaced (codes "words") bytes → AreParted
        IsWordText 32 bytes
    some_values [] bytes h e = absurd (not_parted 32 (codes "words") bytes (codes "words") (known (codes "words") (omega arith)) (sym e))
    some_values (b ∷ bs) bytes h e = subst (AreParted IsWordText 32) (rests_agree (codes "words ") (b ∷ bs) bytes e) h
values_only other bytes h e = absurd (apart (line_text other) (spaced (codes "words") bytes) refl e)

-- the first word of a turn
abbrev pub turn_word : ℕ → List ℕ
turn_word node = 110 ∷ (decimal node ++ 58 ∷ [])

turn_lacks : (node : ℕ) → IsNodeNumber node → Lacks 32 (turn_word node)
turn_lacks node h =
    All-cons NoSpace 110 (decimal node ++ 58 ∷ []) (λ e. absurd (omega arith))
    (All-append NoSpace (decimal node) (58 ∷ []) (number_lacks node (omega arith))
    (All-cons NoSpace 58 [] (λ e. absurd (omega arith)) (All-nil NoSpace)))

-- a turn with its node and event
pub record Turned (first bytes : List ℕ) : Type 0 where
  pub node : ℕ
  pub event : Event
  pub is_node : IsNodeNumber node
  pub is_event : IsEvent event
  pub named : turn_word node ≡ first
  pub text : event_text event ≡ bytes

pub turned_only : (x : Line) (first bytes : List ℕ) → Lacks 32 first → IsTurn x → line_text x ≡ spaced first bytes → Turned first bytes
turned_only (lines.Turn node event) first bytes none h e =
    let r = one_parting 32 (turn_word node) (event_text event) first bytes (turn_lacks node h.0) none e in
    record { node = node; event = event; is_node = h.0; is_event = h.1; named = r.0; text = r.1 }
turned_only other first bytes none h e = absurd h

pub turn_line : (x : Line) → IsTurn x → FitsLine x
turn_line (lines.Turn node event) h = h
turn_line other h = absurd h

-- the first words that tell a line
pub record NoLineWord (first : List ℕ) : Type 0 where
  pub open_ : first ≢ codes "open"
  pub put : first ≢ codes "put"
  pub close : first ≢ codes "close"
  pub get : first ≢ codes "get"
  pub words : first ≢ codes "words"
  pub refused : first ≢ codes "refused"

-- behind another word stands a turn
pub other_line : (x : Line) (first rest : List ℕ) → Lacks 32 first → NoLineWord first → FitsLine x → line_text x ≡ spaced first rest
    → IsTurn x
other_line (lines.Turn node event) first rest none unlike h e = h
other_line lines.Settled first rest none unlike h e =
    absurd (not_parted 32 first rest (codes "settled") (known (codes "settled") (omega arith)) (sym e))
other_line lines.Unsettled first rest none unlike h e =
    absurd (not_parted 32 first rest (codes "unsettled") (known (codes "unsettled") (omega arith)) (sym e))
other_line (lines.Words values) first rest none unlike h e = absurd (no_words values.now first rest none unlike.words e)
  where
    no_words : (values first rest : List ℕ) → Lacks 32 first → first ≢ codes "words" → and_more (codes "words") values ≡ spaced first rest →
        ⊥
    no_words [] first rest none unlike e = not_parted 32 first rest (codes "words") (known (codes "words") (omega arith)) (sym e)
    no_words (b ∷ bs) first rest none unlike e = known_first (codes "words") first (b ∷ bs) rest (omega arith) none unlike e
other_line (lines.Open a b why) first rest none unlike h e =
    absurd (known_first (codes "open") first _ rest (omega arith) none unlike.open_ e)
other_line (lines.Put name answer) first rest none unlike h e =
    absurd (known_first (codes "put") first _ rest (omega arith) none unlike.put e)
other_line (lines.Close name answer) first rest none unlike h e =
    absurd (known_first (codes "close") first _ rest (omega arith) none unlike.close e)
other_line (lines.Missed name why) first rest none unlike h e =
    absurd (known_first (codes "get") first _ rest (omega arith) none unlike.get e)
other_line (lines.Got name n names bs) first rest none unlike h e =
    absurd (known_first (codes "get") first _ rest (omega arith) none unlike.get e)
other_line (lines.Refused fault) first rest none unlike h e =
    absurd (known_first (codes "refused") first _ rest (omega arith) none unlike.refused e)

-- what is read as a turn is read as a line
pub turn_reads : (first rest bytes : List ℕ) (r : Option Line) → Lacks 32 first → NoLineWord first → bytes ≡ spaced first rest
    → Reads line_text IsTurn (spaced first rest) r → Reads line_text FitsLine bytes r
turn_reads first rest bytes (Some x) none unlike e h = (turn_line x h.0, h.1 ∙ sym e)
turn_reads first rest bytes None none unlike e h = λ x fits t. h x (other_line x first rest none unlike fits (t ∙ e)) (t ∙ e)

-- a line of one word
pub lone_line : (x : Line) (bytes : List ℕ) → Lacks 32 bytes → line_text x ≡ bytes
    → (codes "settled" ≡ bytes) ⊎ ((codes "unsettled" ≡ bytes) ⊎ (codes "words" ≡ bytes))
lone_line lines.Settled bytes none e = inl e
lone_line lines.Unsettled bytes none e = inr (inl e)
lone_line (lines.Words values) bytes none e = inr (inr (no_values values.now bytes none e))
  where
    no_values : (values bytes : List ℕ) → Lacks 32 bytes → and_more (codes "words") values ≡ bytes → codes "words" ≡ bytes
    no_values [] bytes none e = e
    no_values (b ∷ bs) bytes none e = absurd (not_parted 32 (codes "words") (b ∷ bs) bytes none e)
lone_line (lines.Open first second why) bytes none e = absurd (not_parted 32 (codes "open") _ bytes none e)
lone_line (lines.Put name answer) bytes none e = absurd (not_parted 32 (codes "put") _ bytes none e)
lone_line (lines.Close name answer) bytes none e = absurd (not_parted 32 (codes "close") _ bytes none e)
lone_line (lines.Missed name why) bytes none e = absurd (not_parted 32 (codes "get") _ bytes none e)
lone_line (lines.Got name n names bs) bytes none e = absurd (not_parted 32 (codes "get") _ bytes none e)
lone_line (lines.Turn node event) bytes none e = absurd (not_parted 32 (turn_word node) _ bytes none e)
lone_line (lines.Refused fault) bytes none e = absurd (not_parted 32 (codes "refused") _ bytes none e)

-- the words that are kinds
pub record NoKindWord (bytes : List ℕ) : Type 0 where
  pub bypass_peer : bytes ≢ codes "BypassPeer"
  pub accept_bypass : bytes ≢ codes "AcceptBypass"
  pub stop_proxying : bytes ≢ codes "StopProxying"
  pub proxy_will_stop : bytes ≢ codes "ProxyWillStop"
  pub flush : bytes ≢ codes "Flush"

-- a kind of one word
pub kind_alone : (kind : Kind) (bytes : List ℕ) → Lacks 32 bytes → NoKindWord bytes → kind_text kind ≡ bytes → ⊥
kind_alone (kinds.Item n) bytes none other e = not_parted 32 (codes "item") (decimal n) bytes none e
kind_alone kinds.BypassPeer bytes none other e = other.bypass_peer (sym e)
kind_alone kinds.AcceptBypass bytes none other e = other.accept_bypass (sym e)
kind_alone kinds.StopProxying bytes none other e = other.stop_proxying (sym e)
kind_alone kinds.ProxyWillStop bytes none other e = other.proxy_will_stop (sym e)
kind_alone kinds.Flush bytes none other e = other.flush (sym e)

-- the word item alone is no kind
pub no_item : (kind : Kind) → kind_text kind ≡ codes "item" → ⊥
no_item (kinds.Item n) e = let r : 32 ∷ decimal n ≡ [] = rests_agree (codes "item") (32 ∷ decimal n) [] e in cc
no_item other e = apart (kind_text other) (codes "item") refl e

pub moves_lacks : Lacks 32 (codes "moves")
moves_lacks = known (codes "moves") (omega arith)

-- a fault of one word
pub lone_fault : (fault : Fault) (bytes : List ℕ) → Lacks 32 bytes → fault_text fault ≡ bytes
    → (codes "NotJson" ≡ bytes) ⊎ (codes "TooLong" ≡ bytes)
lone_fault faults.NotJson bytes none e = inl e
lone_fault faults.TooLong bytes none e = inr e
lone_fault (faults.BadShape n) bytes none e = absurd (not_parted 32 (codes "BadShape") (decimal n) bytes none e)

pub other_fault : (fault : Fault) (first rest : List ℕ) → Lacks 32 first → first ≢ codes "BadShape"
    → fault_text fault ≡ spaced first rest → ⊥
other_fault faults.NotJson first rest none other e =
    not_parted 32 first rest (codes "NotJson") (known (codes "NotJson") (omega arith)) (sym e)
other_fault faults.TooLong first rest none other e =
    not_parted 32 first rest (codes "TooLong") (known (codes "TooLong") (omega arith)) (sym e)
other_fault (faults.BadShape n) first rest none other e = known_first (codes "BadShape") first (decimal n) rest (omega arith) none other e

-- a parcel with its number, names and data
pub record Parcel (first bytes : List ℕ) : Type 0 where
  pub n : ℕ
  pub names : List ℕ
  pub bs : List ℕ
  pub number : IsNumber n
  pub are_names : AreNames names
  pub named : decimal n ≡ first
  pub text : 91 ∷ (names ++ 93 ∷ 32 ∷ 34 ∷ (bs ++ 34 ∷ [])) ≡ bytes

parcel_from : (first bytes behind : List ℕ) → Lacks 32 first → behind ≡ spaced first bytes
    → ((why : Refusal) × (refusal_text why ≡ behind)) ⊎
    ((n : ℕ) × (names : List ℕ) × (data_ : List ℕ) × IsNumber n × AreNames names × (parcel_text n names data_ ≡ behind)) → Parcel first
    bytes
parcel_from first bytes behind none e (inl w) = absurd (not_parted 32 first bytes (refusal_text w.0) (refusal_lacks w.0) (sym (w.1 ∙ e)))
parcel_from first bytes behind none e (inr w) =
    let q =
    one_parting 32 (decimal w.0) (91 ∷ (w.1 ++ 93 ∷ 32 ∷ 34 ∷ (w.2 ++ 34 ∷ []))) first bytes (number_lacks w.0 w.3) none (w.5 ∙ e) in
    record { n = w.0; names = w.1; bs = w.2; number = w.3; are_names = w.4; named = q.0; text = q.1 }

pub parcel_only : (x : Line) (name first bytes : List ℕ) → IsName name → Lacks 32 first → FitsLine x
    → line_text x ≡ spaced (codes "get") (spaced name (spaced first bytes)) → Parcel first bytes
parcel_only x name first bytes is none h e =
    let s = got_only x (spaced name (spaced first bytes)) h e in
    let q =
    one_parting 32 s.name s.behind name (spaced first bytes) (name_lacks 32 s.name s.is_name refl) (name_lacks 32 name is refl) s.text
    in
    parcel_from first bytes s.behind none q.1 s.got

joined_lacks : (parts : List (List ℕ)) → AllByRecursion IsName parts → Lacks 93 (joined 44 parts)
joined_lacks [] each = All-nil (λ b. b ≢ 93)
joined_lacks (p ∷ []) each = name_lacks 93 p each.0 refl
joined_lacks (p ∷ q ∷ ps) each =
    All-append (λ b. b ≢ 93) p (44 ∷ joined 44 (q ∷ ps)) (name_lacks 93 p each.0 refl)
    (All-cons (λ b. b ≢ 93) 44 (joined 44 (q ∷ ps)) (λ e. absurd (omega arith)) (joined_lacks (q ∷ ps) each.1))

pub names_lack : (names : List ℕ) → AreNames names → Lacks 93 names
names_lack [] h = All-nil (λ b. b ≢ 93)
names_lack (b ∷ bs) h = subst (Lacks 93) h.whole (joined_lacks h.parts h.each)

line_lacks : (x : ReadLine) → IsReadLine x → Lacks 10 x.text.now
line_lacks x h = All-weaker IsPrintable (λ b. b ≢ 10) (λ b p e. absurd (omega arith)) x.text.now h.prints

-- a line is told from what stands behind its line feed
pub line_ends : (x : ReadLine) (behind text rest bytes : List ℕ) → IsReadLine x → Lacks 10 text → bytes ≡ text ++ 10 ∷ rest
    → with_line_feed x ++ behind ≡ bytes → x.text.now ≡ text
line_ends x behind text rest bytes h none e d =
    (parts_agree 10 x.text.now behind text rest bytes (line_lacks x h) none e (sym (append_assoc x.text.now (10 ∷ []) behind) ∙ d)).0
