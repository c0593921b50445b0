-- The text of an event begins with the words that name its act.
use Rattle.std.proofs.Common.{◌≡◌, ◌∙◌, ℕ, List, [], ◌∷◌, ◌++◌, refl, sym, ap, subst, codes, inl, inr, append_assoc, append-nil}
use Rattle.std.specs.Fmt.{decimal}
use Rattle.ipcz_router.specs.declared.act.RouterAct.{RouterAct}
use Rattle.ipcz_router.specs.declared.act.RouterAct.TheVariants as does
use Rattle.ipcz_base.specs.declared.end.End.{End}
use Rattle.ipcz_base.specs.declared.link_id.LinkId.{LinkId}
use Rattle.ipcz_base.specs.Texts.{link_text}
use Rattle.ipcz_node.specs.declared.act.Act.{Act}
use Rattle.ipcz_node.specs.declared.act.Act.TheVariants as acts
use Rattle.ipcz_node.specs.declared.happened.Happened.{Happened}
use Rattle.ipcz_node.specs.declared.happened.Happened.TheVariants as events
use Rattle.ipcz_script.specs.EventTexts.{event_text, link_event, moved_text, sent_text, word_text}
use Rattle.ipcz_script.proofs.OneSaying.{number-lacks}
use Rattle.ipcz_events.specs.declared.naming.Named.{Named}
use Rattle.ipcz_events.specs.declared.naming.Named.TheVariants as named
use Rattle.ipcz_events.specs.Naming.{IsNamedBy, IsTold, act_text, behind_word, first_word, name_of}
use Rattle.ipcz_events.proofs.FirstWords.{tested_front}

-- the name of the act that was seen
abbrev pub seen_name : Happened → Named
seen_name (events.Hand kind link unfit) = named.Hand
seen_name (events.Look sender) = named.Look sender
seen_name (events.Post to) = named.Post to
seen_name (events.Close end) = named.Close end
seen_name (events.SendOut s n link moved) = named.Router s does.SendOut
seen_name (events.SendIn s n link moved) = named.Router s does.SendIn
seen_name (events.Discard s n) = named.Router s does.Discard
seen_name (events.DiscardLeave s n) = named.Router s does.Discard
seen_name (events.FinishOut s link) = named.Router s does.FinishOut
seen_name (events.FinishIn s link) = named.Router s does.FinishIn
seen_name (events.Leave s) = named.Router s does.Leave
seen_name (events.Mark s link word) = named.Router s does.Mark
seen_name (events.Wake s link word) = named.Router s does.Wake
seen_name (events.Claim s word) = named.Router s does.Claim
seen_name (events.ClaimNoWord s) = named.Router s does.Claim
seen_name (events.Lock s link word) = named.Router s does.Lock
seen_name (events.Wait s link word) = named.Router s does.Lock
seen_name (events.Refused s link word) = named.Router s does.Lock
seen_name (events.Begin s link) = named.Router s does.Begin
seen_name (events.Retire s n link) = named.Router s does.Retire
seen_name (events.Unlock s link word) = named.Router s does.Unlock
seen_name (events.Rest s) = named.Router s does.Rest
seen_name events.Idle = named.Idle

-- the text of a name
abbrev IsBegun : List ℕ → Named → Type 0
IsBegun text name = IsNamedBy (first_word text) (behind_word text) name

abbrev router : ℕ → List ℕ
router serial = 114 ∷ decimal serial

-- ---- texts that begin with a router

-- these words stand behind the router, and then whatever there is
abbrev IsHeaded : ℕ → List ℕ → List ℕ → Type 0
IsHeaded s words text = (rest : List ℕ) × (text ≡ router s ++ 32 ∷ (words ++ rest))

headed : (s : ℕ) (words text : List ℕ) → text ≡ router s ++ 32 ∷ words → IsHeaded s words text
headed s words text e = ([], e ∙ ap (λ (l : List ℕ). router s ++ 32 ∷ l) (sym (append-nil words)))

more : (s : ℕ) (words text tail : List ℕ) → IsHeaded s words text → IsHeaded s words (text ++ tail)
more s words text tail h = (
  h.0 ++ tail,
  ap (λ (l : List ℕ). l ++ tail) h.1 ∙ append_assoc (router s) (32 ∷ (words ++ h.0)) tail
      ∙ ap (λ (l : List ℕ). router s ++ 32 ∷ l) (append_assoc words h.0 tail),
)

-- one word, with the space behind it
one_word : (s : ℕ) (verb : List ℕ) → IsHeaded s (verb ++ codes " ") (router s ++ codes " " ++ verb ++ codes " ")
one_word s verb =
    headed s (verb ++ codes " ") (router s ++ codes " " ++ verb ++ codes " ")
    (append_assoc (router s ++ codes " ") verb (codes " ") ∙ append_assoc (router s) (codes " ") (verb ++ codes " "))

-- a send and its way
send_word : (s : ℕ) (way : List ℕ) → IsHeaded s (codes "send " ++ (way ++ codes " ")) (router s ++ codes " send " ++ way ++ codes " ")
send_word s way =
    headed s (codes "send " ++ (way ++ codes " ")) (router s ++ codes " send " ++ way ++ codes " ")
    (append_assoc (router s ++ codes " send ") way (codes " ") ∙ append_assoc (router s) (codes " send ") (way ++ codes " "))

linked : (s : ℕ) (verb : List ℕ) (link : LinkId) → IsHeaded s (verb ++ codes " ") (link_event s verb link)
linked s verb link = more s (verb ++ codes " ") (router s ++ codes " " ++ verb ++ codes " ") (link_text link) (one_word s verb)

worded : (s : ℕ) (verb : List ℕ) (link : LinkId) (word : ℕ) → IsHeaded s (verb ++ codes " ") (word_text s verb link word)
worded s verb link word =
    more s (verb ++ codes " ") (link_event s verb link ++ codes " ") (decimal word)
    (more s (verb ++ codes " ") (link_event s verb link) (codes " ") (linked s verb link))

sent : (s : ℕ) (way : List ℕ) (n : ℕ) (link : LinkId) (moved : List End) →
    IsHeaded s (codes "send " ++ (way ++ codes " ")) (sent_text s way n link moved)
sent s way n link moved =
    let words : List ℕ = codes "send " ++ (way ++ codes " ") in
    let one : List ℕ = router s ++ codes " send " ++ way ++ codes " " in
    let two : List ℕ = one ++ decimal n in
    let three : List ℕ = two ++ codes " " in
    let four : List ℕ = three ++ link_text link in
    more s words four (moved_text moved)
    (more s words three (link_text link) (more s words two (codes " ") (more s words one (decimal n) (send_word s way))))

-- a word with its space, and a number
numbered : (s : ℕ) (words : List ℕ) (n : ℕ) → IsHeaded s words (router s ++ 32 ∷ words ++ decimal n)
numbered s words n = more s words (router s ++ 32 ∷ words) (decimal n) (headed s words (router s ++ 32 ∷ words) refl)

-- what is told by the words is what is named
headed-named : (s : ℕ) (words text : List ℕ) (act : RouterAct) → IsHeaded s words text →
    ((rest : List ℕ) → IsTold (first_word (words ++ rest)) (first_word (behind_word (words ++ rest))) act) → IsBegun text (named.Router s act)
headed-named s words text act h told =
    let t = tested_front (router s) (words ++ h.0) (number-lacks s) in (
      ap first_word h.1 ∙ t.0,
      subst (λ (l : List ℕ). IsTold (first_word l) (first_word (behind_word l)) act) (sym (ap behind_word h.1 ∙ t.1)) (told h.0),
    )

-- the same of words behind which nothing stands
whole-named : (s : ℕ) (words : List ℕ) (act : RouterAct) → IsTold (first_word words) (first_word (behind_word words)) act →
    IsBegun (router s ++ 32 ∷ words) (named.Router s act)
whole-named s words act told =
    let t = tested_front (router s) words (number-lacks s) in
    (t.0, subst (λ (l : List ℕ). IsTold (first_word l) (first_word (behind_word l)) act) (sym t.1) told)

-- ---- texts of events

-- what these words tell of a router, whatever stands behind them
abbrev IsToldBy : List ℕ → RouterAct → Type 0
IsToldBy words act = (rest : List ℕ) → IsTold (first_word (words ++ rest)) (first_word (behind_word (words ++ rest))) act

by_link : (s : ℕ) (verb : List ℕ) (link : LinkId) (act : RouterAct) → IsToldBy (verb ++ codes " ") act →
    IsBegun (link_event s verb link) (named.Router s act)
by_link s verb link act = headed-named s (verb ++ codes " ") (link_event s verb link) act (linked s verb link)

by_word : (s : ℕ) (verb : List ℕ) (link : LinkId) (word : ℕ) (act : RouterAct) → IsToldBy (verb ++ codes " ") act →
    IsBegun (word_text s verb link word) (named.Router s act)
by_word s verb link word act = headed-named s (verb ++ codes " ") (word_text s verb link word) act (worded s verb link word)

by_way : (s : ℕ) (way : List ℕ) (n : ℕ) (link : LinkId) (moved : List End) (act : RouterAct) → IsToldBy (codes "send " ++ (way ++ codes " ")) act →
    IsBegun (sent_text s way n link moved) (named.Router s act)
by_way s way n link moved act =
    headed-named s (codes "send " ++ (way ++ codes " ")) (sent_text s way n link moved) act (sent s way n link moved)

by_number : (s : ℕ) (words : List ℕ) (n : ℕ) (tail : List ℕ) (act : RouterAct) → IsToldBy words act →
    IsBegun (router s ++ 32 ∷ words ++ decimal n ++ tail) (named.Router s act)
by_number s words n tail act =
    headed-named s words (router s ++ 32 ∷ words ++ decimal n ++ tail) act
    (more s words (router s ++ 32 ∷ words ++ decimal n) tail (numbered s words n))

retired : (s n : ℕ) (link : LinkId) → IsBegun (event_text (events.Retire s n link)) (named.Router s does.Retire)
retired s n link =
    let words : List ℕ = codes "retire " in
    let one : List ℕ = router s ++ 32 ∷ words ++ decimal n in
    headed-named s words (one ++ codes " " ++ link_text link) does.Retire
    (more s words (one ++ codes " ") (link_text link) (more s words one (codes " ") (numbered s words n))) (λ rest. refl)

claimed : (s word : ℕ) → IsBegun (event_text (events.Claim s word)) (named.Router s does.Claim)
claimed s word =
    headed-named s (codes "claim ") (router s ++ 32 ∷ codes "claim " ++ decimal word) does.Claim (numbered s (codes "claim ") word) (λ rest. refl)

discarded : (s n : ℕ) → IsBegun (event_text (events.Discard s n)) (named.Router s does.Discard)
discarded s n =
    headed-named s (codes "discard ") (router s ++ 32 ∷ codes "discard " ++ decimal n) does.Discard (numbered s (codes "discard ") n)
    (λ rest. refl)

pub begins : (event : Happened) → IsBegun (event_text event) (seen_name event)
begins (events.Hand kind link unfit) = refl
begins (events.Look sender) = (refl, refl)
begins (events.Post to) = (refl, refl)
begins (events.Close end) = (refl, refl)
begins (events.SendOut s n link moved) = by_way s (codes "out") n link moved does.SendOut (λ rest. (refl, refl))
begins (events.SendIn s n link moved) = by_way s (codes "in") n link moved does.SendIn (λ rest. (refl, refl))
begins (events.Discard s n) = discarded s n
begins (events.DiscardLeave s n) = by_number s (codes "discard ") n (codes " leave") does.Discard (λ rest. refl)
begins (events.FinishOut s link) = by_link s (codes "finish out") link does.FinishOut (λ rest. (refl, refl))
begins (events.FinishIn s link) = by_link s (codes "finish in") link does.FinishIn (λ rest. (refl, refl))
begins (events.Leave s) = whole-named s (codes "leave") does.Leave refl
begins (events.Mark s link word) = by_word s (codes "mark") link word does.Mark (λ rest. refl)
begins (events.Wake s link word) = by_word s (codes "wake") link word does.Wake (λ rest. refl)
begins (events.Claim s word) = claimed s word
begins (events.ClaimNoWord s) = whole-named s (codes "claim NoWord") does.Claim refl
begins (events.Lock s link word) = by_word s (codes "lock") link word does.Lock (λ rest. inl refl)
begins (events.Wait s link word) = by_word s (codes "wait") link word does.Lock (λ rest. inr (inl refl))
begins (events.Refused s link word) = by_word s (codes "refused") link word does.Lock (λ rest. inr (inr refl))
begins (events.Begin s link) = by_link s (codes "begin") link does.Begin (λ rest. refl)
begins (events.Retire s n link) = retired s n link
begins (events.Unlock s link word) = by_word s (codes "unlock") link word does.Unlock (λ rest. refl)
begins (events.Rest s) = whole-named s (codes "rest") does.Rest refl
begins events.Idle = refl

-- ---- texts of acts

routed : (s : ℕ) (words : List ℕ) (act : RouterAct) → IsTold (first_word words) (first_word (behind_word words)) act →
    IsBegun (router s ++ codes " " ++ words) (named.Router s act)
routed s words act told =
    subst (λ (l : List ℕ). IsBegun l (named.Router s act)) (sym (append_assoc (router s) (codes " ") words)) (whole-named s words act told)

pub words_name : (act : Act) → IsBegun (act_text act) (name_of act)
words_name (acts.Hand sender) = refl
words_name (acts.Look sender) = (refl, refl)
words_name (acts.Post to) = (refl, refl)
words_name (acts.Close end) = (refl, refl)
words_name (acts.Router s does.SendOut) = routed s (codes "send out") does.SendOut (refl, refl)
words_name (acts.Router s does.SendIn) = routed s (codes "send in") does.SendIn (refl, refl)
words_name (acts.Router s does.Discard) = routed s (codes "discard") does.Discard refl
words_name (acts.Router s does.FinishOut) = routed s (codes "finish out") does.FinishOut (refl, refl)
words_name (acts.Router s does.FinishIn) = routed s (codes "finish in") does.FinishIn (refl, refl)
words_name (acts.Router s does.Leave) = routed s (codes "leave") does.Leave refl
words_name (acts.Router s does.Mark) = routed s (codes "mark") does.Mark refl
words_name (acts.Router s does.Wake) = routed s (codes "wake") does.Wake refl
words_name (acts.Router s does.Claim) = routed s (codes "claim") does.Claim refl
words_name (acts.Router s does.Lock) = routed s (codes "lock") does.Lock (inl refl)
words_name (acts.Router s does.Begin) = routed s (codes "begin") does.Begin refl
words_name (acts.Router s does.Retire) = routed s (codes "retire") does.Retire refl
words_name (acts.Router s does.Unlock) = routed s (codes "unlock") does.Unlock refl
words_name (acts.Router s does.Rest) = routed s (codes "rest") does.Rest refl
words_name acts.Idle = refl
