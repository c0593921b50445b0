-- Why events that print alike are one.
use Rattle.std.proofs.Common.{◌≡◌, ◌∙◌, ℕ, Bool, true, false, List, [], ◌∷◌, ◌++◌, refl, sym, ap, append_assoc, append-nil}
use Rattle.std.proofs.Common.{◌+◌, ◌*◌, zero, suc, arith, codes, drop, subst}
use Rattle.std.specs.List.{AllByRecursion}
use Rattle.std.specs.Fmt.{decimal}
use Rattle.std.proofs.lemmas.Fmt.{decimal_injective}
use Rattle.ipcz_base.specs.declared.side.Side.{Side}
use Rattle.ipcz_base.specs.declared.side.Side.TheVariants as sides
use Rattle.ipcz_base.specs.declared.end.End.{End}
use Rattle.ipcz_base.specs.declared.link_id.LinkId.{LinkId}
use Rattle.ipcz_base.specs.declared.link_id.LinkId.TheVariants.{Central, Peripheral}
use Rattle.ipcz_base.specs.Texts.{end_text, link_text, side_text}
use Rattle.ipcz_node.specs.declared.happened.Handed.{Handed}
use Rattle.ipcz_node.specs.declared.happened.Handed.TheVariants as kinds
use Rattle.ipcz_node.specs.declared.happened.Happened.{Happened}
use Rattle.ipcz_node.specs.declared.happened.Happened.TheVariants as events
use Rattle.ipcz_script.specs.EventTexts.{event_text, hand_text, kind_text, more_ends, moved_text, sent_text, unfit_text}
use Rattle.ipcz_script.specs.ReadBack.{lacks, spaced}
use Rattle.ipcz_script.specs.SendLines.{HavePairs}
use Rattle.ipcz_script.specs.Sayings.{HasBits}
use Rattle.ipcz_script.specs.EventLaws.{EventHasBits, KindHasBits, LinkHasBits, TextsAreOneEvent}
use Rattle.ipcz_script.proofs.Feeds.{decimal_lacks, decimal_some, lacks-append, one_parting}
use Rattle.ipcz_script.proofs.CountedLines.{numbered}
use Rattle.ipcz_script.proofs.SayingTexts.{opened}
use Rattle.ipcz_script.proofs.SendLines.{moved_tell, one_end}
use Rattle.ipcz_script.proofs.OneSaying.{IsWord, joined-read, number-lacks}

-- ---- the words of an event

abbrev kind_words : Handed → List (List ℕ)
kind_words (kinds.Item n) = codes "item" ∷ decimal n ∷ []
kind_words kinds.BypassPeer = codes "BypassPeer" ∷ []
kind_words kinds.AcceptBypass = codes "AcceptBypass" ∷ []
kind_words kinds.StopProxying = codes "StopProxying" ∷ []
kind_words kinds.ProxyWillStop = codes "ProxyWillStop" ∷ []
kind_words kinds.Flush = codes "Flush" ∷ []

abbrev unfit_word : Handed → List ℕ
unfit_word kinds.Flush = codes "dropped"
unfit_word other = codes "stray"

abbrev unfit_words : Handed → Bool → List (List ℕ)
unfit_words kind false = []
unfit_words kind true = unfit_word kind ∷ []

abbrev moved_words : List End → List (List ℕ)
moved_words [] = []
moved_words (e ∷ es) = codes "moves" ∷ (end_text e ++ more_ends es) ∷ []

abbrev router : ℕ → List ℕ
router serial = 114 ∷ decimal serial

abbrev event_words : Happened → List (List ℕ)
event_words (events.Hand kind link unfit) = codes "hand" ∷ (kind_words kind ++ link_text link ∷ unfit_words kind unfit)
event_words (events.Look sender) = codes "look" ∷ decimal sender ∷ []
event_words (events.Post to) = codes "post" ∷ decimal to ∷ []
event_words (events.Close end) = codes "close" ∷ end_text end ∷ []
event_words (events.SendOut s n link moved) =
    router s ∷ codes "send" ∷ codes "out" ∷ decimal n ∷ link_text link ∷ moved_words moved
event_words (events.SendIn s n link moved) = router s ∷ codes "send" ∷ codes "in" ∷ decimal n ∷ link_text link ∷ moved_words moved
event_words (events.Discard s n) = router s ∷ codes "discard" ∷ decimal n ∷ []
event_words (events.DiscardLeave s n) = router s ∷ codes "discard" ∷ decimal n ∷ codes "leave" ∷ []
event_words (events.FinishOut s link) = router s ∷ codes "finish" ∷ codes "out" ∷ link_text link ∷ []
event_words (events.FinishIn s link) = router s ∷ codes "finish" ∷ codes "in" ∷ link_text link ∷ []
event_words (events.Leave s) = router s ∷ codes "leave" ∷ []
event_words (events.Mark s link word) = router s ∷ codes "mark" ∷ link_text link ∷ decimal word ∷ []
event_words (events.Wake s link word) = router s ∷ codes "wake" ∷ link_text link ∷ decimal word ∷ []
event_words (events.Claim s word) = router s ∷ codes "claim" ∷ decimal word ∷ []
event_words (events.ClaimNoWord s) = router s ∷ codes "claim" ∷ codes "NoWord" ∷ []
event_words (events.Lock s link word) = router s ∷ codes "lock" ∷ link_text link ∷ decimal word ∷ []
event_words (events.Wait s link word) = router s ∷ codes "wait" ∷ link_text link ∷ decimal word ∷ []
event_words (events.Refused s link word) = router s ∷ codes "refused" ∷ link_text link ∷ decimal word ∷ []
event_words (events.Begin s link) = router s ∷ codes "begin" ∷ link_text link ∷ []
event_words (events.Retire s n link) = router s ∷ codes "retire" ∷ decimal n ∷ link_text link ∷ []
event_words (events.Unlock s link word) = router s ∷ codes "unlock" ∷ link_text link ∷ decimal word ∷ []
event_words (events.Rest s) = router s ∷ codes "rest" ∷ []
event_words events.Idle = codes "idle" ∷ []

-- ---- the text is these words

unfit-spaced : (kind : Handed) → unfit_text kind ≡ 32 ∷ unfit_word kind
unfit-spaced kinds.Flush = refl
unfit-spaced kind = refl

fit : (x l : List ℕ) → x ++ codes " " ++ l ++ [] ≡ x ++ 32 ∷ l
fit x l = append-nil (x ++ codes " " ++ l) ∙ append_assoc x (codes " ") l

unfit-text : (x l u w : List ℕ) → u ≡ 32 ∷ w → x ++ codes " " ++ l ++ u ≡ x ++ 32 ∷ (l ++ 32 ∷ w)
unfit-text x l u w same =
    ap (λ t. x ++ codes " " ++ l ++ t) same ∙ append_assoc (x ++ codes " ") l (32 ∷ w) ∙ append_assoc x (codes " ") (l ++ 32 ∷ w)

hand-words : (kind : Handed) (link : LinkId) (unfit : Bool) →
    hand_text kind link unfit ≡ spaced (codes "hand" ∷ (kind_words kind ++ link_text link ∷ unfit_words kind unfit))
hand-words (kinds.Item n) link false = fit (codes "hand " ++ kind_text (kinds.Item n)) (link_text link)
hand-words kind link false = fit (codes "hand " ++ kind_text kind) (link_text link)
hand-words (kinds.Item n) link true =
    unfit-text (codes "hand " ++ kind_text (kinds.Item n)) (link_text link) _ _ (unfit-spaced (kinds.Item n))
hand-words kind link true = unfit-text (codes "hand " ++ kind_text kind) (link_text link) _ _ (unfit-spaced kind)

-- a send without its ends, and with them
sent-words : (x way n l m : List ℕ) → x ++ codes " send " ++ way ++ codes " " ++ n ++ codes " " ++ l ++ m ≡
    x ++ 32 ∷ (codes "send " ++ (way ++ 32 ∷ (n ++ 32 ∷ (l ++ m))))
sent-words x way n l m =
    append_assoc (x ++ codes " send " ++ way ++ codes " " ++ n ++ codes " ") l m
    ∙ append_assoc (x ++ codes " send " ++ way ++ codes " " ++ n) (codes " ") (l ++ m)
    ∙ append_assoc (x ++ codes " send " ++ way ++ codes " ") n (32 ∷ (l ++ m))
    ∙ append_assoc (x ++ codes " send " ++ way) (codes " ") (n ++ 32 ∷ (l ++ m))
    ∙ append_assoc (x ++ codes " send ") way (32 ∷ (n ++ 32 ∷ (l ++ m)))
    ∙ append_assoc x (codes " send ") (way ++ 32 ∷ (n ++ 32 ∷ (l ++ m)))

sent-spaced : (s n : ℕ) (way : List ℕ) (link : LinkId) (moved : List End) → sent_text s way n link moved ≡
    spaced (router s ∷ codes "send" ∷ way ∷ decimal n ∷ link_text link ∷ moved_words moved)
sent-spaced s n way link [] =
    sent-words (router s) way (decimal n) (link_text link) []
    ∙ ap (λ l. router s ++ 32 ∷ (codes "send " ++ (way ++ 32 ∷ (decimal n ++ 32 ∷ l)))) (append-nil (link_text link))
sent-spaced s n way link (e ∷ es) = sent-words (router s) way (decimal n) (link_text link) (moved_text (e ∷ es))

-- a text behind two more
behind_two : (x v n l : List ℕ) → x ++ v ++ n ++ l ≡ x ++ (v ++ (n ++ l))
behind_two x v n l = append_assoc (x ++ v) n l ∙ append_assoc x v (n ++ l)

words-text : (e : Happened) → event_text e ≡ spaced (event_words e)
words-text (events.Hand kind link unfit) = hand-words kind link unfit
words-text (events.SendOut s n link moved) = sent-spaced s n (codes "out") link moved
words-text (events.SendIn s n link moved) = sent-spaced s n (codes "in") link moved
words-text (events.Discard s n) = append_assoc (router s) (codes " discard ") (decimal n)
words-text (events.DiscardLeave s n) = behind_two (router s) (codes " discard ") (decimal n) (codes " leave")
words-text (events.FinishOut s link) = numbered (router s) (codes "finish out") (link_text link)
words-text (events.FinishIn s link) = numbered (router s) (codes "finish in") (link_text link)
words-text (events.Mark s link word) = opened (router s) (codes "mark") (link_text link) (decimal word)
words-text (events.Wake s link word) = opened (router s) (codes "wake") (link_text link) (decimal word)
words-text (events.Claim s word) = append_assoc (router s) (codes " claim ") (decimal word)
words-text (events.Lock s link word) = opened (router s) (codes "lock") (link_text link) (decimal word)
words-text (events.Wait s link word) = opened (router s) (codes "wait") (link_text link) (decimal word)
words-text (events.Refused s link word) = opened (router s) (codes "refused") (link_text link) (decimal word)
words-text (events.Begin s link) = numbered (router s) (codes "begin") (link_text link)
words-text (events.Retire s n link) =
    append_assoc (router s ++ codes " retire " ++ decimal n) (codes " ") (link_text link)
    ∙ behind_two (router s) (codes " retire ") (decimal n) (32 ∷ link_text link)
words-text (events.Unlock s link word) = opened (router s) (codes "unlock") (link_text link) (decimal word)
words-text other = refl

-- ---- each is a word

abbrev W : List ℕ → Type 0
W word = IsWord 32 word

number : (n : ℕ) → W (decimal n)
number n = (number-lacks n, decimal_some n)

named : (s : ℕ) → W (router s)
named s = (number-lacks s, λ e. cc)

link-word : (l : LinkId) → W (link_text l)
link-word (Central word) = (number-lacks word, λ e. cc)
link-word (Peripheral node serial) =
    (lacks-append 32 (decimal node) (46 ∷ decimal serial) (number-lacks node) (number-lacks serial), λ e. cc)

side-lacks : (s : Side) → lacks 32 (side_text s) ≡ true
side-lacks sides.A = refl
side-lacks sides.B = refl

end-lacks : (e : End) → lacks 32 (end_text e) ≡ true
end-lacks e = lacks-append 32 (decimal e.pair) (side_text e.side) (number-lacks e.pair) (side-lacks e.side)

more-lack : (es : List End) → lacks 32 (more_ends es) ≡ true
more-lack [] = refl
more-lack (e ∷ es) = lacks-append 32 (end_text e) (more_ends es) (end-lacks e) (more-lack es)

some : (a b : List ℕ) → (a ≡ [] → ⊥) → a ++ b ≡ [] → ⊥
some [] b h e = h refl
some (x ∷ a) b h e = cc

end-word : (e : End) → W (end_text e)
end-word e = (end-lacks e, some (decimal e.pair) (side_text e.side) (decimal_some e.pair))

moved-word : (e : End) (es : List End) → W (end_text e ++ more_ends es)
moved-word e es =
    (lacks-append 32 (end_text e) (more_ends es) (end-lacks e) (more-lack es), some (end_text e) (more_ends es) (end-word e).1)

moved-are : (es : List End) → AllByRecursion W (moved_words es)
moved-are [] = tt
moved-are (e ∷ es) = ((refl, λ h. cc), (moved-word e es, tt))

unfit-is : (kind : Handed) → W (unfit_word kind)
unfit-is kinds.Flush = (refl, λ h. cc)
unfit-is kind = (refl, λ h. cc)

unfit-are : (kind : Handed) (unfit : Bool) → AllByRecursion W (unfit_words kind unfit)
unfit-are kind false = tt
unfit-are kind true = (unfit-is kind, tt)

hand-are : (kind : Handed) (link : LinkId) (unfit : Bool) → AllByRecursion W (kind_words kind ++ link_text link ∷ unfit_words kind unfit)
hand-are (kinds.Item n) link unfit = ((refl, λ h. cc), (number n, (link-word link, unfit-are (kinds.Item n) unfit)))
hand-are kind link unfit = ((refl, λ h. cc), (link-word link, unfit-are kind unfit))

are-words : (e : Happened) → AllByRecursion W (event_words e)
are-words (events.Hand kind link unfit) = ((refl, λ h. cc), hand-are kind link unfit)
are-words (events.Look sender) = ((refl, λ h. cc), (number sender, tt))
are-words (events.Post to) = ((refl, λ h. cc), (number to, tt))
are-words (events.Close end) = ((refl, λ h. cc), (end-word end, tt))
are-words (events.SendOut s n link moved) = (named s, ((refl, λ h. cc), ((refl, λ h. cc), (number n, (link-word link, moved-are moved)))))
are-words (events.SendIn s n link moved) = (named s, ((refl, λ h. cc), ((refl, λ h. cc), (number n, (link-word link, moved-are moved)))))
are-words (events.Discard s n) = (named s, ((refl, λ h. cc), (number n, tt)))
are-words (events.DiscardLeave s n) = (named s, ((refl, λ h. cc), (number n, ((refl, λ h. cc), tt))))
are-words (events.FinishOut s link) = (named s, ((refl, λ h. cc), ((refl, λ h. cc), (link-word link, tt))))
are-words (events.FinishIn s link) = (named s, ((refl, λ h. cc), ((refl, λ h. cc), (link-word link, tt))))
are-words (events.Leave s) = (named s, ((refl, λ h. cc), tt))
are-words (events.Claim s word) = (named s, ((refl, λ h. cc), (number word, tt)))
are-words (events.ClaimNoWord s) = (named s, ((refl, λ h. cc), ((refl, λ h. cc), tt)))
are-words (events.Begin s link) = (named s, ((refl, λ h. cc), (link-word link, tt)))
are-words (events.Retire s n link) = (named s, ((refl, λ h. cc), (number n, (link-word link, tt))))
are-words (events.Rest s) = (named s, ((refl, λ h. cc), tt))
are-words events.Idle = ((refl, λ h. cc), tt)
are-words (events.Mark s link word) = (named s, ((refl, λ h. cc), (link-word link, (number word, tt))))
are-words (events.Wake s link word) = (named s, ((refl, λ h. cc), (link-word link, (number word, tt))))
are-words (events.Lock s link word) = (named s, ((refl, λ h. cc), (link-word link, (number word, tt))))
are-words (events.Wait s link word) = (named s, ((refl, λ h. cc), (link-word link, (number word, tt))))
are-words (events.Refused s link word) = (named s, ((refl, λ h. cc), (link-word link, (number word, tt))))
are-words (events.Unlock s link word) = (named s, ((refl, λ h. cc), (link-word link, (number word, tt))))

-- ---- words tell the event

abbrev initial : List ℕ → ℕ
initial [] = 0
initial (b ∷ bs) = b

-- the first three letters, as a number
abbrev three : List ℕ → ℕ
three [] = 0
three (a ∷ []) = 0
three (a ∷ b ∷ []) = 0
three (a ∷ b ∷ c ∷ bs) = a + 256 * (b + 256 * c)

abbrev word_at : ℕ → List (List ℕ) → List ℕ
word_at n [] = []
word_at zero (w ∷ ws) = w
word_at (suc n) (w ∷ ws) = word_at n ws

same_link : (l k : LinkId) → LinkHasBits l → LinkHasBits k → link_text l ≡ link_text k → l ≡ k
same_link (Central v) (Central w) h k e = ap Central (decimal_injective v w h k (ap (drop {A = ℕ} 1) e))
same_link (Peripheral m s) (Peripheral n t) h k e =
    let u = one_parting 46 (decimal m) (decimal s) (decimal n) (decimal t) (decimal_lacks 46 m (λ d. absurd (omega (arith, d.0))))
    (decimal_lacks 46 n (λ d. absurd (omega (arith, d.0)))) (ap (drop {A = ℕ} 1) e) in
    let nodes = decimal_injective m n h.0 k.0 u.0 in
    let serials = decimal_injective s t h.1 k.1 u.1 in
    λ i. Peripheral (nodes i) (serials i)
same_link (Central v) (Peripheral n t) h k e = absurd (let letters : 67 ≡ 80 = ap initial e in omega (arith, letters))
same_link (Peripheral m s) (Central w) h k e = absurd (let letters : 80 ≡ 67 = ap initial e in omega (arith, letters))

same_moved : (xs ys : List End) → HavePairs xs → HavePairs ys → moved_words xs ≡ moved_words ys → xs ≡ ys
same_moved [] [] h k e = refl
same_moved [] (y ∷ ys) h k e = cc
same_moved (x ∷ xs) [] h k e = cc
same_moved (x ∷ xs) (y ∷ ys) h k e =
    let lists : end_text x ++ more_ends xs ≡ end_text y ++ more_ends ys = cc in
    moved_tell (x ∷ xs) (y ∷ ys) h k (ap (λ l. codes " moves " ++ l) lists)

same_unfit : (kind : Handed) (a b : Bool) → unfit_words kind a ≡ unfit_words kind b → a ≡ b
same_unfit kind false false e = refl
same_unfit kind true true e = refl
same_unfit kind false true e = cc
same_unfit kind true false e = cc

-- a message that is one word
hand_of : (kind : Handed) (l m : LinkId) (a b : Bool) → LinkHasBits l → LinkHasBits m →
    link_text l ∷ unfit_words kind a ≡ link_text m ∷ unfit_words kind b → events.Hand kind l a ≡ events.Hand kind m b
hand_of kind l m a b h k e =
    let texts : link_text l ≡ link_text m = cc in
    let rest : unfit_words kind a ≡ unfit_words kind b = ap (drop {A = List ℕ} 1) e in
    let links = same_link l m h k texts in
    let flags = same_unfit kind a b rest in
    λ i. events.Hand kind (links i) (flags i)

same_hand : (p q : Handed) (l m : LinkId) (a b : Bool) → KindHasBits p → KindHasBits q → LinkHasBits l → LinkHasBits m →
    kind_words p ++ link_text l ∷ unfit_words p a ≡ kind_words q ++ link_text m ∷ unfit_words q b →
    events.Hand p l a ≡ events.Hand q m b
same_hand (kinds.Item n) (kinds.Item o) l m a b hp hq h k e =
    let texts : decimal n ≡ decimal o = cc in
    let one = decimal_injective n o hp hq texts in
    let rest : link_text l ∷ unfit_words (kinds.Item n) a ≡ link_text m ∷ unfit_words (kinds.Item n) b = ap (drop {A = List ℕ} 2) e in
    hand_of (kinds.Item n) l m a b h k rest ∙ ap (λ x. events.Hand (kinds.Item x) m b) one
same_hand kinds.BypassPeer kinds.BypassPeer l m a b hp hq h k e = hand_of kinds.BypassPeer l m a b h k (ap (drop {A = List ℕ} 1) e)
same_hand kinds.AcceptBypass kinds.AcceptBypass l m a b hp hq h k e = hand_of kinds.AcceptBypass l m a b h k (ap (drop {A = List ℕ} 1) e)
same_hand kinds.StopProxying kinds.StopProxying l m a b hp hq h k e = hand_of kinds.StopProxying l m a b h k (ap (drop {A = List ℕ} 1) e)
same_hand kinds.ProxyWillStop kinds.ProxyWillStop l m a b hp hq h k e = hand_of kinds.ProxyWillStop l m a b h k (ap (drop {A = List ℕ} 1) e)
same_hand kinds.Flush kinds.Flush l m a b hp hq h k e = hand_of kinds.Flush l m a b h k (ap (drop {A = List ℕ} 1) e)
same_hand p q l m a b hp hq h k e = absurd (omega (arith, ap (λ ws. initial (word_at 0 ws)) e))

-- no number is this word
no_number : (w : ℕ) → decimal w ≡ codes "NoWord" → ⊥
no_number w e =
    let none : lacks 78 (codes "NoWord") ≡ true =
    subst (λ l. lacks 78 l ≡ true) e (decimal_lacks 78 w (λ d. absurd (omega (arith, d.1)))) in
    cc

-- a number is told by its digits
abbrev SameNumber : ℕ → ℕ → Type 0
SameNumber m n = HasBits m → HasBits n → decimal m ≡ decimal n → m ≡ n

same_number : (m n : ℕ) → SameNumber m n
same_number m n h k e = decimal_injective m n h k e

same_event : (e f : Happened) → EventHasBits e → EventHasBits f → event_words e ≡ event_words f → e ≡ f
same_event (events.Hand p l a) (events.Hand q m b) h k e = same_hand p q l m a b h.0 k.0 h.1 k.1 (ap (drop {A = List ℕ} 1) e)
same_event (events.Look m) (events.Look n) h k e =
    let t : decimal m ≡ decimal n = cc in ap events.Look (same_number m n h k t)
same_event (events.Post m) (events.Post n) h k e =
    let t : decimal m ≡ decimal n = cc in ap events.Post (same_number m n h k t)
same_event (events.Close d) (events.Close f) h k e =
    let t : end_text d ≡ end_text f = cc in ap events.Close (one_end d f [] [] h k (ap (λ l. l ++ []) t)).0
same_event events.Idle events.Idle h k e = refl
same_event (events.Leave s) (events.Leave t) h k e =
    let ss : decimal s ≡ decimal t = cc in ap events.Leave (same_number s t h k ss)
same_event (events.ClaimNoWord s) (events.ClaimNoWord t) h k e =
    let ss : decimal s ≡ decimal t = cc in ap events.ClaimNoWord (same_number s t h k ss)
same_event (events.Rest s) (events.Rest t) h k e =
    let ss : decimal s ≡ decimal t = cc in ap events.Rest (same_number s t h k ss)
same_event (events.Discard s m) (events.Discard t n) h k e =
    let ss : decimal s ≡ decimal t = cc in
    let ns : decimal m ≡ decimal n = cc in
    let serials = same_number s t h.0 k.0 ss in
    let numbers = same_number m n h.1 k.1 ns in
    λ i. events.Discard (serials i) (numbers i)
same_event (events.DiscardLeave s m) (events.DiscardLeave t n) h k e =
    let ss : decimal s ≡ decimal t = cc in
    let ns : decimal m ≡ decimal n = cc in
    let serials = same_number s t h.0 k.0 ss in
    let numbers = same_number m n h.1 k.1 ns in
    λ i. events.DiscardLeave (serials i) (numbers i)
same_event (events.Discard s m) (events.DiscardLeave t n) h k e = cc
same_event (events.DiscardLeave s m) (events.Discard t n) h k e = cc
same_event (events.Claim s m) (events.Claim t n) h k e =
    let ss : decimal s ≡ decimal t = cc in
    let ns : decimal m ≡ decimal n = cc in
    let serials = same_number s t h.0 k.0 ss in
    let numbers = same_number m n h.1 k.1 ns in
    λ i. events.Claim (serials i) (numbers i)
same_event (events.FinishOut s l) (events.FinishOut t m) h k e =
    let ss : decimal s ≡ decimal t = cc in
    let ls : link_text l ≡ link_text m = cc in
    let serials = same_number s t h.0 k.0 ss in
    let links = same_link l m h.1 k.1 ls in
    λ i. events.FinishOut (serials i) (links i)
same_event (events.FinishIn s l) (events.FinishIn t m) h k e =
    let ss : decimal s ≡ decimal t = cc in
    let ls : link_text l ≡ link_text m = cc in
    let serials = same_number s t h.0 k.0 ss in
    let links = same_link l m h.1 k.1 ls in
    λ i. events.FinishIn (serials i) (links i)
same_event (events.Begin s l) (events.Begin t m) h k e =
    let ss : decimal s ≡ decimal t = cc in
    let ls : link_text l ≡ link_text m = cc in
    let serials = same_number s t h.0 k.0 ss in
    let links = same_link l m h.1 k.1 ls in
    λ i. events.Begin (serials i) (links i)
same_event (events.Retire s x l) (events.Retire t y m) h k e =
    let ss : decimal s ≡ decimal t = cc in
    let ns : decimal x ≡ decimal y = cc in
    let ls : link_text l ≡ link_text m = cc in
    let serials = same_number s t h.0 k.0 ss in
    let numbers = same_number x y h.1 k.1 ns in
    let links = same_link l m h.2 k.2 ls in
    λ i. events.Retire (serials i) (numbers i) (links i)
same_event (events.Mark s l v) (events.Mark t m w) h k e =
    let ss : decimal s ≡ decimal t = cc in
    let ls : link_text l ≡ link_text m = cc in
    let ws : decimal v ≡ decimal w = cc in
    let serials = same_number s t h.0 k.0 ss in
    let links = same_link l m h.1 k.1 ls in
    let words = same_number v w h.2 k.2 ws in
    λ i. events.Mark (serials i) (links i) (words i)
same_event (events.Wake s l v) (events.Wake t m w) h k e =
    let ss : decimal s ≡ decimal t = cc in
    let ls : link_text l ≡ link_text m = cc in
    let ws : decimal v ≡ decimal w = cc in
    let serials = same_number s t h.0 k.0 ss in
    let links = same_link l m h.1 k.1 ls in
    let words = same_number v w h.2 k.2 ws in
    λ i. events.Wake (serials i) (links i) (words i)
same_event (events.Lock s l v) (events.Lock t m w) h k e =
    let ss : decimal s ≡ decimal t = cc in
    let ls : link_text l ≡ link_text m = cc in
    let ws : decimal v ≡ decimal w = cc in
    let serials = same_number s t h.0 k.0 ss in
    let links = same_link l m h.1 k.1 ls in
    let words = same_number v w h.2 k.2 ws in
    λ i. events.Lock (serials i) (links i) (words i)
same_event (events.Wait s l v) (events.Wait t m w) h k e =
    let ss : decimal s ≡ decimal t = cc in
    let ls : link_text l ≡ link_text m = cc in
    let ws : decimal v ≡ decimal w = cc in
    let serials = same_number s t h.0 k.0 ss in
    let links = same_link l m h.1 k.1 ls in
    let words = same_number v w h.2 k.2 ws in
    λ i. events.Wait (serials i) (links i) (words i)
same_event (events.Refused s l v) (events.Refused t m w) h k e =
    let ss : decimal s ≡ decimal t = cc in
    let ls : link_text l ≡ link_text m = cc in
    let ws : decimal v ≡ decimal w = cc in
    let serials = same_number s t h.0 k.0 ss in
    let links = same_link l m h.1 k.1 ls in
    let words = same_number v w h.2 k.2 ws in
    λ i. events.Refused (serials i) (links i) (words i)
same_event (events.Unlock s l v) (events.Unlock t m w) h k e =
    let ss : decimal s ≡ decimal t = cc in
    let ls : link_text l ≡ link_text m = cc in
    let ws : decimal v ≡ decimal w = cc in
    let serials = same_number s t h.0 k.0 ss in
    let links = same_link l m h.1 k.1 ls in
    let words = same_number v w h.2 k.2 ws in
    λ i. events.Unlock (serials i) (links i) (words i)
same_event (events.SendOut s x l xs) (events.SendOut t y m ys) h k e =
    let ss : decimal s ≡ decimal t = cc in
    let ns : decimal x ≡ decimal y = cc in
    let ls : link_text l ≡ link_text m = cc in
    let serials = same_number s t h.0 k.0 ss in
    let numbers = same_number x y h.1 k.1 ns in
    let links = same_link l m h.2 k.2 ls in
    let ends = same_moved xs ys h.3 k.3 (ap (drop {A = List ℕ} 5) e) in
    λ i. events.SendOut (serials i) (numbers i) (links i) (ends i)
same_event (events.SendIn s x l xs) (events.SendIn t y m ys) h k e =
    let ss : decimal s ≡ decimal t = cc in
    let ns : decimal x ≡ decimal y = cc in
    let ls : link_text l ≡ link_text m = cc in
    let serials = same_number s t h.0 k.0 ss in
    let numbers = same_number x y h.1 k.1 ns in
    let links = same_link l m h.2 k.2 ls in
    let ends = same_moved xs ys h.3 k.3 (ap (drop {A = List ℕ} 5) e) in
    λ i. events.SendIn (serials i) (numbers i) (links i) (ends i)
same_event (events.Claim s w) (events.ClaimNoWord t) h k e =
    let word : decimal w ≡ codes "NoWord" = cc in absurd (no_number w word)
same_event (events.ClaimNoWord t) (events.Claim s w) h k e =
    let word : decimal w ≡ codes "NoWord" = cc in absurd (no_number w word)
same_event e f h k w =
    absurd (omega (arith, ap (λ ws. initial (word_at 0 ws)) w, ap (λ ws. three (word_at 1 ws)) w, ap (λ ws. initial (word_at 2 ws)) w))

pub texts_are_one_event : TextsAreOneEvent
texts_are_one_event e f h k same =
    same_event e f h k (joined-read 32 (event_words e) (event_words f) (are-words e) (are-words f)
    (sym (words-text e) ∙ same ∙ words-text f))
