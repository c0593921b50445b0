-- How the text of an event begins: which act its first words name.
use Rattle.std.specs.Prelude.{ℕ, ◌≡◌, ◌<◌, ◌^◌, ◌==◌, ◌⊎◌, List, [], ◌∷◌, ◌++◌, codes, if◌then◌else◌}
use Rattle.std.specs.Fmt.{decimal}
use Rattle.ipcz_base.specs.declared.end.End.{End}
use Rattle.ipcz_base.specs.Texts.{end_text}
use Rattle.ipcz_router.specs.declared.act.RouterAct.{RouterAct}
use Rattle.ipcz_router.specs.declared.act.RouterAct.TheVariants as does
use Rattle.ipcz_node.specs.declared.act.Act.{Act}
use Rattle.ipcz_node.specs.declared.act.Act.TheVariants as acts
use Rattle.ipcz_script.specs.Sayings.{HasBits}
use Rattle.ipcz_events.specs.declared.naming.Named.{Named}
use Rattle.ipcz_events.specs.declared.naming.Named.TheVariants as named

-- the first word of a text, up to a space
abbrev pub first_word : List ℕ → List ℕ
first_word [] = []
first_word (b ∷ bs) = if b == 32 then [] else b ∷ first_word bs

-- what stands behind that space
abbrev pub behind_word : List ℕ → List ℕ
behind_word [] = []
behind_word (b ∷ bs) = if b == 32 then bs else behind_word bs

-- what a router does is told by a verb, and of a send and a finish by the word behind it, too
abbrev pub IsTold : List ℕ → List ℕ → RouterAct → Type 0
IsTold verb way does.SendOut = (verb ≡ codes "send") × (way ≡ codes "out")
IsTold verb way does.SendIn = (verb ≡ codes "send") × (way ≡ codes "in")
IsTold verb way does.Discard = verb ≡ codes "discard"
IsTold verb way does.FinishOut = (verb ≡ codes "finish") × (way ≡ codes "out")
IsTold verb way does.FinishIn = (verb ≡ codes "finish") × (way ≡ codes "in")
IsTold verb way does.Leave = verb ≡ codes "leave"
IsTold verb way does.Mark = verb ≡ codes "mark"
IsTold verb way does.Wake = verb ≡ codes "wake"
IsTold verb way does.Claim = verb ≡ codes "claim"
IsTold verb way does.Lock = (verb ≡ codes "lock") ⊎ ((verb ≡ codes "wait") ⊎ (verb ≡ codes "refused"))
IsTold verb way does.Begin = verb ≡ codes "begin"
IsTold verb way does.Retire = verb ≡ codes "retire"
IsTold verb way does.Unlock = verb ≡ codes "unlock"
IsTold verb way does.Rest = verb ≡ codes "rest"

-- what the first word of a text and what stands behind it name
abbrev pub IsNamedBy : List ℕ → List ℕ → Named → Type 0
IsNamedBy first rest named.Hand = first ≡ codes "hand"
IsNamedBy first rest (named.Look sender) = (first ≡ codes "look") × (decimal sender ≡ rest)
IsNamedBy first rest (named.Post to) = (first ≡ codes "post") × (decimal to ≡ rest)
IsNamedBy first rest (named.Close end) = (first ≡ codes "close") × (end_text end ≡ rest)
IsNamedBy first rest (named.Router serial act) = (first ≡ 114 ∷ decimal serial) × IsTold (first_word rest) (first_word (behind_word rest)) act
IsNamedBy first rest named.Idle = first ≡ codes "idle"

-- ---- numbers

abbrev pub IsByte : ℕ → Type 0
IsByte n = n < 2 ^ 8

abbrev pub PairHasBits : End → Type 0
PairHasBits end = HasBits end.pair

abbrev pub NameHasBits : Named → Type 0
NameHasBits named.Hand = Unit {0}
NameHasBits (named.Look sender) = IsByte sender
NameHasBits (named.Post to) = IsByte to
NameHasBits (named.Close end) = PairHasBits end
NameHasBits (named.Router serial act) = HasBits serial
NameHasBits named.Idle = Unit {0}

-- ---- acts

-- the words that tell what a router does
abbrev pub told_words : RouterAct → List ℕ
told_words does.SendOut = codes "send out"
told_words does.SendIn = codes "send in"
told_words does.Discard = codes "discard"
told_words does.FinishOut = codes "finish out"
told_words does.FinishIn = codes "finish in"
told_words does.Leave = codes "leave"
told_words does.Mark = codes "mark"
told_words does.Wake = codes "wake"
told_words does.Claim = codes "claim"
told_words does.Lock = codes "lock"
told_words does.Begin = codes "begin"
told_words does.Retire = codes "retire"
told_words does.Unlock = codes "unlock"
told_words does.Rest = codes "rest"

-- an act in the words by which its event begins
abbrev pub act_text : Act → List ℕ
act_text (acts.Hand sender) = codes "hand"
act_text (acts.Look sender) = codes "look " ++ decimal sender
act_text (acts.Post to) = codes "post " ++ decimal to
act_text (acts.Close end) = codes "close " ++ end_text end
act_text (acts.Router serial act) = codes "r" ++ decimal serial ++ codes " " ++ told_words act
act_text acts.Idle = codes "idle"

-- what names an act
abbrev pub name_of : Act → Named
name_of (acts.Hand sender) = named.Hand
name_of (acts.Look sender) = named.Look sender
name_of (acts.Post to) = named.Post to
name_of (acts.Close end) = named.Close end
name_of (acts.Router serial act) = named.Router serial act
name_of acts.Idle = named.Idle
