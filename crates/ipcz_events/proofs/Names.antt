-- The first words of a text name one act.
use Rattle.std.proofs.Common.{◌≡◌, ◌∙◌, ◌<◌, ◌^◌, ℕ, List, [], ◌∷◌, Option, Some, None, refl, sym, ap, arith, codes, drop, inl, inr, append-nil}
use Rattle.std.specs.Prelude.{bytes_eq, if◌then◌else◌}
use Rattle.std.specs.Fmt.{decimal}
use Rattle.std.proofs.lemmas.Fmt.{decimal_injective}
use Rattle.ipcz_base.specs.declared.end.End.{End}
use Rattle.ipcz_base.specs.Texts.{end_text}
use Rattle.ipcz_router.specs.declared.act.RouterAct.{RouterAct}
use Rattle.ipcz_router.specs.declared.act.RouterAct.TheVariants as does
use Rattle.ipcz_node.specs.declared.act.Act.{Act}
use Rattle.ipcz_node.specs.declared.act.Act.TheVariants as acts
use Rattle.ipcz_script.proofs.SendLines.{one_end}
use Rattle.ipcz_events.specs.declared.naming.Named.{Named}
use Rattle.ipcz_events.specs.declared.naming.Named.TheVariants as named
use Rattle.ipcz_events.specs.Naming.{IsNamedBy, IsTold, NameHasBits, behind_word, first_word, name_of}
use Rattle.ipcz_events.specs.Rules.{ActHasBits}

-- ---- two words tell one act of a router

abbrev by_way : List ℕ → RouterAct → RouterAct → Option RouterAct
by_way way out inn = if bytes_eq way (codes "out") then Some out else if bytes_eq way (codes "in") then Some inn else None

abbrev act_by : List ℕ → List ℕ → Option RouterAct
act_by verb way =
    if bytes_eq verb (codes "send") then by_way way does.SendOut does.SendIn
    else if bytes_eq verb (codes "finish") then by_way way does.FinishOut does.FinishIn
    else if bytes_eq verb (codes "discard") then Some does.Discard
    else if bytes_eq verb (codes "leave") then Some does.Leave
    else if bytes_eq verb (codes "mark") then Some does.Mark
    else if bytes_eq verb (codes "wake") then Some does.Wake
    else if bytes_eq verb (codes "claim") then Some does.Claim
    else if bytes_eq verb (codes "lock") then Some does.Lock
    else if bytes_eq verb (codes "wait") then Some does.Lock
    else if bytes_eq verb (codes "refused") then Some does.Lock
    else if bytes_eq verb (codes "begin") then Some does.Begin
    else if bytes_eq verb (codes "retire") then Some does.Retire
    else if bytes_eq verb (codes "unlock") then Some does.Unlock
    else if bytes_eq verb (codes "rest") then Some does.Rest
    else None

told_by : (verb way : List ℕ) (act : RouterAct) → IsTold verb way act → act_by verb way ≡ Some act
told_by verb way does.SendOut h = λ i. act_by (h.0 i) (h.1 i)
told_by verb way does.SendIn h = λ i. act_by (h.0 i) (h.1 i)
told_by verb way does.FinishOut h = λ i. act_by (h.0 i) (h.1 i)
told_by verb way does.FinishIn h = λ i. act_by (h.0 i) (h.1 i)
told_by verb way does.Lock (inl h) = ap (λ v. act_by v way) h
told_by verb way does.Lock (inr (inl h)) = ap (λ v. act_by v way) h
told_by verb way does.Lock (inr (inr h)) = ap (λ v. act_by v way) h
told_by verb way does.Discard h = ap (λ v. act_by v way) h
told_by verb way does.Leave h = ap (λ v. act_by v way) h
told_by verb way does.Mark h = ap (λ v. act_by v way) h
told_by verb way does.Wake h = ap (λ v. act_by v way) h
told_by verb way does.Claim h = ap (λ v. act_by v way) h
told_by verb way does.Begin h = ap (λ v. act_by v way) h
told_by verb way does.Retire h = ap (λ v. act_by v way) h
told_by verb way does.Unlock h = ap (λ v. act_by v way) h
told_by verb way does.Rest h = ap (λ v. act_by v way) h

same_some : (a b : RouterAct) → Some a ≡ Some b → a ≡ b
same_some a b e = cc

pub told_one : (verb way : List ℕ) (a b : RouterAct) → IsTold verb way a → IsTold verb way b → a ≡ b
told_one verb way a b one two = same_some a b (sym (told_by verb way a one) ∙ told_by verb way b two)

-- ---- a first word and what stands behind it name one act

abbrev initial : List ℕ → ℕ
initial [] = 0
initial (b ∷ bs) = b

abbrev pub letter : Named → ℕ
letter named.Hand = 104
letter (named.Look sender) = 108
letter (named.Post to) = 112
letter (named.Close end) = 99
letter (named.Router serial act) = 114
letter named.Idle = 105

letter-is : (first rest : List ℕ) (x : Named) → IsNamedBy first rest x → initial first ≡ letter x
letter-is first rest named.Hand h = ap initial h
letter-is first rest (named.Look sender) h = ap initial h.0
letter-is first rest (named.Post to) h = ap initial h.0
letter-is first rest (named.Close end) h = ap initial h.0
letter-is first rest (named.Router serial act) h = ap initial h.0
letter-is first rest named.Idle h = ap initial h

one_letter : (first rest : List ℕ) (x y : Named) → IsNamedBy first rest x → IsNamedBy first rest y → letter x ≡ letter y
one_letter first rest x y one two = sym (letter-is first rest x one) ∙ letter-is first rest y two

same_byte : (m n : ℕ) (text : List ℕ) → m < 2 ^ 8 → n < 2 ^ 8 → decimal m ≡ text → decimal n ≡ text → m ≡ n
same_byte m n text h k one two = decimal_injective m n (omega (arith, h)) (omega (arith, k)) (one ∙ sym two)

same_end : (d e : End) (text : List ℕ) → d.pair < 2 ^ 64 → e.pair < 2 ^ 64 → end_text d ≡ text → end_text e ≡ text → d ≡ e
same_end d e text h k one two =
    (one_end d e [] [] h k (append-nil (end_text d) ∙ one ∙ sym two ∙ sym (append-nil (end_text e)))).0

pub names_one : (first rest : List ℕ) (x y : Named) → NameHasBits x → NameHasBits y → IsNamedBy first rest x → IsNamedBy first rest y → x ≡ y
names_one first rest named.Hand named.Hand h k one two = refl
names_one first rest named.Idle named.Idle h k one two = refl
names_one first rest (named.Look m) (named.Look n) h k one two = ap named.Look (same_byte m n rest h k one.1 two.1)
names_one first rest (named.Post m) (named.Post n) h k one two = ap named.Post (same_byte m n rest h k one.1 two.1)
names_one first rest (named.Close d) (named.Close e) h k one two = ap named.Close (same_end d e rest h k one.1 two.1)
names_one first rest (named.Router s a) (named.Router t b) h k one two =
    let digits : decimal s ≡ decimal t = ap (drop {A = ℕ} 1) (sym one.0 ∙ two.0) in
    let serials = decimal_injective s t h k digits in
    let same = told_one (first_word rest) (first_word (behind_word rest)) a b one.1 two.1 in
    λ i. named.Router (serials i) (same i)
names_one first rest x y h k one two = absurd (omega (arith, one_letter first rest x y one two))

-- ---- acts

pub name_bits : (act : Act) → ActHasBits act → NameHasBits (name_of act)
name_bits (acts.Hand sender) h = tt
name_bits (acts.Look sender) h = h
name_bits (acts.Post to) h = h
name_bits (acts.Close end) h = h
name_bits (acts.Router serial act) h = h
name_bits acts.Idle h = tt
