-- Lines that are added to a text, and what commands and acts have added.
use Rattle.std.proofs.Common.{◌≡◌, ◌∙◌, ℕ, zero, suc, ◌+◌, ◌≤◌, ◌<◌, Bool, true, false, List, [], ◌∷◌, ◌++◌, length, take, drop, get_or, Option, Some, None, MatchBool, inl, inr, refl, sym, ap, subst, arith, append_assoc, append-nil}
use Rattle.ipcz_node.specs.declared.act.Act.{Act}
use Rattle.ipcz_node.specs.declared.happened.Happened.{Happened}
use Rattle.ipcz_script.specs.ReadBack.{text_of}
use Rattle.ipcz_script.proofs.Feeds.{text-append}
use Rattle.ipcz_script.proofs.Writing.{next_of}
use Rattle.ipcz_script.specs.declared.command.Command.{Command}
use Rattle.ipcz_script.specs.declared.said.Said.{Said}
use Rattle.ipcz_script.specs.Lines.{lines_of}
use Rattle.ipcz_script.specs.Sessions.{Runs}
use Rattle.ipcz_events.specs.declared.ending.Ending.TheVariants as endings
use Rattle.ipcz_events.specs.declared.entry.Entry.TheVariants as entries
use Rattle.ipcz_events.specs.declared.entry.Entry.{Entry}
use Rattle.ipcz_events.specs.declared.order.Order.{Order}
use Rattle.ipcz_events.specs.declared.run.Run.{Run}
use Rattle.ipcz_events.specs.declared.who.Who.{Who}
use Rattle.ipcz_events.specs.Runs.{Acts, AreObeyed, IsCalled, IsObeyed, IsTakenOne, Obeys, ObeysAll, Steps, acted, was_idle}
use Rattle.ipcz_events.specs.Written.{Adds, AreWritten, IsWritten}

-- ---- lines

are-append : (xs ys : List Entry) (a b : List (List ℕ)) → AreWritten xs a → AreWritten ys b → AreWritten (xs ++ ys) (a ++ b)
are-append [] ys [] b h k = k
are-append [] ys (t ∷ a) b h k = absurd h
are-append (x ∷ xs) ys [] b h k = absurd h
are-append (x ∷ xs) ys (t ∷ a) b h k = (h.0, are-append xs ys a b h.1 k)

pub adds-none : (text : List ℕ) → Adds [] text text
adds-none text = ([], tt, sym (append-nil text))

pub adds-more : (xs ys : List Entry) (a b c : List ℕ) → Adds xs a b → Adds ys b c → Adds (xs ++ ys) a c
adds-more xs ys a b c one two = (
  one.0 ++ two.0,
  are-append xs ys one.0 two.0 one.1 two.1,
  two.2 ∙ ap (λ t. t ++ text_of two.0) one.2 ∙ append_assoc a (text_of one.0) (text_of two.0) ∙ ap (λ t. a ++ t) (sym (text-append one.0 two.0)),
)

-- ---- acts

abbrev pub HaveActed : ℕ → Who → Run → List ℕ → Run → List ℕ → Type 0
HaveActed most who p old q new = (log : List Entry) × Acts most who p log q × Adds log old new

abbrev nil : List Entry
nil = []

idle-acts : (left : ℕ) (who : Who) (m q : Run) (seen : ℕ × Happened) → Steps who m (Some seen) q → was_idle seen.1 ≡ true → Acts (suc left) who m (acted seen ∷ []) q
idle-acts left who m q seen step idle =
    let both : (nil ≡ nil) × (q ≡ q) = (refl, refl) in
    (seen, q, step, refl, subst (λ b. MatchBool b ((nil ≡ nil) × (q ≡ q)) (Acts left who q nil q)) (sym idle) both)

more-acts : (left : ℕ) (who : Who) (m q r : Run) (seen : ℕ × Happened) (log : List Entry) → Steps who m (Some seen) q → was_idle seen.1 ≡ false → Acts left who q log r →
    Acts (suc left) who m (acted seen ∷ log) r
more-acts left who m q r seen log step busy more =
    (seen, q, step, refl, subst (λ b. MatchBool b ((log ≡ []) × (r ≡ q)) (Acts left who q log r)) (sym busy) more)

-- whatever the acts that are left add, all of them have added
abbrev pub GoOn : ℕ → Who → Run → List ℕ → ℕ → Run → List ℕ → Type 0
GoOn most who p old left m text = (q : Run) (new : List ℕ) → HaveActed left who m text q new → HaveActed most who p old q new

module _ (most : ℕ) (who : Who) (p : Run) (old : List ℕ) (m : Run) (text : List ℕ) where
  -- no more acts are to be taken
  pub acts-end : GoOn most who p old 0 m text → HaveActed most who p old m text
  acts-end on = on m text ([], refl, adds-none text)

  module _ (left : ℕ) (on : GoOn most who p old (suc left) m text) (q : Run) (new : List ℕ) where
    -- the last one, or none
    pub acts-last : (last : Bool) → IsTakenOne who m last q text new → last ≡ true → HaveActed most who p old q new
    acts-last false taken is = absurd (let never : false ≡ true = is in cc)
    acts-last true taken is = elim taken [
      | inl none ↦ on q new ([], none.0, subst (λ t. Adds [] text t) (sym none.1) (adds-none text))
      | inr one ↦ on q new (acted one.0 ∷ [], idle-acts left who m q one.0 one.1 one.2, one.3)
    ]

    -- another one
    pub acts-more : (last : Bool) → IsTakenOne who m last q text new → last ≡ false → GoOn most who p old left q new
    acts-more true taken is = absurd (let never : true ≡ false = is in cc)
    acts-more false one is = λ r newer more.
        on r newer (
          acted one.0 ∷ more.0,
          more-acts left who m q r one.0 more.0 one.1 one.2 more.1,
          adds-more (acted one.0 ∷ []) more.0 text new newer one.3 more.2,
        )

pub acts-start : (most : ℕ) (who : Who) (p : Run) (old : List ℕ) → GoOn most who p old most p old
acts-start most who p old q new h = h

-- ---- commands

obeys-more : (nodes : ℕ) (p m q : Run) (os : List Order) (o : Order) (log own : List Entry) → ObeysAll nodes p os log m → Obeys nodes m o own q →
    ObeysAll nodes p (os ++ o ∷ []) (log ++ own) q
obeys-more nodes p m q [] o log own all one = (
  own,
  [],
  q,
  ap (λ l. l ++ own) all.0 ∙ sym (append-nil own),
  subst (λ r. Obeys nodes r o own q) all.1 one,
  (refl, refl),
)
obeys-more nodes p m q (a ∷ os) o log own all one = (
  all.0,
  all.1 ++ own,
  all.2,
  ap (λ l. l ++ own) all.3 ∙ append_assoc all.0 all.1 own,
  all.4,
  obeys-more nodes all.2 m q os o all.1 own all.5 one,
)

take-more : {X : Type 0} (i : ℕ) (xs ys : List X) (x : X) → drop i xs ≡ x ∷ ys → take (suc i) xs ≡ take i xs ++ x ∷ []
take-more zero [] ys x e = let never : [] ≡ x ∷ ys = e in cc
take-more zero (a ∷ xs) ys x e = let same : a ≡ x = cc in ap (λ b. b ∷ []) same
take-more (suc i) [] ys x e = let never : [] ≡ x ∷ ys = e in cc
take-more (suc i) (a ∷ xs) ys x e = ap (λ l. a ∷ l) (take-more i xs ys x e)

take-past : {X : Type 0} (i : ℕ) (xs : List X) → length xs ≤ i → take i xs ≡ xs
take-past zero [] h = refl
take-past zero (a ∷ xs) h = absurd (omega (arith, h))
take-past (suc i) [] h = refl
take-past (suc i) (a ∷ xs) h = ap (λ l. a ∷ l) (take-past i xs (omega (arith, h)))

parts : {X : Type 0} (i : ℕ) (xs : List X) → xs ≡ take i xs ++ drop i xs
parts zero xs = refl
parts (suc i) [] = refl
parts (suc i) (a ∷ xs) = ap (λ l. a ∷ l) (parts i xs)

length-front : {X : Type 0} (i : ℕ) (xs : List X) → i ≤ length xs → length (take i xs) ≡ i
length-front zero xs h = refl
length-front (suc i) [] h = absurd (omega (arith, h))
length-front (suc i) (a ∷ xs) h = ap suc (length-front i xs (omega (arith, h)))

-- so many commands were obeyed
abbrev pub Done : ℕ → Run → List Order → ℕ → List ℕ → Run → List ℕ → ℕ → Type 0
Done nodes p os i old q new number = ((log : List Entry) × ObeysAll nodes p (take i os) log q × Adds log old new) × (number ≡ i + 1)

module _ (nodes : ℕ) (p : Run) (os : List Order) (old : List ℕ) where
  pub done-start : (text : List ℕ) (number : ℕ) → text ≡ old → number ≡ 1 → Done nodes p os 0 old p text number
  done-start text number same one = (([], (refl, refl), subst (λ t. Adds [] old t) (sym same) (adds-none old)), one)

  pub done-all : (i : ℕ) (q : Run) (new : List ℕ) (number : ℕ) → Done nodes p os i old q new number → length os ≤ i → AreObeyed nodes p os endings.Whole old new
  done-all i q new number done past = (done.0.0, (q, subst (λ l. ObeysAll nodes p l done.0.0 q) (take-past i os past) done.0.1), done.0.2)

  module _ (i : ℕ) (m q : Run) (text new : List ℕ) (number : ℕ) (o : Order) (done : Done nodes p os i old m text number) (within : i < length os)
      (is : o ≡ get_or os i o) where
    pub done-more : (next : ℕ) (stopped : Option (List Act)) → stopped ≡ None → IsObeyed nodes m o stopped q text new → next ≡ number + 1 →
        Done nodes p os (i + 1) old q new next
    done-more next stopped none obeyed more =
        let own = subst (λ s. IsObeyed nodes m o s q text new) none obeyed in
        let one : i + 1 ≡ suc i = omega arith in
        let longer : take (i + 1) os ≡ take i os ++ o ∷ [] =
        ap (λ k. take k os) one ∙ take-more i os (drop (i + 1) os) o (next_of os i o within is) in (
          (
            done.0.0 ++ own.0,
            subst (λ l. ObeysAll nodes p l (done.0.0 ++ own.0) q) (sym longer) (obeys-more nodes p m q (take i os) o done.0.0 own.0 done.0.1 own.1),
            adds-more done.0.0 own.0 old text new done.0.2 own.2,
          ),
          omega (arith, more, done.1),
        )

    pub done-stopped : (stopped : Option (List Act)) (acts : List Act) → stopped ≡ Some acts → IsObeyed nodes m o stopped q text new →
        AreObeyed nodes p os (endings.Stopped number acts) old new
    done-stopped stopped acts some obeyed =
        let stop = subst (λ s. IsObeyed nodes m o s q text new) some obeyed in (
          done.0.0,
          (
            take i os,
            o,
            drop (i + 1) os,
            m,
            parts i os ∙ ap (λ l. take i os ++ l) (next_of os i o within is),
            done.1 ∙ ap (λ k. k + 1) (sym (length-front i os (omega (arith, within)))),
            done.0.1,
            stop.0,
          ),
          subst (λ t. Adds done.0.0 old t) (sym stop.1) done.0.2,
        )

-- ---- single lines

-- one line is added
pub adds-one : (e : Entry) (text old new : List ℕ) → IsWritten e text → new ≡ old ++ (text ++ 10 ∷ []) → Adds (e ∷ []) old new
adds-one e text old new is more = (text ∷ [], (is, tt), more)

-- a call and its line
pub called : (p q : Run) (c : Command) (said : Said) (text old new : List ℕ) → Runs p.session c said q.session → lines_of q.session.titles c said ≡ text ++ 10 ∷ [] →
    q.state ≡ p.state → Adds (entries.Call c text ∷ []) old new → (log : List Entry) × IsCalled p c log q × Adds log old new
called p q c said text old new runs lines state adds = (entries.Call c text ∷ [], (said, text, runs, lines, state, refl), adds)
