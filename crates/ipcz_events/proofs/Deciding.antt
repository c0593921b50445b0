-- There is one session behind a line, since its text names one act.
use Rattle.std.specs.Prelude.{◌≡◌, ◌<◌, ◌-◌, ◌++◌, ◌∷◌, [], ℕ, true, false, nat_lt, List, length, take, Option, Some, None, is_some, option_map, if◌then◌else◌}
use Rattle.std.proofs.Common.{ap, ◌∙◌, sym, subst, refl, arith, inl, inr}
use Rattle.std.proofs.lemmas.Bool.{and_parts}
use Rattle.std.proofs.lemmas.List.{append_cancel_right, length-append, take_at}
use Rattle.std.proofs.lemmas.Bool.Decides.{nat_tests}
use Rattle.ipcz_node.specs.declared.act.Act.{Act}
use Rattle.ipcz_node.specs.declared.act.Act.TheVariants as acts
use Rattle.ipcz_node.specs.declared.happened.Happened.{Happened}
use Rattle.ipcz_node.specs.Hands.{is_hand_of}
use Rattle.ipcz_base.specs.declared.refusal.Refusal.TheVariants.{NumbersEnd, OutOfMemory}
use Rattle.ipcz_world.specs.Asking.{IsActed, WhyNotTaken, can_act, hand_at}
use Rattle.ipcz_world.specs.declared.step.NotTaken.TheVariants as why
use Rattle.ipcz_world.specs.World.{World, node_at}
use Rattle.ipcz_world.specs.Turns.{after_act, can_take, message_in_hand}
use Rattle.ipcz_world.proofs.runs.NodeSteps.{hand-is}
use Rattle.ipcz_script.specs.declared.command.Command.{Command}
use Rattle.ipcz_script.specs.declared.command.Command.TheVariants as commands
use Rattle.ipcz_script.specs.declared.said.Said.{Said}
use Rattle.ipcz_script.specs.Bindings.{Titles}
use Rattle.ipcz_script.specs.EventTexts.{event_text}
use Rattle.ipcz_script.specs.Lines.{head_of, lines_of, tail_of}
use Rattle.ipcz_script.specs.Sessions.{Runs, Session, with_world}
use Rattle.ipcz_events.specs.declared.entry.Entry.{Entry}
use Rattle.ipcz_events.specs.declared.entry.Entry.TheVariants as entries
use Rattle.ipcz_events.specs.declared.naming.Named.{Named}
use Rattle.ipcz_events.specs.declared.naming.Named.TheVariants as named
use Rattle.ipcz_events.specs.Naming.{IsNamedBy, NameHasBits, behind_word, first_word, name_of}
use Rattle.ipcz_events.specs.declared.judged.Judged.{Judged}
use Rattle.ipcz_events.specs.declared.judged.Judged.TheVariants as judged
use Rattle.ipcz_events.specs.Judging.{BeginsWith, HasNone, IsCompared, Judges}
use Rattle.ipcz_events.specs.Rules.{ActHasBits, EventsTellActs, MayEntry, is_call}
use Rattle.ipcz_events.proofs.ActNames.{acted_name}
use Rattle.ipcz_events.proofs.EventNames.{begins}
use Rattle.ipcz_events.proofs.Names.{letter, name_bits, names_one}

-- ---- calls

-- a call has one answer
runs_one : (s t u : Session) (c : Command) (a b : Said) → is_call c ≡ true → Runs s c a t → Runs s c b u → (a ≡ b) × (t ≡ u)
runs_one s t u (commands.Open node first second) a b call one two = (one.0 ∙ sym two.0, one.1 ∙ sym two.1)
runs_one s t u (commands.Put at text ends) a b call one two = (one.0 ∙ sym two.0, one.1 ∙ sym two.1)
runs_one s t u (commands.Get at) a b call one two = (one.0 ∙ sym two.0, one.1 ∙ sym two.1)
runs_one s t u (commands.Close at) a b call one two = (one.0 ∙ sym two.0, one.1 ∙ sym two.1)
runs_one s t u (commands.Turn node count) a b call one two = absurd (let e : false ≡ true = call in cc)
runs_one s t u (commands.Settle limit) a b call one two = absurd (let e : false ≡ true = call in cc)
runs_one s t u commands.Show a b call one two = (one.0 ∙ sym two.0, one.1 ∙ sym two.1)

-- ---- acts

-- the text of what was seen names the act
pub names_it : (w : World) (n : ℕ) (act : Act) (event : Happened) (v : World) (text : List ℕ) → IsActed w n act event v →
    event_text event ≡ text → IsNamedBy (first_word text) (behind_word text) (name_of act)
names_it w n act event v text is same =
    subst (λ l. IsNamedBy (first_word l) (behind_word l) (name_of act)) same
    (subst (IsNamedBy (first_word (event_text event)) (behind_word (event_text event))) (acted_name w n act event v is) (begins event))

-- a hand that can be taken is that of the message there
hand_of : (w : World) (n sender : ℕ) → can_take w n (acts.Hand sender) ≡ true → (node_at w n).hand ≡ Some sender
unfolding can_take
hand_of w n sender h =
    hand-is (node_at w n).hand sender (and_parts (is_hand_of (node_at w n).hand sender) (is_some (message_in_hand w n sender)) h).0

hand_there : (w : World) (n sender : ℕ) → can_act w n (acts.Hand sender) ≡ true → hand_at w n ≡ Some sender
hand_there w n sender h =
    let t = and_parts (nat_lt n w.count) (can_take w n (acts.Hand sender)) h in
    ap (λ b. if b then (node_at w n).hand else None) t.0 ∙ hand_of w n sender t.1

same_sender : (a b : ℕ) → Some a ≡ Some b → a ≡ b
same_sender a b e = cc

-- so what was found in a node's hand is the only one of that name
pub hand_found : (w : World) (n : ℕ) (name : Named) (found o : Option ℕ) → name ≡ named.Hand → found ≡ hand_at w n → found ≡ o →
    (act : Act) → name_of act ≡ name → can_act w n act ≡ true → option_map acts.Hand o ≡ Some act
hand_found w n name found o is there same (acts.Hand sender) e can =
    ap (option_map acts.Hand) (sym same ∙ there ∙ hand_there w n sender can)
hand_found w n name found o is there same act e can = absurd (omega (arith, ap letter (e ∙ is)))

-- of the acts that can be taken there, each has a name of its own
act_one : (w : World) (n : ℕ) (a b : Act) → name_of a ≡ name_of b → can_take w n a ≡ true → can_take w n b ≡ true → a ≡ b
act_one w n (acts.Hand i) (acts.Hand j) name one two =
    ap acts.Hand (same_sender i j (sym (hand_of w n i one) ∙ hand_of w n j two))
act_one w n (acts.Look i) (acts.Look j) name one two = cc
act_one w n (acts.Post i) (acts.Post j) name one two = cc
act_one w n (acts.Close d) (acts.Close e) name one two = cc
act_one w n (acts.Router s a) (acts.Router t b) name one two = cc
act_one w n acts.Idle acts.Idle name one two = refl
act_one w n a b name one two = absurd (omega (arith, ap letter name))

-- ---- the act that is found

-- what could be taken is possible
pub can_be : (w : World) (n : ℕ) (act : Act) (event : Happened) (v : World) → IsActed w n act event v → can_act w n act ≡ true
can_be w n act event v is = possible is.node is.possible
  where
    possible : n < w.count → can_take w n act ≡ true → can_act w n act ≡ true
    possible l t = let here : nat_lt n w.count ≡ true = grind (arith, l, nat_tests) in rw (here, t) refl

module _ (w : World) (n : ℕ) (text : List ℕ) (o : Option Named)
    (only : (name : Named) → IsNamedBy (first_word text) (behind_word text) name → NameHasBits name → o ≡ Some name) where
  begun : (act : Act) → ActHasBits act → BeginsWith text act → o ≡ Some (name_of act)
  begun act bits begins = only (name_of act) begins (name_bits act bits)

  -- a text that names nothing begins with no act
  pub none_begun : o ≡ None → (act : Act) → ActHasBits act → BeginsWith text act → can_act w n act ≡ true → None ≡ Some act
  none_begun none act bits begins can = absurd (let e : None ≡ Some (name_of act) = sym none ∙ begun act bits begins in cc)

  -- and another with the act that is found by its name
  pub some_begun : (name : Named) (found : Option Act) → o ≡ Some name →
      ((act : Act) → name_of act ≡ name → can_act w n act ≡ true → found ≡ Some act) →
      (act : Act) → ActHasBits act → BeginsWith text act → can_act w n act ≡ true → found ≡ Some act
  some_begun name found some rest act bits begins can = rest act (same_name (sym (begun act bits begins) ∙ some)) can
    where
      same_name : Some (name_of act) ≡ Some name → name_of act ≡ name
      same_name e = cc

-- ---- one act that prints so, and one session behind it

pub events_tell_acts : EventsTellActs
events_tell_acts w u v n a b e f fits small one two same =
    let first = names_it w n a e u (event_text f) one same in
    let second = names_it w n b f v (event_text f) two refl in
    let text = event_text f in
    let name =
    names_one (first_word text) (behind_word text) (name_of a) (name_of b) (name_bits a fits) (name_bits b small) first second in
    act_one w n a b name one.possible two.possible

pub one_way : (s t u : Session) (entry : Entry) → MayEntry s entry t → MayEntry s entry u → t ≡ u
one_way s t u (entries.Call c line) one two = (runs_one s t u c one.0 two.0 one.1 one.2 two.2).1
one_way s t u (entries.Acted node text) one two =
    let same =
    events_tell_acts s.world t.world u.world node one.0 two.0 one.1 two.1 one.2 two.2 one.3 two.3 (one.4 ∙ sym two.4) in
    one.5 ∙ ap (with_world s) (one.3.after ∙ ap (after_act s.world node) same ∙ sym two.3.after) ∙ sym two.5

-- ---- a line of a call is judged by its answer

-- a call's answer is one line
one_line : (titles : Titles) (c : Command) (said : Said) → is_call c ≡ true → lines_of titles c said ≡ (head_of c ++ tail_of titles said) ++ 10 ∷ []
one_line titles (commands.Turn node count) said call = absurd (let e : false ≡ true = call in cc)
one_line titles (commands.Settle limit) said call = absurd (let e : false ≡ true = call in cc)
one_line titles c said call = refl

but_last : (xs : List ℕ) (b : ℕ) → take (length (xs ++ b ∷ []) - 1) (xs ++ b ∷ []) ≡ xs
but_last xs b = take_at xs (b ∷ []) (length (xs ++ b ∷ []) - 1) (omega (arith, length-append xs (b ∷ [])))

-- without its last byte, and with a line feed behind, it is the same
pub but_feed : (titles : Titles) (c : Command) (said : Said) (text front : List ℕ) → is_call c ≡ true → text ≡ lines_of titles c said →
    front ≡ take (length text - 1) text → lines_of titles c said ≡ front ++ 10 ∷ []
but_feed titles c said text front call is cut =
    let whole : List ℕ = head_of c ++ tail_of titles said in
    let line : lines_of titles c said ≡ whole ++ 10 ∷ [] = one_line titles c said call in
    line ∙ ap (λ x. x ++ 10 ∷ []) (sym (cut ∙ ap (λ x. take (length x - 1) x) (is ∙ line) ∙ but_last whole 10))

pub no_call : (s t : Session) (c : Command) (line : List ℕ) → is_call c ≡ false → Judges s (entries.Call c line) (judged.Refused None) t
no_call s t c line other = ((λ u may. let both : true ≡ false = sym may.1 ∙ other in cc), other)

pub call_judged : (s t : Session) (c : Command) (line : List ℕ) (said : Said) (text : List ℕ) (j : Judged) → is_call c ≡ true → Runs s c said t →
    lines_of t.titles c said ≡ text ++ 10 ∷ [] → IsCompared text line j → Judges s (entries.Call c line) j t
call_judged s t c line said text judged.Allowed call runs is same = (said, call, runs, is ∙ ap (λ x. x ++ 10 ∷ []) same)
call_judged s t c line said text (judged.Refused None) call runs is same = absurd same
call_judged s t c line said text (judged.Refused (Some told)) call runs is same = (
  (λ u may.
      let one = runs_one s t u c said may.0 call runs may.2 in
      same.0 (append_cancel_right text line (10 ∷ [])
      (sym is ∙ ap (λ x. lines_of t.titles c x) one.0 ∙ ap (λ x. lines_of x.titles c may.0) one.1 ∙ may.3))),
  (t, (said, call, runs, is ∙ ap (λ x. x ++ 10 ∷ []) (sym same.1))),
)

-- ---- a line of an act is judged by the act that was found

same_act : (o : Option Act) (a b : Act) → o ≡ Some a → o ≡ Some b → a ≡ b
same_act o a b one two = let both : Some a ≡ Some b = sym one ∙ two in cc

-- no act that the text begins with can be taken, so none is seen
none_acted : (s t : Session) (n : ℕ) (text : List ℕ) → HasNone s (entries.Acted n text) → Judges s (entries.Acted n text) (judged.Refused None) t
none_acted s t n text none =
    ((λ u may. none may.0 may.1 u.world may.2 (names_it s.world n may.0 may.1 u.world text may.3 may.4) may.3), none)

module _ (s t : Session) (n : ℕ) (text : List ℕ) (o : Option Act)
    (only : (act : Act) → ActHasBits act → BeginsWith text act → can_act s.world n act ≡ true → o ≡ Some act) where
  -- whichever act can be taken that the text begins with is the one that was found
  found_one : (act : Act) (event : Happened) (w : World) → ActHasBits act → BeginsWith text act → IsActed s.world n act event w → o ≡ Some act
  found_one act event w bits begins is = only act bits begins (can_be s.world n act event w is)

  pub not_found : o ≡ None → Judges s (entries.Acted n text) (judged.Refused None) t
  not_found none = none_acted s t n text (λ act event w bits begins is.
      let both : None ≡ Some act = sym none ∙ found_one act event w bits begins is in cc)

  module _ (act : Act) (here : o ≡ Some act) where
    same_acted : (a : Act) (event : Happened) (w : World) → ActHasBits a → BeginsWith text a → IsActed s.world n a event w → IsActed s.world n act event w
    same_acted a event w bits begins is = subst (λ x. IsActed s.world n x event w) (same_act o a act (found_one a event w bits begins is) here) is

    pub not_possible : can_act s.world n act ≡ false → Judges s (entries.Acted n text) (judged.Refused None) t
    not_possible cannot = none_acted s t n text (λ a event w bits begins is.
        let both : true ≡ false = sym (can_be s.world n act event w (same_acted a event w bits begins is)) ∙ cannot in cc)

    pub not_wanted : WhyNotTaken s.world n act (why.Refused NumbersEnd) → Judges s (entries.Acted n text) (judged.Refused None) t
    not_wanted wants = none_acted s t n text (λ a event w bits begins is. elim wants.1 [
      | inl lacks ↦ let both : true ≡ false = sym lacks.1 ∙ (same_acted a event w bits begins is).serials in cc
      | inr other ↦ let both : NumbersEnd ≡ OutOfMemory = other.0 in cc
    ])

    pub act_judged : (event : Happened) (seen : List ℕ) (j : Judged) → ActHasBits act → IsActed s.world n act event t.world → t ≡ with_world s t.world →
        seen ≡ event_text event → IsCompared seen text j → Judges s (entries.Acted n text) j t
    act_judged event seen judged.Allowed bits is kept printed same = (act, event, bits, is, sym printed ∙ same, kept)
    act_judged event seen (judged.Refused None) bits is kept printed same = absurd same
    act_judged event seen (judged.Refused (Some told)) bits is kept printed same = (
      (λ u may.
          let other = same_acted may.0 may.1 u.world may.2 (names_it s.world n may.0 may.1 u.world text may.3 may.4) may.3 in
          same.0 (printed ∙ ap event_text (is.seen ∙ sym other.seen) ∙ may.4)),
      (t, (act, event, bits, is, sym printed ∙ sym same.1, kept)),
    )
