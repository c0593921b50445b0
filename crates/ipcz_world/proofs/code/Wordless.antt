-- What an act that touches no link word makes of the world: its node's part alone.
use Rattle.std.specs.Prelude.{◌≡◌, ◌<◌, ℕ, true, false, if◌then◌else◌, Option, Some, None, Result, Ok, Err, IsOk, OnOk, OnErr, IfOk, IfErr}
use Rattle.std.proofs.Common.{ap, sym, subst, refl, true≢false, ◌∙◌}
use Rattle.ipcz_world.proofs.Vocabulary.{Refusal, put_place, Side, Word, Router, primary_word, RouterAct, Node, bare_node, commit, World, node_at}
use Rattle.ipcz_world.proofs.Vocabulary.{router_at, set_node, after_act, can_take, answer_of, source_of, Plain, act_lacks_serials, Happened, event_of}
use Rattle.ipcz_world.proofs.Vocabulary.{after_router_act, router_seen, turn_event, turn_lacks_serials, word_answer, link_answer, touch, IsRegular}
use Rattle.ipcz_base.specs.declared.refusal.Refusal.TheVariants.{NumbersEnd, OutOfMemory}
use Rattle.ipcz_router.specs.ActEffects.{IsAnswerOf}
use Rattle.ipcz_router.specs.declared.act.RouterAct.TheVariants as acts
use Rattle.ipcz_node.specs.declared.act.Act.TheVariants.{Router as OfRouter}
use Rattle.ipcz_node.specs.Preparing.{act_grows}
use Rattle.ipcz_world.specs.Wordless.{is_wordless}
use Rattle.ipcz_world.specs.Taking.{IsTaken}
use Rattle.ipcz_world.proofs.code.Taken.{router-stands, refused-router, with_node}

-- a word answers nothing to it
plain-word : (x : Word) (s : Side) (source : Option ℕ) (act : RouterAct) → is_wordless act ≡ true → word_answer x s source act ≡ Plain
unfolding word_answer
plain-word x s source acts.Mark h = absurd (true≢false (sym h))
plain-word x s source acts.Wake h = absurd (true≢false (sym h))
plain-word x s source acts.Claim h = absurd (true≢false (sym h))
plain-word x s source acts.Lock h = absurd (true≢false (sym h))
plain-word x s source acts.Unlock h = absurd (true≢false (sym h))
plain-word x s source other h = refl

plain-link : (w : World) (s : Side) (source : Option ℕ) (act : RouterAct) (p : Option ℕ) → is_wordless act ≡ true →
    link_answer w s source act p ≡ Plain
unfolding link_answer
plain-link w s source act None h = refl
plain-link w s source act (Some i) h = plain-word _ s source act h

pub plain-answer : (w : World) (r : Router) (act : RouterAct) → is_wordless act ≡ true → answer_of w r act ≡ Plain
unfolding answer_of
plain-answer w r acts.Mark h = absurd (true≢false (sym h))
plain-answer w r acts.Wake h = absurd (true≢false (sym h))
plain-answer w r acts.Claim h = absurd (true≢false (sym h))
plain-answer w r acts.Lock h = absurd (true≢false (sym h))
plain-answer w r acts.Unlock h = absurd (true≢false (sym h))
plain-answer w r other h = plain-link w r.end.side (source_of r) other (primary_word r) h

-- no word is changed
pub untouched : (w : World) (r : Router) (act : RouterAct) → is_wordless act ≡ true → w ≡ touch w r act
unfolding touch
untouched w r acts.Mark h = absurd (true≢false (sym h))
untouched w r acts.Wake h = absurd (true≢false (sym h))
untouched w r acts.Claim h = absurd (true≢false (sym h))
untouched w r acts.Lock h = absurd (true≢false (sym h))
untouched w r acts.Unlock h = absurd (true≢false (sym h))
untouched w r other h = refl

-- such an act may be told that it touches no word
pub may_be_told : (act : RouterAct) → is_wordless act ≡ true → IsAnswerOf act Plain
may_be_told acts.Mark h = absurd (true≢false (sym h))
may_be_told acts.Wake h = absurd (true≢false (sym h))
may_be_told acts.Claim h = absurd (true≢false (sym h))
may_be_told acts.Lock h = absurd (true≢false (sym h))
may_be_told acts.Unlock h = absurd (true≢false (sym h))
may_be_told other h = tt

-- it changes its node alone
pub done-plain : {X : Type 0} (tells : Happened → X → Type 0) (w : World) (n serial : ℕ) (act : RouterAct) → IsRegular w → n < w.count → can_take w n (OfRouter serial act) ≡ true →
    is_wordless act ≡ true → (old x : Node) (told : X) → old ≡ node_at w n → x ≡ commit old (OfRouter serial act) Plain →
    tells (event_of old (OfRouter serial act) Plain) told → act_lacks_serials old (OfRouter serial act) ≡ false →
    IsTaken tells w n (OfRouter serial act) (Ok told) (with_node w n x)
unfolding turn_event after_act turn_lacks_serials router_seen after_router_act router_at set_node
done-plain tells w n serial act is l h plain old x told e is-x says low =
    let s = router-stands w n serial act is l h in
    let made : x ≡ commit (node_at w n) (OfRouter serial act) (answer_of w s.0 act) =
    is-x ∙ ap (λ y. commit y (OfRouter serial act) Plain) e ∙ ap (commit (node_at w n) (OfRouter serial act)) (sym (plain-answer w s.0 act plain))
    in
    let words : w ≡ touch w s.0 act = untouched w s.0 act plain in
    record {
      event = rw s.1 (subst (λ h. tells h told) (ap (λ y. event_of y (OfRouter serial act) Plain) e ∙
          ap (event_of (node_at w n) (OfRouter serial act)) (sym (plain-answer w s.0 act plain))) says);
      done = rw s.1 (λ j. record (words j) { nodes = put_place (bare_node 0 0) (words j).nodes n (made j) });
      allowed = sym (ap (λ y. act_lacks_serials y (OfRouter serial act)) e) ∙ low;
      why = tt;
      grows = λ g k. refl;
      left = tt;
    }

-- an act that touches no word, as the node has done it or was refused it
pub plain-taken : {X : Type 0} (tells : Happened → X → Type 0) (w : World) (n serial : ℕ) (act : RouterAct) → IsRegular w → n < w.count →
    can_take w n (OfRouter serial act) ≡ true → is_wordless act ≡ true → (old x : Node) (result : Result X Refusal) → old ≡ node_at w n →
    OnOk result (x ≡ commit old (OfRouter serial act) Plain) → IfOk result (tells (event_of old (OfRouter serial act) Plain)) →
    OnOk result (act_lacks_serials old (OfRouter serial act) ≡ false) →
    IfErr result (λ e. e ≡ (if act_lacks_serials old (OfRouter serial act) then NumbersEnd else OutOfMemory)) →
    (act_grows old (OfRouter serial act) ≡ false → IsOk result) → OnErr result (x ≡ old) →
    IsTaken tells w n (OfRouter serial act) result (with_node w n x)
plain-taken tells w n serial act is l h plain old x (Ok told) e done says low why grows left =
    done-plain tells w n serial act is l h plain old x told e done says low
plain-taken tells w n serial act is l h plain old x (Err why) e done says low because grows left =
    refused-router w n serial act is l tells old x why e left because (λ g _. grows g)
