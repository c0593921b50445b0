-- Post, look and handle: the kinds of step on a mailbox by which the shown world moves.
use Rattle.std.specs.Prelude.{◌≡◌, ◌≢◌, ◌<◌, ◌+◌, ◌*◌, ℕ, zero, suc, Bool, true, false, cond, nat_eq, nat_lt, ◌||◌, List, [], ◌∷◌, length, slice_index, Some, None, is_some, refl, MatchBool}
use Rattle.std.specs.Int.{bit_at}
use Rattle.std.proofs.Common.{arith, ap, ◌∙◌, sym, inl, inr, subst, set, length-set, get_or-set_same, get_or-set_other, eqb, eqb-true}
use Rattle.std.proofs.lemmas.Bool.Decides.{nat_tests}
use prog.Atomic.{either}
use mathlib.Core.Option.{some, none}
use mathlib.Core.Option as maybe
use mathlib.Core.Logic.{dite}
use native.Mathlib.Decide.{ℕ_discrete}
use lib.ListN.{get_elem?}
use Rattle.atomic_table.specs.Table.{Act as TableAct, Valid, stepped, carried_after, keeps, takes, gives}
use Rattle.atomic_table.proofs.Lists.{set_here, set_else}
use Rattle.ipcz_base.specs.declared.message.Message.{Message}
use Rattle.ipcz_router.specs.declared.act.Answer.TheVariants as answers
use Rattle.ipcz_node.specs.declared.act.Act.{Act}
use Rattle.ipcz_node.specs.declared.act.Act.TheVariants as node_acts
use Rattle.ipcz_node.specs.Node.{Node}
use Rattle.ipcz_node.specs.Acts.{commit, post_of, has_mail_for, act_lacks_serials}
use Rattle.ipcz_node.specs.Hands.{deliver, message_lacks_serials, is_hand_of}
use Rattle.ipcz_node.specs.Events.{event_of, hand_event}
use Rattle.ipcz_world.specs.WordAnswers.{source_for}
use Rattle.ipcz_world.specs.declared.mail.Mail.{Mail}
use Rattle.ipcz_world.specs.declared.mail.Mail.TheVariants as mails
use Rattle.ipcz_world.specs.declared.step.Step.TheVariants as steps
use Rattle.ipcz_world.specs.declared.step.Reply.TheVariants as replies
use Rattle.ipcz_world.specs.World.{World, node_at, mail_at, way, set_node, set_mail}
use Rattle.ipcz_world.specs.Turns.{hand_message, is_clear, is_full, full_message, after_act, after_post, after_look, after_hand, turn_event, hand_seen, turn_lacks_serials, hand_lacks_serials, can_take}
use Rattle.ipcz_world.specs.Books.{Books, advance, after_turn}
use Rattle.ipcz_world.specs.Routes.{Routes, routes_after, hand_of}
use Rattle.ipcz_rule.specs.declared.view.View.{View}
use Rattle.ipcz_rule.specs.declared.view.Part.{Part}
use Rattle.ipcz_rule.specs.Rule.{Slot, St, Mine, has_number, without_number, inbox, mailbox, MailAt, Spells, Rules, with_part, saw}
use Rattle.ipcz_rule.specs.Steps.{post_part, look_part}
use Rattle.ipcz_rule.specs.Kinds.{Follows, IsKept, IsTurns, turn_where, Posts, Looks}
use Rattle.ipcz_rule.proofs.KeptEnds.{turns_keep}
use Rattle.ipcz_rule.proofs.FromLaws.{hand_stands}
use Rattle.ipcz_rule.proofs.Joins.{joined_same}
use Rattle.ipcz_rule.proofs.Moved.{spelled}
use Rattle.ipcz_rule.proofs.Touches.{same_hand}
use Rattle.ipcz_rule.proofs.Touching.{After, turn_after}
use Rattle.ipcz_rule.proofs.Wording.{sees}
use Rattle.ipcz_rule.proofs.Mailing.{way_low, way_first, way_second, mail_moves, mail_rules}
use Rattle.ipcz_rule.proofs.KeptEnds.{one_keeps, where_keeps}

-- the message in hand stands in the mailbox
pub in_hand : (w : World) (n from : ℕ) (x : Message) → hand_of w n (Some from) ≡ Some x → mail_at w (way w from n) ≡ mails.Hand x
unfolding hand_of hand_message
in_hand w n from x e = go (mail_at w (way w from n)) e
  where
    go : (m : Mail) → hand_message m ≡ Some x → m ≡ mails.Hand x
    go mails.Empty h = cc
    go (mails.Full y) h = cc
    go (mails.Hand y) h = grind (arith, h)

pub found_hand : (w : World) (n from : ℕ) (x : Message) → mail_at w (way w from n) ≡ mails.Hand x → hand_of w n (Some from) ≡ Some x
unfolding hand_of hand_message
found_hand w n from x e = ap hand_message e

pub no_hand : (m : Mail) → m ≡ mails.Empty → is_some (hand_message m) ≡ true → ⊥
unfolding hand_message
no_hand mails.Empty e h = cc
no_hand (mails.Full y) e h = cc
no_hand (mails.Hand y) e h = cc

pub at_two : (n : ℕ) (home : maybe.Option (maybe.Option Slot)) (m : Mail) (x : Message) → MailAt n home m → m ≡ mails.Hand x → n ≡ 2
at_two zero home m x h e = absurd (cc (h.1, e))
at_two (suc zero) home m x h e = absurd (cc (h.2, e))
at_two (suc (suc zero)) home m x h e = refl
at_two (suc (suc (suc zero))) home m x h e = absurd (cc (h, e))
at_two (suc (suc (suc (suc n)))) home m x h e = absurd h

itself_by : (b : Bool) (js : List ℕ) (i j : ℕ) → nat_eq j i ≡ b → has_number (without_number js i) i ≡ false → has_number (cond b (without_number js i) (j ∷ without_number js i)) i ≡ false
itself_by true js i j e h = h
itself_by false js i j e h = let ne : nat_eq i j ≡ false = grind (arith, e, nat_tests) in ap (λ b. b || has_number (without_number js i) i) ne ∙ h

pub without_itself : (js : List ℕ) (i : ℕ) → has_number (without_number js i) i ≡ false
without_itself [] i = refl
without_itself (j ∷ js) i = itself_by (nat_eq j i) js i j refl (without_itself js i)

other_by : (b : Bool) (js : List ℕ) (i j k : ℕ) → k ≢ i → nat_eq j i ≡ b → has_number (without_number js i) k ≡ has_number js k →
    has_number (cond b (without_number js i) (j ∷ without_number js i)) k ≡ (nat_eq k j || has_number js k)
other_by true js i j k ne e h = let apart : nat_eq k j ≡ false = grind (arith, e, ne, nat_tests) in h ∙ sym (ap (λ b. b || has_number js k) apart)
other_by false js i j k ne e h = ap (λ b. nat_eq k j || b) h

pub without_other : (js : List ℕ) (i k : ℕ) → k ≢ i → has_number (without_number js i) k ≡ has_number js k
without_other [] i k ne = refl
without_other (j ∷ js) i k ne = other_by (nat_eq j i) js i j k ne refl (without_other js i k ne)

pub post_hand : (x : Node) (to : ℕ) → (commit x (node_acts.Post to) answers.Plain).hand ≡ x.hand
unfolding commit
post_hand x to = refl

look_hand : (x : Node) (from : ℕ) → (commit x (node_acts.Look from) answers.Plain).hand ≡ Some from
unfolding commit
look_hand x from = refl

pub post_after : (w : World) (n to : ℕ) (x : Node) (m : Message) → node_at w n ≡ x → post_of x (node_acts.Post to) ≡ Some m →
    after_act w n (node_acts.Post to) ≡ set_mail (set_node w n (commit x (node_acts.Post to) answers.Plain)) (way w n to) (mails.Full m)
unfolding after_act after_post
post_after w n to x m is first =
    ap (after_post w n to) (ap (λ y. post_of y (node_acts.Post to)) is ∙ first) ∙ ap (λ y. set_mail (set_node w n (commit y (node_acts.Post to) answers.Plain)) (way w n to) (mails.Full m)) is

look_after : (w : World) (n from : ℕ) (x : Node) (m : Message) → node_at w n ≡ x → mail_at w (way w from n) ≡ mails.Full m →
    after_act w n (node_acts.Look from) ≡ set_mail (set_node w n (commit x (node_acts.Look from) answers.Plain)) (way w from n) (mails.Hand m)
unfolding after_act after_look full_message
look_after w n from x m is full =
    ap (λ z. after_look w n from (full_message z)) full ∙ ap (λ y. set_mail (set_node w n (commit y (node_acts.Look from) answers.Plain)) (way w from n) (mails.Hand m)) is

pub hand_after : (w : World) (n from : ℕ) (x : Node) (m : Message) → node_at w n ≡ x → mail_at w (way w from n) ≡ mails.Hand m →
    after_act w n (node_acts.Hand from) ≡ set_mail (set_node w n (deliver x from m (source_for w m))) (way w from n) mails.Empty
unfolding after_act after_hand hand_message
hand_after w n from x m is full =
    ap (λ z. after_hand w n from (hand_message z)) full ∙ ap (λ y. set_mail (set_node w n (deliver y from m (source_for w m))) (way w from n) mails.Empty) is

pub post_written : (w : World) (b : Books) (n to : ℕ) → advance w b (steps.Turn n) (replies.Turned (turn_event w n (node_acts.Post to))) ≡ b
unfolding advance turn_event event_of after_turn
post_written w b n to = refl

look_written : (w : World) (b : Books) (n from : ℕ) → advance w b (steps.Turn n) (replies.Turned (turn_event w n (node_acts.Look from))) ≡ b
unfolding advance turn_event event_of after_turn
look_written w b n from = refl

pub hand_written : (w : World) (b : Books) (n from : ℕ) (m : Message) → mail_at w (way w from n) ≡ mails.Hand m → advance w b (steps.Turn n) (replies.Turned (turn_event w n (node_acts.Hand from))) ≡ b
unfolding advance turn_event hand_seen hand_event after_turn hand_message
hand_written w b n from m full = rw full refl

pub post_can : (w : World) (n to : ℕ) (x : Node) → node_at w n ≡ x → to < w.count → has_mail_for x to ≡ true → mail_at w (way w n to) ≡ mails.Empty → can_take w n (node_acts.Post to) ≡ true
unfolding can_take is_clear
post_can w n to x is l has empty = let t : nat_lt to w.count ≡ true = grind (arith, nat_tests, l) in rw (t, is, empty, has) refl

look_can : (w : World) (n from : ℕ) (x : Node) (m : Message) → node_at w n ≡ x → from < w.count → x.hand ≡ None → mail_at w (way w from n) ≡ mails.Full m → can_take w n (node_acts.Look from) ≡ true
unfolding can_take is_full
look_can w n from x m is l idle full = let t : nat_lt from w.count ≡ true = grind (arith, nat_tests, l) in rw (t, is, full, idle) refl

pub hand_can : (w : World) (n from : ℕ) (x : Node) (m : Message) → node_at w n ≡ x → x.hand ≡ Some from → mail_at w (way w from n) ≡ mails.Hand m → can_take w n (node_acts.Hand from) ≡ true
unfolding can_take is_hand_of hand_message
hand_can w n from x m is some_hand full = let t : nat_eq from from ≡ true = grind (arith, nat_tests) in rw (is, some_hand, full, t) refl

pub post_lacks : (w : World) (n to : ℕ) → turn_lacks_serials w n (node_acts.Post to) ≡ false
unfolding turn_lacks_serials act_lacks_serials
post_lacks w n to = refl

look_lacks : (w : World) (n from : ℕ) → turn_lacks_serials w n (node_acts.Look from) ≡ false
unfolding turn_lacks_serials act_lacks_serials
look_lacks w n from = refl

pub hand_lacks : (w : World) (n from : ℕ) (x : Node) (m : Message) → node_at w n ≡ x → mail_at w (way w from n) ≡ mails.Hand m → message_lacks_serials x from m (source_for w m) ≡ false → turn_lacks_serials w n (node_acts.Hand from) ≡ false
unfolding turn_lacks_serials hand_lacks_serials hand_message
hand_lacks w n from x m is full l = rw (full, is) l

-- the routes after an act of a node
abbrev pub turn_routes : World → Routes → ℕ → Act → Routes
turn_routes w g n act = routes_after w g (steps.Turn n) (replies.Turned (turn_event w n act))

-- a word other than the changed one is as it was, and the changed one is 3 as before
pub three_stays : (ws : List ℕ) (i n' z : ℕ) → i < length ws → nat_eq (slice_index ws i) 3 ≡ nat_eq n' 3 → nat_eq (slice_index ws z) 3 ≡ nat_eq (slice_index (set ws i n') z) 3
three_stays ws i n' z l same = dite (ℕ_discrete z i)
    (λ e. ap (λ k. nat_eq (slice_index ws k) 3) e ∙ (same ∙ ap (λ k. nat_eq k 3) (sym (ap (slice_index (set ws i n')) e ∙ get_or-set_same ws i n' 0 l))))
    (λ ne. ap (λ k. nat_eq k 3) (sym (get_or-set_other ws i z n' 0 ne)))

-- post: the message leaves the outbox, and the slot goes home with it
pub posts_turns : Posts IsTurns
posts_turns count size slots id i k to m p x rest is at_k at_i small_to has told full first slot s r deep at small =
    let w = r.world in
    let n : ℕ = p.node in
    let sp = spelled s r id m.0 p at is in
    let n_in = sp.inside in
    let c = r.nodes in
    let z = r.words in
    let to_in : to < w.count = omega (arith, c, small_to) in
    let kk : k ≡ way w n to = at_k ∙ ap (λ q. n * q + to) (sym c) in
    let index : i ≡ mailbox w k = omega (arith, at_i, c, z) in
    let inside : k < w.count * w.count = let h = way_low w.count n w.count to 0 to_in n_in in omega (arith, kk) in
    let wide = r.shows.wide in
    let deep_is = r.shows.deep in
    let here : slice_index s.words (mailbox w (way w n to)) ≡ 3 = let e = sym (sp.probed to to_in) ∙ has in grind (arith, e, nat_tests) in
    let word : slice_index s.words (mailbox w k) ≡ 3 = ap (λ q. slice_index s.words (mailbox w q)) kk ∙ here in
    let empty : mail_at w k ≡ mails.Empty = subst (λ q. MailAt q (get_elem? s.homes k) (mail_at w k)) word (r.shows.mail k inside) in
    let empty' : mail_at w (way w n to) ≡ mails.Empty = ap (mail_at w) (sym kk) ∙ empty in
    let p' = post_part to p in
    let w' = set_mail (set_node w n p'.state) k (mails.Full x) in
    let moves = mail_moves w n p'.state k (mails.Full x) in
    let g' = turn_routes w r.routes n (node_acts.Post to) in
    let Kept : World → Books → Type 0 = λ u b. After w r.books r.routes n (node_acts.Post to) u b g' in
    let kept = turn_after w r.books r.routes n (node_acts.Post to) r.lawful n_in (post_can w n to p.state sp.state to_in full empty') (post_lacks w n to) in
    let done : Kept w' r.books = subst (λ q. Kept (set_mail (set_node w n p'.state) q (mails.Full x)) r.books) (sym kk)
    (subst (λ u. Kept u r.books) (post_after w n to p.state x sp.state first) (subst (Kept (after_act w n (node_acts.Post to))) (post_written w r.books n to) kept)) in
    let not_hand : (q : Part) → Spells s.words w q → (from : ℕ) → q.state.hand ≡ Some from → way w from q.node ≢ k =
    λ q sq from e same. no_hand (mail_at w (way w from q.node)) (ap (mail_at w) same ∙ empty) (hand_stands w r.books r.routes q.node from r.lawful sq.inside (ap (λ y. y.hand) sq.state ∙ e)) in
    let homes' = set s.homes k (some (Some x)) in
    let long : i < length s.words = omega (arith, index, inside, wide) in
    let rules = mail_rules count size s r id m.0 (with_part p' m.0) p p' w' g' i k 1 homes' (mails.Full x) at is refl (refl, inl refl, refl) moves index inside (length-set s.homes k (some (Some x)))
    (λ j ne. set_else s.homes k j (some (Some x)) ne) (x, set_here s.homes k (some (Some x)) (omega (arith, inside, deep_is)), refl) refl refl r.books (joined_same s.views id m.0 (with_part p' m.0) p p' r.books at is refl refl refl refl r.joined)
    (ap (hand_of w' n) (post_hand p.state to) ∙ (same_hand w w' n p.state.hand moves.count (λ from e. moves.mails (way w from n) (not_hand p sp from e)) ∙ sp.message))
    (λ t l. dite (ℕ_discrete t to)
    (λ e. ap (has_number (without_number p.probed to)) e ∙ (without_itself p.probed to ∙ sym (ap (λ q. nat_eq q 3)
    (ap (λ q. slice_index (set s.words i 1) (mailbox w (way w n q))) e ∙ (ap (slice_index (set s.words i 1)) (ap (mailbox w) (sym kk) ∙ sym index) ∙ get_or-set_same s.words i 1 0 long)))))
    (λ ne. without_other p.probed to t ne ∙ (sp.probed t l ∙ ap (λ q. nat_eq q 3) (sym (get_or-set_other s.words i (mailbox w (way w n t)) 1 0
    (λ e. way_second w.count n n t to l to_in ne (omega (arith, e, index, kk))))))))
    (λ q sq ne from e. not_hand q sq from e)
    (λ q ne t l e. absurd (way_first w.count q.node n t to l to_in ne (e ∙ kk)))
    (λ e a b la lb same. dite (ℕ_discrete a n)
    (λ f. dite (ℕ_discrete b to)
    (λ t. subst (λ q. bit_at (slice_index s.words (inbox w q)) a ≡ 1) (sym t) (ap (bit_at (slice_index s.words (inbox w to))) f ∙ r.inboxes.announced id m.0 0 p to at (ap (λ (l : List Part). get_elem? l 0) is) told to_in has))
    (λ ne. absurd (way_second w.count a n b to lb to_in ne (same ∙ kk))))
    (λ ne. absurd (way_first w.count a n b to lb to_in ne (same ∙ kk))))
    done.0 ((n, node_acts.Post to) ∷ []) done.1 in
    let Told : Mine → Type 0 = λ m'. m' ≡ (with_part p' m.0, rest) in
    let G : List (ℕ × Slot) → Type 0 = λ held. (v : View) × (a : TableAct Slot) × Valid s.homes held a × Follows count size s r ((n, node_acts.Post to) ∷ []) (stepped s i 1 id held v a) × Told (v, carried_after held a) in
    subst G (sym slot) (with_part p' m.0, gives, tt, rules, refl)

pub posts : (all : Bool) → Posts (IsKept all)
posts all count size slots id i k to m p x rest is at_k at_i small_to has told full first slot s r deep at small =
    let t = posts_turns count size slots id i k to m p x rest is at_k at_i small_to has told full first slot s r deep at small in (t.0, t.1, t.2, turns_keep all count size s _ r ((p.node, node_acts.Post to) ∷ []) (λ e. one_keeps r.world p.node (node_acts.Post to) tt) t.3, t.4)

module _ (count size slots id i k from : ℕ) (m : Mine) (p : Part) (is : m.0.parts ≡ p ∷ []) (at_k : k ≡ from * count + p.node) (at_i : i ≡ size + 1 + count + k) (small_from : from < count)
    (idle : p.state.hand ≡ None) (s : St) (r : Rules count size s) (at : get_elem? s.views id ≡ some m.0) (x : Message) where
  taken : slice_index s.words i ≡ 1 → get_elem? s.homes k ≡ some (some (Some x)) → mail_at r.world k ≡ mails.Full x →
      Follows count size s r ((p.node, node_acts.Look from) ∷ []) (stepped s i 2 id m.1 (with_part (look_part from x p) (saw i (slice_index s.words i) m.0)) (takes k (Some x)))
  taken one home full =
      let w = r.world in
      let n : ℕ = p.node in
      let sp = spelled s r id m.0 p at is in
      let n_in = sp.inside in
      let c = r.nodes in
      let z = r.words in
      let from_in : from < w.count = omega (arith, c, small_from) in
      let kk : k ≡ way w from n = at_k ∙ ap (λ q. from * q + n) (sym c) in
      let index : i ≡ mailbox w k = omega (arith, at_i, c, z) in
      let inside : k < w.count * w.count = let h = way_low w.count from w.count n 0 n_in from_in in omega (arith, kk) in
      let wide = r.shows.wide in
      let full' : mail_at w (way w from n) ≡ mails.Full x = ap (mail_at w) (sym kk) ∙ full in
      let p' = look_part from x p in
      let w' = set_mail (set_node w n p'.state) k (mails.Hand x) in
      let moves = mail_moves w n p'.state k (mails.Hand x) in
      let g' = turn_routes w r.routes n (node_acts.Look from) in
      let Kept : World → Books → Type 0 = λ u b. After w r.books r.routes n (node_acts.Look from) u b g' in
      let kept = turn_after w r.books r.routes n (node_acts.Look from) r.lawful n_in (look_can w n from p.state x sp.state from_in idle full') (look_lacks w n from) in
      let done : Kept w' r.books = subst (λ q. Kept (set_mail (set_node w n p'.state) q (mails.Hand x)) r.books) (sym kk)
      (subst (λ u. Kept u r.books) (look_after w n from p.state x sp.state full') (subst (Kept (after_act w n (node_acts.Look from))) (look_written w r.books n from) kept)) in
      let long : i < length s.words = omega (arith, index, inside, wide) in
      let same_three : nat_eq (slice_index s.words i) 3 ≡ nat_eq 2 3 = ap (λ q. nat_eq q 3) one in
      mail_rules count size s r id m.0 (with_part p' (saw i (slice_index s.words i) m.0)) p p' w' g' i k 2 (set s.homes k none) (mails.Hand x) at is refl (refl, inr (i, refl), refl) moves index inside (length-set s.homes k none)
      (λ j ne. set_else s.homes k j none ne) (x, refl) refl refl r.books (joined_same s.views id m.0 (with_part p' (saw i (slice_index s.words i) m.0)) p p' r.books at is refl refl refl refl r.joined)
      (ap (hand_of w' n) (look_hand p.state from) ∙ found w' n from x k (kk ∙ ap (λ q. from * q + n) (sym moves.count)) moves.mail)
      (λ t l. sp.probed t l ∙ three_stays s.words i 2 (mailbox w (way w n t)) long same_three)
      (λ q sq ne a e same. way_second w.count a from q.node n sq.inside n_in ne (same ∙ kk))
      (λ q ne t l e. same_three)
      (λ e a b la lb same. absurd (omega (arith, e))) done.0 ((n, node_acts.Look from) ∷ []) done.1
    where
      found : (w' : World) (n from : ℕ) (x : Message) (k : ℕ) → k ≡ way w' from n → mail_at w' k ≡ mails.Hand x → hand_of w' n (Some from) ≡ Some x
      found w' n from x k e h = found_hand w' n from x (ap (mail_at w') (sym e) ∙ h)

-- look: if the mailbox is full, its message is taken into the hand, else it is a load
module _ (count size slots id i k from : ℕ) (m : Mine) (p : Part) (is : m.0.parts ≡ p ∷ []) (at_k : k ≡ from * count + p.node) (at_i : i ≡ size + 1 + count + k) (small_from : from < count)
    (idle : p.state.hand ≡ None) (s : St) (r : Rules count size s) (at : get_elem? s.views id ≡ some m.0) where
  abbrev n : ℕ
  n = slice_index s.words i

  abbrev Looked : Bool → Mine → Type 0
  Looked b m' = MatchBool b ((x : Message) × (m' ≡ (with_part (look_part from x p) (saw i n m.0), (k, Some x) ∷ m.1))) (m' ≡ (saw i n m.0, m.1))

  abbrev F : Bool → Type 0
  F b = (v : View) × (a : TableAct Slot) × Valid s.homes m.1 a × Follows count size s r (turn_where b p.node (node_acts.Look from)) (stepped s i (either b 2 n) id m.1 v a) × Looked b (v, carried_after m.1 a)

  looks_by : (b : Bool) → eqb n 1 ≡ b → F b
  looks_by true e =
      let w = r.world in
      let one : n ≡ 1 = eqb-true n 1 e in
      let c = r.nodes in
      let n_in = (spelled s r id m.0 p at is).inside in
      let index : i ≡ mailbox w k = let z = r.words in omega (arith, at_i, c, z) in
      let inside : k < w.count * w.count = let from_in : from < w.count = omega (arith, c, small_from) in let h = way_low w.count from w.count p.node 0 n_in from_in in
      let kk : k ≡ from * w.count + p.node = at_k ∙ ap (λ q. from * q + p.node) (sym c) in omega (arith, kk) in
      let shown : MailAt 1 (get_elem? s.homes k) (mail_at w k) = subst (λ q. MailAt q (get_elem? s.homes k) (mail_at w k)) (ap (slice_index s.words) (sym index) ∙ one) (r.shows.mail k inside) in
      (with_part (look_part from shown.0 p) (saw i n m.0), takes k (Some shown.0), shown.1, taken count size slots id i k from m p is at_k at_i small_from idle s r at shown.0 one shown.1 shown.2, (shown.0, refl))
  looks_by false e = (saw i n m.0, keeps, tt, sees s r i id m.0 (saw i n m.0) p at is is (refl, inr (i, refl), refl), refl)

  pub looked : F (eqb n 1)
  looked = looks_by (eqb n 1) refl

pub looks_turns : Looks IsTurns
looks_turns count size slots id i k from m p is at_k at_i small_from idle s r deep at small = looked count size slots id i k from m p is at_k at_i small_from idle s r at

pub looks : (all : Bool) → Looks (IsKept all)
looks all count size slots id i k from m p is at_k at_i small_from idle s r deep at small =
    let t = looks_turns count size slots id i k from m p is at_k at_i small_from idle s r deep at small in (t.0, t.1, t.2, turns_keep all count size s _ r (turn_where (eqb (slice_index s.words i) 1) p.node (node_acts.Look from)) (λ e. where_keeps (eqb (slice_index s.words i) 1) r.world p.node (node_acts.Look from) tt) t.3, t.4)
