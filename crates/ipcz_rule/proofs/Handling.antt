-- Handle: the message in hand is handled, and its slot goes home empty.
use Rattle.std.specs.Prelude.{◌≡◌, ◌<◌, ◌+◌, ◌*◌, ℕ, Bool, true, false, nat_eq, List, [], ◌∷◌, length, slice_index, Option, Some, None, refl, if◌then◌else◌}
use Rattle.std.proofs.Common.{arith, ap, ◌∙◌, sym, inl, subst, set, length-set}
use Rattle.std.proofs.lemmas.Bool.Decides.{nat_tests}
use mathlib.Core.Option.{some}
use lib.ListN.{get_elem?}
use Rattle.atomic_table.specs.Table.{Act as TableAct, Valid, stepped, carried_after, gives}
use Rattle.atomic_table.proofs.Lists.{set_here, set_else}
use Rattle.ipcz_base.specs.declared.message.Message.{Message}
use Rattle.ipcz_base.specs.declared.message.Message.TheVariants as messages
use Rattle.ipcz_base.specs.declared.link_id.LinkId.TheVariants.{Central}
use Rattle.ipcz_base.specs.declared.descriptor.Descriptor.{Descriptor}
use Rattle.ipcz_router.specs.Router.{Router, from_descriptor}
use Rattle.ipcz_router.specs.declared.sending.Sending.{Sending}
use Rattle.ipcz_router.specs.Bypass.{bypass_peer, accept_message, accept_bypass, stop_message, stop_proxying, will_stop_message}
use Rattle.ipcz_router.specs.Router.{inward_edge}
use Rattle.ipcz_node.specs.declared.act.Act.TheVariants as node_acts
use Rattle.ipcz_node.specs.Node.{Node, Found, on_found, link_router, with_router, add_router, add_stray}
use Rattle.ipcz_node.specs.Hands.{message_lacks_serials, deliver, handle, fits, tell, make_terminals, take_in, is_hand_of}
use Rattle.ipcz_world.specs.WordAnswers.{source_for}
use Rattle.ipcz_world.specs.declared.mail.Mail.TheVariants as mails
use Rattle.ipcz_world.specs.World.{World, mail_at, way, set_node, set_mail}
use Rattle.ipcz_world.specs.Turns.{after_act}
use Rattle.ipcz_world.specs.Books.{Books}
use Rattle.ipcz_world.specs.Routes.{hand_of}
use Rattle.ipcz_rule.specs.declared.view.View.{View}
use Rattle.ipcz_rule.specs.Rule.{Slot, Mine, mailbox, with_part}
use Rattle.ipcz_rule.specs.Steps.{hand_part, trusted}
use Rattle.ipcz_rule.specs.Kinds.{Follows, IsKept, IsTurns, Hands}
use Rattle.ipcz_rule.proofs.KeptEnds.{turns_keep}
use Rattle.ipcz_rule.proofs.FromLaws.{hand_sender, hand_source}
use Rattle.ipcz_rule.proofs.Joins.{joined_same}
use Rattle.ipcz_rule.proofs.Moved.{spelled}
use Rattle.ipcz_rule.proofs.Touching.{After, turn_after}
use Rattle.ipcz_rule.proofs.Mailing.{way_low, way_second, mail_moves, mail_rules}
use Rattle.ipcz_rule.proofs.Posting.{in_hand, at_two, hand_after, hand_written, hand_can, hand_lacks, turn_routes, three_stays}
use Rattle.ipcz_rule.proofs.KeptEnds.{one_keeps}

on_found_hand : (n : Node) (f : Option Found) (change : ℕ → Router → Node) → ((s : ℕ) (r : Router) → (change s r).hand ≡ n.hand) → (on_found n f change).hand ≡ n.hand
unfolding on_found
on_found_hand n None change h = refl
on_found_hand n (Some f) change h = h f.serial f.router

tell_hand : (n : Node) (s : Option Sending) → (tell n s).hand ≡ n.hand
unfolding tell
tell_hand n None = refl
tell_hand n (Some s) = refl

terminals_hand : (n : Node) (sender : ℕ) (ds : List Descriptor) → (make_terminals n sender ds).hand ≡ n.hand
terminals_hand n sender [] = refl
terminals_hand n sender (d ∷ ds) = terminals_hand (add_router n (from_descriptor d sender)) sender ds

handle_hand : (n : Node) (sender : ℕ) (m : Message) → (handle n sender m).hand ≡ n.hand
unfolding handle
handle_hand n sender (messages.Item link side number item moves) = on_found_hand n (link_router n link side) (take_in n sender link side number item moves) (λ s r. terminals_hand _ sender moves)
handle_hand n sender (messages.BypassPeer link side old target fresh) =
    on_found_hand n (link_router n link side) _ (λ s r. tell_hand (with_router n s (bypass_peer r target fresh)) (Some (accept_message r old target fresh)))
handle_hand n sender (messages.AcceptBypass old side fresh length) =
    on_found_hand n (link_router n (Central old) side) _ (λ s r. tell_hand (with_router n s (accept_bypass r sender side fresh length)) (stop_message r r.outward.primary old side length))
handle_hand n sender (messages.StopProxying side old in_length out_length) =
    on_found_hand n (link_router n (Central old) side) _ (λ s r. tell_hand (with_router n s (stop_proxying r in_length out_length)) (will_stop_message (inward_edge r).decaying in_length))
handle_hand n sender (messages.ProxyWillStop link side in_length) = on_found_hand n (link_router n link side) _ (λ s r. refl)
handle_hand n sender (messages.Flush link side) = on_found_hand n (link_router n link side) _ (λ s r. refl)

either_hand : (b : Bool) (n x y : Node) → x.hand ≡ n.hand → y.hand ≡ n.hand → (if b then x else y).hand ≡ n.hand
either_hand true n x y h k = h
either_hand false n x y h k = k

freed : (h : Option ℕ) (sender : ℕ) → h ≡ Some sender → (if is_hand_of h sender then None else h) ≡ None
unfolding is_hand_of
freed None sender e = refl
freed (Some a) sender e = let t : nat_eq a sender ≡ true = grind (arith, nat_tests, e) in rw t refl

pub deliver_hand : (n : Node) (sender : ℕ) (m : Message) (source : Option ℕ) → n.hand ≡ Some sender → (deliver n sender m source).hand ≡ None
unfolding deliver
deliver_hand n sender m source e = freed (if fits n sender m source then handle n sender m else add_stray n m).hand sender
    (either_hand (fits n sender m source) n (handle n sender m) (add_stray n m) (handle_hand n sender m) refl ∙ e)

empty_hand : (w : World) (n : ℕ) (h : Option ℕ) → h ≡ None → hand_of w n h ≡ None
unfolding hand_of
empty_hand w n None e = refl
empty_hand w n (Some a) e = cc

pub hands_turns : Hands IsTurns
hands_turns count size slots id i k from m p x rest is at_k at_i holds has serials slot s r deep at small =
    let w = r.world in
    let n : ℕ = p.node in
    let sp = spelled s r id m.0 p at is in
    let n_in = sp.inside in
    let c = r.nodes in
    let z = r.words in
    let from_in = hand_sender w r.books r.routes n from r.lawful n_in (ap (λ y. y.hand) sp.state ∙ holds) in
    let kk : k ≡ way w from n = at_k ∙ ap (λ q. from * q + n) (sym c) in
    let index : i ≡ mailbox w k = omega (arith, at_i, c, z) in
    let inside : k < w.count * w.count = let h = way_low w.count from w.count n 0 n_in from_in in omega (arith, kk) in
    let wide = r.shows.wide in
    let deep_is = r.shows.deep in
    let full' : mail_at w (way w from n) ≡ mails.Hand x = in_hand w n from x (ap (hand_of w n) (sym holds) ∙ (sp.message ∙ has)) in
    let full : mail_at w k ≡ mails.Hand x = ap (mail_at w) kk ∙ full' in
    let two : slice_index s.words i ≡ 2 = ap (slice_index s.words) index ∙ at_two (slice_index s.words (mailbox w k)) (get_elem? s.homes k) (mail_at w k) x (r.shows.mail k inside) full in
    let src : source_for w x ≡ trusted from x = hand_source w r.books r.routes n from x r.lawful n_in from_in full' in
    let p' = hand_part from (trusted from x) x p in
    let w' = set_mail (set_node w n p'.state) k mails.Empty in
    let moves = mail_moves w n p'.state k mails.Empty in
    let g' = turn_routes w r.routes n (node_acts.Hand from) in
    let Kept : World → Books → Type 0 = λ u b. After w r.books r.routes n (node_acts.Hand from) u b g' in
    let kept = turn_after w r.books r.routes n (node_acts.Hand from) r.lawful n_in (hand_can w n from p.state x sp.state holds full') (hand_lacks w n from p.state x sp.state full' (ap (λ o. message_lacks_serials p.state from x o) src ∙ serials)) in
    let done : Kept w' r.books = subst (λ q. Kept (set_mail (set_node w n p'.state) q mails.Empty) r.books) (sym kk)
    (subst (λ u. Kept u r.books) (hand_after w n from p.state x sp.state full' ∙ ap (λ o. set_mail (set_node w n (deliver p.state from x o)) (way w from n) mails.Empty) src) (subst (Kept (after_act w n (node_acts.Hand from))) (hand_written w r.books n from x full') kept)) in
    let homes' = set s.homes k (some None) in
    let long : i < length s.words = omega (arith, index, inside, wide) in
    let same_three : nat_eq (slice_index s.words i) 3 ≡ nat_eq 0 3 = ap (λ q. nat_eq q 3) two in
    let rules = mail_rules count size s r id m.0 (with_part p' m.0) p p' w' g' i k 0 homes' mails.Empty at is refl (refl, inl refl, refl) moves index inside (length-set s.homes k (some None))
    (λ j ne. set_else s.homes k j (some None) ne) (set_here s.homes k (some None) (omega (arith, inside, deep_is)), refl) refl refl r.books (joined_same s.views id m.0 (with_part p' m.0) p p' r.books at is refl refl refl refl r.joined)
    (empty_hand w' n (deliver p.state from x (trusted from x)).hand (deliver_hand p.state from x (trusted from x) holds))
    (λ t l. sp.probed t l ∙ three_stays s.words i 0 (mailbox w (way w n t)) long same_three)
    (λ q sq ne a e same. way_second w.count a from q.node n sq.inside n_in ne (same ∙ kk))
    (λ q ne t l e. same_three)
    (λ e a b la lb same. absurd (omega (arith, e))) done.0 ((n, node_acts.Hand from) ∷ []) done.1 in
    let Told : Mine → Type 0 = λ m'. m' ≡ (with_part p' m.0, rest) in
    let G : List (ℕ × Slot) → Type 0 = λ held. (v : View) × (a : TableAct Slot) × Valid s.homes held a × Follows count size s r ((n, node_acts.Hand from) ∷ []) (stepped s i 0 id held v a) × Told (v, carried_after held a) in
    subst G (sym slot) (with_part p' m.0, gives, tt, rules, refl)

pub hands : (all : Bool) → Hands (IsKept all)
hands all count size slots id i k from m p x rest is at_k at_i holds has serials slot s r deep at small =
    let t = hands_turns count size slots id i k from m p x rest is at_k at_i holds has serials slot s r deep at small in (t.0, t.1, t.2, turns_keep all count size s _ r ((p.node, node_acts.Hand from) ∷ []) (λ e. one_keeps r.world p.node (node_acts.Hand from) tt) t.3, t.4)
