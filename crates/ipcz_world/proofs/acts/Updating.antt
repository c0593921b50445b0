-- What a node computes, as updates of the world: the acts of routers, and the hands.
use Rattle.std.specs.Prelude.{Bool, false, if◌then◌else◌}
use Rattle.ipcz_base.specs.declared.message.Message.TheVariants as messages
use Rattle.ipcz_world.proofs.Vocabulary.{opposite, End, current_item, LinkEnd, Message, put_place, Word, Router, primary_word, output_of, Node}
use Rattle.ipcz_world.proofs.Vocabulary.{bare_node, with_router, router_in, commit, World, node_at, word_at, router_at, way, set_node, set_word}
use Rattle.ipcz_world.proofs.Vocabulary.{set_mail, after_act, next_number, send_item, move_ends, Gone, has_gone_next, item_passes, discard_output}
use Rattle.ipcz_world.proofs.Vocabulary.{without_router, leaves_by, source_for, apply, message_output, push_out, on_router, send, fits, handle}
use Rattle.ipcz_world.proofs.Vocabulary.{deliver, is_hand_of, commit_router, keep_or_drop, after_router_act, after_hand, touch, touch_word}
use Rattle.ipcz_router.specs.ActEffects.{retire_output}
use Rattle.ipcz_node.specs.Sends.{post_item}
use Rattle.ipcz_world.proofs.facts.Updates.{retire_act}
use Rattle.std.specs.Prelude.{◌++◌}
use Rattle.ipcz_world.proofs.facts.Updates.{discard_leave_act}
use Rattle.ipcz_world.proofs.facts.Drained.{gone_next-tells}
use Rattle.std.specs.Prelude.{◌≡◌, ℕ, zero, suc, true, nat_eq, Some, None, List, [], ◌∷◌, refl}
use Rattle.std.proofs.Common.{arith, ap, ◌∙◌, sym}
use Rattle.std.proofs.lemmas.Bool.Decides.{nat_tests}
use Rattle.ipcz_router.specs.ActEffects.{flush_message, wake_other}
use Rattle.ipcz_router.specs.declared.act.RouterAct.TheVariants as acts
use Rattle.ipcz_node.specs.declared.act.Act.TheVariants.{Router as OfRouter}
use Rattle.ipcz_node.specs.Hands.{free_hand}
use Rattle.ipcz_world.specs.declared.mail.Mail.TheVariants as mails
use Rattle.ipcz_world.proofs.facts.Updates.{push_message}
use Rattle.ipcz_world.proofs.frames.Frames.{node-set_node}
use Rattle.ipcz_world.specs.WordAnswers.{word_after}
use Rattle.ipcz_world.proofs.facts.Updates.{leave_act, finish_out_act, finish_in_act, wake_act, free}
use Rattle.ipcz_world.specs.WordAnswers.{woken}
use Rattle.ipcz_world.proofs.facts.Updates.{tells_wake}

pub put-twice : {X : Type 0} (d : X) (xs : List X) (i : ℕ) (y z : X) → put_place d (put_place d xs i y) i z ≡ put_place d xs i z
unfolding put_place
put-twice d [] zero y z = refl
put-twice d [] (suc i) y z = ap (λ ys. d ∷ ys) (put-twice d [] i y z)
put-twice d (x ∷ xs) zero y z = refl
put-twice d (x ∷ xs) (suc i) y z = ap (λ ys. x ∷ ys) (put-twice d xs i y z)

pub set-twice : (w : World) (n : ℕ) (x z : Node) → set_node (set_node w n x) n z ≡ set_node w n z
unfolding set_node
set-twice w n x z = ap (λ ns. record w { nodes = ns }) (put-twice (bare_node 0 0) w.nodes n x z)

pub node-here : (w : World) (n : ℕ) (x : Node) → node_at (set_node w n x) n ≡ x
node-here w n x = grind (arith, node-set_node w n x n, nat_tests)

-- a message more at a node that has just changed is one change
pub push-set_node : (w : World) (n : ℕ) (x : Node) (to : ℕ) (m : Message) →
    push_message (set_node w n x) n to m ≡ set_node w n (push_out x to m)
push-set_node w n x to m = ap (λ z. set_node (set_node w n x) n (push_out z to m)) (node-here w n x) ∙ set-twice w n x (push_out x to m)

pub acted-leave : (w : World) (n s : ℕ) (r : Router) → router_at w (record { node = n; serial = s }) ≡ Some r →
    after_act w n (OfRouter s acts.Leave) ≡ leave_act w (record { node = n; serial = s })
unfolding after_act after_router_act touch commit on_router commit_router keep_or_drop leaves_by apply output_of send router_at
acted-leave w n s r here = let inside : router_in (node_at w n) s ≡ Some r = here in rw (here, inside) refl

and_none : (es : List End) → es ++ [] ≡ es
and_none [] = refl
and_none (e ∷ es) = ap (λ t. e ∷ t) (and_none es)

-- a sink that drops Gone leaves
pub acted-discard_leave : (w : World) (n s : ℕ) (r : Router) → router_at w (record { node = n; serial = s }) ≡ Some r →
    has_gone_next r ≡ true → after_act w n (OfRouter s acts.Discard) ≡ discard_leave_act w (record { node = n; serial = s })
unfolding after_act after_router_act touch commit on_router commit_router keep_or_drop leaves_by apply output_of discard_output send router_at
    item_passes
acted-discard_leave w n s r here next =
    let inside : router_in (node_at w n) s ≡ Some r = here in
    let at : current_item r.in_queue ≡ Some Gone = gone_next-tells r next in
    rw (here, inside, at) (ap (λ ps. set_node w n (record (without_router (node_at w n) s) { pending = ps })) (and_none (node_at w n).pending))

pub acted-finish_out : (w : World) (n s : ℕ) (r : Router) → router_at w (record { node = n; serial = s }) ≡ Some r →
    after_act w n (OfRouter s acts.FinishOut) ≡ finish_out_act w (record { node = n; serial = s }) r
unfolding after_act after_router_act touch commit on_router commit_router keep_or_drop leaves_by apply output_of send router_at
acted-finish_out w n s r here = let inside : router_in (node_at w n) s ≡ Some r = here in rw (here, inside) refl

pub acted-finish_in : (w : World) (n s : ℕ) (r : Router) → router_at w (record { node = n; serial = s }) ≡ Some r →
    after_act w n (OfRouter s acts.FinishIn) ≡ finish_in_act w (record { node = n; serial = s }) r
unfolding after_act after_router_act touch commit on_router commit_router keep_or_drop leaves_by apply output_of send router_at
acted-finish_in w n s r here = let inside : router_in (node_at w n) s ≡ Some r = here in rw (here, inside) refl

-- a word that changes after a message more, or before
push-set_word : (w : World) (n to i : ℕ) (m : Message) (x : Word) →
    set_word (push_message w n to m) i x ≡ push_message (set_word w i x) n to m
unfolding set_word set_node node_at
push-set_word w n to i m x = refl

wake_computed : (w : World) (n s i : ℕ) (r : Router) (e : LinkEnd) → router_at w (record { node = n; serial = s }) ≡ Some r →
    primary_word r ≡ Some i → r.outward.primary ≡ Some e →
    after_act w n (OfRouter s acts.Wake) ≡ set_word (set_node w n
    (push_out (with_router (node_at w n) s (wake_other r)) e.other (tells_wake e))) i
    (woken (word_at w i) r.end.side)
unfolding after_act after_router_act touch touch_word word_after commit on_router commit_router keep_or_drop leaves_by apply output_of message_output
    flush_message send router_at set_word set_node
wake_computed w n s i r e here word on = let inside : router_in (node_at w n) s ≡ Some r = here in rw (here, inside, word, on) refl

pub acted-wake : (w : World) (n s i : ℕ) (r : Router) (e : LinkEnd) → router_at w (record { node = n; serial = s }) ≡ Some r →
    primary_word r ≡ Some i → r.outward.primary ≡ Some e →
    after_act w n (OfRouter s acts.Wake) ≡ wake_act w (record { node = n; serial = s }) r i e
acted-wake w n s i r e here word on =
    computed ∙ ap (λ v. set_word v i (woken (word_at w i) r.end.side))
    (sym (push-set_node w n (with_router (node_at w n) s (wake_other r)) e.other flush)) ∙ push-set_word
    (set_node w n (with_router (node_at w n) s (wake_other r))) n e.other i flush (woken (word_at w i) r.end.side)
  where
    flush : Message
    flush = tells_wake e

    computed : after_act w n (OfRouter s acts.Wake) ≡ set_word (set_node w n
        (push_out (with_router (node_at w n) s (wake_other r)) e.other flush)) i (woken (word_at w i) r.end.side)
    computed = wake_computed w n s i r e here word on

-- the hand is empty, and the mailbox
pub freed : (w : World) (n from : ℕ) (x : Node) → free (set_node w n x) from n ≡ set_mail (set_node w n (record x { hand = None }))
    (way w from n) mails.Empty
unfolding set_node
freed w n from x = ap (λ z. set_mail (set_node (set_node w n x) n (record z { hand = None })) (way w from n) mails.Empty) (node-here w n x)
    ∙ ap (λ v. set_mail v (way w from n) mails.Empty) (set-twice w n x (record x { hand = None }))

pub handed-is : (w : World) (n from : ℕ) (m : Message) (x : Node) → fits (node_at w n) from m (source_for w m) ≡ true → handle
    (node_at w n) from m ≡ x →
    x.hand ≡ Some from → after_hand w n from (Some m) ≡ free (set_node w n x) from n
unfolding after_hand deliver is_hand_of
handed-is w n from m x fit is hand =
    let own : nat_eq from from ≡ true = grind (arith, nat_tests) in
    let freed_hand : free_hand x from ≡ record x { hand = None } = rw (hand, own) refl in
    rw (fit, is) (ap (λ z. set_mail (set_node w n z) (way w from n) mails.Empty) freed_hand ∙ sym (freed w n from x))

-- a sink that retires
pub acted-retire : (w : World) (n s : ℕ) (r : Router) (e : LinkEnd) → router_at w (record { node = n; serial = s }) ≡ Some r →
    r.outward.primary ≡ Some e → after_act w n (OfRouter s acts.Retire) ≡ retire_act w (record { node = n; serial = s }) e (next_number r)
unfolding after_act after_router_act touch commit on_router commit_router keep_or_drop leaves_by apply output_of retire_output send send_item
    router_at
acted-retire w n s r e here primary = let inside : router_in (node_at w n) s ≡ Some r = here in
    rw (here, inside, primary) (go (nat_eq e.other (node_at w n).number)) ∙
    sym (ap (λ x. set_node (set_node w n left) n (push_out x e.other m))
    (node-here w n left) ∙ set-twice w n left (push_out left e.other m))
  where
    left : Node
    left = without_router (node_at w n) s

    m : Message
    m = messages.Item e.link (opposite e.side) (next_number r) Gone []

    go : (c : Bool) → set_node w n (post_item (move_ends (record { node = left; moves = [] }) e.other (if c then [] else [])) e (next_number r) Gone)
        ≡ set_node w n (push_out left e.other m)
    go true = refl
    go false = refl
