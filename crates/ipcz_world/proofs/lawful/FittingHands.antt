-- Each message in a node's hand fits there, a Flush aside: else the node would have a stray after handling it.
use Rattle.ipcz_world.proofs.Vocabulary.{Side, LinkId, Central, Descriptor, Item, Message, Router, Hand, Node, Found, World, way, node_at, set_node}
use Rattle.ipcz_world.proofs.Vocabulary.{after_act, can_take, unless, source_for, is_named, link_router, fits, handle, is_hand_of, deliver, Turn}
use Rattle.ipcz_world.proofs.Vocabulary.{after_hand, turn_lacks_serials, turn_step, advance, routes_after, Lawful, StepKeepsLawful}
use Rattle.std.specs.Prelude.{◌≡◌, ◌⊎◌, ℕ, Bool, true, false, cond, not, ◌&&◌, nat_eq, nat_lt, if◌then◌else◌, Option, Some, None, is_some}
use Rattle.std.specs.Prelude.{refl, List, [], ◌∷◌, ◌++◌}
use Rattle.std.proofs.Common.{arith, ap, sym, ◌∙◌, inl, inr}
use Rattle.std.proofs.lemmas.Bool.Decides.{nat_tests}
use Rattle.ipcz_base.specs.declared.message.Message.TheVariants as messages
use Rattle.ipcz_node.specs.Node.{add_stray}
use Rattle.ipcz_node.specs.Hands.{link_asked, side_asked, fits_item, passes_at}
use Rattle.ipcz_world.specs.declared.mail.Mail.TheVariants as mails
use Rattle.ipcz_world.specs.Turns.{message_in_hand, hand_lacks_serials}
use Rattle.ipcz_world.specs.Laws.{is_flush}
use Rattle.ipcz_world.specs.WorldLaws.{HandsFit}
use Rattle.ipcz_world.proofs.frames.Frames.{node-set_node, node-set_mail}
use Rattle.ipcz_world.proofs.facts.Tests.{and_first}

named_by : (o : Option Found) (test : Router → Bool) → passes_at o test ≡ true → is_some o ≡ true
unfolding passes_at
named_by None test f = cc
named_by (Some x) test f = refl

named_item : (n : Node) (from : ℕ) (link : LinkId) (s : Side) (number : ℕ) (item : Item) (moves : List Descriptor) (o : Option Found) →
    fits_item n from link s number item moves o ≡ true → is_some o ≡ true
unfolding fits_item
named_item n from link s number item moves None f = cc
named_item n from link s number item moves (Some x) f = refl

first_true : (a b : Bool) → (a && b) ≡ true → a ≡ true
first_true true b h = refl
first_true false b h = cc

-- a message that fits, a Flush aside, finds its router
fit_named : (n : Node) (from : ℕ) (m : Message) (o : Option ℕ) → fits n from m o ≡ true →
    (is_flush m ≡ true) ⊎ (is_named n (link_asked m) (side_asked m) ≡ true)
unfolding fits is_flush link_asked side_asked
fit_named n from (messages.Item link s number item moves) o f = inr (named_item n from link s number item moves (link_router n link s) f)
fit_named n from (messages.BypassPeer link s old target fresh) o f = inr (named_by (link_router n link s) _ f)
fit_named n from (messages.AcceptBypass old s fresh length) o f = inr (named_by (link_router n (Central old) s) _ (first_true _ _ f))
fit_named n from (messages.StopProxying s old in_length out_length) o f = inr (named_by (link_router n (Central old) s) _ f)
fit_named n from (messages.ProxyWillStop link s in_length) o f = inr (named_by (link_router n link s) _ f)
fit_named n from (messages.Flush link s) o f = inl refl

neither : (a b : Bool) → a ≡ true → b ≡ true → not (a && b) ≡ true → ⊥
neither true true e f u = cc
neither true false e f u = cc
neither false b e f u = cc

one_more : (ms : List Message) (m : Message) → ms ++ m ∷ [] ≡ [] → ⊥
one_more [] m e = cc
one_more (x ∷ ms) m e = cc

-- what leaves no stray fits
fits_by : (n : Node) (from : ℕ) (m : Message) (o : Option ℕ) → (deliver n from m o).strays ≡ [] → fits n from m o ≡ true
unfolding deliver
fits_by n from m o e = go (fits n from m o) refl
  where
    go : (c : Bool) → fits n from m o ≡ c → c ≡ true
    go true f = refl
    go false f = absurd (one_more n.strays m (sym (ap (λ c. (if c then handle n from m else add_stray n m).strays) f) ∙ e))

strays_after : (w : World) (n from : ℕ) (m : Message) →
    (node_at (after_hand w n from (Some m)) n).strays ≡ (deliver (node_at w n) from m (source_for w m)).strays
unfolding after_hand
strays_after w n from m =
    let x = deliver (node_at w n) from m (source_for w m) in
    let same : nat_eq n n ≡ true = grind (arith, nat_tests) in
    let there : node_at (set_node w n x) n ≡ x = node-set_node w n x n ∙ ap (λ c. cond c x (node_at w n)) same in
    ap (λ (y : Node). y.strays) (node-set_mail (set_node w n x) (way w from n) mails.Empty n ∙ there)

-- a turn that hands, and doesn't lack serials
turned : (w : World) (n from : ℕ) → nat_lt n w.count ≡ true → turn_lacks_serials w n (Hand from) ≡ false →
    (turn_step w n (Hand from)).world ≡ after_act w n (Hand from)
unfolding unless
turned w n from e f = rw (e, f) refl

handed : (w : World) (n from : ℕ) (m : Message) → message_in_hand w n from ≡ Some m →
    after_act w n (Hand from) ≡ after_hand w n from (Some m)
unfolding after_act
handed w n from m here = ap (after_hand w n from) here

pub hands_fit : StepKeepsLawful → HandsFit
unfolding can_take is_hand_of turn_lacks_serials hand_lacks_serials
hands_fit keep w b g n from m law l hand here unfit =
    elim (fit_named (node_at w n) from m (source_for w m) fine) [ inl e ↦ e | inr e ↦ absurd (neither _ _ fine e unfit) ]
  where
    possible : can_take w n (Hand from) ≡ true
    possible = let same : nat_eq from from ≡ true = grind (arith, nat_tests) in rw (hand, here, same) refl

    v : World
    v = (turn_step w n (Hand from)).world

    after : Lawful v (advance w b (Turn n) (turn_step w n (Hand from)).reply) (routes_after w g (Turn n) (turn_step w n (Hand from)).reply)
    after = keep w v b g (Turn n) (turn_step w n (Hand from)).reply law (Hand from, (λ k. possible), inl (refl, refl))

    inside : nat_lt n w.count ≡ true
    inside = grind (arith, l, nat_tests)

    fine : fits (node_at w n) from m (source_for w m) ≡ true
    fine = go (turn_lacks_serials w n (Hand from)) refl
      where
        go : (c : Bool) → turn_lacks_serials w n (Hand from) ≡ c → fits (node_at w n) from m (source_for w m) ≡ true
        go true e = and_first _ _ (sym (ap (hand_lacks_serials w n from) here) ∙ e)
        go false e =
            let is : v ≡ after_hand w n from (Some m) = turned w n from inside e ∙ handed w n from m here in
            fits_by (node_at w n) from m (source_for w m)
            (sym (strays_after w n from m) ∙ ap (λ (u : World). (node_at u n).strays) (sym is) ∙
            after.inv.no_strays n)
