-- If a lone parcel waits, each node but its own is quiet, and that node sends over its link only: so code that looks for it finds it.
use Rattle.std.specs.Prelude.{◌≡◌, ◌≤◌, ◌<◌, ℕ, ◌+◌, Bool, true, false, nat_eq, nat_lt, Option, Some, None, refl}
use Rattle.std.proofs.Common.{arith, ap, sym, subst, subst₂, ◌∙◌, true≢false}
use Rattle.std.proofs.lemmas.Bool.Decides.{nat_tests}
use Rattle.std.specs.FinMap.{get}
use Rattle.ipcz_world.proofs.Vocabulary.{Empty, LinkEnd, Mail, Message, Node, Router, World, mail_at, node_at, router_in, set_mail, set_node, way}
use Rattle.ipcz_world.proofs.Vocabulary.{is_clear, is_full, is_quiet, with_hand}
use Rattle.ipcz_node.specs.Lone.{IsSender, Sends}
use Rattle.ipcz_world.specs.declared.mail.Mail.TheVariants.{Full, Hand}
use Rattle.ipcz_world.specs.FastPath.{AreQuiet, IsLoneBy, IsLoneNode}
use Rattle.ipcz_world.proofs.acts.Updating.{node-here}
use Rattle.ipcz_world.proofs.code.LoneWorlds.{quiet_is}
use Rattle.ipcz_world.proofs.facts.Finding.{found_there}

none_some : {X : Type 0} {x : X} → None ≡ Some x → ⊥
none_some e = cc

-- a node with a flagged router isn't quiet
sender_busy : (x : Node) (serial : ℕ) (r : Router) → router_in x serial ≡ Some r → r.flagged ≡ true → is_quiet x ≡ false
sender_busy x serial r here up = go (is_quiet x) refl
  where
    go : (b : Bool) → is_quiet x ≡ b → b ≡ false
    go false e = refl
    go true e =
        let t = found_there x (λ r. r.flagged) serial r here up in
        absurd (none_some (sym (quiet_is x e).rests ∙ t.1))

-- so the node of a lone parcel or of a lone sender is the only one that isn't quiet
pub alone : {told : Router → Option LinkEnd} {GoesWith : ℕ → ℕ → Type 0} {w : World} {n serial : ℕ} {link : LinkEnd} →
    IsLoneBy (Sends (IsSender told GoesWith)) w n serial link → IsLoneNode w n
alone {w = w} {n} {serial} lone = record {
  here = lone.here;
  busy = sender_busy (node_at w n) serial lone.sends.sender.router lone.sends.sender.here lone.sends.sender.flagged;
  others = lone.others;
}

-- a node that isn't quiet is that one
busy_is : (w : World) (n k : ℕ) → IsLoneNode w n → k < w.count → is_quiet (node_at w k) ≡ false → n ≡ k
busy_is w n k alone l busy = go (nat_eq k n) refl
  where
    go : (b : Bool) → nat_eq k n ≡ b → n ≡ k
    go true e = grind (arith, e, nat_tests)
    go false e = absurd (true≢false (sym (alone.others k l (λ same. grind (arith, e, same, nat_tests))) ∙ busy))

-- of two serials that go with each other there is one, if only one router is flagged or if they are in order
pub only_one : (s t : ℕ) → s ≡ t → t ≡ s → s ≡ t
only_one s t same _ = same

pub lowest : (s t : ℕ) → t ≤ s → s ≤ t → s ≡ t
lowest s t low high = omega (arith, low, high)

-- and then a node sends over one link
pub link_is : {told : Router → Option LinkEnd} {GoesWith : ℕ → ℕ → Type 0} → ((s t : ℕ) → GoesWith s t → GoesWith t s → s ≡ t) →
    {x : Node} {s t : ℕ} {a b : LinkEnd} → Sends (IsSender told GoesWith) x s a → Sends (IsSender told GoesWith) x t b → a ≡ b
link_is {told = told} unique {x} {s} {t} {a} {b} one two =
    let same : t ≡ s = unique t s (one.sender.others t two.sender.router two.sender.here two.sender.flagged)
    (two.sender.others s one.sender.router one.sender.here one.sender.flagged) in
    let both : Some one.sender.router ≡ Some two.sender.router =
    sym (subst (λ k. get x.routers k ≡ Some one.sender.router) (sym same) one.sender.here) ∙ two.sender.here in
    let router : one.sender.router ≡ two.sender.router = cc in
    let links : Some a ≡ Some b = sym one.sender.sends ∙ ap told router ∙ two.sender.sends in
    cc

-- a message in hand is in hand at its node
pub in_hand : (w : World) (from to : ℕ) (m : Message) → (node_at (with_hand w from to m) to).hand ≡ Some from
unfolding node_at set_node set_mail
in_hand w from to m = ap (λ (z : Node). z.hand) (node-here w to (record (node_at w to) { hand = Some from }))

-- a mailbox that is clear is empty
empty_is : (b : Mail) → is_clear b ≡ true → b ≡ Empty
unfolding is_clear
empty_is Empty h = refl
empty_is (Full m) h = cc
empty_is (Hand m) h = cc

-- code that has found all this has found the only node with something to do, and it has the world in another form
pub found-lone : {Does : Node → ℕ → LinkEnd → Type 0} {v w : World} {n serial place : ℕ} {link : LinkEnd} {x : Node} → v ≡ w →
    ((k : ℕ) → is_full (mail_at v k) ≡ false) → n < w.count → AreQuiet w 0 n → AreQuiet w (n + 1) w.count → x ≡ node_at v n → Does x serial link →
    link.other < v.count → place ≡ way w n link.other → is_clear (mail_at v place) ≡ true → IsLoneBy Does w n serial link
found-lone {Does} {v} {w} {n} {serial} {place} {link} view mail here before behind is does there place_is clear = record {
  mail = subst (λ (u : World). (k : ℕ) → is_full (mail_at u k) ≡ false) view mail;
  here = here;
  there = subst (λ (u : World). link.other < u.count) view there;
  others = λ k l ne. go k l ne (nat_lt k n) refl;
  box = empty_is _ (subst₂ (λ u p. is_clear (mail_at u p) ≡ true) view place_is clear);
  sends = subst (λ x. Does x serial link) (is ∙ ap (λ (u : World). node_at u n) view) does;
}
  where
    go : (k : ℕ) → k < w.count → (k ≡ n → ⊥) → (b : Bool) → nat_lt k n ≡ b → is_quiet (node_at w k) ≡ true
    go k l ne true e = before k (omega arith) (grind (arith, e, nat_tests))
    go k l ne false e = behind k (grind (arith, e, ne, nat_tests)) l

-- or it has found what can't be while there is such a node: a full mailbox
pub none-full : {Does : Node → ℕ → LinkEnd → Type 0} {v w : World} {n serial : ℕ} {link : LinkEnd} → v ≡ w →
    (k : ℕ) × (is_full (mail_at v k) ≡ true) → IsLoneBy Does w n serial link → ⊥
none-full view full lone =
    let at = subst (λ (u : World). is_full (mail_at u full.0) ≡ true) view full.1 in
    true≢false (sym at ∙ lone.mail full.0)

-- or another node that isn't quiet
module _ {told : Router → Option LinkEnd} {GoesWith : ℕ → ℕ → Type 0} {v w : World} (view : v ≡ w) {n serial k : ℕ} {link : LinkEnd} {x : Node}
    (lone : IsLoneBy (Sends (IsSender told GoesWith)) w n serial link) (here : k < w.count) (busy : is_quiet (node_at w k) ≡ false)
    (is : x ≡ node_at v k) where
  same-node : n ≡ k
  same-node = busy_is w n k (alone lone) here busy

  pub sends-there : Sends (IsSender told GoesWith) x serial link
  sends-there = subst (λ z. Sends (IsSender told GoesWith) z serial link) (ap (node_at w) same-node ∙ sym (is ∙ ap (λ (u : World). node_at u k) view))
      lone.sends

  -- or a link to a node that isn't there, or to one whose mailbox for it isn't empty
  module _ (unique : (s t : ℕ) → GoesWith s t → GoesWith t s → s ≡ t) {s : ℕ} {found : LinkEnd} (sends : Sends (IsSender told GoesWith) x s found) where
    same-link : link ≡ found
    same-link = link_is unique sends-there sends

    pub none-beyond : v.count ≤ found.other → ⊥
    none-beyond beyond =
        let there : found.other < v.count = subst₂ (λ (u : World) (e : LinkEnd). e.other < u.count) (sym view) same-link lone.there in
        omega (arith, there, beyond)

    pub none-held : {place : ℕ} → place ≡ way w k found.other → is_clear (mail_at v place) ≡ false → ⊥
    unfolding is_clear
    none-held place_is held =
        let box : mail_at w (way w k found.other) ≡ Empty =
        subst₂ (λ i (e : LinkEnd). mail_at w (way w i e.other) ≡ Empty) same-node same-link lone.box in
        let at = subst₂ (λ u p. is_clear (mail_at u p) ≡ false) view place_is held in
        true≢false (sym (ap is_clear box) ∙ at)
