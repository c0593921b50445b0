-- What the message in hand of a bypass tells of its record, and which router is asked.
use Rattle.std.specs.Prelude.{◌≡◌, ◌<◌, ◌≤◌, ℕ, Bool, true, false, cond, ◌&&◌, nat_eq, Some, refl}
use Rattle.std.proofs.Common.{arith, sym}
use Rattle.std.proofs.lemmas.Bool.Decides.{nat_tests}
use Rattle.ipcz_world.proofs.Vocabulary.{Side, B, LinkId, Central, Message, same_side, same_link}
use Rattle.ipcz_world.proofs.Vocabulary.{World, Key, mail_at, way, Records, side_node}
use Rattle.ipcz_world.proofs.Vocabulary.{bypass_of, proxy_side, across_side, Controls, of_bypass, control_weight, inner_of}
use Rattle.ipcz_base.specs.declared.message.Message.TheVariants as messages
use Rattle.ipcz_world.specs.declared.mail.Mail.TheVariants as mails
use Rattle.ipcz_world.specs.Bypasses.{peer_of, stop_of, will_stop_of}
use Rattle.ipcz_world.proofs.acts.AcceptBypassAround.{in_hand-under_way}
use Rattle.ipcz_world.proofs.facts.Lengths.{same_side-itself, same_side-tells, same_link-itself, same_link-tells}
use Rattle.ipcz_world.proofs.frames.Telling.{is_same, never, one_holds}
use Rattle.std.proofs.lemmas.Bool.{and_parts}
use Rattle.ipcz_world.proofs.facts.Tests.{nat_eq-itself}

-- of four stages it is the third, or the fourth
third : (s a b c d : ℕ) → 1 ≤ cond (nat_eq s 1) a (cond (nat_eq s 2) b (cond (nat_eq s 3) c (cond (nat_eq s 4) d 0))) → a ≡ 0 → b ≡ 0 →
    d ≡ 0 → (s ≡ 3) × (1 ≤ c)
third s a b c d h e f i = grind (arith, h, nat_tests)

fourth : (s a b c d : ℕ) → 1 ≤ cond (nat_eq s 1) a (cond (nat_eq s 2) b (cond (nat_eq s 3) c (cond (nat_eq s 4) d 0))) → a ≡ 0 → b ≡ 0 →
    c ≡ 0 → (s ≡ 4) × (1 ≤ d)
fourth s a b c d h e f i = grind (arith, h, nat_tests)

-- whether a message is this one
unfoldable is_stop : ℕ → Side → ℕ → ℕ → Message → Bool
is_stop o side in_length out_length (messages.StopProxying s old i u) = same_side s side && (nat_eq i in_length && nat_eq u out_length)
is_stop o side in_length out_length other = false

unfoldable is_will_stop : LinkId → Side → ℕ → Message → Bool
is_will_stop link side in_length (messages.ProxyWillStop l s i) = same_link l link && (same_side s side && nat_eq i in_length)
is_will_stop link side in_length other = false

-- what StopProxying tells of the bypass's record
pub record IsStopped (g : Records) (from : ℕ) (k : Key) (o : ℕ) (side : Side) (in_length out_length : ℕ) : Type 0 where
  pub stage : (g.bypass o).stage ≡ 3
  pub sender : from ≡ side_node g (Central o) (across_side g o)
  pub receiver : k.node ≡ (g.bypass o).proxy.node
  pub at_side : side ≡ proxy_side g o
  pub accepted : in_length ≡ (g.bypass o).accepted_at
  pub taken : out_length ≡ (g.bypass o).taken_at

pub stopped : (w : World) (g : Records) (from : ℕ) (k : Key) (o : ℕ) (side : Side) (in_length out_length : ℕ) → Controls w g → from < w.count →
    k.node < w.count →
    mail_at w (way w from k.node) ≡ mails.Hand (messages.StopProxying side o in_length out_length) →
    IsStopped g from k o side in_length out_length
unfolding control_weight of_bypass is_stop
stopped w g from k o side in_length out_length law hf hk e = record {
  stage = told.0;
  sender = is_same _ _ (and_parts _ _ all.0).0;
  receiver = is_same _ _ (and_parts _ _ all.0).1;
  at_side = sym (same_side-tells (proxy_side g o) side (and_parts _ _ all.1).0);
  accepted = is_same _ _ (and_parts _ _ (and_parts _ _ all.1).1).0;
  taken = is_same _ _ (and_parts _ _ (and_parts _ _ all.1).1).1;
}
  where
    h : ℕ → ℕ → Message → ℕ
    h a b m = cond ((nat_eq a from && nat_eq b k.node) && is_stop o side in_length out_length m) 1 0

    one : of_bypass g o (h from k.node) (messages.StopProxying side o in_length out_length) ≡ 1
    one = rw (
      nat_eq-itself o,
      nat_eq-itself from,
      nat_eq-itself k.node,
      nat_eq-itself in_length,
      nat_eq-itself out_length,
      same_side-itself side,
    ) refl

    found : 1 ≤ control_weight g h o
    found = omega (
      arith,
      one,
      in_hand-under_way (λ a b. of_bypass g o (h a b)) w from k.node
          (messages.StopProxying side o in_length out_length) hf hk e,
      law.control o h,
    )

    told : ((g.bypass o).stage ≡ 3) × (1 ≤ h (side_node g (Central o) (across_side g o)) (g.bypass o).proxy.node (stop_of g o))
    told = third (g.bypass o).stage _ _ _ _ found (never _) (never _) (never _)

    all : ((nat_eq (side_node g (Central o) (across_side g o)) from && nat_eq (g.bypass o).proxy.node k.node) ≡ true) ×
        ((same_side (proxy_side g o) side && (nat_eq (g.bypass o).accepted_at in_length && nat_eq (g.bypass o).taken_at out_length)) ≡ true)
    all = and_parts _ _ (one_holds _ told.1)

-- what ProxyWillStop tells of the record of the bypass that takes its link away
pub record IsEnded (g : Records) (from : ℕ) (k : Key) (o : ℕ) (link : LinkId) (side : Side) (in_length : ℕ) : Type 0 where
  pub stage : (g.bypass o).stage ≡ 4
  pub sender : from ≡ (g.bypass o).proxy.node
  pub receiver : k.node ≡ side_node g (inner_of g o) B
  pub on_link : link ≡ inner_of g o
  pub at_side : side ≡ B
  pub accepted : in_length ≡ (g.bypass o).accepted_at

pub ended : (w : World) (g : Records) (from : ℕ) (k : Key) (o : ℕ) (link : LinkId) (side : Side) (in_length : ℕ) → Controls w g →
    from < w.count → k.node < w.count → bypass_of g link ≡ Some o →
    mail_at w (way w from k.node) ≡ mails.Hand (messages.ProxyWillStop link side in_length) → IsEnded g from k o link side in_length
unfolding control_weight of_bypass is_will_stop
ended w g from k o link side in_length law hf hk by e = record {
  stage = told.0;
  sender = is_same _ _ (and_parts _ _ all.0).0;
  receiver = is_same _ _ (and_parts _ _ all.0).1;
  on_link = sym (same_link-tells (inner_of g o) link (and_parts _ _ all.1).0);
  at_side = sym (same_side-tells B side (and_parts _ _ (and_parts _ _ all.1).1).0);
  accepted = is_same _ _ (and_parts _ _ (and_parts _ _ all.1).1).1;
}
  where
    h : ℕ → ℕ → Message → ℕ
    h a b m = cond ((nat_eq a from && nat_eq b k.node) && is_will_stop link side in_length m) 1 0

    one : of_bypass g o (h from k.node) (messages.ProxyWillStop link side in_length) ≡ 1
    one = rw (
      by,
      nat_eq-itself o,
      nat_eq-itself from,
      nat_eq-itself k.node,
      nat_eq-itself in_length,
      same_link-itself link,
      same_side-itself side,
    ) refl

    found : 1 ≤ control_weight g h o
    found = omega (
      arith,
      one,
      in_hand-under_way (λ a b. of_bypass g o (h a b)) w from k.node (messages.ProxyWillStop link side in_length)
          hf hk e,
      law.control o h,
    )

    told : ((g.bypass o).stage ≡ 4) × (1 ≤ h (g.bypass o).proxy.node (side_node g (inner_of g o) B) (will_stop_of g o))
    told = fourth (g.bypass o).stage _ _ _ _ found (never _) (never _) (never _)

    all : ((nat_eq (g.bypass o).proxy.node from && nat_eq (side_node g (inner_of g o) B) k.node) ≡ true) ×
        ((same_link (inner_of g o) link && (same_side B side && nat_eq (g.bypass o).accepted_at in_length)) ≡ true)
    all = and_parts _ _ (one_holds _ told.1)

first : (s a b c d : ℕ) → 1 ≤ cond (nat_eq s 1) a (cond (nat_eq s 2) b (cond (nat_eq s 3) c (cond (nat_eq s 4) d 0))) → b ≡ 0 → c ≡ 0 →
    d ≡ 0 → (s ≡ 1) × (1 ≤ a)
first s a b c d h e f i = grind (arith, h, nat_tests)

unfoldable is_peer : LinkId → Side → ℕ → ℕ → Message → Bool
is_peer link side target fresh (messages.BypassPeer l s old t f) =
    same_link l link && (same_side s side && (nat_eq t target && nat_eq f fresh))
is_peer link side target fresh other = false

-- what BypassPeer tells of the bypass's record
pub record IsPeered (g : Records) (from : ℕ) (k : Key) (o : ℕ) (link : LinkId) (side : Side) (target fresh : ℕ) : Type 0 where
  pub stage : (g.bypass o).stage ≡ 1
  pub sender : from ≡ (g.bypass o).proxy.node
  pub receiver : k.node ≡ side_node g (inner_of g o) B
  pub on_link : link ≡ inner_of g o
  pub at_side : side ≡ B
  pub beyond : target ≡ side_node g (Central o) (across_side g o)
  pub on_word : fresh ≡ (g.bypass o).fresh

pub peered : (w : World) (g : Records) (from : ℕ) (k : Key) (o : ℕ) (link : LinkId) (side : Side) (target fresh : ℕ) → Controls w g →
    from < w.count → k.node < w.count →
    mail_at w (way w from k.node) ≡ mails.Hand (messages.BypassPeer link side o target fresh) → IsPeered g from k o link side target fresh
unfolding control_weight of_bypass is_peer
peered w g from k o link side target fresh law hf hk e = record {
  stage = told.0;
  sender = is_same _ _ (and_parts _ _ all.0).0;
  receiver = is_same _ _ (and_parts _ _ all.0).1;
  on_link = sym (same_link-tells (inner_of g o) link (and_parts _ _ all.1).0);
  at_side = sym (same_side-tells B side (and_parts _ _ (and_parts _ _ all.1).1).0);
  beyond = is_same _ _ (and_parts _ _ rest).0;
  on_word = is_same _ _ (and_parts _ _ rest).1;
}
  where
    h : ℕ → ℕ → Message → ℕ
    h a b m = cond ((nat_eq a from && nat_eq b k.node) && is_peer link side target fresh m) 1 0

    one : of_bypass g o (h from k.node) (messages.BypassPeer link side o target fresh) ≡ 1
    one = rw (
      nat_eq-itself o,
      nat_eq-itself from,
      nat_eq-itself k.node,
      nat_eq-itself target,
      nat_eq-itself fresh,
      same_link-itself link,
      same_side-itself side,
    ) refl

    found : 1 ≤ control_weight g h o
    found = omega (
      arith,
      one,
      in_hand-under_way (λ a b. of_bypass g o (h a b)) w from k.node (messages.BypassPeer link side o target fresh)
          hf hk e,
      law.control o h,
    )

    told : ((g.bypass o).stage ≡ 1) × (1 ≤ h (g.bypass o).proxy.node (side_node g (inner_of g o) B) (peer_of g o))
    told = first (g.bypass o).stage _ _ _ _ found (never _) (never _) (never _)

    all : ((nat_eq (g.bypass o).proxy.node from && nat_eq (side_node g (inner_of g o) B) k.node) ≡ true) ×
        ((same_link (inner_of g o) link && (same_side B side && (nat_eq (side_node g (Central o) (across_side g o)) target && nat_eq
        (g.bypass o).fresh fresh))) ≡ true)
    all = and_parts _ _ (one_holds _ told.1)

    rest : (nat_eq (side_node g (Central o) (across_side g o)) target && nat_eq (g.bypass o).fresh fresh) ≡ true
    rest = (and_parts (same_side B side) (nat_eq (side_node g (Central o) (across_side g o)) target && nat_eq (g.bypass o).fresh fresh)
        (and_parts (same_link (inner_of g o) link) (same_side B side &&
        (nat_eq (side_node g (Central o) (across_side g o)) target && nat_eq (g.bypass o).fresh fresh)) all.1).1).1
