-- What a message of a bypass that is under way tells of the bypass's record.
use Rattle.std.specs.Prelude.{◌≡◌, ◌⊎◌, ◌≤◌, ℕ, Bool, true, false, cond, ◌&&◌, nat_eq, Option, Some, None, is_some, refl}
use Rattle.std.proofs.Common.{arith, sym, inl, inr}
use Rattle.std.proofs.lemmas.Bool.Decides.{nat_tests}
use Rattle.ipcz_world.proofs.Vocabulary.{Side, B, LinkId, Central, Message, same_side, same_link, World, Records, side_node, bypass_of}
use Rattle.ipcz_world.proofs.Vocabulary.{is_begun, proxy_side, across_side, IsUnderWay, Controls, of_bypass, control_weight, inner_of}
use Rattle.ipcz_base.specs.declared.message.Message.TheVariants as messages
use Rattle.ipcz_world.specs.Laws.{names_old}
use Rattle.ipcz_world.proofs.facts.Lengths.{same_side-tells, same_link-itself, same_link-tells, same_side-itself}
use Rattle.ipcz_world.proofs.frames.Flowing.{weighed}
use Rattle.std.proofs.lemmas.Bool.{and_parts}
use Rattle.ipcz_world.proofs.facts.Tests.{nat_eq-itself}

-- of four stages it is the one that weighs something
of_four : (s a b c d : ℕ) → 1 ≤ cond (nat_eq s 1) a (cond (nat_eq s 2) b (cond (nat_eq s 3) c (cond (nat_eq s 4) d 0))) →
    ((s ≡ 1) × (1 ≤ a)) ⊎ (((s ≡ 2) × (1 ≤ b)) ⊎ (((s ≡ 3) × (1 ≤ c)) ⊎ ((s ≡ 4) × (1 ≤ d))))
of_four s a b c d h = go (nat_eq s 1) (nat_eq s 2) (nat_eq s 3) (nat_eq s 4) refl refl refl refl
  where
    go : (p q x y : Bool) → nat_eq s 1 ≡ p → nat_eq s 2 ≡ q → nat_eq s 3 ≡ x → nat_eq s 4 ≡ y →
        ((s ≡ 1) × (1 ≤ a)) ⊎ (((s ≡ 2) × (1 ≤ b)) ⊎ (((s ≡ 3) × (1 ≤ c)) ⊎ ((s ≡ 4) × (1 ≤ d))))
    go true q x y e f i j = inl (grind (arith, e, nat_tests), grind (arith, e, h))
    go false true x y e f i j = inr (inl (grind (arith, f, nat_tests), grind (arith, e, f, h)))
    go false false true y e f i j = inr (inr (inl (grind (arith, i, nat_tests), grind (arith, e, f, i, h))))
    go false false false true e f i j = inr (inr (inr (grind (arith, j, nat_tests), grind (arith, e, f, i, j, h))))
    go false false false false e f i j = absurd (grind (arith, e, f, i, j, h))

pub never : (b : Bool) → ◌≡◌ {A = ℕ} (cond (b && false) 1 0) 0
never true = refl
never false = refl

nothing : (b : Bool) → 1 ≤ cond (b && false) 1 0 → ⊥
nothing b h = absurd (omega (arith, h, never b))

four_hold : (a b c d : Bool) → (a && (b && (c && d))) ≡ true → (a ≡ true) × (b ≡ true) × (c ≡ true) × (d ≡ true)
four_hold true true true true e = (refl, refl, refl, refl)
four_hold true true true false e = cc
four_hold true true false d e = cc
four_hold true false c d e = cc
four_hold false b c d e = cc

pub is_same : (a b : ℕ) → nat_eq a b ≡ true → b ≡ a
is_same a b e = grind (arith, e, nat_tests)

pub one_holds : (b : Bool) → 1 ≤ cond b 1 0 → b ≡ true
one_holds true e = refl
one_holds false e = absurd (omega (arith, e))

-- whether a message is this one
unfoldable is_peer : LinkId → Side → ℕ → ℕ → Message → Bool
is_peer link side target fresh (messages.BypassPeer l s o t f) = same_link l link &&
    (same_side s side && (nat_eq t target && nat_eq f fresh))
is_peer link side target fresh other = false

unfoldable is_accept : Side → ℕ → ℕ → Message → Bool
is_accept side fresh length (messages.AcceptBypass o s f n) = same_side s side && (nat_eq f fresh && nat_eq n length)
is_accept side fresh length other = false

unfoldable is_stop : Side → ℕ → ℕ → Message → Bool
is_stop side in_length out_length (messages.StopProxying s o i u) = same_side s side && (nat_eq i in_length && nat_eq u out_length)
is_stop side in_length out_length other = false

unfoldable is_will_stop : LinkId → Side → ℕ → Message → Bool
is_will_stop link side in_length (messages.ProxyWillStop l s i) = same_link l link && (same_side s side && nat_eq i in_length)
is_will_stop link side in_length other = false

pub record IsPeer (g : Records) (from to o : ℕ) (link : LinkId) (side : Side) (target fresh : ℕ) : Type 0 where
  pub stage : (g.bypass o).stage ≡ 1
  pub sender : from ≡ (g.bypass o).proxy.node
  pub receiver : to ≡ side_node g (inner_of g o) B
  pub on_link : link ≡ inner_of g o
  pub at_side : side ≡ B
  pub across : target ≡ side_node g (Central o) (across_side g o)
  pub onto : fresh ≡ (g.bypass o).fresh

pub peer_told : (w : World) (g : Records) (from to i o : ℕ) (link : LinkId) (side : Side) (target fresh : ℕ) → Controls w g →
    IsUnderWay w from to i (messages.BypassPeer link side o target fresh) → IsPeer g from to o link side target fresh
unfolding control_weight of_bypass is_peer
peer_told w g from to i o link side target fresh law u = elim (of_four (g.bypass o).stage _ _ _ _ weight) [
  | inl e ↦
      let all : ((nat_eq (g.bypass o).proxy.node from && nat_eq (side_node g (inner_of g o) B) to) ≡ true) ×
      ((same_link (inner_of g o) link && (same_side B side &&
      (nat_eq (side_node g (Central o) (across_side g o)) target && nat_eq (g.bypass o).fresh fresh))) ≡ true) =
      and_parts _ _ (one_holds _ e.1) in
      let named = four_hold (same_link (inner_of g o) link) (same_side B side) (nat_eq (side_node g (Central o) (across_side g o)) target)
      (nat_eq (g.bypass o).fresh fresh) all.1 in
      record {
        stage = e.0;
        sender = is_same _ _ (and_parts _ _ all.0).0;
        receiver = is_same _ _ (and_parts _ _ all.0).1;
        on_link = sym (same_link-tells (inner_of g o) link named.0);
        at_side = sym (same_side-tells B side named.1);
        across = is_same _ _ named.2;
        onto = is_same _ _ named.3;
      }
  | inr (inl e) ↦ absurd (nothing _ e.1)
  | inr (inr (inl e)) ↦ absurd (nothing _ e.1)
  | inr (inr (inr e)) ↦ absurd (nothing _ e.1)
]
  where
    h : ℕ → ℕ → Message → ℕ
    h a b m = cond ((nat_eq a from && nat_eq b to) && is_peer link side target fresh m) 1 0

    one : of_bypass g o (h from to) (messages.BypassPeer link side o target fresh) ≡ 1
    one = rw (
      nat_eq-itself o,
      nat_eq-itself from,
      nat_eq-itself to,
      nat_eq-itself target,
      nat_eq-itself fresh,
      same_link-itself link,
      same_side-itself side,
    ) refl

    weight : 1 ≤ control_weight g h o
    weight = omega (
      arith,
      one,
      weighed (λ a b. of_bypass g o (h a b)) w from to i (messages.BypassPeer link side o target fresh) u,
      law.control o h,
    )

pub record IsAccept (g : Records) (from to o : ℕ) (side : Side) (fresh length : ℕ) : Type 0 where
  pub stage : (g.bypass o).stage ≡ 2
  pub sender : from ≡ side_node g (inner_of g o) B
  pub receiver : to ≡ side_node g (Central o) (across_side g o)
  pub at_side : side ≡ across_side g o
  pub onto : fresh ≡ (g.bypass o).fresh
  pub taken : length ≡ (g.bypass o).taken_at

pub accept_told : (w : World) (g : Records) (from to i o : ℕ) (side : Side) (fresh length : ℕ) → Controls w g →
    IsUnderWay w from to i (messages.AcceptBypass o side fresh length) → IsAccept g from to o side fresh length
unfolding control_weight of_bypass is_accept
accept_told w g from to i o side fresh length law u = elim (of_four (g.bypass o).stage _ _ _ _ weight) [
  | inl e ↦ absurd (nothing _ e.1)
  | inr (inl e) ↦ let all = and_parts _ _ (one_holds _ e.1) in record {
    stage = e.0;
    sender = is_same _ _ (and_parts _ _ all.0).0;
    receiver = is_same _ _ (and_parts _ _ all.0).1;
    at_side = sym (same_side-tells (across_side g o) side (and_parts _ _ all.1).0);
    onto = is_same _ _ (and_parts _ _ (and_parts _ _ all.1).1).0;
    taken = is_same _ _ (and_parts _ _ (and_parts _ _ all.1).1).1;
  }
  | inr (inr (inl e)) ↦ absurd (nothing _ e.1)
  | inr (inr (inr e)) ↦ absurd (nothing _ e.1)
]
  where
    h : ℕ → ℕ → Message → ℕ
    h a b m = cond ((nat_eq a from && nat_eq b to) && is_accept side fresh length m) 1 0

    one : of_bypass g o (h from to) (messages.AcceptBypass o side fresh length) ≡ 1
    one = rw (nat_eq-itself o, nat_eq-itself from, nat_eq-itself to, nat_eq-itself length, nat_eq-itself fresh, same_side-itself side) refl

    weight : 1 ≤ control_weight g h o
    weight = omega (
      arith,
      one,
      weighed (λ a b. of_bypass g o (h a b)) w from to i (messages.AcceptBypass o side fresh length) u,
      law.control o h,
    )

pub record IsStop (g : Records) (from to o : ℕ) (side : Side) (in_length out_length : ℕ) : Type 0 where
  pub stage : (g.bypass o).stage ≡ 3
  pub sender : from ≡ side_node g (Central o) (across_side g o)
  pub receiver : to ≡ (g.bypass o).proxy.node
  pub at_side : side ≡ proxy_side g o
  pub accepted : in_length ≡ (g.bypass o).accepted_at
  pub taken : out_length ≡ (g.bypass o).taken_at

pub stop_told : (w : World) (g : Records) (from to i o : ℕ) (side : Side) (in_length out_length : ℕ) → Controls w g →
    IsUnderWay w from to i (messages.StopProxying side o in_length out_length) → IsStop g from to o side in_length out_length
unfolding control_weight of_bypass is_stop
stop_told w g from to i o side in_length out_length law u = elim (of_four (g.bypass o).stage _ _ _ _ weight) [
  | inl e ↦ absurd (nothing _ e.1)
  | inr (inl e) ↦ absurd (nothing _ e.1)
  | inr (inr (inl e)) ↦ let all = and_parts _ _ (one_holds _ e.1) in record {
    stage = e.0;
    sender = is_same _ _ (and_parts _ _ all.0).0;
    receiver = is_same _ _ (and_parts _ _ all.0).1;
    at_side = sym (same_side-tells (proxy_side g o) side (and_parts _ _ all.1).0);
    accepted = is_same _ _ (and_parts _ _ (and_parts _ _ all.1).1).0;
    taken = is_same _ _ (and_parts _ _ (and_parts _ _ all.1).1).1;
  }
  | inr (inr (inr e)) ↦ absurd (nothing _ e.1)
]
  where
    h : ℕ → ℕ → Message → ℕ
    h a b m = cond ((nat_eq a from && nat_eq b to) && is_stop side in_length out_length m) 1 0

    one : of_bypass g o (h from to) (messages.StopProxying side o in_length out_length) ≡ 1
    one = rw (
      nat_eq-itself o,
      nat_eq-itself from,
      nat_eq-itself to,
      nat_eq-itself in_length,
      nat_eq-itself out_length,
      same_side-itself side,
    ) refl

    weight : 1 ≤ control_weight g h o
    weight = omega (
      arith,
      one,
      weighed (λ a b. of_bypass g o (h a b)) w from to i (messages.StopProxying side o in_length out_length) u,
      law.control o h,
    )

pub record IsWillStop (g : Records) (from to o : ℕ) (link : LinkId) (side : Side) (in_length : ℕ) : Type 0 where
  pub stage : (g.bypass o).stage ≡ 4
  pub sender : from ≡ (g.bypass o).proxy.node
  pub receiver : to ≡ side_node g (inner_of g o) B
  pub on_link : link ≡ inner_of g o
  pub at_side : side ≡ B
  pub accepted : in_length ≡ (g.bypass o).accepted_at

will_stop_of_bypass : (w : World) (g : Records) (from to i o : ℕ) (link : LinkId) (side : Side) (in_length : ℕ) → Controls w g →
    bypass_of g link ≡ Some o → IsUnderWay w from to i (messages.ProxyWillStop link side in_length) →
    IsWillStop g from to o link side in_length
unfolding control_weight of_bypass is_will_stop
will_stop_of_bypass w g from to i o link side in_length law by u = elim (of_four (g.bypass o).stage _ _ _ _ weight) [
  | inl e ↦ absurd (nothing _ e.1)
  | inr (inl e) ↦ absurd (nothing _ e.1)
  | inr (inr (inl e)) ↦ absurd (nothing _ e.1)
  | inr (inr (inr e)) ↦ let all = and_parts _ _ (one_holds _ e.1) in record {
    stage = e.0;
    sender = is_same _ _ (and_parts _ _ all.0).0;
    receiver = is_same _ _ (and_parts _ _ all.0).1;
    on_link = sym (same_link-tells (inner_of g o) link (and_parts _ _ all.1).0);
    at_side = sym (same_side-tells B side (and_parts _ _ (and_parts _ _ all.1).1).0);
    accepted = is_same _ _ (and_parts _ _ (and_parts _ _ all.1).1).1;
  }
]
  where
    h : ℕ → ℕ → Message → ℕ
    h a b m = cond ((nat_eq a from && nat_eq b to) && is_will_stop link side in_length m) 1 0

    one : of_bypass g o (h from to) (messages.ProxyWillStop link side in_length) ≡ 1
    one = rw (
      by,
      nat_eq-itself o,
      nat_eq-itself from,
      nat_eq-itself to,
      nat_eq-itself in_length,
      same_link-itself link,
      same_side-itself side,
    ) refl

    weight : 1 ≤ control_weight g h o
    weight = omega (
      arith,
      one,
      weighed (λ a b. of_bypass g o (h a b)) w from to i (messages.ProxyWillStop link side in_length) u,
      law.control o h,
    )

-- it names a link that some bypass takes away
pub will_stop_told : (w : World) (g : Records) (from to i : ℕ) (link : LinkId) (side : Side) (in_length : ℕ) → Controls w g →
    IsUnderWay w from to i (messages.ProxyWillStop link side in_length) →
    (o : ℕ) × (bypass_of g link ≡ Some o) × IsWillStop g from to o link side in_length
will_stop_told w g from to i link side in_length law u = go (bypass_of g link) refl (law.will_stop from to i link side in_length u)
  where
    go : (b : Option ℕ) → bypass_of g link ≡ b → is_some (bypass_of g link) ≡ true →
        (o : ℕ) × (bypass_of g link ≡ Some o) × IsWillStop g from to o link side in_length
    go None e some = absurd (grind (arith, e, some))
    go (Some o) e some = (o, e, will_stop_of_bypass w g from to i o link side in_length law e u)

-- what a message names as old is being bypassed
pub old_begun : (w : World) (g : Records) (from to i : ℕ) (m : Message) (o : ℕ) → Controls w g → IsUnderWay w from to i m →
    names_old o m ≡ true → is_begun (g.bypass o) ≡ true
unfolding names_old
old_begun w g from to i (messages.BypassPeer link s old target fresh) o law u e = let at =
    peer_told w g from to i old link s target fresh law u in grind (arith, e, at.stage, nat_tests)
old_begun w g from to i (messages.AcceptBypass old s fresh length) o law u e = let at =
    accept_told w g from to i old s fresh length law u in grind (arith, e, at.stage, nat_tests)
old_begun w g from to i (messages.StopProxying s old in_length out_length) o law u e = let at =
    stop_told w g from to i old s in_length out_length law u in grind (arith, e, at.stage, nat_tests)
old_begun w g from to i other o law u e = absurd (grind (arith, e))
