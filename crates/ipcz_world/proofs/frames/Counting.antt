-- Counters and hands after a message has left a node's hand and a router there has changed.
use Rattle.std.specs.Prelude.{◌≡◌, ◌≢◌, ◌⊎◌, ◌<◌, ℕ, ◌+◌, ◌*◌, Bool, true, false, cond, nat_eq, nat_le, is_some, Some, None, refl}
use Rattle.std.proofs.Common.{arith, ap, ◌∙◌, sym, inl, inr}
use Rattle.std.proofs.lemmas.Bool.Decides.{nat_tests}
use Rattle.std.proofs.lemmas.Option.{same_Some}
use Rattle.ipcz_world.proofs.Vocabulary.{Side, LinkId, Router, World, Key, same_key, node_at, mail_at, way, router_at, hand_message}
use Rattle.ipcz_world.proofs.Vocabulary.{Records, is_unclaimed, is_recorded, side_node, side_router, Counts}
use Rattle.ipcz_world.specs.declared.mail.Mail.TheVariants as mails
use Rattle.ipcz_world.proofs.frames.Frames.{same_key_tells}
use Rattle.ipcz_world.proofs.frames.Handing.{way_tells}
use Rattle.ipcz_world.proofs.frames.Unmoved.{Changed}

-- a node's hand and the mailbox are empty now
pub record IsReceived (w v : World) (from to : ℕ) : Type 0 where
  pub hand : (n : ℕ) → (node_at v n).hand ≡ cond (nat_eq n to) None (node_at w n).hand
  pub mail : (j : ℕ) → mail_at v j ≡ cond (nat_eq j (way w from to)) mails.Empty (mail_at w j)

module _ (w v : World) (g h : Records) (from : ℕ) (k : Key) (r x : Router) (c : Changed w v k r x) (received : IsReceived w v from k.node)
    (law : Counts w g) (in_its_hand : (node_at w k.node).hand ≡ Some from)
    (unclaimed : (i : ℕ) → is_unclaimed (h.owner i) ≡ is_unclaimed (g.owner i))
    (routers : (link : LinkId) (s : Side) (q : Key) → is_recorded v h link ≡ true → side_router h link s ≡ Some q →
    ((is_recorded w g link ≡ true) × (side_router g link s ≡ Some q)) ⊎ (q ≡ k))
    (sides : (link : LinkId) (s : Side) → is_recorded v h link ≡ true → side_node h link s < w.count) where
  on_node : k.node < w.count
  on_node = law.on_node k r c.here

  way_same : (p n : ℕ) → way v p n ≡ way w p n
  way_same p n = ap (λ m. p * m + n) c.count

  way_apart : (p n : ℕ) → n < w.count → nat_eq n k.node ≡ false → nat_eq (way w p n) (way w from k.node) ≡ false
  way_apart p n l ne = go (nat_eq (way w p n) (way w from k.node)) refl
    where
      go : (t : Bool) → nat_eq (way w p n) (way w from k.node) ≡ t → nat_eq (way w p n) (way w from k.node) ≡ false
      go false t = t
      go true t = let same : n ≡ k.node = (way_tells w.count p n from k.node l on_node (grind (arith, t, nat_tests))).1 in
          absurd (grind (arith, same, ne, nat_tests))

  apart_nodes : (n p : ℕ) → (node_at w n).hand ≡ Some p → nat_eq (way w p n) (way w from k.node) ≡ false → nat_eq n k.node ≡ false
  apart_nodes n p was t = go (nat_eq n k.node) refl
    where
      go : (m : Bool) → nat_eq n k.node ≡ m → nat_eq n k.node ≡ false
      go false m = m
      go true m = let same : n ≡ k.node = grind (arith, m, nat_tests) in let from_is : p ≡ from =
          same_Some p from (sym was ∙ ap (λ i. (node_at w i).hand) same ∙ in_its_hand) in
          absurd (grind (arith, rw (from_is, same) at t, nat_tests))

  -- what the mailbox to a node shows
  seen : (p n : ℕ) → is_some (hand_message (mail_at v (way v p n))) ≡ is_some
      (hand_message (cond (nat_eq (way w p n) (way w from k.node)) mails.Empty (mail_at w (way w p n))))
  seen p n = ap (λ j. is_some (hand_message (mail_at v j))) (way_same p n) ∙ ap (λ u. is_some (hand_message u)) (received.mail (way w p n))

  kept_at : (q : Key) → ((same_key q k ≡ true) × (q ≡ k)) ⊎ ((same_key q k ≡ false) × (q ≢ k)) → (t : Router) → router_at v q ≡ Some t →
      (t' : Router) × (router_at w q ≡ Some t')
  kept_at q (inl m) t e = (r, ap (router_at w) m.1 ∙ c.here)
  kept_at q (inr m) t e = (t, sym (rw m.0 at (c.router q)) ∙ e)

  pub counts-received : Counts v h
  unfolding hand_message
  counts-received = record {
    node = λ n l. c.node n ∙ law.node n (rw c.count at l);
    nodes = λ n l. c.nodes n ∙ law.nodes n (rw c.count at l) ∙ sym c.count;
    claimed = rw (c.claimed, c.size) law.claimed;
    unclaimed = λ i. unclaimed i ∙ law.unclaimed i ∙ ap (λ n. nat_le n i) (sym c.claimed);
    on_node = λ q t e. rw c.count (law.on_node q (kept_at q (same_key_tells q k) t e).0 (kept_at q (same_key_tells q k) t e).1);
    serial = λ q t e. rw (c.next_router q.node) (law.serial q (kept_at q (same_key_tells q k) t e).0
        (kept_at q (same_key_tells q k) t e).1);
    side_serial = λ link s q rec known. rw (c.next_router q.node) (side_serial_at link s q (routers link s q rec known));
    side_on_node = λ link s rec. rw c.count (sides link s rec);
    hand_from = λ n p l e. hand_from_at n p (rw c.count at l) e;
    hand = λ n p l e. hand_at n p (rw c.count at l) e;
    in_hand = λ n p l m e. in_hand_at n p (rw c.count at l) (rw c.count at m) (sym (seen p n) ∙ e) (nat_eq (way w p n) (way w from k.node))
        refl;
  }
    where
      side_serial_at : (link : LinkId) (s : Side) (q : Key) → ((is_recorded w g link ≡ true) × (side_router g link s ≡ Some q)) ⊎ (q ≡ k) →
          q.serial < (node_at w q.node).next_router
      side_serial_at link s q (inl m) = law.side_serial link s q m.0 m.1
      side_serial_at link s q (inr m) = rw m (law.serial k r c.here)

      apart : (n p : ℕ) → (node_at v n).hand ≡ Some p → nat_eq n k.node ≡ false
      apart n p e = grind (arith, received.hand n, e, nat_tests)

      was : (n p : ℕ) → (node_at v n).hand ≡ Some p → (node_at w n).hand ≡ Some p
      was n p e = sym (received.hand n ∙ ap (λ t. cond t None (node_at w n).hand) (apart n p e)) ∙ e

      hand_from_at : (n p : ℕ) → n < w.count → (node_at v n).hand ≡ Some p → p < v.count
      hand_from_at n p l e = rw c.count (law.hand_from n p l (was n p e))

      hand_at : (n p : ℕ) → n < w.count → (node_at v n).hand ≡ Some p → is_some (hand_message (mail_at v (way v p n))) ≡ true
      hand_at n p l e = seen p n ∙ ap (λ t. is_some (hand_message (cond t mails.Empty (mail_at w (way w p n)))))
          (way_apart p n l (apart n p e)) ∙ law.hand n p l (was n p e)

      in_hand_at : (n p : ℕ) → n < w.count → p < w.count → is_some
          (hand_message (cond (nat_eq (way w p n) (way w from k.node)) mails.Empty (mail_at w (way w p n)))) ≡ true → (t : Bool) →
          nat_eq (way w p n) (way w from k.node) ≡ t → (node_at v n).hand ≡ Some p
      in_hand_at n p l m e true t = absurd (grind (
        arith,
        sym (ap (λ b. is_some (hand_message (cond b mails.Empty (mail_at w (way w p n)))))
            t) ∙ e,
      ))
      in_hand_at n p l m e false t = let was' : (node_at w n).hand ≡ Some p =
          law.in_hand n p l m (sym (ap (λ b. is_some (hand_message (cond b mails.Empty (mail_at w (way w p n))))) t) ∙ e) in
          received.hand n ∙ ap (λ b. cond b None (node_at w n).hand) (apart_nodes n p was' t) ∙ was'
