-- The world with another node of one number: which router is touched, and which flow.
use Rattle.std.specs.Prelude.{◌≡◌, ◌<◌, ◌+◌, ◌*◌, ℕ, false, cond, nat_eq, Some, refl, List, [], ◌∷◌, ◌++◌}
use Rattle.std.specs.FinMap.{get, insert}
use Rattle.std.proofs.Common.{arith, ap, ◌∙◌, sym}
use Rattle.std.proofs.lemmas.Bool.Decides.{nat_tests}
use Rattle.ipcz_world.proofs.Vocabulary.{Message, put_place, Router, Node, outbox, Empty, World, Key, node_at, word_at, mail_at, way}
use Rattle.ipcz_world.proofs.Vocabulary.{router_at, messages_in, flow, set_router}
use Rattle.ipcz_base.proofs.Indexed.{place_at-put_place}
use Rattle.ipcz_world.specs.declared.mail.Mail.TheVariants.{Hand}
use Rattle.ipcz_world.proofs.frames.Frames.{frames, router-set_router}
use Rattle.ipcz_world.proofs.frames.Touching.{IsTouched}
use Rattle.ipcz_world.proofs.frames.Flowing.{IsPushed, IsTaken, same_way}

-- one node is another, and words are as before
pub record IsNodeChanged (w v : World) (n : ℕ) (x : Node) : Type 0 where
  pub node : (j : ℕ) → node_at v j ≡ cond (nat_eq j n) x (node_at w j)
  pub word : (i : ℕ) → word_at v i ≡ word_at w i
  pub claimed : v.claimed ≡ w.claimed
  pub size : v.size ≡ w.size
  pub count : v.count ≡ w.count

-- the node knows and counts what it did
pub record IsNodeAlike (n x : Node) : Type 0 where
  pub node : x.number ≡ n.number
  pub nodes : x.count ≡ n.count
  pub opening : x.opening ≡ n.opening
  pub next_router : x.next_router ≡ n.next_router
  pub next_peripheral : x.next_peripheral ≡ n.next_peripheral
  pub strays : x.strays ≡ n.strays

pub same_routers : (w v : World) (q : Key) → (node_at v q.node).routers ≡ (node_at w q.node).routers → router_at v q ≡ router_at w q
unfolding router_at
same_routers w v q e = ap (λ m. get m q.serial) e

pub touched_by : (w v : World) (k : Key) (r y : Router) (x : Node) → IsNodeChanged w v k.node x → IsNodeAlike (node_at w k.node) x →
    x.routers ≡ insert (node_at w k.node).routers k.serial y → router_at w k ≡ Some r → IsTouched w v k r y
touched_by w v k r y x c a routers here = record {
  one = record {
    here = here;
    router = λ q. same_routers (set_router w k y) v q (grind (arith, frames, c.node q.node, routers, nat_tests)) ∙
        router-set_router w k y q;
    claimed = c.claimed;
    size = c.size;
    count = c.count;
    node = λ n. grind (arith, c.node n, a.node, nat_tests);
    nodes = λ n. grind (arith, c.node n, a.nodes, nat_tests);
    opening = λ n. grind (arith, c.node n, a.opening, nat_tests);
    next_router = λ n. grind (arith, c.node n, a.next_router, nat_tests);
    next_peripheral = λ n. grind (arith, c.node n, a.next_peripheral, nat_tests);
    strays = λ n. grind (arith, c.node n, a.strays, nat_tests);
  };
  word = c.word;
}

pub flow_is : (w : World) (from to : ℕ) → flow w from to ≡ messages_in (mail_at w (way w from to)) ++ outbox (node_at w from) to
unfolding flow
flow_is w from to = refl

pub in_mail-hand : (m : Message) → messages_in (Hand m) ≡ m ∷ []
unfolding messages_in
in_mail-hand m = refl

in_mail-empty : messages_in Empty ≡ []
unfolding messages_in
in_mail-empty = refl

pub append-assoc : (xs ys zs : List Message) → xs ++ (ys ++ zs) ≡ (xs ++ ys) ++ zs
append-assoc [] ys zs = refl
append-assoc (x ∷ xs) ys zs = ap (λ t. x ∷ t) (append-assoc xs ys zs)

pub pushed_by : (w v : World) (n b : ℕ) (x : Node) (m : Message) → IsNodeChanged w v n x → ((i : ℕ) → mail_at v i ≡ mail_at w i) →
    x.outboxes ≡ put_place [] (node_at w n).outboxes b (outbox (node_at w n) b ++ m ∷ []) → n < w.count → b < w.count → IsPushed w v n b m
pushed_by w v n b x m c mail boxes ln lb = record {
  count = c.count;
  sender = ln;
  receiver = lb;
  here = flow_is v n b ∙ grind (arith, nat_tests, c.count, mail (way w n b), box n b) ∙ append-assoc (messages_in (mail_at w (way w n b)))
      (outbox (node_at w n) b) (m ∷ []) ∙ ap (λ f. f ++ m ∷ []) (sym (flow_is w n b));
  apart = λ from to lf lt e. flow_is v from to ∙ grind (arith, nat_tests, c.count, mail (way w from to), box from to, e) ∙ sym
      (flow_is w from to);
}
  where
    box : (from to : ℕ) → outbox (node_at v from) to ≡ cond (same_way from to n b) (outbox (node_at w n) b ++ m ∷ [])
        (outbox (node_at w from) to)
    box from to = grind (
      arith,
      c.node from,
      boxes,
      place_at-put_place [] (node_at w n).outboxes b (outbox (node_at w n) b ++ m ∷ []) to,
      nat_tests,
    )

way_low : (c a b s t : ℕ) → s < c → a < b → (a * c + s) < b * c + t
way_low c a b s t l less = grind (arith, l, less)

pub way_apart : (c from to a b : ℕ) → to < c → b < c → same_way from to a b ≡ false → nat_eq (from * c + to) (a * c + b) ≡ false
way_apart c from to a b lt lb e = grind (arith, nat_tests, e, way_low c from a to b lt, way_low c a from b to lb)

pub taken_by : (w v : World) (a n : ℕ) (x : Node) (m : Message) → IsNodeChanged w v n x →
    ((i : ℕ) → mail_at v i ≡ cond (nat_eq i (way w a n)) Empty (mail_at w i)) → mail_at w (way w a n) ≡ Hand m →
    x.outboxes ≡ (node_at w n).outboxes → a < w.count → n < w.count → IsTaken w v a n m
taken_by w v a n x m c mail was boxes la ln = record {
  count = c.count;
  sender = la;
  receiver = ln;
  here = flow_is w a n ∙ ap (λ z. messages_in z ++ outbox (node_at w a) n) was ∙ ap (λ f. f ++ outbox (node_at w a) n) (in_mail-hand m) ∙ ap
      (λ f. m ∷ f) (sym (flow_is v a n ∙ ap (λ f. f ++ outbox (node_at v a) n) emptied ∙ box a n));
  apart = λ from to lf lt e. flow_is v from to ∙ grind (
    arith,
    nat_tests,
    c.count,
    mail (way w from to),
    box from to,
    way_apart w.count from to a n lt ln e,
  ) ∙ sym (flow_is w from to);
}
  where
    box : (from to : ℕ) → outbox (node_at v from) to ≡ outbox (node_at w from) to
    box from to = grind (arith, c.node from, boxes, nat_tests)

    emptied : messages_in (mail_at v (way v a n)) ≡ []
    emptied = grind (arith, nat_tests, c.count, mail (way w a n), in_mail-empty)
