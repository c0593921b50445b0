-- Two worlds that differ in messages alone: what is under way is what was, and Flushes.
use Rattle.std.specs.Prelude.{◌≡◌, ◌⊎◌, ◌<◌, ℕ, ◌+◌, ◌*◌, true, Some, is_some, take, slice_get, refl}
use Rattle.std.proofs.Common.{arith, sym, ◌∙◌, ap, inl, inr}
use Rattle.std.proofs.lemmas.Bool.Decides.{nat_tests}
use Rattle.ipcz_world.proofs.Vocabulary.{Side, LinkId, Message, opposite, is_central, Node, World, node_at, word_at, mail_at, way, flow, set_node}
use Rattle.ipcz_world.proofs.Vocabulary.{hand_message, Records, is_recorded, side_node, IsUnderWay, makes, under_way, total_below, total_list, Counts}
use Rattle.ipcz_world.proofs.Vocabulary.{is_made_by}
use Rattle.ipcz_base.specs.declared.message.Message.TheVariants as messages
use Rattle.ipcz_world.proofs.frames.Frames.{frames}
use Rattle.ipcz_world.proofs.frames.Flowing.{IsPushed, IsTaken, CameFrom, came_pushed, came_taken, under_way-pushed, under_way-taken}
use Rattle.ipcz_world.proofs.frames.Totalling.{total_below-same}

under_way-is : (h : ℕ → ℕ → Message → ℕ) (w : World) → under_way h w ≡ total_below w.count
    (λ from. total_below w.count (λ to. total_list (h from to) (flow w from to)))
unfolding under_way
under_way-is h w = refl

-- two nodes that differ in outboxes and in what is in hand alone
pub record SameButPost (n m : Node) : Type 0 where
  pub node : m.number ≡ n.number
  pub nodes : m.count ≡ n.count
  pub routers : m.routers ≡ n.routers
  pub pending : m.pending ≡ n.pending
  pub strays : m.strays ≡ n.strays
  pub held : m.held ≡ n.held
  pub opening : m.opening ≡ n.opening
  pub next_router : m.next_router ≡ n.next_router
  pub next_peripheral : m.next_peripheral ≡ n.next_peripheral

-- a Flush between the nodes of a central link's sides
pub record IsFlush (w : World) (g : Records) (from to : ℕ) (m : Message) : Type 0 where
  pub link : LinkId
  pub side : Side
  pub is : m ≡ messages.Flush link side
  pub central : is_central link ≡ true
  pub recorded : is_recorded w g link ≡ true
  pub receiver : to ≡ side_node g link side
  pub sender : from ≡ side_node g link (opposite side)

-- two worlds that differ in messages alone: those under way were so before, or are Flushes
pub record Passes (w v : World) (g : Records) : Type 0 where
  pub nodes : (n : ℕ) → SameButPost (node_at w n) (node_at v n)
  pub words : (i : ℕ) → word_at v i ≡ word_at w i
  pub claimed : v.claimed ≡ w.claimed
  pub size : v.size ≡ w.size
  pub count : v.count ≡ w.count
  pub came : (from to i : ℕ) (m : Message) → IsUnderWay v from to i m → CameFrom w v from to i m ⊎ IsFlush w g from to m
  pub totals : (h : ℕ → ℕ → Message → ℕ) → ((from to : ℕ) (l : LinkId) (s : Side) → h from to (messages.Flush l s) ≡ 0) →
      under_way h v ≡ under_way h w

-- a message is in hand where the node says so, and only there
pub record HasHands (v : World) : Type 0 where
  pub hand : (n from : ℕ) → n < v.count → (node_at v n).hand ≡ Some from → is_some (hand_message (mail_at v (way v from n))) ≡ true
  pub hand_from : (n from : ℕ) → n < v.count → (node_at v n).hand ≡ Some from → from < v.count
  pub in_hand : (n from : ℕ) → n < v.count → from < v.count → is_some (hand_message (mail_at v (way v from n))) ≡ true →
      (node_at v n).hand ≡ Some from

-- one node with other post
pub post_is : (w : World) (n j : ℕ) (x : Node) → SameButPost (node_at w n) x → SameButPost (node_at w j) (node_at (set_node w n x) j)
post_is w n j x s = record {
  node = grind (arith, frames, s.node, nat_tests);
  nodes = grind (arith, frames, s.nodes, nat_tests);
  routers = grind (arith, frames, s.routers, nat_tests);
  pending = grind (arith, frames, s.pending, nat_tests);
  strays = grind (arith, frames, s.strays, nat_tests);
  held = grind (arith, frames, s.held, nat_tests);
  opening = grind (arith, frames, s.opening, nat_tests);
  next_router = grind (arith, frames, s.next_router, nat_tests);
  next_peripheral = grind (arith, frames, s.next_peripheral, nat_tests);
}

-- the same messages are in hand
pub hands-same : (w v : World) (g : Records) → Counts w g → ((n : ℕ) → (node_at v n).hand ≡ (node_at w n).hand) →
    ((j : ℕ) → hand_message (mail_at v j) ≡ hand_message (mail_at w j)) → v.count ≡ w.count → HasHands v
hands-same w v g law hands mail count = record {
  hand = λ n from l e. seen n from ∙ law.hand n from (below n l) (sym (hands n) ∙ e);
  hand_from = λ n from l e. grind (arith, count, law.hand_from n from (below n l) (sym (hands n) ∙ e));
  in_hand = λ n from l k e. hands n ∙ law.in_hand n from (below n l) (below from k) (sym (seen n from) ∙ e);
}
  where
    below : (n : ℕ) → n < v.count → n < w.count
    below n l = grind (arith, count, l)

    seen : (n from : ℕ) → is_some (hand_message (mail_at v (way v from n))) ≡ is_some (hand_message (mail_at w (way w from n)))
    seen n from = ap is_some (mail (way v from n)) ∙ ap (λ c. is_some (hand_message (mail_at w (from * c + n)))) count

-- the same messages are under way, in the same places
pub passes-flows : (w v : World) (g : Records) → ((n : ℕ) → SameButPost (node_at w n) (node_at v n)) →
    ((i : ℕ) → word_at v i ≡ word_at w i) → v.claimed ≡ w.claimed → v.size ≡ w.size → v.count ≡ w.count →
    ((from to : ℕ) → from < w.count → to < w.count → flow v from to ≡ flow w from to) → Passes w v g
passes-flows w v g nodes words claimed size count flows = record {
  nodes = nodes;
  words = words;
  claimed = claimed;
  size = size;
  count = count;
  came = λ from to i m u. let same = flows from to (grind (arith, count, u.sender)) (grind (arith, count, u.receiver)) in inl (record {
    at = i;
    was = record {
      sender = grind (arith, count, u.sender);
      receiver = grind (arith, count, u.receiver);
      place =
          ap (λ ms. slice_get ms i) (sym same) ∙ u.place;
    };
    made = λ l s e. ap (λ ms. is_made_by l s (take i ms)) same ∙ e;
  });
  totals = λ h zero. totals h;
}
  where
    totals : (h : ℕ → ℕ → Message → ℕ) → under_way h v ≡ under_way h w
    totals h = under_way-is h v ∙ ap (λ c. total_below c (λ from. total_below c (λ to. total_list (h from to) (flow v from to)))) count
        ∙ total_below-same w.count _ _ (λ from l. total_below-same w.count _ _ (λ to k. ap (total_list (h from to)) (flows from to l k))) ∙
        sym (under_way-is h w)

-- a Flush more is under way
pub passes-pushed : (w v : World) (g : Records) (from to : ℕ) (m : Message) → ((n : ℕ) → SameButPost (node_at w n) (node_at v n)) →
    ((i : ℕ) → word_at v i ≡ word_at w i) → v.claimed ≡ w.claimed → v.size ≡ w.size →
    IsPushed w v from to m → IsFlush w g from to m → Passes w v g
passes-pushed w v g from to m nodes words claimed size pushed fits = record {
  nodes = nodes;
  words = words;
  claimed = claimed;
  size = size;
  count = pushed.count;
  came = λ a b i n u. elim (came_pushed w v from to m pushed a b i n u) [
    | inl c ↦ inl c
    | inr last ↦ inr (record {
      link = fits.link;
      side = fits.side;
      is = last.message ∙ fits.is;
      central = fits.central;
      recorded =
          fits.recorded;
      receiver = last.receiver ∙ fits.receiver;
      sender = last.sender ∙ fits.sender;
    })
  ];
  totals = λ h zero. omega (arith, under_way-pushed h w v from to m pushed, ap (h from to) fits.is, zero from to fits.link fits.side);
}

-- the first message is gone, and was a Flush
pub passes-taken : (w v : World) (g : Records) (from to : ℕ) (l : LinkId) (s : Side) → ((n : ℕ) → SameButPost (node_at w n) (node_at v n)) →
    ((i : ℕ) → word_at v i ≡ word_at w i) → v.claimed ≡ w.claimed → v.size ≡ w.size →
    IsTaken w v from to (messages.Flush l s) → Passes w v g
unfolding makes
passes-taken w v g from to l s nodes words claimed size taken = record {
  nodes = nodes;
  words = words;
  claimed = claimed;
  size = size;
  count = taken.count;
  came = λ a b i n u. inl (came_taken w v from to (messages.Flush l s) taken (λ k t. refl) a b i n u);
  totals = λ h zero. omega (arith, under_way-taken h w v from to (messages.Flush l s) taken, zero from to l s);
}
