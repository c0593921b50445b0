-- Nodes whose routers do nothing but pass items: what an act, or the hand of an item, leaves of what the rank holds for their proxies.
use Rattle.std.specs.Prelude.{◌≡◌, ◌≤◌, ℕ, ◌+◌, Bool, true, false, not, ◌&&◌, if◌then◌else◌, Option, Some, None, is_some}
use Rattle.std.specs.Prelude.{List, [], ◌∷◌, ◌++◌, length, refl}
use Rattle.std.proofs.Common.{arith, ap, subst, sym}
use Rattle.std.specs.Ordering.{nat_cmp}
use Rattle.std.specs.Cmp.{nat_cmp_total}
use Rattle.std.specs.FinMap.{nat_cmp-IsAntisymmetric, get}
use Rattle.std.proofs.lemmas.List.{length-append}
use Rattle.ipcz_base.proofs.Totals.{total-insert, total-remove}
use Rattle.ipcz_base.specs.declared.message.Message.TheVariants as messages
use Rattle.ipcz_world.proofs.Vocabulary.{End, Item, Message, LinkEnd, opposite_end, ends_in, total, total_list, Router, Node, Found, with_router}
use Rattle.ipcz_world.proofs.Vocabulary.{RouterAct, current_item, output_of, is_possible, moves_of, outward_has, is_sink, way_out, way_in, pop_out}
use Rattle.ipcz_world.proofs.Vocabulary.{send_on, drop_item, has_gone_next, item_passes, rest, is_mark, may_take, is_rest, accept, apply, leaves_by}
use Rattle.ipcz_world.proofs.Vocabulary.{item_output, discard_output, Answer, link_router, on_found, push_out, send, send_item, commit_router}
use Rattle.ipcz_world.proofs.Vocabulary.{keep_or_drop, fits, handle, take_in, deliver, Rates, worth}
use Rattle.ipcz_router.specs.Router.{router_has}
use Rattle.ipcz_router.specs.declared.act.RouterAct.TheVariants as acts
use Rattle.ipcz_node.specs.Node.{add_stray, outbox}
use Rattle.ipcz_node.specs.Sends.{item_message}
use Rattle.ipcz_node.specs.Hands.{free_hand}
use Rattle.ipcz_world.proofs.facts.Finding.{found_tells}
use Rattle.ipcz_world.proofs.facts.Tests.{and_first, and_second}
use Rattle.ipcz_world.proofs.frames.Totalling.{total_list-put_place, total_list-append}
use Rattle.ipcz_world.proofs.lawful.NodeStays.{IsBare, sent-bare, or-none}
use Rattle.ipcz_world.proofs.lawful.CalmRouters as routers
use Rattle.ipcz_world.proofs.lawful.CalmRouters.{is_calm, is_passing, router_keeps}

-- what is astir in a node: routers that can do more than pass items, messages other than items, closes that are pending
unfoldable pub message_stir : Message → ℕ
message_stir (messages.Item link side number item moves) = 0
message_stir other = 1

abbrev pub router_stir : Router → ℕ
router_stir r = worth 1 (not (is_calm r))

unfoldable pub node_stir : Node → ℕ
node_stir n = total (λ serial r. router_stir r) n.routers + (total_list (total_list message_stir) n.outboxes + length n.pending)

-- what the rank holds for the proxies of a node
unfoldable pub node_keeps : Rates → (End → ℕ) → Node → ℕ
node_keeps c marks n = total (λ serial r. router_keeps c marks r) n.routers

-- nothing more is astir in the second node, and its proxies keep what the first one's had
pub record Passes (c : Rates) (marks : End → ℕ) (n x : Node) : Type 0 where
  pub stir : node_stir x ≤ node_stir n
  pub keeps : node_keeps c marks n ≤ node_keeps c marks x

-- a router of the node is astir no more than the node
pub router-least : (n : Node) (s : ℕ) (r : Router) → get n.routers s ≡ Some r → router_stir r ≤ node_stir n
unfolding node_stir
router-least n s r e = omega (arith, total-remove nat_cmp nat_cmp_total nat_cmp-IsAntisymmetric (λ k x. router_stir x) n.routers s r e)

calm-is : (t : Bool) → worth 1 (not t) ≤ 0 → t ≡ true
calm-is true h = refl
calm-is false h = absurd (omega (arith, h))

pub router-calm : (n : Node) (s : ℕ) (r : Router) → get n.routers s ≡ Some r → node_stir n ≡ 0 → is_calm r ≡ true
router-calm n s r e still = calm-is (is_calm r) (omega (arith, router-least n s r e, still))

module _ (c : Rates) (marks : End → ℕ) (n : Node) where
  pub passes-same : Passes c marks n n
  passes-same = record { stir = omega arith; keeps = omega arith }

  -- a router is another that is as calm
  pub passes-with : (s : ℕ) (y r : Router) → get n.routers s ≡ Some r → is_calm y ≡ is_calm r →
      router_keeps c marks r ≤ router_keeps c marks y → Passes c marks n (with_router n s y)
  unfolding node_stir node_keeps
  passes-with s y r e same h = record {
    stir = omega (
      arith,
      total-insert nat_cmp nat_cmp_total nat_cmp-IsAntisymmetric (λ k x. router_stir x) n.routers s y r e,
      ap (λ t. worth 1 (not t)) same,
    );
    keeps = omega (arith, total-insert nat_cmp nat_cmp_total nat_cmp-IsAntisymmetric (λ k x. router_keeps c marks x) n.routers s y r e, h);
  }

  -- an item waits to be posted
  passes-push : (x : Node) (link : LinkEnd) (i : ℕ) (item : Item) → Passes c marks n x →
      Passes c marks n (push_out x link.other (item_message link i item []))
  unfolding node_stir node_keeps message_stir
  passes-push x link i item h = record {
    stir = omega (
      arith,
      h.stir,
      total_list-put_place (total_list message_stir) [] x.outboxes link.other (outbox x link.other ++ item_message link i item [] ∷ []) refl,
      total_list-append message_stir (outbox x link.other) (item_message link i item [] ∷ []),
    );
    keeps = h.keeps;
  }

  -- an item without ends is dropped
  passes-dropped : (x : Node) (ends : List End) → ends ≡ [] → Passes c marks n x →
      Passes c marks n (record x { pending = x.pending ++ ends })
  unfolding node_stir node_keeps
  passes-dropped x ends none h = record {
    stir = omega (arith, h.stir, length-append x.pending ends, ap length none);
    keeps = h.keeps;
  }

  -- the hand of an item
  passes-handled : (sender : ℕ) (m : Message) → message_stir m ≡ 0 → moves_of m ≡ [] → Passes c marks n (handle n sender m)
  unfolding handle on_found moves_of message_stir
  passes-handled sender (messages.Item link side number item moves) is bare = go (link_router n link side) refl
    where
      go : (o : Option Found) → link_router n link side ≡ o → Passes c marks n (on_found n o (take_in n sender link side number item moves))
      go None e = passes-same
      go (Some f) e =
          let from : Bool = outward_has f.router link side in
          rw bare (passes-with f.serial (accept f.router from number item) f.router
          (found_tells n (λ r. router_has r link side) f e).0 (routers.calm-accept f.router from number item)
          (routers.keeps-accept c marks f.router from number item))
  passes-handled sender other is bare = cc

  pub passes-delivered : (sender : ℕ) (m : Message) (source : Option ℕ) → message_stir m ≡ 0 → moves_of m ≡ [] →
      Passes c marks n (deliver n sender m source)
  unfolding deliver node_stir node_keeps
  passes-delivered sender m source is bare = go (fits n sender m source)
    where
      unhanded : (x : Node) → Passes c marks n x → Passes c marks n (free_hand x sender)
      unhanded x h = record { stir = h.stir; keeps = h.keeps }

      go : (b : Bool) → Passes c marks n (free_hand (if b then handle n sender m else add_stray n m) sender)
      go true = unhanded (handle n sender m) (passes-handled sender m is bare)
      go false = record { stir = omega arith; keeps = omega arith }

  -- the numbers of what leaves a router are below what was put
  pub record IsPut (r : Router) : Type 0 where
    -- what comes in is no Gone, nor at a sink a mark
    pub no_gone : has_gone_next r ≡ false
    pub no_mark : is_sink r ≡ true → item_passes is_mark (current_item r.in_queue) ≡ false
    pub out : (item : Item) → current_item r.out_queue ≡ Some item → r.out_queue.current + 1 + marks r.end ≤ c.cap r.end
    pub inner : (item : Item) → current_item r.in_queue ≡ Some item →
        r.in_queue.current + 1 + marks (opposite_end r.end) ≤ c.cap (opposite_end r.end)

  module _ (s : ℕ) (r : Router) (here : get n.routers s ≡ Some r) (bare : IsBare c r) (put : IsPut r) where
    sent : (y : Router) (link : LinkEnd) (i : ℕ) (item : Item) → ends_in item ≡ [] → is_calm y ≡ is_calm r →
        router_keeps c marks r ≤ router_keeps c marks y → Passes c marks n (send_item (with_router n s y) link i item)
    sent y link i item free same h = subst (Passes c marks n) (sym (sent-bare (with_router n s y) link i item free))
        (passes-push (with_router n s y) link i item (passes-with s y r here same h))

    passes-send_out : is_possible r acts.SendOut ≡ true → (a : Answer) → Passes c marks n (commit_router n s acts.SendOut a r)
    unfolding is_possible commit_router keep_or_drop leaves_by apply output_of item_output send
    passes-send_out can a = go (current_item r.out_queue) refl (way_out r) can
      where
        go : (o : Option Item) → current_item r.out_queue ≡ o → (l : Option LinkEnd) → (is_some o && is_some l) ≡ true →
            Passes c marks n (send (with_router n s (pop_out r)) (item_output l r.out_queue.current o))
        go None e l h = cc
        go (Some item) e None h = cc
        go (Some item) e (Some l) h = sent (pop_out r) l r.out_queue.current item (bare.out item e) (routers.calm-pop_out r)
            (routers.keeps-pop_out c marks r (put.out item e))

    passes-send_in : is_possible r acts.SendIn ≡ true → (a : Answer) → Passes c marks n (commit_router n s acts.SendIn a r)
    unfolding is_possible commit_router keep_or_drop leaves_by apply output_of item_output send
    passes-send_in can a = go (current_item r.in_queue) refl (way_in r) can
      where
        go : (o : Option Item) → current_item r.in_queue ≡ o → (l : Option LinkEnd) → (is_some o && is_some l) ≡ true →
            Passes c marks n (send (with_router n s (send_on r)) (item_output l r.in_queue.current o))
        go None e l h = cc
        go (Some item) e None h = cc
        go (Some item) e (Some l) h = sent (send_on r) l r.in_queue.current item (bare.inner item e) (routers.calm-send_on r put.no_gone)
            (routers.keeps-send_on c marks r (put.inner item e))

    passes-discard : is_possible r acts.Discard ≡ true → (a : Answer) → Passes c marks n (commit_router n s acts.Discard a r)
    unfolding is_possible commit_router keep_or_drop leaves_by apply output_of discard_output send
    passes-discard can a = subst
        (λ z. Passes c marks n (send (keep_or_drop n s (drop_item r) z) (discard_output r.in_queue.current (current_item r.in_queue))))
        (sym put.no_gone) (go (current_item r.in_queue) refl (and_second _ _ can))
      where
        go : (o : Option Item) → current_item r.in_queue ≡ o → is_some o ≡ true →
            Passes c marks n (send (with_router n s (drop_item r)) (discard_output r.in_queue.current o))
        go None e h = cc
        go (Some item) e h = passes-dropped (with_router n s (drop_item r)) (ends_in item) (bare.inner item e)
            (passes-with s (drop_item r) r here (routers.calm-drop r (put.no_mark (and_first _ _ can))) (routers.keeps-drop c marks r (put.inner item e)))

    -- an act that passes an item, or a rest
    pub passes-acted : (act : RouterAct) (a : Answer) → may_take r act ≡ true → is_passing act ≡ true →
        Passes c marks n (commit_router n s act a r)
    unfolding is_rest is_passing commit_router keep_or_drop leaves_by apply output_of send
    passes-acted acts.SendOut a may is = passes-send_out (or-none _ may) a
    passes-acted acts.SendIn a may is = passes-send_in (or-none _ may) a
    passes-acted acts.Discard a may is = passes-discard (or-none _ may) a
    passes-acted acts.Rest a may is =
        passes-with s (rest r) r here (routers.calm-rest r) (omega (arith, routers.keeps-rest c marks r))
    passes-acted other a may is = cc
