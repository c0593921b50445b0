-- The acts of routers as updates of the world, with the router, the word and the links as arguments: the form that preservation is shown
-- for.
use Rattle.std.specs.Prelude.{◌≡◌, ◌+◌, ℕ, true, Some, None, []}
use Rattle.ipcz_base.specs.declared.side.Side.{Side}
use Rattle.ipcz_base.specs.declared.link_end.LinkEnd.{LinkEnd}
use Rattle.ipcz_world.proofs.Vocabulary.{Gone, Plan, Locks, Waits, Refuses, source_of, accept_message, accept_bypass, stop_proxying, proxy_will_stop}
use Rattle.ipcz_world.proofs.Vocabulary.{rest, push_out, without_router, flushed}
use Rattle.ipcz_base.specs.declared.message.Message.{Message}
use Rattle.ipcz_base.specs.declared.message.Message.TheVariants as messages
use Rattle.ipcz_base.specs.Sides.{opposite}
use Rattle.ipcz_word.specs.Word.{mark, lock, wait, unlock}
use Rattle.ipcz_router.specs.Router.{Router, primary_word}
use Rattle.ipcz_router.specs.Bypass.{bypass_peer}
use Rattle.ipcz_router.specs.ActEffects.{mark_side, wake_other, take_lock, fail_lock, drop_lock, claim_word, begin_bypass}
use Rattle.ipcz_router.specs.ActEffects.{finish_out, finish_in, peer_message}
use Rattle.ipcz_router.specs.ActTable.{is_possible}
use Rattle.ipcz_router.specs.declared.act.RouterAct.{RouterAct}
use Rattle.ipcz_world.specs.declared.mail.Mail.TheVariants as mails
use Rattle.ipcz_world.specs.World.{World, Key, node_at, word_at, mail_at, way, router_at, set_node, set_word, set_claimed, set_mail}
use Rattle.ipcz_world.specs.World.{set_router}
use Rattle.ipcz_world.specs.WordAnswers.{tells_waiting, woken}

-- the world without the router of the key
abbrev pub remove_router : World → Key → World
remove_router w k = set_node w k.node (without_router (node_at w k.node) k.serial)

-- the world with a message more from one node to another
abbrev pub push_message : World → ℕ → ℕ → Message → World
push_message w from to m = set_node w from (push_out (node_at w from) to m)

-- what an act of a router needs
pub record CanAct (w : World) (k : Key) (r : Router) (act : RouterAct) : Type 0 where
  pub here : router_at w k ≡ Some r
  pub possible : is_possible r act ≡ true

-- what an act on the word of the router's outward primary link needs
pub record CanTouch (w : World) (k : Key) (r : Router) (i : ℕ) (act : RouterAct) : Type 0 where
  pub here : router_at w k ≡ Some r
  pub possible : is_possible r act ≡ true
  pub word : primary_word r ≡ Some i

-- a side is marked
abbrev pub mark_act : World → Key → Router → ℕ → World
mark_act w k r i =
    set_word (set_router w k (mark_side r (tells_waiting (word_at w i) r.end.side))) i (mark (word_at w i) r.end.side)

-- what tells the other side that it is woken
abbrev pub tells_wake : LinkEnd → Message
tells_wake e = messages.Flush e.link (opposite e.side)

-- the other side is woken, by a Flush
abbrev pub wake_act : World → Key → Router → ℕ → LinkEnd → World
wake_act w k r i e =
    push_message (set_word (set_router w k (wake_other r)) i (woken (word_at w i) r.end.side)) k.node e.other
    (tells_wake e)

-- a try for the lock; if it is refused, the word is written back
abbrev pub lock_act : World → Key → Router → ℕ → Plan → World
lock_act w k r i Locks = set_word (set_router w k (take_lock r)) i (lock (word_at w i) r.end.side (source_of r))
lock_act w k r i Waits = set_word (set_router w k (fail_lock r)) i (wait (word_at w i) r.end.side)
lock_act w k r i Refuses = set_word (set_router w k (fail_lock r)) i (word_at w i)

-- the lock is given back
abbrev pub unlock_act : World → Key → Router → ℕ → World
unlock_act w k r i = set_word (set_router w k (drop_lock r)) i (unlock (word_at w i) r.end.side)

-- a word is claimed
abbrev pub claim_act : World → Key → Router → World
claim_act w k r = set_claimed (set_router w k (claim_word r w.claimed)) (w.claimed + 1)

-- a bypass begins
abbrev pub begin_act : World → Key → Router → LinkEnd → LinkEnd → ℕ → ℕ → World
begin_act w k r inner outer old fresh =
    push_message (set_router w k (begin_bypass r)) k.node inner.other (peer_message inner outer old fresh).message

-- the outward decaying link is given up
abbrev pub finish_out_act : World → Key → Router → World
finish_out_act w k r = set_router w k (finish_out r)

-- the inward decaying link is given up
abbrev pub finish_in_act : World → Key → Router → World
finish_in_act w k r = set_router w k (finish_in r)

-- a proxy leaves
abbrev pub leave_act : World → Key → World
leave_act w k = remove_router w k

-- a router rests
abbrev pub rest_act : World → Key → Router → World
rest_act w k r = set_router w k (rest r)

-- a sink that is sent Gone discards it and leaves
abbrev pub discard_leave_act : World → Key → World
discard_leave_act w k = remove_router w k

-- a sink leaves under its lock, and sends Gone
abbrev pub retire_act : World → Key → LinkEnd → ℕ → World
retire_act w k e n = push_message (remove_router w k) k.node e.other (messages.Item e.link (opposite e.side) n Gone [])

-- a message is in the hand of a node, and the router that it asks stands there
pub record CanHand (w : World) (from : ℕ) (k : Key) (r : Router) (m : Message) : Type 0 where
  pub here : router_at w k ≡ Some r
  pub in_hand : mail_at w (way w from k.node) ≡ mails.Hand m
  pub hand : (node_at w k.node).hand ≡ Some from

-- the hand is empty, and so is the mailbox
abbrev pub free : World → ℕ → ℕ → World
free w from to = set_mail (set_node w to (record (node_at w to) { hand = None })) (way w from to) mails.Empty

-- the router inward takes the fresh link
abbrev pub peer_act : World → ℕ → Key → Router → ℕ → ℕ → ℕ → World
peer_act w from k r old target fresh =
    free (push_message (set_router w k (bypass_peer r target fresh)) k.node target (accept_message r old target fresh).message) from k.node

-- what the router across tells the proxy, and the proxy the router inward
abbrev pub tells_stop : Router → ℕ → Side → ℕ → Message
tells_stop r old side length = messages.StopProxying (opposite side) old r.out_queue.current length

abbrev pub tells_will_stop : LinkEnd → ℕ → Message
tells_will_stop inner in_length = messages.ProxyWillStop inner.link (opposite inner.side) in_length

-- the router across accepts
abbrev pub accept_act : World → ℕ → Key → Router → LinkEnd → ℕ → Side → ℕ → ℕ → World
accept_act w from k r e old side fresh length =
    free (push_message (set_router w k (accept_bypass r from side fresh length)) k.node e.other
    (tells_stop r old side length)) from k.node

-- the proxy is told
abbrev pub stop_act : World → ℕ → Key → Router → LinkEnd → ℕ → ℕ → World
stop_act w from k r inner in_length out_length =
    free (push_message (set_router w k (stop_proxying r in_length out_length)) k.node inner.other
    (tells_will_stop inner in_length)) from k.node

-- the router inward is told
abbrev pub will_stop_act : World → ℕ → Key → Router → ℕ → World
will_stop_act w from k r in_length = free (set_router w k (proxy_will_stop r in_length)) from k.node

-- a router needn't wait any longer
abbrev pub flush_act : World → ℕ → Key → Router → World
flush_act w from k r = free (set_router w k (flushed r)) from k.node
