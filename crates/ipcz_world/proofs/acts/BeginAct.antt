-- A bypass begins: the invariant is kept, every begin that is possible is one of these, and a node's begin is this update.
use Rattle.ipcz_world.proofs.frames.RolesTell.{links-in}
use Rattle.ipcz_world.proofs.Vocabulary.{B, LinkId, Central, Peripheral, LinkEnd, word_of, Router, inward_edge, is_possible, output_of, with_router}
use Rattle.ipcz_world.proofs.Vocabulary.{router_in, commit, World, Key, node_at, router_at, set_node, after_act, Books, Records, inner_link}
use Rattle.ipcz_world.proofs.Vocabulary.{is_outward, Inv, leaves_by, apply, message_output, on_router, send, commit_router, keep_or_drop}
use Rattle.ipcz_world.proofs.Vocabulary.{after_router_act, touch}
use Rattle.ipcz_world.proofs.acts.BegunStages.{live-begun, retired-begun, gones-begun}
use Rattle.std.specs.Prelude.{◌≡◌, ◌<◌, ℕ, Option, Some, None, refl}
use Rattle.std.proofs.Common.{arith, sym, ◌∙◌, ap, subst}
use Rattle.ipcz_router.specs.ActEffects.{begin_bypass, begin_message as begin_sending}
use Rattle.ipcz_router.specs.declared.act.RouterAct.TheVariants as acts
use Rattle.ipcz_router.specs.declared.act.Applied.TheVariants as sends
use Rattle.ipcz_node.specs.declared.act.Act.TheVariants.{Router as OfRouter}
use Rattle.ipcz_world.proofs.facts.RecordsAfter.{begin_records}
use Rattle.ipcz_world.proofs.facts.Updates.{CanAct, begin_act}
use Rattle.ipcz_world.proofs.acts.Beginning.{CanBegin, Begins, begins-of}
use Rattle.ipcz_world.proofs.acts.BegunWorld.{Sends, sends-push}
use Rattle.ipcz_world.proofs.acts.BegunAround.{IsBegunFrom, begun-from}
use Rattle.ipcz_world.proofs.acts.BegunLinks.{counts-begun, shape-begun, roles-begun, begun-begun}
use Rattle.ipcz_world.proofs.acts.BegunStages.{stands-begun, words-begun, spares-begun, bypasses-begun, stages-begun}
use Rattle.ipcz_world.proofs.acts.BegunNumbers.{begin_message, ordered-begun, moves-begun, terminals-begun, end_places-begun, books-begun}
use Rattle.ipcz_world.proofs.acts.BegunNumbers.{items-begun, order-begun, proxy_numbers-begun, fresh_numbers-begun, conserved-begun}
use Rattle.ipcz_world.proofs.acts.BegunNumbers.{held_once-begun}
use Rattle.ipcz_world.proofs.acts.BegunMessages.{controls-begun}
use Rattle.ipcz_world.proofs.acts.Updating.{push-set_node}

-- Nothing is lost, for no item moves: the proxy's two links decay with lengths that nobody knows yet, so nothing is past them. It holds the
-- lock of its outward link, so the word is stable on both sides, and no edge of either router decays.
pub inv-begin : (w : World) (b : Books) (g : Records) (k : Key) (r : Router) (p : Key) (into out : LinkEnd) (o fresh : ℕ) → Inv w b g →
    CanBegin w k r p into out o fresh → Inv (begin_act w k r into out o fresh) b (begin_records g k o fresh p)
inv-begin w b g k r p into out o fresh law can = record {
  counts = counts-begun law is c new;
  ordered = ordered-begun law is c new;
  shape = shape-begun law is c new;
  roles = roles-begun law is c new;
  begun = begun-begun law is c new;
  stands = stands-begun law is c new;
  words = words-begun law is c new;
  spares = spares-begun law is c new;
  bypasses = bypasses-begun law is c new;
  live = live-begun law is c new;
  stages = stages-begun law is c new;
  controls = controls-begun law is c new;
  moves = moves-begun law is c new;
  terminals = terminals-begun law is c new;
  end_places = end_places-begun law is c new;
  books_kept = books-begun law is c new;
  retired_ends = retired-begun law is c new;
  gones = gones-begun law is c new;
  items = items-begun law is c new;
  order = order-begun law is c new;
  proxy_numbers = proxy_numbers-begun law is c new;
  fresh_numbers = fresh_numbers-begun law is c new;
  conserved = conserved-begun law is c new;
  held_once = held_once-begun law is c new;
  no_strays = λ n. (c.nodes n).strays ∙ law.no_strays n;
}
  where
    y : Router
    y = begin_bypass r

    v : World
    v = begin_act w k r into out o fresh

    is : Begins w g k r p into out o fresh
    is = begins-of w b g k r p into out o fresh law can

    new : IsBegunFrom r y into out
    new = begun-from is

    c : Sends w v k y into.other (begin_message into out o fresh)
    c = sends-push w k y into.other (begin_message into out o fresh) (law.counts.on_node k r can.here)
        (subst (λ n. n < w.count) (sym is.inner_other) (law.counts.side_on_node (inner_link p) B is.inner_recorded))

-- a begin that is possible, with its links and words
pub record Beginning (w : World) (k : Key) (r : Router) : Type 0 where
  pub inner : Key
  pub into : LinkEnd
  pub out : LinkEnd
  pub old : ℕ
  pub fresh : ℕ
  pub can : CanBegin w k r inner into out old fresh

pub begin-possible : (w : World) (b : Books) (g : Records) (k : Key) (r : Router) → Inv w b g → CanAct w k r acts.Begin → Beginning w k r
unfolding is_possible word_of is_outward
begin-possible w b g k r law can = go (inward_edge r).primary r.outward.primary r.spare refl refl refl
  where
    at : (into out : LinkEnd) (fresh : ℕ) (l m : LinkId) → (inward_edge r).primary ≡ Some into → r.outward.primary ≡ Some out →
        r.spare ≡ Some fresh → into.link ≡ l → out.link ≡ m → Beginning w k r
    at into out fresh (Central i) m a d e f h = absurd (grind (arith, ((links-in law) k r can.here).inward_primary_inward into a, f))
    at into out fresh (Peripheral n x) (Peripheral i j) a d e f h = absurd (grind (arith, can.possible, d, h))
    at into out fresh (Peripheral n x) (Central i) a d e f h = record {
      inner = record { node = n; serial = x };
      into = into;
      out = out;
      old = i;
      fresh = fresh;
      can = record { here = can.here; possible = can.possible; inner = a; inner_at = f; outer = d; outer_at = h; spare = e };
    }

    go : (a d : Option LinkEnd) (e : Option ℕ) → (inward_edge r).primary ≡ a → r.outward.primary ≡ d → r.spare ≡ e → Beginning w k r
    go a d None p q s = absurd (grind (arith, (law.shape k r can.here).holds_spare, can.possible, s))
    go a None (Some n) p q s = absurd (grind (arith, can.possible, q))
    go None (Some x) (Some n) p q s = absurd (grind (arith, (law.shape k r can.here).role, can.possible, p, q))
    go (Some i) (Some x) (Some n) p q s = at i x n i.link x.link p q s refl refl

begin-sends : (w : World) (k : Key) (r : Router) (p : Key) (into out : LinkEnd) (o fresh : ℕ) → CanBegin w k r p into out o fresh →
    output_of r acts.Begin ≡ sends.Message into.other (begin_message into out o fresh)
unfolding output_of message_output begin_sending word_of
begin-sends w k r p into out o fresh can = rw (can.inner, can.outer, can.spare) (grind (arith, can.outer_at))

-- a node's begin in the world is the update
pub acted-begin : (w : World) (n s : ℕ) (r : Router) (p : Key) (into out : LinkEnd) (o fresh : ℕ) →
    CanBegin w (record { node = n; serial = s }) r p into out o fresh →
    after_act w n (OfRouter s acts.Begin) ≡ begin_act w (record { node = n; serial = s }) r into out o fresh
unfolding after_act after_router_act touch commit on_router commit_router keep_or_drop leaves_by apply send router_at
acted-begin w n s r p into out o fresh can =
    let inside : router_in (node_at w n) s ≡ Some r = can.here in
    rw (can.here, inside) (ap (λ a. set_node w n (send (with_router (node_at w n) s (begin_bypass r)) a))
    (begin-sends w (record { node = n; serial = s }) r p into out o fresh can)
    ∙ sym (push-set_node w n (with_router (node_at w n) s (begin_bypass r)) into.other (begin_message into out o fresh)))
