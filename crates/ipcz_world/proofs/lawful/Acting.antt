-- What each act and call of a node leaves of its routers.
use Rattle.ipcz_world.proofs.Vocabulary.{Side, A, B, End, LinkId, Central, Peripheral, LinkEnd, Descriptor, Item, Message, is_central, has_link}
use Rattle.ipcz_world.proofs.Vocabulary.{word_of, place_at, Edge, Router, inward_edge, primary_word, from_descriptor, bypass_peer, is_possible}
use Rattle.ipcz_world.proofs.Vocabulary.{output_of, RouterAct, Close, Node, Found, router_in, with_router, terminal_of, commit, World, answer_of}
use Rattle.ipcz_world.proofs.Vocabulary.{leaves_by, Parcel, outward_has, decays, accept, accept_message, accept_bypass, stop_proxying}
use Rattle.ipcz_world.proofs.Vocabulary.{proxy_will_stop, stop_message, will_stop_message, is_rest, may_take, drop_item, is_done, is_proxy}
use Rattle.ipcz_world.proofs.Vocabulary.{is_terminal_of, apply, Answer, Applied, add_router, add_end, new_end, link_router, is_named, on_found}
use Rattle.ipcz_world.proofs.Vocabulary.{on_router, put_node, put_at_router, get_node, get_at_router, close_end, close_node, open_node}
use Rattle.ipcz_world.proofs.Vocabulary.{close_at_router, Transfer, move_found, move_ends, moved_ends, send_item, send, deliver, handle, fits, tell}
use Rattle.ipcz_world.proofs.Vocabulary.{take_in, make_terminals, commit_router, keep_or_drop, has_unclaimed_word, flushed}
use Rattle.std.specs.Prelude.{◌≡◌, ◌⊎◌, nat_eq, length, ℕ, Bool, true, false, ◌&&◌, not, nat_lt, if◌then◌else◌}
use Rattle.std.specs.Prelude.{Option, Some, None, is_some, is_none, option_map, List, [], ◌∷◌, ◌++◌, slice_get, refl}
use Rattle.std.proofs.Common.{arith, ap, sym, ◌∙◌, subst, inl, inr}
use Rattle.std.proofs.lemmas.Bool.Decides.{nat_tests}
use Rattle.std.proofs.lemmas.Bool.{or_left}
use Rattle.std.proofs.lemmas.Option.{same_Some}
use Rattle.std.specs.Ordering.{nat_cmp}
use Rattle.ipcz_world.proofs.facts.Tests.{false-true, or_second}
use Rattle.ipcz_base.specs.declared.parcel.Parcel as parcels
use Rattle.ipcz_base.specs.declared.message.Message.TheVariants as messages
use Rattle.ipcz_base.specs.Links.{central_end}
use Rattle.ipcz_router.specs.Router.{inward_has}
use Rattle.ipcz_router.specs.Calls.{take_item, put_item, extend}
use Rattle.ipcz_router.specs.Closing.{close_router}
use Rattle.ipcz_router.specs.Bypass.{fits_bypass_peer, fits_accept_bypass}
use Rattle.std.specs.FinMap.{entries, find, get-entries, len, len-entries}
use Rattle.ipcz_seq.specs.Queue.{Queue, current_item, is_drained}
use Rattle.ipcz_router.specs.Router.{is_open_terminal, router_has}
use Rattle.ipcz_world.proofs.lawful.Following.{IsReadyProxy, able-tells}
use Rattle.ipcz_router.specs.declared.act.RouterAct.TheVariants as acts
use Rattle.ipcz_router.specs.declared.act.Answer.TheVariants as answers
use Rattle.ipcz_router.specs.declared.act.Applied.TheVariants as sends
use Rattle.ipcz_node.specs.declared.act.Act.TheVariants.{Router as OfRouter}
use Rattle.ipcz_node.specs.Sends.{next_link}
use Rattle.ipcz_node.specs.Hands.{passes_at}
use Rattle.ipcz_world.proofs.facts.Finding.{found_tells, terminal_tells}
use Rattle.ipcz_world.proofs.facts.Lengths.{HasEnd, has_link-tells}
use Rattle.ipcz_world.proofs.facts.Tests.{and_first, and_second}
use Rattle.ipcz_world.proofs.lawful.Following.{Follows, IsLeft, follows-left, IsAside, follows-aside, on-central}
use Rattle.ipcz_world.proofs.lawful.Going.{IsNew, IsOff, IsCounted, Changes, Goes, changes-itself, changes-else, changes-with}
use Rattle.ipcz_world.proofs.lawful.Going.{changes-without}
use Rattle.ipcz_world.proofs.lawful.Going.{changes-push, changes-tell, goes-by, goes-add}

-- whether an act changes the word of its router's link
unfoldable pub is_wordy : RouterAct → Bool
is_wordy acts.Mark = true
is_wordy acts.Wake = true
is_wordy acts.Lock = true
is_wordy acts.Unlock = true
is_wordy other = false

-- whether an act is a begin
unfoldable pub is_begin : RouterAct → Bool
is_begin acts.Begin = true
is_begin other = false

-- an act on a word leaves the links
pub record HasSameEdges (x y : Router) : Type 0 where
  pub outward : y.outward ≡ x.outward
  pub inward : y.inward ≡ x.inward
  pub end : y.end ≡ x.end

same-edges : (r : Router) (act : RouterAct) (a : Answer) → is_wordy act ≡ true → HasSameEdges r (apply r act a)
unfolding apply is_wordy
same-edges r acts.Mark answers.Plain h = record { outward = refl; inward = refl; end = refl }
same-edges r acts.Lock answers.Plain h = record { outward = refl; inward = refl; end = refl }
same-edges r acts.FinishOut a h = cc
same-edges r acts.FinishIn a h = cc
same-edges r acts.Begin a h = cc
same-edges r acts.Claim answers.Plain h = cc
same-edges r other a h = record { outward = refl; inward = refl; end = refl }

has-link-same : (o p : Option LinkEnd) (l : LinkId) (s : Side) → o ≡ p → has_link o l s ≡ true → has_link p l s ≡ true
has-link-same o p l s e h = ap (λ x. has_link x l s) (sym e) ∙ h

none-has : (l : LinkId) (s : Side) → has_link None l s ≡ true → ⊥
unfolding has_link
none-has l s h = cc

central-is : (word : ℕ) (s : Side) (other : ℕ) → is_central (central_end word s other).link ≡ true
unfolding is_central
central-is word s other = refl

-- a drained queue has no current item
drained-empty : (q : Queue Item) → is_drained q ≡ true → current_item q ≡ None
drained-empty q h = get-entries q.items q.current ∙ none (entries q.items) (sym (len-entries q.items) ∙ zero_is (len q.items) h)
  where
    zero_is : (n : ℕ) → nat_eq n 0 ≡ true → n ≡ 0
    zero_is n h = grind (arith, h, nat_tests)

    none : (es : List (ℕ × Item)) → length es ≡ 0 → find nat_cmp q.current es ≡ None
    none [] e = refl
    none (x ∷ es) e = cc

-- a sink that is done sends nothing
done-sends : (r : Router) → is_done r ≡ true → is_possible r acts.SendOut ≡ true → ⊥
unfolding is_possible
done-sends r h p = go (drained-empty r.out_queue (grind (arith, h)))
  where
    go : current_item r.out_queue ≡ None → ⊥
    go e = grind (arith, e, p)

-- and stays so if it drops something
done-drops : (r : Router) → is_done r ≡ true → is_done (drop_item r) ≡ true
done-drops r h = grind (arith, h)

-- a sink is no proxy
done-proxy : (r : Router) → is_done r ≡ true → is_proxy r ≡ true → ⊥
done-proxy r h p = grind (arith, h, p)

-- who has a link, and not outward, is a proxy
inward-proxy : (r : Router) (l : LinkId) (s : Side) → router_has r l s ≡ true → outward_has r l s ≡ false → is_proxy r ≡ true
unfolding has_link
inward-proxy r l s h o = go (or_second (outward_has r l s) (inward_has r l s) h o) r.inward refl
  where
    go : inward_has r l s ≡ true → (x : Option Edge) → r.inward ≡ x → is_proxy r ≡ true
    go q None e = absurd (grind (arith, q, e))
    go q (Some x) e = grind (arith, e)

-- an open terminal isn't a sink
open-undone : (r : Router) → is_open_terminal r ≡ true → is_done r ≡ true → ⊥
open-undone r o h = grind (arith, o, h)

module _ (i : ℕ) (held : Bool) where
  -- all as it was but queues, the flag, and the try forgotten
  left-alone : (x y : Router) → y.end ≡ x.end → y.outward ≡ x.outward → y.inward ≡ x.inward → (y.tried ≡ true → x.tried ≡ true) → y.marked ≡ x.marked →
      y.dry ≡ x.dry → y.spare ≡ x.spare → y.holds ≡ x.holds → y.wake_owed ≡ x.wake_owed → (is_done x ≡ true → is_done y ≡ true) → IsLeft i held x y
  left-alone x y end out inn tried marked dry spare holds wake done = record {
    primary = ap (λ (e : Edge). e.primary) out;
    decaying = λ l s h. has-link-same y.outward.decaying x.outward.decaying l s (ap (λ (e : Edge). e.decaying) out) h;
    inward = λ l s h. subst (λ e. inward_has (record y { inward = e }) l s ≡ true) inn h;
    proxy = ap is_some inn;
    still = λ h. subst (λ e. decays (record y { inward = e }) ≡ false) (sym inn)
        (subst (λ e. decays (record x { outward = e }) ≡ false) (sym out) h);
    tried = tried;
    marked = marked;
    dry = dry;
    spare = spare;
    holds = holds;
    wake = wake;
    end = end;
    done = done;
  }

  -- the outward edge gives up its decaying link
  left-finish_out : (r : Router) → IsLeft i held r (apply r acts.FinishOut answers.Plain)
  unfolding apply
  left-finish_out r = record {
    primary = refl;
    decaying = λ l s h. absurd (none-has l s h);
    inward = λ l s h. h;
    proxy = refl;
    still = λ h. grind (arith, h);
    tried = λ h. h;
    marked = refl;
    dry = refl;
    spare = refl;
    holds = refl;
    wake = refl;
    end = refl;
    done = λ h. h;
  }

  left-finish_in : (r : Router) → IsLeft i held r (apply r acts.FinishIn answers.Plain)
  unfolding apply has_link
  left-finish_in r = go r.inward refl
    where
      y : Router
      y = apply r acts.FinishIn answers.Plain

      go : (o : Option Edge) → r.inward ≡ o → IsLeft i held r (apply r acts.FinishIn answers.Plain)
      go None e = record {
        primary = refl;
        decaying = λ l s h. h;
        inward = λ l s h. grind (arith, e, h);
        proxy = grind (arith, e);
        still = λ h. grind (arith, e, h);
        tried = λ h. h;
        marked = refl;
        dry = refl;
        spare = refl;
        holds = refl;
        wake = refl;
        end = refl;
        done = λ h. grind (arith, e, h);
      }
      go (Some x) e = record {
        primary = refl;
        decaying = λ l s h. h;
        inward = λ l s h. grind (arith, e, h);
        proxy = grind (arith, e);
        still = λ h. grind (arith, e, h);
        tried = λ h. h;
        marked = refl;
        dry = refl;
        spare = refl;
        holds = refl;
        wake = refl;
        end = refl;
        done = λ h. grind (arith, e, h);
      }

  -- both primary links decay
  aside-begin : (r : Router) → IsOff i held r → IsAside i held r (apply r acts.Begin answers.Plain)
  unfolding apply has_link
  aside-begin r off = record {
    untried = λ s h on. cc;
    off = off;
    outward = λ n c h. or_left (has_link r.outward.primary (Peripheral n c) B) (has_link r.outward.decaying (Peripheral n c) B) h;
    inward = λ l s h. inward l s r.inward refl h;
    end = refl;
    terminal = λ h. mapped _ r.inward h;
  }
    where
      mapped : (f : Edge → Edge) (o : Option Edge) → is_none (option_map f o) ≡ true → is_none o ≡ true
      mapped f None h = refl
      mapped f (Some x) h = cc

      inward : (l : LinkId) (s : Side) (o : Option Edge) → r.inward ≡ o → inward_has (apply r acts.Begin answers.Plain) l s ≡ true →
          inward_has r l s ≡ true
      inward l s None e h = grind (arith, e, h)
      inward l s (Some x) e h = grind (arith, e, h)

  follows-wordy : (number base : ℕ) (r : Router) (act : RouterAct) (a : Answer) → is_wordy act ≡ true → (primary_word r ≡ Some i → ⊥) →
      Follows i held number base r (apply r act a)
  follows-wordy number base r act a wordy apart = follows-aside i held number base r (apply r act a) (record {
    untried = λ s h on. apart (ap (λ (e : Edge). word_of e.primary) (sym same.outward) ∙ on-central i s (apply r act a) on);
    off = λ s on. absurd (apart (on-central i s r on));
    outward = λ n c h. subst (λ e. outward_has (record r { outward = e }) (Peripheral n c) B ≡ true) same.outward h;
    inward = λ l s h. subst (λ e. inward_has (record r { inward = e }) l s ≡ true) same.inward h;
    end = same.end;
    terminal = λ h. ap is_none (sym same.inward) ∙ h;
  })
    where
      same : HasSameEdges r (apply r act a)
      same = same-edges r act a wordy

  may-possible : (r : Router) (act : RouterAct) → is_rest act ≡ false → may_take r act ≡ true → is_possible r act ≡ true
  unfolding is_rest
  may-possible r act n h = grind (arith, n, h)

  follows-claim : (number base : ℕ) (w : World) (r : Router) → is_possible r acts.Claim ≡ true →
      Follows i held number base r (apply r acts.Claim (answer_of w r acts.Claim))
  unfolding answer_of apply is_possible
  follows-claim number base w r possible = go (has_unclaimed_word w)
    where
      go : (c : Bool) → Follows i held number base r (apply r acts.Claim (if c then answers.Claimed w.claimed else answers.NoWord))
      go true = record {
        tried = λ s h on. (h, on);
        able = λ s free on h. absurd (grind (arith, possible, h));
        owing = λ s free on h. (h, on);
        outward = λ n c h. h;
        inward = λ n c h. inl h;
        end = refl;
        terminal = λ h. h;
      }
      go false = record {
        tried = λ s h on. (h, on);
        able = λ s free on h. absurd (grind (arith, possible, h));
        owing = λ s free on h. (h, on);
        outward = λ n c h. h;
        inward = λ n c h. inl h;
        end = refl;
        terminal = λ h. h;
      }

  -- a router after an act that it may take
  pub follows-apply : (number base : ℕ) (w : World) (r : Router) (act : RouterAct) → may_take r act ≡ true →
      (is_wordy act ≡ true → primary_word r ≡ Some i → ⊥) → (is_begin act ≡ true → IsOff i held r) →
      Follows i held number base r (apply r act (answer_of w r act))
  unfolding is_wordy is_begin apply is_rest
  follows-apply number base w r acts.SendOut may apart begins =
      follows-left i held number base r _ (left-alone r _ refl refl refl (λ h. h) refl refl refl refl refl
      (λ h. absurd (done-sends r h (may-possible r acts.SendOut refl may))))
  follows-apply number base w r acts.Discard may apart begins =
      follows-left i held number base r _ (left-alone r _ refl refl refl (λ h. h) refl refl refl refl refl (λ h. done-drops r h))
  follows-apply number base w r acts.FinishOut may apart begins = follows-left i held number base r _ (left-finish_out r)
  follows-apply number base w r acts.FinishIn may apart begins = follows-left i held number base r _ (left-finish_in r)
  follows-apply number base w r acts.Mark may apart begins = follows-wordy number base r acts.Mark _ refl (apart refl)
  follows-apply number base w r acts.Wake may apart begins = follows-wordy number base r acts.Wake (answer_of w r acts.Wake) refl
      (apart refl)
  follows-apply number base w r acts.Claim may apart begins = follows-claim number base w r (may-possible r acts.Claim refl may)
  follows-apply number base w r acts.Lock may apart begins = follows-wordy number base r acts.Lock _ refl (apart refl)
  follows-apply number base w r acts.Begin may apart begins = follows-aside i held number base r _ (aside-begin r (begins refl))
  follows-apply number base w r acts.Unlock may apart begins =
      follows-wordy number base r acts.Unlock (answer_of w r acts.Unlock) refl (apart refl)
  follows-apply number base w r other may apart begins =
      follows-left i held number base r _ (left-alone r _ refl refl refl (λ h. h) refl refl refl refl refl (λ h. h))

  -- a router that is moved: no terminal of this word's link could try, and its new link has the next serial
  follows-extend : (n : Node) (to : ℕ) (r : Router) → is_open_terminal r ≡ true →
      Follows i held n.number n.next_peripheral r (extend r (record { link = next_link n; side = A; other = to }))
  unfolding has_link
  follows-extend n to r t = record {
    tried = λ s h on. cc;
    able = λ s free on h. absurd (unable (able-tells r h).kind);
    owing = λ s free on h. (h, on);
    outward = λ a c h. h;
    inward = λ a c h. inr (grind (arith, nat_tests, h), grind (arith, nat_tests, h));
    end = refl;
    terminal = λ h. cc;
  }
    where
      unable : IsReadyProxy r ⊎ (is_done r ≡ true) → ⊥
      unable (inl k) = proxy_not r t k.proxy
        where
          proxy_not : (r : Router) → is_open_terminal r ≡ true → is_proxy r ≡ true → ⊥
          proxy_not r t p = grind (arith, t, p)
      unable (inr k) = open-undone r t k

  move-changes : (n : Node) (m : Transfer) (to : ℕ) (e : End) → Changes i held n m.node →
      Changes i held n (move_found m to (terminal_of m.node e)).node
  unfolding move_found
  move-changes n m to e c = go (terminal_of m.node e) refl
    where
      go : (o : Option Found) → terminal_of m.node e ≡ o → Changes i held n (move_found m to o).node
      go None h = c
      go (Some f) h =
          let t = terminal_tells m.node e f h in
          changes-else i held n _ _ (changes-with i held n m.node f.serial f.router _ c t.here (follows-extend m.node to f.router (and_first _ _ (found_tells m.node (is_terminal_of e) f h).1)))
          refl refl refl (omega arith) refl

  moves-change : (n : Node) (m : Transfer) (to : ℕ) (es : List End) → Changes i held n m.node → Changes i held n (move_ends m to es).node
  moves-change n m to [] c = c
  moves-change n m to (e ∷ es) c = moves-change n (move_found m to (terminal_of m.node e)) to es (move-changes n m to e c)

  send-changes : (n m : Node) (a : Applied) → Changes i held n m → Changes i held n (send m a)
  unfolding send send_item
  send-changes n m sends.Nothing c = c
  send-changes n m (sends.Sent link number item) c = changes-push i held n _ link.other _
      (moves-change n (record { node = m; moves = [] }) link.other (moved_ends m link item) c)
  send-changes n m (sends.Message to message) c = changes-push i held n m to message c
  send-changes n m (sends.Discarded number item) c = changes-else i held n m _ c refl refl refl (omega arith) refl

  keep-changes : (n : Node) (s : ℕ) (r y : Router) (c : Bool) → router_in n s ≡ Some r → (c ≡ true → IsOff i held r) →
      Follows i held n.number n.next_peripheral r y → Changes i held n (keep_or_drop n s y c)
  unfolding keep_or_drop
  keep-changes n s r y true here leaves f = changes-without i held n s r here (leaves refl)
  keep-changes n s r y false here leaves f = changes-with i held n n s r y (changes-itself i held n) here f

  -- an act of a router
  pub act-changes : (w : World) (n : Node) (s : ℕ) (act : RouterAct) (r : Router) → router_in n s ≡ Some r → may_take r act ≡ true →
      (is_wordy act ≡ true → primary_word r ≡ Some i → ⊥) → (is_begin act ≡ true → IsOff i held r) → (leaves_by r act ≡ true → IsOff i held r) → Changes i held n (commit n (OfRouter s act) (answer_of w r act))
  unfolding commit on_router commit_router
  act-changes w n s act r here may apart begins leaves = go (router_in n s) refl
    where
      go : (o : Option Router) → router_in n s ≡ o → Changes i held n (on_router n o (commit_router n s act (answer_of w r act)))
      go None e = changes-itself i held n
      go (Some q) e = let z : r ≡ q = same_Some r q (sym here ∙ e) in
          send-changes n _ (output_of q act) (subst (λ x. Changes i held n (keep_or_drop n s (apply x act (answer_of w r act)) (leaves_by x act))) z
          (keep-changes n s r (apply r act (answer_of w r act)) (leaves_by r act) here leaves
          (follows-apply n.number n.next_peripheral w r act may apart begins)))

  -- a router at a call, or which is told something: the try may be forgotten
  told-changes : (n : Node) (s : ℕ) (r y : Router) → router_in n s ≡ Some r → IsLeft i held r y → Changes i held n (with_router n s y)
  told-changes n s r y here is = changes-with i held n n s r y (changes-itself i held n) here
      (follows-left i held n.number n.next_peripheral r y is)

  roused : (r y : Router) → y.end ≡ r.end → y.outward ≡ r.outward → y.inward ≡ r.inward → y.tried ≡ false → y.marked ≡ r.marked → y.dry ≡ r.dry →
      y.spare ≡ r.spare → y.holds ≡ r.holds → y.wake_owed ≡ r.wake_owed → (is_done r ≡ true → is_done y ≡ true) → IsLeft i held r y
  roused r y end a b tried c d e f g done = left-alone r y end a b (λ h. false-true (sym tried ∙ h)) c d e f g done

  -- calls
  pub put-changes : (n : Node) (e : End) (p : parcels.Parcel) → Changes i held n (put_node n e p)
  unfolding on_found
  put-changes n e p = go (terminal_of n e) refl
    where
      go : (o : Option Found) → terminal_of n e ≡ o → Changes i held n (on_found n o (put_at_router n p))
      go None h = changes-itself i held n
      go (Some f) h = changes-else i held n _ _ (told-changes n f.serial f.router (put_item f.router (Parcel p)) (found_tells n _ f h).0
          (roused f.router _ refl refl refl refl refl refl refl refl refl
          (λ d. absurd (open-undone f.router (and_first _ _ (found_tells n (is_terminal_of e) f h).1) d)))) refl refl refl (omega arith) refl

  pub get-changes : (n : Node) (e : End) → Changes i held n (get_node n e)
  unfolding on_found
  get-changes n e = go (terminal_of n e) refl
    where
      go : (o : Option Found) → terminal_of n e ≡ o → Changes i held n (on_found n o (get_at_router n))
      go None h = changes-itself i held n
      go (Some f) h = changes-else i held n _ _ (told-changes n f.serial f.router (take_item f.router) (found_tells n _ f h).0
          (left-alone f.router _ refl refl refl (λ h. h) refl refl refl refl refl
          (λ d. absurd (open-undone f.router (and_first _ _ (found_tells n (is_terminal_of e) f h).1) d)))) refl refl refl (omega arith) refl

  close_end-changes : (n : Node) (e : End) → Changes i held n (close_end n e)
  unfolding on_found
  close_end-changes n e = go (terminal_of n e) refl
    where
      go : (o : Option Found) → terminal_of n e ≡ o → Changes i held n (on_found n o (close_at_router n))
      go None h = changes-itself i held n
      go (Some f) h = told-changes n f.serial f.router (close_router f.router) (found_tells n _ f h).0
          (roused f.router _ refl refl refl refl refl refl refl refl refl
          (λ d. absurd (open-undone f.router (and_first _ _ (found_tells n (is_terminal_of e) f h).1) d)))

  -- from a node that differs in what doesn't count
  from-else : (n m o : Node) → Changes i held m o → m.routers ≡ n.routers → m.outboxes ≡ n.outboxes → m.next_router ≡ n.next_router →
      m.next_peripheral ≡ n.next_peripheral → m.number ≡ n.number → Changes i held n o
  from-else n m o c a b d e f = record {
    routers = λ s y at. let t = c.routers s y at in
        (t.0, ap (λ z. Rattle.std.specs.FinMap.get z s) (sym a) ∙ t.1, follows t.0 y t.2);
    back = λ s x at. elim (c.back s x (ap (λ z. Rattle.std.specs.FinMap.get z s) a ∙ at)) [
      | inl t ↦ inl (t.0, t.1, follows x t.0 t.2)
      | inr t ↦ inr t
    ];
    boxes = λ to j x h. c.boxes to j x (ap (λ z. slice_get (place_at [] z to) j) b ∙ h);
    next_router = c.next_router ∙ d;
    next_peripheral = omega (arith, c.next_peripheral, e);
    number = c.number ∙ f;
  }
    where
      follows : (x y : Router) → Follows i held m.number m.next_peripheral x y → Follows i held n.number n.next_peripheral x y
      follows x y p = subst (λ z. Follows i held n.number z x y) e (subst (λ z. Follows i held z m.next_peripheral x y) f p)

  pub close-changes : (n : Node) (e : End) → Changes i held n (close_node n e)
  close-changes n e = from-else n _ _ (close_end-changes _ e) refl refl refl refl refl

  pub pending-changes : (n : Node) (e : End) (a : Answer) → Changes i held n (commit n (Close e) a)
  unfolding commit
  pending-changes n e a = from-else n _ _ (close_end-changes _ e) refl refl refl refl refl

  -- a pair is opened
  new-is : (pair : ℕ) (side : Side) (other : ℕ) → IsNew (new_end pair side other)
  new-is pair side other = record { untried = refl; terminal = refl; unclosed = refl }

  goes-else : (n m o : Node) → Goes i held n m → o.routers ≡ m.routers → o.outboxes ≡ m.outboxes → o.next_router ≡ m.next_router →
      o.next_peripheral ≡ m.next_peripheral → o.number ≡ m.number → Goes i held n o
  goes-else n m o c a b d e f = record {
    routers = λ s y at. c.routers s y (ap (λ z. Rattle.std.specs.FinMap.get z s) (sym a) ∙ at);
    back = λ s x at. elim (c.back s x at) [
      | inl t ↦ inl (t.0, ap (λ z. Rattle.std.specs.FinMap.get z s) a ∙ t.1, t.2)
      | inr t ↦ inr t
    ];
    boxes = λ to j x h. ap (λ z. slice_get (place_at [] z to) j) b ∙ c.boxes to j x h;
    next_router = omega (arith, d, c.next_router);
    next_peripheral = omega (arith, c.next_peripheral, e);
    number = f ∙ c.number;
    counted = λ is s x at. omega (arith, d, c.counted is s x (ap (λ z. Rattle.std.specs.FinMap.get z s) (sym a) ∙ at));
  }

  pub open-goes : (n : Node) (word : ℕ) → IsCounted n → Goes i held n (open_node n word)
  open-goes n word counted = goes-else n (add_end m word B n.number) _ (goes-else n (add_router m (new_end word B n.number)) _
      (goes-add i held n m (new_end word B n.number) first counted (new-is word B n.number)) refl refl refl refl refl)
      refl refl refl refl refl
    where
      m : Node
      m = add_end n word A n.number

      first : Goes i held n m
      first = goes-else n (add_router n (new_end word A n.number)) m
          (goes-add i held n n (new_end word A n.number) (goes-by i held n n (changes-itself i held n)) counted (new-is word A n.number))
          refl refl refl refl refl

  -- hands
  make-goes : (n m : Node) (sender : ℕ) (ds : List Descriptor) → Goes i held n m → IsCounted n → Goes i held n (make_terminals m sender ds)
  make-goes n m sender [] c counted = c
  make-goes n m sender (d ∷ ds) c counted = make-goes n (add_router m (from_descriptor d sender)) sender ds
      (goes-add i held n m (from_descriptor d sender) c counted (record { untried = refl; terminal = refl; unclosed = refl })) counted

  accept-left : (r : Router) (from_outward : Bool) (n : ℕ) (item : Item) → (from_outward ≡ false → is_proxy r ≡ true) →
      IsLeft i held r (accept r from_outward n item)
  unfolding accept
  accept-left r true n item p = roused r _ refl refl refl refl refl refl refl refl refl (λ h. h)
  accept-left r false n item p = roused r _ refl refl refl refl refl refl refl refl refl (λ h. absurd (done-proxy r h (p refl)))

  -- the link that a message of a bypass takes away is held
  abbrev pub NeedsHeld : Message → Type 0
  NeedsHeld (messages.AcceptBypass old side fresh length) = old ≡ i → held ≡ true
  NeedsHeld other = Unit {0}

  -- the outward primary link becomes a decaying one, for a new central link
  relinked : (r y : Router) → y.end ≡ r.end → y.tried ≡ false → y.inward ≡ r.inward → y.outward.decaying ≡ r.outward.primary →
      (p : LinkEnd) → y.outward.primary ≡ Some p → is_central p.link ≡ true → IsOff i held r → IsAside i held r y
  unfolding has_link is_central
  relinked r y end tried inn dec p prim central off = record {
    untried = λ s h on. false-true (sym tried ∙ h);
    off = off;
    outward = λ n c h. or_left (has_link r.outward.primary (Peripheral n c) B) (has_link r.outward.decaying (Peripheral n c) B)
        (has-link-same y.outward.decaying r.outward.primary (Peripheral n c) B dec
        (or_second (has_link y.outward.primary (Peripheral n c) B) (has_link y.outward.decaying (Peripheral n c) B) h (not_primary n c
        (has_link y.outward.primary (Peripheral n c) B) refl)));
    inward = λ l s h. subst (λ e. inward_has (record y { inward = e }) l s ≡ true) inn h;
    end = end;
    terminal = λ h. ap is_none (sym inn) ∙ h;
  }
    where
      not_primary : (n c : ℕ) (d : Bool) → has_link y.outward.primary (Peripheral n c) B ≡ d → has_link y.outward.primary
          (Peripheral n c) B ≡ false
      not_primary n c false e = e
      not_primary n c true e =
          let t : HasEnd y.outward.primary (Peripheral n c) B = has_link-tells y.outward.primary (Peripheral n c) B e in
          let same : p ≡ t.end = same_Some p t.end (sym prim ∙ t.there) in
          absurd (peripheral (Peripheral n c) refl (ap is_central (sym t.on_link ∙ ap (λ z. z.link) (sym same)) ∙ central))
        where
          peripheral : (l : LinkId) → l ≡ Peripheral n c → is_central l ≡ true → ⊥
          peripheral l q h = let z : is_central (Peripheral n c) ≡ true = subst (λ l. is_central l ≡ true) q h in cc

  -- a peripheral link isn't the word's
  bypass-off : (r : Router) (link : LinkId) (side : Side) (a : LinkEnd) → r.outward.primary ≡ Some a → a.link ≡ Central i → (b : LinkEnd) →
      r.outward.primary ≡ Some b → b.link ≡ link → fits_bypass_peer r link side ≡ true → ⊥
  unfolding is_central
  bypass-off r link side a p e b q f fit =
      let same : a ≡ b = same_Some a b (sym p ∙ q) in
      let is : Central i ≡ link = sym e ∙ ap (λ z. z.link) same ∙ f in
      let apart : not (is_central link) ≡ true = and_first _ _ (and_second _ _ fit) in
      let z : not (is_central (Central i)) ≡ true = subst (λ l. not (is_central l) ≡ true) (sym is) apart in cc

  -- the proxy learns its lengths
  told_left : (r : Router) (in_length out_length : ℕ) (o : Option Edge) → r.inward ≡ o → IsLeft i held r
      (stop_proxying r in_length out_length)
  unfolding has_link
  told_left r in_length out_length o e = record {
    primary = refl;
    decaying = λ l s h. h;
    inward = λ l s h. inward l s o e h;
    proxy = proxy o e;
    still = λ h. still o e h;
    tried = λ h. cc;
    marked = refl;
    dry = refl;
    spare = refl;
    holds = refl;
    wake = refl;
    end = refl;
    done = λ h. done o e h;
  }
    where
      done : (o : Option Edge) → r.inward ≡ o → is_done r ≡ true → is_done (stop_proxying r in_length out_length) ≡ true
      done None e h = grind (arith, e, h)
      done (Some x) e h = absurd (grind (arith, e, h))

      proxy : (o : Option Edge) → r.inward ≡ o → is_some (stop_proxying r in_length out_length).inward ≡ is_some r.inward
      proxy None e = grind (arith, e)
      proxy (Some x) e = grind (arith, e)

      inward : (l : LinkId) (s : Side) (o : Option Edge) → r.inward ≡ o → inward_has (stop_proxying r in_length out_length) l s ≡ true →
          inward_has r l s ≡ true
      inward l s None e h = grind (arith, e, h)
      inward l s (Some x) e h = grind (arith, e, h)

      still : (o : Option Edge) → r.inward ≡ o → decays r ≡ false → decays (stop_proxying r in_length out_length) ≡ false
      still None e h = grind (arith, e, h)
      still (Some x) e h = grind (arith, e, h)

  handle-goes : (n : Node) (sender : ℕ) (m : Message) (source : Option ℕ) → IsCounted n → NeedsHeld m → fits n sender m source ≡ true → Goes i held n (handle n sender m)
  unfolding handle on_found fits passes_at
  handle-goes n sender (messages.Item link side number item moves) source counted held_ h = go (link_router n link side) refl
    where
      go : (o : Option Found) → link_router n link side ≡ o → Goes i held n (on_found n o (take_in n sender link side number item moves))
      go None e = goes-by i held n n (changes-itself i held n)
      go (Some f) e = make-goes n _ sender moves (goes-by i held n _ (told-changes n f.serial f.router _ (found_tells n _ f e).0
          (accept-left f.router (outward_has f.router link side) number item
          (λ z. inward-proxy f.router link side (found_tells n _ f e).1 z)))) counted
  handle-goes n sender (messages.BypassPeer link side old target fresh) source counted held_ h = go (link_router n link side) refl
    where
      off : (r : Router) → fits_bypass_peer r link side ≡ true → IsOff i held r
      off r fit s on =
          let e : HasEnd r.outward.primary (Central i) s = has_link-tells r.outward.primary (Central i) s on in
          let a : has_link r.outward.primary link side ≡ true = and_first _ _ fit in
          let d : HasEnd r.outward.primary link side = has_link-tells r.outward.primary link side a in
          absurd (bypass-off r link side e.end e.there e.on_link d.end d.there d.on_link fit)

      go : (o : Option Found) → link_router n link side ≡ o → Goes i held n
          (on_found n o (λ s r. tell (with_router n s (bypass_peer r target fresh)) (Some (accept_message r old target fresh))))
      go None e = goes-by i held n n (changes-itself i held n)
      go (Some f) e = goes-by i held n _ (changes-tell i held n _ (Some (accept_message f.router old target fresh))
          (changes-with i held n n f.serial f.router (bypass_peer f.router target fresh) (changes-itself i held n) (found_tells n _ f e).0
          (follows-aside i held n.number n.next_peripheral f.router _
          (relinked f.router _ refl refl refl refl (central_end fresh f.router.end.side target) refl
          (central-is fresh f.router.end.side target) (off f.router (fit f e))))))
        where
          fit : (f : Found) → link_router n link side ≡ Some f → fits_bypass_peer f.router link side ≡ true
          fit f e = and_first _ _ (subst (λ o. passes_at o (λ r. fits_bypass_peer r link side &&
              (nat_lt target n.count && not (is_named n (Central fresh) r.end.side))) ≡ true) e h)
  handle-goes n sender (messages.AcceptBypass old side fresh length) source counted held_ h = go (link_router n (Central old) side) refl
    where
      go : (o : Option Found) → link_router n (Central old) side ≡ o → Goes i held n
          (on_found n o (λ s r. tell (with_router n s (accept_bypass r sender side fresh length))
          (stop_message r r.outward.primary old side length)))
      go None e = goes-by i held n n (changes-itself i held n)
      go (Some f) e = goes-by i held n _ (changes-tell i held n _ (stop_message f.router f.router.outward.primary old side length)
          (changes-with i held n n f.serial f.router (accept_bypass f.router sender side fresh length) (changes-itself i held n)
          (found_tells n _ f e).0 (follows-aside i held n.number n.next_peripheral f.router _
          (relinked f.router _ refl refl refl refl (central_end fresh side sender) refl (central-is fresh side sender) off))))
        where
          fit : has_link f.router.outward.primary (Central old) side ≡ true
          fit = and_first _ _ (and_first _ _ (subst
              (λ o. passes_at o (λ r. fits_accept_bypass r old side && not (is_named n (Central fresh) side))
              ≡ true) e (and_first _ _ h)))

          off : IsOff i held f.router
          off s on = held_ (same_Some old i (sym (on-central old side f.router fit) ∙ on-central i s f.router on))
  handle-goes n sender (messages.StopProxying side old in_length out_length) source counted held_ h = go
      (link_router n (Central old) side) refl
    where
      left : (r : Router) → IsLeft i held r (stop_proxying r in_length out_length)
      left r = told_left r in_length out_length r.inward refl

      go : (o : Option Found) → link_router n (Central old) side ≡ o → Goes i held n
          (on_found n o (λ s r. tell (with_router n s (stop_proxying r in_length out_length))
          (will_stop_message (inward_edge r).decaying in_length)))
      go None e = goes-by i held n n (changes-itself i held n)
      go (Some f) e = goes-by i held n _ (changes-tell i held n _ (will_stop_message (inward_edge f.router).decaying in_length)
          (told-changes n f.serial f.router (stop_proxying f.router in_length out_length) (found_tells n _ f e).0 (left f.router)))
  handle-goes n sender (messages.ProxyWillStop link side in_length) source counted held_ h = go (link_router n link side) refl
    where
      left : (r : Router) → IsLeft i held r (proxy_will_stop r in_length)
      left r = record {
        primary = refl;
        decaying = λ l s h. h;
        inward = λ l s h. h;
        proxy = refl;
        still = λ h. h;
        tried = λ h. cc;
        marked = refl;
        dry = refl;
        spare = refl;
        holds = refl;
        wake = refl;
        end = refl;
        done = λ h. h;
      }

      go : (o : Option Found) → link_router n link side ≡ o → Goes i held n
          (on_found n o (λ s r. with_router n s (proxy_will_stop r in_length)))
      go None e = goes-by i held n n (changes-itself i held n)
      go (Some f) e = goes-by i held n _
          (told-changes n f.serial f.router (proxy_will_stop f.router in_length) (found_tells n _ f e).0 (left f.router))
  handle-goes n sender (messages.Flush link side) source counted held_ h = go (link_router n link side) refl
    where
      go : (o : Option Found) → link_router n link side ≡ o → Goes i held n (on_found n o (λ s r. with_router n s (flushed r)))
      go None e = goes-by i held n n (changes-itself i held n)
      go (Some f) e = goes-by i held n _ (told-changes n f.serial f.router (flushed f.router) (found_tells n _ f e).0
          (roused f.router _ refl refl refl refl refl refl refl refl refl (λ h. h)))

  -- a message is delivered
  pub deliver-goes : (n : Node) (sender : ℕ) (m : Message) (source : Option ℕ) → IsCounted n → NeedsHeld m → Goes i held n
      (deliver n sender m source)
  unfolding deliver
  deliver-goes n sender m source counted held_ = goes-else n _ _ (go (fits n sender m source) refl) refl refl refl refl refl
    where
      go : (b : Bool) → fits n sender m source ≡ b → Goes i held n
          (if b then handle n sender m else record n { strays = n.strays ++ m ∷ [] })
      go true e = handle-goes n sender m source counted held_ e
      go false e = goes-by i held n _ (changes-else i held n n _ (changes-itself i held n) refl refl refl (omega arith) refl)
