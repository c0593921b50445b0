-- Records that differ aside: in who owns a word, if the same words are links; in which sides were left, if no fewer are; and in where terminals
-- stand, if the same ends travel. What is said of all else is kept.
use Rattle.ipcz_world.proofs.frames.Roles.{Roles, BegunRecords}
use Rattle.ipcz_world.proofs.frames.RolesKept.{role-kept, keeps-same}
use Rattle.std.specs.Prelude.{◌≡◌, ◌||◌, ℕ, Bool, true, false, cond, Option, Some, None, is_some, option_map, refl}
use Rattle.std.proofs.Common.{arith, sym, ◌∙◌, ap, inl, inr}
use Rattle.std.proofs.lemmas.Bool.{or_left}
use Rattle.ipcz_word.specs.SideSets.{Sides}
use Rattle.ipcz_world.specs.Routes.{source as source'}
use Rattle.ipcz_world.proofs.Vocabulary.{Side, B, End, LinkId, Central, Peripheral, Descriptor, World, Key, Books, Records, Owner}
use Rattle.ipcz_world.proofs.Vocabulary.{Weight, names_end, is_linked, is_recorded, inner_link, bypass_of, side_length, side_router, side_node}
use Rattle.ipcz_world.proofs.Vocabulary.{side_end, view, view_by, is_gone, is_awaited, next_sent, taking_queue, standing_router, across_side}
use Rattle.ipcz_world.proofs.Vocabulary.{inner_of, is_nowhere, Terminal, Counts, Stands, Stages, Controls, of_bypass}
use Rattle.ipcz_world.proofs.Vocabulary.{control_weight, Terminals, Items, Order, ProxyNumbers, FreshNumbers, BypassRecords, BooksKept, Conserved}
use Rattle.ipcz_world.proofs.Vocabulary.{HeldOnce, EndPlaces, opposite, terminal_descriptor, bypass_length, length_by, is_left, Moves, LiveLinks}
use Rattle.ipcz_world.proofs.Vocabulary.{move_weight, may_have_sent, awaited_view}
use Rattle.ipcz_world.specs.Records.{is_unclaimed, Fresh, Linked}
use Rattle.ipcz_world.proofs.frames.OfRecords.{in_places}
use Rattle.ipcz_world.proofs.frames.Touching.{either}
use Rattle.ipcz_world.proofs.frames.SourceWeights.{places-sources}
use Rattle.ipcz_world.proofs.frames.BypassesKept.{bypasses-alike, same_bypass}

-- the records with other owners of words, other sides that were left, and other places of terminals
abbrev pub aside : Records → (ℕ → Owner) → (ℕ → Sides) → (Key → Sides) → (End → Terminal) → Records
aside g owner central peripheral terminal = record g {
  owner = owner;
  central = λ i. record (g.central i) { left = central i };
  peripheral = λ p. record (g.peripheral p) { left = peripheral p };
  terminal = terminal;
}

-- words that were links are so still, and no others; no fewer sides are left; and the same ends are nowhere or travel
pub record IsAside (g : Records) (owner : ℕ → Owner) (central : ℕ → Sides) (peripheral : Key → Sides) (terminal : End → Terminal)
    : Type 0 where
  pub linked : (i : ℕ) → is_linked (owner i) ≡ is_linked (g.owner i)
  pub more : (l : LinkId) (s : Side) → is_left g l s ≡ true → is_left (aside g owner central peripheral terminal) l s ≡ true
  pub nowhere : (e : End) → is_nowhere (terminal e) ≡ is_nowhere (g.terminal e)
  pub descriptor : (e : End) → terminal_descriptor (terminal e) ≡ terminal_descriptor (g.terminal e)
  pub weight : (f : Descriptor → ℕ) (e : End) → move_weight f (terminal e) ≡ move_weight f (g.terminal e)

-- and words are fresh and unclaimed as before
pub record KeepsOwners (g : Records) (owner : ℕ → Owner) : Type 0 where
  pub unclaimed : (i : ℕ) → is_unclaimed (owner i) ≡ is_unclaimed (g.owner i)
  pub fresh : (o i : ℕ) → g.owner i ≡ Fresh o → owner i ≡ Fresh o
  pub link : (i : ℕ) → g.owner i ≡ Linked → owner i ≡ Linked

module _ {g : Records} {owner : ℕ → Owner} {central : ℕ → Sides} {peripheral : Key → Sides} {terminal : End → Terminal}
    (is : IsAside g owner central peripheral terminal) where
  abbrev h : Records
  h = aside g owner central peripheral terminal

  module _ (v : World) where
    pub recorded-aside : (l : LinkId) → is_recorded v h l ≡ is_recorded v g l
    unfolding is_recorded
    recorded-aside (Central j) = is.linked j
    recorded-aside (Peripheral n s) = refl

    pub view-aside : (l : LinkId) (s : Side) → view v h l s ≡ view v g l s
    unfolding view_by side_router side_end
    view-aside l s = go (side_router g l s)
      where
        go : (o : Option Key) → view_by v h l s o ≡ view_by v g l s o
        go None = ap (awaited_view l) (is.descriptor (side_end g l s))
        go (Some q) = refl

    pub counts-aside : KeepsOwners g owner → Counts v g → Counts v h
    unfolding side_router side_node
    counts-aside keeps law = record {
      node = law.node;
      nodes = law.nodes;
      claimed = law.claimed;
      unclaimed = λ i. keeps.unclaimed i ∙ law.unclaimed i;
      on_node = law.on_node;
      serial = law.serial;
      side_serial = λ l s k a. law.side_serial l s k (sym (recorded-aside l) ∙ a);
      side_on_node = λ l s a. law.side_on_node l s (sym (recorded-aside l) ∙ a);
      hand = law.hand;
      hand_from = law.hand_from;
      in_hand = law.in_hand;
    }

    pub roles-aside : BypassRecords v g → BegunRecords g → Stands v g → Roles v g → Roles v h
    unfolding side_router side_node side_end bypass_of
    roles-aside bypasses begun stands law q z at = role-kept (record {
      recorded = λ l e. recorded-aside l ∙ e;
      router = λ l s k a e. e;
      node = λ l s a. refl;
      end = λ l s a. refl;
      fresh = λ o b. refl;
      inner = λ o b. refl;
      stage = λ o. omega arith;
    }) bypasses begun.begun_stage (keeps-same q (λ o. refl) (λ k. refl) (λ l. refl) (λ o b. refl) stands) z (law q z at)

    pub bypasses-aside : KeepsOwners g owner → BypassRecords v g → BypassRecords v h
    bypasses-aside keeps law = bypasses-alike {w = v}
        (record {
          same = λ o. same_bypass (g.bypass o);
          central = λ i. refl;
          peripheral = λ p. refl;
          linked = is.linked;
          link = keeps.link;
          fresh = keeps.fresh;
          recorded = λ p. recorded-aside (inner_link p);
        })
        law

    pub live-aside : LiveLinks g → LiveLinks h
    live-aside law = record {
      one_live = λ i j a c. law.one_live i j (sym (is.linked i) ∙ a) (sym (is.linked j) ∙ c);
      none_live = λ o i a c. law.none_live o i a (sym (is.linked i) ∙ c);
      one_begun = law.one_begun;
    }

    pub stages-aside : Stages v g → Stages v h
    unfolding side_router side_end
    stages-aside law i = let is = law i in assumption is

    pub moves-aside : Moves v g → Moves v h
    unfolding side_router side_node side_end
    moves-aside law = record {
      ends = law.ends;
      within = law.within;
      recorded = λ from to j n m d u e. recorded-aside d.link ∙ law.recorded from to j n m d u e;
      peripheral = law.peripheral;
      sender = law.sender;
      receiver = law.receiver;
      awaited = law.awaited;
      end = law.end;
      one = λ d f. law.one d f ∙ sym (is.weight f d);
      moving = λ p a c. ap (option_map (λ (d : Descriptor). d.link)) (is.descriptor (g.peripheral p).end) ∙
          law.moving p (sym (recorded-aside (inner_link p)) ∙ a) c;
    }

    pub controls-aside : Controls v g → Controls v h
    unfolding side_router side_node bypass_of of_bypass control_weight
    controls-aside law = record {
      control = law.control;
      will_stop = law.will_stop;
      behind = law.behind;
      flush_central = law.flush_central;
      flush_recorded = λ from to j l s u. recorded-aside l ∙ law.flush_recorded from to j l s u;
      flush_to = law.flush_to;
      flush_from = law.flush_from;
    }

    pub items-aside : Items v g → Items v h
    unfolding side_node side_router side_end length_by bypass_of bypass_length
    items-aside law = record {
      recorded = λ from to j l s n item moves u. recorded-aside l ∙ law.recorded from to j l s n item moves u;
      sender = law.sender;
      receiver = law.receiver;
      below_length = law.below_length;
      was_sent = λ from to i l s n item moves u w e. law.was_sent from to i l s n item moves u w
          (sym (ap (next_sent l (opposite s)) (view-aside l (opposite s))) ∙ e);
      by_sender = λ from to i l s n item moves w. ap may_have_sent (view-aside l (opposite s)) ∙ law.by_sender from to i l s n item moves w;
      sender_gone = λ from to j l s n item moves u e. more l (opposite s)
          (law.sender_gone from to j l s n item moves u (sym (ap is_gone (view-aside l (opposite s))) ∙ e));
      not_passed = λ from to i l s n item moves q w e. law.not_passed from to i l s n item moves q w
          (sym (ap (taking_queue l s) (view-aside l s)) ∙ e);
      behind = λ from to i l s n item moves w e. law.behind from to i l s n item moves w (sym (ap is_awaited (view-aside l s)) ∙ e);
      not_awaited_low = law.not_awaited_low;
      receiver_there = λ from to i l s n item moves w. ap is_gone (view-aside l s) ∙ law.receiver_there from to i l s n item moves w;
    }
      where
        more : (l : LinkId) (s : Side) → (is_some (side_length g l s) || is_left g l s) ≡ true →
            (is_some (side_length g l s) || is_left h l s) ≡ true
        more l s e = elim (either (is_some (side_length g l s)) (is_left g l s) e) [
          | inl a ↦ or_left _ _ a
          | inr a ↦ right (is_some (side_length g l s)) (is_left h l s) (is.more l s a)
        ]
          where
            right : (a c : Bool) → c ≡ true → (a || c) ≡ true
            right true c f = refl
            right false c f = f

    pub order-aside : Order v g → Order v h
    unfolding side_router side_end length_by bypass_of bypass_length
    order-aside law = record {
      current = λ l s u q a d f. law.current l s u q (sym (recorded-aside l) ∙ a)
          (sym (ap (next_sent l (opposite s)) (view-aside l (opposite s))) ∙ d) (sym (ap (taking_queue l s) (view-aside l s)) ∙ f);
      stored = λ l s u q n item a d f. law.stored l s u q n item (sym (recorded-aside l) ∙ a)
          (sym (ap (next_sent l (opposite s)) (view-aside l (opposite s))) ∙ d) (sym (ap (taking_queue l s) (view-aside l s)) ∙ f);
    }

    pub proxy_numbers-aside : ProxyNumbers v g → ProxyNumbers v h
    proxy_numbers-aside law = record {
      out_current = law.out_current;
      out_items = law.out_items;
      in_current = law.in_current;
      in_items = law.in_items;
      across_gone = λ o r a s e. law.across_gone o r a s (sym (ap is_gone (view-aside (Central o) (across_side g o))) ∙ e);
      inner_gone = λ o r a s e. law.inner_gone o r a s (sym (ap is_gone (view-aside (inner_of g o) B)) ∙ e);
      out_finished = law.out_finished;
      in_finished = law.in_finished;
    }

    pub fresh_numbers-aside : FreshNumbers v g → FreshNumbers v h
    unfolding length_by bypass_of bypass_length
    fresh_numbers-aside law q y at = let is = law q y at in record {
      own = is.own;
      comes = is.comes;
      other = λ z p d n c f s e. is.other z p d n c f s (sym (ap standing_router (view-aside p.link (opposite p.side))) ∙ e);
    }

    pub books_kept-aside : {b : Books} → BooksKept v b g → BooksKept v b h
    books_kept-aside law = assumption law

    pub places-aside : (f : Weight) → in_places f h v ≡ in_places f g v
    unfolding source'
    places-aside f = places-sources f g h v (λ l s. refl)

    pub conserved-aside : {b : Books} → Conserved v b g → Conserved v b h
    conserved-aside law = record {
      exact = λ d f. places-aside _ ∙ law.exact d f;
      read_put = law.read_put;
      prefix = law.prefix;
      gone_closed = law.gone_closed;
      reach = law.reach;
      current = law.current;
      sink = law.sink;
      move_out = law.move_out;
      move_in = law.move_in;
      move_open = law.move_open;
      unopened_put = λ d e. law.unopened_put d (sym (is.nowhere d) ∙ e);
      unopened_got = λ d e. law.unopened_got d (sym (is.nowhere d) ∙ e);
    }

    abbrev missing : Bool → ℕ
    missing c = cond c 0 1

    pub held_once-aside : {b : Books} → HeldOnce v b g → HeldOnce v b h
    held_once-aside law = record {
      once = λ d. let n : cond (is_nowhere (terminal d)) 0 1 ≡ cond (is_nowhere (g.terminal d)) 0 1 = ap missing (is.nowhere d) in
          omega (arith, law.once d, places-aside (names_end d), n);
      moves_in_parcel = law.moves_in_parcel;
    }

-- where terminals stand as before
module _ {g : Records} {owner : ℕ → Owner} {central : ℕ → Sides} {peripheral : Key → Sides}
    (is : IsAside g owner central peripheral g.terminal) (v : World) where
  abbrev u : Records
  u = aside g owner central peripheral g.terminal

  pub terminals-aside : Terminals v g → Terminals v u
  unfolding side_end
  terminals-aside law = record {
    each = λ q z at. let is = law.each q z at in record { terminal = is.terminal; opened = is.opened };
    stands = law.stands;
    link_opened = λ l s a. law.link_opened l s (sym (recorded-aside is v l) ∙ a);
    both = law.both;
    unopened = λ e a. law.unopened e (sym (is.linked e.pair) ∙ a);
    other_pair = λ e a f. law.other_pair e (sym (is.linked e.pair) ∙ a) f;
  }

  pub end_places-aside : EndPlaces v g → EndPlaces v u
  end_places-aside law = record {
    held = law.held;
    pending = law.pending;
    each = λ q z at. let is = law.each q z at in record { out = is.out; inn = is.inn };
    within = law.within;
  }

-- the sides that were left
abbrev pub central_left : Records → ℕ → Sides
central_left g i = (g.central i).left

abbrev pub peripheral_left : Records → Key → Sides
peripheral_left g p = (g.peripheral p).left

module _ {g : Records} {owner : ℕ → Owner} {terminal : End → Terminal} (is : IsAside g owner (central_left g) (peripheral_left g) terminal)
    (v : World) where
  abbrev x : Records
  x = aside g owner (central_left g) (peripheral_left g) terminal

  pub stands-aside : Stands v g → Stands v x
  unfolding side_router is_left bypass_of
  stands-aside law = record {
    central = λ j s q a d n e. law.central j s q (sym (is.linked j) ∙ a) d n e;
    awaited = λ j s a e. law.awaited j s (sym (is.linked j) ∙ a) e;
    awaited_stage = λ j s o a e d. law.awaited_stage j s o (sym (is.linked j) ∙ a) e d;
    awaited_side = λ j s o a e d. law.awaited_side j s o (sym (is.linked j) ∙ a) e d;
    proxy = λ p a e n. law.proxy p (sym (recorded-aside is v (inner_link p)) ∙ a) e n;
    inner = λ p q a e n d. law.inner p q (sym (recorded-aside is v (inner_link p)) ∙ a) e n d;
    by_begun = law.by_begun;
    by_inner = law.by_inner;
    left_recorded = λ l s h. recorded-aside is v l ∙ law.left_recorded l s h;
    left_known = law.left_known;
    left_gone = law.left_gone;
    left_live = law.left_live;
  }
