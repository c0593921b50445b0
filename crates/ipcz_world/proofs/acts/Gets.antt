-- A caller's get and a sink's discard keep the invariant with the books after them.
use Rattle.ipcz_world.proofs.Vocabulary.{End, Item, opposite_end, same_end, has_end, current_item, Router, is_terminal, is_possible, output_of, Node}
use Rattle.ipcz_world.proofs.Vocabulary.{Found, terminal_of, with_router, router_in, ends_in, commit, World, Key, node_at, router_at, set_node}
use Rattle.ipcz_world.proofs.Vocabulary.{after_act, Books, read, is_closed, Records, Weight, in_router, names_end, times, Inv, Gone, leaves_by}
use Rattle.ipcz_world.proofs.Vocabulary.{is_mark, is_gone_item, drop_item, item_passes, has_gone_next, Parcel, Mark, is_sink, apply, discard_output}
use Rattle.ipcz_world.proofs.Vocabulary.{on_found, on_router, holds_end, get_refusal, get_at_router, get_node, commit_router, keep_or_drop, send}
use Rattle.ipcz_world.proofs.Vocabulary.{after_router_act, touch}
use Rattle.ipcz_world.proofs.frames.OfRecords.{holds, held_times, holds_times}
use Rattle.std.specs.Prelude.{◌≡◌, ◌⊎◌, ◌≤◌, ◌<◌, ◌+◌, ℕ, zero, suc, true, false, cond, not, Option, Some, None, is_some, List, []}
use Rattle.std.specs.Prelude.{◌∷◌, ◌++◌, length, take, map, slice_get, refl}
use Rattle.std.specs.Prelude.{Bool, ◌||◌}
use Rattle.ipcz_world.proofs.frames.Touching.{either}
use Rattle.std.proofs.Common.{arith, ap, subst, ◌∙◌, sym, inl, inr}
use Rattle.ipcz_base.specs.declared.parcel.Parcel as parcels
use Rattle.ipcz_router.specs.Calls.{take_item, item_refusal, router_get_refusal}
use Rattle.ipcz_router.specs.declared.act.RouterAct.TheVariants.{Discard}
use Rattle.ipcz_node.specs.Node.{with_ends}
use Rattle.ipcz_node.specs.Calls.{ends_found}
use Rattle.ipcz_node.specs.declared.act.Act.TheVariants.{Router as OfRouter}
use Rattle.ipcz_world.specs.Books.{add_got, add_gone, after_discard}
use Rattle.ipcz_world.proofs.frames.Weighing.{in_router-is, in_popped}
use Rattle.ipcz_world.proofs.frames.Booking.{in_router-within, length-more, more_same, more_here}
use Rattle.ipcz_world.proofs.facts.Finding.{IsTerminalOf, terminal_tells}
use Rattle.ipcz_world.proofs.frames.Holding.{times-append, times-with_ends, holds-with_ends, has-append, times_held-at}
use Rattle.ipcz_world.proofs.frames.Calling.{IsCall, call-touched, call-hands, call-flows, call-places, call-held_more, call-pending_more}
use Rattle.ipcz_world.proofs.frames.Calling.{call-times, held_unclosed, placed_most}
use Rattle.ipcz_world.proofs.acts.Reading.{IsRead, inv-read_by}
use Rattle.ipcz_world.proofs.acts.Puts.{router_found, passes_by, found_by, not_false}
use Rattle.ipcz_world.proofs.facts.Tests.{and_first, and_second}
use Rattle.ipcz_world.proofs.facts.Tests.{not_both}

take-next : {X : Type 0} (k : ℕ) (xs : List X) (x : X) → slice_get xs k ≡ Some x → take (suc k) xs ≡ take k xs ++ x ∷ []
take-next k [] x h = cc
take-next zero (y ∷ xs) x h = let e : y ≡ x = cc in ap (λ z. z ∷ []) e
take-next (suc k) (y ∷ xs) x h = ap (λ t. y ∷ t) (take-next k xs x h)

map-more : (ps : List parcels.Parcel) (p : parcels.Parcel) → map Parcel (ps ++ p ∷ []) ≡ map Parcel ps ++ Parcel p ∷ []
map-more [] p = refl
map-more (q ∷ ps) p = ap (λ t. Parcel q ∷ t) (map-more ps p)

-- an item less in the in queue
read_weight : (f : Weight) (r : Router) (item : Item) → current_item r.in_queue ≡ Some item →
    in_router f (take_item r) + f (opposite_end r.end) r.in_queue.current item ≡ in_router f r
read_weight f r item e = omega (arith, in_router-is f r, in_router-is f (take_item r), in_popped (f (opposite_end r.end)) r.in_queue item e)

drop_weight : (f : Weight) (r : Router) (item : Item) → current_item r.in_queue ≡ Some item →
    in_router f (drop_item r) + f (opposite_end r.end) r.in_queue.current item ≡ in_router f r
drop_weight f r item e = omega (arith, in_router-is f r, in_router-is f (drop_item r), in_popped (f (opposite_end r.end)) r.in_queue item e)

or_right : (a b : Bool) → b ≡ true → (a || b) ≡ true
or_right true b h = refl
or_right false b h = h

is_mark-tells : (item : Item) → is_mark item ≡ true → item ≡ Mark
is_mark-tells (Parcel p) h = cc
is_mark-tells Mark h = refl
is_mark-tells Gone h = cc

-- a mark that a sink drops is noted
pub noted_by : (r : Router) (item : Item) → current_item r.in_queue ≡ Some item →
    item_passes is_mark (current_item r.in_queue) ≡ is_mark item
unfolding item_passes
noted_by r item at = rw at refl

module _ (w : World) (b : Books) (g : Records) (k : Key) (r : Router) (law : Inv w b g) (here : router_at w k ≡ Some r)
    (t : is_terminal r ≡ true) where
  on_node : k.node < w.count
  on_node = law.counts.on_node k r here

  -- a parcel is got
  module _ (p : parcels.Parcel) (at : current_item r.in_queue ≡ Some (Parcel p)) (is_held : holds r.end (node_at w k.node).held ≡ true)
    where
      abbrev x : Node
      x = record (with_router (node_at w k.node) k.serial (take_item r)) { held = with_ends (node_at w k.node).held p.ends }

      abbrev got : End → List parcels.Parcel
      got = λ d. cond (same_end d r.end) (b.got r.end ++ p ∷ []) (b.got d)

      call : IsCall w k r (take_item r) x
      call = record {
        here = here;
        alike = record {
          node = refl;
          nodes = refl;
          opening = refl;
          next_router = refl;
          next_peripheral = refl;
          strays = refl;
        };
        routers = refl;
        boxes = refl;
        hand = refl;
      }

      unclosed : is_closed b r.end ≡ false
      unclosed = held_unclosed w b g r.end law.held_once (omega (
        arith,
        holds_times r.end (node_at w k.node).held is_held,
        times_held-at w k.node r.end on_node,
      ))

      -- the parcel's ends aren't held, since they are in the parcel
      room : (d : End) → times d p.ends + held_times d (node_at w k.node).held ≤ 1
      room d = omega (
        arith,
        placed_most w b g d law.held_once,
        in_router-within (names_end d) g w k r on_node here,
        read_weight (names_end d) r (Parcel p) at,
        times_held-at w k.node d on_node,
      )

      none_gone : b.gone r.end ≡ 0
      none_gone = law.conserved.gone_closed r.end unclosed

      got_here : got r.end ≡ b.got r.end ++ p ∷ []
      got_here = more_here (b.got r.end ++ p ∷ []) (b.got r.end) r.end

      held : (m : ℕ) (d : End) → holds d (node_at (set_node w k.node x) m).held ≡ true →
          (holds d (node_at w m).held ≡ true) ⊎ ((m ≡ k.node) × (has_end d p.ends ≡ true))
      held m d h = elim (call-held_more w k r (take_item r) x call m d h) [
        | inl o ↦ inl o
        | inr o ↦ elim (holds-with_ends d p.ends (node_at w k.node).held o.1) [
          | inl a ↦ inl (ap (λ j. holds d (node_at w j).held) o.0 ∙ a)
          | inr a ↦ inr (o.0, a)
        ]
      ]

      pending : (m : ℕ) (d : End) → has_end d (node_at (set_node w k.node x) m).pending ≡ true →
          (has_end d (node_at w m).pending ≡ true) ⊎ ((m ≡ k.node) × (has_end d p.ends ≡ true))
      pending m d h = elim (call-pending_more w k r (take_item r) x call m d h) [
        | inl o ↦ inl o
        | inr o ↦ inl (ap (λ j. has_end d (node_at w j).pending) o.0 ∙ o.1)
      ]

      prefix : slice_get (b.put (opposite_end r.end)) (read b r.end) ≡ Some (Parcel p) →
          take (length (b.got r.end)) (b.put (opposite_end r.end)) ≡ map Parcel (b.got r.end) →
          take (length (got r.end)) (b.put (opposite_end r.end)) ≡ map Parcel (got r.end)
      prefix next was =
          let all : read b r.end ≡ length (b.got r.end) = omega (arith, none_gone) in
          let len : length (got r.end) ≡ suc (length (b.got r.end)) = omega (arith, ap length got_here, length-more (b.got r.end) p) in
          ap (λ n. take n (b.put (opposite_end r.end))) len
          ∙ take-next (length (b.got r.end)) (b.put (opposite_end r.end)) (Parcel p)
          (ap (slice_get (b.put (opposite_end r.end))) (sym all) ∙ next)
          ∙ ap (λ z. z ++ Parcel p ∷ []) was ∙ sym (map-more (b.got r.end) p) ∙ ap (map Parcel) (sym got_here)

      is_got : IsRead w (set_node w k.node x) b g k r (Parcel p) r.mark_dropped got b.gone
      is_got = record {
        touched = call-touched w k r (take_item r) x call;
        noted = λ h. inl h;
        keeps = λ h. h;
        notes = λ c h. absurd cc;
        sink = λ h. and_second (is_terminal r) r.closed ((law.shape k r here).dropped_sink h);
        terminal = t;
        item_is = at;
        hands = call-hands w k r (take_item r) x call;
        flows = call-flows w k r (take_item r) x call;
        held = held;
        pending = pending;
        times = λ d. omega (
          arith,
          call-times w k r (take_item r) x call d on_node,
          times-with_ends p.ends (node_at w k.node).held d (room d),
        );
        places = λ f. omega (arith, call-places w k r (take_item r) x call f g on_node, read_weight f r (Parcel p) at);
        read_here = omega (arith, ap length got_here, length-more (b.got r.end) p);
        got_other = λ e ne. more_same b.got (b.got r.end ++ p ∷ []) e r.end ne;
        gone_other = λ e ne. refl;
        prefix_here = prefix;
        gone_closed = λ h. none_gone;
      }

      pub inv-got_at : Inv (set_node w k.node (record (with_router (node_at w k.node) k.serial (take_item r))
          { held = with_ends (node_at w k.node).held p.ends })) (add_got b r.end p) g
      inv-got_at = inv-read_by w (set_node w k.node x) b g k r (Parcel p) r.mark_dropped got b.gone law is_got

  -- a sink drops an item
  module _ (item : Item) (at : current_item r.in_queue ≡ Some item) (sink : r.closed ≡ true) where
    abbrev z : Node
    z = record (with_router (node_at w k.node) k.serial (drop_item r)) { pending = (node_at w k.node).pending ++ ends_in item }

    abbrev gone : End → ℕ
    gone = λ d. cond (same_end d r.end) (b.gone r.end + 1) (b.gone d)

    drop_call : IsCall w k r (drop_item r) z
    drop_call = record {
      here = here;
      alike = record {
        node = refl;
        nodes = refl;
        opening = refl;
        next_router = refl;
        next_peripheral =
            refl;
        strays = refl;
      };
      routers = refl;
      boxes = refl;
      hand = refl;
    }

    gone_here : gone r.end ≡ b.gone r.end + 1
    gone_here = more_here (b.gone r.end + 1) (b.gone r.end) r.end

    is_closed_here : is_closed b r.end ≡ true
    is_closed_here = sym (law.conserved.sink k r here t) ∙ sink

    now_held : (m : ℕ) (d : End) → holds d (node_at (set_node w k.node z) m).held ≡ true →
        (holds d (node_at w m).held ≡ true) ⊎ ((m ≡ k.node) × (has_end d (ends_in item) ≡ true))
    now_held m d h = elim (call-held_more w k r (drop_item r) z drop_call m d h) [
      | inl o ↦ inl o
      | inr o ↦ inl (ap (λ j. holds d (node_at w j).held) o.0 ∙ o.1)
    ]

    now_pending : (m : ℕ) (d : End) → has_end d (node_at (set_node w k.node z) m).pending ≡ true →
        (has_end d (node_at w m).pending ≡ true) ⊎ ((m ≡ k.node) × (has_end d (ends_in item) ≡ true))
    now_pending m d h = elim (call-pending_more w k r (drop_item r) z drop_call m d h) [
      | inl o ↦ inl o
      | inr o ↦ elim (has-append d (node_at w k.node).pending (ends_in item) o.1) [
        | inl a ↦ inl (ap (λ j. has_end d (node_at w j).pending) o.0 ∙ a)
        | inr a ↦ inr (o.0, a)
      ]
    ]

    is_dropped : IsRead w (set_node w k.node z) b g k r item (r.mark_dropped || item_passes is_mark (current_item r.in_queue)) b.got gone
    is_dropped = record {
      touched = call-touched w k r (drop_item r) z drop_call;
      noted = λ h. elim (either r.mark_dropped (item_passes is_mark (current_item r.in_queue)) h) [
        | inl a ↦ inl a
        | inr a ↦ inr (is_mark-tells item (sym (noted_by r item at) ∙ a))
      ];
      keeps = λ h. rw h refl;
      notes = λ c h. or_right r.mark_dropped (item_passes is_mark (current_item r.in_queue)) (noted_by r item at ∙ ap is_mark h);
      sink = λ h. sink;
      terminal = t;
      item_is = at;
      hands = call-hands w k r (drop_item r) z drop_call;
      flows = call-flows w k r (drop_item r) z drop_call;
      held = now_held;
      pending = now_pending;
      times = λ d. omega (
        arith,
        call-times w k r (drop_item r) z drop_call d on_node,
        times-append d (node_at w k.node).pending (ends_in item),
      );
      places = λ f. omega (arith, call-places w k r (drop_item r) z drop_call f g on_node, drop_weight f r item at);
      read_here = omega (arith, gone_here);
      got_other = λ e ne. refl;
      gone_other = λ e ne. more_same b.gone (b.gone r.end + 1) e r.end ne;
      prefix_here = λ next was. was;
      gone_closed = λ h. absurd (not_both (is_closed b r.end) is_closed_here h);
    }

    pub inv-dropped_at : Inv (set_node w k.node (record (with_router (node_at w k.node) k.serial (drop_item r))
        { pending = (node_at w k.node).pending ++ ends_in item })) (add_gone b r.end) g
    inv-dropped_at = inv-read_by w (set_node w k.node z) b g k r item (r.mark_dropped || item_passes is_mark (current_item r.in_queue)) b.got gone law
        is_dropped

parcel_of : (o : Option Item) → item_refusal o ≡ None → (p : parcels.Parcel) × (o ≡ Some (Parcel p))
unfolding item_refusal
parcel_of None h = cc
parcel_of (Some (Parcel p)) h = (p, refl)
parcel_of (Some Mark) h = cc
parcel_of (Some Gone) h = cc

-- what a get finds, if it isn't refused
pub record IsGet (n : Node) (at : End) : Type 0 where
  pub found : Found
  pub parcel : parcels.Parcel
  pub held : holds at n.held ≡ true
  pub is_found : terminal_of n at ≡ Some found
  pub item : current_item found.router.in_queue ≡ Some (Parcel parcel)

pub get_tells : (n : Node) (at : End) → get_refusal n at ≡ None → IsGet n at
unfolding get_refusal
get_tells n at h =
    let a = passes_by (not (holds_end n at)) _ _ h in let f = found_by (terminal_of n at) router_get_refusal a.1 in let p =
    parcel_of (current_item f.0.router.in_queue) f.2 in
    record { found = f.0; parcel = p.0; held = not_false (holds_end n at) a.0; is_found = f.1; item = p.1 }

-- a get that isn't refused
pub inv-get : (w : World) (b : Books) (g : Records) (n : ℕ) (at : End) → Inv w b g → (is : IsGet (node_at w n) at) →
    Inv (set_node w n (get_node (node_at w n) at)) (add_got b at is.parcel) g
unfolding on_found ends_found
inv-get w b g n at law is =
    let f = is.found in let k : Key = record { node = n; serial = f.serial } in
    let t : IsTerminalOf (node_at w n) at f.serial f.router = terminal_tells (node_at w n) at f is.is_found in
    let done = inv-got_at w b g k f.router law (router_found w n f.serial f.router t.here) t.terminal is.parcel is.item
    (ap (λ e. holds e (node_at w n).held) t.end ∙ is.held) in
    subst (λ o. Inv (set_node w n (on_found (node_at w n) o (get_at_router (node_at w n)))) (add_got b at is.parcel) g) (sym is.is_found)
    (subst (λ i. Inv (set_node w n (record (with_router (node_at w n) f.serial (take_item f.router))
    { held = with_ends (node_at w n).held (ends_found i) })) (add_got b at is.parcel) g) (sym is.item)
    (subst (λ e. Inv (set_node w n (record (with_router (node_at w n) f.serial (take_item f.router))
    { held = with_ends (node_at w n).held is.parcel.ends })) (add_got b e is.parcel) g) t.end done))

-- the computed discard is the update
pub acted-discard : (w : World) (n s : ℕ) (r : Router) (item : Item) → router_at w (record { node = n; serial = s }) ≡ Some r →
    current_item r.in_queue ≡ Some item → is_gone_item item ≡ false →
    after_act w n (OfRouter s Discard) ≡ set_node w n (record (with_router (node_at w n) s (drop_item r))
    { pending = (node_at w n).pending ++ ends_in item })
unfolding after_act after_router_act touch commit on_router commit_router keep_or_drop leaves_by apply output_of discard_output send router_at
    item_passes
acted-discard w n s r item here at other = let inside : router_in (node_at w n) s ≡ Some r = here in rw (here, inside, at, other) refl

some_item : (o : Option Item) → is_some o ≡ true → (item : Item) × (o ≡ Some item)
some_item None h = cc
some_item (Some item) h = (item, refl)

-- a sink's discard that is possible, of another item than Gone
pub inv-discard : (w : World) (b : Books) (g : Records) (n s : ℕ) (r : Router) → Inv w b g →
    router_at w (record { node = n; serial = s }) ≡ Some r → is_possible r Discard ≡ true → has_gone_next r ≡ false →
    Inv (after_act w n (OfRouter s Discard)) (after_discard b (router_at w (record { node = n; serial = s }))) g
unfolding is_possible after_discard item_passes
inv-discard w b g n s r law here can other =
    let sink = and_first (is_sink r) (is_some (current_item r.in_queue)) can in let item =
    some_item (current_item r.in_queue) (and_second (is_sink r) (is_some (current_item r.in_queue)) can) in
    let done = inv-dropped_at w b g (record { node = n; serial = s }) r law here (and_first (is_terminal r) r.closed sink) item.0 item.1
    (and_second (is_terminal r) r.closed sink) in
    subst (λ o. Inv (after_act w n (OfRouter s Discard)) (after_discard b o) g) (sym here)
    (subst (λ v. Inv v (add_gone b r.end) g) (sym (acted-discard w n s r item.0 here item.1 (sym (ap (item_passes is_gone_item) item.1) ∙ other))) done)
