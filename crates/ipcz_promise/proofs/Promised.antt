-- Each step keeps the promise: its reply is one that the plain machine may give, and the accounts go on as that says.
use Rattle.std.specs.Prelude.{◌≡◌, ◌≤◌, ◌<◌, ◌+◌, ℕ, Bool, true, false, cond, not, ◌&&◌, ◌||◌, nat_eq, nat_lt, if◌then◌else◌, Option, Some}
use Rattle.std.specs.Prelude.{None, List, [], ◌∷◌, ◌++◌, length, slice_get, refl}
use Rattle.std.proofs.Common.{arith, ap, subst, ◌∙◌, sym, inl, inr}
use Rattle.std.proofs.lemmas.Bool.Decides.{nat_tests}
use Rattle.std.proofs.lemmas.Option.{same_Some}
use Rattle.std.specs.FinSet as sets
use Rattle.ipcz_base.specs.declared.parcel.Parcel as parcels
use Rattle.ipcz_base.specs.declared.item.Item.TheVariants.{Parcel, Mark, Gone}
use Rattle.ipcz_base.specs.declared.profile.Profile.{Profile}
use Rattle.ipcz_base.specs.declared.profile.Profile.TheVariants.{Printed, Wide}
use Rattle.ipcz_base.specs.declared.refusal.Refusal.TheVariants as refusals
use Rattle.ipcz_base.specs.Ends.{end_at}
use Rattle.ipcz_base.specs.Limits.{takes_bytes, has_serials}
use Rattle.ipcz_base.specs.Sides.{same_side}
use Rattle.ipcz_node.specs.Node.{holds_end, with_ends, without_ends}
use Rattle.ipcz_node.specs.Calls.{are_too_many, put_refusal, put_node, get_node, get_refusal}
use Rattle.ipcz_node.specs.Calls.{close_refusal, close_node, open_node, serials_refusal}
use Rattle.ipcz_node.specs.declared.happened.Happened.{Happened}
use Rattle.ipcz_node.specs.declared.happened.Happened.TheVariants as events
use Rattle.ipcz_node.proofs.Held.{contains-with_ends, contains-without_ends}
use Rattle.ipcz_world.proofs.Vocabulary.{A, B, Side, End, Refusal, opposite_end, same_end, has_end, Node, Act}
use Rattle.ipcz_world.specs.declared.step.Reply.{Reply}
use Rattle.ipcz_world.proofs.Vocabulary.{World, node_at, set_node, set_word, set_claimed, unless, open_word, Books, read, is_closed, is_linked}
use Rattle.ipcz_world.specs.World.{has_unclaimed_word}
use Rattle.ipcz_world.specs.declared.step.Step.{Step}
use Rattle.ipcz_world.specs.declared.step.Step.TheVariants.{Open, Put, PutWide, Get, Close, Turn}
use Rattle.ipcz_world.specs.declared.step.Reply.TheVariants as replies
use Rattle.ipcz_world.specs.Steps.{AnyAct, refuse, StepAny, PutGives, Gives, put_of, put_step, get_reply, got_reply, open_on, open_with}
use Rattle.ipcz_world.specs.Steps.{open_step, opened_reply, turn_step}
use Rattle.ipcz_world.specs.Turns.{turn_event, turn_lacks_serials}
use Rattle.ipcz_world.specs.Books.{is_retired, has_mark, add_put, add_got, advance, after_turn, next_item}
use Rattle.ipcz_world.specs.Plain.{IsUnwritten, Plain, PlainTurn, MayRefusePut as BooksRefusePut, MayRefuse as BooksRefuse}
use Rattle.ipcz_world.specs.Routes.{Routes, add_link, is_opened, routes_after}
use Rattle.ipcz_world.specs.Lawful.{Lawful}
use Rattle.ipcz_promise.specs.Promise.{Account, holds, is_holder, hold_each, open_pair, put_parcel, get_parcel, close_portal}
use Rattle.ipcz_promise.specs.Promise.{first_refusal, IsDropped, IsNew, IsGot, MayRefuse, MayRefusePut}
use Rattle.ipcz_promise.specs.Accounting.{parcels_in, PendingFits, Stands}
use Rattle.ipcz_world.proofs.Whole.{each_step_keeps_lawful, replies_plainly, links_stay, held_are_open}
use Rattle.ipcz_world.proofs.acts.Puts.{passes_by, not_false, put_tells}
use Rattle.ipcz_world.proofs.acts.Gets.{get_tells}
use Rattle.ipcz_world.proofs.facts.LinkTests.{same_end-itself, same_end-tells}
use Rattle.ipcz_world.proofs.facts.NodeCount.{count-after_act}
use Rattle.ipcz_world.proofs.facts.Tests.{not_both, nat_eq-is, nat_eq-itself, and_first, and_second}
use Rattle.ipcz_world.proofs.frames.Frames.{node-set_node, node-set_word, node-set_claimed, count-set_node, count-set_word, count-set_claimed}
use Rattle.ipcz_world.proofs.frames.Holding.{same_end-turned}
use Rattle.ipcz_world.proofs.frames.RecordRules.{unclaimed-is}
use Rattle.ipcz_promise.proofs.Holders.{held-acted, held-close_end}
use Rattle.ipcz_promise.proofs.GoingOn.{back-got, back-put, back-same, goes-got, goes-put, goes-same}
use Rattle.ipcz_promise.proofs.PendingSteps.{closes-pending, pending-at, pending-close, pending-get, pending-put}
use Rattle.ipcz_promise.proofs.DroppedParcels.{ungot-dropped}
use Rattle.ipcz_promise.proofs.PendingSteps.{still-pending, turn-pending}
use Rattle.ipcz_promise.proofs.Inverting.{call-cases, unrefused-inside, unrefused-call}
use Rattle.ipcz_promise.proofs.Parcels.{parcels-more, parcels-marked, parcels-left, mark-more, mark-left, mark-put}
use Rattle.ipcz_promise.proofs.Parcels.{next-parcel, no-second}
use Rattle.ipcz_promise.proofs.Refusals.{IsStepped, holder-is, is-holder, tests, not_less, nat_eq-turned, other-none, put-held}
use Rattle.ipcz_promise.proofs.Refusals.{get-held, open-held, number-is, read-is, prefix-at, each-holds, not-holder}
use Rattle.ipcz_promise.proofs.Refusals.{inside-accounts, put-refused, may-lack-memory, may-put, is-held, put-why, is-put, get-why}
use Rattle.ipcz_promise.proofs.Refusals.{close-why}

-- what a step that is done leads to
module _ (w : World) (a : Account) (k : Stands w a) (v : World) where
  after : (step : Step) (reply : Reply) → StepAny w step reply v →
      Lawful v (advance w k.books step reply) (routes_after w k.routes step reply)
  after step reply s = each_step_keeps_lawful w v k.books k.routes step reply k.lawful s

  plain : (step : Step) (reply : Reply) → StepAny w step reply v → Plain k.books step reply (advance w k.books step reply)
  plain step reply s = replies_plainly w v k.books k.routes step reply k.lawful s

  -- a put
  module _ (profile : Profile) (n : ℕ) (at : End) (bytes : List ℕ) (ends : List End) where
    abbrev parcel : parcels.Parcel
    parcel = record { bytes = bytes; ends = ends }

    put-after : (number : ℕ) → StepAny w (put_of profile n at bytes ends) (replies.Put number) v →
        Lawful v (add_put k.books at (Parcel parcel)) k.routes × (number ≡ length (k.books.put at))
    unfolding advance routes_after
    put-after number s = go profile s
      where
        go : (q : Profile) → StepAny w (put_of q n at bytes ends) (replies.Put number) v →
            Lawful v (add_put k.books at (Parcel parcel)) k.routes × (number ≡ length (k.books.put at))
        go Printed s = (after (Put n at bytes ends) (replies.Put number) s, (plain (Put n at bytes ends) (replies.Put number) s).0)
        go Wide s = (after (PutWide n at bytes ends) (replies.Put number) s, (plain (PutWide n at bytes ends) (replies.Put number) s).0)

    refused-plain : (why : Refusal) → StepAny w (put_of profile n at bytes ends) (replies.Refused why) v →
        BooksRefusePut profile k.books at bytes ends why
    unfolding advance
    refused-plain why s = go profile s
      where
        go : (q : Profile) → StepAny w (put_of q n at bytes ends) (replies.Refused why) v → BooksRefusePut q k.books at bytes ends why
        go Printed s = (plain (Put n at bytes ends) (replies.Refused why) s).0
        go Wide s = (plain (PutWide n at bytes ends) (replies.Refused why) s).0

    put-books : (number : ℕ) → add_put k.books at (Parcel parcel) ≡ advance w k.books (put_of profile n at bytes ends) (replies.Put number)
    unfolding advance
    put-books number = go profile
      where
        go : (q : Profile) → add_put k.books at (Parcel parcel) ≡ advance w k.books (put_of q n at bytes ends) (replies.Put number)
        go Printed = refl
        go Wide = refl

    put-keeps : n < w.count → Lawful v (add_put k.books at (Parcel parcel)) k.routes → hold_each a n ends ≡ true →
        (x : Node) → v ≡ set_node w n x → x.held ≡ without_ends (node_at w n).held ends → x.pending ≡ (node_at w n).pending →
        (t : Stands v (put_parcel a at parcel)) × (t.books ≡ add_put k.books at (Parcel parcel))
    put-keeps l law each x is held same = (
      record {
        books = add_put k.books at (Parcel parcel);
        routes = k.routes;
        lawful = law;
        nodes = k.nodes ∙ sym counts;
        opened = k.opened;
        holder = holder;
        real = real;
        put = λ e. puts e (same_end e at);
        got = k.got;
        closed = λ e. closes e (same_end e at) refl;
        pending = pending-at w v k.books k.pending _ (goes-put k.books at (Parcel parcel))
            (back-put w k.books k.routes k.lawful at (Parcel parcel)) n x is same;
      },
      refl,
    )
      where
        counts : v.count ≡ w.count
        counts = ap (λ (u : World). u.count) is ∙ count-set_node w n x

        inside : (m : ℕ) → m < v.count → m < w.count
        inside m h = omega (arith, h, counts)

        holder : (m : ℕ) (e : End) → m < v.count → holds_end (node_at v m) e ≡ is_holder (cond (has_end e ends) None (a.holder e)) m
        holder m e h = ap (λ (u : World). holds_end (node_at u m) e) is ∙ ap (λ z. holds_end z e) (node-set_node w n x m)
            ∙ go (nat_eq m n) (has_end e ends) refl refl
          where
            go : (c d : Bool) → nat_eq m n ≡ c → has_end e ends ≡ d →
                holds_end (cond c x (node_at w m)) e ≡ is_holder (cond d None (a.holder e)) m
            go true true p q = ap (λ z. sets.contains z e) held ∙ contains-without_ends (node_at w n).held ends e
                ∙ ap (λ t. not t && holds_end (node_at w n) e) q
            go true false p q = ap (λ z. sets.contains z e) held ∙ contains-without_ends (node_at w n).held ends e
                ∙ ap (λ t. not t && holds_end (node_at w n) e) q ∙ ap (λ i. holds_end (node_at w i) e) (sym (nat_eq-is m n p))
                ∙ k.holder m e (inside m h)
            go false true p q = not-holder w a k m n e (inside m h) p (each-holds w a k n ends e each q)
            go false false p q = k.holder m e (inside m h)

        real : (m : ℕ) (e : End) → cond (has_end e ends) None (a.holder e) ≡ Some m → m < v.count
        real m e h = go (has_end e ends) h
          where
            go : (d : Bool) → cond d None (a.holder e) ≡ Some m → m < v.count
            go true h = cc
            go false h = let r = k.real m e h in omega (arith, r, counts)

        puts : (e : End) (c : Bool) → cond c (a.put at ++ parcel ∷ []) (a.put e) ≡
            parcels_in (cond c (k.books.put at ++ Parcel parcel ∷ []) (k.books.put e))
        puts e true = ap (λ t. t ++ parcel ∷ []) (k.put at) ∙ sym (parcels-more (k.books.put at) parcel)
        puts e false = k.put e

        closes : (e : End) (c : Bool) → same_end e at ≡ c → a.closed e ≡ has_mark (cond c (k.books.put at ++ Parcel parcel ∷ []) (k.books.put e))
        closes e true q = k.closed e ∙ ap (λ d. has_mark (k.books.put d)) (same_end-tells e at q) ∙ sym (mark-more (k.books.put at) parcel)
        closes e false q = k.closed e

    put-promised : n < w.count → put_refusal profile (node_at w n) at bytes ends ≡ None → (number : ℕ) →
        v ≡ set_node w n (put_node (node_at w n) at parcel) → StepAny w (put_of profile n at bytes ends) (replies.Put number) v →
        IsStepped w a k (put_of profile n at bytes ends) (replies.Put number) v
    put-promised l fine number is s =
        let t = put_tells profile (node_at w n) at parcel fine in
        let p = put-after number s in
        let good = is-put w a k profile n at bytes ends l fine number p.1 in
        let kept = put-keeps l p.0 (is-held w a k profile n at bytes ends l good.accepted).1 (put_node (node_at w n) at parcel) is
        (put-held (node_at w n) at parcel t.0 t.1) (pending-put (node_at w n) at parcel) in
        (put_parcel a at parcel, may-put w a k profile n at bytes ends number good, kept.0, kept.1 ∙ put-books number)

  -- a get
  module _ (n : ℕ) (at : End) where
    get-after : (number : ℕ) (p : parcels.Parcel) → StepAny w (Get n at) (replies.Got number p) v →
        Lawful v (add_got k.books at p) k.routes × (number ≡ read k.books at) × (next_item k.books at ≡ Some (Parcel p))
    unfolding advance routes_after
    get-after number p s =
        let q = plain (Get n at) (replies.Got number p) s in (after (Get n at) (replies.Got number p) s, q.0, q.1)

    get-promised : n < w.count → holds a n at ≡ true → (number : ℕ) (p : parcels.Parcel) (x : Node) → v ≡ set_node w n x →
        x.held ≡ with_ends (node_at w n).held p.ends → x.pending ≡ (node_at w n).pending → StepAny w (Get n at) (replies.Got number p) v →
        IsStepped w a k (Get n at) (replies.Got number p) v
    unfolding advance
    get-promised l here number p x is held same s = (
      get_parcel a n at p,
      (good, refl),
      record {
        books = add_got k.books at p;
        routes = k.routes;
        lawful = q.0;
        nodes = k.nodes ∙ sym counts;
        opened = k.opened;
        holder = holder;
        real = real;
        put = k.put;
        got = λ e. gots e (same_end e at);
        closed = k.closed;
        pending = pending-at w v k.books k.pending _ (goes-got k.books at p open_) (back-got k.books at p open_) n x is same;
      },
      refl,
    )
      where
        q : Lawful v (add_got k.books at p) k.routes × (number ≡ read k.books at) × (next_item k.books at ≡ Some (Parcel p))
        q = get-after number p s

        counts : v.count ≡ w.count
        counts = ap (λ (u : World). u.count) is ∙ count-set_node w n x

        inside : (m : ℕ) → m < v.count → m < w.count
        inside m h = omega (arith, h, counts)

        open_ : is_closed k.books at ≡ false
        open_ = open-held w a k n at l here

        got_number : read k.books at ≡ length (k.books.got at)
        got_number = read-is w a k at open_

        there : slice_get (k.books.put (opposite_end at)) (length (k.books.got at)) ≡ Some (Parcel p)
        there = ap (slice_get (k.books.put (opposite_end at))) (sym got_number) ∙ q.2

        -- what the node holds after it
        holds_now : (e : End) → holds_end (node_at v n) e ≡ (has_end e p.ends || holds_end (node_at w n) e)
        holds_now e = ap (λ (u : World). holds_end (node_at u n) e) is ∙ ap (λ z. holds_end z e) (node-set_node w n x n)
            ∙ ap (λ c. holds_end (cond c x (node_at w n)) e) (nat_eq-itself n) ∙ ap (λ z. sets.contains z e) held
            ∙ contains-with_ends (node_at w n).held p.ends e

        comes : (e : End) → has_end e p.ends ≡ true → holds_end (node_at v n) e ≡ true
        comes e h = holds_now e ∙ ap (λ c. c || holds_end (node_at w n) e) h

        good : IsGot a n at p number
        good = record {
          holds = here;
          numbered = q.1 ∙ got_number ∙ sym (ap length (k.got at));
          next = ap (λ xs. slice_get xs number) (k.put (opposite_end at)) ∙ ap (slice_get (parcels_in (k.books.put (opposite_end at))))
              (q.1 ∙ got_number) ∙ next-parcel (k.books.got at) (k.books.put (opposite_end at)) p (prefix-at w a k at) there;
          unclosed = λ e h. k.closed e ∙ held_are_open v (add_got k.books at p) k.routes n e q.0 (omega (arith, l, counts)) (comes e h);
        }

        holder : (m : ℕ) (e : End) → m < v.count → holds_end (node_at v m) e ≡ is_holder (cond (has_end e p.ends) (Some n) (a.holder e)) m
        holder m e h = go (nat_eq m n) (has_end e p.ends) refl refl
          where
            elsewhere : nat_eq m n ≡ false → holds_end (node_at v m) e ≡ holds_end (node_at w m) e
            elsewhere ne = ap (λ (u : World). holds_end (node_at u m) e) is ∙ ap (λ z. holds_end z e) (node-set_node w n x m)
                ∙ ap (λ c. holds_end (cond c x (node_at w m)) e) ne

            go : (c d : Bool) → nat_eq m n ≡ c → has_end e p.ends ≡ d →
                holds_end (node_at v m) e ≡ is_holder (cond d (Some n) (a.holder e)) m
            go true true y z = ap (λ i. holds_end (node_at v i) e) (nat_eq-is m n y) ∙ comes e z ∙ sym (nat_eq-turned n m ∙ y)
            go true false y z = ap (λ i. holds_end (node_at v i) e) (nat_eq-is m n y) ∙ holds_now e
                ∙ ap (λ c. c || holds_end (node_at w n) e) z ∙ ap (λ i. holds_end (node_at w i) e) (sym (nat_eq-is m n y))
                ∙ k.holder m e (inside m h)
            go false true y z = other-none v (add_got k.books at p) k.routes q.0 m n e y (comes e z) ∙ sym (nat_eq-turned n m ∙ y)
            go false false y z = elsewhere y ∙ k.holder m e (inside m h)

        real : (m : ℕ) (e : End) → cond (has_end e p.ends) (Some n) (a.holder e) ≡ Some m → m < v.count
        real m e h = go (has_end e p.ends) h
          where
            go : (d : Bool) → cond d (Some n) (a.holder e) ≡ Some m → m < v.count
            go true h = let same : n ≡ m = same_Some n m h in omega (arith, l, counts, same)
            go false h = let r = k.real m e h in omega (arith, r, counts)

        gots : (e : End) (c : Bool) → cond c (a.got at ++ p ∷ []) (a.got e) ≡ cond c (k.books.got at ++ p ∷ []) (k.books.got e)
        gots e true = ap (λ t. t ++ p ∷ []) (k.got at)
        gots e false = k.got e

    -- a close
    close-after : (number : ℕ) → StepAny w (Close n at) (replies.Closed number) v →
        Lawful v (add_put k.books at Mark) k.routes × (number ≡ length (k.books.put at))
    unfolding advance routes_after
    close-after number s = (after (Close n at) (replies.Closed number) s, (plain (Close n at) (replies.Closed number) s).0)

  -- a portal is closed that one node's callers held, or that nobody did
  closed-keeps : (at : End) (c : Routes) → Lawful v (add_put k.books at Mark) c →
      ((pair : ℕ) → is_opened k.routes pair ≡ true → is_opened c pair ≡ true) → v.count ≡ w.count →
      ((m : ℕ) (e : End) → m < w.count → holds_end (node_at v m) e ≡ (not (same_end e at) && holds_end (node_at w m) e)) →
      PendingFits v (add_put k.books at Mark) → (t : Stands v (close_portal a at)) × (t.books ≡ add_put k.books at Mark)
  closed-keeps at c law opens counts held pend = (
    record {
      books = add_put k.books at Mark;
      routes = c;
      lawful = law;
      nodes = k.nodes ∙ sym counts;
      opened = λ pair h. opens pair (k.opened pair h);
      holder = holder;
      real = real;
      put = λ e. puts e (same_end e at) refl;
      got = k.got;
      closed = λ e. closes e (same_end e at);
      pending = pend;
    },
    refl,
  )
    where
      holder : (m : ℕ) (e : End) → m < v.count → holds_end (node_at v m) e ≡ is_holder (cond (same_end e at) None (a.holder e)) m
      holder m e h = held m e inside ∙ go (same_end e at)
        where
          inside : m < w.count
          inside = omega (arith, h, counts)

          go : (d : Bool) → (not d && holds_end (node_at w m) e) ≡ is_holder (cond d None (a.holder e)) m
          go true = refl
          go false = k.holder m e inside

      real : (m : ℕ) (e : End) → cond (same_end e at) None (a.holder e) ≡ Some m → m < v.count
      real m e h = go (same_end e at) h
        where
          go : (d : Bool) → cond d None (a.holder e) ≡ Some m → m < v.count
          go true h = cc
          go false h = let r = k.real m e h in omega (arith, r, counts)

      puts : (e : End) (d : Bool) → same_end e at ≡ d → a.put e ≡ parcels_in (cond d (k.books.put at ++ Mark ∷ []) (k.books.put e))
      puts e true q = k.put e ∙ ap (λ z. parcels_in (k.books.put z)) (same_end-tells e at q) ∙ sym (parcels-marked (k.books.put at))
      puts e false q = k.put e

      closes : (e : End) (d : Bool) → cond d true (a.closed e) ≡ has_mark (cond d (k.books.put at ++ Mark ∷ []) (k.books.put e))
      closes e true = sym (mark-put (k.books.put at))
      closes e false = k.closed e

  close-promised : (n : ℕ) (at : End) → n < w.count → holds a n at ≡ true → (number : ℕ) → v ≡ set_node w n (close_node (node_at w n) at) →
      StepAny w (Close n at) (replies.Closed number) v → IsStepped w a k (Close n at) (replies.Closed number) v
  unfolding advance
  close-promised n at l here number is s =
      let t = close-after n at number s in
      let kept = closed-keeps at k.routes t.0 (λ pair h. h) (ap (λ (u : World). u.count) is ∙ count-set_node w n x) held
      (pending-at w v k.books k.pending _ (goes-put k.books at Mark) (back-put w k.books k.routes k.lawful at Mark) n x is (pending-close (node_at w n) at)) in
      (close_portal a at, (here, t.1 ∙ number-is w a k at (open-held w a k n at l here), refl), kept.0, kept.1)
    where
      x : Node
      x = close_node (node_at w n) at

      held-x : (e : End) → holds_end x e ≡ (not (same_end e at) && holds_end (node_at w n) e)
      held-x e = ap (λ z. sets.contains z e) (held-close_end (record (node_at w n) { held = without_ends (node_at w n).held (at ∷ []) }) at)
          ∙ contains-without_ends (node_at w n).held (at ∷ []) e ∙ ap (λ d. not d && holds_end (node_at w n) e) (either (same_end at e) ∙ same_end-turned at e)
        where
          either : (d : Bool) → (d || false) ≡ d
          either true = refl
          either false = refl

      held : (m : ℕ) (e : End) → m < w.count → holds_end (node_at v m) e ≡ (not (same_end e at) && holds_end (node_at w m) e)
      held m e h = ap (λ (u : World). holds_end (node_at u m) e) is ∙ ap (λ z. holds_end z e) (node-set_node w n x m)
          ∙ go (nat_eq m n) (same_end e at) refl refl
        where
          go : (c d : Bool) → nat_eq m n ≡ c → same_end e at ≡ d → holds_end (cond c x (node_at w m)) e ≡ (not d && holds_end (node_at w m) e)
          go true d p q = held-x e ∙ ap (λ t. not t && holds_end (node_at w n) e) q
              ∙ ap (λ i. not d && holds_end (node_at w i) e) (sym (nat_eq-is m n p))
          go false true p q = not-holder w a k m n e h p (subst (λ z. holds a n z ≡ true) (sym (same_end-tells e at q)) here)
          go false false p q = refl

  -- an open on a word that is no link's
  module _ (n i : ℕ) where
    open-after : StepAny w (Open n) (opened_reply i) v → Lawful v k.books (add_link k.routes i i) ×
        IsUnwritten k.books (end_at i A) × IsUnwritten k.books (end_at i B)
    unfolding advance routes_after
    open-after s = let q = plain (Open n) (opened_reply i) s in (after (Open n) (opened_reply i) s, q.1, q.2)

    open-promised : n < w.count → is_linked (k.lawful.records.owner i) ≡ false → v.count ≡ w.count →
        ((m : ℕ) → nat_eq m n ≡ false → node_at v m ≡ node_at w m) → (node_at v n).held ≡ (open_node (node_at w n) i).held →
        (node_at v n).pending ≡ (node_at w n).pending → StepAny w (Open n) (opened_reply i) v → IsStepped w a k (Open n) (opened_reply i) v
    unfolding advance
    open-promised l free counts others held same s = (
      open_pair a n (end_at i A),
      (inside-accounts w a k n l, refl, new A, new B, refl),
      record {
        books = k.books;
        routes = add_link k.routes i i;
        lawful = q.0;
        nodes = k.nodes ∙ sym counts;
        opened = λ pair h. opened pair (nat_eq pair i) refl h;
        holder = holder;
        real = real;
        put = k.put;
        got = k.got;
        closed = k.closed;
        pending = still-pending w v k.books k.pending k.books (goes-same k.books) (back-same k.books) counts (λ m. pendings m (nat_eq m n) refl);
      },
      refl,
    )
      where
        pendings : (m : ℕ) (c : Bool) → nat_eq m n ≡ c → (node_at v m).pending ≡ (node_at w m).pending
        pendings m true e = ap (λ j. (node_at v j).pending) (nat_eq-is m n e) ∙ same ∙ ap (λ j. (node_at w j).pending) (sym (nat_eq-is m n e))
        pendings m false e = ap (λ (x : Node). x.pending) (others m e)

        q : Lawful v k.books (add_link k.routes i i) ×
            IsUnwritten k.books (end_at i A) × IsUnwritten k.books (end_at i B)
        q = open-after s

        unopened : a.opened i ≡ false
        unopened = go (a.opened i) refl
          where
            go : (c : Bool) → a.opened i ≡ c → a.opened i ≡ false
            go false h = h
            go true h = absurd (not_both (is_linked (k.lawful.records.owner i))
                (ap (λ z. z.is_link i) k.lawful.routes ∙ and_first _ _ (k.opened i h)) free)

        unwritten : (s : Side) → IsUnwritten k.books (end_at i s)
        unwritten A = q.1
        unwritten B = q.2

        new : (s : Side) → IsNew a (end_at i s)
        new s = record {
          unopened = unopened;
          put = k.put (end_at i s) ∙ ap parcels_in (unwritten s).put;
          got = k.got (end_at i s) ∙ (unwritten s).got;
          unclosed = k.closed (end_at i s) ∙ ap has_mark (unwritten s).put;
        }

        opened : (pair : ℕ) (c : Bool) → nat_eq pair i ≡ c → (c || a.opened pair) ≡ true →
            (cond c true (k.routes.is_link pair) && nat_eq (cond c i (k.routes.pair pair)) pair) ≡ true
        opened pair true e h = nat_eq-turned i pair ∙ e
        opened pair false e h = k.opened pair h

        -- the node holds both ends of the pair now
        has_both : (e : End) → (has_end e (end_at i B ∷ []) || (has_end e (end_at i A ∷ []) || holds_end (node_at w n) e)) ≡
            cond (nat_eq e.pair i) true (holds_end (node_at w n) e)
        has_both e = go e.side (nat_eq e.pair i) (holds_end (node_at w n) e) (nat_eq i e.pair) (nat_eq-turned i e.pair)
          where
            go : (s : Side) (c h d : Bool) → d ≡ c → (((d && same_side B s) || false) || (((d && same_side A s) || false) || h)) ≡ cond c true h
            go A true h true e = refl
            go B true h true e = refl
            go A false h false e = refl
            go B false h false e = refl
            go s true h false e = cc
            go s false h true e = cc

        holds_now : (e : End) → holds_end (node_at v n) e ≡ cond (nat_eq e.pair i) true (holds_end (node_at w n) e)
        holds_now e = ap (λ z. sets.contains z e) held
            ∙ contains-with_ends (with_ends (node_at w n).held (end_at i A ∷ [])) (end_at i B ∷ []) e
            ∙ ap (λ c. has_end e (end_at i B ∷ []) || c) (contains-with_ends (node_at w n).held (end_at i A ∷ []) e) ∙ has_both e

        comes : (e : End) → nat_eq e.pair i ≡ true → holds_end (node_at v n) e ≡ true
        comes e h = holds_now e ∙ ap (λ c. cond c true (holds_end (node_at w n) e)) h

        holder : (m : ℕ) (e : End) → m < v.count → holds_end (node_at v m) e ≡ is_holder (cond (nat_eq e.pair i) (Some n) (a.holder e)) m
        holder m e h = go (nat_eq m n) (nat_eq e.pair i) refl refl
          where
            inside : m < w.count
            inside = omega (arith, h, counts)

            go : (c d : Bool) → nat_eq m n ≡ c → nat_eq e.pair i ≡ d →
                holds_end (node_at v m) e ≡ is_holder (cond d (Some n) (a.holder e)) m
            go true true y z = ap (λ j. holds_end (node_at v j) e) (nat_eq-is m n y) ∙ comes e z ∙ sym (nat_eq-turned n m ∙ y)
            go true false y z = ap (λ j. holds_end (node_at v j) e) (nat_eq-is m n y) ∙ holds_now e
                ∙ ap (λ c. cond c true (holds_end (node_at w n) e)) z ∙ ap (λ j. holds_end (node_at w j) e) (sym (nat_eq-is m n y))
                ∙ k.holder m e inside
            go false true y z = other-none v k.books (add_link k.routes i i) q.0 m n e y (comes e z)
                ∙ sym (nat_eq-turned n m ∙ y)
            go false false y z = ap (λ x. holds_end x e) (others m y) ∙ k.holder m e inside

        real : (m : ℕ) (e : End) → cond (nat_eq e.pair i) (Some n) (a.holder e) ≡ Some m → m < v.count
        real m e h = go (nat_eq e.pair i) h
          where
            go : (d : Bool) → cond d (Some n) (a.holder e) ≡ Some m → m < v.count
            go true h = let same : n ≡ m = same_Some n m h in omega (arith, l, counts, same)
            go false h = let r = k.real m e h in omega (arith, r, counts)

  open-refused : (n : ℕ) (why : Refusal) (reply : Reply) → reply ≡ replies.Refused why → v ≡ w → MayRefuse a (Open n) why →
      IsStepped w a k (Open n) reply v
  unfolding advance
  open-refused n why reply e f h = rw (e, f) (a, (h, refl), k, refl)

  -- an open on the word of an open under way, or on the next one
  opened-with : (n i : ℕ) (counted : World) (reply : Reply) → n < w.count → is_linked (k.lawful.records.owner i) ≡ false →
      ((m : ℕ) → node_at counted m ≡ node_at w m) → counted.count ≡ w.count → Gives (open_with w counted n i) reply v →
      StepAny w (Open n) reply v → IsStepped w a k (Open n) reply v
  unfolding unless
  opened-with n i counted reply l free same counts gives s = go (serials_refusal (node_at w n)) refl gives
    where
      x : Node
      x = open_node (node_at w n) i

      few : (c : Bool) (why : Refusal) → (if c then None else Some refusals.NumbersEnd) ≡ Some why → MayRefuse a (Open n) why
      few true why e = cc
      few false why e = subst (MayRefuse a (Open n)) (same_Some refusals.NumbersEnd why e) (inside-accounts w a k n l)

      done : reply ≡ opened_reply i → v ≡ set_word (set_node counted n x) i open_word → IsStepped w a k (Open n) reply v
      done e f = subst (λ r. IsStepped w a k (Open n) r v) (sym e) (open-promised n i l free
          (ap (λ (u : World). u.count) f ∙ count-set_word _ i open_word ∙ count-set_node counted n x ∙ counts)
          (λ m ne. nodes m ∙ ap (λ c. cond c x (node_at counted m)) ne ∙ same m)
          (ap (λ (z : Node). z.held) (nodes n ∙ ap (λ c. cond c x (node_at counted n)) (nat_eq-itself n)))
          (ap (λ (z : Node). z.pending) (nodes n ∙ ap (λ c. cond c x (node_at counted n)) (nat_eq-itself n)))
          (subst (λ r. StepAny w (Open n) r v) e s))
        where
          nodes : (m : ℕ) → node_at v m ≡ cond (nat_eq m n) x (node_at counted m)
          nodes m = ap (λ (u : World). node_at u m) f ∙ node-set_word _ i open_word m ∙ node-set_node counted n x m

      go : (o : Option Refusal) → serials_refusal (node_at w n) ≡ o → Gives (unless w o (record {
        reply = opened_reply i;
        world = set_word (set_node counted n x) i open_word;
      })) reply v → IsStepped w a k (Open n) reply v
      go None q (e, f) = done e f
      go (Some why) q (e, f) = open-refused n why reply e f (few (has_serials (node_at w n).next_router 2) why q)

  open-step : (n : ℕ) (reply : Reply) → Gives (open_step w n) reply v → StepAny w (Open n) reply v → IsStepped w a k (Open n) reply v
  unfolding open_on is_linked
  open-step n reply gives s = go (nat_lt n w.count) refl gives
    where
      on : (o : Option ℕ) → n < w.count → (node_at w n).opening ≡ o → Gives (open_on w n o) reply v → IsStepped w a k (Open n) reply v
      on (Some i) l e h = opened-with n i w reply l (ap is_linked (k.lawful.inv.spares.opening n i e)) (λ m. refl) refl h s
      on None l e h = room (has_unclaimed_word w) h
        where
          fresh : is_linked (k.lawful.records.owner w.claimed) ≡ false
          fresh = ap is_linked (unclaimed-is (k.lawful.records.owner w.claimed)
              (k.lawful.inv.counts.unclaimed w.claimed ∙ grind (arith, nat_tests)))

          room : (c : Bool) → Gives (if c then open_with w (set_claimed w (w.claimed + 1)) n w.claimed else refuse w refusals.NoWord) reply v →
              IsStepped w a k (Open n) reply v
          room true h = opened-with n w.claimed (set_claimed w (w.claimed + 1)) reply l fresh (λ m. node-set_claimed w (w.claimed + 1) m)
              (count-set_claimed w (w.claimed + 1)) h s
          room false (e, f) = open-refused n refusals.NoWord reply e f (inside-accounts w a k n l)

      go : (c : Bool) → nat_lt n w.count ≡ c → Gives (if c then open_on w n (node_at w n).opening else refuse w refusals.Stranger) reply v →
          IsStepped w a k (Open n) reply v
      go true e h = on (node_at w n).opening (grind (arith, e, nat_tests)) refl h
      go false e (p, q) = open-refused n refusals.Stranger reply p q (beyond e)
        where
          beyond : nat_lt n w.count ≡ false → a.nodes ≤ n
          beyond e = omega (arith, k.nodes, not_less n w.count e)

  -- a turn
  module _ (n : ℕ) where
    turn-after : (event : Happened) → StepAny w (Turn n) (replies.Turned event) v →
        Lawful v (after_turn w k.books n event) (routes_after w k.routes (Turn n) (replies.Turned event)) ×
        PlainTurn k.books event (after_turn w k.books n event)
    unfolding advance
    turn-after event s = (after (Turn n) (replies.Turned event) s, plain (Turn n) (replies.Turned event) s)

    -- the same pairs are open
    still-open : (reply : Reply) → StepAny w (Turn n) reply v → (pair : ℕ) → is_opened k.routes pair ≡ true →
        is_opened (routes_after w k.routes (Turn n) reply) pair ≡ true
    still-open reply s pair h =
        let t = links_stay w v k.books k.routes (Turn n) reply k.lawful s pair (and_first _ _ h) in
        ap (λ c. c && nat_eq ((routes_after w k.routes (Turn n) reply).pair pair) pair) t.0 ∙ ap (λ i. nat_eq i pair) t.1
        ∙ and_second (k.routes.is_link pair) _ h

    -- what callers hold and how many nodes there are is as it was
    module _ (present : n < a.nodes) (counts : v.count ≡ w.count) (held : (m : ℕ) → (node_at v m).held ≡ (node_at w m).held) where
      -- books that say the same of parcels and closes
      same-keeps : (b : Books) (c : Routes) → Lawful v b c → ((pair : ℕ) → is_opened k.routes pair ≡ true → is_opened c pair ≡ true) →
          ((e : End) → parcels_in (b.put e) ≡ parcels_in (k.books.put e)) → ((e : End) → has_mark (b.put e) ≡ has_mark (k.books.put e)) →
          b.got ≡ k.books.got → PendingFits v b → (t : Stands v a) × (t.books ≡ b)
      same-keeps b c law opens puts marks gots pend = (
        record {
          books = b;
          routes = c;
          lawful = law;
          nodes = k.nodes ∙ sym counts;
          opened = λ pair h. opens pair (k.opened pair h);
          holder = λ m e l. ap (λ z. sets.contains z e) (held m) ∙ k.holder m e (omega (arith, l, counts));
          real = λ m e h. let r = k.real m e h in omega (arith, r, counts);
          put = λ e. k.put e ∙ sym (puts e);
          got = λ e. k.got e ∙ ap (λ f. f e) (sym gots);
          closed = λ e. k.closed e ∙ sym (marks e);
          pending = pend;
        },
        refl,
      )

      -- a pending close
      closing : (e : End) (b : Books) (c : Routes) → b ≡ add_put k.books e Mark → Lawful v b c →
          ((pair : ℕ) → is_opened k.routes pair ≡ true → is_opened c pair ≡ true) → PendingFits v b →
          (a.holder e ≡ None) × (a.closed e ≡ false) × (t : Stands v (close_portal a e)) × (t.books ≡ b)
      closing e b c is law0 opens pend = (unheld, unclosed, kept.0, kept.1 ∙ sym is)
        where
          law : Lawful v (add_put k.books e Mark) c
          law = subst (λ z. Lawful v z c) is law0

          here : (add_put k.books e Mark).put e ≡ k.books.put e ++ Mark ∷ []
          here = ap (λ d. cond d (k.books.put e ++ Mark ∷ []) (k.books.put e)) (same_end-itself e)

          unheld : a.holder e ≡ None
          unheld = go (a.holder e) refl
            where
              go : (o : Option ℕ) → a.holder e ≡ o → a.holder e ≡ None
              go None q = q
              go (Some m) q =
                  let l : m < w.count = k.real m e q in
                  let there : holds_end (node_at v m) e ≡ true =
                  ap (λ z. sets.contains z e) (held m) ∙ k.holder m e l ∙ is-holder (a.holder e) m q in
                  absurd (not_both (is_closed (add_put k.books e Mark) e) (ap has_mark here ∙ mark-put (k.books.put e))
                  (held_are_open v (add_put k.books e Mark) c m e law (omega (arith, l, counts)) there))

          unclosed : a.closed e ≡ false
          unclosed = k.closed e ∙ no-second (k.books.put e) (cond (is_retired (add_put k.books e Mark) e) 1 0)
              (length ((add_put k.books e Mark).put e))
              (λ i h. law.inv.books_kept.mark_last e i (ap (λ xs. slice_get xs i) here ∙ h))

          was : (m : ℕ) (d : End) → m < w.count → holds_end (node_at v m) d ≡ (not (same_end d e) && holds_end (node_at w m) d)
          was m d l = ap (λ z. sets.contains z d) (held m) ∙ go (same_end d e) refl
            where
              go : (c : Bool) → same_end d e ≡ c → holds_end (node_at w m) d ≡ (not c && holds_end (node_at w m) d)
              go false q = refl
              go true q = k.holder m d l ∙ ap (λ o. is_holder o m) (ap a.holder (same_end-tells d e q) ∙ unheld)

          kept : (t : Stands v (close_portal a e)) × (t.books ≡ add_put k.books e Mark)
          kept = closed-keeps e c law opens counts was (subst (PendingFits v) is pend)

      turned : (event : Happened) → PendingFits v (after_turn w k.books n event) → ((e : End) → event ≡ events.Close e → IsDropped a e) →
          StepAny w (Turn n) (replies.Turned event) v → IsStepped w a k (Turn n) (replies.Turned event) v
      unfolding advance
      turned event pend dropped s = go event pend dropped s (turn-after event s)
        where
          go : (event : Happened) → PendingFits v (after_turn w k.books n event) → ((e : End) → event ≡ events.Close e → IsDropped a e) →
              StepAny w (Turn n) (replies.Turned event) v →
              Lawful v (after_turn w k.books n event) (routes_after w k.routes (Turn n) (replies.Turned event)) ×
              PlainTurn k.books event (after_turn w k.books n event) → IsStepped w a k (Turn n) (replies.Turned event) v
          go (events.Close e) pend dropped s t =
              let c = closing e (after_turn w k.books n (events.Close e)) _ t.1 t.0 (still-open (replies.Turned (events.Close e)) s) pend in
              (close_portal a e, (present, (dropped e refl, c.0, c.1, refl)), c.2, c.3)
          go (events.Discard serial number) pend dropped s t =
              let is = t.1.books in
              let kept = same-keeps _ _ t.0 (still-open (replies.Turned (events.Discard serial number)) s)
              (λ e. ap (λ z. parcels_in (z.put e)) is) (λ e. ap (λ z. has_mark (z.put e)) is) (ap (λ z. z.got) is) pend in
              (a, (present, refl), kept.0, kept.1)
          go (events.DiscardLeave serial number) pend dropped s t =
              let is = t.1.discards.books in
              let kept = same-keeps _ _ t.0 (still-open (replies.Turned (events.DiscardLeave serial number)) s)
              (λ e. ap (λ z. parcels_in (z.put e)) is) (λ e. ap (λ z. has_mark (z.put e)) is) (ap (λ z. z.got) is) pend in
              (a, (present, refl), kept.0, kept.1)
          go (events.Retire serial number link) pend dropped s t =
              let is = t.1.books in let left = t.1.end in
              let kept = same-keeps _ _ t.0 (still-open (replies.Turned (events.Retire serial number link)) s)
              (λ e. ap (λ z. parcels_in (z.put e)) is ∙ put-left left e (same_end e left) refl)
              (λ e. ap (λ z. has_mark (z.put e)) is ∙ marks-left left e (same_end e left) refl) (ap (λ z. z.got) is) pend in
              (a, (present, refl), kept.0, kept.1)
            where
              put-left : (d e : End) (c : Bool) → same_end e d ≡ c →
                  parcels_in (cond c (k.books.put d ++ Gone ∷ []) (k.books.put e)) ≡ parcels_in (k.books.put e)
              put-left d e true q = parcels-left (k.books.put d) ∙ ap (λ z. parcels_in (k.books.put z)) (sym (same_end-tells e d q))
              put-left d e false q = refl

              marks-left : (d e : End) (c : Bool) → same_end e d ≡ c →
                  has_mark (cond c (k.books.put d ++ Gone ∷ []) (k.books.put e)) ≡ has_mark (k.books.put e)
              marks-left d e true q = mark-left (k.books.put d) ∙ ap (λ z. has_mark (k.books.put z)) (sym (same_end-tells e d q))
              marks-left d e false q = refl
          go other pend dropped s t =
              let kept = same-keeps _ _ t.0 (still-open (replies.Turned other) s)
              (λ e. ap (λ z. parcels_in (z.put e)) t.1) (λ e. ap (λ z. has_mark (z.put e)) t.1) (ap (λ z. z.got) t.1) pend in
              (a, (present, refl), kept.0, kept.1)

    turn-refused : (why : Refusal) (reply : Reply) → reply ≡ replies.Refused why → v ≡ w → MayRefuse a (Turn n) why →
        IsStepped w a k (Turn n) reply v
    unfolding advance
    turn-refused why reply e f h = rw (e, f) (a, (h, refl), k, refl)

    turn-step : (act : Act) (reply : Reply) → AnyAct w n act → Gives (turn_step w n act) reply v → StepAny w (Turn n) reply v →
        IsStepped w a k (Turn n) reply v
    turn-step act reply may gives s = elim (call-cases w n (if turn_lacks_serials w n act then Some refusals.NumbersEnd else None) _ reply v gives) [
      | inl d ↦ subst (λ r. IsStepped w a k (Turn n) r v) (sym d.says) (turned (inside-accounts w a k n d.inside)
          (ap (λ (u : World). u.count) d.world ∙ count-after_act w n act)
          (λ m. ap (λ (u : World). (node_at u m).held) d.world ∙ held-acted w n act m)
          (turn_event w n act) (turn-pending w k.books k.routes n act v k.lawful d.inside (may d.inside) d.world k.pending)
          (λ e q. ungot-dropped w a k e (k.pending.ungot n e d.inside (closes-pending w n act e (may d.inside) q)))
          (subst (λ r. StepAny w (Turn n) r v) d.says s))
      | inr r ↦ turn-refused r.why reply r.says r.world (elim r.because [
        | inl x ↦ subst (MayRefuse a (Turn n)) (sym x.1) (omega (arith, k.nodes, x.0))
        | inr x ↦ few (turn_lacks_serials w n act) r.why x.0 x.1
      ])
    ]
      where
        few : (c : Bool) (why : Refusal) → n < w.count → (if c then Some refusals.NumbersEnd else None) ≡ Some why → MayRefuse a (Turn n) why
        few true why l e = subst (MayRefuse a (Turn n)) (same_Some refusals.NumbersEnd why e) (inside-accounts w a k n l)
        few false why l e = cc

  unheld-beyond : (n : ℕ) (at : End) → w.count ≤ n → holds a n at ≡ false
  unheld-beyond n at h = go (holds a n at) refl
    where
      go : (c : Bool) → holds a n at ≡ c → c ≡ false
      go false q = refl
      go true q = let r = k.real n at (holder-is (a.holder at) n q) in absurd (omega (arith, r, h))

  -- the calls, whether they are done or refused
  put-step : (profile : Profile) (n : ℕ) (at : End) (bytes : List ℕ) (ends : List End) (reply : Reply) →
      PutGives w n (put_step profile w n at (record { bytes = bytes; ends = ends })) reply v →
      StepAny w (put_of profile n at bytes ends) reply v → IsStepped w a k (put_of profile n at bytes ends) reply v
  put-step profile n at bytes ends reply (inr (l, (e, f))) s =
      put-refused w a k profile n at bytes ends refusals.OutOfMemory reply v e f
      (may-lack-memory w a k (first_refusal profile a n at bytes ends) n at l)
  put-step profile n at bytes ends reply (inl gives) s = elim (call-cases w n (put_refusal profile (node_at w n) at bytes ends) _ reply v gives) [
    | inl d ↦ subst (λ r. IsStepped w a k (put_of profile n at bytes ends) r v) (sym d.says)
        (put-promised profile n at bytes ends d.inside d.fine _ d.world (subst (λ r. StepAny w (put_of profile n at bytes ends) r v) d.says s))
    | inr r ↦ put-refused w a k profile n at bytes ends r.why reply v r.says r.world (elim r.because [
      | inl x ↦ subst (MayRefusePut (first_refusal profile a n at bytes ends) a n at) (sym x.1) (beyond x.0)
      | inr x ↦ put-why w a k profile n at bytes ends x.0 r.why x.1
          (refused-plain profile n at bytes ends r.why (subst (λ q. StepAny w (put_of profile n at bytes ends) q v) r.says s))
    ])
  ]
    where
      -- callers of a node that isn't there hold nothing
      beyond : w.count ≤ n → MayRefusePut (first_refusal profile a n at bytes ends) a n at refusals.Stranger
      beyond h = subst (λ o. MayRefusePut o a n at refusals.Stranger) (sym (ap (λ held.
          tests held (are_too_many profile bytes ends) (not (takes_bytes profile bytes)) (has_end at ends) (has_end (opposite_end at) ends)
          (hold_each a n ends) None) (unheld-beyond n at h))) (inl refl)

  get-refused : (n : ℕ) (at : End) (why : Refusal) (reply : Reply) → reply ≡ replies.Refused why → v ≡ w → MayRefuse a (Get n at) why →
      IsStepped w a k (Get n at) reply v
  unfolding advance
  get-refused n at why reply e f h = rw (e, f) (a, (h, refl), k, refl)

  get-refused-plain : (n : ℕ) (at : End) (why : Refusal) → StepAny w (Get n at) (replies.Refused why) v → BooksRefuse k.books (Get n at) why
  unfolding advance
  get-refused-plain n at why s = (plain (Get n at) (replies.Refused why) s).0

  get-step : (n : ℕ) (at : End) (reply : Reply) → StepAny w (Get n at) reply v → IsStepped w a k (Get n at) reply v
  unfolding get_reply got_reply
  get-step n at reply s = elim (call-cases w n (get_refusal (node_at w n) at) _ reply v s) [
    | inl d ↦
        let is = get_tells (node_at w n) at d.fine in
        let said : reply ≡ replies.Got is.found.router.in_queue.current is.parcel =
        d.says ∙ ap get_reply is.is_found ∙ ap (got_reply is.found.router.in_queue.current) is.item in
        subst (λ r. IsStepped w a k (Get n at) r v) (sym said)
        (get-promised n at d.inside (sym (k.holder n at d.inside) ∙ is.held) is.found.router.in_queue.current is.parcel
        (get_node (node_at w n) at) d.world (get-held (node_at w n) at is.parcel is.found is.is_found is.item)
        (pending-get (node_at w n) at)
        (subst (λ r. StepAny w (Get n at) r v) said s))
    | inr r ↦ get-refused n at r.why reply r.says r.world (elim r.because [
      | inl x ↦ subst (MayRefuse a (Get n at)) (sym x.1) (unheld-beyond n at x.0)
      | inr x ↦ get-why w a k n at x.0 r.why x.1 (get-refused-plain n at r.why (subst (λ q. StepAny w (Get n at) q v) r.says s))
    ])
  ]

  close-refused : (n : ℕ) (at : End) (why : Refusal) (reply : Reply) → reply ≡ replies.Refused why → v ≡ w → MayRefuse a (Close n at) why →
      IsStepped w a k (Close n at) reply v
  unfolding advance
  close-refused n at why reply e f h = rw (e, f) (a, (h, refl), k, refl)

  close-step : (n : ℕ) (at : End) (reply : Reply) → StepAny w (Close n at) reply v → IsStepped w a k (Close n at) reply v
  unfolding close_refusal
  close-step n at reply (inr (fine, (e, f))) =
      let t = unrefused-call w n (close_refusal (node_at w n) at) _ fine in
      close-refused n at refusals.OutOfMemory reply e f (sym (k.holder n at t.0)
      ∙ not_false (holds_end (node_at w n) at) (passes_by (not (holds_end (node_at w n) at)) _ _ t.1).0)
  close-step n at reply (inl gives) = elim (call-cases w n (close_refusal (node_at w n) at) _ reply v gives) [
    | inl d ↦ subst (λ r. IsStepped w a k (Close n at) r v) (sym d.says)
        (close-promised n at d.inside (sym (k.holder n at d.inside) ∙ not_false (holds_end (node_at w n) at)
        (passes_by (not (holds_end (node_at w n) at)) _ _ d.fine).0) _ d.world
        (subst (λ r. StepAny w (Close n at) r v) d.says (inl gives)))
    | inr r ↦ close-refused n at r.why reply r.says r.world (elim r.because [
      | inl x ↦ subst (MayRefuse a (Close n at)) (sym x.1) (unheld-beyond n at x.0)
      | inr x ↦ close-why w a k n at x.0 r.why x.1
    ])
  ]

-- each step
pub steps_stand : (w v : World) (a : Account) (step : Step) (reply : Reply) (k : Stands w a) → StepAny w step reply v →
    IsStepped w a k step reply v
steps_stand w v a (Open n) reply k (inl gives) = open-step w a k v n reply gives (inl gives)
steps_stand w v a (Open n) reply k (inr (fine, (e, f))) =
    open-refused w a k v n refusals.OutOfMemory reply e f (inside-accounts w a k n (unrefused-inside w n _ fine))
steps_stand w v a (Put n at bytes ends) reply k s = put-step w a k v Printed n at bytes ends reply s s
steps_stand w v a (PutWide n at bytes ends) reply k s = put-step w a k v Wide n at bytes ends reply s s
steps_stand w v a (Get n at) reply k s = get-step w a k v n at reply s
steps_stand w v a (Close n at) reply k s = close-step w a k v n at reply s
steps_stand w v a (Turn n) reply k (act, may, inl gives) = turn-step w a k v n act reply may gives (act, may, inl gives)
steps_stand w v a (Turn n) reply k (act, may, inr (grows, own, fine, (e, f))) =
    turn-refused w a k v n refusals.OutOfMemory reply e f (inside-accounts w a k n (unrefused-inside w n _ fine))
