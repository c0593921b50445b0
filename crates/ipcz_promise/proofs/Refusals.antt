-- What is held where a world stands at accounts, and which refusals the accounts allow.
use Rattle.std.specs.Prelude.{◌≡◌, ◌⊎◌, ◌≤◌, ◌<◌, ◌+◌, ℕ, Bool, true, false, not, ◌&&◌, ◌||◌, nat_eq, nat_lt, nat_le, if◌then◌else◌, Option, Some, is_some}
use Rattle.std.specs.Prelude.{None, List, [], ◌∷◌, length, take, map, slice_get, refl}
use Rattle.std.proofs.Common.{arith, ap, subst, ◌∙◌, sym, inl, inr}
use Rattle.std.proofs.lemmas.Bool.Decides.{nat_tests}
use Rattle.std.proofs.lemmas.Option.{same_Some}
use Rattle.ipcz_base.specs.declared.parcel.Parcel as parcels
use Rattle.ipcz_base.specs.declared.item.Item.TheVariants.{Parcel, Mark, Gone}
use Rattle.ipcz_base.specs.declared.profile.Profile.{Profile}
use Rattle.ipcz_base.specs.declared.profile.Profile.TheVariants.{Printed, Wide}
use Rattle.ipcz_base.specs.declared.refusal.Refusal.TheVariants as refusals
use Rattle.ipcz_base.specs.Limits.{takes_bytes, last_number}
use Rattle.ipcz_router.specs.Calls.{next_number, item_refusal, router_put_refusal, router_get_refusal}
use Rattle.ipcz_node.specs.Node.{holds_end, on_found, with_ends, without_ends}
use Rattle.ipcz_node.specs.Calls.{are_held_once, are_too_many, refusal_at, put_refusal, put_node, put_at_router, get_node, get_refusal, get_at_router}
use Rattle.ipcz_node.specs.Calls.{ends_found, close_refusal}
use Rattle.ipcz_world.proofs.Vocabulary.{End, Item, Refusal, opposite_end, same_end, has_end, Node, Found, terminal_of, current_item}
use Rattle.ipcz_world.specs.declared.step.Reply.{Reply}
use Rattle.ipcz_world.proofs.Vocabulary.{World, node_at, Books, read, is_closed}
use Rattle.ipcz_world.specs.declared.step.Step.{Step}
use Rattle.ipcz_world.specs.declared.step.Step.TheVariants.{Get, Close}
use Rattle.ipcz_world.specs.declared.step.Reply.TheVariants as replies
use Rattle.ipcz_world.specs.Steps.{put_of}
use Rattle.ipcz_world.specs.Books.{is_retired, advance, next_item}
use Rattle.ipcz_world.specs.Plain.{MayRefusePut as BooksRefusePut, MayRefuse as BooksRefuse}
use Rattle.ipcz_world.specs.Routes.{Routes}
use Rattle.ipcz_world.specs.Lawful.{Lawful}
use Rattle.ipcz_promise.specs.Promise.{Account, holds, is_holder, hold_each, peer, put_parcel}
use Rattle.ipcz_promise.specs.Promise.{first_refusal, IsPut, MayRefuse, MayRefusePut, May}
use Rattle.ipcz_promise.specs.Accounting.{Stands}
use Rattle.ipcz_world.proofs.Whole.{held_are_open, held_have_terminals}
use Rattle.ipcz_world.proofs.acts.Puts.{passes_by, not_false}
use Rattle.ipcz_world.proofs.facts.LinkTests.{opposite_end-twice, same_end-tells}
use Rattle.ipcz_world.proofs.facts.Tests.{not_both, nat_eq-is, nat_eq-itself, and_first, and_second}
use Rattle.ipcz_world.proofs.frames.Booking.{flag}
use Rattle.ipcz_promise.proofs.Parcels.{all-parcels, mark-found}
use Rattle.ipcz_promise.proofs.Parcels.{all-got}

-- a step gets a reply that the plain machine may give, and the world stands at the accounts after it, by books that go on with the step
abbrev pub IsStepped : (w : World) (a : Account) → Stands w a → Step → Reply → World → Type 0
IsStepped w a k step reply v = (c : Account) × May a step reply c × (t : Stands v c) × (t.books ≡ advance w k.books step reply)

pub holder-is : (o : Option ℕ) (n : ℕ) → is_holder o n ≡ true → o ≡ Some n
holder-is None n h = cc
holder-is (Some m) n h = ap Some (nat_eq-is m n h)

pub is-holder : (o : Option ℕ) (n : ℕ) → o ≡ Some n → is_holder o n ≡ true
is-holder o n e = ap (λ z. is_holder z n) e ∙ nat_eq-itself n

-- the first refusal of two
abbrev pub or_else : Option Refusal → Option Refusal → Option Refusal
or_else None rest = rest
or_else (Some why) rest = Some why

pub none-first : (found rest : Option Refusal) → or_else found rest ≡ None → found ≡ None
none-first None rest h = refl
none-first (Some why) rest h = cc

-- why a put is refused: what is asked of it in its order, and then the rest
abbrev pub tests : Bool → Bool → Bool → Bool → Bool → Bool → Option Refusal → Option Refusal
tests held many bad self other each rest =
    if not held then Some refusals.Stranger
    else if many then Some refusals.TooMany
    else if bad then Some refusals.BadData
    else if self then Some refusals.SelfAttach
    else if other then Some refusals.PeerAttach
    else if not each then Some refusals.Stranger
    else rest

pub rest-last : (held many bad self other each : Bool) (rest : Option Refusal) →
    tests held many bad self other each rest ≡ or_else (tests held many bad self other each None) rest
rest-last false many bad self other each rest = refl
rest-last true true bad self other each rest = refl
rest-last true false true self other each rest = refl
rest-last true false false true other each rest = refl
rest-last true false false false true each rest = refl
rest-last true false false false false false rest = refl
rest-last true false false false false true rest = refl

-- a refusal of the router at which a put is made
pub at_terminal : (o : Option Found) → is_some o ≡ true → (x : Refusal) → refusal_at o router_put_refusal ≡ Some x →
    (x ≡ refusals.PeerClosed) ⊎ (x ≡ refusals.NumbersEnd)
unfolding refusal_at
at_terminal None e x h = cc
at_terminal (Some f) e x h = go f.router.mark_seen (nat_le last_number (next_number f.router)) h
  where
    go : (c d : Bool) → (if c then Some refusals.PeerClosed else if d then Some refusals.NumbersEnd else None) ≡ Some x →
        (x ≡ refusals.PeerClosed) ⊎ (x ≡ refusals.NumbersEnd)
    go true d h = inl (sym (same_Some refusals.PeerClosed x h))
    go false true h = inr (sym (same_Some refusals.NumbersEnd x h))
    go false false h = cc

pub not_less : (m n : ℕ) → nat_lt m n ≡ false → n ≤ m
not_less m n h = grind (arith, h, nat_tests)

pub nat_eq-turned : (m n : ℕ) → nat_eq m n ≡ nat_eq n m
nat_eq-turned m n = grind (arith, nat_tests)

-- an end is held at one node at most
pub alone : (w : World) (b : Books) (g : Routes) → Lawful w b g → (m n : ℕ) (e : End) → holds_end (node_at w m) e ≡ true →
    holds_end (node_at w n) e ≡ true → m ≡ n
alone w b g law m n e x y =
    same_Some m n (sym (law.inv.end_places.held m e x) ∙ law.inv.end_places.held n e y)

-- if another node than the holder held it, there would be two
pub other-none : (w : World) (b : Books) (g : Routes) → Lawful w b g → (m n : ℕ) (e : End) → nat_eq m n ≡ false →
    holds_end (node_at w n) e ≡ true → holds_end (node_at w m) e ≡ false
other-none w b g law m n e ne y = go (holds_end (node_at w m) e) refl
  where
    go : (c : Bool) → holds_end (node_at w m) e ≡ c → holds_end (node_at w m) e ≡ false
    go false h = h
    go true h = let same : m ≡ n = alone w b g law m n e h y in absurd (grind (arith, ne, same, nat_tests))

-- what a put leaves held, and what a get adds
pub put-held : (n : Node) (at : End) (p : parcels.Parcel) (f : Found) → terminal_of n at ≡ Some f →
    (put_node n at p).held ≡ without_ends n.held p.ends
unfolding on_found
put-held n at p f e = ap (λ o. (on_found n o (put_at_router n p)).held) e

pub get-held : (n : Node) (at : End) (p : parcels.Parcel) (f : Found) → terminal_of n at ≡ Some f →
    current_item f.router.in_queue ≡ Some (Parcel p) → (get_node n at).held ≡ with_ends n.held p.ends
unfolding on_found ends_found
get-held n at p f e q = ap (λ o. (on_found n o (get_at_router n)).held) e ∙ ap (λ i. with_ends n.held (ends_found i)) q

module _ (w : World) (a : Account) (k : Stands w a) where
  pub open-held : (n : ℕ) (e : End) → n < w.count → holds a n e ≡ true → is_closed k.books e ≡ false
  open-held n e l h = held_are_open w k.books k.routes n e k.lawful l (k.holder n e l ∙ h)

  pub unretired : (e : End) → is_closed k.books e ≡ false → is_retired k.books e ≡ false
  unretired e h = go (is_retired k.books e) refl
    where
      go : (c : Bool) → is_retired k.books e ≡ c → is_retired k.books e ≡ false
      go false q = q
      go true q = absurd (not_both (is_closed k.books e) (k.lawful.inv.books_kept.retired_closed e q) h)

  pub number-is : (e : End) → is_closed k.books e ≡ false → length (k.books.put e) ≡ length (a.put e)
  number-is e h = sym (ap length (k.put e) ∙ all-parcels (k.books.put e) h (unretired e h))

  pub read-is : (e : End) → is_closed k.books e ≡ false → read k.books e ≡ length (k.books.got e)
  read-is e h = omega (arith, k.lawful.conserved.gone_closed e h)

  pub prefix-at : (e : End) → take (length (k.books.got e)) (k.books.put (opposite_end e)) ≡ map Parcel (k.books.got e)
  prefix-at e = subst (λ d. take (length (k.books.got d)) (k.books.put (opposite_end e)) ≡ map Parcel (k.books.got d)) (opposite_end-twice e)
      (k.lawful.conserved.prefix (opposite_end e))

  -- what is held for what the accounts tell
  pub each-is : (n : ℕ) → n < w.count → (es : List End) → are_held_once (node_at w n) es ≡ hold_each a n es
  each-is n l [] = refl
  each-is n l (e ∷ es) = ap (λ x. x && (not (has_end e es) && are_held_once (node_at w n) es)) (k.holder n e l)
      ∙ ap (λ y. holds a n e && (not (has_end e es) && y)) (each-is n l es)

  pub each-holds : (n : ℕ) (es : List End) (e : End) → hold_each a n es ≡ true → has_end e es ≡ true → holds a n e ≡ true
  each-holds n [] e h q = cc
  each-holds n (d ∷ es) e h q =
      go (same_end d e) refl q (λ z. each-holds n es e (and_second (not (has_end d es)) _ (and_second (holds a n d) _ h)) z)
    where
      go : (c : Bool) → same_end d e ≡ c → (c || has_end e es) ≡ true → (has_end e es ≡ true → holds a n e ≡ true) → holds a n e ≡ true
      go true s q more = subst (λ z. holds a n z ≡ true) (same_end-tells d e s) (and_first _ _ h)
      go false s q more = more q

  -- who isn't the holder doesn't hold it
  pub not-holder : (m n : ℕ) (e : End) → m < w.count → nat_eq m n ≡ false → holds a n e ≡ true → holds_end (node_at w m) e ≡ false
  not-holder m n e l ne h = k.holder m e l ∙ ap (λ o. is_holder o m) (holder-is (a.holder e) n h) ∙ nat_eq-turned n m ∙ ne

  pub inside-accounts : (n : ℕ) → n < w.count → n < a.nodes
  inside-accounts n l = omega (arith, k.nodes, l)

  -- refusals leave the accounts
  pub put-refused : (profile : Profile) (n : ℕ) (at : End) (bytes : List ℕ) (ends : List End) (why : Refusal) (reply : Reply) (v : World) →
      reply ≡ replies.Refused why → v ≡ w → MayRefusePut (first_refusal profile a n at bytes ends) a n at why →
      IsStepped w a k (put_of profile n at bytes ends) reply v
  unfolding advance
  put-refused Printed n at bytes ends why reply v e f h = rw (e, f) (a, (h, refl), k, refl)
  put-refused Wide n at bytes ends why reply v e f h = rw (e, f) (a, (h, refl), k, refl)

  -- want of memory refuses a put at any time
  pub may-lack-memory : (found : Option Refusal) (n : ℕ) (at : End) → n < w.count → MayRefusePut found a n at refusals.OutOfMemory
  may-lack-memory None n at l = inside-accounts n l
  may-lack-memory (Some first) n at l = inr (refl, inside-accounts n l)

  pub may-put : (profile : Profile) (n : ℕ) (at : End) (bytes : List ℕ) (ends : List End) (number : ℕ) →
      IsPut profile a n at (record { bytes = bytes; ends = ends }) number →
      May a (put_of profile n at bytes ends) (replies.Put number) (put_parcel a at (record { bytes = bytes; ends = ends }))
  may-put Printed n at bytes ends number h = (h, refl)
  may-put Wide n at bytes ends number h = (h, refl)

  -- why a put may be refused
  module _ (profile : Profile) (n : ℕ) (at : End) (bytes : List ℕ) (ends : List End) (l : n < w.count) where
    abbrev pub asked : Option Refusal
    asked = put_refusal profile (node_at w n) at bytes ends

    abbrev pub found : Option Refusal
    found = first_refusal profile a n at bytes ends

    abbrev pub of_router : Option Refusal
    of_router = refusal_at (terminal_of (node_at w n) at) router_put_refusal

    abbrev pub with_held : Bool → Bool → Option Refusal
    with_held held each = tests held (are_too_many profile bytes ends) (not (takes_bytes profile bytes)) (has_end at ends)
        (has_end (opposite_end at) ends) each of_router

    -- the node asks what the accounts tell, in the same order, and then its router
    pub asked-in-order : asked ≡ or_else found of_router
    unfolding put_refusal
    asked-in-order = ap (λ c. with_held c (are_held_once (node_at w n) ends)) (k.holder n at l)
        ∙ ap (λ c. with_held (holds a n at) c) (each-is n l ends)
        ∙ rest-last (holds a n at) (are_too_many profile bytes ends) (not (takes_bytes profile bytes)) (has_end at ends)
        (has_end (opposite_end at) ends) (hold_each a n ends) of_router

    -- what it tells that the accounts find no refusal
    pub is-held : found ≡ None → (holds a n at ≡ true) × (hold_each a n ends ≡ true)
    is-held h =
        let t1 = passes_by (not (holds a n at)) _ _ h in
        let t2 = passes_by (are_too_many profile bytes ends) _ _ t1.1 in
        let t3 = passes_by (not (takes_bytes profile bytes)) _ _ t2.1 in
        let t4 = passes_by (has_end at ends) _ _ t3.1 in
        let t5 = passes_by (has_end (opposite_end at) ends) _ _ t4.1 in
        let t6 = passes_by (not (hold_each a n ends)) _ _ t5.1 in
        (not_false (holds a n at) t1.0, not_false (hold_each a n ends) t6.0)

    pub router-there : holds a n at ≡ true → is_some (terminal_of (node_at w n) at) ≡ true
    router-there h = held_have_terminals w k.books k.routes n at k.lawful l (k.holder n at l ∙ h)

    pub put-why : (x : Refusal) → asked ≡ Some x → BooksRefusePut profile k.books at bytes ends x → MayRefusePut found a n at x
    put-why x h p = go found refl (sym asked-in-order ∙ h)
      where
        late : holds a n at ≡ true → of_router ≡ Some x → MayRefusePut None a n at x
        late held e = elim (at_terminal (terminal_of (node_at w n) at) (router-there held) x e) [
          | inl is ↦ subst (MayRefusePut None a n at) (sym is)
              (k.closed (opposite_end at) ∙ subst (BooksRefusePut profile k.books at bytes ends) is p)
          | inr is ↦ subst (MayRefusePut None a n at) (sym is)
              (omega (arith, number-is at (open-held n at l held), subst (BooksRefusePut profile k.books at bytes ends) is p))
        ]

        go : (o : Option Refusal) → found ≡ o → or_else o of_router ≡ Some x → MayRefusePut o a n at x
        go None e h = late (is-held e).0 h
        go (Some first) e h = inl (sym (same_Some first x h))

    -- what a put that isn't refused tells
    pub unrefused : asked ≡ None → found ≡ None
    unrefused h = none-first found of_router (sym asked-in-order ∙ h)

    pub is-put : asked ≡ None → (number : ℕ) → number ≡ length (k.books.put at) → IsPut profile a n at (record { bytes = bytes; ends = ends }) number
    is-put h number e = record {
      accepted = unrefused h;
      numbered = e ∙ number-is at (open-held n at l (is-held (unrefused h)).0);
    }

  -- why a get may be refused
  module _ (n : ℕ) (at : End) (l : n < w.count) where
    pub get-holds : (x : Refusal) → get_refusal (node_at w n) at ≡ Some x → (x ≡ refusals.Stranger → ⊥) → holds a n at ≡ true
    unfolding get_refusal
    get-holds x h ne = sym (k.holder n at l) ∙ go (holds_end (node_at w n) at) _ h
      where
        go : (c : Bool) (left : Option Refusal) → (if not c then Some refusals.Stranger else left) ≡ Some x → c ≡ true
        go true left h = refl
        go false left h = absurd (ne (sym (same_Some refusals.Stranger x h)))

    pub item_fine : (o : Option Item) → item_refusal o ≡ Some refusals.Stranger → ⊥
    unfolding item_refusal
    item_fine None h = cc
    item_fine (Some (Parcel p)) h = cc
    item_fine (Some Mark) h = cc
    item_fine (Some Gone) h = cc

    pub get-strange : get_refusal (node_at w n) at ≡ Some refusals.Stranger → holds a n at ≡ false
    unfolding get_refusal refusal_at
    get-strange h = sym (k.holder n at l) ∙ go (holds_end (node_at w n) at) refl h
      where
        found : (o : Option Found) → is_some o ≡ true → refusal_at o router_get_refusal ≡ Some refusals.Stranger → ⊥
        found None e h = cc
        found (Some f) e h = item_fine (current_item f.router.in_queue) h

        go : (c : Bool) → holds_end (node_at w n) at ≡ c →
            (if not c then Some refusals.Stranger else refusal_at (terminal_of (node_at w n) at) router_get_refusal) ≡ Some refusals.Stranger →
            c ≡ false
        go false q h = refl
        go true q h = absurd (found (terminal_of (node_at w n) at) (held_have_terminals w k.books k.routes n at k.lawful l q) h)

    -- the mark comes next
    pub marked : holds a n at ≡ true → next_item k.books at ≡ Some Mark → (a.closed (peer at) ≡ true) × (a.got at ≡ a.put (peer at))
    marked held next =
        let open_ : is_closed k.books at ≡ false = open-held n at l held in
        let read_ : read k.books at ≡ length (k.books.got at) = read-is at open_ in
        let there : slice_get (k.books.put (opposite_end at)) (length (k.books.got at)) ≡ Some Mark =
        ap (slice_get (k.books.put (opposite_end at))) (sym read_) ∙ next in
        let last = k.lawful.inv.books_kept.mark_last (opposite_end at) (length (k.books.got at)) there in
        let long : length (k.books.put (opposite_end at)) ≡ length (k.books.got at) + 1 =
        omega (arith, last, ap flag (unretired-peer (is_retired k.books (opposite_end at)) refl open_)) in (
          k.closed (opposite_end at) ∙ mark-found (k.books.put (opposite_end at)) (length (k.books.got at)) there,
          k.got at ∙ sym (k.put (opposite_end at) ∙ all-got (k.books.got at) (k.books.put (opposite_end at)) (prefix-at at) there long),
        )
      where
        unretired-peer : (c : Bool) → is_retired k.books (opposite_end at) ≡ c → is_closed k.books at ≡ false →
            is_retired k.books (opposite_end at) ≡ false
        unretired-peer false q h = q
        unretired-peer true q h = absurd (not_both (is_closed k.books at) (ap (is_closed k.books) (sym (opposite_end-twice at)) ∙
            k.lawful.inv.retired_ends.peer_closed (opposite_end at) q) h)

    pub get-why : (x : Refusal) → get_refusal (node_at w n) at ≡ Some x → BooksRefuse k.books (Get n at) x → MayRefuse a (Get n at) x
    get-why refusals.Stranger h p = get-strange h
    get-why refusals.Empty h p = get-holds refusals.Empty h (λ q. cc)
    get-why refusals.PeerClosed h p = let held = get-holds refusals.PeerClosed h (λ q. cc) in let t = marked held p in (held, t.0, t.1)
    get-why any h p = absurd p

    -- why a close may be
    pub close-why : (x : Refusal) → close_refusal (node_at w n) at ≡ Some x → MayRefuse a (Close n at) x
    unfolding close_refusal refusal_at
    close-why x h = go (holds_end (node_at w n) at) refl h
      where
        strange : holds_end (node_at w n) at ≡ false → refusals.Stranger ≡ x → MayRefuse a (Close n at) x
        strange q e = subst (MayRefuse a (Close n at)) e (sym (k.holder n at l) ∙ q)

        found : (o : Option Found) → is_some o ≡ true → refusal_at o (λ r. None) ≡ Some x → ⊥
        found None e h = cc
        found (Some f) e h = cc

        go : (c : Bool) → holds_end (node_at w n) at ≡ c →
            (if not c then Some refusals.Stranger else refusal_at (terminal_of (node_at w n) at) (λ r. None)) ≡ Some x → MayRefuse a (Close n at) x
        go false q h = strange q (same_Some refusals.Stranger x h)
        go true q h = absurd (found (terminal_of (node_at w n) at) (held_have_terminals w k.books k.routes n at k.lawful l q) h)
