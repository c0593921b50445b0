-- The replies to callers are those that the machine over the books alone allows, with the books after them.
use Rattle.std.specs.Prelude.{◌≡◌, ◌≤◌, ◌+◌, ℕ, Bool, true, false, cond, not, nat_lt, nat_le, if◌then◌else◌, Option, Some, None, List, length}
use Rattle.std.specs.Prelude.{slice_get, refl}
use Rattle.std.proofs.Common.{arith, ap, subst, ◌∙◌, sym, inl, inr}
use Rattle.std.proofs.lemmas.Bool.Decides.{nat_tests}
use Rattle.std.proofs.lemmas.Option.{same_Some}
use Rattle.ipcz_world.proofs.Vocabulary.{A, B, End, Item, Refusal, opposite_end, has_end, current_item, is_terminal, Found, terminal_of, Reply, World}
use Rattle.ipcz_world.proofs.Vocabulary.{Key, node_at, router_at, set_claimed, unless, Books, read, is_closed, Records, is_linked, Inv, Parcel, Mark}
use Rattle.ipcz_world.proofs.Vocabulary.{Gone, Profile, Printed, Wide, end_at, next_number, holds_end, put_refusal, get_refusal, close_refusal}
use Rattle.ipcz_world.proofs.Vocabulary.{serials_refusal, Step, Effect, refuse, open_with, open_on, open_step, close_step, has_mark, advance}
use Rattle.ipcz_world.proofs.Vocabulary.{has_unclaimed_word}
use Rattle.ipcz_base.specs.declared.parcel.Parcel as parcels
use Rattle.ipcz_base.specs.declared.refusal.Refusal.TheVariants as refusals
use Rattle.ipcz_base.specs.Limits.{last_number, takes_bytes, has_serials}
use Rattle.ipcz_router.specs.Calls.{item_refusal, router_get_refusal, router_put_refusal}
use Rattle.ipcz_node.specs.Calls.{are_held_once, are_too_many, refusal_at, number_at, put_number}
use Rattle.ipcz_world.specs.declared.step.Step.TheVariants.{Open, Get, Close}
use Rattle.ipcz_world.specs.declared.step.Reply.TheVariants as replies
use Rattle.ipcz_world.specs.Steps.{put_of, put_step, PutGives, got_reply, get_reply, get_step}
use Rattle.ipcz_world.specs.Steps.{Scheduler, StepBy, Gives}
use Rattle.ipcz_world.specs.Books.{next_item}
use Rattle.ipcz_world.specs.Plain.{IsUnwritten, MayRefuse, MayRefusePut, Plain}
use Rattle.ipcz_world.proofs.facts.Finding.{IsTerminalOf, terminal_tells}
use Rattle.ipcz_world.proofs.acts.Puts.{router_found, not_false}
use Rattle.ipcz_world.proofs.frames.OfRecords.{holds, holds_times}
use Rattle.ipcz_world.proofs.frames.Holding.{times_held-at}
use Rattle.ipcz_world.proofs.frames.Calling.{held_unclosed}
use Rattle.ipcz_world.proofs.facts.Drained.{gone_found}
use Rattle.ipcz_world.proofs.facts.LinkTests.{opposite_end-twice}
use Rattle.ipcz_world.proofs.facts.Tests.{not_both}
use Rattle.ipcz_world.proofs.acts.Gets.{get_tells}
use Rattle.ipcz_world.proofs.acts.Reading.{in_numbers}
use Rattle.ipcz_world.proofs.frames.RecordRules.{unclaimed-is}
use Rattle.ipcz_world.specs.Steps.{opened_reply}

module _ (w : World) (b : Books) (g : Records) (law : Inv w b g) where
  -- an effect that the machine over books allows
  abbrev pub IsFine : Step → Effect → Type 0
  IsFine step done = Plain b step done.reply (advance w b step done.reply)

  unless_fine : (step : Step) (o : Option Refusal) (done : Effect) → ((why : Refusal) → o ≡ Some why → IsFine step (refuse w why)) →
      (o ≡ None → IsFine step done) → IsFine step (unless w o done)
  unfolding unless
  unless_fine step None done refused given = given refl
  unless_fine step (Some why) done refused given = refused why refl

  chosen_fine : (step : Step) (c : Bool) (done other : Effect) → IsFine step done → IsFine step other → IsFine step (cond c done other)
  chosen_fine step true done other p q = p
  chosen_fine step false done other p q = q

  -- the terminal that was found, in the world
  at_terminal : (n : ℕ) (at : End) (f : Found) → terminal_of (node_at w n) at ≡ Some f →
      (router_at w (record { node = n; serial = f.serial }) ≡ Some f.router) × (is_terminal f.router ≡ true) × (f.router.end ≡ at)
  at_terminal n at f e = let t : IsTerminalOf (node_at w n) at f.serial f.router = terminal_tells (node_at w n) at f e in
      (router_found w n f.serial f.router t.here, t.terminal, t.end)

  next_is_all : (n : ℕ) (at : End) (f : Found) → terminal_of (node_at w n) at ≡ Some f → next_number f.router ≡ length (b.put at)
  next_is_all n at f e = let t = at_terminal n at f e in
      law.conserved.reach (record { node = n; serial = f.serial }) f.router t.0 t.1 ∙ ap (λ d. length (b.put d)) t.2

  number_is : (n : ℕ) (at : End) (f : Found) → terminal_of (node_at w n) at ≡ Some f → put_number (node_at w n) at ≡ length (b.put at)
  unfolding number_at
  number_is n at f e = ap (λ o. number_at o next_number) e ∙ next_is_all n at f e

  -- an open: the pair of a word that is no link's has no books yet
  unwritten : (e : End) → is_linked (g.owner e.pair) ≡ false → IsUnwritten b e
  unwritten e h =
      let n = law.terminals.unopened e h in
      record {
        put = law.conserved.unopened_put e n;
        got = law.conserved.unopened_got e n;
        gone =
            law.conserved.gone_closed e (ap has_mark (law.conserved.unopened_put e n));
      }

  open_refused : (n : ℕ) (why : Refusal) → MayRefuse b (Open n) why → IsFine (Open n) (refuse w why)
  unfolding advance
  open_refused n why h = (h, refl)

  opened_fine : (n i : ℕ) → is_linked (g.owner i) ≡ false → (v : World) →
      IsFine (Open n) (record { reply = opened_reply i; world = v })
  unfolding advance
  opened_fine n i h v = (refl, unwritten (end_at i A) h, unwritten (end_at i B) h, refl)

  opened_with : (counted : World) (n i : ℕ) → is_linked (g.owner i) ≡ false → IsFine (Open n) (open_with w counted n i)
  opened_with counted n i h = unless_fine (Open n) (serials_refusal (node_at w n)) _
      (λ why e. open_refused n why (few why (has_serials (node_at w n).next_router 2) e)) (λ e. opened_fine n i h w)
    where
      few : (why : Refusal) (c : Bool) → (if c then None else Some refusals.NumbersEnd) ≡ Some why → MayRefuse b (Open n) why
      few why true e = cc
      few why false e = subst (MayRefuse b (Open n)) (same_Some refusals.NumbersEnd why e) tt

  pub open-plain : (n : ℕ) → IsFine (Open n) (open_step w n)
  unfolding open_on is_linked
  open-plain n = chosen_fine (Open n) (nat_lt n w.count) _ _ (go (node_at w n).opening refl) (open_refused n refusals.Stranger tt)
    where
      fresh : is_linked (g.owner w.claimed) ≡ false
      fresh = ap is_linked (unclaimed-is (g.owner w.claimed) (law.counts.unclaimed w.claimed ∙ grind (arith, nat_tests)))

      go : (o : Option ℕ) → (node_at w n).opening ≡ o → IsFine (Open n) (open_on w n o)
      go (Some i) e = opened_with w n i (ap is_linked (law.spares.opening n i e))
      go None e = chosen_fine (Open n) (has_unclaimed_word w) _ _ (opened_with (set_claimed w (w.claimed + 1)) n w.claimed fresh)
          (open_refused n refusals.NoWord tt)

  -- a put
  module _ (profile : Profile) (n : ℕ) (at : End) (bytes : List ℕ) (ends : List End) where
    abbrev put_why : Refusal → Type 0
    put_why = MayRefusePut profile b at bytes ends

    -- a refusal is the first that holds, or one of those left
    first_of : (c : Bool) (why : Refusal) (left : Option Refusal) → (c ≡ true → put_why why) → ((x : Refusal) → left ≡ Some x → put_why x) →
        (x : Refusal) → (if c then Some why else left) ≡ Some x → put_why x
    first_of true why left here more x e = subst put_why (same_Some why x e) (here refl)
    first_of false why left here more x e = more x e

    at_router : (f : Found) → terminal_of (node_at w n) at ≡ Some f → (x : Refusal) → router_put_refusal f.router ≡ Some x → put_why x
    at_router f e = seen f.router.mark_seen refl
      where
        at_last : nat_le last_number (next_number f.router) ≡ true → last_number ≤ length (b.put at)
        at_last h = let low : last_number ≤ next_number f.router = grind (arith, h, nat_tests) in omega (arith, low, next_is_all n at f e)

        seen : (c : Bool) → f.router.mark_seen ≡ c → (x : Refusal) →
            (if c then Some refusals.PeerClosed else (if nat_le last_number (next_number f.router) then Some refusals.NumbersEnd else None))
            ≡ Some x → put_why x
        seen true q x h =
            let t = at_terminal n at f e in
            subst put_why (same_Some refusals.PeerClosed x h) (ap (λ d. is_closed b (opposite_end d)) (sym t.2) ∙ law.books_kept.mark_seen
            (record { node = n; serial = f.serial }) f.router t.0 q)
        seen false q x h = first_of (nat_le last_number (next_number f.router)) refusals.NumbersEnd None at_last (λ x e. cc) x h

    at_found : (o : Option Found) → terminal_of (node_at w n) at ≡ o → (x : Refusal) → refusal_at o router_put_refusal ≡ Some x → put_why x
    unfolding refusal_at
    at_found None e x h = subst put_why (same_Some refusals.Stranger x h) tt
    at_found (Some f) e x h = at_router f e x h

    isnt : (c : Bool) → not c ≡ true → c ≡ false
    isnt false h = refl
    isnt true h = cc

    put_whys : (x : Refusal) → put_refusal profile (node_at w n) at bytes ends ≡ Some x → put_why x
    unfolding put_refusal
    put_whys =
        first_of (not (holds_end (node_at w n) at)) refusals.Stranger _ (λ e. tt)
        (first_of (are_too_many profile bytes ends) refusals.TooMany _ (λ e. e)
        (first_of (not (takes_bytes profile bytes)) refusals.BadData _ (isnt (takes_bytes profile bytes))
        (first_of (has_end at ends) refusals.SelfAttach _ (λ e. e)
        (first_of (has_end (opposite_end at) ends) refusals.PeerAttach _ (λ e. e)
        (first_of (not (are_held_once (node_at w n) ends)) refusals.Stranger _ (λ e. tt) (at_found (terminal_of (node_at w n) at) refl))))))

    put_refused : (why : Refusal) → put_why why → IsFine (put_of profile n at bytes ends) (refuse w why)
    unfolding advance
    put_refused why h = go profile h
      where
        go : (p : Profile) → MayRefusePut p b at bytes ends why → IsFine (put_of p n at bytes ends) (refuse w why)
        go Printed h = (h, refl)
        go Wide h = (h, refl)

    not_refused : (o : Option Found) → terminal_of (node_at w n) at ≡ o → (c : Option Refusal) → refusal_at o router_put_refusal ≡ c →
        c ≡ None → (f : Found) × (terminal_of (node_at w n) at ≡ Some f)
    unfolding refusal_at
    not_refused None e c h z = cc
    not_refused (Some f) e c h z = (f, e)

    left_none : (c : Bool) (why : Refusal) (left : Option Refusal) → (if c then Some why else left) ≡ None → left ≡ None
    left_none true why left h = cc
    left_none false why left h = h

    put_found : put_refusal profile (node_at w n) at bytes ends ≡ None → (f : Found) × (terminal_of (node_at w n) at ≡ Some f)
    unfolding put_refusal
    put_found h =
        not_refused (terminal_of (node_at w n) at) refl (refusal_at (terminal_of (node_at w n) at) router_put_refusal) refl
        (left_none (not (are_held_once (node_at w n) ends)) refusals.Stranger _
        (left_none (has_end (opposite_end at) ends) refusals.PeerAttach _
        (left_none (has_end at ends) refusals.SelfAttach _ (left_none (not (takes_bytes profile bytes)) refusals.BadData _
        (left_none (are_too_many profile bytes ends) refusals.TooMany _
        (left_none (not (holds_end (node_at w n) at)) refusals.Stranger _ h))))))

    put_done : put_refusal profile (node_at w n) at bytes ends ≡ None → (v : World) →
        IsFine (put_of profile n at bytes ends) (record { reply = replies.Put (put_number (node_at w n) at); world = v })
    unfolding advance
    put_done h v = let f = put_found h in go profile (number_is n at f.0 f.1)
      where
        go : (p : Profile) → put_number (node_at w n) at ≡ length (b.put at) →
            IsFine (put_of p n at bytes ends) (record { reply = replies.Put (put_number (node_at w n) at); world = v })
        go Printed is = (is, refl)
        go Wide is = (is, refl)

    pub put-plain : IsFine (put_of profile n at bytes ends) (put_step profile w n at (record { bytes = bytes; ends = ends }))
    put-plain = chosen_fine (put_of profile n at bytes ends) (nat_lt n w.count) _ _
        (unless_fine (put_of profile n at bytes ends) (put_refusal profile (node_at w n) at bytes ends) _ (λ why h. put_refused why (put_whys why h))
        (λ h. put_done h w)) (put_refused refusals.Stranger tt)

  -- a get and a close
  module _ (n : ℕ) (at : End) where
    next_is : (f : Found) (item : Item) → terminal_of (node_at w n) at ≡ Some f → current_item f.router.in_queue ≡ Some item →
        (f.router.in_queue.current ≡ read b at) × (next_item b at ≡ Some item)
    next_is f item e q =
        let t = at_terminal n at f e in
        let k : Key = record { node = n; serial = f.serial } in
        let current : f.router.in_queue.current ≡ read b at = law.conserved.current k f.router t.0 t.1 ∙ ap (read b) t.2 in (
          current,
          ap (slice_get (b.put (opposite_end at))) (sym current) ∙ ap (λ d. slice_get (b.put (opposite_end d)) f.router.in_queue.current)
              (sym t.2)
              ∙ in_numbers w b g k f.router f.router.in_queue.current item law.conserved (law.counts.on_node k f.router t.0) t.0 q,
        )

    get_refused : (why : Refusal) → MayRefuse b (Get n at) why → IsFine (Get n at) (refuse w why)
    unfolding advance
    get_refused why h = (h, refl)

    item_why : (f : Found) → terminal_of (node_at w n) at ≡ Some f → (o : Option Item) → holds at (node_at w n).held ≡ true → current_item f.router.in_queue ≡ o →
        (x : Refusal) → item_refusal o ≡ Some x → MayRefuse b (Get n at) x
    unfolding item_refusal
    item_why f e None held q x h = subst (MayRefuse b (Get n at)) (same_Some refusals.Empty x h) tt
    item_why f e (Some (Parcel p)) held q x h = cc
    item_why f e (Some Mark) held q x h = subst (MayRefuse b (Get n at)) (same_Some refusals.PeerClosed x h) (next_is f Mark e q).1
    item_why f e (Some Gone) held q x h = absurd (not_both (is_closed b at) (ap (is_closed b) (sym (opposite_end-twice at)) ∙
        law.retired_ends.peer_closed (opposite_end at) (gone_found (b.put (opposite_end at)) (read b at) (next_is f Gone e q).1))
        (held_unclosed w b g at law.held_once (omega (
          arith,
          holds_times at (node_at w n).held held,
          times_held-at w n at
              (law.counts.on_node (record { node = n; serial = f.serial }) f.router (at_terminal n at f e).0),
        ))))

    get_at : holds_end (node_at w n) at ≡ true → (o : Option Found) → terminal_of (node_at w n) at ≡ o → (x : Refusal) → refusal_at o router_get_refusal ≡ Some x →
        MayRefuse b (Get n at) x
    unfolding refusal_at
    get_at held None e x h = subst (MayRefuse b (Get n at)) (same_Some refusals.Stranger x h) tt
    get_at held (Some f) e x h = item_why f e (current_item f.router.in_queue) held refl x h

    get_whys : (x : Refusal) → get_refusal (node_at w n) at ≡ Some x → MayRefuse b (Get n at) x
    unfolding get_refusal
    get_whys x h = go (not (holds_end (node_at w n) at)) refl h
      where
        go : (c : Bool) → not (holds_end (node_at w n) at) ≡ c → (if c then Some refusals.Stranger else refusal_at (terminal_of (node_at w n) at) router_get_refusal) ≡ Some x →
            MayRefuse b (Get n at) x
        go true e h = subst (MayRefuse b (Get n at)) (same_Some refusals.Stranger x h) tt
        go false e h = get_at (not_false (holds_end (node_at w n) at) e) (terminal_of (node_at w n) at) refl x h

    got_fine : (number : ℕ) (p : parcels.Parcel) (v : World) → number ≡ read b at → next_item b at ≡ Some (Parcel p) →
        IsFine (Get n at) (record { reply = replies.Got number p; world = v })
    unfolding advance
    got_fine number p v e f = (e, f, refl)

    get_done : get_refusal (node_at w n) at ≡ None → (v : World) →
        IsFine (Get n at) (record { reply = get_reply (terminal_of (node_at w n) at); world = v })
    unfolding get_reply got_reply
    get_done h v =
        let is = get_tells (node_at w n) at h in
        let said : get_reply (terminal_of (node_at w n) at) ≡ replies.Got is.found.router.in_queue.current is.parcel =
        ap get_reply is.is_found ∙ ap (got_reply is.found.router.in_queue.current) is.item in
        let x = next_is is.found (Parcel is.parcel) is.is_found is.item in
        subst (λ r. Plain b (Get n at) r (advance w b (Get n at) r)) (sym said)
        (got_fine is.found.router.in_queue.current is.parcel v x.0 x.1)

    pub get-plain : IsFine (Get n at) (get_step w n at)
    get-plain = chosen_fine (Get n at) (nat_lt n w.count) _ _
        (unless_fine (Get n at) (get_refusal (node_at w n) at) _ (λ why h. get_refused why (get_whys why h)) (λ h. get_done h w))
        (get_refused refusals.Stranger tt)

    close_refused : (why : Refusal) → MayRefuse b (Close n at) why → IsFine (Close n at) (refuse w why)
    unfolding advance
    close_refused why h = (h, refl)

    close_at : (o : Option Found) → terminal_of (node_at w n) at ≡ o → (x : Option Refusal) → refusal_at o (λ r. None) ≡ x →
        ((y : Refusal) → x ≡ Some y → MayRefuse b (Close n at) y) × (x ≡ None → (f : Found) × (terminal_of (node_at w n) at ≡ Some f))
    unfolding refusal_at
    close_at None e x h = (
      λ y q. subst (MayRefuse b (Close n at)) (same_Some refusals.Stranger y (h ∙ q)) tt,
      λ q. absurd (none_some (h ∙ q)),
    )
      where
        none_some : Some refusals.Stranger ≡ None → ⊥
        none_some q = cc
    close_at (Some f) e x h = (λ y q. absurd (none_some y (h ∙ q)), λ q. (f, e))
      where
        none_some : (y : Refusal) → None ≡ Some y → ⊥
        none_some y q = cc

    close_tells : ((y : Refusal) → close_refusal (node_at w n) at ≡ Some y → MayRefuse b (Close n at) y) ×
        (close_refusal (node_at w n) at ≡ None → (f : Found) × (terminal_of (node_at w n) at ≡ Some f))
    unfolding close_refusal
    close_tells = go (not (holds_end (node_at w n) at))
      where
        left : Option Refusal
        left = refusal_at (terminal_of (node_at w n) at) (λ r. None)

        go : (c : Bool) → ((y : Refusal) → (if c then Some refusals.Stranger else left) ≡ Some y → MayRefuse b (Close n at) y) ×
            ((if c then Some refusals.Stranger else left) ≡ None → (f : Found) × (terminal_of (node_at w n) at ≡ Some f))
        go true = (λ y h. subst (MayRefuse b (Close n at)) (same_Some refusals.Stranger y h) tt, λ h. cc)
        go false = close_at (terminal_of (node_at w n) at) refl left refl

    close_done : close_refusal (node_at w n) at ≡ None → (v : World) →
        IsFine (Close n at) (record { reply = replies.Closed (put_number (node_at w n) at); world = v })
    unfolding advance
    close_done h v = let f = close_tells.1 h in (number_is n at f.0 f.1, refl)

    pub close-plain : IsFine (Close n at) (close_step w n at)
    close-plain = chosen_fine (Close n at) (nat_lt n w.count) _ _
        (unless_fine (Close n at) (close_refusal (node_at w n) at) _ (λ why h. close_refused why (close_tells.0 why h))
        (λ h. close_done h w)) (close_refused refusals.Stranger tt)

  -- what gives the same is as fine
  given : (step : Step) (done : Effect) (reply : Reply) (v : World) → IsFine step done → Gives done reply v →
      Plain b step reply (advance w b step reply)
  given step done reply v fine gives = subst (λ r. Plain b step r (advance w b step r)) (sym gives.0) fine

-- the replies to callers
pub reply-open : (May : Scheduler) (w : World) (b : Books) (g : Records) (n : ℕ) (reply : Reply) (v : World) → Inv w b g →
    StepBy May w (Open n) reply v → Plain b (Open n) reply (advance w b (Open n) reply)
reply-open May w b g n reply v law step = elim step [
  | inl gives ↦ given w b g law (Open n) (open_step w n) reply v (open-plain w b g law n) gives
  | inr want ↦ given w b g law (Open n) (refuse w refusals.OutOfMemory) reply v (open_refused w b g law n refusals.OutOfMemory tt) want.1
]

pub reply-put : (profile : Profile) (w : World) (b : Books) (g : Records) (n : ℕ) (at : End) (bytes : List ℕ) (ends : List End)
    (reply : Reply) (v : World) → Inv w b g → PutGives w n (put_step profile w n at (record { bytes = bytes; ends = ends })) reply v →
    Plain b (put_of profile n at bytes ends) reply (advance w b (put_of profile n at bytes ends) reply)
reply-put profile w b g n at bytes ends reply v law step = elim step [
  | inl gives ↦ given w b g law (put_of profile n at bytes ends) (put_step profile w n at (record { bytes = bytes; ends = ends })) reply v
      (put-plain w b g law profile n at bytes ends) gives
  | inr want ↦ given w b g law (put_of profile n at bytes ends) (refuse w refusals.OutOfMemory) reply v
      (put_refused w b g law profile n at bytes ends refusals.OutOfMemory tt) want.1
]

pub reply-get : (May : Scheduler) (w : World) (b : Books) (g : Records) (n : ℕ) (at : End) (reply : Reply) (v : World) → Inv w b g →
    StepBy May w (Get n at) reply v → Plain b (Get n at) reply (advance w b (Get n at) reply)
reply-get May w b g n at reply v law step = given w b g law (Get n at) (get_step w n at) reply v (get-plain w b g law n at) step

pub reply-close : (May : Scheduler) (w : World) (b : Books) (g : Records) (n : ℕ) (at : End) (reply : Reply) (v : World) → Inv w b g →
    StepBy May w (Close n at) reply v → Plain b (Close n at) reply (advance w b (Close n at) reply)
reply-close May w b g n at reply v law step = elim step [
  | inl gives ↦ given w b g law (Close n at) (close_step w n at) reply v (close-plain w b g law n at) gives
  | inr want ↦ given w b g law (Close n at) (refuse w refusals.OutOfMemory) reply v (close_refused w b g law n at refusals.OutOfMemory tt)
      want.1
]
