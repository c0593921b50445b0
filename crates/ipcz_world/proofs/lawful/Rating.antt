-- A turn keeps rates that fit: a pending close writes the mark, which the caps have left room for, and a discard reads one more.
use Rattle.std.specs.Prelude.{◌≡◌, ◌≤◌, ◌<◌, ℕ, zero, suc, ◌+◌, Bool, true, false, not, cond, ◌||◌, Some, List, []}
use Rattle.std.specs.Prelude.{◌∷◌, ◌++◌, length, slice_get, refl}
use Rattle.std.proofs.Common.{arith, ap, subst, ◌∙◌, sym, inl, inr}
use Rattle.std.proofs.lemmas.Option.{slice_get_within}
use Rattle.ipcz_world.proofs.Vocabulary.{Side, A, B, opposite, End, Item, opposite_end, same_end, ends_in, World, Books, read, is_closed, Mark, Gone}
use Rattle.ipcz_world.proofs.Vocabulary.{Happened, Turn, has_mark, is_retired, add_put, after_turn, advance, Routes, routes_after, Lawful}
use Rattle.ipcz_world.proofs.Vocabulary.{StepKeepsLawful, is_gone_item, Rates, worth}
use Rattle.ipcz_node.specs.declared.happened.Happened.TheVariants as events
use Rattle.ipcz_world.specs.declared.step.Reply.{Reply}
use Rattle.ipcz_world.specs.declared.step.Reply.TheVariants as replies
use Rattle.ipcz_world.specs.Books.{has_gone, add_gone}
use Rattle.ipcz_world.specs.Plain.{Plain, PlainTurn}
use Rattle.ipcz_world.specs.WorldLaws.{RepliesPlainly}
use Rattle.ipcz_world.proofs.frames.Flowing.{slice_get-last}
use Rattle.ipcz_world.proofs.frames.Booking.{length-more, has_mark-more}
use Rattle.ipcz_world.proofs.facts.LinkTests.{same_end-itself, same_end-tells, opposite_end-twice}
use Rattle.ipcz_world.specs.Ranks.{may_put, moving_worth, IsRated, TurnsKeepRates}
use Rattle.ipcz_world.proofs.facts.Tests.{not_both}
use Rattle.ipcz_world.proofs.lawful.QuietDirect.{mark_at}
use Rattle.ipcz_world.proofs.facts.Drained.{gone_found, gone_stands}
use Rattle.ipcz_world.proofs.lawful.RouterWorths.{worth-most}

slice_get-kept : {X : Type 0} (xs : List X) (y x : X) (n : ℕ) → slice_get xs n ≡ Some x → slice_get (xs ++ y ∷ []) n ≡ Some x
slice_get-kept [] y x n e = cc
slice_get-kept (z ∷ xs) y x zero e = e
slice_get-kept (z ∷ xs) y x (suc n) e = slice_get-kept xs y x n e

slice_get-end : {X : Type 0} (xs : List X) (y : X) → slice_get (xs ++ y ∷ []) (length xs) ≡ Some y
slice_get-end [] y = refl
slice_get-end (z ∷ xs) y = slice_get-end xs y

-- what the end of an item more has put
put-here : (b : Books) (e : End) (x : Item) → (add_put b e x).put e ≡ b.put e ++ x ∷ []
put-here b e x = ap (λ t. cond t (b.put e ++ x ∷ []) (b.put e)) (same_end-itself e)

-- an item without ends is written, for which there is room
rated-put : (c : Rates) (b : Books) (e : End) (x : Item) → IsRated c b → ends_in x ≡ [] → length (b.put e) + 1 ≤ c.cap e →
    (is_retired (add_put b e x) e ≡ false → (length (b.put e) + 1) + may_put (add_put b e x) e ≤ c.cap e) → IsRated c (add_put b e x)
rated-put c b e x law free low space = record {
  capped = λ d n item l at. caps d (same_end d e) refl n item l at;
  room = λ d h k. rooms d (same_end d e) refl h (older (opposite_end d) (same_end (opposite_end d) e) refl k);
  least = law.least;
  pays = λ d n item l at. pay d (same_end d e) refl n item l at;
}
  where
    caps : (d : End) (t : Bool) → same_end d e ≡ t → (n : ℕ) (item : Item) → read b (opposite_end d) ≤ n →
        slice_get (cond t (b.put e ++ x ∷ []) (b.put d)) n ≡ Some item → n < c.cap d
    caps d false q n item l at = law.capped d n item l at
    caps d true q n item l at = let is : d ≡ e = same_end-tells d e q in
        elim (slice_get-last (b.put e) x item n at) [
          | inl h ↦ law.capped d n item l (ap (λ z. slice_get (b.put z) n) is ∙ h)
          | inr h ↦ omega (arith, low, h.0, ap c.cap is)
        ]

    -- who hasn't retired after it hadn't before
    older : (d : End) (t : Bool) → same_end d e ≡ t → has_gone (cond t (b.put e ++ x ∷ []) (b.put d)) ≡ false → is_retired b d ≡ false
    older d false q h = h
    older d true q h = ap (is_retired b) (same_end-tells d e q) ∙ less (b.put e) h
      where
        less : (xs : List Item) → has_gone (xs ++ x ∷ []) ≡ false → has_gone xs ≡ false
        less [] h = refl
        less (y ∷ ys) h = by (is_gone_item y) h (less ys)
          where
            by : (c : Bool) → (c || has_gone (ys ++ x ∷ [])) ≡ false → (has_gone (ys ++ x ∷ []) ≡ false → has_gone ys ≡ false) →
                (c || has_gone ys) ≡ false
            by true h more = cc
            by false h more = more h

    rooms : (d : End) (t : Bool) → same_end d e ≡ t → has_gone (cond t (b.put e ++ x ∷ []) (b.put d)) ≡ false →
        is_retired b (opposite_end d) ≡ false →
        length (cond t (b.put e ++ x ∷ []) (b.put d)) + (worth 1 (not (has_mark (cond t (b.put e ++ x ∷ []) (b.put d)))) +
        worth 1 (not (has_gone (cond t (b.put e ++ x ∷ []) (b.put d))))) ≤ c.cap d
    rooms d false q h k = law.room d h k
    rooms d true q h k =
        let is : d ≡ e = same_end-tells d e q in
        let most = space (ap has_gone (put-here b e x) ∙ h) in
        omega (
          arith,
          length-more (b.put e) x,
          subst (λ xs. (length (b.put e) + 1) + (worth 1 (not (has_mark xs)) + worth 1 (not (has_gone xs))) ≤ c.cap e)
              (put-here b e x) most,
          ap c.cap is,
        )

    pay : (d : End) (t : Bool) → same_end d e ≡ t → (n : ℕ) (item : Item) → read b (opposite_end d) ≤ n →
        slice_get (cond t (b.put e ++ x ∷ []) (b.put d)) n ≡ Some item → 6 + moving_worth c (ends_in item) ≤ c.price d.pair
    pay d false q n item l at = law.pays d n item l at
    pay d true q n item l at = let is : d ≡ e = same_end-tells d e q in
        elim (slice_get-last (b.put e) x item n at) [
          | inl h ↦ law.pays d n item l (ap (λ z. slice_get (b.put z) n) is ∙ h)
          | inr h ↦ let none : moving_worth c (ends_in item) ≡ 0 = ap (λ z. moving_worth c (ends_in z)) h.1 ∙ ap (moving_worth c) free in
              omega (arith, none, law.least d.pair)
        ]

-- the mark is written
rated-marked : (c : Rates) (b : Books) (e : End) → IsRated c b → is_closed b e ≡ false → is_retired b e ≡ false →
    is_retired b (opposite_end e) ≡ false → IsRated c (add_put b e Mark)
rated-marked c b e law unclosed unretired peer = rated-put c b e Mark law refl (omega (arith, room)) (λ h. omega (
  arith,
  room,
  ap (λ t. worth 1 (not t)) closed,
  worth-most 1 (not (is_retired (add_put b e Mark) e)),
))
  where
    or_true : (a : Bool) → (a || true) ≡ true
    or_true true = refl
    or_true false = refl

    closed : is_closed (add_put b e Mark) e ≡ true
    closed = ap has_mark (put-here b e Mark) ∙ has_mark-more (b.put e) Mark ∙ or_true (has_mark (b.put e))

    room : length (b.put e) + (1 + 1) ≤ c.cap e
    room = subst (λ t. length (b.put e) + (1 + worth 1 (not t)) ≤ c.cap e) unretired
        (subst (λ t. length (b.put e) + (worth 1 (not t) + worth 1 (not (is_retired b e))) ≤ c.cap e) unclosed (law.room e unretired peer))

-- Gone is written
rated-retired : (c : Rates) (b : Books) (e : End) → IsRated c b → is_retired b e ≡ false → is_retired b (opposite_end e) ≡ false →
    IsRated c (add_put b e Gone)
rated-retired c b e law unretired peer = rated-put c b e Gone law refl (omega (arith, room))
    (λ h. absurd (not_both (is_retired (add_put b e Gone) e) (ap has_gone (put-here b e Gone) ∙ gone_last (b.put e)) h))
  where
    room : length (b.put e) + (worth 1 (not (is_closed b e)) + 1) ≤ c.cap e
    room = subst (λ t. length (b.put e) + (worth 1 (not (is_closed b e)) + worth 1 (not t)) ≤ c.cap e) unretired (law.room e unretired peer)

    gone_last : (xs : List Item) → has_gone (xs ++ Gone ∷ []) ≡ true
    gone_last xs = gone_found (xs ++ Gone ∷ []) (length xs) (slice_get-end xs Gone)

-- an item is dropped
rated-gone : (c : Rates) (b : Books) (e : End) → IsRated c b → IsRated c (add_gone b e)
rated-gone c b e law = record {
  capped = λ d n item l at. law.capped d n item (less (opposite_end d) (same_end (opposite_end d) e) refl n l) at;
  room = law.room;
  least = law.least;
  pays = λ d n item l at. law.pays d n item (less (opposite_end d) (same_end (opposite_end d) e) refl n l) at;
}
  where
    less : (d : End) (t : Bool) → same_end d e ≡ t → (n : ℕ) → length (b.got d) + cond t (b.gone e + 1) (b.gone d) ≤ n → read b d ≤ n
    less d false q n l = l
    less d true q n l = let is : b.gone d ≡ b.gone e = ap b.gone (same_end-tells d e q) in omega (arith, l, is)

-- what the mark comes to wasn't closed
unclosed-by : (w : World) (b : Books) (e : End) (g : Routes) → Lawful w (add_put b e Mark) g → is_closed b e ≡ false
unclosed-by w b e g law = go (is_closed b e) refl
  where
    more : (n : ℕ) (x : Item) → slice_get (b.put e ++ Mark ∷ []) n ≡ Some x → slice_get ((add_put b e Mark).put e) n ≡ Some x
    more n x at = ap (λ xs. slice_get xs n) (put-here b e Mark) ∙ at

    go : (t : Bool) → is_closed b e ≡ t → t ≡ false
    go false q = refl
    go true q =
        let k = mark_at (b.put e) q in
        absurd (omega (
          arith,
          law.inv.books_kept.mark_last e k.0 (more k.0 Mark (slice_get-kept (b.put e) Mark Mark k.0 k.1)),
          law.inv.books_kept.mark_last e (length (b.put e)) (more (length (b.put e)) Mark (slice_get-end (b.put e) Mark)),
          slice_get_within (b.put e) k.0 Mark k.1,
        ))

-- what Gone comes to hadn't retired
unretired-by : (w : World) (b : Books) (e : End) (g : Routes) → Lawful w (add_put b e Gone) g → is_retired b e ≡ false
unretired-by w b e g law = go (is_retired b e) refl
  where
    more : (n : ℕ) (x : Item) → slice_get (b.put e ++ Gone ∷ []) n ≡ Some x → slice_get ((add_put b e Gone).put e) n ≡ Some x
    more n x at = ap (λ xs. slice_get xs n) (put-here b e Gone) ∙ at

    go : (t : Bool) → is_retired b e ≡ t → t ≡ false
    go false q = refl
    go true q =
        let k = gone_stands (b.put e) q in
        absurd (omega (
          arith,
          law.inv.books_kept.gone_last e k.0 (more k.0 Gone (slice_get-kept (b.put e) Gone Gone k.0 k.1)),
          law.inv.books_kept.gone_last e (length (b.put e)) (more (length (b.put e)) Gone (slice_get-end (b.put e) Gone)),
          slice_get_within (b.put e) k.0 Gone k.1,
        ))

-- an end that isn't closed hasn't retired
unretired : (w : World) (b : Books) (e : End) (g : Routes) → Lawful w b g → is_closed b e ≡ false → is_retired b e ≡ false
unretired w b e g law h = go (is_retired b e) refl
  where
    go : (t : Bool) → is_retired b e ≡ t → is_retired b e ≡ false
    go false q = q
    go true q = absurd (not_both (is_closed b e) (law.inv.books_kept.retired_closed e q) h)

-- nor has its peer
unretired-peer : (w : World) (b : Books) (e : End) (g : Routes) → Lawful w b g → is_closed b e ≡ false → is_retired b (opposite_end e) ≡ false
unretired-peer w b e g law h = go (is_retired b (opposite_end e)) refl
  where
    go : (t : Bool) → is_retired b (opposite_end e) ≡ t → is_retired b (opposite_end e) ≡ false
    go false q = q
    go true q = absurd (not_both (is_closed b e) (ap (is_closed b) (sym (opposite_end-twice e))
        ∙ law.inv.retired_ends.peer_closed (opposite_end e) q) h)

-- nor has the peer of one that retires
peer-of : (w : World) (b : Books) (e : End) (g : Routes) → Lawful w (add_put b e Gone) g → is_retired b (opposite_end e) ≡ false
peer-of w b e g law = sym (ap (λ t. has_gone (cond t (b.put e ++ Gone ∷ []) (b.put (opposite_end e)))) (other e)) ∙
    law.inv.retired_ends.peer_stays e (ap has_gone (put-here b e Gone) ∙ gone_found (b.put e ++ Gone ∷ []) (length (b.put e)) (slice_get-end (b.put e) Gone))
  where
    other : (e : End) → same_end (opposite_end e) e ≡ false
    other e = go (same_end (opposite_end e) e) refl
      where
        go : (c : Bool) → same_end (opposite_end e) e ≡ c → c ≡ false
        go false q = refl
        go true q = absurd (apart e.side (ap (λ (d : End). d.side) (same_end-tells (opposite_end e) e q)))
          where
            apart : (s : Side) → opposite s ≡ s → ⊥
            apart A h = cc
            apart B h = cc

pub turns_keep_rates : StepKeepsLawful → RepliesPlainly → TurnsKeepRates
unfolding advance after_turn routes_after
turns_keep_rates keeps plain w v b g c n reply law rated step = by reply (plain w v b g (Turn n) reply law step)
    (keeps w v b g (Turn n) reply law step)
  where
    same : (d : Books) → d ≡ b → IsRated c d
    same d e = subst (IsRated c) (sym e) rated

    seen : (event : Happened) (h : Routes) → PlainTurn b event (after_turn w b n event) → Lawful v (after_turn w b n event) h →
        IsRated c (after_turn w b n event)
    seen (events.Close e) h p l = let u = unclosed-by v b e h l in rated-marked c b e rated u (unretired w b e g law u) (unretired-peer w b e g law u)
    seen (events.Discard s m) h p l = subst (IsRated c) (sym p.books) (rated-gone c b p.end rated)
    seen (events.DiscardLeave s m) h p l = subst (IsRated c) (sym p.discards.books) (rated-gone c b p.discards.end rated)
    seen (events.Retire s m k) h p l = subst (IsRated c) (sym p.books)
        (let m = subst (λ d. Lawful v d h) p.books l in rated-retired c b p.end rated (unretired-by v b p.end h m) (peer-of v b p.end h m))
    seen other h p q = same _ p

    by : (reply : Reply) → Plain b (Turn n) reply (advance w b (Turn n) reply) →
        Lawful v (advance w b (Turn n) reply) (routes_after w g (Turn n) reply) → IsRated c (advance w b (Turn n) reply)
    by (replies.Turned event) p l = seen event (routes_after w g (Turn n) (replies.Turned event)) p l
    by (replies.Refused why) p l = rated
    by other p l = absurd p
