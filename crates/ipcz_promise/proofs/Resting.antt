-- At rest a get is Empty only if all that the peer has put was got, and each portal that was dropped is closed.
use Rattle.std.specs.Prelude.{◌≡◌, ◌≤◌, ◌<◌, ℕ, zero, suc, Bool, true, false, nat_lt, Option, Some, None, List, [], ◌∷◌, length, map, take, refl}
use Rattle.std.proofs.Common.{arith, ap, ◌∙◌, sym, inl, inr}
use Rattle.std.proofs.lemmas.Bool.Decides.{nat_tests}
use Rattle.ipcz_base.specs.declared.item.Item.TheVariants.{Parcel, Mark, Gone}
use Rattle.ipcz_base.specs.declared.refusal.Refusal.TheVariants as refusals
use Rattle.ipcz_base.specs.Ends.{has_end}
use Rattle.ipcz_router.specs.Calls.{item_refusal}
use Rattle.ipcz_node.specs.Node.{holds_end}
use Rattle.ipcz_node.specs.Acts.{are_empty, is_quiet}
use Rattle.ipcz_node.specs.Calls.{get_refusal, refusal_at}
use Rattle.ipcz_world.specs.declared.step.Step.TheVariants.{Get}
use Rattle.ipcz_world.specs.declared.step.Reply.TheVariants as replies
use Rattle.ipcz_world.specs.Books.{read}
use Rattle.ipcz_world.specs.Settling.{IsQuiet}
use Rattle.ipcz_world.specs.Steps.{StepAny, get_reply, got_reply}
use Rattle.ipcz_world.proofs.Vocabulary.{End, Found, Item, Key, Node, World, current_item, is_closed, item_at, node_at, opposite_end, router_at, terminal_of}
use Rattle.ipcz_world.proofs.acts.Gets.{get_tells}
use Rattle.ipcz_world.proofs.facts.Finding.{IsTerminalOf, terminal_tells}
use Rattle.ipcz_world.proofs.facts.Tests.{and_first, and_second, nat_eq-is}
use Rattle.ipcz_world.proofs.lawful.Quiet.{router-is}
use Rattle.ipcz_world.proofs.lawful.QuietDelivery.{closed_read, delivered}
use Rattle.ipcz_promise.specs.Promise.{Account, holds, IsDelivered}
use Rattle.ipcz_promise.specs.Accounting.{IsUngotAt, RestCloses, Stands}
use Rattle.ipcz_promise.proofs.DroppedParcels.{dropped-ungot-at}
use Rattle.ipcz_promise.proofs.Inverting.{call-cases}
use Rattle.ipcz_promise.proofs.Parcels.{each-got}
use Rattle.ipcz_promise.proofs.Refusals.{get-holds, open-held, prefix-at, read-is}

-- what a get finds that is refused as empty: the terminal of the end, and nothing at its current number
record FindsNone (x : Node) (e : End) : Type 0 where
  at : Found
  is : terminal_of x e ≡ Some at
  none : current_item at.router.in_queue ≡ None

no-item : (o : Option Item) → item_refusal o ≡ Some refusals.Empty → o ≡ None
unfolding item_refusal
no-item None h = refl
no-item (Some (Parcel p)) h = cc
no-item (Some Mark) h = cc
no-item (Some Gone) h = cc

finds-none : (x : Node) (e : End) → get_refusal x e ≡ Some refusals.Empty → FindsNone x e
unfolding get_refusal refusal_at
finds-none x e h = go (holds_end x e) (terminal_of x e) refl refl
  where
    go : (c : Bool) (o : Option Found) → holds_end x e ≡ c → terminal_of x e ≡ o → FindsNone x e
    go false o p q = absurd (grind (arith, p, h))
    go true None p q = absurd (grind (arith, p, q, h))
    go true (Some f) p q = record { at = f; is = q; none = no-item (current_item f.router.in_queue) (grind (arith, p, q, h)) }

take-whole : {X : Type 0} (n : ℕ) (xs : List X) → length xs ≤ n → take n xs ≡ xs
take-whole zero [] l = refl
take-whole (suc n) [] l = refl
take-whole zero (x ∷ xs) l = absurd (omega (arith, l))
take-whole (suc n) (x ∷ xs) l = ap (λ t. x ∷ t) (take-whole n xs (omega (arith, l)))

module _ (w v : World) (a : Account) (k : Stands w a) (n : ℕ) (at : End) where
  -- a get is refused as empty only by its node
  empty-refused : StepAny w (Get n at) (replies.Refused refusals.Empty) v →
      (n < w.count) × (get_refusal (node_at w n) at ≡ Some refusals.Empty)
  unfolding get_reply got_reply
  empty-refused s = elim (call-cases w n (get_refusal (node_at w n) at) _ (replies.Refused refusals.Empty) v s) [
    | inl d ↦
        let is = get_tells (node_at w n) at d.fine in
        let said : replies.Refused refusals.Empty ≡ replies.Got is.found.router.in_queue.current is.parcel =
        d.says ∙ ap get_reply is.is_found ∙ ap (got_reply is.found.router.in_queue.current) is.item in
        cc
    | inr r ↦ elim r.because [
      | inl x ↦ let e : refusals.Empty ≡ refusals.Stranger = same (r.says) ∙ x.1 in cc
      | inr x ↦ (x.0, x.1 ∙ ap Some (sym (same (r.says))))
    ]
  ]
    where
      same : {p q : _} → replies.Refused p ≡ replies.Refused q → p ≡ q
      same h = cc

  module _ (quiet : IsQuiet w) (inside : n < w.count) (refused : get_refusal (node_at w n) at ≡ Some refusals.Empty) where
    none : FindsNone (node_at w n) at
    none = finds-none (node_at w n) at refused

    abbrev key : Key
    key = record { node = n; serial = none.at.serial }

    is : IsTerminalOf (node_at w n) at none.at.serial none.at.router
    is = terminal_tells (node_at w n) at none.at none.is

    here : router_at w key ≡ Some none.at.router
    here = router-is w n none.at.serial ∙ is.here

    held : holds a n at ≡ true
    held = get-holds w a k n at inside refusals.Empty refused (λ q. cc)

    open_ : is_closed k.books at ≡ false
    open_ = open-held w a k n at inside held

    bare : item_at none.at.router.in_queue (read k.books at) ≡ None
    bare = ap (item_at none.at.router.in_queue)
        (sym (ap (read k.books) is.end) ∙ sym (k.lawful.conserved.current key none.at.router here is.terminal)) ∙ none.none

    -- what is put and not read stands at the end's terminal if nothing waits, wherever proxies stand in its way
    all_read : length (k.books.put (opposite_end at)) ≤ read k.books at
    all_read = go (nat_lt (read k.books at) (length (k.books.put (opposite_end at)))) refl
      where
        go : (c : Bool) → nat_lt (read k.books at) (length (k.books.put (opposite_end at))) ≡ c →
            length (k.books.put (opposite_end at)) ≤ read k.books at
        go false e = grind (arith, e, nat_tests)
        go true e = absurd (delivered w k.books k.lawful.records k.lawful.inv quiet k.lawful.ranked k.lawful.flagged at (read k.books at)
            key none.at.router here is.terminal is.end (omega arith) (grind (arith, e, nat_tests)) bare)

    all_got : map Parcel (k.books.got at) ≡ k.books.put (opposite_end at)
    all_got = sym (prefix-at w a k at) ∙ take-whole (length (k.books.got at)) (k.books.put (opposite_end at))
        (omega (arith, all_read, read-is w a k at open_))

    is_delivered : IsDelivered a at
    is_delivered =
        let t = each-got (k.books.got at) (k.books.put (opposite_end at)) all_got in
        (k.got at ∙ sym (k.put (opposite_end at) ∙ t.0), k.closed (opposite_end at) ∙ t.1)

  pub rest_delivers : IsQuiet w → StepAny w (Get n at) (replies.Refused refusals.Empty) v → IsDelivered a at
  rest_delivers quiet s = let h = empty-refused s in is_delivered quiet h.0 h.1

-- and each portal that was dropped is closed then: a sink has read all that was put for it, and no close is pending
pub rest_closes : RestCloses
unfolding is_quiet
rest_closes w a kept quiet e is = elim (k.pending.closes e t.0 (omega (arith, t.1, read_all))) [
  | inl (n, l, h) ↦ absurd (none n l h)
  | inr h ↦ k.closed e ∙ h
]
  where
    k : Stands w a
    k = kept.stands

    t : (was : IsUngotAt k.books e) × (was.number < length (k.books.put (opposite_end was.at)))
    t = dropped-ungot-at w a k e is

    read_all : read k.books t.0.at ≡ length (k.books.put (opposite_end t.0.at))
    read_all = closed_read w k.books k.lawful.records k.lawful.inv quiet k.lawful.ranked k.lawful.flagged t.0.at t.0.closed

    none : (n : ℕ) → n < w.count → has_end e (node_at w n).pending ≡ true → ⊥
    none n l h = go (node_at w n).pending (nat_eq-is _ 0 (and_first _ _ (and_second (are_empty (node_at w n).outboxes) _ (quiet.nodes n l)))) h
      where
        go : (xs : List End) → length xs ≡ 0 → has_end e xs ≡ true → ⊥
        go [] q h = cc
        go (x ∷ xs) q h = absurd (omega (arith, q))
