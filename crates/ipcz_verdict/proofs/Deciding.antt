-- The judge's tests and the machine's.
use Rattle.std.specs.Prelude.{◌≡◌, ℕ, Bool, true, false, not, ◌&&◌, ◌||◌, nat_lt, Option, Some, None, is_some, List, [], ◌∷◌, length, refl, if◌then◌else◌}
use Rattle.std.proofs.Common.{ap, ap₂, ◌∙◌, sym, subst}
use Rattle.ipcz_base.specs.declared.end.End.{End}
use Rattle.ipcz_base.specs.declared.parcel.Parcel.{Parcel}
use Rattle.ipcz_base.specs.declared.profile.Profile.{Profile}
use Rattle.ipcz_base.specs.declared.profile.Profile.TheVariants.{Printed, Wide}
use Rattle.ipcz_base.specs.declared.refusal.Refusal.TheVariants as why
use Rattle.ipcz_base.specs.Ends.{has_end}
use Rattle.ipcz_base.specs.Limits.{most_bytes, most_ends, takes_bytes}
use Rattle.ipcz_world.specs.declared.step.Step.TheVariants as steps
use Rattle.ipcz_world.specs.declared.step.Reply.TheVariants as replies
use Rattle.ipcz_promise.specs.Promise.{Account, IsPut, May, close_portal, first_refusal, hold_each, holds, is_holder, peer, put_parcel}
use Rattle.ipcz_verdict.specs.declared.portal.Portal.{Portal}
use Rattle.ipcz_verdict.specs.Ledger.{put_step}
use Rattle.ipcz_verdict.specs.Desks.{AreBooksOf, AreDue, ClosesDropped, DecidesCall, HasCalled, Sends, SendsOff, account_of, closing, counting_put, ends_in, holding_each, portal_at, pushing, sending}
use Rattle.ipcz_verdict.proofs.Allowed.{due_close, due_put_open, due_put_shut, sent_closed}
use Rattle.ipcz_verdict.proofs.Facts.{both, some_none}
use Rattle.ipcz_verdict.proofs.Sound.{Accepted, accepted_tells}
use Rattle.ipcz_verdict.proofs.Turns.{no_turn}

-- ---- tests of holders look at holders alone

holds_same : (a b : Account) (node : ℕ) (e : End) → ((x : End) → a.holder x ≡ b.holder x) → holds a node e ≡ holds b node e
holds_same a b node e h = ap (λ o. is_holder o node) (h e)

each_same : (a b : Account) (node : ℕ) (es : List End) → ((x : End) → a.holder x ≡ b.holder x) → hold_each a node es ≡ hold_each b node es
each_same a b node [] h = refl
each_same a b node (e ∷ es) h = ap₂ (λ c d. c && (not (has_end e es) && d)) (holds_same a b node e h) (each_same a b node es h)

first_same : (profile : Profile) (a b : Account) (node : ℕ) (at : End) (bytes : List ℕ) (ends : List End) → ((x : End) → a.holder x ≡ b.holder x) →
    first_refusal profile a node at bytes ends ≡ first_refusal profile b node at bytes ends
first_same profile a b node at bytes ends h = ap₂ (λ c d.
    if not c then Some why.Stranger
    else if nat_lt (most_bytes profile) (length bytes) || nat_lt most_ends (length ends) then Some why.TooMany
    else if not (takes_bytes profile bytes) then Some why.BadData
    else if has_end at ends then Some why.SelfAttach
    else if has_end (peer at) ends then Some why.PeerAttach
    else if not d then Some why.Stranger
    else None) (holds_same a b node at h) (each_same a b node ends h)

pub books_hold : (a : Account) (pairs : ℕ) (s : List Portal) (node : ℕ) (e : End) → AreBooksOf a pairs s → holds a node e ≡ holds (account_of s) node e
books_hold a pairs s node e books = holds_same a (account_of s) node e books.holder

pub books_first : (profile : Profile) (a : Account) (pairs : ℕ) (s : List Portal) (node : ℕ) (at : End) (bytes : List ℕ) (ends : List End) → AreBooksOf a pairs s →
    first_refusal profile a node at bytes ends ≡ first_refusal profile (account_of s) node at bytes ends
books_first profile a pairs s node at bytes ends books = first_same profile a (account_of s) node at bytes ends books.holder

-- ---- a put

may_put : (profile : Profile) (a : Account) (node : ℕ) (at : End) (p : Parcel) (number : ℕ) → IsPut profile a node at p number →
    May a (put_step profile node at p.bytes p.ends) (replies.Put number) (put_parcel a at p)
may_put Printed a node at p number is = (is, refl)
may_put Wide a node at p number is = (is, refl)

put_tells : (profile : Profile) (a c : Account) (node : ℕ) (at : End) (bytes : List ℕ) (ends : List End) (number : ℕ) →
    May a (put_step profile node at bytes ends) (replies.Put number) c → IsPut profile a node at (record { bytes = bytes; ends = ends }) number
put_tells Printed a c node at bytes ends number may = may.0
put_tells Wide a c node at bytes ends number may = may.0

pub put_done : (profile : Profile) (s t : List Portal) (node : ℕ) (at : End) (p : Parcel) (number : ℕ) →
    first_refusal profile (account_of s) node at p.bytes p.ends ≡ None → (portal_at s at).put ≡ number → Sends s at p t →
    DecidesCall s (put_step profile node at p.bytes p.ends) (replies.Put number) true t
put_done profile s t node at p number accepted numbered sends a pairs due =
    go (portal_at (sending s at p.ends) (peer at)).closed (sym (sent_closed s at p.ends (peer at))) sends
  where
    first : first_refusal profile a node at p.bytes p.ends ≡ None
    first = books_first profile a pairs s node at p.bytes p.ends due.books ∙ accepted

    fine : Accepted a node at p.ends
    fine = accepted_tells profile a node at p.bytes p.ends first

    may : May a (put_step profile node at p.bytes p.ends) (replies.Put number) (put_parcel a at p)
    may = may_put profile a node at p number (record { accepted = first; numbered = sym numbered ∙ sym (due.books.put at) })

    go : (c : Bool) → (portal_at s (peer at)).closed ≡ c → SendsOff c s at p t → HasCalled a pairs (put_step profile node at p.bytes p.ends) (replies.Put number) t
    go false open_peer new = record {
      called = put_parcel a at p;
      rested = put_parcel a at p;
      may = may;
      turns = no_turn (put_parcel a at p);
      nodes = refl;
      due = subst (λ (x : List Portal). AreDue (put_parcel a at p) pairs x []) (sym new) (due_put_open a pairs s node at p due fine.holds fine.held open_peer);
    }
    go true closed_peer closes =
        let k = closes (put_parcel a at p) pairs (due_put_shut a pairs s node at p due fine.holds fine.held closed_peer) in
        record { called = put_parcel a at p; rested = k.0; may = may; turns = k.1; nodes = k.2; due = k.3 }

pub put_refused : (profile : Profile) (s t : List Portal) (node : ℕ) (at : End) (p : Parcel) (number : ℕ) →
    (first_refusal profile (account_of s) node at p.bytes p.ends ≡ None → ⊥) → DecidesCall s (put_step profile node at p.bytes p.ends) (replies.Put number) false t
put_refused profile s t node at p number other a pairs due c may =
    other (sym (books_first profile a pairs s node at p.bytes p.ends due.books) ∙ (put_tells profile a c node at p.bytes p.ends number may).accepted)

pub put_miscounted : (profile : Profile) (s t : List Portal) (node : ℕ) (at : End) (p : Parcel) (number : ℕ) →
    ((portal_at s at).put ≡ number → ⊥) → DecidesCall s (put_step profile node at p.bytes p.ends) (replies.Put number) false t
put_miscounted profile s t node at p number other a pairs due c may =
    other (sym (due.books.put at) ∙ sym (put_tells profile a c node at p.bytes p.ends number may).numbered)

-- ---- a close

pub close_done : (s t u : List Portal) (node : ℕ) (at : End) (number : ℕ) (dropped : List End) → holds (account_of s) node at ≡ true → (portal_at s at).put ≡ number →
    t ≡ closing s at → dropped ≡ ends_in (portal_at s at).waiting → ClosesDropped t dropped u → DecidesCall s (steps.Close node at) (replies.Closed number) true u
close_done s t u node at number dropped mine numbered new is closes a pairs due =
    let held = books_hold a pairs s node at due.books ∙ mine in
    let k = closes (close_portal a at) pairs (subst (λ (x : List Portal). AreDue (close_portal a at) pairs x dropped) (sym new)
    (subst (λ (x : List End). AreDue (close_portal a at) pairs (closing s at) x) (sym is) (due_close a pairs s node at due held))) in
    record {
      called = close_portal a at;
      rested = k.0;
      may = (held, sym numbered ∙ sym (due.books.put at), refl);
      turns = k.1;
      nodes = k.2;
      due = k.3;
    }

pub close_unheld : (s t : List Portal) (node : ℕ) (at : End) (number : ℕ) → holds (account_of s) node at ≡ false → DecidesCall s (steps.Close node at) (replies.Closed number) false t
close_unheld s t node at number not_mine a pairs due c may = both (holds (account_of s) node at) (sym (books_hold a pairs s node at due.books) ∙ may.0) not_mine

pub close_miscounted : (s t : List Portal) (node : ℕ) (at : End) (number : ℕ) → ((portal_at s at).put ≡ number → ⊥) → DecidesCall s (steps.Close node at) (replies.Closed number) false t
close_miscounted s t node at number other a pairs due c may = other (sym (due.books.put at) ∙ sym may.1)

-- ---- the books of a put

between : (s s1 s2 : List Portal) (at : End) (p : Parcel) (es : List End) → s1 ≡ counting_put s at → es ≡ p.ends → s2 ≡ holding_each s1 es None → s2 ≡ sending s at p.ends
between s s1 s2 at p es first same second = second ∙ ap (λ t. holding_each t es None) first ∙ ap (λ x. holding_each (counting_put s at) x None) same

pub sends_shut : (s s1 s2 t : List Portal) (at other : End) (p : Parcel) (es dropped : List End) (closed : Bool) → s1 ≡ counting_put s at → es ≡ p.ends →
    s2 ≡ holding_each s1 es None → other ≡ peer at → closed ≡ (portal_at s2 other).closed → closed ≡ true → dropped ≡ p.ends → ClosesDropped s2 dropped t → Sends s at p t
sends_shut s s1 s2 t at other p es dropped closed first same second is_peer told shut is closes =
    let w = between s s1 s2 at p es first same second in
    let flag : true ≡ (portal_at (sending s at p.ends) (peer at)).closed =
    sym shut ∙ told ∙ ap₂ (λ (x : List Portal) y. (portal_at x y).closed) w is_peer in
    subst (λ c. SendsOff c s at p t) flag (subst (λ (x : List Portal). ClosesDropped x p.ends t) w (subst (λ x. ClosesDropped s2 x t) is closes))

pub sends_open : (s s1 s2 t : List Portal) (at other : End) (p : Parcel) (es : List End) (closed : Bool) → s1 ≡ counting_put s at → es ≡ p.ends →
    s2 ≡ holding_each s1 es None → other ≡ peer at → closed ≡ (portal_at s2 other).closed → closed ≡ false → t ≡ pushing s2 other p → Sends s at p t
sends_open s s1 s2 t at other p es closed first same second is_peer told open_peer new =
    let w = between s s1 s2 at p es first same second in
    let flag : false ≡ (portal_at (sending s at p.ends) (peer at)).closed =
    sym open_peer ∙ told ∙ ap₂ (λ (x : List Portal) y. (portal_at x y).closed) w is_peer in
    subst (λ c. SendsOff c s at p t) flag (new ∙ ap₂ (λ (x : List Portal) y. pushing x y p) w is_peer)

pub some_then : {X : Type 0} (o : Option X) {q : Option X} → is_some o ≡ true → o ≡ q → q ≡ None → ⊥
some_then None h e n = some_none_bool h
  where
    some_none_bool : false ≡ true → ⊥
    some_none_bool h = cc
some_then (Some x) {q} h e n = some_none q (sym e) n

pub none_then : {X : Type 0} (o : Option X) → is_some o ≡ false → o ≡ None
none_then None h = refl
none_then (Some x) h = cc
