-- Accounts that are like others, but for portals that aren't closed yet: what they allow, the others allow.
use Rattle.std.specs.Prelude.{◌≡◌, ◌≤◌, ℕ, Bool, true, false, cond, not, ◌&&◌, ◌||◌, nat_lt, Option, Some, None, List, [], ◌∷◌, length, map, slice_get, refl, if◌then◌else◌}
use Rattle.std.proofs.Common.{arith, ap, ◌∙◌, sym, subst, inl, inr}
use Rattle.std.proofs.Math.Path.{fun_ext}
use Rattle.ipcz_base.specs.declared.end.End.{End}
use Rattle.ipcz_base.specs.declared.parcel.Parcel.{Parcel}
use Rattle.ipcz_base.specs.declared.profile.Profile.{Profile}
use Rattle.ipcz_base.specs.declared.profile.Profile.TheVariants.{Printed, Wide}
use Rattle.ipcz_base.specs.declared.refusal.Refusal.{Refusal}
use Rattle.ipcz_base.specs.declared.refusal.Refusal.TheVariants as why
use Rattle.ipcz_base.specs.Ends.{same_end, has_end}
use Rattle.ipcz_base.specs.Limits.{most_bytes, most_ends, takes_bytes}
use Rattle.ipcz_node.specs.declared.happened.Happened.{Happened}
use Rattle.ipcz_node.specs.declared.happened.Happened.TheVariants as events
use Rattle.ipcz_world.specs.declared.step.Step.TheVariants.{Open, Put, PutWide, Get, Close, Turn}
use Rattle.ipcz_world.specs.declared.step.Reply.TheVariants as replies
use Rattle.ipcz_promise.specs.Promise.{Account, IsDropped, IsPut, HasClosedDropped, May, MayRefuse, MayRefusePut, MayRun, MayTurn}
use Rattle.ipcz_promise.specs.Promise.{close_portal, first_refusal, get_parcel, hold_each, holds, open_pair, peer, put_parcel}
use Rattle.ipcz_verdict.specs.Accounts.{IsSound, Lies}
use Rattle.ipcz_verdict.specs.Ledger.{MayTurns, put_step}
use Rattle.ipcz_verdict.proofs.Facts.{end_is}
use Rattle.ipcz_verdict.proofs.Sound.{holder_is}

abbrev pub lower : Account → (End → Bool) → Account
lower j closed = record j { closed = closed }

-- the one has closed no portal that the other hasn't, and is like it else
pub record IsBelow (a j : Account) : Type 0 where
  pub closed : End → Bool
  pub is : a ≡ lower j closed
  pub fewer : (e : End) → closed e ≡ true → j.closed e ≡ true

-- ---- turns

dropped_up : (j : Account) (closed : End → Bool) (e : End) → ((e : End) → closed e ≡ true → j.closed e ≡ true) → IsDropped (lower j closed) e → IsDropped j e
dropped_up j closed e fewer is =
    record { at = is.at; closed = fewer is.at is.closed; number = is.number; parcel = is.parcel; put = is.put; ungot = is.ungot; carried = is.carried }

close_below : (a c j : Account) (e : End) → IsBelow a j → HasClosedDropped j → IsDropped a e → a.holder e ≡ None → c ≡ close_portal a e → IsBelow c j
close_below a c j e below all dropped none is = record {
  closed = λ d. cond (same_end d e) true (below.closed d);
  is = is ∙ ap (λ x. close_portal x e) below.is ∙ ap (λ (h : End → Option ℕ). record j { closed = λ d. cond (same_end d e) true (below.closed d); holder = h }) (fun_ext same_holder);
  fewer = fewer;
}
  where
    unheld : j.holder e ≡ None
    unheld = ap (λ (x : Account). x.holder e) (sym below.is) ∙ none

    same_holder : (d : End) → cond (same_end d e) None (j.holder d) ≡ j.holder d
    same_holder d = elim (end_is d e) [
      | inl same ↦ ap (λ c. cond c None (j.holder d)) same.0 ∙ sym (ap j.holder same.1 ∙ unheld)
      | inr apart ↦ ap (λ c. cond c None (j.holder d)) apart.0
    ]

    fewer : (d : End) → cond (same_end d e) true (below.closed d) ≡ true → j.closed d ≡ true
    fewer d h = elim (end_is d e) [
      | inl same ↦ ap j.closed same.1 ∙ all e (dropped_up j below.closed e below.fewer (subst (λ x. IsDropped x e) below.is dropped))
      | inr apart ↦ below.fewer d (ap (λ c. cond c true (below.closed d)) (sym apart.0) ∙ h)
    ]

turn_below : (a c j : Account) (event : Happened) → IsBelow a j → HasClosedDropped j → MayTurn a event c → IsBelow c j
turn_below a c j (events.Close e) below all turn = close_below a c j e below all turn.0 turn.1 turn.3
turn_below a c j other below all turn = subst (λ x. IsBelow x j) (sym turn) below

run_below : (nodes : List ℕ) (seen : List Happened) (a c j : Account) → IsBelow a j → HasClosedDropped j → MayRun a (map Turn nodes) (map replies.Turned seen) c → IsBelow c j
run_below [] [] a c j below all run = subst (λ x. IsBelow x j) (sym run) below
run_below [] (s ∷ seen) a c j below all run = absurd run
run_below (n ∷ nodes) [] a c j below all run = absurd run
run_below (n ∷ nodes) (s ∷ seen) a c j below all run = run_below nodes seen run.0 c j (turn_below a run.0 j s below all run.1.1) all run.2

pub turns_below : (a c j : Account) → IsBelow a j → HasClosedDropped j → MayTurns a c → IsBelow c j
turns_below a c j below all turns = run_below turns.0 turns.1 a c j below all turns.2

-- ---- calls

-- what the higher accounts allow, with accounts above
pub record Above (j c : Account) (P : Account → Type 0) : Type 0 where
  pub after : Account
  pub may : P after
  pub below : IsBelow c after

each_up : (j : Account) (closed : End → Bool) (node : ℕ) (es : List End) → hold_each (lower j closed) node es ≡ hold_each j node es
each_up j closed node [] = refl
each_up j closed node (e ∷ es) = ap (λ c. holds j node e && (not (has_end e es) && c)) (each_up j closed node es)

pub first_up : (profile : Profile) (j : Account) (closed : End → Bool) (node : ℕ) (at : End) (bytes : List ℕ) (ends : List End) →
    first_refusal profile (lower j closed) node at bytes ends ≡ first_refusal profile j node at bytes ends
first_up profile j closed node at bytes ends = ap (λ c.
    if not (holds j node at) then Some why.Stranger
    else if nat_lt (most_bytes profile) (length bytes) || nat_lt most_ends (length ends) then Some why.TooMany
    else if not (takes_bytes profile bytes) then Some why.BadData
    else if has_end at ends then Some why.SelfAttach
    else if has_end (peer at) ends then Some why.PeerAttach
    else if not c then Some why.Stranger
    else None) (each_up j closed node ends)

put_up : (profile : Profile) (j c : Account) (closed : End → Bool) (node : ℕ) (at : End) (p : Parcel) (number : ℕ) → ((e : End) → closed e ≡ true → j.closed e ≡ true) →
    IsPut profile (lower j closed) node at p number → c ≡ put_parcel (lower j closed) at p → Above j c (λ k. IsPut profile j node at p number × (k ≡ put_parcel j at p))
put_up profile j c closed node at p number fewer put is = record {
  after = put_parcel j at p;
  may = (record { accepted = sym (first_up profile j closed node at p.bytes p.ends) ∙ put.accepted; numbered = put.numbered }, refl);
  below = record { closed = closed; is = is; fewer = fewer };
}

pub put_above : (profile : Profile) (a j c : Account) (node : ℕ) (at : End) (bytes : List ℕ) (ends : List End) (number : ℕ) → IsBelow a j →
    May a (put_step profile node at bytes ends) (replies.Put number) c → Above j c (May j (put_step profile node at bytes ends) (replies.Put number))
put_above Printed a j c node at bytes ends number below may =
    let m = subst (λ x. May x (Put node at bytes ends) (replies.Put number) c) below.is may in
    put_up Printed j c below.closed node at (record { bytes = bytes; ends = ends }) number below.fewer m.0 m.1
put_above Wide a j c node at bytes ends number below may =
    let m = subst (λ x. May x (PutWide node at bytes ends) (replies.Put number) c) below.is may in
    put_up Wide j c below.closed node at (record { bytes = bytes; ends = ends }) number below.fewer m.0 m.1

pub open_above : (a j c : Account) (node : ℕ) (d : End) → IsBelow a j → IsSound j → May a (Open node) (replies.Opened d (peer d)) c → Above j c (May j (Open node) (replies.Opened d (peer d)))
open_above a j c node d below law may =
    let m = subst (λ x. May x (Open node) (replies.Opened d (peer d)) c) below.is may in record {
      after = open_pair j node d;
      may = (
        m.0,
        m.1,
        record { unopened = m.2.unopened; put = m.2.put; got = m.2.got; unclosed = law.new_unclosed d m.2.unopened },
        record { unopened = m.3.unopened; put = m.3.put; got = m.3.got; unclosed = law.new_unclosed (peer d) m.3.unopened },
        refl,
      );
      below = record { closed = below.closed; is = m.4; fewer = below.fewer };
    }

pub get_above : (a j c : Account) (node : ℕ) (at : End) (p : Parcel) (number : ℕ) → IsBelow a j → IsSound j → May a (Get node at) (replies.Got number p) c →
    Above j c (May j (Get node at) (replies.Got number p))
get_above a j c node at p number below law may =
    let m = subst (λ x. May x (Get node at) (replies.Got number p) c) below.is may in record {
      after = get_parcel j node at p;
      may = (record { holds = m.0.holds; numbered = m.0.numbered; next = m.0.next; unclosed = unclosed m.0.holds m.0.numbered m.0.next }, refl);
      below = record { closed = below.closed; is = m.1; fewer = below.fewer };
    }
  where
    unclosed : holds j node at ≡ true → number ≡ length (j.got at) → slice_get (j.put (peer at)) number ≡ Some p → (e : End) → has_end e p.ends ≡ true → j.closed e ≡ false
    unclosed mine numbered next e c =
        let lies : Lies j e at number = record { parcel = p; put = next; ungot = subst (λ n. length (j.got at) ≤ n) (sym numbered) (le_itself (length (j.got at))); carried = c } in
        law.lies_unclosed e at number lies (law.held_unclosed at node (holder_is (j.holder at) node mine))
      where
        le_itself : (n : ℕ) → n ≤ n
        le_itself n = omega arith

pub close_above : (a j c : Account) (node : ℕ) (at : End) (number : ℕ) → IsBelow a j → May a (Close node at) (replies.Closed number) c →
    Above j c (May j (Close node at) (replies.Closed number))
close_above a j c node at number below may =
    let m = subst (λ x. May x (Close node at) (replies.Closed number) c) below.is may in record {
      after = close_portal j at;
      may = (m.0, m.1, refl);
      below = record { closed = λ d. cond (same_end d at) true (below.closed d); is = m.2; fewer = fewer };
    }
  where
    fewer : (d : End) → cond (same_end d at) true (below.closed d) ≡ true → cond (same_end d at) true (j.closed d) ≡ true
    fewer d h = go (same_end d at) h
      where
        go : (c : Bool) → cond c true (below.closed d) ≡ true → cond c true (j.closed d) ≡ true
        go true k = k
        go false k = below.fewer d k

-- ---- refusals

refused_open_up : (j : Account) (closed : End → Bool) (node : ℕ) (w : Refusal) → MayRefuse (lower j closed) (Open node) w → MayRefuse j (Open node) w
refused_open_up j closed node why.Stranger h = h
refused_open_up j closed node why.NoWord h = h
refused_open_up j closed node why.NumbersEnd h = h
refused_open_up j closed node why.OutOfMemory h = h
refused_open_up j closed node w h = h

refused_get_up : (j : Account) (closed : End → Bool) (node : ℕ) (at : End) (w : Refusal) → ((e : End) → closed e ≡ true → j.closed e ≡ true) →
    MayRefuse (lower j closed) (Get node at) w → MayRefuse j (Get node at) w
refused_get_up j closed node at why.PeerClosed fewer h = (h.0, fewer (peer at) h.1, h.2)
refused_get_up j closed node at w fewer h = h

refused_close_up : (j : Account) (closed : End → Bool) (node : ℕ) (at : End) (w : Refusal) → MayRefuse (lower j closed) (Close node at) w → MayRefuse j (Close node at) w
refused_close_up j closed node at w h = go w h
  where
    go : (w : Refusal) → MayRefuse (lower j closed) (Close node at) w → MayRefuse j (Close node at) w
    go why.Stranger h = h
    go w h = h

refused_put_up : (j : Account) (closed : End → Bool) (o : Option Refusal) (node : ℕ) (at : End) (w : Refusal) → ((e : End) → closed e ≡ true → j.closed e ≡ true) →
    MayRefusePut o (lower j closed) node at w → MayRefusePut o j node at w
refused_put_up j closed (Some first) node at w fewer h = h
refused_put_up j closed None node at why.PeerClosed fewer h = fewer (peer at) h
refused_put_up j closed None node at w fewer h = h

pub stays_below : (a j c : Account) → IsBelow a j → c ≡ a → IsBelow c j
stays_below a j c below is = subst (λ x. IsBelow x j) (sym is) below

pub refused_open_above : (a j c : Account) (node : ℕ) (w : Refusal) → IsBelow a j → May a (Open node) (replies.Refused w) c → May j (Open node) (replies.Refused w) j
refused_open_above a j c node w below may = (refused_open_up j below.closed node w (subst (λ x. MayRefuse x (Open node) w) below.is may.0), refl)

pub refused_get_above : (a j c : Account) (node : ℕ) (at : End) (w : Refusal) → IsBelow a j → May a (Get node at) (replies.Refused w) c → May j (Get node at) (replies.Refused w) j
refused_get_above a j c node at w below may = (refused_get_up j below.closed node at w below.fewer (subst (λ x. MayRefuse x (Get node at) w) below.is may.0), refl)

pub refused_close_above : (a j c : Account) (node : ℕ) (at : End) (w : Refusal) → IsBelow a j → May a (Close node at) (replies.Refused w) c → May j (Close node at) (replies.Refused w) j
refused_close_above a j c node at w below may = (refused_close_up j below.closed node at w (subst (λ x. MayRefuse x (Close node at) w) below.is may.0), refl)

put_refusal : (profile : Profile) (a j : Account) (node : ℕ) (at : End) (bytes : List ℕ) (ends : List End) (w : Refusal) → IsBelow a j →
    MayRefusePut (first_refusal profile a node at bytes ends) a node at w → MayRefusePut (first_refusal profile j node at bytes ends) j node at w
put_refusal profile a j node at bytes ends w below h =
    let low = subst (λ x. MayRefusePut (first_refusal profile x node at bytes ends) x node at w) below.is h in
    refused_put_up j below.closed (first_refusal profile j node at bytes ends) node at w below.fewer
    (subst (λ o. MayRefusePut o (lower j below.closed) node at w) (first_up profile j below.closed node at bytes ends) low)

pub refused_put_above : (profile : Profile) (a j c : Account) (node : ℕ) (at : End) (bytes : List ℕ) (ends : List End) (w : Refusal) → IsBelow a j →
    May a (put_step profile node at bytes ends) (replies.Refused w) c → May j (put_step profile node at bytes ends) (replies.Refused w) j
refused_put_above Printed a j c node at bytes ends w below may = (put_refusal Printed a j node at bytes ends w below may.0, refl)
refused_put_above Wide a j c node at bytes ends w below may = (put_refusal Wide a j node at bytes ends w below may.0, refl)

pub refused_put_stays : (profile : Profile) (a c : Account) (node : ℕ) (at : End) (bytes : List ℕ) (ends : List End) (w : Refusal) →
    May a (put_step profile node at bytes ends) (replies.Refused w) c → c ≡ a
refused_put_stays Printed a c node at bytes ends w may = may.1
refused_put_stays Wide a c node at bytes ends w may = may.1
