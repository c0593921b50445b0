-- What the promise refuses.
use Rattle.std.specs.Prelude.{◌≡◌, ◌⊎◌, ◌<◌, ℕ, true, false, List, [], ◌∷◌, ◌++◌, Some, None, length, slice_get, refl}
use Rattle.std.proofs.Common.{inl, inr, arith, ap, ◌∙◌, sym}
use Rattle.ipcz_base.specs.declared.parcel.Parcel.{Parcel}
use Rattle.ipcz_base.specs.Sides.{opposite}
use Rattle.ipcz_base.specs.declared.end.End.{End}
use Rattle.ipcz_promise.specs.Promise.{Account, MayRun, IsDelivered, IsGot, first_refusal, holds, start}
use Rattle.ipcz_base.specs.declared.profile.Profile.TheVariants.{Printed}
use Rattle.ipcz_base.specs.declared.refusal.Refusal.TheVariants.{OutOfMemory, PeerClosed, SelfAttach, Stranger}
use Rattle.ipcz_node.specs.declared.happened.Happened.TheVariants as events
use Rattle.ipcz_world.specs.declared.step.Step.TheVariants.{Open, Put, Get, Close, Turn}
use Rattle.ipcz_world.specs.declared.step.Reply.TheVariants as replies
use Rattle.ipcz_promise.specs.PromiseTests.{PromiseAllows, PromiseRefuses, Refuses, left, right, third, fourth, parcel}

abbrev one : Parcel
one = parcel (97 ∷ []) []

-- what a get gives is the element at that place of what the peer has put
gives : (a : Account) (n : ℕ) (at : End) (p q : Parcel) (i k : ℕ) (xs : List Parcel) → IsGot a n at p i → a.put (record { pair = at.pair; side = opposite at.side }) ≡ xs →
    length (a.got at) ≡ k → slice_get xs k ≡ Some q → p ≡ q
gives a n at p q i k xs is put got there = same (sym is.next ∙ ap (λ ys. slice_get ys i) put ∙ ap (slice_get xs) (is.numbered ∙ got) ∙ there)
  where
    same : Some p ≡ Some q → p ≡ q
    same h = cc

abbrev head : List ℕ → ℕ
head [] = 0
head (x ∷ xs) = x

bytes-differ : parcel (98 ∷ []) [] ≡ parcel (97 ∷ []) [] → ⊥
bytes-differ h =
    let e : head (parcel (98 ∷ []) []).bytes ≡ head (parcel (97 ∷ []) []).bytes = ap (λ (p : Parcel). head p.bytes) h in
    absurd (omega (arith, e))

differ : false ≡ true → ⊥
differ h = cc

none : {p : Parcel} → None ≡ Some p → ⊥
none h = cc

refused : Some Stranger ≡ None → ⊥
refused h = cc

held : {n : ℕ} → Some n ≡ None → ⊥
held h = cc

empty : {p : Parcel} → [] ≡ p ∷ [] → ⊥
empty h = cc

no-lost : (i : ℕ) → Refuses (Put 0 left (97 ∷ []) [] ∷ Put 0 left (98 ∷ []) [] ∷ Get 1 right ∷ [])
    (replies.Put 0 ∷ replies.Put 1 ∷ replies.Got i (parcel (98 ∷ []) []) ∷ [])
no-lost = λ i c (a1, (p1, e1), (a2, (p2, e2), (a3, (g, e3), e4))).
    bytes-differ (gives a2 1 right _ (parcel (97 ∷ []) []) i 0 (parcel (97 ∷ []) [] ∷ parcel (98 ∷ []) [] ∷ []) g
    (ap (λ (a : Account). a.put left) e2 ∙ ap (λ (a : Account). a.put left ++ parcel (98 ∷ []) [] ∷ []) e1)
    (ap (λ (a : Account). length (a.got right)) e2 ∙ ap (λ (a : Account). length (a.got right)) e1) refl)

no-doubled : (i j : ℕ) → Refuses (Put 0 left (97 ∷ []) [] ∷ Get 1 right ∷ Get 1 right ∷ [])
    (replies.Put 0 ∷ replies.Got i (parcel (97 ∷ []) []) ∷ replies.Got j (parcel (97 ∷ []) []) ∷ [])
no-doubled = λ i j c (a1, (p1, e1), (a2, (g1, e2), (a3, (g2, e3), e4))).
    none (sym (ap (λ k. slice_get (a2.put left) k) (g2.numbered ∙ ap (λ (a : Account). length (a.got right)) e2
    ∙ ap (λ (a : Account). length (a.got right ++ one ∷ [])) e1)
    ∙ ap (λ xs. slice_get xs 1) (ap (λ (a : Account). a.put left) e2 ∙ ap (λ (a : Account). a.put left) e1)) ∙ g2.next)

no-changed : (i : ℕ) → Refuses (Put 0 left (97 ∷ []) [] ∷ Get 1 right ∷ [])
    (replies.Put 0 ∷ replies.Got i (parcel (98 ∷ []) []) ∷ [])
no-changed = λ i c (a1, (p1, e1), (a2, (g, e2), e3)).
    bytes-differ (gives a1 1 right _ (parcel (97 ∷ []) []) i 0 (parcel (97 ∷ []) [] ∷ []) g (ap (λ (a : Account). a.put left) e1)
    (ap (λ (a : Account). length (a.got right)) e1) refl)

no-returned : (i : ℕ) → Refuses (Put 0 left (97 ∷ []) [] ∷ Get 0 left ∷ [])
    (replies.Put 0 ∷ replies.Got i (parcel (97 ∷ []) []) ∷ [])
no-returned = λ i c (a1, (p1, e1), (a2, (g, e2), e3)).
    none (sym (ap (λ xs. slice_get xs i) (ap (λ (a : Account). a.put right) e1)) ∙ g.next)

no-stolen : (i : ℕ) → Refuses (Put 0 left (97 ∷ []) [] ∷ Get 0 right ∷ [])
    (replies.Put 0 ∷ replies.Got i (parcel (97 ∷ []) []) ∷ [])
no-stolen = λ i c (a1, (p1, e1), (a2, (g, e2), e3)).
    differ (sym (ap (λ (a : Account). holds a 0 right) e1) ∙ g.holds)

no-kept : Refuses (Open 0 ∷ Put 0 left (97 ∷ []) (third ∷ []) ∷ Close 0 third ∷ [])
    (replies.Opened third fourth ∷ replies.Put 0 ∷ replies.Closed 0 ∷ [])
no-kept = λ c (a1, (l, q, n1, n2, e1), (a2, (p, e2), (a3, (h, k, e3), e4))).
    differ (sym (ap (λ (a : Account). holds a 0 third) e2) ∙ h)

no-opened_again : Refuses (Open 0 ∷ []) (replies.Opened left right ∷ [])
no-opened_again = λ c (a1, (l, q, n1, n2, e1), e2). differ (sym n1.unopened)

no-closed : Refuses (Close 0 left ∷ Put 0 left (97 ∷ []) [] ∷ []) (replies.Closed 0 ∷ replies.Put 0 ∷ [])
no-closed = λ c (a1, (h, k, e1), (a2, (p, e2), e3)).
    refused (sym (ap (λ (a : Account). first_refusal Printed a 0 left (97 ∷ []) []) e1) ∙ p.accepted)

no-unread : Refuses (Put 0 left (97 ∷ []) [] ∷ Close 0 left ∷ Get 1 right ∷ [])
    (replies.Put 0 ∷ replies.Closed 1 ∷ replies.Refused PeerClosed ∷ [])
no-unread = λ c (a1, (p1, e1), (a2, (h, k, e2), (a3, ((h2, q, all), e3), e4))).
    empty (sym (ap (λ (a : Account). a.got right) e2 ∙ ap (λ (a : Account). a.got right) e1) ∙ all
    ∙ ap (λ (a : Account). a.put left) e2 ∙ ap (λ (a : Account). a.put left) e1)

no-stranger : Refuses (Get 1 right ∷ []) (replies.Refused Stranger ∷ [])
no-stranger = λ c (a1, (h, e1), e2). differ (sym h)

no-taken : Refuses (Turn 0 ∷ []) (replies.Turned (events.Close left) ∷ [])
no-taken = λ c (a1, (l, (dropped, h, o, e1)), e2). held h

no-undropped : Refuses (Open 0 ∷ Put 0 left (97 ∷ []) (third ∷ []) ∷ Turn 0 ∷ [])
    (replies.Opened third fourth ∷ replies.Put 0 ∷ replies.Turned (events.Close third) ∷ [])
no-undropped = λ c (a1, (l, q, n1, n2, e1), (a2, (p, e2), (a3, (l2, (dropped, h, o, e3)), e4))).
    differ (sym (ap (λ (a : Account). a.closed dropped.at) e2 ∙ ap (λ (a : Account). a.closed dropped.at) e1) ∙ dropped.closed)

no-order : Refuses (Put 1 left (97 ∷ []) (left ∷ []) ∷ []) (replies.Refused SelfAttach ∷ [])
no-order = λ c (a1, (h, e1), e2). neither h
  where
    neither : (SelfAttach ≡ Stranger) ⊎ ((SelfAttach ≡ OutOfMemory) × (1 < 2)) → ⊥
    neither (inl q) = cc
    neither (inr q) = memory q.0
      where
        memory : SelfAttach ≡ OutOfMemory → ⊥
        memory q = cc

no-waiting : (c : Account) → MayRun (start 2 8) (Put 0 left (97 ∷ []) [] ∷ []) (replies.Put 0 ∷ []) c → IsDelivered c right → ⊥
no-waiting = λ c (a1, (p1, e1), e2) (all, o).
    empty (sym (ap (λ (a : Account). a.got right) e2 ∙ ap (λ (a : Account). a.got right) e1) ∙ all
    ∙ ap (λ (a : Account). a.put left) e2 ∙ ap (λ (a : Account). a.put left) e1)

pub promise_refuses : PromiseRefuses
promise_refuses = record {
  lost = no-lost;
  doubled = no-doubled;
  changed = no-changed;
  returned = no-returned;
  stolen = no-stolen;
  kept = no-kept;
  opened_again = no-opened_again;
  closed = no-closed;
  unread = no-unread;
  stranger = no-stranger;
  taken = no-taken;
  undropped = no-undropped;
  order = no-order;
  waiting = no-waiting;
}

pub promise_allows : PromiseAllows
promise_allows = (
  _,
  (
    _,
    (record { accepted = refl; numbered = refl }, refl),
    (_, (record { holds = refl; numbered = refl; next = refl; unclosed = λ e h. absurd (differ h) }, refl), (_, (refl, refl), refl)),
  ),
)
