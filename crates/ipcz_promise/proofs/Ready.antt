-- Where a router has something for its callers, a get at its end isn't Empty; and where none has, each get at what they hold is.
use Rattle.std.specs.Prelude.{◌≡◌, ◌≤◌, ◌<◌, ℕ, Bool, true, false, ◌&&◌, not, nat_lt, Option, Some, None, is_some, IfSome, refl}
use Rattle.std.proofs.Common.{arith, ap, ◌∙◌, sym, inl, inr, subst}
use Rattle.std.proofs.lemmas.Bool.Decides.{nat_tests}
use Rattle.std.proofs.lemmas.Option.{same_Some}
use Rattle.ipcz_base.specs.declared.item.Item.{Item}
use Rattle.ipcz_base.specs.declared.item.Item.TheVariants.{Parcel, Mark, Gone}
use Rattle.ipcz_base.specs.declared.refusal.Refusal.TheVariants as refusals
use Rattle.ipcz_router.specs.Router.{is_open_terminal}
use Rattle.ipcz_router.specs.Calls.{has_come, item_refusal, router_get_refusal}
use Rattle.ipcz_node.specs.Node.{holds_end, is_terminal_of, router_in}
use Rattle.ipcz_node.specs.Calls.{get_refusal, refusal_at}
use Rattle.ipcz_node.specs.Finding.{IsNextReady, is_ready_in, is_terminal_in}
use Rattle.ipcz_world.proofs.Vocabulary.{End, Refusal, Found, terminal_of, is_terminal, current_item, Router, World, Key, node_at, router_at, Books}
use Rattle.ipcz_world.specs.declared.step.Reply.TheVariants as replies
use Rattle.ipcz_world.specs.Records.{At}
use Rattle.ipcz_world.specs.Routes.{Routes}
use Rattle.ipcz_world.specs.Lawful.{Lawful}
use Rattle.ipcz_world.specs.Steps.{get_reply, got_reply}
use Rattle.ipcz_world.proofs.Whole.{held_are_open}
use Rattle.ipcz_world.proofs.acts.Gets.{get_tells}
use Rattle.ipcz_world.proofs.acts.Puts.{router_found, terminal_there}
use Rattle.ipcz_world.proofs.facts.Finding.{found_tells, terminal_tells}
use Rattle.ipcz_world.proofs.facts.Tests.{and_first, and_second}
use Rattle.ipcz_promise.specs.Promise.{Account, holds}
use Rattle.ipcz_promise.specs.Accounting.{Keeps}
use Rattle.ipcz_promise.specs.Readiness.{HasNothing, HasSomething}
use Rattle.ipcz_promise.proofs.Inverting.{call-cases}
use Rattle.ipcz_promise.proofs.Refusals.{holder-is}

-- a get is Empty exactly if its router's queue gives nothing
not-empty : (o : Option Item) → is_some o ≡ true → item_refusal o ≡ Some refusals.Empty → ⊥
unfolding item_refusal
not-empty None some h = cc
not-empty (Some (Parcel p)) some h = cc
not-empty (Some Mark) some h = cc
not-empty (Some Gone) some h = cc

is-empty : (o : Option Item) → is_some o ≡ false → item_refusal o ≡ Some refusals.Empty
unfolding item_refusal
is-empty None none = refl
is-empty (Some item) none = cc

unready : (come opened held : Bool) → (come && (opened && held)) ≡ false → opened ≡ true → held ≡ true → come ≡ false
unready true opened held h o k = cc
unready false opened held h o k = refl

same-why : (x y : Refusal) → replies.Refused x ≡ replies.Refused y → x ≡ y
same-why x y e = cc

module _ (w : World) (b : Books) (g : Routes) (law : Lawful w b g) (n : ℕ) (l : n < w.count) where
  -- the terminal of an end that is held
  there : (e : End) → holds_end (node_at w n) e ≡ true → (f : Found) × (terminal_of (node_at w n) e ≡ Some f)
  there e held = terminal_there w b law.records n e law.inv (law.inv.end_places.held n e held) (held_are_open w b g n e law l held)

  refusal : (e : End) (f : Found) → holds_end (node_at w n) e ≡ true → terminal_of (node_at w n) e ≡ Some f →
      get_refusal (node_at w n) e ≡ router_get_refusal f.router
  unfolding get_refusal refusal_at
  refusal e f held is = rw (held, is) refl

  -- an end has one open terminal
  same : (serial : ℕ) (r : Router) (f : Found) → router_in (node_at w n) serial ≡ Some r → is_open_terminal r ≡ true →
      terminal_of (node_at w n) r.end ≡ Some f → f.router ≡ r
  same serial r f here opened is = some f.router r (sym found ∙ ap (router_at w) (key one other keys) ∙ given)
    where
      one : Key
      one = record { node = n; serial = f.serial }

      other : Key
      other = record { node = n; serial = serial }

      found : router_at w one ≡ Some f.router
      found = router_found w n f.serial f.router (terminal_tells (node_at w n) r.end f is).here

      given : router_at w other ≡ Some r
      given = router_found w n serial r here

      keys : At one ≡ At other
      keys = let t = terminal_tells (node_at w n) r.end f is in
          sym ((law.inv.terminals.each one f.router found).terminal t.terminal) ∙ ap law.records.terminal t.end
          ∙ (law.inv.terminals.each other r given).terminal (and_first (is_terminal r) (not r.closed) opened)

      key : (q k : Key) → At q ≡ At k → q ≡ k
      key q k e = cc

      some : (z t : Router) → Some z ≡ Some t → z ≡ t
      some z t e = cc

  -- what isn't refused as Empty has something
  answered : (at : End) → (get_refusal (node_at w n) at ≡ Some refusals.Empty → ⊥) → HasSomething w n at
  unfolding get_reply got_reply
  answered at fine v s = elim (call-cases w n (get_refusal (node_at w n) at) _ (replies.Refused refusals.Empty) v s) [
    | inl d ↦
        let is = get_tells (node_at w n) at d.fine in
        let said : replies.Refused refusals.Empty ≡ replies.Got is.found.router.in_queue.current is.parcel =
        d.says ∙ ap get_reply is.is_found ∙ ap (got_reply is.found.router.in_queue.current) is.item in cc
    | inr r ↦ elim r.because [
      | inl x ↦ absurd (omega (arith, l, x.0))
      | inr x ↦ fine (x.1 ∙ ap Some (sym (same-why refusals.Empty r.why r.says)))
    ]
  ]

  ready : (serial : ℕ) (r : Router) → router_in (node_at w n) serial ≡ Some r → is_ready_in (node_at w n).held r ≡ true →
      (holds_end (node_at w n) r.end ≡ true) × HasSomething w n r.end
  ready serial r here passes =
      let come : has_come r ≡ true = and_first (has_come r) (is_terminal_in (node_at w n).held r) passes in
      let rest : is_terminal_in (node_at w n).held r ≡ true = and_second (has_come r) (is_terminal_in (node_at w n).held r) passes in
      let opened : is_open_terminal r ≡ true = and_first (is_open_terminal r) (holds_end (node_at w n) r.end) rest in
      let held : holds_end (node_at w n) r.end ≡ true = and_second (is_open_terminal r) (holds_end (node_at w n) r.end) rest in
      let f = there r.end held in
      let is : f.0.router ≡ r = same serial r f.0 here opened f.1 in (
        held,
        answered r.end (λ e. not-empty (current_item r.in_queue) come
            (sym (ap router_get_refusal is) ∙ sym (refusal r.end f.0 held f.1) ∙ e)),
      )

  -- where no router has something, each get at what is held is Empty
  nothing : IsNextReady (node_at w n) 0 None → (at : End) → holds_end (node_at w n) at ≡ true → HasNothing w n at
  nothing none at held reply v s =
      let f = there at held in
      let t = found_tells (node_at w n) (is_terminal_of at) f.0 f.1 in
      let is = terminal_tells (node_at w n) at f.0 f.1 in
      let come : has_come f.0.router ≡ false = unready (has_come f.0.router) (is_open_terminal f.0.router) (holds_end (node_at w n) f.0.router.end)
      (none f.0.serial f.0.router (omega arith) t.0) (and_first (is_open_terminal f.0.router) _ t.1) (ap (holds_end (node_at w n)) is.end ∙ held) in
      let refused : get_refusal (node_at w n) at ≡ Some refusals.Empty = refusal at f.0 held f.1 ∙ is-empty (current_item f.0.router.in_queue) come in
      elim (call-cases w n (get_refusal (node_at w n) at) _ reply v s) [
        | inl d ↦ absurd (both (sym d.fine ∙ refused))
        | inr r ↦ elim r.because [
          | inl x ↦ absurd (omega (arith, l, x.0))
          | inr x ↦ r.says ∙ ap replies.Refused (same_Some r.why refusals.Empty (sym x.1 ∙ refused))
        ]
      ]
    where
      both : None ≡ Some refusals.Empty → ⊥
      both e = cc

-- of a world that keeps accounts
pub some-ready : (w : World) (a : Account) (n serial : ℕ) (o : Option (ℕ × End)) → Keeps w a →
    (n < w.count → IsNextReady (node_at w n) serial o) → (w.count ≤ n → o ≡ None) →
    IfSome o (λ x. (holds a n x.1 ≡ true) × HasSomething w n x.1)
some-ready w a n serial None k here away = tt
some-ready w a n serial (Some x) k here away = go (nat_lt n w.count) refl
  where
    none : Some x ≡ None → ⊥
    none e = cc

    go : (c : Bool) → nat_lt n w.count ≡ c → (holds a n x.1 ≡ true) × HasSomething w n x.1
    go false e = absurd (none (away (grind (arith, e, nat_tests))))
    go true e =
        let l : n < w.count = grind (arith, e, nat_tests) in
        let is = here l in
        let t = ready w k.stands.books k.stands.routes k.stands.lawful n l x.0 is.router is.here is.passes in
        let u = subst (λ at. (holds_end (node_at w n) at ≡ true) × HasSomething w n at) is.end_is t in
        (sym (k.stands.holder n x.1 l) ∙ u.0, u.1)

pub some-reached : (w : World) (n serial : ℕ) (o : Option (ℕ × End)) → (n < w.count → IsNextReady (node_at w n) serial o) → (w.count ≤ n → o ≡ None) →
    IfSome o (λ x. serial ≤ x.0)
some-reached w n serial None here away = tt
some-reached w n serial (Some x) here away = go (nat_lt n w.count) refl
  where
    none : Some x ≡ None → ⊥
    none e = cc

    go : (c : Bool) → nat_lt n w.count ≡ c → serial ≤ x.0
    go false e = absurd (none (away (grind (arith, e, nat_tests))))
    go true e = (here (grind (arith, e, nat_tests))).reached

pub none-ready : (w : World) (a : Account) (n serial : ℕ) (o : Option (ℕ × End)) → Keeps w a → (n < w.count → IsNextReady (node_at w n) serial o) →
    serial ≡ 0 → o ≡ None → (at : End) → holds a n at ≡ true → HasNothing w n at
none-ready w a n serial o k here first none at held =
    let l : n < w.count = k.stands.real n at (holder-is (a.holder at) n held) in
    let unready = subst (λ q. IsNextReady (node_at w n) 0 q) none (subst (λ s. IsNextReady (node_at w n) s o) first (here l)) in
    nothing w k.stands.books k.stands.routes k.stands.lawful n l unready at (k.stands.holder n at l ∙ held)
