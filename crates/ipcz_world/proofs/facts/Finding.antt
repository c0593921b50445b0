-- A router that is found in a node stands there and passes the test, and one that passes is found.
use Rattle.ipcz_world.proofs.Vocabulary.{Node, Found, terminal_of, Router, is_terminal, End, same_end, is_terminal_of}
use Rattle.ipcz_base.specs.declared.item.Item.{Item}
use Rattle.ipcz_base.specs.declared.refusal.Refusal.TheVariants.{Stranger}
use Rattle.ipcz_seq.specs.Queue.{current_item}
use Rattle.ipcz_node.specs.Node.{first_where, find_router, holds_end, router_in}
use Rattle.ipcz_node.specs.Calls.{finds_something, get_refusal, refusal_at}
use Rattle.ipcz_node.specs.Finding.{is_ready_in}
use Rattle.ipcz_router.specs.Router.{is_open_terminal}
use Rattle.ipcz_router.specs.Calls.{item_refusal, router_get_refusal}
use Rattle.std.specs.Prelude.{not, ◌≡◌, ◌<◌, ℕ, Bool, true, false, if◌then◌else◌, cond, T, Option, Some, None, is_some, List, [], ◌∷◌, refl, nat_eq}
use Rattle.std.proofs.Common.{arith, sym, ◌∙◌, ap, true≢false}
use Rattle.std.proofs.lemmas.Bool.Decides.{nat_tests}
use Rattle.std.specs.Ordering.{nat_cmp, eq_by_cmp, is_lt, is_eq}
use Rattle.std.specs.Cmp.{nat_cmp_total, tied_itself}
use Rattle.std.specs.FinMap.{get, entries, entries_sorted, find, get-entries, is_sorted, FinMap, insert, get-insert}
use Rattle.std.specs.FinMap.Entries.{below_all}
use Rattle.ipcz_world.proofs.facts.Reaching.{left, less, right}
use Rattle.ipcz_world.proofs.facts.Tests.{and_first, and_second, and_yes}
use Rattle.ipcz_world.proofs.facts.LinkTests.{same_end-tells}

-- what is found in a list whose keys are above is above
pub find_above : {X : Type 0} (x m : ℕ) (v : X) (es : List (ℕ × X)) → T (below_all nat_cmp x es) → find nat_cmp m es ≡ Some v → x < m
find_above x m v [] b h = cc
find_above {X} x m v (e ∷ es) b h = go (eq_by_cmp nat_cmp m e.0) refl h
    (λ f. find_above x m v es (right (is_lt (nat_cmp x e.0)) (below_all nat_cmp x es) b) f)
  where
    low : x < e.0
    low = less x e.0 (left (is_lt (nat_cmp x e.0)) (below_all nat_cmp x es) b)

    go : (c : Bool) → eq_by_cmp nat_cmp m e.0 ≡ c → cond c (Some e.1) (find nat_cmp m es) ≡ Some v → (find nat_cmp m es ≡ Some v → x < m) →
        x < m
    go true q f more = grind (arith, q, low, nat_tests)
    go false q f more = more f

first_tells : (test : Router → Bool) (es : List (ℕ × Router)) (f : Found) → T (is_sorted nat_cmp es) → first_where test es ≡ Some f →
    (find nat_cmp f.serial es ≡ Some f.router) × (test f.router ≡ true)
unfolding first_where
first_tells test [] f s h = cc
first_tells test (e ∷ es) f s h = go (test e.1) refl h (λ g. first_tells test es f
    (right (below_all nat_cmp e.0 es) (is_sorted nat_cmp es) s) g)
  where
    hit : test e.1 ≡ true → Some (record { serial = e.0; router = e.1 }) ≡ Some f →
        (cond (eq_by_cmp nat_cmp f.serial e.0) (Some e.1) (find nat_cmp f.serial es) ≡ Some f.router) × (test f.router ≡ true)
    hit q g =
        let n : e.0 ≡ f.serial = grind (arith, g) in let r : e.1 ≡ f.router = grind (arith, g) in (
          ap (λ b. cond b (Some e.1) (find nat_cmp f.serial es)) (ap (λ z. eq_by_cmp nat_cmp z e.0) (sym n) ∙ ap is_eq
              (tied_itself nat_cmp_total e.0)) ∙ ap Some r,
          ap test (sym r) ∙ q,
        )

    go : (b : Bool) → test e.1 ≡ b → cond b (Some (record { serial = e.0; router = e.1 })) (first_where test es) ≡ Some f →
        (first_where test es ≡ Some f → (find nat_cmp f.serial es ≡ Some f.router) × (test f.router ≡ true)) →
        (cond (eq_by_cmp nat_cmp f.serial e.0) (Some e.1) (find nat_cmp f.serial es) ≡ Some f.router) × (test f.router ≡ true)
    go true q g more = hit q g
    go false q g more = let t = more g in
        let above : e.0 < f.serial = find_above e.0 f.serial f.router es (left (below_all nat_cmp e.0 es) (is_sorted nat_cmp es) s) t.0 in
        let apart : eq_by_cmp nat_cmp f.serial e.0 ≡ false = grind (arith, above, nat_tests) in
        (ap (λ b. cond b (Some e.1) (find nat_cmp f.serial es)) apart ∙ t.0, t.1)

first_there : (test : Router → Bool) (es : List (ℕ × Router)) (s : ℕ) (r : Router) → find nat_cmp s es ≡ Some r → test r ≡ true →
    (f : Found) × (first_where test es ≡ Some f)
unfolding first_where
first_there test [] s r h t = cc
first_there test (e ∷ es) s r h t = go (test e.1) refl (eq_by_cmp nat_cmp s e.0) h (λ g. first_there test es s r g t)
  where
    go : (b : Bool) → test e.1 ≡ b → (c : Bool) → cond c (Some e.1) (find nat_cmp s es) ≡ Some r →
        (find nat_cmp s es ≡ Some r → (f : Found) × (first_where test es ≡ Some f)) →
        (f : Found) × (cond b (Some (record { serial = e.0; router = e.1 })) (first_where test es) ≡ Some f)
    go true q c g more = (record { serial = e.0; router = e.1 }, refl)
    go false q true g more = absurd (grind (arith, q, t, g))
    go false q false g more = more g

pub found_tells : (n : Node) (test : Router → Bool) (f : Found) → find_router n test ≡ Some f →
    (get n.routers f.serial ≡ Some f.router) × (test f.router ≡ true)
found_tells n test f h = let t = first_tells test (entries n.routers) f (entries_sorted n.routers) h in
    (get-entries n.routers f.serial ∙ t.0, t.1)

pub found_there : (n : Node) (test : Router → Bool) (s : ℕ) (r : Router) → get n.routers s ≡ Some r → test r ≡ true →
    (f : Found) × (find_router n test ≡ Some f)
found_there n test s r h t = first_there test (entries n.routers) s r (sym (get-entries n.routers s) ∙ h) t

-- what the terminal of an end is
pub record IsTerminalOf (n : Node) (e : End) (serial : ℕ) (r : Router) : Type 0 where
  pub here : get n.routers serial ≡ Some r
  pub terminal : is_terminal r ≡ true
  pub end : r.end ≡ e

pub terminal_tells : (n : Node) (end : End) (f : Found) → terminal_of n end ≡ Some f → IsTerminalOf n end f.serial f.router
terminal_tells n end f h =
    let t = found_tells n (is_terminal_of end) f h in
    let opened : is_open_terminal f.router ≡ true = and_first (is_open_terminal f.router) (same_end f.router.end end) t.1 in
    record {
      here = t.0;
      terminal = and_first (is_terminal f.router) (not f.router.closed) opened;
      end =
          same_end-tells f.router.end end (and_second (is_open_terminal f.router) (same_end f.router.end end) t.1);
    }

pub get_inserted : (m : FinMap nat_cmp Router) (i : ℕ) (x : Router) (q : ℕ) → get (insert m i x) q ≡ cond (nat_eq q i) (Some x) (get m q)
get_inserted m i x q = grind (arith, get-insert nat_cmp_total m i x q, nat_tests)

-- where a get at an end finds something, callers hold the end, and a router is its open terminal and has something
pub record IsReadyThere (n : Node) (end : End) : Type 0 where
  pub serial : ℕ
  pub router : Router
  pub here : router_in n serial ≡ Some router
  pub ready : is_ready_in n.held router ≡ true
  pub end_is : router.end ≡ end

has_item : (o : Option Item) → finds_something (item_refusal o) ≡ true → is_some o ≡ true
unfolding item_refusal
has_item None h = h
has_item (Some x) h = refl

ready_terminal : (n : Node) (end : End) (f : Found) → terminal_of n end ≡ Some f → holds_end n end ≡ true →
    finds_something (router_get_refusal f.router) ≡ true → IsReadyThere n end
ready_terminal n end f h held finds =
    let t = found_tells n (is_terminal_of end) f h in
    let own : f.router.end ≡ end = same_end-tells f.router.end end (and_second (is_open_terminal f.router) (same_end f.router.end end) t.1) in
    record {
      serial = f.serial;
      router = f.router;
      here = t.0;
      ready = and_yes _ _ (has_item (current_item f.router.in_queue) finds)
          (and_yes _ _ (and_first (is_open_terminal f.router) (same_end f.router.end end) t.1) (ap (holds_end n) own ∙ held));
      end_is = own;
    }

pub ready_there : (n : Node) (end : End) → finds_something (get_refusal n end) ≡ true → IsReadyThere n end
unfolding get_refusal refusal_at
ready_there n end h = go (holds_end n end) refl (terminal_of n end) refl h
  where
    go : (b : Bool) → holds_end n end ≡ b → (o : Option Found) → terminal_of n end ≡ o →
        finds_something (if not b then Some Stranger else refusal_at o router_get_refusal) ≡ true → IsReadyThere n end
    go false held o found finds = absurd (true≢false (sym finds))
    go true held None found finds = absurd (true≢false (sym finds))
    go true held (Some f) found finds = ready_terminal n end f found held finds
