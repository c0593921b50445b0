-- A get changes no message, no pending close and no flag, so that it leaves a quiet world quiet.
use Rattle.std.specs.Prelude.{◌≡◌, ◌<◌, ℕ, Bool, true, false, cond, nat_eq, nat_lt, Option, Some, None, is_none, refl}
use Rattle.std.specs.Cmp.{nat_cmp_total}
use Rattle.std.specs.FinMap.{get, insert, get-insert}
use Rattle.std.proofs.Common.{arith, ap, subst, ◌∙◌, sym}
use Rattle.std.proofs.lemmas.Bool.Decides.{nat_tests}
use Rattle.std.proofs.lemmas.Option.{none-some, same_Some}
use Rattle.ipcz_world.proofs.Vocabulary.{End, Refusal, Router, Node, Found, terminal_of, with_router, World, node_at, mail_at, set_node, unless}
use Rattle.ipcz_world.proofs.Vocabulary.{on_found, flagged_router, get_at_router, get_node, get_refusal, is_quiet, Effect, refuse, IsQuiet}
use Rattle.ipcz_base.specs.declared.refusal.Refusal.TheVariants.{Stranger}
use Rattle.ipcz_router.specs.Calls.{take_item}
use Rattle.ipcz_world.specs.Steps.{get_reply}
use Rattle.ipcz_world.specs.WorldLaws.{GetsStayQuiet}
use Rattle.ipcz_world.proofs.facts.Finding.{IsTerminalOf, found_tells, found_there, terminal_tells}
use Rattle.ipcz_world.proofs.frames.Frames.{node-set_node}
use Rattle.ipcz_world.proofs.facts.Tests.{none_is}

-- if no router is flagged, none is once one of them has given an item
flags-taken : (n : Node) (s : ℕ) (r : Router) → get n.routers s ≡ Some r → flagged_router n ≡ None →
    flagged_router (with_router n s (take_item r)) ≡ None
flags-taken n s r here none = go (flagged_router (with_router n s (take_item r))) refl
  where
    nobody : (k : ℕ) (q : Router) → get n.routers k ≡ Some q → q.flagged ≡ true → ⊥
    nobody k q at h = let t = found_there n (λ x. x.flagged) k q at h in none-some t.0 (sym none ∙ t.1)

    at_serial : (f : Found) → (c : Bool) → get (insert n.routers s (take_item r)) f.serial ≡
        cond c (Some (take_item r)) (get n.routers f.serial) →
        get (insert n.routers s (take_item r)) f.serial ≡ Some f.router → f.router.flagged ≡ true → ⊥
    at_serial f true e is h = nobody s r here (ap (λ x. x.flagged) (same_Some (take_item r) f.router (sym e ∙ is)) ∙ h)
    at_serial f false e is h = nobody f.serial f.router (sym e ∙ is) h

    go : (o : Option Found) → flagged_router (with_router n s (take_item r)) ≡ o → flagged_router (with_router n s (take_item r)) ≡ None
    go None e = e
    go (Some f) e =
        let t = found_tells (with_router n s (take_item r)) (λ x. x.flagged) f e in
        absurd (at_serial f (nat_eq f.serial s) (inserted f.serial) t.0 t.1)
      where
        inserted : (k : ℕ) → get (insert n.routers s (take_item r)) k ≡ cond (nat_eq k s) (Some (take_item r)) (get n.routers k)
        inserted k = grind (arith, get-insert nat_cmp_total n.routers s (take_item r) k, nat_tests)

-- a node's part
quiet-got : (n : Node) (e : End) → is_quiet n ≡ true → is_quiet (get_node n e) ≡ true
unfolding is_quiet on_found
quiet-got n e quiet = go (terminal_of n e) refl
  where
    none : flagged_router n ≡ None
    none = none_is (flagged_router n) (grind (arith, quiet))

    go : (o : Option Found) → terminal_of n e ≡ o → is_quiet (on_found n o (get_at_router n)) ≡ true
    go None h = quiet
    go (Some f) h =
        let t : IsTerminalOf n e f.serial f.router = terminal_tells n e f h in
        let still : is_none (flagged_router (with_router n f.serial (take_item f.router))) ≡ true =
        ap is_none (flags-taken n f.serial f.router t.here none) in
        grind (arith, quiet, still)

-- the world's
quiet-set : (w : World) (n : ℕ) (x : Node) → IsQuiet w → is_quiet x ≡ true → IsQuiet (set_node w n x)
unfolding set_node mail_at
quiet-set w n x quiet h = record {
  nodes = λ j l. ap is_quiet (node-set_node w n x j) ∙ either j (nat_eq j n) l;
  mail = quiet.mail;
}
  where
    either : (j : ℕ) (c : Bool) → j < w.count → is_quiet (cond c x (node_at w j)) ≡ true
    either j true l = h
    either j false l = quiet.nodes j l

-- what a get does that isn't refused
abbrev got_by : World → ℕ → End → Effect
got_by w n e = record { reply = get_reply (terminal_of (node_at w n) e); world = set_node w n (get_node (node_at w n) e) }

pub gets_stay_quiet : GetsStayQuiet
unfolding unless
gets_stay_quiet w v n e reply quiet step = subst IsQuiet (sym step.1) (at_node (nat_lt n w.count) refl)
  where
    unrefused : (o : Option Refusal) (done : Effect) → IsQuiet done.world → IsQuiet (unless w o done).world
    unrefused None done h = h
    unrefused (Some why) done h = quiet

    at_node : (c : Bool) → nat_lt n w.count ≡ c →
        IsQuiet (cond c (unless w (get_refusal (node_at w n) e) (got_by w n e)) (refuse w Stranger)).world
    at_node true l = unrefused (get_refusal (node_at w n) e) (got_by w n e) (quiet-set w n (get_node (node_at w n) e) quiet
        (quiet-got (node_at w n) e (quiet.nodes n (grind (arith, l, nat_tests)))))
    at_node false l = quiet
