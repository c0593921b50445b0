-- What is no step of the machine leaves the accounts of a world: who holds what, which closes are pending, how many words there are.
use Rattle.std.specs.Prelude.{◌≡◌, ◌<◌, ℕ, zero, suc, Bool, true, false, cond, nat_eq, Option, Some, None, ◌+◌, refl}
use Rattle.std.proofs.Common.{arith, ap, ◌∙◌, sym, subst, inl, inr}
use Rattle.std.proofs.lemmas.Bool.Decides.{nat_tests}
use Rattle.ipcz_base.specs.declared.end.End.{End}
use Rattle.ipcz_base.specs.Ends.{has_end}
use Rattle.ipcz_router.specs.Router.{Router}
use Rattle.ipcz_router.specs.ActEffects.{rewet, run_dry}
use Rattle.ipcz_router.specs.declared.act.RouterAct.TheVariants as router_acts
use Rattle.ipcz_node.specs.Node.{Node, holds_end, on_router, router_in, with_router}
use Rattle.ipcz_world.specs.World.{World, node_at, router_at, set_node}
use Rattle.ipcz_world.specs.Books.{Books}
use Rattle.ipcz_world.specs.Routes.{Routes, is_opened, lose_word}
use Rattle.ipcz_world.specs.Turns.{can_take, may_act, router_of}
use Rattle.ipcz_world.specs.Lawful.{Lawful}
use Rattle.ipcz_world.specs.HeldEnds.{lose_words}
use Rattle.ipcz_world.proofs.Whole.{claim_keeps_lawful}
use Rattle.ipcz_world.proofs.facts.Tests.{some_is}
use Rattle.ipcz_world.proofs.frames.Frames.{count-set_claimed, count-set_node, node-set_claimed, node-set_node, size-set_claimed, size-set_node}
use Rattle.ipcz_world.proofs.runs.Drying.{dry_keeps_lawful, wet_keeps_lawful}
use Rattle.ipcz_world.proofs.runs.PassingOver.{passing_keeps_lawful}
use Rattle.ipcz_promise.specs.Promise.{Account}
use Rattle.ipcz_promise.specs.Accounting.{Keeps, Stands}
use Rattle.ipcz_rule.specs.Deeds.{Aside, ClaimsWord, Passes, Dries, Wets, IsPossibleAside, after_aside}
use Rattle.ipcz_rule.proofs.RunningDry.{dry_is}
use Rattle.ipcz_rule.proofs.Wetting.{wet_is}

-- it is lawful with the same books, and the same pairs were opened
pub record IsLawfulToo (v : World) (b : Books) (g : Routes) : Type 0 where
  pub routes : Routes
  pub lawful : Lawful v b routes
  pub opened : (pair : ℕ) → is_opened routes pair ≡ is_opened g pair

-- callers can't tell two worlds from each other
pub record LooksTheSame (w v : World) : Type 0 where
  pub count : v.count ≡ w.count
  pub size : v.size ≡ w.size
  pub held : (n : ℕ) (e : End) → holds_end (node_at v n) e ≡ holds_end (node_at w n) e
  pub pending : (n : ℕ) → (node_at v n).pending ≡ (node_at w n).pending
  pub lawful : (b : Books) (g : Routes) → Lawful w b g → IsLawfulToo v b g

-- so one stands at the accounts of the other
module _ (w v : World) (same : LooksTheSame w v) (a : Account) where
  within : (n : ℕ) → n < v.count → n < w.count
  within n low = subst (λ c. n < c) same.count low

  same-stands : (k : Stands w a) → (t : Stands v a) × (t.books ≡ k.books)
  same-stands k = let law = same.lawful k.books k.routes k.lawful in (
    record {
      books = k.books;
      routes = law.routes;
      lawful = law.lawful;
      nodes = k.nodes ∙ sym same.count;
      opened = λ pair h. law.opened pair ∙ k.opened pair h;
      holder = λ n e low. same.held n e ∙ k.holder n e (within n low);
      real = λ n e h. subst (λ c. n < c) (sym same.count) (k.real n e h);
      put = k.put;
      got = k.got;
      closed = k.closed;
      pending = record {
        ungot = λ n e low h. k.pending.ungot n e (within n low) (sym (ap (has_end e) (same.pending n)) ∙ h);
        closes = λ e is low. elim (k.pending.closes e is low) [
          | inl p ↦ inl (p.0, subst (λ c. p.0 < c) (sym same.count) p.1, ap (has_end e) (same.pending p.0) ∙ p.2)
          | inr c ↦ inr c
        ];
      };
    },
    refl,
  )

  -- and by the same books
  pub same-keeps : (k : Keeps w a) → (t : Keeps v a) × (t.stands.books ≡ k.stands.books)
  same-keeps k =
      let t = same-stands k.stands in
      let kept : Keeps v a = record { stands = t.0; words = k.words ∙ sym same.size } in
      (kept, t.1)

-- what is read of each node stays, if it does of the one that is another
read-same : {X : Type 0} (f : Node → X) (w : World) (n : ℕ) (x : Node) (j : ℕ) → f x ≡ f (node_at w n) → f (node_at (set_node w n x) j) ≡ f (node_at w j)
read-same f w n x j same = ap f (node-set_node w n x j) ∙ go (nat_eq j n) refl
  where
    go : (c : Bool) → nat_eq j n ≡ c → f (cond c x (node_at w j)) ≡ f (node_at w j)
    go true e = same ∙ ap (λ i. f (node_at w i)) (sym (let t : j ≡ n = grind (arith, e, nat_tests) in t))
    go false e = refl

-- a node that is another, by the ends that it holds and its pending closes
node-same : (w : World) (n : ℕ) (x : Node) → ((e : End) → holds_end x e ≡ holds_end (node_at w n) e) → x.pending ≡ (node_at w n).pending →
    ((b : Books) (g : Routes) → Lawful w b g → IsLawfulToo (set_node w n x) b g) → LooksTheSame w (set_node w n x)
node-same w n x held pending lawful = record {
  count = count-set_node w n x;
  size = size-set_node w n x;
  held = λ j e. read-same (λ y. holds_end y e) w n x j (held e);
  pending = λ j. read-same (λ y. y.pending) w n x j pending;
  lawful = lawful;
}

-- numbers that are lost open no pair
lost-opened : (g : Routes) (i count pair : ℕ) → is_opened (lose_words g i count) pair ≡ is_opened g pair
lost-opened g i zero pair = refl
lost-opened g i (suc count) pair = lost-opened (lose_word g i) (i + 1) count pair

-- a router that may act is there
acts-there : (o : Option Router) → may_act o router_acts.Claim ≡ true → (r : Router) × (o ≡ Some r)
unfolding may_act
acts-there None h = cc
acts-there (Some r) h = (r, refl)

pub asides-look-the-same : (w : World) (aside : Aside) → IsPossibleAside w aside → LooksTheSame w (after_aside w aside)
unfolding can_take router_at on_router
asides-look-the-same w (ClaimsWord n) can = let x : Node = record (node_at w n) { opening = Some w.claimed } in record {
  count = count-set_claimed (set_node w n x) (w.claimed + 1) ∙ count-set_node w n x;
  size = size-set_claimed (set_node w n x) (w.claimed + 1) ∙ size-set_node w n x;
  held = λ j e. ap (λ (y : Node). holds_end y e) (node-set_claimed (set_node w n x) (w.claimed + 1) j) ∙ read-same (λ y. holds_end y e) w n x j refl;
  pending = λ j. ap (λ (y : Node). y.pending) (node-set_claimed (set_node w n x) (w.claimed + 1) j) ∙ read-same (λ y. y.pending) w n x j refl;
  lawful = λ b g law. record { routes = g; lawful = claim_keeps_lawful w b g n law can.0 can.1 can.2; opened = λ pair. refl };
}
asides-look-the-same w (Passes count) can = record {
  count = count-set_claimed w (w.claimed + count);
  size = size-set_claimed w (w.claimed + count);
  held = λ j e. ap (λ (y : Node). holds_end y e) (node-set_claimed w (w.claimed + count) j);
  pending = λ j. ap (λ (y : Node). y.pending) (node-set_claimed w (w.claimed + count) j);
  lawful = λ b g law. record { routes = lose_words g w.claimed count; lawful = passing_keeps_lawful w b g count law can; opened = λ pair. lost-opened g w.claimed count pair };
}
asides-look-the-same w (Dries n serial) can =
    let r = acts-there (router_of w n serial) can.1 in
    let is = dry_is w n serial r.0 r.1 in
    subst (LooksTheSame w) (sym is) (node-same w n (with_router (node_at w n) serial (run_dry r.0)) (λ e. refl) refl
    (λ b g law. record { routes = g; lawful = dry_keeps_lawful w b g n serial r.0 law can.0 r.1 can.1; opened = λ pair. refl }))
asides-look-the-same w (Wets n serial) can =
    let r = some_is (router_in (node_at w n) serial) can.1 in
    let is = wet_is w n serial r.0 r.1 in
    subst (LooksTheSame w) (sym is) (node-same w n (with_router (node_at w n) serial (rewet r.0)) (λ e. refl) refl
    (λ b g law. record { routes = g; lawful = wet_keeps_lawful w b g (record { node = n; serial = serial }) r.0 law r.1; opened = λ pair. refl }))
