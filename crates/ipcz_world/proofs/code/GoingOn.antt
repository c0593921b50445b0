-- Which node is next, and what its act makes of the way on which a settle is.
use Rattle.std.specs.Prelude.{◌≡◌, ◌<◌, ℕ, ◌+◌, Bool, true, false, nat_lt, if◌then◌else◌, Some, refl}
use Rattle.std.proofs.Common.{arith, ap, sym, ◌∙◌, inl, inr}
use Rattle.std.proofs.lemmas.Bool.Decides.{nat_tests}
use Rattle.std.specs.FinMap.{get}
use Rattle.ipcz_world.proofs.Vocabulary.{Router, World, Act, RouterAct, after_act, commit, node_at, router_at, set_node, Plain, Happened, next_node}
use Rattle.ipcz_world.proofs.Vocabulary.{after_router_act, is_idle, next_at, turn_event, turn_lacks_serials, touch}
use Rattle.ipcz_node.specs.declared.act.Act.TheVariants as acts
use Rattle.ipcz_world.specs.Visiting.{IsNextBusy}
use Rattle.ipcz_world.specs.Wordless.{is_wordless}
use Rattle.ipcz_world.proofs.code.FirstTurns.{step-taken}
use Rattle.ipcz_world.proofs.code.Visiting.{OnWay, on_way-turn}
use Rattle.ipcz_world.proofs.code.Wordless.{plain-answer, untouched}

-- a node that has an act is next from another on, if no other node has one
pub next-busy : (u : World) (a b : ℕ) → a < u.count → b < u.count → is_idle (next_at u b) ≡ false →
    ((k : ℕ) → k < u.count → (k ≡ a → ⊥) → (k ≡ b → ⊥) → is_idle (next_at u k) ≡ true) → IsNextBusy u (next_node u a) b
next-busy u a b la lb busy idle = go (nat_lt (a + 1) u.count) refl (nat_lt a b) refl
  where
    go : (c : Bool) → nat_lt (a + 1) u.count ≡ c → (d : Bool) → nat_lt a b ≡ d → IsNextBusy u (if c then a + 1 else 0) b
    go true e true f = inl (record {
      after = grind (arith, f, nat_tests);
      within = lb;
      acts = busy;
      before = λ k low high. idle k (omega (arith, high, lb)) (λ same. omega (arith, same, low)) (λ same. omega (arith, same, high));
    })
    go true e false f = inr (
      λ k low high. idle k high (λ same. omega (arith, same, low)) (λ same. grind (arith, same, low, f, nat_tests)),
      record {
        after = omega arith;
        within = grind (arith, f, nat_tests);
        acts = busy;
        before = λ k low high. idle k (omega (arith, high, lb)) (λ same. grind (arith, same, high, f, nat_tests))
            (λ same. omega (arith, same, high));
      },
    )
    go false e d f = inl (record {
      after = omega arith;
      within = lb;
      acts = busy;
      before = λ k low high. idle k (omega (arith, high, lb)) (λ same. grind (arith, same, high, lb, e, nat_tests))
          (λ same. omega (arith, same, high));
    })

-- nor where a pass begins
pub first-busy : (u : World) (b : ℕ) → b < u.count → is_idle (next_at u b) ≡ false →
    ((k : ℕ) → k < u.count → (k ≡ b → ⊥) → is_idle (next_at u k) ≡ true) → IsNextBusy u 0 b
first-busy u b lb busy idle = inl (record {
  after = omega arith;
  within = lb;
  acts = busy;
  before = λ k low high. idle k (omega (arith, high, lb)) (λ same. omega (arith, same, high));
})

-- an act on the way
pub go-on : (w u v : World) (acts from a : ℕ) (act : Act) → OnWay w acts u from → IsNextBusy u from a → a < u.count → next_at u a ≡ act →
    turn_lacks_serials u a act ≡ false → after_act u a act ≡ v → OnWay w (acts + 1) v (next_node u a)
go-on w u v acts from a act on busy l first low is =
    let t = step-taken (λ (event told : Happened). told ≡ event) u a act l v (turn_event u a act) (inl (sym first))
    (record { event = refl; done = sym is; allowed = low; why = tt; grows = λ g k. refl; left = tt }) in
    on_way-turn w u v acts from a (next_node u a) t.0 on busy refl t.2

-- an act of a router that touches no word changes its node alone
pub router-acts : (u : World) (k serial : ℕ) (r : Router) (act : RouterAct) → get (node_at u k).routers serial ≡ Some r →
    is_wordless act ≡ true → after_act u k (acts.Router serial act) ≡ set_node u k (commit (node_at u k) (acts.Router serial act) Plain)
unfolding after_act after_router_act router_at
router-acts u k serial r act here plain =
    rw here (ap (λ a. set_node (touch u r act) k (commit (node_at u k) (acts.Router serial act) a)) (plain-answer u r act plain)
    ∙ ap (λ t. set_node t k (commit (node_at u k) (acts.Router serial act) Plain)) (sym (untouched u r act plain)))
