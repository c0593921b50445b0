-- How the weight of all items moves when a node, a mailbox or a router changes.
use Rattle.ipcz_world.specs.Places.{in_node as in_node', in_places as in_places'}
use Rattle.std.specs.Prelude.{◌≡◌, ◌<◌, ℕ, ◌+◌, true, cond, nat_eq, Some}
use Rattle.std.proofs.Common.{arith, ap, ◌∙◌}
use Rattle.std.proofs.lemmas.Bool.Decides.{nat_tests}
use Rattle.std.specs.FinMap.{insert}
use Rattle.std.specs.Ordering.{nat_cmp}
use Rattle.std.specs.Cmp.{nat_cmp_total}
use Rattle.std.specs.FinMap.{nat_cmp-IsAntisymmetric}
use Rattle.ipcz_world.proofs.Vocabulary.{Message, total, Router, Node, router_in, World, Key, node_at, mail_at, way, router_at, Records}
use Rattle.ipcz_world.proofs.Vocabulary.{Weight, in_router, total_below, total_list}
use Rattle.ipcz_base.proofs.Totals.{total-insert}
use Rattle.ipcz_world.specs.declared.mail.Mail.TheVariants as mails
use Rattle.ipcz_world.proofs.frames.OfRecords.{in_message, in_node, in_places}
use Rattle.ipcz_world.proofs.frames.Totalling.{total_below-one}
use Rattle.ipcz_world.proofs.frames.Handing.{handed_on, handed, under_way-handed_on, under_way-handed, count-handed_on, count-handed}
use Rattle.ipcz_world.proofs.frames.Handing.{strays-handed_on, strays-handed, routers-handed_on, routers-handed}

module _ (f : Weight) (g : Records) where
  node-with_router : (n y : Node) (s : ℕ) (r x : Router) → router_in n s ≡ Some r → y.routers ≡ insert n.routers s x → y.strays ≡ n.strays →
      in_node f g y + in_router f r ≡ in_node f g n + in_router f x
  unfolding in_node'
  node-with_router n y s r x here e t = omega (
    arith,
    total-insert nat_cmp nat_cmp_total nat_cmp-IsAntisymmetric (λ serial q. in_router f q)
        n.routers s x r here,
    ap (total (λ serial q. in_router f q)) e,
    ap (total_list (in_message f g)) t,
  )

  node-same : (n y : Node) → y.routers ≡ n.routers → y.strays ≡ n.strays → in_node f g y ≡ in_node f g n
  unfolding in_node'
  node-same n y e t = omega (arith, ap (total (λ serial q. in_router f q)) e, ap (total_list (in_message f g)) t)

  -- one router changes, and what is under way
  places-changed : (w v : World) (k : Key) (r x : Router) → k.node < w.count → router_at w k ≡ Some r → v.count ≡ w.count →
      ((n : ℕ) → (node_at v n).strays ≡ (node_at w n).strays) →
      ((n : ℕ) → (node_at v n).routers ≡ cond (nat_eq n k.node) (insert (node_at w k.node).routers k.serial x) (node_at w n).routers) →
      total_below v.count (λ n. in_node f g (node_at v n)) + in_router f r ≡ total_below w.count (λ n. in_node f g (node_at w n)) +
      in_router f x
  unfolding router_at
  places-changed w v k r x l here c t e = omega (
    arith,
    ap (λ n. total_below n new) c,
    total_below-one w.count k.node new old l (λ j m d. node-same (node_at w j) (node_at v j)
        (e j ∙ ap (λ b. cond b (insert (node_at w k.node).routers k.serial x) (node_at w j).routers) d) (t j)),
    node-with_router (node_at w k.node) (node_at v k.node) k.serial r x here
        (e k.node ∙ ap (λ b. cond b (insert (node_at w k.node).routers k.serial x) (node_at w k.node).routers) itself) (t k.node),
  )
    where
      itself : nat_eq k.node k.node ≡ true
      itself = grind (arith, nat_tests)

      old : ℕ → ℕ
      old n = in_node f g (node_at w n)

      new : ℕ → ℕ
      new n = in_node f g (node_at v n)

  pub places-handed_on : (w : World) (from : ℕ) (k : Key) (r x : Router) (to : ℕ) (m last : Message) → from < w.count → k.node < w.count →
      to < w.count → router_at w k ≡ Some r → mail_at w (way w from k.node) ≡ mails.Hand last →
      in_places f g (handed_on w from k x to m) + (in_router f r + in_message f g last) ≡ in_places f g w +
      (in_router f x + in_message f g m)
  unfolding in_places'
  places-handed_on w from k r x to m last hf hk ht here e = omega (
    arith,
    under_way-handed_on (λ a b. in_message f g) w from k x to m last hf hk ht e,
    places-changed w (handed_on w from k x to m) k r x hk here (count-handed_on w from k x to m) (strays-handed_on w from k x to m)
        (routers-handed_on w from k x to m),
  )

  pub places-handed : (w : World) (from : ℕ) (k : Key) (r x : Router) (last : Message) → from < w.count → k.node < w.count →
      router_at w k ≡ Some r → mail_at w (way w from k.node) ≡ mails.Hand last →
      in_places f g (handed w from k x) + (in_router f r + in_message f g last) ≡ in_places f g w + in_router f x
  unfolding in_places'
  places-handed w from k r x last hf hk here e = omega (
    arith,
    under_way-handed (λ a b. in_message f g) w from k x last hf hk e,
    places-changed w (handed w from k x) k r x hk here (count-handed w from k x) (strays-handed w from k x) (routers-handed w from k x),
  )
