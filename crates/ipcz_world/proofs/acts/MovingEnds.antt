-- A send moves the terminals of its item's ends, one after the other: each step keeps all but that the item has a descriptor for each end.
use Rattle.ipcz_world.proofs.Vocabulary.{Side, End, LinkId, Item, Message, has_end, same_end, Node, Found, outbox, terminal_of, ends_in, World, Key}
use Rattle.ipcz_world.proofs.Vocabulary.{node_at, router_at, set_node, Books, Records, inner_link, none, descriptor_of, push_out, Transfer, move_ends}
use Rattle.ipcz_world.proofs.Vocabulary.{move_found}
use Rattle.std.specs.Prelude.{◌≡◌, ◌≢◌, ◌<◌, ℕ, Bool, true, false, cond, nat_eq, Option, Some, None, refl, List, [], ◌∷◌, ◌++◌}
use Rattle.std.specs.FinMap.{get}
use Rattle.std.proofs.Common.{arith, ap, subst, ◌∙◌, sym}
use Rattle.std.proofs.lemmas.Bool.Decides.{nat_tests}
use Rattle.ipcz_base.specs.declared.message.Message.TheVariants as messages
use Rattle.ipcz_base.proofs.Indexed.{place_at-put_place}
use Rattle.ipcz_node.specs.Sends.{move_end, move_router}
use Rattle.ipcz_world.proofs.frames.Frames.{count-set_node}
use Rattle.ipcz_world.specs.Records.{Moving as IsMoving}
use Rattle.ipcz_world.proofs.facts.RecordsAfter.{set_terminal, set_peripheral}
use Rattle.ipcz_world.proofs.facts.RecordsAfter.{found_records, moves_records, move_records}
use Rattle.ipcz_world.proofs.frames.Opened.{OpenInv}
use Rattle.ipcz_world.proofs.facts.Finding.{terminal_tells}
use Rattle.ipcz_world.proofs.acts.ExtendingAround.{next_key, extended_records, IsExtend}
use Rattle.ipcz_world.proofs.acts.ExtendingNodes.{extend_act, extended_node, inv-extend}
use Rattle.ipcz_world.proofs.acts.Updating.{node-here, set-twice, put-twice}
use Rattle.ipcz_world.proofs.facts.LinkTests.{same_end-itself}

router_there : (w : World) (n s : ℕ) (x : Node) → router_at (set_node w n x) (record { node = n; serial = s }) ≡ get x.routers s
unfolding router_at
router_there w n s x = ap (λ z. get z.routers s) (node-here w n x)

box_there : (x : Node) (a : ℕ) (m : Message) → outbox (push_out x a m) a ≡ outbox x a ++ m ∷ []
box_there x a m = place_at-put_place [] x.outboxes a (outbox x a ++ m ∷ []) a ∙ here
  where
    here : cond (nat_eq a a) (outbox x a ++ m ∷ []) (outbox x a) ≡ outbox x a ++ m ∷ []
    here = grind (arith, nat_tests)

pub first_end : (e : End) (es : List End) → has_end e (e ∷ es) ≡ true
first_end e es = grind (arith, same_end-itself e)

pub later_end : (d e : End) (es : List End) → has_end d es ≡ true → has_end d (e ∷ es) ≡ true
later_end d e es h = go (same_end e d) refl
  where
    go : (c : Bool) → same_end e d ≡ c → has_end d (e ∷ es) ≡ true
    go true c = grind (arith, c)
    go false c = grind (arith, c, h)

-- the node and the world with the item posted, as far as its terminals have moved
abbrev pub posted_node : ℕ → LinkId → Side → ℕ → Item → Transfer → Node
posted_node a l s number item m = push_out m.node a (messages.Item l s number item m.moves)

abbrev pub posted_world : World → ℕ → ℕ → LinkId → Side → ℕ → Item → Transfer → World
posted_world w n a l s number item m = set_node w n (posted_node a l s number item m)

module _ (w : World) (b : Books) (n a : ℕ) (l : LinkId) (s : Side) (number : ℕ) (item : Item) (away : n ≢ a) (within : a < w.count) where
  -- one more has moved: the update of the node
  step_node : (m : Transfer) (f : Found) → m.node.number ≡ n → extended_node (posted_world w n a l s number item m)
      (record { node = n; serial = f.serial }) f.router a (outbox m.node a ++ messages.Item l s number item
      (m.moves ++ descriptor_of f.router (inner_link (record { node = n; serial = m.node.next_peripheral })) ∷ []) ∷ []) ≡
      posted_node a l s number item (move_router m a f.serial f.router)
  step_node m f at =
      rw (node-here w n (posted_node a l s number item m), ← at)
      (ap (λ o. record (posted_node a l s number item (move_router m a f.serial f.router)) { outboxes = o })
      (put-twice [] m.node.outboxes a (outbox m.node a ++ messages.Item l s number item m.moves ∷ [])
      (outbox m.node a ++ messages.Item l s number item (m.moves ++ descriptor_of f.router
      (inner_link (record { node = m.node.number; serial = m.node.next_peripheral })) ∷ []) ∷ [])))

  keys : (m : Transfer) → next_key (posted_world w n a l s number item m) n ≡ record { node = n; serial = m.node.next_peripheral }
  keys m = ap (λ z. record { node = n; serial = z.next_peripheral }) (node-here w n (posted_node a l s number item m))

  step_world : (m : Transfer) (f : Found) → m.node.number ≡ n →
      extend_act (posted_world w n a l s number item m) (record { node = n; serial = f.serial }) f.router a
      (outbox m.node a ++ messages.Item l s number item (m.moves ++ descriptor_of f.router
      (inner_link (next_key (posted_world w n a l s number item m) n)) ∷ []) ∷ []) ≡ posted_world w n a l s number item
      (move_router m a f.serial f.router)
  step_world m f at =
      ap (λ k. extend_act (posted_world w n a l s number item m) (record { node = n; serial = f.serial }) f.router a
      (outbox m.node a ++ messages.Item l s number item (m.moves ++ descriptor_of f.router (inner_link k) ∷ []) ∷ [])) (keys m) ∙
      set-twice w n (posted_node a l s number item m) (extended_node (posted_world w n a l s number item m)
      (record { node = n; serial = f.serial }) f.router a (outbox m.node a ++ messages.Item l s number item
      (m.moves ++ descriptor_of f.router (inner_link (record { node = n; serial = m.node.next_peripheral })) ∷ []) ∷ [])) ∙
      ap (set_node w n) (step_node m f at)

  step_records : (m : Transfer) (g : Records) (f : Found) → m.node.number ≡ n →
      extended_records (posted_world w n a l s number item m) g (record { node = n; serial = f.serial }) f.router a ≡ move_records g m.node
      a f.serial f.router
  step_records m g f at =
      ap (λ k. set_terminal (set_peripheral g k (record {
        end = f.router.end;
        proxy = f.serial;
        node = a;
        router = None;
        by = None;
        left = none;
      })) f.router.end (IsMoving (descriptor_of f.router (inner_link k))))
      (keys m ∙ ap (λ z. record { node = z; serial = m.node.next_peripheral }) (sym at))

  -- one terminal that was found moves
  inv-step : (m : Transfer) (g : Records) (f : Found) (e : End) → m.node.number ≡ n → OpenInv (posted_world w n a l s number item m) b g →
      terminal_of m.node e ≡ Some f → has_end e (ends_in item) ≡ true →
      OpenInv (posted_world w n a l s number item (move_router m a f.serial f.router)) b (move_records g m.node a f.serial f.router)
  inv-step m g f e at law found named =
      let q : Key = record { node = n; serial = f.serial } in let t = terminal_tells m.node e f found in
      let is : IsExtend (posted_world w n a l s number item m) q f.router a =
      record {
        here = router_there w n f.serial (posted_node a l s number item m) ∙ t.here;
        lone = t.terminal;
        receiver =
            subst (λ c. a < c) (sym (count-set_node w n (posted_node a l s number item m))) within;
      } in
      let box : outbox (node_at (posted_world w n a l s number item m) n) a ≡ outbox m.node a ++ messages.Item l s number item m.moves ∷ []
      = ap (λ x. outbox x a) (node-here w n (posted_node a l s number item m)) ∙ box_there m.node a
      (messages.Item l s number item m.moves) in
      let res = inv-extend (posted_world w n a l s number item m) b g q f.router a law is l s number item m.moves (outbox m.node a) box away
      (ap (λ d. has_end d (ends_in item)) t.end ∙ named) in
      subst (λ h. OpenInv (posted_world w n a l s number item (move_router m a f.serial f.router)) b h) (step_records m g f at)
      (subst (λ v. OpenInv v b (extended_records (posted_world w n a l s number item m) g q f.router a)) (step_world m f at) res)

  -- the terminal of one end moves, if it is found
  inv-end : (m : Transfer) (g : Records) (e : End) → m.node.number ≡ n → OpenInv (posted_world w n a l s number item m) b g →
      has_end e (ends_in item) ≡ true → (o : Option Found) → terminal_of m.node e ≡ o →
      OpenInv (posted_world w n a l s number item (move_found m a o)) b (found_records g m.node a o)
  unfolding move_found found_records
  inv-end m g e at law named None found = law
  inv-end m g e at law named (Some f) found = inv-step m g f e at law found named

  node_kept : (m : Transfer) (o : Option Found) → (move_found m a o).node.number ≡ m.node.number
  unfolding move_found
  node_kept m None = refl
  node_kept m (Some f) = refl

  -- the terminals of all these ends move, in order: what a send does with the ends of its item, of whatever number
  pub inv-ends : (m : Transfer) (g : Records) (es : List End) → m.node.number ≡ n → OpenInv (posted_world w n a l s number item m) b g →
      ((e : End) → has_end e es ≡ true → has_end e (ends_in item) ≡ true) →
      OpenInv (posted_world w n a l s number item (move_ends m a es)) b (moves_records g m a es)
  inv-ends m g [] at law named = law
  inv-ends m g (e ∷ es) at law named =
      inv-ends (move_end m a e) (found_records g m.node a (terminal_of m.node e)) es (node_kept m (terminal_of m.node e) ∙ at)
      (inv-end m g e at law (named e (first_end e es)) (terminal_of m.node e) refl) (λ d h. named d (later_end d e es h))
