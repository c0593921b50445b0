-- What a lone parcel does to the node that sends it and to the node that takes it, act by act.
use Rattle.std.proofs.Common.{◌≡◌, ◌⊎◌, ◌≢◌, ◌≤◌, ℕ, Bool, true, false, cond, nat_eq, Option, Some, None, [], length}
use Rattle.std.proofs.Common.{refl, sym, ap, subst, ◌∙◌, arith, inl, inr, true≢false, if◌then◌else◌}
use Rattle.std.specs.Prelude.{IsSomeAnd}
use Rattle.std.specs.Option.{option_map_or}
use Rattle.std.proofs.lemmas.Bool.Decides.{nat_tests}
use Rattle.std.specs.Ordering.{nat_cmp, eq_by_cmp}
use Rattle.std.specs.Cmp.{nat_cmp_total}
use Rattle.std.specs.FinMap.{FinMap, get, insert, get-insert, entries}
use Rattle.ipcz_base.specs.declared.item.Item.{Item}
use Rattle.ipcz_base.specs.declared.message.Message.{Message}
use Rattle.ipcz_base.specs.declared.link_end.LinkEnd.{LinkEnd}
use Rattle.ipcz_base.specs.declared.link_id.LinkId.{LinkId}
use Rattle.ipcz_base.specs.declared.side.Side.{Side}
use Rattle.ipcz_base.specs.Items.{ends_in}
use Rattle.ipcz_base.specs.Limits.{no_number}
use Rattle.ipcz_base.specs.declared.message.Message.TheVariants as messages
use Rattle.ipcz_seq.proofs.Pairs.{one_or_two}
use Rattle.ipcz_router.specs.declared.act.RouterAct.TheVariants as acts
use Rattle.ipcz_router.specs.declared.act.Answer.TheVariants.{Plain}
use Rattle.ipcz_router.specs.declared.outlook.Outlook.TheVariants as outlooks
use Rattle.ipcz_router.specs.declared.act.Applied.TheVariants as outputs
use Rattle.ipcz_router.specs.Router.{Router, outward_has}
use Rattle.ipcz_router.specs.Calls.{accept, accept_from_outward, has_place_for}
use Rattle.ipcz_router.specs.Acts.{pop_out, rest}
use Rattle.ipcz_router.specs.ActEffects.{output_of, item_output, apply, leaves_by}
use Rattle.ipcz_router.specs.Carrying.{carried_by}
use Rattle.ipcz_node.specs.declared.act.Act.TheVariants.{Router as OfRouter}
use Rattle.ipcz_node.specs.Node.{Node, Found, add_stray, found, first_where, link_router, on_found, on_router, push_out, router_in, with_router}
use Rattle.ipcz_node.specs.Acts.{act_lacks_serials, commit, commit_router, keep_or_drop}
use Rattle.ipcz_node.specs.Directories.{passes}
use Rattle.ipcz_node.specs.Hands.{deliver, fits, fits_item, free_hand, handle, is_hand_of, message_lacks_serials, take_in}
use Rattle.ipcz_node.specs.Sends.{item_message, send}
use Rattle.ipcz_node.specs.Preparing.{outlook_at}
use Rattle.ipcz_router.proofs.LoneRouters.{SendsFirst}
use Rattle.ipcz_node.specs.Lone.{TakesItem}
use Rattle.ipcz_node.proofs.Carrying.{committed_lone, lacks_none, taken_lone, takes_none}
use Rattle.ipcz_node.proofs.Directories.{found_filed}
use Rattle.ipcz_node.proofs.Written.{insert_here, insert_twice}

-- no router but that of the serial is flagged
abbrev pub OnlyFlagged : FinMap nat_cmp Router → ℕ → Type 0
OnlyFlagged m s = (q : ℕ) (r : Router) → get m q ≡ Some r → r.flagged ≡ true → q ≡ s

module _ (m : FinMap nat_cmp Router) (s : ℕ) (r : Router) (only : OnlyFlagged m s) where
  abbrev test : Router → Bool
  test x = x.flagged

  at : (q : ℕ) → get (insert m s r) q ≡ cond (eq_by_cmp nat_cmp q s) (Some r) (get m q)
  at q = get-insert nat_cmp_total m s r q

  here : get (insert m s r) s ≡ Some r
  here = insert_here m s r

  others : (q : ℕ) → passes test (insert m s r) q ≡ true → q ≡ s
  others q up = elim (one_or_two q s) [
    | inl t ↦ t.0
    | inr t ↦ go (get m q) refl (ap (λ o. option_map_or test o false) (sym (rw t.1 at (at q))) ∙ up)
  ]
    where
      go : (o : Option Router) → get m q ≡ o → option_map_or test o false ≡ true → q ≡ s
      go None e h = cc
      go (Some x) e h = only q x e h

  -- while that router stays flagged it is found
  pub still_flagged : r.flagged ≡ true → first_where test (entries (insert m s r)) ≡ Some (found s r)
  still_flagged up =
      subst (λ o. IsSomeAnd o (λ (x : Router). first_where test (entries (insert m s r)) ≡ Some (found s x))) here
      (found_filed test (insert m s r) (Some s) (passes test (insert m s r)) (λ q. refl)
      (ap (λ o. option_map_or test o false) here ∙ up, λ q passed. omega (arith, others q passed)))

  -- and none is once it rests
  pub none_flagged : r.flagged ≡ false → first_where test (entries (insert m s r)) ≡ None
  none_flagged down = found_filed test (insert m s r) None (passes test (insert m s r)) (λ q. refl) (λ q. go q (passes test (insert m s r) q) refl)
    where
      go : (q : ℕ) (b : Bool) → passes test (insert m s r) q ≡ b → b ≡ false
      go q false e = refl
      go q true e = absurd (true≢false (sym e ∙ ap (passes test (insert m s r)) (others q e) ∙ ap (λ o. option_map_or test o false) here ∙ down))

-- the flagged router of the lowest serial is found
pub lowest_flagged : (m : FinMap nat_cmp Router) (k : ℕ) (r : Router) → get m k ≡ Some r → r.flagged ≡ true →
    ((q : ℕ) (x : Router) → get m q ≡ Some x → x.flagged ≡ true → k ≤ q) → first_where (λ x. x.flagged) (entries m) ≡ Some (found k r)
lowest_flagged m k r here up least =
    subst (λ o. IsSomeAnd o (λ (x : Router). first_where (λ x. x.flagged) (entries m) ≡ Some (found k x))) here
    (found_filed (λ x. x.flagged) m (Some k) (passes (λ x. x.flagged) m) (λ q. refl)
    (ap (λ o. option_map_or (λ (x : Router). x.flagged) o false) here ∙ up, λ q passed. go q (get m q) refl passed))
  where
    go : (q : ℕ) (o : Option Router) → get m q ≡ o → option_map_or (λ (x : Router). x.flagged) o false ≡ true → k ≤ q
    go q None e h = cc
    go q (Some x) e h = least q x e h

-- what stands under a key after a router was written
pub written : (m : FinMap nat_cmp Router) (k q : ℕ) (r x : Router) → get (insert m k r) q ≡ Some x →
    ((q ≡ k) × (r ≡ x)) ⊎ ((q ≢ k) × (get m q ≡ Some x))
written m k q r x e = elim (one_or_two q k) [
  | inl t ↦ inl (t.0, let both : Some r ≡ Some x = sym (rw t.1 at (get-insert nat_cmp_total m k r q)) ∙ e in cc)
  | inr t ↦ inr (t.0, sym (rw t.1 at (get-insert nat_cmp_total m k r q)) ∙ e)
]

pub written_elsewhere : (m : FinMap nat_cmp Router) (k q : ℕ) (r : Router) → q ≢ k → get (insert m k r) q ≡ get m q
written_elsewhere m k q r ne = elim (one_or_two q k) [
  | inl t ↦ absurd (ne t.0)
  | inr t ↦ rw t.1 at (get-insert nat_cmp_total m k r q)
]

-- a router that sends an item without ends first
module _ (x : Node) (serial : ℕ) (link : LinkEnd) (r : Router) (here : router_in x serial ≡ Some r) (sends : SendsFirst r link) where
  -- the message that carries it
  abbrev pub first_message : Message
  first_message = item_message link r.out_queue.current sends.item []

  gives : output_of r acts.SendOut ≡ outputs.Sent link r.out_queue.current sends.item
  unfolding output_of item_output
  gives = rw (sends.way, sends.current) refl

  goes : outlook_at (router_in x serial) acts.SendOut ≡ outlooks.Item link.other 0
  goes = rw (here, gives) (ap (λ es. outlooks.Item link.other (length es)) sends.alone)

  -- its item goes into the outbox
  pub first_sent : push_out (with_router x serial (pop_out r)) link.other first_message ≡ commit x (OfRouter serial acts.SendOut) Plain
  unfolding carried_by apply
  first_sent = committed_lone x serial r link.other first_message here goes (rw gives refl)

  -- and takes no serial
  pub first_freely : x.next_peripheral ≤ no_number → act_lacks_serials x (OfRouter serial acts.SendOut) ≡ false
  first_freely low = lacks_none x serial link.other low goes

-- the taker of a lone parcel that has it in hand
module _ (x y : Node) (link : LinkId) (side : Side) (n from : ℕ) (item : Item) (source : Option ℕ) (is : TakesItem x link side n item y)
    (alone : ends_in item ≡ []) where
  abbrev held : Node
  held = record x { hand = Some from }

  place : has_place_for is.router (outward_has is.router link side) n ≡ true
  place = rw is.takes.outward is.takes.place

  -- its router takes the item out of the hand
  pub takes_it : x.hand ≡ None →
      with_router x is.serial (accept_from_outward is.router n item) ≡ deliver held from (messages.Item link side n item []) source
  unfolding accept is_hand_of
  takes_it free =
      let same : nat_eq from from ≡ true = grind (arith, nat_tests) in
      let hands : x.hand ≡ (if nat_eq from from then None else Some from) = free ∙ sym (ap (λ b. if b then None else Some from) same) in
      let back : accept_from_outward is.router n item ≡ accept is.router (outward_has is.router link side) n item =
      sym (ap (λ b. accept is.router b n item) is.takes.outward) in
      (λ j. record (with_router x is.serial (back j)) { hand = hands j })
      ∙ taken_lone held from link side n item [] source is.serial is.router is.first place alone refl

  -- and takes no serial
  pub takes_freely : message_lacks_serials held from (messages.Item link side n item []) source ≡ false
  takes_freely = takes_none held from link side n item [] source is.serials refl

-- a router that was written stands there
pub stands : (x : Node) (serial : ℕ) (r : Router) → router_in (with_router x serial r) serial ≡ Some r
stands x serial r = insert_here x.routers serial r

-- a router that stands there rests
pub rests : (x : Node) (serial : ℕ) (r : Router) → router_in x serial ≡ Some r →
    with_router x serial (rest r) ≡ commit x (OfRouter serial acts.Rest) Plain
unfolding commit commit_router keep_or_drop on_router send leaves_by output_of apply
rests x serial r here = sym (ap (λ o. on_router x o (commit_router x serial acts.Rest Plain)) here)

-- and so does one that was written
pub rested : (x : Node) (serial : ℕ) (r : Router) →
    with_router x serial (rest r) ≡ commit (with_router x serial r) (OfRouter serial acts.Rest) Plain
rested x serial r =
    (λ j. record x { routers = sym (insert_twice x.routers serial r (rest r)) j }) ∙ rests (with_router x serial r) serial r (stands x serial r)

-- an item that comes from a hand is taken as if it came without, and the hand is empty then
pub item_unheld : (x : Node) (from : ℕ) (link : LinkId) (side : Side) (n : ℕ) (item : Item) (source : Option ℕ) → x.hand ≡ None →
    (deliver (record x { hand = Some from }) from (messages.Item link side n item []) source
    ≡ deliver x from (messages.Item link side n item []) source) ×
    ((deliver x from (messages.Item link side n item []) source).hand ≡ None) ×
    ((deliver x from (messages.Item link side n item []) source).count ≡ x.count)
unfolding deliver handle fits fits_item is_hand_of on_found
item_unheld x from link side n item source none =
    go (fits x from (messages.Item link side n item []) source) (link_router x link side)
  where
    m : Message
    m = messages.Item link side n item []

    held : Node
    held = record x { hand = Some from }

    same : nat_eq from from ≡ true
    same = grind (arith, nat_tests)

    freed : (y z : Node) → y.hand ≡ Some from → z.hand ≡ None → record y { hand = None } ≡ record z { hand = None } →
        free_hand y from ≡ free_hand z from
    freed y z a b e =
        (λ j. record y { hand = (ap (λ h. if is_hand_of h from then None else h) a ∙ ap (λ c. if c then None else Some from) same) j })
        ∙ e ∙ (λ j. record z { hand = sym (ap (λ h. if is_hand_of h from then None else h) b) j })

    kept : (y : Node) → y.hand ≡ None → (free_hand y from).hand ≡ None
    kept y h = ap (λ h. if is_hand_of h from then None else h) h

    go : (b : Bool) (o : Option Found) →
        (free_hand (if b then on_found held o (take_in held from link side n item []) else add_stray held m) from
        ≡ free_hand (if b then on_found x o (take_in x from link side n item []) else add_stray x m) from) ×
        ((free_hand (if b then on_found x o (take_in x from link side n item []) else add_stray x m) from).hand ≡ None) ×
        ((free_hand (if b then on_found x o (take_in x from link side n item []) else add_stray x m) from).count ≡ x.count)
    go false o = (freed (add_stray held m) (add_stray x m) refl none refl, kept (add_stray x m) none, refl)
    go true None = (freed held x refl none refl, kept x none, refl)
    go true (Some f) =
        let y = take_in held from link side n item [] f.serial f.router in
        let z = take_in x from link side n item [] f.serial f.router in
        (freed y z refl none refl, kept z none, refl)
