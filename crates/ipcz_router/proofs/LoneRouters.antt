-- The routers of a lone parcel: what the code's tests tell of the one that sends it, and which acts both have.
use Rattle.std.proofs.Common.{◌≡◌, ◌&&◌, ◌||◌, Bool, true, false, not, Option, Some, None, List, [], ◌∷◌, length, nat_eq, is_none, is_some}
use Rattle.std.proofs.Common.{refl, arith, ap, ◌∙◌, if◌then◌else◌}
use Rattle.std.proofs.Common.{◌+◌}
use Rattle.std.proofs.lemmas.Bool.{and_parts}
use Rattle.std.proofs.lemmas.Bool.Decides.{nat_tests}
use Rattle.std.specs.Ordering.{nat_cmp}
use Rattle.std.specs.Cmp.{nat_cmp_total}
use Rattle.std.specs.FinMap.{FinMap, get, remove, contains_key, len, len-remove, empty_of_len, get-empty}
use Rattle.ipcz_base.specs.declared.item.Item.{Item}
use Rattle.ipcz_base.specs.declared.end.End.{End}
use Rattle.ipcz_base.specs.declared.link_end.LinkEnd.{LinkEnd}
use Rattle.ipcz_base.specs.Items.{ends_in}
use Rattle.ipcz_edge.specs.Edge.{edge_decays, choose}
use Rattle.ipcz_seq.specs.Queue.{Queue, current_item, pop_front}
use Rattle.ipcz_router.specs.declared.act.RouterAct.TheVariants.{SendOut, SendIn, Discard, FinishOut, FinishIn, Leave, Mark, Wake, Claim}
use Rattle.ipcz_router.specs.declared.act.RouterAct.TheVariants.{Lock, Begin, Retire, Rest}
use Rattle.ipcz_router.specs.Router.{Router, is_terminal, is_on_central, decays}
use Rattle.ipcz_router.specs.Acts.{item_passes, pop_out, way_out}
use Rattle.ipcz_router.specs.ActTable.{is_possible, next_act, first_possible}
use Rattle.ipcz_router.specs.Lone.{is_settled, is_still, last_link, next_link}
use Rattle.ipcz_router.proofs.NextActs.{terminal_next}

-- the router sends an item without ends over a link first
pub record SendsFirst (r : Router) (link : LinkEnd) : Type 0 where
  pub item : Item
  pub current : current_item r.out_queue ≡ Some item
  pub alone : ends_in item ≡ []
  pub way : way_out r ≡ Some link

-- the router sends an item without ends over a link, and has then nothing to do but to rest
pub record SendsLast (r : Router) (link : LinkEnd) : Type 0 where
  pub item : Item
  pub current : current_item r.out_queue ≡ Some item
  pub alone : ends_in item ≡ []
  pub way : way_out r ≡ Some link
  pub still : is_still (pop_out r) ≡ true

-- what a settled terminal is
pub record Settled (r : Router) : Type 0 where
  pub terminal : is_terminal r ≡ true
  pub opened : r.closed ≡ false
  pub whole : edge_decays r.outward ≡ false
  pub marked : (is_on_central r && not r.marked) ≡ false
  pub woken : r.wake_owed ≡ false

pub settled : (r : Router) → is_settled r ≡ true → Settled r
settled r h = go (is_terminal r) r.closed (edge_decays r.outward) r.marked (is_on_central r) r.wake_owed refl refl refl refl refl refl h
  where
    go : (t c d m o w : Bool) → is_terminal r ≡ t → r.closed ≡ c → edge_decays r.outward ≡ d → r.marked ≡ m → is_on_central r ≡ o →
        r.wake_owed ≡ w → (t && (not c && (not d && ((m || not o) && not w)))) ≡ true → Settled r
    go true false false m o false et ec ed em eo ew h = record {
      terminal = et;
      opened = ec;
      whole = ed;
      marked = rw (em, eo) (unmarked m o h);
      woken = ew;
    }
      where
        unmarked : (m o : Bool) → ((m || not o) && true) ≡ true → (o && not m) ≡ false
        unmarked true true h = refl
        unmarked true false h = refl
        unmarked false true h = cc
        unmarked false false h = refl
    go false c d m o w et ec ed em eo ew h = cc
    go true true d m o w et ec ed em eo ew h = cc
    go true false true m o w et ec ed em eo ew h = cc
    go true false false true o true et ec ed em eo ew h = cc
    go true false false false true true et ec ed em eo ew h = cc
    go true false false false false true et ec ed em eo ew h = cc

-- what a still one is
pub still : (r : Router) → is_still r ≡ true → Settled r × (current_item r.out_queue ≡ None)
still r h = let t = and_parts (is_settled r) (is_none (current_item r.out_queue)) h in
    (settled r t.0, none (current_item r.out_queue) t.1)
  where
    none : {X : Type 0} → (o : Option X) → is_none o ≡ true → o ≡ None
    none None h = refl
    none (Some x) h = cc

without_mark : (o m d : Bool) → (o && not m) ≡ false → (o && (not m && not d)) ≡ false
without_mark true true d h = refl
without_mark true false d h = cc
without_mark false m d h = refl

-- a still one rests
pub still_rests : (r : Router) → is_still r ≡ true → next_act r ≡ Rest
unfolding is_possible
still_rests r h =
    let t = still r h in
    let s = t.0 in
    let send : is_possible r SendOut ≡ false = rw t.1 refl in
    let mark : is_possible r Mark ≡ false = without_mark (is_on_central r) r.marked (decays r) s.marked in
    let wake : is_possible r Wake ≡ false = rw s.woken refl in
    terminal_next r s.terminal s.opened s.whole send ∙ rw (mark, wake) refl

-- that is its first act
pub sends_next : (r : Router) (link : LinkEnd) → SendsFirst r link → next_act r ≡ SendOut
unfolding is_possible next_act
sends_next r link s =
    let send : is_possible r SendOut ≡ true = rw (s.current, s.way) refl in
    ap (λ b. if b then SendOut else first_possible r (SendIn ∷ Discard ∷ FinishOut ∷ FinishIn ∷ Leave ∷ Mark ∷ Wake ∷ Claim ∷ Lock ∷ Begin ∷
    Retire ∷ [])) send

-- behind the only item there is none
only_one : (q : Queue Item) (item : Item) → len q.items ≡ 1 → current_item q ≡ Some item → current_item (pop_front q) ≡ None
only_one q item one here =
    let held : contains_key q.items q.current ≡ true = ap is_some here in
    let none : len (remove q.items q.current) ≡ 0 = len-remove nat_cmp_total q.items q.current ∙ rw (held, one) refl in
    ap (λ (m : FinMap nat_cmp Item). get m (q.current + 1)) (empty_of_len (remove q.items q.current) none) ∙ get-empty nat_cmp (q.current + 1)

no_ends : (es : List End) → nat_eq (length es) 0 ≡ true → es ≡ []
no_ends [] h = refl
no_ends (e ∷ es) h = absurd (grind (arith, h, nat_tests))

-- what the code's tests tell
pub sends_last : (r : Router) (link : LinkEnd) → len r.out_queue.items ≡ 1 → is_settled r ≡ true →
    item_passes (λ item. nat_eq (length (ends_in item)) 0) (current_item r.out_queue) ≡ true → r.outward.primary ≡ Some link →
    SendsLast r link
unfolding item_passes choose
sends_last r link one is alone way = go (current_item r.out_queue) refl alone
  where
    go : (o : Option Item) → current_item r.out_queue ≡ o → item_passes (λ item. nat_eq (length (ends_in item)) 0) o ≡ true →
        SendsLast r link
    go None e h = cc
    go (Some item) e h = record {
      item = item;
      current = e;
      alone = no_ends (ends_in item) h;
      way = let whole : edge_decays r.outward ≡ false = (settled r is).whole in rw whole way;
      still = rw (is, only_one r.out_queue item one e) refl;
    }

-- and so does the link
pub last_told : (r : Router) (link : LinkEnd) → last_link r ≡ Some link → SendsLast r link
last_told r link e = go (nat_eq (len r.out_queue.items) 1) refl (is_settled r) refl
    (item_passes (λ item. nat_eq (length (ends_in item)) 0) (current_item r.out_queue)) refl e
  where
    go : (a : Bool) → nat_eq (len r.out_queue.items) 1 ≡ a → (b : Bool) → is_settled r ≡ b → (c : Bool) →
        item_passes (λ item. nat_eq (length (ends_in item)) 0) (current_item r.out_queue) ≡ c →
        (if a && (b && c) then r.outward.primary else None) ≡ Some link → SendsLast r link
    go true f true g true h e = sends_last r link (grind (arith, f, nat_tests)) g h e
    go false f b g c h e = cc
    go true f false g c h e = cc
    go true f true g false h e = cc

-- what the link of the next item tells
pub next_told : (r : Router) (link : LinkEnd) → next_link r ≡ Some link → SendsFirst r link
unfolding item_passes choose
next_told r link e = go (is_settled r) refl (current_item r.out_queue) refl e
  where
    has : is_settled r ≡ true → (item : Item) → current_item r.out_queue ≡ Some item → (b : Bool) → nat_eq (length (ends_in item)) 0 ≡ b →
        (if b then r.outward.primary else None) ≡ Some link → SendsFirst r link
    has is item here true h way = record {
      item = item;
      current = here;
      alone = no_ends (ends_in item) h;
      way = let whole : edge_decays r.outward ≡ false = (settled r is).whole in rw whole way;
    }
    has is item here false h way = cc

    go : (b : Bool) → is_settled r ≡ b → (o : Option Item) → current_item r.out_queue ≡ o →
        (if b && item_passes (λ item. nat_eq (length (ends_in item)) 0) o then r.outward.primary else None) ≡ Some link → SendsFirst r link
    go true is (Some item) here e = has is item here (nat_eq (length (ends_in item)) 0) refl e
    go true is None here e = cc
    go false is o here e = cc
