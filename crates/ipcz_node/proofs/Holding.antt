-- That there is room to hold the ends which wait in the in queues, after each change of a router.
use Rattle.std.proofs.Common.{◌≡◌, ℕ, ◌+◌, ◌-◌, ◌<◌, ◌≤◌, Bool, true, false, if◌then◌else◌, length, Option, Some, None, refl, sym, ◌∙◌, ap}
use Rattle.std.proofs.Common.{arith, true≢false}
use Rattle.std.specs.Prelude.{is_none, nat_le, nat_lt}
use Rattle.std.specs.Ordering.{nat_cmp}
use Rattle.std.specs.Cmp.{nat_cmp_total}
use Rattle.std.specs.FinMap.{FinMap, get, insert, remove, empty, nat_cmp-IsAntisymmetric}
use Rattle.ipcz_base.specs.declared.item.Item.{Item}
use Rattle.ipcz_base.specs.Items.{ends_in}
use Rattle.ipcz_base.specs.Limits.{no_number}
use Rattle.ipcz_base.specs.Totals.{total}
use Rattle.ipcz_base.proofs.Totals.{total-insert, total-insert_new, total-remove, total-empty}
use Rattle.ipcz_seq.specs.Queue.{Queue, queue_from, current_item, has_place}
use Rattle.ipcz_router.specs.Router.{Router}
use Rattle.ipcz_router.specs.Calls.{has_place_for, accept, take_item}
use Rattle.ipcz_router.specs.Acts.{way_in}
use Rattle.ipcz_router.specs.ActEffects.{apply, output_of, item_output, discard_output}
use Rattle.ipcz_router.specs.declared.act.RouterAct.{RouterAct}
use Rattle.ipcz_router.specs.declared.act.RouterAct.TheVariants.{SendIn, Discard, Mark, Claim}
use Rattle.ipcz_router.specs.declared.act.RouterAct.TheVariants.{Lock}
use Rattle.ipcz_router.specs.declared.act.Answer.{Answer}
use Rattle.ipcz_router.specs.declared.act.Answer.TheVariants.{Plain}
use Rattle.ipcz_node.specs.Directories.{CanHold, ends_inside, ends_brought, ends_taken, takes_inside, ends_given}
use Rattle.ipcz_node.proofs.Refiling.{second_of_both}
use Rattle.ipcz_node.proofs.Written.{remove_absent}
use Rattle.ipcz_base.specs.declared.link_end.LinkEnd.{LinkEnd}

abbrev pub inside : ℕ → Router → ℕ
inside serial r = ends_inside r

-- no router has more ends inside than all have
pub inside_one : (m : FinMap nat_cmp Router) (s : ℕ) (r : Router) (ends more in_held : ℕ) → get m s ≡ Some r → CanHold m ends more in_held →
    ends_inside r ≤ ends
inside_one m s r ends more in_held here can =
    omega (arith, can.counted, total-remove nat_cmp nat_cmp_total nat_cmp-IsAntisymmetric inside m s r here)

-- one router was changed
pub hold_changed : (m : FinMap nat_cmp Router) (s : ℕ) (r w : Router) (was is more in_held to_held : ℕ) → get m s ≡ Some r →
    ends_inside w + was ≤ ends_inside r + is → is + more ≤ to_held → CanHold m was more in_held → CanHold (insert m s w) is more to_held
hold_changed m s r w was is more in_held to_held here within room can = record {
  counted = omega (arith, can.counted, within, total-insert nat_cmp nat_cmp_total nat_cmp-IsAntisymmetric inside m s w r here);
  room = room;
}

-- one router has so many ends fewer inside, at least
pub hold_spent : (m : FinMap nat_cmp Router) (s : ℕ) (r w : Router) (was is fewer more in_held to_held : ℕ) → get m s ≡ Some r →
    ends_inside w + fewer ≤ ends_inside r → is ≡ was - fewer → in_held ≤ to_held + fewer → CanHold m was more in_held →
    CanHold (insert m s w) is more to_held
hold_spent m s r w was is fewer more in_held to_held here within less room can =
    let one = inside_one m s r was more in_held here can in
    hold_changed m s r w was is more in_held to_held here (omega (arith, within, less, one))
    (omega (arith, can.room, less, room, within, one)) can

-- one router was changed that has no more ends inside
pub hold_kept : (m : FinMap nat_cmp Router) (s : ℕ) (r w : Router) (ends more in_held : ℕ) → get m s ≡ Some r →
    ends_inside w ≡ ends_inside r → CanHold m ends more in_held → CanHold (insert m s w) ends more in_held
hold_kept m s r w ends more in_held here same can = hold_changed m s r w ends ends more in_held in_held here (omega (arith, same))
    can.room can

-- a router without ends inside more, for which there was room
pub hold_added : (m k : FinMap nat_cmp Router) (s : ℕ) (w : Router) (ends more in_held to_held : ℕ) → get m s ≡ None → k ≡ insert m s w →
    ends_inside w ≡ 0 → 0 < more → in_held ≤ to_held + 1 → CanHold m ends more in_held → CanHold k ends (more - 1) to_held
hold_added m k s w ends more in_held to_held free is none some fewer can = rw is (record {
  counted = omega (arith, can.counted, none, total-insert_new nat_cmp nat_cmp_total nat_cmp-IsAntisymmetric inside m s w free);
  room = omega (arith, can.room, some, fewer);
})

-- a router fewer
pub hold_dropped : (m k : FinMap nat_cmp Router) (s : ℕ) (r : Router) (ends more in_held : ℕ) → get m s ≡ Some r → k ≡ remove m s →
    CanHold m ends more in_held → CanHold k ends more in_held
hold_dropped m k s r ends more in_held here is can = rw is (record {
  counted = omega (arith, can.counted, total-remove nat_cmp nat_cmp_total nat_cmp-IsAntisymmetric inside m s r here);
  room = can.room;
})

-- more room to hold ends
pub hold_more : (m k : FinMap nat_cmp Router) (ends more fewer in_held to_held : ℕ) → k ≡ m → ends + more ≤ to_held →
    CanHold m ends fewer in_held → CanHold k ends more to_held
hold_more m k ends more fewer in_held to_held is enough can = rw is (record { counted = can.counted; room = enough })

-- no routers
pub hold_none : (m : FinMap nat_cmp Router) (in_held : ℕ) → m ≡ empty → CanHold m 0 0 in_held
hold_none m in_held none = rw none (record { counted = omega (arith, total-empty nat_cmp inside); room = omega arith })

-- how many ends an item brings
abbrev weight : ℕ → Item → ℕ
weight n item = length (ends_in item)

-- a new queue brings none
pub fresh_inside : (first : ℕ) → total weight ((queue_from first).items) ≡ 0
fresh_inside first = total-empty nat_cmp weight

-- a queue with an item more, and with one fewer
free_number : (q : Queue Item) (n : ℕ) → has_place q n ≡ true → get q.items n ≡ None
free_number q n h = free (get q.items n) (second_of_both (nat_le q.current n) _ h)
  where
    free : (o : Option Item) → is_none o ≡ true → o ≡ None
    free None h = refl
    free (Some item) h = absurd (true≢false (sym h))

pub brought_inside : (r : Router) (from_outward : Bool) (n : ℕ) (item : Item) → has_place_for r from_outward n ≡ true →
    ends_inside (accept r from_outward n item) ≡ ends_inside r + ends_brought r from_outward n item
unfolding accept
brought_inside r true n item h =
    let new = total-insert_new nat_cmp nat_cmp_total nat_cmp-IsAntisymmetric weight r.in_queue.items n item
    (free_number r.in_queue n (second_of_both (nat_lt n no_number) _ h)) in
    new ∙ ap (λ b. ends_inside r + (if b then length (ends_in item) else 0)) (sym h)
brought_inside r false n item h = omega arith

-- how many ends an item brings, if there is one
abbrev weight_of : Option Item → ℕ
weight_of None = 0
weight_of (Some item) = length (ends_in item)

taken_from : (q : Queue Item) (o : Option Item) → current_item q ≡ o →
    total weight (remove q.items q.current) + weight_of o ≡ total weight q.items
taken_from q None is = omega (arith, ap (total weight) (remove_absent q.items q.current is))
taken_from q (Some item) is = total-remove nat_cmp nat_cmp_total nat_cmp-IsAntisymmetric weight q.items q.current item is

-- a get takes the ends of its item out
pub taken_inside : (r : Router) (item : Item) → current_item r.in_queue ≡ Some item →
    ends_inside (take_item r) + length (ends_in item) ≡ ends_inside r
taken_inside r item is = taken_from r.in_queue (Some item) is

sent_in_weight : (link : Option LinkEnd) (n : ℕ) (o : Option Item) → ends_given (item_output link n o) ≤ weight_of o
unfolding ends_given item_output
sent_in_weight None n o = omega arith
sent_in_weight (Some e) n None = omega arith
sent_in_weight (Some e) n (Some item) = omega arith

discarded_weight : (n : ℕ) (o : Option Item) → ends_given (discard_output n o) ≤ weight_of o
unfolding ends_given discard_output
discarded_weight n None = omega arith
discarded_weight n (Some item) = omega arith

-- an act takes the ends of its item out, if the item is of the in queue
pub act_inside : (r : Router) (act : RouterAct) (answer : Answer) →
    ends_inside (apply r act answer) + ends_taken act (output_of r act) ≤ ends_inside r
unfolding apply output_of takes_inside
act_inside r SendIn a =
    omega (
      arith,
      taken_from r.in_queue (current_item r.in_queue) refl,
      sent_in_weight (way_in r) r.in_queue.current (current_item r.in_queue),
    )
act_inside r Discard a =
    omega (arith, taken_from r.in_queue (current_item r.in_queue) refl, discarded_weight r.in_queue.current (current_item r.in_queue))
act_inside r Mark Plain = omega arith
act_inside r Claim Plain = omega arith
act_inside r Lock Plain = omega arith
act_inside r other a = omega arith
