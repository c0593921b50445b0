-- What an act of a router is seen to do, told from what it gave.
use Rattle.std.proofs.Common.{◌≡◌, ℕ, Bool, true, false, ◌&&◌, ◌||◌, Option, Some, None, is_some, nat_eq, if◌then◌else◌, [], refl, sym, ap}
use Rattle.std.proofs.Common.{true≢false}
use Rattle.ipcz_base.specs.declared.item.Item.{Item}
use Rattle.ipcz_base.specs.Items.{ends_in, is_gone_item}
use Rattle.ipcz_base.specs.Links.{word_of}
use Rattle.ipcz_base.specs.declared.link_end.LinkEnd.{LinkEnd}
use Rattle.ipcz_seq.specs.Queue.{current_item}
use Rattle.ipcz_router.specs.Router.{Router, is_sink, is_on_central}
use Rattle.ipcz_router.specs.Acts.{item_passes}
use Rattle.ipcz_router.specs.Calls.{next_number}
use Rattle.ipcz_router.specs.ActTable.{is_possible, is_done, can_retire, may_take, is_rest, next_act}
use Rattle.ipcz_router.specs.ActEffects.{output_of, discard_output, retire_output}
use Rattle.ipcz_router.specs.declared.act.Answer.{Answer}
use Rattle.ipcz_router.specs.declared.act.RouterAct.{RouterAct}
use Rattle.ipcz_router.specs.declared.act.RouterAct.TheVariants as acts
use Rattle.ipcz_router.specs.declared.act.Applied.{Applied}
use Rattle.ipcz_router.specs.declared.act.Applied.TheVariants as outputs
use Rattle.ipcz_node.specs.declared.happened.Happened.{Happened}
use Rattle.ipcz_node.specs.declared.happened.Happened.TheVariants as events
use Rattle.ipcz_node.specs.Node.{Node}
use Rattle.ipcz_node.specs.Events.{act_event, dropped_event, link_acted, link_of, moved_by, retired_event, router_event, send_event, sent_event}
use Rattle.ipcz_node.proofs.Refiling.{first_of_both, second_of_both}

sent : (n m : Node) (event : ℕ → _ → _ → Happened) (o : Applied) → m.number ≡ n.number →
    sent_event event o (moved_by m o) ≡ send_event n event o
unfolding sent_event send_event moved_by
sent n m event (outputs.Sent link number item) same =
    ap (λ (i : ℕ). event number link.link (if nat_eq link.other i then [] else ends_in item)) same
sent n m event any same = refl

dropped : (s number : ℕ) (item : Option Item) → is_some item ≡ true → dropped_event s (discard_output number item) ≡
    (if item_passes is_gone_item item then events.DiscardLeave s number else events.Discard s number)
unfolding dropped_event discard_output item_passes
dropped s number None there = absurd (true≢false (sym there))
dropped s number (Some item) there = refl

retired : (s number : ℕ) (link : Option LinkEnd) → is_some link ≡ true →
    retired_event s (retire_output link number) ≡ events.Retire s number (link_of link)
unfolding retired_event retire_output link_of
retired s number None there = absurd (true≢false (sym there))
retired s number (Some e) there = refl

-- who stands on a central link has a link
linked : (link : Option LinkEnd) → is_some (word_of link) ≡ true → is_some link ≡ true
unfolding word_of
linked None central = central
linked (Some e) central = refl

-- as who can retire does
can_retire_linked : (r : Router) → can_retire r ≡ true → is_some r.outward.primary ≡ true
can_retire_linked r can =
    linked r.outward.primary (first_of_both (is_on_central r) _ (second_of_both r.holds _ (second_of_both (is_done r) _ can)))

no_rest : (a b : Bool) → (a || (false && b)) ≡ true → a ≡ true
no_rest true b h = refl
no_rest false b h = h

-- told at a node of the same number
pub told : (n m : Node) (s : ℕ) (r : Router) (act : RouterAct) (a : Answer) → may_take r act ≡ true → m.number ≡ n.number →
    act_event s (link_acted r act) act a (output_of r act) (moved_by m (output_of r act)) ≡ router_event n s r act a
unfolding act_event router_event link_acted output_of is_possible is_rest
told n m s r acts.SendOut a may same = sent n m _ _ same
told n m s r acts.SendIn a may same = sent n m _ _ same
told n m s r acts.Discard a may same = dropped s r.in_queue.current (current_item r.in_queue)
    (second_of_both (is_sink r) _ (no_rest (is_sink r && is_some (current_item r.in_queue)) (is_rest (next_act r)) may))
told n m s r acts.Retire a may same =
    retired s (next_number r) r.outward.primary (can_retire_linked r (no_rest (can_retire r) (is_rest (next_act r)) may))
told n m s r other a may same = refl
