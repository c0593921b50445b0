-- Which routers leave, told from what their act gave.
use Rattle.std.proofs.Common.{◌≡◌, ℕ, Option, Some, None, refl, ◌∙◌, ap}
use Rattle.ipcz_base.specs.declared.item.Item.{Item}
use Rattle.ipcz_base.specs.Items.{is_gone_item}
use Rattle.ipcz_seq.specs.Queue.{current_item}
use Rattle.ipcz_router.specs.Router.{Router}
use Rattle.ipcz_router.specs.Acts.{item_passes}
use Rattle.ipcz_router.specs.ActEffects.{leaves_by, output_of, discard_output}
use Rattle.ipcz_router.specs.declared.act.Applied.{Applied}
use Rattle.ipcz_router.specs.declared.act.RouterAct.{RouterAct}
use Rattle.ipcz_router.specs.declared.act.RouterAct.TheVariants as acts
use Rattle.ipcz_node.specs.Acts.{has_left}

dropped : (number : ℕ) (item : Option Item) → has_left acts.Discard (discard_output number item) ≡ item_passes is_gone_item item
unfolding has_left discard_output item_passes
dropped number None = refl
dropped number (Some item) = refl

left : (r : Router) (act : RouterAct) → has_left act (output_of r act) ≡ leaves_by r act
unfolding has_left leaves_by output_of
left r acts.Discard = dropped r.in_queue.current (current_item r.in_queue)
left r other = refl

-- a router leaves by an act as what it gave tells
pub leaves_so : (r : Router) (act : RouterAct) (given : Applied) → given ≡ output_of r act → has_left act given ≡ leaves_by r act
leaves_so r act given is = ap (has_left act) is ∙ left r act
