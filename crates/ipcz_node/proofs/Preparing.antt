-- What an outlook has room for, the act has.
use Rattle.std.proofs.Common.{◌≡◌, Bool, true, false, nat_eq, if◌then◌else◌, Option, Some, None, [], List, length, refl, sym, arith}
use Rattle.std.specs.Prelude.{IfSome}
use Rattle.ipcz_base.specs.declared.end.End.{End}
use Rattle.ipcz_base.specs.Items.{ends_in}
use Rattle.ipcz_router.specs.Router.{Router}
use Rattle.ipcz_router.specs.ActEffects.{output_of}
use Rattle.ipcz_router.specs.Outlooks.{outlook_of}
use Rattle.ipcz_router.specs.declared.act.RouterAct.{RouterAct}
use Rattle.ipcz_router.specs.declared.act.Applied.{Applied}
use Rattle.ipcz_router.specs.declared.act.Applied.TheVariants as outputs
use Rattle.ipcz_node.specs.Node.{Node}
use Rattle.ipcz_node.specs.Sends.{serials_for}
use Rattle.ipcz_node.specs.Events.{moved_by}
use Rattle.ipcz_node.specs.Acts.{serials_at}
use Rattle.ipcz_node.specs.RoomyNodes.{RoomyNode, IsReady, CanTell}
use Rattle.ipcz_node.specs.Preparing.{IsReadyAs, outlook_at, serials_as}

counted : (b : Bool) (es : List End) → length (if b then [] else es) ≡ (if b then 0 else length es)
counted true es = refl
counted false es = refl

ready_as : (k : RoomyNode) (a : Applied) → IsReadyAs k (outlook_of a) → IsReady k a × CanTell k a
unfolding moved_by
ready_as k outputs.Nothing h = (tt, omega arith)
ready_as k (outputs.Sent link n item) h =
    let count = counted (nat_eq link.other k.node.number) (ends_in item) in (
      (h.outbox, omega (arith, count, h.links), omega (arith, count, h.moves), omega (arith, count, h.serials)),
      omega (arith, count, h.event_ends),
    )
ready_as k (outputs.Message to m) h = (h, omega arith)
ready_as k (outputs.Discarded n item) h = (h, omega arith)

wants_as : (k : RoomyNode) (a : Applied) → IsReady k a → CanTell k a → IsReadyAs k (outlook_of a)
unfolding moved_by
wants_as k outputs.Nothing h t = tt
wants_as k (outputs.Sent link n item) h t =
    let count = counted (nat_eq link.other k.node.number) (ends_in item) in record {
      outbox = h.0;
      links = omega (arith, count, h.1);
      moves = omega (arith, count, h.2);
      event_ends = omega (arith, count, t);
      serials = omega (arith, count, h.3);
    }
wants_as k (outputs.Message to m) h t = h
wants_as k (outputs.Discarded n item) h t = h

-- at the router that stands there
pub ready_at : (k : RoomyNode) (o : Option Router) (act : RouterAct) → IsReadyAs k (outlook_at o act) →
    IfSome o (λ r. IsReady k (output_of r act) × CanTell k (output_of r act))
ready_at k None act h = tt
ready_at k (Some r) act h = ready_as k (output_of r act) h

-- what an act has room for, its outlook has
pub wants_at : (k : RoomyNode) (o : Option Router) (act : RouterAct) →
    IfSome o (λ r. IsReady k (output_of r act) × CanTell k (output_of r act)) → IsReadyAs k (outlook_at o act)
wants_at k None act h = tt
wants_at k (Some r) act h = wants_as k (output_of r act) h.0 h.1

serials_of : (n : Node) (a : Applied) → serials_as n (outlook_of a) ≡ serials_for n a
unfolding serials_for
serials_of n (outputs.Sent link number item) = sym (counted (nat_eq link.other n.number) (ends_in item))
serials_of n any = refl

-- and it takes as many serials
pub serials_there : (n : Node) (o : Option Router) (act : RouterAct) → serials_as n (outlook_at o act) ≡ serials_at n o act
unfolding serials_at
serials_there n None act = refl
serials_there n (Some r) act = serials_of n (output_of r act)
