use Rattle.std.proofs.Common.{◌≡◌, if◌then◌else◌, ℕ, Bool, true, false, List, [], length, Option, Some, refl, sym, subst, ap, ◌∙◌, arith}
use Rattle.std.specs.Prelude.{IsSomeAnd, nat_lt}
use Rattle.std.specs.FinMap.{get, insert}
use Rattle.ipcz_base.specs.declared.side.Side.{Side}
use Rattle.ipcz_base.specs.declared.end.End.{End}
use Rattle.ipcz_base.specs.declared.link_id.LinkId.{LinkId}
use Rattle.ipcz_base.specs.declared.item.Item.{Item}
use Rattle.ipcz_base.specs.Items.{ends_in}
use Rattle.ipcz_router.specs.Router.{Router, router_has}
use Rattle.ipcz_router.specs.Calls.{accept, accept_from_outward}
use Rattle.ipcz_router.specs.Acts.{rest}
use Rattle.ipcz_base.specs.Limits.{no_number}
use Rattle.ipcz_router.specs.Lone.{TakesLast}
use Rattle.ipcz_node.specs.Directories.{ends_brought, ends_inside}
use Rattle.ipcz_node.specs.Rooms.{put_filed}
use Rattle.ipcz_node.specs.contracts.directory.Directory.{the_view}
use Rattle.ipcz_node.proofs.Written.{insert_same}
use Rattle.ipcz_node.proofs.Holding.{hold_kept, brought_inside}
use Rattle.ipcz_node.proofs.Refiling.{StaysFiled, flag_was, flag_room, flag_changed, same_stays, second_of_both}
use Rattle.ipcz_node.proofs.Dryness.{dry_kept}
use Rattle.ipcz_node.proofs.Readiness.{HasCome, comes_inside, ready_has_room, ready_noted}
use Rattle.ipcz_node.proofs.directory.Directory.take_last.Goals as goal

none_of : (b : Bool) (es : List End) → es ≡ [] → (if b then length es else 0) ≡ 0
none_of true es none = ap length none
none_of false es none = refl

-- the router stands on the link
stands : (o : Option Router) (r : Router) (link : LinkId) (side : Side) → Some r ≡ o → IsSomeAnd o (λ x. router_has x link side ≡ true) →
    router_has r link side ≡ true
stands o r link side is at = subst (λ p. IsSomeAnd p (λ x. router_has x link side ≡ true)) (sym is) at

-- an item without ends leaves its router filed as it was but for the flag, and no more ends inside it
stays_with : (r w : Router) (link : LinkId) (side : Side) (n : ℕ) (item : Item) → ends_in item ≡ [] → TakesLast r link side n item w →
    StaysFiled r w × (ends_inside w ≡ ends_inside r) × (w.dry ≡ r.dry) × HasCome r w n
unfolding accept
stays_with r w link side n item none t =
    let brought : ends_brought r true n item ≡ 0 = none_of _ (ends_in item) none in (
      subst (StaysFiled r) (sym t.after) refl,
      ap ends_inside t.after ∙ brought_inside r true n item t.place ∙ omega (arith, brought),
      ap (λ x. x.dry) t.after,
      subst (λ x. HasCome r x n) (sym t.after) (comes_inside r (rest (accept_from_outward r n item)) n item refl refl
          (second_of_both (nat_lt n no_number) _ t.place)),
    )

pub follow-requires-clause-was : goal.follow-requires-clause-was
follow-requires-clause-was c =
    let r = c.router_mut-router.result.now.router in
    flag_was _ c.args.serial r r (same_stays r) c.self.inside.files.links c.self.inside.files.terminals c.self.inside.files.flagged c.self.inside.files.flagged
    c.self.inside.room c.self.inside.more c.self.inside.routers.room (sym c.router_mut-router.ensures.value) c.self.invariant.0
    ∙ sym c.is_flagged-was.ensures

pub follow-requires-clause-room : goal.follow-requires-clause-room
follow-requires-clause-room c down =
    let r = c.router_mut-router.result.now.router in
    flag_room _ c.args.serial r r (same_stays r) c.self.inside.files.links c.self.inside.files.terminals c.self.inside.files.flagged c.self.inside.files.flagged
    c.self.inside.room c.self.inside.more c.self.inside.routers.room (sym c.router_mut-router.ensures.value) c.self.invariant.0
    (sym c.is_flagged-was.ensures ∙ down)

-- what is left leaves the router as it was
pub invariant_of-self : goal.invariant_of-self
invariant_of-self c =
    let m = c.self.inside.routers.routers in
    let left = c.take_last.ensures.left c.if-not-take_last.true in
    let same : insert m c.args.serial c.take_last.new.self.router ≡ m = ap (insert m c.args.serial) left.1 ∙
    insert_same m c.args.serial c.router_mut-router.result.now.router (sym c.router_mut-router.ensures.value) in
    rw same c.self.invariant

pub invariant_of-self-2 : goal.invariant_of-self-2
invariant_of-self-2 c =
    let r = c.router_mut-router.result.now.router in
    let w = c.take_last.new.self.router in
    let here = sym c.router_mut-router.ensures.value in
    let stays = stays_with r w c.args.link c.args.side c.args.n c.args.item.now c.requires.alone
    (c.take_last.ensures.taken c.if-not-take_last.false c.args.link c.args.side
    (stands _ r c.args.link c.args.side (c.router_mut-router.ensures.value ∙ ap (λ v. get v.filed.routers c.args.serial) c.self.view_is)
    c.requires.stands)) in (
      flag_changed _ c.args.serial r w stays.0 _ _ _ _ c.self.inside.room c.self.inside.more c.self.inside.routers.room here
          c.self.invariant.0 _ _ c.is_flagged-was.ensures c.is_flagged-is.ensures c.follow.ensures.members c.follow.ensures.room,
      hold_kept _ c.args.serial r w c.self.inside.ends c.self.inside.room c.self.inside.held.room here stays.1 c.self.invariant.1,
      dry_kept _ _ c.args.serial r w here stays.2 c.self.invariant.2,
      ready_noted _ c.args.serial r w c.args.n _ _ _ _ c.is_new-is_new.result _ here stays.3 c.is_new-is_new.ensures c.note.ensures.latest
          c.note.ensures.members c.note.ensures.room c.self.invariant.3,
    )

pub note-requires : goal.note-requires
note-requires c = ready_has_room _ c.args.serial c.take_last.new.self.router c.args.n _ _ _ c.is_new-is_new.result c.is_new-is_new.ensures
    c.self.invariant.3

pub returns-then-not-take_last-clause-left : goal.returns-then-not-take_last-clause-left
returns-then-not-take_last-clause-left c kept =
    let left = c.take_last.ensures.left c.if-not-take_last.true in (
      left.0,
      ap (λ x. put_filed (the_view c.self.inside).filed c.args.serial x) left.1
          ∙ (λ j. record (the_view c.self.inside).filed {
            routers = insert_same c.self.inside.routers.routers c.args.serial c.router_mut-router.result.now.router
                (sym c.router_mut-router.ensures.value) j;
          })
          ∙ ap (λ v. v.filed) c.self.view_is,
    )

pub returns-clause-taken : goal.returns-clause-taken
returns-clause-taken c r here did =
    let both : Some c.router_mut-router.result.now.router ≡ Some r =
    c.router_mut-router.ensures.value ∙ ap (λ v. get v.filed.routers c.args.serial) c.self.view_is ∙ here in
    let same : c.router_mut-router.result.now.router ≡ r = cc in
    let w = c.take_last.new.self.router in (
      w,
      subst (λ x. TakesLast x c.args.link c.args.side c.args.n c.args.item.now w) same (c.take_last.ensures.taken c.if-not-take_last.false c.args.link
          c.args.side (stands _ c.router_mut-router.result.now.router c.args.link c.args.side (c.router_mut-router.ensures.value ∙
          ap (λ v. get v.filed.routers c.args.serial) c.self.view_is) c.requires.stands)),
      ap (λ v. put_filed v.filed c.args.serial w) c.self.view_is,
    )
