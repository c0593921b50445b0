use Rattle.std.proofs.Common.{◌≡◌, ◌==◌, ◌&&◌, ◌||◌, ◌<◌, ℕ, ap, subst, subst₂, sym, ◌∙◌, arith}
use Rattle.std.specs.Ordering.{is_eq}
use Rattle.ipcz_base.specs.Orders.{end_cmp}
use Rattle.ipcz_router.specs.Router.{moved_link}
use Rattle.ipcz_node.specs.Indexes.{is_filed}
use Rattle.ipcz_node.specs.LinkPlaces.{place_cmp}
use Rattle.ipcz_node.specs.Directories.{ends_inside}
use Rattle.ipcz_node.proofs.Holding.{hold_added, fresh_inside}
use Rattle.ipcz_node.proofs.Directories.{filed_added, room_added}
use Rattle.ipcz_node.proofs.Dryness.{wet_added}
use Rattle.ipcz_node.proofs.Readiness.{ready_added, fresh_idle}
use Rattle.ipcz_node.proofs.directory.Directory.add_terminal.Goals as goal

pub invariant_of-self : goal.invariant_of-self
invariant_of-self c =
    let w = c.from_descriptor.result.router in
    let d = c.args.descriptor.now in
    let next = c.self.inside.routers.next in
    let added = ap (λ v. v.routers) c.add-3.ensures in
    let to_links = subst₂ (λ n p. (key : _) (s : ℕ) → is_filed place_cmp c.add.new.self.members key s ≡
    ((is_eq (place_cmp p key) && n == s) || is_filed place_cmp c.self.inside.files.links.members key s))
    c.next_serial-serial.ensures.next c.of.ensures c.add.ensures.members in
    let to_terminals = subst (λ n. (key : _) (s : ℕ) → is_filed end_cmp c.add-2.new.self.members key s ≡
    ((is_eq (end_cmp d.end key) && n == s) || is_filed end_cmp c.self.inside.files.terminals.members key s))
    c.next_serial-serial.ensures.next c.add-2.ensures.members in
    let some : 0 < c.self.inside.room = subst (λ v. 0 < v.filed.room) (sym c.self.view_is) c.requires.room in (
      (
        filed_added _ _ next w d.end (moved_link d c.args.from) d.next_out d.next_in _ _ _ _ _ _ c.next_serial-serial.ensures.free added
            c.from_descriptor.ensures to_links to_terminals c.self.invariant.0.0,
        room_added _ _ next w _ _ _ _ _ _ _ _ _ c.next_serial-serial.ensures.free added (ap (λ r. r.flagged) c.from_descriptor.ensures) some
            (ap (λ v. v.room) c.add-3.ensures) c.add.ensures.room c.add-2.ensures.room c.self.invariant.0.1,
      ),
      hold_added _ _ next w c.self.inside.ends c.self.inside.room c.self.inside.held.room c.self.inside.held.room
          c.next_serial-serial.ensures.free added (ap ends_inside c.from_descriptor.ensures ∙ fresh_inside d.next_in) some (omega arith)
          c.self.invariant.1,
      wet_added _ _ _ next w added (ap (λ x. x.dry) c.from_descriptor.ensures) c.self.invariant.2,
      ready_added _ _ next w _ _ _ c.next_serial-serial.ensures.free added
          (fresh_idle w d.next_in (ap (λ r. r.in_queue) c.from_descriptor.ensures)) some c.self.invariant.3,
    )
