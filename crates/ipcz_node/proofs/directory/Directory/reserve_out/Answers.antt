use Rattle.std.proofs.Common.{sym, ap, subst, ◌<◌, ℕ}
use Rattle.ipcz_node.specs.Rooms.{HasQueueRoom}
use Rattle.ipcz_node.proofs.Written.{room_kept}
use Rattle.ipcz_node.proofs.directory.Directory.reserve_out.Goals as goal

pub returns-clause-kept : goal.returns-clause-kept
returns-clause-kept c other has =
    room_kept c.self.inside.routers.out_rooms c.args.serial c.router_mut.result.now.out_room c.reserve_close.new.self.out_room
    (sym c.router_mut.ensures.room)
    (λ some. subst (λ (r : ℕ). 0 < r) (sym (ap (λ r. r.out_room) (c.reserve_close.ensures.held some))) some)
    other (subst (λ v. HasQueueRoom v.out_rooms other) (sym c.self.view_is) has)
