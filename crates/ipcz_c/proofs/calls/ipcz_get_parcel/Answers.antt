use Rattle.std.proofs.Common.{ap, subst, sym, ◌∙◌, length}
use Rattle.ipcz_world.specs.declared.step.Step.TheVariants as steps
use Rattle.ipcz_c.specs.Calls.{Gets, sizes_next}
use Rattle.ipcz_c.specs.Told.{room_of, IsGot, fits}
use Rattle.ipcz_c.proofs.Answering.{answered}
use Rattle.ipcz_c.proofs.calls.ipcz_get_parcel.Goals as goal

pub tell_got-requires : goal.tell_got-requires
tell_got-requires c =
    let same = c.get-reply.ensures.sizes ∙ ap (λ old. sizes_next old c.args.node c.end-end.result) c.next_sizes-next.ensures.same
    ∙ sym c.next_sizes-next.ensures.sizes in
    ap (λ sizes. fits sizes (length c.args.bytes.now) (length c.args.portals.now)) same ∙ c.in_default.ensures.fits

pub returns-clause-did : goal.returns-clause-did
returns-clause-did c = λ has room. subst (λ old. Gets old c.args.node c.args.at c.status.result
    (room_of c.args.bytes.now c.args.size.now c.args.portals.now c.args.count.now c.args.number.now)
    (room_of c.tell_got.new.bytes c.tell_got.new.size c.tell_got.new.portals c.tell_got.new.count c.tell_got.new.number)
    c.get-reply.new.self.held.world)
    c.next_sizes-next.ensures.same
    (answered (λ reply. IsGot reply (room_of c.args.bytes.now c.args.size.now c.args.portals.now c.args.count.now c.args.number.now)
    (room_of c.tell_got.new.bytes c.tell_got.new.size c.tell_got.new.portals c.tell_got.new.count c.tell_got.new.number))
    _ _ _ _ c.get-reply.result _ (ap (steps.Get c.args.node) c.end-end.ensures)
    c.get-reply.ensures.step c.get-reply.ensures.lawful c.get-reply.ensures.plain c.status.ensures c.tell_got.ensures)
