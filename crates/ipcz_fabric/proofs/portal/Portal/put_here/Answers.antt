use Rattle.std.proofs.Common.{◌∙◌, sym, ap, inl, inr, refl, length}
use Rattle.std.specs.Prelude.{unwrap_or}
use Rattle.ipcz_base.specs.declared.refusal.Refusal.TheVariants as refusals
use Rattle.ipcz_node.specs.Calls.{put_number}
use Rattle.ipcz_fabric.specs.Portals.{PortalValue, ends_of}
use Rattle.ipcz_fabric.proofs.Portaling.{put_here, part_here, wants_by}
use Rattle.std.proofs.Common.{subst, true≢false}
use Rattle.ipcz_node.specs.RoomyNodes.{TakesMore}
use Rattle.ipcz_cell.specs.CellStates.{roomy}
use Rattle.ipcz_fabric.proofs.portal.Portal.put_here.Goals as goal

pub returns-in-Ok-put-clause-allowed : goal.returns-in-Ok-put-clause-allowed
returns-in-Ok-put-clause-allowed g c =
    sym (put_here _ _ _ _ _ _ _ (ap (λ (p : PortalValue). p.end) c.self.view_is) (c.in-Ok.ensures.ends ∙ ap ends_of c.as_slice.ensures.value))
    ∙ c.in-Ok-put.ensures.allowed

pub returns-in-Ok-put-clause-number : goal.returns-in-Ok-put-clause-number
returns-in-Ok-put-clause-number g c = c.in-Ok-put.ensures.number
    ∙ ap (put_number c.args.cell.now.part.state) (ap (λ (p : PortalValue). p.end) c.self.view_is)

pub returns-in-Ok-put-clause-ok : goal.returns-in-Ok-put-clause-ok
returns-in-Ok-put-clause-ok g c = c.in-Ok-put.ensures.ok
    ∙ part_here _ _ _ _ _ _ (ap (λ (p : PortalValue). p.end) c.self.view_is) (c.in-Ok.ensures.ends ∙ ap ends_of c.as_slice.ensures.value)

pub returns-in-Err-clause-why : goal.returns-in-Err-clause-why
returns-in-Err-clause-why g c = inr (c.in-Err.ensures.why
    ∙ ap (λ o. unwrap_or o refusals.OutOfMemory)
    (put_here _ _ _ _ _ _ _ (ap (λ (p : PortalValue). p.end) c.self.view_is) (c.in-Ok.ensures.ends ∙ ap ends_of c.as_slice.ensures.value)))

pub returns-in_default-clause-why : goal.returns-in_default-clause-why
returns-in_default-clause-why g c = inl (wants_by c.args.portals.items (λ none. c.in_default.ensures.none (ap length c.as_slice.ensures.value ∙ none)), refl)

pub returns-in-Err-clause-full : goal.returns-in-Err-clause-full
returns-in-Err-clause-full g c = λ wants none room. c.in-Err.ensures.full
    (put_here _ _ _ _ _ _ _ (ap (λ (p : PortalValue). p.end) c.self.view_is) (c.in-Ok.ensures.ends ∙ ap ends_of c.as_slice.ensures.value) ∙ none)
    (subst (TakesMore (roomy c.args.cell.now)) (sym (ap (λ (p : PortalValue). p.end) c.self.view_is)) room)

pub returns-in_default-clause-full : goal.returns-in_default-clause-full
returns-in_default-clause-full g c = λ wants none room. absurd (true≢false
    (sym (wants_by c.args.portals.items (λ none. c.in_default.ensures.none (ap length c.as_slice.ensures.value ∙ none))) ∙ wants))
