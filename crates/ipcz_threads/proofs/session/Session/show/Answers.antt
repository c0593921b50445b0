use Rattle.std.proofs.Common.{ap, refl, sym, subst, slice_set}
use Rattle.ipcz_threads.specs.Shows.{FirstTells}
use Rattle.ipcz_threads.proofs.Wording.{first-tells}
use Rattle.ipcz_threads.proofs.session.Session.show.Goals as goal

pub returns : goal.returns
returns g c =
    let t = g.F.FabricName.table in
    let ws = c.self.inside.workers.items in
    let tell = first-tells t ws c.in-Some.worker.now c.words.new.self c.in_ok-words.words.items c.in-Some.ensures.item.3.0 c.in-Some.ensures.value c.in_ok-words.ensures in (
      c.from_vec-2.result,
      refl,
      ap (λ s. s.labels) c.self.view_is,
      subst (λ s. FirstTells t s.workers c.from_vec-2.result (slice_set ws 0 c.words.new.self)) c.self.view_is
          (subst (λ l. FirstTells t ws l (slice_set ws 0 c.words.new.self)) (sym c.from_vec-2.ensures) tell),
    )
