-- Acts that are possible, one after the other, are turns of the plain machine.
use Rattle.std.specs.Prelude.{[], ◌∷◌, refl}
use Rattle.std.proofs.Common.{subst, sym}
use Rattle.ipcz_world.specs.declared.step.Step.TheVariants.{Turn}
use Rattle.ipcz_world.specs.declared.step.Reply.TheVariants.{Turned}
use Rattle.ipcz_world.specs.Books.{after_turn}
use Rattle.ipcz_world.specs.Routes.{routes_after_turn}
use Rattle.ipcz_world.specs.Turns.{after_act, turn_event}
use Rattle.ipcz_world.proofs.lawful.Turning.{stepped}
use Rattle.ipcz_promise.specs.Accounting.{Keeps}
use Rattle.ipcz_promise.specs.TurnRuns.{TurnsKeepThePromise}
use Rattle.ipcz_promise.proofs.Kept.{steps_keep_the_promise}

pub turns_keep_the_promise : TurnsKeepThePromise
turns_keep_the_promise w v b d g h a [] k run = (a, refl, subst (λ u. Keeps u a) (sym run.0) k)
turns_keep_the_promise w v b d g h a (t ∷ turns) k run =
    let event = turn_event w t.0 t.1 in
    let u = after_act w t.0 t.1 in
    let p = steps_keep_the_promise w u a (Turn t.0) (Turned event) k (stepped w t.0 t.1 run.0) in
    let q = turns_keep_the_promise u v (after_turn w b t.0 event) d (routes_after_turn w g t.0 event) h p.0 turns p.2 run.1 in
    (q.0, (p.0, p.1, q.1), q.2)
