use Rattle.std.proofs.Common.{inl}
use Rattle.ipcz_world.specs.Steps.{put_of}
use Rattle.ipcz_c.specs.Told.{IsPut}
use Rattle.ipcz_c.proofs.Answering.{answered}
use Rattle.ipcz_c.proofs.calls.put_as.Goals as goal

pub returns-in-Ok-clause-did : goal.returns-in-Ok-clause-did
returns-in-Ok-clause-did c = λ has. inl (answered (λ reply. IsPut reply c.args.number.now c.tell_put.new.number) _ _ _ _ c.put-reply.result _
    (λ j. put_of c.args.profile c.args.node (c.end.ensures j) (c.in-Ok.ensures.0 j) (c.in-Ok.ensures.1 j))
    c.put-reply.ensures.step c.put-reply.ensures.lawful c.put-reply.ensures.plain c.status.ensures c.tell_put.ensures)
