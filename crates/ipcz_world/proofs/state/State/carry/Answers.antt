use Rattle.ipcz_world.proofs.state.State.carry.Goals as goal

pub returns-in-None-clause-carried : goal.returns-in-None-clause-carried
returns-in-None-clause-carried c _ n serial link lone = absurd (c.in-None.ensures.none n serial link lone)
