use Rattle.ipcz_world.proofs.state.State.carry_several.Goals as goal

pub returns-in-None-clause-begun : goal.returns-in-None-clause-begun
returns-in-None-clause-begun c _ n serial link lone = absurd (c.in-None.ensures.none n serial link lone)
