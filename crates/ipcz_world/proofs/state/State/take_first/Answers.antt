use Rattle.std.proofs.Common.{inl, subst, sym}
use Rattle.std.specs.Prelude.{Err}
use Rattle.ipcz_world.specs.Taking.{IsTaken}
use Rattle.ipcz_world.proofs.Vocabulary.{next_at}
use Rattle.ipcz_world.specs.World.{World}
use Rattle.ipcz_world.proofs.code.FirstTurns.{step-taken}
use Rattle.ipcz_world.proofs.code.Rooming.{ends_numbers}
use Rattle.std.specs.Prelude.{◌≢◌, IfErr}
use Rattle.ipcz_base.specs.declared.refusal.Refusal.TheVariants.{OutOfMemory}
use Rattle.ipcz_world.proofs.state.State.take_first.Goals as goal

pub take-requires-clause-possible : goal.take-requires-clause-possible
take-requires-clause-possible g c = c.requires.regular.possible c.args.n c.args.act c.requires.node (inl c.requires.first)

pub returns-in-Ok-clause-turned : goal.returns-in-Ok-clause-turned
returns-in-Ok-clause-turned g c =
    step-taken g.T.Told.tells c.args.self.now.world c.args.n c.args.act c.requires.node _ c.in-Ok.told (inl c.requires.first) c.in-Ok.ensures.taken

pub give_up-requires-clause-refused : goal.give_up-requires-clause-refused
give_up-requires-clause-refused g c =
    let refused = c.in-Err.ensures.taken in
    subst (λ (w : World). IsTaken g.T.Told.tells w c.args.n (next_at w c.args.n) (Err c.in-Err.why) w) (sym refused.left)
    (subst (λ a. IsTaken g.T.Told.tells c.args.self.now.world c.args.n a (Err c.in-Err.why) c.args.self.now.world) c.requires.first
    (subst (λ (v : World). IsTaken g.T.Told.tells c.args.self.now.world c.args.n c.args.act (Err c.in-Err.why) v) refused.left refused))

pub returns-in-Err-clause-full : goal.returns-in-Err-clause-full
returns-in-Err-clause-full g c = λ room.
    let refused = c.in-Err.ensures.taken in
    let why = c.in-Err.ensures.full room in
    let ended = c.give_up.ensures.ended (ends_numbers _ c.in-Err.why refused.why why) in
    let kept : IsTaken g.T.Told.tells c.args.self.now.world c.args.n c.args.act (Err c.in-Err.why) c.give_up.new.self.world =
    subst (λ (v : World). IsTaken g.T.Told.tells c.args.self.now.world c.args.n c.args.act (Err c.in-Err.why) v) (sym ended.1) refused in (
      subst (λ r. IsTaken g.T.Told.tells c.args.self.now.world c.args.n c.args.act r c.give_up.new.self.world) (sym ended.0) kept,
      subst (λ r. IfErr r (λ why. why ≢ OutOfMemory)) (sym ended.0) why,
    )
