use Rattle.std.proofs.Common.{◌≡◌, ◌≤◌, false, nat_lt, ap, arith, refl, inl}
use Rattle.ipcz_world.proofs.code.StatesOfNodes.{world_is}
use Rattle.std.proofs.lemmas.Bool.Decides.{nat_tests}
use Rattle.ipcz_world.proofs.Vocabulary.{World}
use Rattle.ipcz_world.specs.Steps.{put_reply}
use Rattle.ipcz_world.proofs.code.Calling.{put-gives}
use Rattle.ipcz_world.proofs.code.Regular.{put-step, put-stranger}
use Rattle.ipcz_world.proofs.code.Rooming.{given_with_room}
use Rattle.ipcz_world.proofs.state.State.put_given.Goals as goal

pub returns-then-n-self-clause-step : goal.returns-then-n-self-clause-step
unfolding put_reply
returns-then-n-self-clause-step c =
    let many : c.self.inside.count ≡ c.args.self.now.world.count = ap (λ (w : World). w.count) (world_is c.self.view_is) in
    let out : c.args.self.now.world.count ≤ c.args.n = omega (arith, many, c.if-n-self.true) in
    put-stranger c.args.profile c.args.self.now.world c.args.n c.args.at c.args.bytes c.args.ends out

pub returns-then-n-self-clause-order : goal.returns-then-n-self-clause-order
unfolding put_reply
returns-then-n-self-clause-order c =
    let many : c.self.inside.count ≡ c.args.self.now.world.count = ap (λ (w : World). w.count) (world_is c.self.view_is) in
    let out : c.args.self.now.world.count ≤ c.args.n = omega (arith, many, c.if-n-self.true) in
    let none : nat_lt c.args.n c.args.self.now.world.count ≡ false = grind (arith, out, nat_tests) in
    rw none (inl (refl, refl))

pub returns-clause-step : goal.returns-clause-step
returns-clause-step c =
    let many : c.self.inside.count ≡ c.args.self.now.world.count = ap (λ (w : World). w.count) (world_is c.self.view_is) in
    put-step c.args.profile c.args.self.now.world c.put_here.new.self.world c.args.n c.args.at c.args.bytes c.args.ends (put_reply c.put_here.result)
    (put-gives c.args.self.now.world c.put_here.new.self.world c.args.n _ (put_reply c.put_here.result)
    (omega (arith, many, c.if-n-self.false)) c.put_here.ensures.step)

pub returns-then-n-self-clause-full : goal.returns-then-n-self-clause-full
unfolding put_reply
returns-then-n-self-clause-full c = λ room. given_with_room (returns-then-n-self-clause-order c) (λ plain is. cc)
