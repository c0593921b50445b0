use Rattle.std.specs.Prelude.{Err}
use Rattle.std.proofs.Common.{◌≡◌, inl, inr, ap, sym, subst, refl, ◌∙◌}
use Rattle.ipcz_node.specs.Acts.{stand_in}
use Rattle.ipcz_world.proofs.Vocabulary.{Happened, next_at}
use Rattle.ipcz_world.specs.Taking.{IsTaken}
use Rattle.ipcz_world.proofs.code.FirstTurns.{refused-grows, step-taken, step-refused, stands-alone}
use Rattle.ipcz_world.proofs.state.State.give_up.Goals as goal

pub returns-in-NumbersEnd-clause-refused : goal.returns-in-NumbersEnd-clause-refused
returns-in-NumbersEnd-clause-refused g c =
    let act = next_at c.args.self.now.world c.args.n in
    step-refused g.T.Told.tells c.args.self.now.world c.args.n act c.requires.node c.args.self.now.world _ (inl refl) (inr refl)
    (subst (λ why. IsTaken g.T.Told.tells c.args.self.now.world c.args.n act (Err why) c.args.self.now.world) c.in-NumbersEnd.is c.requires.refused)

pub returns-in_default-stand_in-clause-refused : goal.returns-in_default-stand_in-clause-refused
returns-in_default-stand_in-clause-refused g c =
    step-refused g.T.Told.tells c.args.self.now.world c.args.n (next_at c.args.self.now.world c.args.n) c.requires.node c.args.self.now.world c.args.why (inl refl)
    (inl (subst (λ a. a ≡ stand_in a) c.next.ensures c.in_default-stand_in.ensures.none)) c.requires.refused

pub returns-in-Ok-clause-turned : goal.returns-in-Ok-clause-turned
returns-in-Ok-clause-turned g c =
    let wanted = refused-grows g.T.Told.tells c.args.self.now.world c.args.n (next_at c.args.self.now.world c.args.n) c.requires.node c.args.self.now.world
    c.args.why c.in_default.not-NumbersEnd c.requires.refused in
    let t = step-taken (λ (event told : Happened). told ≡ event) c.args.self.now.world c.args.n c.in-Some.other c.requires.node _ c.in-Ok.event
    (inr (c.in-Some.ensures.other ∙ ap stand_in c.next.ensures, wanted)) c.in-Ok.ensures.taken in
    (t.0, subst (λ event. g.T.Told.tells event c.told.result) t.1 c.told.ensures, t.2)

pub returns-in-Err-clause-refused : goal.returns-in-Err-clause-refused
returns-in-Err-clause-refused g c =
    let wanted = refused-grows g.T.Told.tells c.args.self.now.world c.args.n (next_at c.args.self.now.world c.args.n) c.requires.node c.args.self.now.world
    c.args.why c.in_default.not-NumbersEnd c.requires.refused in
    let stands = c.in-Some.ensures.other ∙ ap stand_in c.next.ensures in
    step-refused (λ (event told : Happened). told ≡ event) c.args.self.now.world c.args.n c.in-Some.other c.requires.node _ c.in-Err.why
    (inr (stands, wanted)) (inl (stands ∙ stands-alone (next_at c.args.self.now.world c.args.n) ∙ ap stand_in (sym stands))) c.in-Err.ensures.taken
