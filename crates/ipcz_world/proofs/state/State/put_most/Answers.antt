use Rattle.std.proofs.Common.{cond, ap, sym, ◌∙◌}
use Rattle.ipcz_world.specs.SettleLimit.{put_within, gone_most, put_most}
use Rattle.ipcz_world.proofs.state.State.put_most.Goals as goal

pub returns-then-has_terminal : goal.returns-then-has_terminal
unfolding put_most
returns-then-has_terminal c =
    let w = c.args.self.now.world in
    c.put_count.ensures ∙ ap (λ b. cond b (put_within c.args.end w.nodes) (gone_most w)) (sym c.if-has_terminal.true ∙ c.has_terminal.ensures)

pub returns-else-has_terminal : goal.returns-else-has_terminal
unfolding put_most
returns-else-has_terminal c =
    let w = c.args.self.now.world in
    c.gone_most.ensures ∙ ap (λ b. cond b (put_within c.args.end w.nodes) (gone_most w)) (sym c.if-has_terminal.false ∙ c.has_terminal.ensures)
