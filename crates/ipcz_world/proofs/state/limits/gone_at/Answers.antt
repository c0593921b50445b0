use Rattle.std.proofs.Common.{◌≡◌, ℕ, ap, sym, ◌∙◌}
use Rattle.std.specs.FinMap.{entries}
use Rattle.ipcz_node.proofs.Serials.{entries_are}
use Rattle.ipcz_world.proofs.Vocabulary.{Router, higher, highest}
use Rattle.ipcz_world.specs.SettleLimit.{gone_at, gone_held, gone_message}
use Rattle.ipcz_world.proofs.state.limits.gone_at.Goals as goal

pub returns : goal.returns
unfolding gone_at
returns c =
    let node = c.args.node.now.node in
    let here : c.gone_among.result ≡ highest (λ (x : ℕ × Router). gone_held x.1) (entries node.routers) =
    c.gone_among.ensures ∙ ap (highest (λ (x : ℕ × Router). gone_held x.1))
    (sym (entries_are (λ x. x.router) 0 _ c.routers.result.now c.routers.ensures.rising) ∙ ap entries c.routers.ensures.routers) in
    c.higher.ensures ∙ ap (λ z. higher z c.gone_waiting.result) here ∙
    ap (higher (highest (λ (x : ℕ × Router). gone_held x.1) (entries node.routers)))
    (c.gone_waiting.ensures ∙ ap (highest (λ box. highest gone_message box)) c.outboxes.ensures)
