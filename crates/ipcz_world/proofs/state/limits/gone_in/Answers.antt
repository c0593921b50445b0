use Rattle.std.proofs.Common.{◌+◌, drop, ap, sym, ◌∙◌}
use Rattle.ipcz_world.proofs.Vocabulary.{higher, highest}
use Rattle.ipcz_world.specs.SettleLimit.{gone_message}
use Rattle.ipcz_world.proofs.code.Tallying.{higher-third, highest-item}
use Rattle.ipcz_world.proofs.state.limits.gone_in.Goals as goal

pub loop-i-preserved : goal.loop-i-preserved
loop-i-preserved c =
    let xs = c.args.queue.now.messages in
    let i = c.loop-i.i in
    let x = c.in-Some.message.now in
    ap (λ z. higher z (highest gone_message (drop (i + 1) xs))) (c.higher-most.ensures ∙ ap (higher c.loop-i.most) c.gone_message.ensures) ∙
    sym (higher-third c.loop-i.most (gone_message x) (highest gone_message (drop (i + 1) xs))) ∙
    ap (higher c.loop-i.most) (sym (highest-item gone_message xs i x c.in-Some.ensures)) ∙ c.loop-i.invariant
