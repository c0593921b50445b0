use Rattle.std.proofs.Common.{◌≡◌, ◌+◌, ◌*◌, cond, refl, arith, ap, subst, ◌∙◌}
use Rattle.ipcz_world.proofs.Vocabulary.{opposite_end, is_terminal}
use Rattle.ipcz_world.specs.SettleLimit.{put_most, router_limit, numbers_left}
use Rattle.ipcz_world.specs.Tallies.{Tells}
use Rattle.ipcz_world.proofs.state.State.router_limit.Goals.{then-is_terminal, else-is_terminal}
use Rattle.ipcz_world.proofs.state.State.router_limit.Goals as goal

pub returns : goal.returns
unfolding router_limit numbers_left
returns c =
    let r = c.args.router.now.router in
    let v = c.args.self.now.world in
    let out = c.saturating_sub-out.result in
    let inn = c.saturating_sub-inn.result in
    let own : c.put_most.result ≡ put_most v r.end = c.put_most.ensures ∙ ap (put_most v) c.end-end.ensures in
    let peer : c.put_most-2.result ≡ put_most v (opposite_end r.end) =
    c.put_most-2.ensures ∙ ap (put_most v) (c.opposite.ensures ∙ ap opposite_end c.end-end.ensures) in
    let rest : c.if-is_terminal.rest ≡ cond (is_terminal r) 17 61 =
    elim c.if-is_terminal.branch [
      | then-is_terminal w ↦ grind (arith, w.rest-is, w.if-is_terminal, c.is_terminal.ensures)
      | else-is_terminal w ↦ grind (arith, w.rest-is, w.if-is_terminal, c.is_terminal.ensures)
    ] in
    let told : Tells c.plus-2.result (6 * ((out + inn) + 4) + c.if-is_terminal.rest) =
    c.plus-2.ensures (6 * ((out + inn) + 4)) c.if-is_terminal.rest
    (c.times.ensures ((out + inn) + 4) (c.plus-numbers.ensures (out + inn) 4 (c.plus.ensures out inn refl refl) refl)) refl in
    let whole : 6 * ((out + inn) + 4) + c.if-is_terminal.rest ≡ router_limit c.args.self.now.world r =
    omega (arith, own, peer, rest, c.saturating_sub-out.ensures, c.saturating_sub-inn.ensures, c.out_number.ensures, c.in_number.ensures) in
    subst (Tells c.plus-2.result) whole told
