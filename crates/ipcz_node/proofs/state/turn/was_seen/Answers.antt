use Rattle.std.proofs.Common.{◌<◌, ◌≤◌, length, false, ap, sym, ◌∙◌, arith}
use Rattle.std.proofs.lemmas.Bool.Decides.{nat_tests}
use Rattle.ipcz_base.specs.Indexed.{place_at}
use Rattle.ipcz_node.proofs.Turns.{place_within, place_beyond}
use Rattle.ipcz_node.proofs.state.turn.was_seen.Goals as goal

pub returns-in-Some : goal.returns-in-Some
returns-in-Some c =
    let low : c.from.result < length c.args.mailboxes.now = grind (arith, nat_tests, c.in-Some.ensures.lookup.0) in
    sym (place_within false c.in-Some.seen.now c.args.mailboxes.now c.from.result low c.in-Some.ensures.lookup.1) ∙
    ap (place_at false c.args.mailboxes.now) c.from.ensures

pub returns-in-None : goal.returns-in-None
returns-in-None c =
    let high : length c.args.mailboxes.now ≤ c.from.result = grind (arith, nat_tests, c.in-None.ensures.lookup.0) in
    sym (place_beyond false c.args.mailboxes.now c.from.result high) ∙ ap (place_at false c.args.mailboxes.now) c.from.ensures
