use Rattle.std.proofs.Common.{Some, refl, subst}
use Rattle.ipcz_messages.specs.Named.{IsCloseOf, IsFirstOfName}
use Rattle.ipcz_messages.proofs.Closing.{closes_none, closes_one}
use Rattle.ipcz_messages.proofs.Naming.{at_any, closed_told}
use Rattle.ipcz_messages.proofs.Placing.{placed_closed}
use Rattle.ipcz_messages.proofs.named.note_closed.Goals as goal

pub returns-in-Some-clause-told : goal.returns-in-Some-clause-told
returns-in-Some-clause-told c =
    let closed = c.in-Some.ensures.closed in
    let at = at_any (λ x. IsCloseOf closed.0 x.line) c.args.lines.now c.args.line _ c.requires closed.1 in
    closed_told c.args.lines.now c.args.line closed.0 c.as_slice.result.now c.args.named.now.items c.in-Some.index c.index_mut.result.now
    c.requires at closed.2 c.as_slice.ensures.value c.index_mut.ensures.value

pub returns-in-Some-clause-placed : goal.returns-in-Some-clause-placed
returns-in-Some-clause-placed c =
    let closed = c.in-Some.ensures.closed in
    let place : IsFirstOfName closed.0 c.args.named.now.items c.in-Some.index =
    subst (λ xs. IsFirstOfName closed.0 xs c.in-Some.index) c.as_slice.ensures.value closed.2 in
    placed_closed c.args.line c.args.named.now.items c.in-Some.index c.index_mut.result.now place.within c.index_mut.ensures.value

pub returns-in-Some-clause-closes : goal.returns-in-Some-clause-closes
returns-in-Some-clause-closes c =
    let closed = c.in-Some.ensures.closed in
    let at = at_any (λ x. IsCloseOf closed.0 x.line) c.args.lines.now c.args.line _ c.requires closed.1 in
    let place : IsFirstOfName closed.0 c.args.named.now.items c.in-Some.index =
    subst (λ xs. IsFirstOfName closed.0 xs c.in-Some.index) c.as_slice.ensures.value closed.2 in
    let p = c.index_mut.result.now in
    closes_one c.args.lines.now c.args.line closed.0 c.args.named.now.items c.in-Some.index
    record { name = p.name; node = p.node; place = p.place; first = p.first; closed = Some c.args.line } at place refl

pub returns-in_default-clause-closes : goal.returns-in_default-clause-closes
returns-in_default-clause-closes c distinct =
    closes_none c.args.lines.now c.args.line c.as_slice.result.now c.args.named.now.items _ c.requires c.as_slice.ensures.value
    c.in_default.ensures.other
