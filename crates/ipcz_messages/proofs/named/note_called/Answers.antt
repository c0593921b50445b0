use Rattle.std.proofs.Common.{Some}
use Rattle.std.specs.List.{HoldsAt}
use Rattle.ipcz_messages.specs.Named.{AllCallsNamed, IsCallAt}
use Rattle.ipcz_messages.proofs.Closing.{closes_called}
use Rattle.ipcz_messages.proofs.Covering.{called_named, distinct_noted, noted_kept, noted_named}
use Rattle.ipcz_messages.proofs.Naming.{at_any, called_noted}
use Rattle.ipcz_messages.proofs.Placing.{placed_noted}
use Rattle.ipcz_messages.proofs.named.note_called.Goals as goal

pub returns-in_ok-note-clause-told : goal.returns-in_ok-note-clause-told
returns-in_ok-note-clause-told c =
    let at : HoldsAt (λ x. IsCallAt c.in-Some.name.now x.line) c.args.lines.now c.args.line =
    at_any (λ x. IsCallAt c.in-Some.name.now x.line) c.args.lines.now c.args.line _ c.requires c.in-Some.ensures.called in
    called_noted c.args.lines.now c.args.line c.in-Some.name.now c.in-Some.node c.args.named.now.items c.note.new.named.items
    c.requires at c.in-Some.ensures.home c.in_ok-note.ensures.noted

pub returns-in_ok-note-clause-placed : goal.returns-in_ok-note-clause-placed
returns-in_ok-note-clause-placed c =
    placed_noted c.in-Some.name.now (Some c.in-Some.node) 0 c.args.named.now.items c.note.new.named.items c.in_ok-note.ensures.noted

pub returns-in_ok-note-clause-kept : goal.returns-in_ok-note-clause-kept
returns-in_ok-note-clause-kept c =
    noted_kept c.in-Some.name.now (Some c.in-Some.node) 0 c.args.named.now.items c.note.new.named.items c.in_ok-note.ensures.noted

pub returns-in_ok-note-clause-all : goal.returns-in_ok-note-clause-all
returns-in_ok-note-clause-all c =
    let new = c.note.new.named.items in
    at_any (AllCallsNamed new) c.args.lines.now c.args.line _ c.requires
    (called_named c.in-Some.name.now _ new c.in-Some.ensures.called
    (noted_named c.in-Some.name.now (Some c.in-Some.node) 0 c.args.named.now.items new c.in_ok-note.ensures.noted))

pub returns-in_default-clause-all : goal.returns-in_default-clause-all
returns-in_default-clause-all c =
    at_any (AllCallsNamed c.args.named.now.items) c.args.lines.now c.args.line _ c.requires
    (λ name node other h first. absurd (c.in_default.ensures.other name node other h first))

pub returns-in_ok-note-clause-once : goal.returns-in_ok-note-clause-once
returns-in_ok-note-clause-once c =
    distinct_noted c.in-Some.name.now (Some c.in-Some.node) 0 c.args.named.now.items c.note.new.named.items c.in_ok-note.ensures.noted

pub returns-in_ok-note-clause-closes : goal.returns-in_ok-note-clause-closes
returns-in_ok-note-clause-closes c =
    closes_called c.args.lines.now c.args.line c.in-Some.name.now c.in-Some.node c.args.named.now.items c.note.new.named.items c.in-Some.ensures.home
    c.in_ok-note.ensures.noted
