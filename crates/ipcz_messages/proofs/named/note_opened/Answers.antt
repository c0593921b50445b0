use Rattle.std.proofs.Common.{rules, None}
use Rattle.std.specs.List.{HoldsAt}
use Rattle.ipcz_messages.specs.Named.{AllOpensNamed, IsOpenOf, KeepsNames}
use Rattle.ipcz_messages.proofs.Closing.{closes_opened}
use Rattle.ipcz_messages.proofs.Covering.{both_named, distinct_noted, noted_kept, noted_named}
use Rattle.ipcz_messages.proofs.Naming.{at_any, opened_noted}
use Rattle.ipcz_messages.proofs.Placing.{placed_noted}
use Rattle.ipcz_messages.proofs.named.note_opened.Goals as goal

pub returns-in_ok-note-2-clause-told : goal.returns-in_ok-note-2-clause-told
returns-in_ok-note-2-clause-told c =
    let first : HoldsAt (λ x. IsOpenOf c.in-Some.first.now x.line) c.args.lines.now c.args.line =
    search (rules, at_any (λ x. IsOpenOf c.in-Some.first.now x.line) c.args.lines.now c.args.line) in
    let second : HoldsAt (λ x. IsOpenOf c.in-Some.second.now x.line) c.args.lines.now c.args.line =
    search (rules, at_any (λ x. IsOpenOf c.in-Some.second.now x.line) c.args.lines.now c.args.line) in
    λ told. opened_noted c.args.lines.now c.args.line c.in-Some.second.now c.note.new.named.items
    c.note-in-Some.new.named.items c.requires second c.in_ok-note-2.ensures.noted
    (opened_noted c.args.lines.now c.args.line c.in-Some.first.now c.args.named.now.items c.note.new.named.items c.requires
    first c.in_ok-note.ensures.noted told)

pub returns-in_ok-note-2-clause-placed : goal.returns-in_ok-note-2-clause-placed
returns-in_ok-note-2-clause-placed c placed =
    placed_noted c.in-Some.second.now None c.args.line c.note.new.named.items c.note-in-Some.new.named.items c.in_ok-note-2.ensures.noted
    (placed_noted c.in-Some.first.now None c.args.line c.args.named.now.items c.note.new.named.items c.in_ok-note.ensures.noted placed)

pub returns-in_ok-note-2-clause-kept : goal.returns-in_ok-note-2-clause-kept
returns-in_ok-note-2-clause-kept c name =
    let one : KeepsNames c.args.named.now.items c.note.new.named.items =
    noted_kept c.in-Some.first.now None c.args.line c.args.named.now.items c.note.new.named.items c.in_ok-note.ensures.noted in
    let two : KeepsNames c.note.new.named.items c.note-in-Some.new.named.items =
    noted_kept c.in-Some.second.now None c.args.line c.note.new.named.items c.note-in-Some.new.named.items c.in_ok-note-2.ensures.noted in
    λ h. two name (one name h)

pub returns-in_ok-note-2-clause-all : goal.returns-in_ok-note-2-clause-all
returns-in_ok-note-2-clause-all c =
    let new = c.note-in-Some.new.named.items in
    at_any (AllOpensNamed new) c.args.lines.now c.args.line _ c.requires
    (both_named c.in-Some.first.now c.in-Some.second.now _ new c.in-Some.ensures.both
    (noted_kept c.in-Some.second.now None c.args.line c.note.new.named.items new c.in_ok-note-2.ensures.noted c.in-Some.first.now
    (noted_named c.in-Some.first.now None c.args.line c.args.named.now.items c.note.new.named.items c.in_ok-note.ensures.noted))
    (noted_named c.in-Some.second.now None c.args.line c.note.new.named.items new c.in_ok-note-2.ensures.noted))

pub returns-in_default-clause-all : goal.returns-in_default-clause-all
returns-in_default-clause-all c =
    at_any (AllOpensNamed c.args.named.now.items) c.args.lines.now c.args.line _ c.requires (λ name h. absurd (c.in_default.ensures.other name h))

pub returns-in_ok-note-2-clause-once : goal.returns-in_ok-note-2-clause-once
returns-in_ok-note-2-clause-once c distinct =
    distinct_noted c.in-Some.second.now None c.args.line c.note.new.named.items c.note-in-Some.new.named.items c.in_ok-note-2.ensures.noted
    (distinct_noted c.in-Some.first.now None c.args.line c.args.named.now.items c.note.new.named.items c.in_ok-note.ensures.noted distinct)

pub returns-in_ok-note-2-clause-closes : goal.returns-in_ok-note-2-clause-closes
returns-in_ok-note-2-clause-closes c all =
    closes_opened c.args.lines.now c.args.line c.in-Some.second.now c.note.new.named.items c.note-in-Some.new.named.items c.in_ok-note-2.ensures.noted
    (closes_opened c.args.lines.now c.args.line c.in-Some.first.now c.args.named.now.items c.note.new.named.items c.in_ok-note.ensures.noted all)
