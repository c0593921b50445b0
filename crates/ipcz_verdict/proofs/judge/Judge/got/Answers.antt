use Rattle.std.proofs.Common.{List, true, false, ◌∙◌, Vec, option_map, ap, sym, subst}
use Rattle.std.proofs.lemmas.List.{with_items_is}
use Rattle.std.specs.FinMap.{get}
use Rattle.ipcz_verdict.specs.contracts.judge.Judge.{the_view}
use Rattle.ipcz_verdict.specs.declared.line.Line.TheVariants as lines
use Rattle.ipcz_verdict.specs.declared.portal.Portal.{Portal}
use Rattle.ipcz_verdict.specs.Desks.{Decides, Desk, next_ends, receiving}
use Rattle.ipcz_verdict.specs.Ledger.{Binds}
use Rattle.ipcz_verdict.specs.Searches.{bind_all, may_bind}
use Rattle.ipcz_verdict.proofs.Binding.{bound, unbound}
use Rattle.ipcz_verdict.proofs.Lines.{got_line, got_nothing, got_others, got_unnamed}
use Rattle.ipcz_verdict.proofs.judge.Judge.got.Goals as goal
use Rattle.std.specs.Global.{Global}
use Rattle.ipcz_base.specs.declared.end.End.{End}

pub returns-in_default-clause-decided : goal.returns-in_default-clause-decided
returns-in_default-clause-decided c = subst (λ (d : Desk). Decides d (lines.Got c.args.node c.args.at.now c.args.bytes.now c.args.portals.now c.args.number) false d) c.self.view_is
    (got_unnamed (the_view c.self.inside) c.args.node c.args.at.now c.args.bytes.now c.args.portals.now c.args.number (sym (c.end_of.ensures.end ∙ ap (λ k. get c.self.inside.labels.names k) c.as_str.ensures.same) ∙ c.in_default.is))

pub returns-in_default-2-clause-decided : goal.returns-in_default-2-clause-decided
returns-in_default-2-clause-decided c = subst (λ (d : Desk). Decides d (lines.Got c.args.node c.args.at.now c.args.bytes.now c.args.portals.now c.args.number) false d) c.self.view_is
    (got_nothing (the_view c.self.inside) (the_view c.self.inside) c.args.node c.args.at.now c.args.bytes.now c.args.portals.now c.args.number c.in-Some.end (sym (c.end_of.ensures.end ∙ ap (λ k. get c.self.inside.labels.names k) c.as_str.ensures.same) ∙ c.in-Some.is)
    (sym (ap (λ s. next_ends s c.args.node c.in-Some.end c.args.number c.args.bytes.now) c.deref.ensures.value) ∙ sym c.in_ok-ends.ensures ∙ ap (option_map (λ (v : Vec End Global). v.items)) c.in_default-2.is))

pub returns-then-not-may_bind-clause-decided : goal.returns-then-not-may_bind-clause-decided
returns-then-not-may_bind-clause-decided c = subst (λ (d : Desk). Decides d (lines.Got c.args.node c.args.at.now c.args.bytes.now c.args.portals.now c.args.number) false d) c.self.view_is
    (got_others (the_view c.self.inside) (the_view c.self.inside) c.args.node c.args.at.now c.args.bytes.now c.args.portals.now c.args.number
    c.in-Some.end c.in-Some-2.ends.items (sym (c.end_of.ensures.end ∙ ap (λ k. get c.self.inside.labels.names k) c.as_str.ensures.same) ∙ c.in-Some.is) (sym (ap (λ s. next_ends s c.args.node c.in-Some.end c.args.number c.args.bytes.now) c.deref.ensures.value) ∙ sym c.in_ok-ends.ensures ∙ ap (option_map (λ (v : Vec End Global). v.items)) c.in-Some-2.is)
    (unbound c.self.inside.labels c.args.portals.now c.in-Some-2.ends.items
    (ap (λ es. may_bind c.self.inside.labels c.args.portals.now es) (sym c.deref-2.ensures.value) ∙ sym c.may_bind.ensures ∙ c.if-not-may_bind.true)))

pub returns-clause-decided : goal.returns-clause-decided
returns-clause-decided c =
    subst (λ (s : List Portal). Decides c.args.self.now (lines.Got c.args.node c.args.at.now c.args.bytes.now c.args.portals.now c.args.number) true (record (the_view c.self.inside) { portals = s; labels = c.bind_all.new.labels }))
    (sym (with_items_is c.self.inside.portals c.receive.new.portals (c.receive.auto.portals ∙ c.deref_mut.ensures.len)))
    (subst (λ (d : Desk). Decides d (lines.Got c.args.node c.args.at.now c.args.bytes.now c.args.portals.now c.args.number) true (record (the_view c.self.inside) { portals = c.receive.new.portals; labels = c.bind_all.new.labels })) c.self.view_is
    (got_line (the_view c.self.inside) c.bind_all.new.labels c.receive.new.portals c.args.node c.args.at.now c.args.bytes.now c.args.portals.now c.args.number
    c.in-Some.end c.in-Some-2.ends.items (sym (c.end_of.ensures.end ∙ ap (λ k. get c.self.inside.labels.names k) c.as_str.ensures.same) ∙ c.in-Some.is) (sym (ap (λ s. next_ends s c.args.node c.in-Some.end c.args.number c.args.bytes.now) c.deref.ensures.value) ∙ sym c.in_ok-ends.ensures ∙ ap (option_map (λ (v : Vec End Global). v.items)) c.in-Some-2.is)
    (subst (λ b. Binds c.self.inside.labels c.args.portals.now c.in-Some-2.ends.items b)
    (ap (λ es. bind_all c.self.inside.labels c.args.portals.now es) (sym c.deref-3.ensures.value) ∙ sym c.in_ok-bind_all.ensures)
    (bound c.self.inside.labels c.args.portals.now c.in-Some-2.ends.items
    (ap (λ es. may_bind c.self.inside.labels c.args.portals.now es) (sym c.deref-2.ensures.value) ∙ sym c.may_bind.ensures ∙ c.if-not-may_bind.false)))
    (c.in_ok-receive.ensures ∙ ap (λ s. receiving s c.args.node c.in-Some.end c.deref-4.result.now) c.deref_mut.ensures.value
    ∙ ap (λ es. receiving c.self.inside.portals.items c.args.node c.in-Some.end es) c.deref-4.ensures.value)))
