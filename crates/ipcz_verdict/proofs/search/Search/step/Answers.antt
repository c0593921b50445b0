use Rattle.std.proofs.Common.{List, IfSome, cond, inl, inr, refl, subst}
use Rattle.ipcz_verdict.specs.declared.search.Taken.{Taken}
use Rattle.ipcz_verdict.specs.Searches.{Adds, IsBack, IsSearch, IsShortened}
use Rattle.ipcz_verdict.proofs.Searching.{back_of, search_of}
use Rattle.ipcz_verdict.proofs.search.Search.step.Goals as goal

pub returns-in_default-clause-search : goal.returns-in_default-clause-search
returns-in_default-clause-search c = λ entries s.
    let t = subst (λ b. IsSearch c.args.nodes c.args.profile entries c.try_from.new.self.judge c.try_from.new.self.order.items c.try_from.new.self.left.items (cond b 0 256)) c.if-branch.false
    (c.in_ok-try_from.ensures.search c.args.nodes c.args.profile entries s) in
    subst (λ o. IsBack c.args.nodes c.args.profile entries c.take_back.new.self.order.items c.take_back.new.self.left.items o) c.in_default.is
    (back_of c.args.nodes c.args.profile entries c.try_from.new.self.judge c.try_from.new.self.order.items c.try_from.new.self.left.items c.deref.result.now c.take_back.new.self.order.items c.take_back.new.self.left.items
    c.in_ok-next.field-0 c.is_none_left.result t c.deref.ensures.value c.is_none_left.ensures c.if-is_none_left.false (c.in_ok-next.ensures.back c.args.nodes c.args.profile entries))

pub returns-clause-search : goal.returns-clause-search
returns-clause-search c = λ entries s.
    let t = subst (λ b. IsSearch c.args.nodes c.args.profile entries c.try_from.new.self.judge c.try_from.new.self.order.items c.try_from.new.self.left.items (cond b 0 256)) c.if-branch.false
    (c.in_ok-try_from.ensures.search c.args.nodes c.args.profile entries s) in
    let b = subst (λ o. IsBack c.args.nodes c.args.profile entries c.take_back.new.self.order.items c.take_back.new.self.left.items o) c.in-Some.is
    (back_of c.args.nodes c.args.profile entries c.try_from.new.self.judge c.try_from.new.self.order.items c.try_from.new.self.left.items c.deref.result.now c.take_back.new.self.order.items c.take_back.new.self.left.items
    c.in_ok-next.field-0 c.is_none_left.result t c.deref.ensures.value c.is_none_left.ensures c.if-is_none_left.false (c.in_ok-next.ensures.back c.args.nodes c.args.profile entries)) in
    search_of c.args.nodes c.args.profile entries c.in_ok-self.field-0 c.take_back.new.self.order.items c.take_back.new.self.left.items c.in-Some.next b (c.in_ok-self.ensures b.0.allowed)

pub returns-then-branch-clause-moves : goal.returns-then-branch-clause-moves
returns-then-branch-clause-moves c = λ entries s.
    inl (subst (λ b. Adds c.args.self.now.order.items c.try_from.new.self.order.items c.args.from b) c.if-branch.true (c.in_ok-try_from.ensures.adds c.args.nodes c.args.profile entries s), refl)

pub returns-clause-moves : goal.returns-clause-moves
returns-clause-moves c = λ entries s.
    let same = subst (λ b. Adds c.args.self.now.order.items c.try_from.new.self.order.items c.args.from b) c.if-branch.false (c.in_ok-try_from.ensures.adds c.args.nodes c.args.profile entries s) in
    inr (subst (λ (ts : List Taken). IsShortened ts c.take_back.new.self.order.items c.in-Some.next) same
    (subst (λ o. IfSome o (λ next. IsShortened c.try_from.new.self.order.items c.take_back.new.self.order.items next)) c.in-Some.is c.in_ok-next.ensures.shortened))
