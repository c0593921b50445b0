use Rattle.std.proofs.Common.{◌≡◌, true, Option, sym, subst, ◌∙◌}
use Rattle.std.specs.Prelude.{IsSomeAnd}
use Rattle.ipcz_router.specs.Router.{Router}
use Rattle.ipcz_router.specs.Hearing.{hears}
use Rattle.ipcz_node.proofs.AtRouter.{on_ok}
use Rattle.ipcz_node.proofs.Hearing.{asked_at, asked_none, found_fits, found_handled, lost_handled, found_room, no_room_wanted}
use Rattle.ipcz_node.proofs.Refiling.{first_of_both}
use Rattle.ipcz_node.proofs.state.NodeState.hear_by.Goals as goal

pub hear_at-requires : goal.hear_at-requires
hear_at-requires c =
    let n = c.args.self.now.node in
    let m = c.args.message.now in
    let t = asked_at n m _ c.in-Some.serial c.in-Some.is c.requires.asked in
    let both = sym (found_fits n c.args.sender c.in-Some.serial t.0 m c.args.source t.2 c.requires.other) ∙ c.requires.fits in
    subst (λ (o : Option Router). IsSomeAnd o (λ r. hears r c.args.sender m c.args.source ≡ true)) (sym t.1)
    (first_of_both (hears t.0 c.args.sender m c.args.source) _ both)

pub returns-in-Some-clause-ok : goal.returns-in-Some-clause-ok
returns-in-Some-clause-ok c =
    let n = c.args.self.now.node in
    let m = c.args.message.now in
    let t = asked_at n m _ c.in-Some.serial c.in-Some.is c.requires.asked in
    on_ok c.hear_at.result _ _ (λ e. e ∙ sym (found_handled n c.args.sender c.in-Some.serial t.0 m t.2 c.requires.other))
    (c.hear_at.ensures.ok t.0 t.1)

pub returns-in-Some-clause-grows : goal.returns-in-Some-clause-grows
returns-in-Some-clause-grows c none =
    let m = c.args.message.now in
    let t = asked_at c.args.self.now.node m _ c.in-Some.serial c.in-Some.is c.requires.asked in
    c.hear_at.ensures.full t.0 t.1 (no_room_wanted c.args.self.now m t.0 none)

pub returns-in-Some-clause-full : goal.returns-in-Some-clause-full
returns-in-Some-clause-full c room =
    let m = c.args.message.now in
    let t = asked_at c.args.self.now.node m _ c.in-Some.serial c.in-Some.is c.requires.asked in
    c.hear_at.ensures.full t.0 t.1 (found_room c.args.self.now m c.in-Some.serial t.0 t.2 c.requires.other room)

pub returns-in-None-clause-ok : goal.returns-in-None-clause-ok
returns-in-None-clause-ok c =
    let n = c.args.self.now.node in
    let m = c.args.message.now in
    sym (lost_handled n c.args.sender m (asked_none n m _ c.in-None.is c.requires.asked) c.requires.other)
