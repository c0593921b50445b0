use Rattle.std.proofs.Common.{◌≡◌, ◌∙◌, true, false, sym}
use Rattle.ipcz_router.specs.declared.act.RouterAct.TheVariants.{Mark, Wake}
use Rattle.ipcz_router.specs.ActTable.{is_possible}
use Rattle.ipcz_router.proofs.NextActs.{terminal_next}
use Rattle.ipcz_router.proofs.router.Router.next_at_terminal.Goals as goal

pub returns-then-is_possible-clause-first : goal.returns-then-is_possible-clause-first
returns-then-is_possible-clause-first c =
    let r = c.args.self.now.router in
    let marks : is_possible r Mark ≡ true = sym c.is_possible.ensures ∙ c.if-is_possible.true in
    sym (rw marks at (terminal_next r c.requires.terminal c.requires.open c.requires.whole c.requires.sent))

pub returns-then-is_possible-2-clause-first : goal.returns-then-is_possible-2-clause-first
returns-then-is_possible-2-clause-first c =
    let r = c.args.self.now.router in
    let marks : is_possible r Mark ≡ false = sym c.is_possible.ensures ∙ c.if-is_possible.false in
    let wakes : is_possible r Wake ≡ true = sym c.is_possible-2.ensures ∙ c.if-is_possible-2.true in
    sym (rw (marks, wakes) at (terminal_next r c.requires.terminal c.requires.open c.requires.whole c.requires.sent))

pub returns-clause-first : goal.returns-clause-first
returns-clause-first c =
    let r = c.args.self.now.router in
    let marks : is_possible r Mark ≡ false = sym c.is_possible.ensures ∙ c.if-is_possible.false in
    let wakes : is_possible r Wake ≡ false = sym c.is_possible-2.ensures ∙ c.if-is_possible-2.false in
    sym (rw (marks, wakes) at (terminal_next r c.requires.terminal c.requires.open c.requires.whole c.requires.sent))
