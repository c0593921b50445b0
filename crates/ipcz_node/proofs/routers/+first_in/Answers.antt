use Rattle.std.proofs.Common.{◌&&◌, ap, ap₂, ◌∙◌, sym, arith}
use Rattle.std.specs.FinSet as sets
use Rattle.ipcz_node.specs.Finding.{is_terminal_in}
use Rattle.ipcz_node.proofs.Finding.{walk_takes, walk_goes_on}
use Rattle.ipcz_node.proofs.routers.+first_in.Goals as goal
use Rattle.ipcz_node.proofs.routers.+first_in.Goals.{else-from-entry-via-then-from-entry+then-is_open_terminal+else-has}
use Rattle.ipcz_node.proofs.routers.+first_in.Goals.{else-from-entry-via-then-from-entry+else-is_open_terminal}
use Rattle.ipcz_node.proofs.routers.+first_in.Goals.{else-from-entry-via-else-from-entry}

pub returns-then-has : goal.returns-then-has
returns-then-has t c =
    walk_takes (λ x. x.router) (is_terminal_in c.args.ends.now.ends) c.args.from _ _ c.args.entries.now c.entry-item.result _
    c.requires.2 c.in-len1-up.len_at_least c.entry-item.is
    (sym c.end-end.ensures) c.if-from-entry.true
    (ap₂ (λ a b. a && b) (sym c.is_open_terminal.ensures ∙ c.if-is_open_terminal.true)
    (ap (λ e. sets.contains c.args.ends.now.ends e) (sym c.end-end.ensures) ∙ sym c.has.ensures ∙ c.if-has.true))

pub returns-else-from-entry : goal.returns-else-from-entry
returns-else-from-entry t c =
    walk_goes_on (λ x. x.router) (is_terminal_in c.args.ends.now.ends) c.args.from _ _ c.args.entries.now c.entry-item.result _
    c.requires.2 c.in-len1-up.len_at_least c.entry-item.is
    (λ le. elim c.else-from-entry.branch [
      | else-from-entry-via-then-from-entry+then-is_open_terminal+else-has w ↦
          ap₂ (λ a b. a && b) (sym w.is_open_terminal.ensures ∙ w.if-is_open_terminal.true)
          (ap (λ e. sets.contains c.args.ends.now.ends e) (sym c.end-end.ensures) ∙ sym w.has.ensures ∙ w.if-has.false)
      | else-from-entry-via-then-from-entry+else-is_open_terminal w ↦
          ap (λ a. a && sets.contains c.args.ends.now.ends c.entry-item.result.1.router.end)
          (sym w.is_open_terminal.ensures ∙ w.if-is_open_terminal.false)
      | else-from-entry-via-else-from-entry w ↦ absurd (omega (arith, le, w.if-from-entry.false))
    ]) c.first_in.ensures
