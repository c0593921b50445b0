use Rattle.std.proofs.Common.{◌≡◌, ◌∙◌, ◌+◌, ◌∷◌, [], ap, sym, arith, map, drop, length, length-append, Some}
use Rattle.serde_json.specs.View.{view}
use Rattle.ipcz_script.specs.ScriptNames.{is_taken}
use Rattle.ipcz_script.specs.Scripts.{commands_from}
use Rattle.ipcz_script.specs.Shapes.{command_of}
use Rattle.ipcz_script.proofs.Taken.{taken_at_first, taken_after, map-drop, command_more}
use Rattle.ipcz_script.proofs.reading.commands_of.Goals as goal

pub loop-value-init : goal.loop-value-init
loop-value-init c = (
  ap (λ commands. commands_from c.args.nodes commands (map view c.args.values.now)) c.new-commands.ensures.items,
  taken_at_first c.new-opened.result c.new-commands.result.items c.new-opened.ensures.none c.new-commands.ensures.items,
  ap length c.new-commands.ensures.items,
)

pub loop-value-preserved : goal.loop-value-preserved
loop-value-preserved c =
    let before = c.loop-value.commands.items in
    let i = c.loop-value.value-index in
    let rest = map view (drop (i + 1) c.args.values.now) in
    let command : command_of c.args.nodes (is_taken before) (view c.value-item.result) ≡ Some c.in-Some.command =
    ap (λ taken. command_of c.args.nodes taken (view c.value-item.result)) (sym c.loop-value.invariant.1) ∙ sym c.in_ok-command.ensures ∙
    c.in-Some.is in (
      ap (λ commands. commands_from c.args.nodes commands rest) c.in_ok-push.ensures.items
          ∙ sym (command_more c.args.nodes before _ (view c.value-item.result) rest c.in-Some.command
          (map-drop view c.args.values.now i c.value-item.result c.loop-value-test.true c.value-item.is) command)
          ∙ c.loop-value.invariant.0,
      taken_after c.loop-value.opened c.note.new.self before c.push.new.self.items c.in-Some.command c.loop-value.invariant.1
          c.in_ok-note.ensures.ok c.in_ok-push.ensures.items,
      omega (arith, ap length c.in_ok-push.ensures.items, length-append before (c.in-Some.command ∷ []), c.loop-value.invariant.2),
    )
