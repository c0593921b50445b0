use Rattle.std.proofs.Common.{Bool, true, false, subst, ap, ◌∙◌, refl}
use Rattle.ipcz_rule.specs.Steps.{wet_part}
use Rattle.ipcz_cell.specs.CellStates.{CellState}
use Rattle.ipcz_cell.specs.Retries.{NobodyWaits, InVain, Anew, FindsNumber}
use Rattle.ipcz_cell.proofs.cell.NodeCell.retry.Goals as goal

pub returns-in_default : goal.returns-in_default
returns-in_default g c = NobodyWaits refl c.first_waiting.ensures.stays c.in_default.ensures.waits

pub returns-then-finds_number : goal.returns-then-finds_number
returns-then-finds_number g c =
    let found = subst (λ (b : Bool). FindsNumber g.F.FabricName.table c.first_waiting.new.self b c.finds_number.new.self) c.if-finds_number.true c.finds_number.ensures in
    let number = subst (λ (o : CellState). FindsNumber g.F.FabricName.table o true c.finds_number.new.self) c.first_waiting.ensures.stays found in
    Anew (c.in-Some.serial, c.in-Some.field-0-1) number.count refl c.in-Some.ensures.waits number.reached number.why
    (c.rewet.ensures.part ∙ ap (wet_part c.in-Some.serial) number.part) (c.rewet.ensures.seen ∙ number.seen)

pub returns : goal.returns
returns g c =
    let found = subst (λ (b : Bool). FindsNumber g.F.FabricName.table c.first_waiting.new.self b c.finds_number.new.self) c.if-finds_number.false c.finds_number.ensures in
    InVain (c.in-Some.serial, c.in-Some.field-0-1) refl c.in-Some.ensures.waits (subst (λ (o : CellState). FindsNumber g.F.FabricName.table o false c.finds_number.new.self) c.first_waiting.ensures.stays found)
