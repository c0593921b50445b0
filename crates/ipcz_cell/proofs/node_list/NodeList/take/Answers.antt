use Rattle.std.proofs.Common.{[], length, ap, refl, sym, ◌∙◌}
use Rattle.ipcz_cell.proofs.NumberClaims.{alone}
use Rattle.ipcz_cell.proofs.Onces.{only_one}
use Rattle.ipcz_cell.proofs.node_list.NodeList.take.Goals as goal

pub returns-then-as_slice-eq1-clause-without : goal.returns-then-as_slice-eq1-clause-without
returns-then-as_slice-eq1-clause-without c =
    let is = only_one c.args.self.now c.args.number (ap length (sym c.self.view_is ∙ sym c.as_slice.ensures.value) ∙ c.if-as_slice-eq1.true) c.requires in
    c.clear.ensures.items ∙ sym (alone c.args.number c.args.self.now is)

pub returns-then-as_slice-eq1-clause-place : goal.returns-then-as_slice-eq1-clause-place
returns-then-as_slice-eq1-clause-place c =
    let is = only_one c.args.self.now c.args.number (ap length (sym c.self.view_is ∙ sym c.as_slice.ensures.value) ∙ c.if-as_slice-eq1.true) c.requires in
    ([], [], is, c.clear.ensures.items, refl)
