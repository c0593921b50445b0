use Rattle.std.proofs.Common.{sym, subst}
use Rattle.std.specs.Prelude.{ℕ, Option}
use Rattle.ipcz_cell.specs.Opens.{ClaimsWord}
use Rattle.ipcz_cell.proofs.cell.NodeCell.word_claim.Goals as goal

pub returns-in-Some : goal.returns-in-Some
returns-in-Some g c =
    subst (λ (o : Option ℕ). ClaimsWord g.F.FabricName.table o c.args.self.now c.word_claim_for.new.self c.word_claim_for.result) (sym c.in-Some.is)
    c.word_claim_for.ensures

pub returns-in-None : goal.returns-in-None
returns-in-None g c =
    subst (λ (o : Option ℕ). ClaimsWord g.F.FabricName.table o c.args.self.now c.claim_for_open.new.self c.claim_for_open.result) (sym c.in-None.is) c.claim_for_open.ensures
