use Rattle.ipcz_rule.proofs.BatchPlainKinds.{wets}
use Rattle.ipcz_cell.proofs.Seating.{may_by}
use Rattle.ipcz_cell.proofs.retry.wet_here.Goals as goal

pub touch-requires-clause-may : goal.touch-requires-clause-may
touch-requires-clause-may g c =
    may_by _ _ _ _ _ _ _ (λ n. n) _ _ c.requires.picked (wets _ _ _ _ _ _ _ _ _ c.args.serial c.requires.whole c.requires.there)
