use Rattle.std.proofs.Common.{ap, sym, ◌∙◌}
use Rattle.ipcz_seq.proofs.Pairs.{find-not_first, find-empty}
use Rattle.ipcz_seq.proofs.ring.current_of.Goals as goal
use Rattle.ipcz_seq.proofs.ring.current_of.Goals.{in_default-via-in-Some+else-first-current, in_default-via-in_default}

pub returns-in_default : goal.returns-in_default
returns-in_default g c = elim c.in_default.branch [
  | in_default-via-in-Some+else-first-current w ↦
      sym (find-not_first c.args.current c.args.pairs.now.items w.in-Some.first.now c.requires
      (λ same. w.if-first-current.false (ap (λ (e : _). e.0) w.in-Some.ensures.lookup ∙ same)))
  | in_default-via-in_default w ↦ sym (find-empty c.args.current c.args.pairs.now.items w.in_default.ensures.item.3)
]
