use Rattle.std.proofs.Common.{inl, inr, refl}
use Rattle.ipcz_report.proofs.Judged.{on_ok, some_of, none_of, not_false, not_true}
use Rattle.ipcz_report.proofs.faults.judge.Goals as goal

pub returns-in_default : goal.returns-in_default
returns-in_default c =
    let command = some_of _ (not_false _ c.in_default.ensures.told) in
    on_ok c.note.result c.note.ensures (λ names. inl (command.0, command.1, names command.0 command.1, refl))

pub returns : goal.returns
returns c = inr (
  record { number = c.args.number; wrong = c.in-Some.wrong },
  none_of _ (not_true _ c.in-Some.ensures.told),
  refl,
  c.in-Some.ensures.so,
  refl,
  c.in_ok-push.ensures.items,
)
