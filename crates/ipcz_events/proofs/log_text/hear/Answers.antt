use Rattle.std.proofs.Common.{subst, sym}
use Rattle.ipcz_events.specs.Judging.{Judges}
use Rattle.ipcz_events.specs.Rules.{MayEntry}
use Rattle.ipcz_events.proofs.Hearing.{alike}
use Rattle.ipcz_events.proofs.log_text.hear.Goals as goal

pub follow-requires : goal.follow-requires
follow-requires c =
    let e = c.in-Some.entry in
    let law = subst (λ j. Judges c.args.session.now e j c.judge.new.session) c.in-Allowed.is c.in_ok-judge.ensures in
    (c.judge.new.session, subst (λ s. MayEntry s e c.judge.new.session) (sym c.requires.alike) law)

pub returns-in-Allowed-clause-alike : goal.returns-in-Allowed-clause-alike
returns-in-Allowed-clause-alike c =
    let e = c.in-Some.entry in
    let law = subst (λ j. Judges c.args.session.now e j c.judge.new.session) c.in-Allowed.is c.in_ok-judge.ensures in
    λ is. alike c.args.session.now c.args.behind.now c.judge.new.session c.follow.new.session e c.requires.alike law c.in_ok-follow-in-Allowed.ensures
