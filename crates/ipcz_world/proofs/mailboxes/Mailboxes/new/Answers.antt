use Rattle.std.proofs.Common.{◌≡◌, ◌∙◌, arith, ap, false, replicate, subst, sym}
use Rattle.ipcz_world.proofs.Vocabulary.{Empty}
use Rattle.ipcz_world.specs.Mailing.{as_they_stand, AreKept}
use Rattle.ipcz_world.proofs.code.Marks.{empty-kept, stand-empty}
use Rattle.ipcz_world.proofs.mailboxes.Mailboxes.new.Goals as goal

pub invariant_of-result : goal.invariant_of-result
invariant_of-result c =
    subst (λ mail. AreKept mail (replicate 4096 false) 0) (sym c.loop-k.invariant)
    (empty-kept c.loop-k._k (omega (arith, c.loop-k.auto._k-end, c.requires)))

pub returns : goal.returns
returns c =
    let all : c.loop-k._k ≡ c.args.count = omega (arith, c.loop-k-test.false, c.loop-k.auto._k-end) in
    ap (λ mail. as_they_stand mail (replicate 4096 false)) c.loop-k.invariant ∙ stand-empty c.loop-k._k (replicate 4096 false) ∙
    ap (λ n. replicate n Empty) all
