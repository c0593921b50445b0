use Rattle.std.proofs.Common.{◌≡◌, arith, ap, replicate, ◌∙◌}
use Rattle.ipcz_world.proofs.code.Beginning.{first_words}
use Rattle.ipcz_world.proofs.link_words.LinkWords.new.Goals as goal

pub returns-clause-words : goal.returns-clause-words
returns-clause-words c =
    let all : c.loop-pair._pair ≡ c.args.pairs = omega (arith, c.loop-pair-test.false, c.loop-pair.auto._pair-end) in
    first_words c.args.pairs c.args.words c.loop-pair.bits.items (c.loop-pair.invariant.items ∙ ap (λ n. replicate n 3) all)
