use Rattle.std.proofs.Common.{◌+◌, arith, rules, subst}
use Rattle.ipcz_picture.specs.Words.{Next, TellsValues}
use Rattle.ipcz_picture.proofs.Seeing.{told_all}
use Rattle.ipcz_picture.proofs.known_words.KnownWords.tell_all.Goals as goal

pub telling-preserved : goal.telling-preserved
telling-preserved c = (
  λ after more. c.telling.invariant.0 after (Next c.first_value-value.ensures.first
      (subst (λ known. TellsValues (c.telling.index + 1) c.first_value-value.result.1.now known after) c.tell.ensures more)),
  omega (arith, c.first_value-value.ensures.shorter, c.telling.invariant.1),
)

pub returns : goal.returns
returns c =
    c.telling.invariant.0 c.telling.self.values.items
    (told_all c.telling.rest.now c.telling.index c.telling.self.values.items (search rules))
