use Rattle.std.proofs.Common.{inr, refl}
use Rattle.ipcz_picture.proofs.known_words.first_value.Goals as goal

pub returns-in-None-clause-first : goal.returns-in-None-clause-first
returns-in-None-clause-first c =
    record { front = c.args.values.now; single = c.in-None.ensures.none; read = c.word-in-None.ensures; whole = inr (refl, refl) }
