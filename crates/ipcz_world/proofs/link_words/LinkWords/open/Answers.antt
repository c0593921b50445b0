use Rattle.std.proofs.Common.{ap, ◌∙◌}
use Rattle.ipcz_world.proofs.Vocabulary.{open_word}
use Rattle.ipcz_world.specs.Coding.{put_word}
use Rattle.ipcz_world.proofs.code.Tables.{laid, write_word, open_number}
use Rattle.ipcz_world.proofs.link_words.LinkWords.open.Goals as goal

pub returns : goal.returns
returns c =
    let l = laid c.self.inside.bits.items c.self.inside.size c.args.i c.args.self.now c.self.view_is c.requires in
    write_word c.self.inside.bits.items c.self.inside.size c.args.i 3 open_word l open_number
    ∙ ap (λ t. put_word t c.args.i open_word) c.self.view_is
