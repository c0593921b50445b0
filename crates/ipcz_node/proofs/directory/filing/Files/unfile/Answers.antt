use Rattle.std.proofs.Common.{◌∙◌}
use Rattle.ipcz_node.proofs.directory.filing.Files.unfile.Goals as goal

pub unlink-requires : goal.unlink-requires
unlink-requires c = λ link side. c.requires.can.by_link link side ∙ c.requires.gone link side
