use Rattle.std.proofs.Common.{◌≡◌, [], false, true, is_some, ap, sym, ◌∙◌}
use Rattle.ipcz_base.specs.Indexed.{place_at}
use Rattle.ipcz_node.specs.Acts.{first_of}
use Rattle.ipcz_node.proofs.Choosing.{mail_is_first}
use Rattle.ipcz_node.proofs.state.NodeState.post.Goals as goal

pub unreachable-requires : goal.unreachable-requires
unreachable-requires c =
    let first = ap first_of (ap (λ v. place_at [] v.node.outboxes c.args.to) c.self.view_is) in
    let none = sym c.in_default.is ∙ c.pop.ensures.message ∙ first in
    let no : false ≡ true = ap is_some none ∙ mail_is_first c.args.self.now.node c.args.to c.requires in cc
