use Rattle.std.proofs.Common.{◌∙◌, ap, sym}
use Rattle.ipcz_world.proofs.code.StatesOfNodes.{world_is}
use Rattle.ipcz_base.specs.declared.message.Message.TheVariants as messages
use Rattle.ipcz_base.specs.Sides.{opposite}
use Rattle.ipcz_world.proofs.Vocabulary.{Node, World, Empty, bare_node, commit, mail_at, node_at, place_at, put_place, set_mail, set_node, way, Look}
use Rattle.ipcz_world.proofs.Vocabulary.{Plain, is_clear, the_view}
use Rattle.ipcz_world.specs.declared.mail.Mail.TheVariants.{Hand}
use Rattle.ipcz_world.proofs.state.State.leave_item.Goals as goal

pub look-requires : goal.look-requires
unfolding node_at
look-requires c =
    ap (λ (y : Node). y.hand) c.node_mut.ensures.value ∙ ap (λ (v : World). (node_at v c.args.link.other).hand) (world_is c.self.view_is) ∙ c.requires.hand

pub put_back-requires-clause-clear : goal.put_back-requires-clause-clear
unfolding mail_at is_clear
put_back-requires-clause-clear c =
    let place = c.way-place.ensures.way ∙ ap (λ (w : World). way w c.args.n c.args.link.other) (sym (world_is c.self.view_is)) in
    ap (λ k. is_clear (place_at Empty c.self.inside.mail k)) place
    ∙ ap (λ (v : World). is_clear (mail_at v (way v c.args.n c.args.link.other))) (world_is c.self.view_is) ∙ ap is_clear c.requires.clear

pub returns : goal.returns
unfolding node_at set_node set_mail commit
returns c =
    let v = (the_view c.self.inside).world in
    let place = c.way-place.ensures.way ∙ ap (λ (w : World). way w c.args.n c.args.link.other) (sym (world_is c.self.view_is)) in
    let moves = c.from_vec.ensures ∙ c.new.ensures.items in
    let kept = c.put_back.ensures
    ∙ ap (λ k. put_place Empty v.mail k (Hand (messages.Item c.args.link.link c.opposite.result c.args.number c.args.item c.from_vec.result))) place
    ∙ ap (λ s. put_place Empty v.mail (way v c.args.n c.args.link.other)
    (Hand (messages.Item c.args.link.link s c.args.number c.args.item c.from_vec.result))) c.opposite.ensures
    ∙ ap (λ ds. put_place Empty v.mail (way v c.args.n c.args.link.other)
    (Hand (messages.Item c.args.link.link (opposite c.args.link.side) c.args.number c.args.item ds))) moves in
    let hand = c.look.ensures ∙ ap (λ y. commit y (Look c.args.n) Plain) c.node_mut.ensures.value in
    rw (← world_is c.self.view_is) (λ j. record v { nodes = put_place (bare_node 0 0) v.nodes c.args.link.other (hand j); mail = kept j })
