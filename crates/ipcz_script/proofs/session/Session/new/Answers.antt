use Rattle.std.proofs.Common.{◌∙◌, ap, sym}
use Rattle.std.specs.FinMap.{empty}
use Rattle.ipcz_node.specs.FirstPairs.{first_pairs}
use Rattle.ipcz_world.specs.World.{new_world}
use Rattle.ipcz_script.proofs.Pairing.{labelled, bind_pairs-labelled}
use Rattle.ipcz_script.proofs.session.Session.new.Goals as goal

pub returns : goal.returns
returns c = record {
  session = ap (λ w. labelled w c.in_ok-labels.labels) c.in-Ok.ensures.world
      ∙ ap (labelled (new_world c.args.nodes c.args.words)) c.in_ok-labels.ensures.labels
      ∙ sym (bind_pairs-labelled (new_world c.args.nodes c.args.words) (record { names = empty; titles = empty }) 0 (first_pairs c.args.nodes));
}
