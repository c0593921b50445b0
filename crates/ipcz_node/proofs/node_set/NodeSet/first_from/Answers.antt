use Rattle.std.proofs.Common.{nat_eq, ap, ◌∙◌, arith}
use Rattle.ipcz_node.proofs.NodeSets.{by_bit}
use Rattle.ipcz_node.proofs.node_set.NodeSet.first_from.Goals as goal

pub returns : goal.returns
returns c =
    let next = c.next_set.ensures in record {
      from = next.from;
      most = next.most;
      none = λ n low high. by_bit c.args.self n (let most = next.most in omega (arith, high, most)) ∙ ap (λ b. nat_eq b 1) (next.clear n low high);
      there = λ low. by_bit c.args.self _ low ∙ ap (λ b. nat_eq b 1) (next.set low);
    }
