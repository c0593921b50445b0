use Rattle.std.proofs.Common.{◌++◌, map, take, ap, sym, ◌∙◌, rules}
use Rattle.std.specs.Prelude.{option_to_list}
use Rattle.ipcz_c.specs.CellCalls.{cells_of, holds_each}
use Rattle.ipcz_c.proofs.HandingOut.{hands_one, all_held, none_left}
use Rattle.ipcz_c.proofs.cell_making.hand_out.Goals as goal

pub loop-at-preserved : goal.loop-at-preserved
loop-at-preserved g c =
    let t = g.F.FabricName.table in
    let i = c.loop-at.invariant in
    let taken = c.pop_front.ensures.items ∙ ap (λ o. option_to_list o ++ c.pop_front.new.self.items) c.in-Some.is in
    record {
      held = hands_one t c.loop-at.handles c.loop-at.at c.of.result c.in-Some.member.value _ _ (search rules)
          (ap (λ ms. cells_of (take c.loop-at.at c.loop-at.handles) ++ holds_each t (map (λ m. m.value) ms)) (sym taken) ∙ i.held) c.of.ensures;
      each = search rules;
      many = search rules;
      same = search rules;
    }

pub returns-clause-held : goal.returns-clause-held
returns-clause-held g c = all_held g.F.FabricName.table c.loop-at.handles c.loop-at.at _ _ (search rules) (none_left (λ m. m.value) c.loop-at.members.items (search rules)) c.loop-at.invariant.held
