use Rattle.std.proofs.Common.{[], ◌∷◌, ◌++◌, None, ap, refl, sym, subst, ◌∙◌}
use Rattle.ipcz_router.specs.declared.act.RouterAct.TheVariants as router_acts
use Rattle.ipcz_node.specs.declared.act.Act.TheVariants as acts
use Rattle.ipcz_node.specs.Node.{Node, word_side}
use Rattle.ipcz_node.specs.Acts.{commit}
use Rattle.ipcz_word.specs.Layout.{word_of_bits}
use Rattle.ipcz_world.specs.WordAnswers.{word_answer}
use Rattle.ipcz_world.proofs.code.WordNumbers.{spelled}
use Rattle.ipcz_rule.specs.Batches.{BatchMine}
use Rattle.ipcz_rule.specs.Steps.{act_part}
use Rattle.ipcz_cell.specs.CellStates.{CellState, part_in}
use Rattle.ipcz_cell.specs.Words.{CanWord}
use Rattle.ipcz_cell.proofs.Seating.{own_sound}
use Rattle.ipcz_cell.proofs.Wording.{unlock_answers, acted_cell}
use Rattle.ipcz_node.proofs.Growing.{grows_not}
use Rattle.ipcz_cell.proofs.Slotting.{none_then}
use Rattle.ipcz_cell.proofs.cell.NodeCell.word_unlock.Goals as goal
use Rattle.ipcz_cell.specs.Seats.{mine_of}

pub word_here-i-requires-clause-grows : goal.word_here-i-requires-clause-grows
word_here-i-requires-clause-grows g c = grows_not _ c.args.serial router_acts.Unlock refl

pub unlock_here-found-requires-clause-can : goal.unlock_here-found-requires-clause-can
unlock_here-found-requires-clause-can g c = subst (λ (z : Node). CanWord z c.args.serial c.word_here-i.result.1 router_acts.Unlock c.word_here-i.result.0) (sym c.self.invariant.0.seated.state) c.word_here-i.ensures.can

pub unlock_here-found-requires-clause-inside : goal.unlock_here-found-requires-clause-inside
unlock_here-found-requires-clause-inside g c =
    let was = c.self.invariant.0.seated in
    let can = subst (λ (z : Node). CanWord z c.args.serial c.word_here-i.result.1 router_acts.Unlock c.word_here-i.result.0) (sym was.state) c.word_here-i.ensures.can in
    (own_sound _ _ _ _ was).primary c.args.serial can.router c.word_here-i.result.0 can.can.there can.primary

pub commit_word-requires-clause-answer : goal.commit_word-requires-clause-answer
commit_word-requires-clause-answer g c = unlock_answers _ _ None _ c.answer_act-answered.ensures.answer

pub invariant_of-self : goal.invariant_of-self
invariant_of-self g c =
    let was = c.self.invariant.0 in
    let done = c.unlock_here-found.ensures in (
      acted_cell g.F.FabricName.table _ _ _ _ _ (mine_of c.self.inside.seat.me) was _ (mine_of c.unlock_here-found.new.seat.me) done.table done.sound c.commit_word.new.state.node c.word_here-i.result.0 c.args.serial c.unlock_here-found.result c.word_here-i.result.1 None router_acts.Unlock c.answer_act-answered.result.answer done.done.2 c.answer_act-answered.ensures.answer
          (c.commit_word.ensures ∙ ap (λ (z : Node). commit z (acts.Router c.args.serial router_acts.Unlock) c.answer_act-answered.result.answer) c.word_here-i.ensures.node),
      none_then c.unlock_here-found.ensures.slots c.self.invariant.1,
    )

pub returns : goal.returns
returns g c =
    let was = c.self.invariant.0 in
    let done = c.unlock_here-found.ensures.done in
    let side = c.word_here-i.result.1 in record {
      word = c.word_here-i.result.0;
      side = side;
      found = c.unlock_here-found.result;
      named = ap (λ (z : CellState). word_side z.part.state c.args.serial) (sym c.self.view_is) ∙ (ap (λ (z : Node). word_side z c.args.serial) was.seated.state ∙ c.word_here-i.ensures.named);
      is_word = done.0;
      after = sym (spelled _ _ c.answer_act-answered.ensures.word c.answer_act-answered.ensures.valid);
      part = ap (λ (m : BatchMine). part_in m.0) done.2 ∙ ap (λ (o : CellState). act_part (acts.Router c.args.serial router_acts.Unlock) (word_answer (word_of_bits c.unlock_here-found.result) side None router_acts.Unlock) o.part) c.self.view_is;
      seen = ap (λ (m : BatchMine). m.0.seen) done.2 ∙ ap (λ (o : CellState). o.seen ++ (c.word_here-i.result.0, c.unlock_here-found.result) ∷ []) c.self.view_is;
    }
