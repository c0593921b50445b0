use Rattle.std.proofs.Common.{◌≡◌, ℕ, Some, ap, sym, subst, ◌∙◌, refl}
use Rattle.ipcz_router.specs.declared.act.RouterAct.TheVariants as router_acts
use Rattle.ipcz_node.specs.declared.act.Act.TheVariants as acts
use Rattle.ipcz_node.specs.Node.{Node}
use Rattle.ipcz_rule.specs.Rule.{saw}
use Rattle.ipcz_rule.specs.Batches.{BatchMine}
use Rattle.ipcz_cell.specs.CellStates.{CellState, part_in}
use Rattle.ipcz_cell.specs.Words.{CanWord}
use Rattle.ipcz_world.proofs.code.WordNumbers.{spelled}
use Rattle.ipcz_cell.proofs.Seating.{own_sound}
use Rattle.ipcz_cell.proofs.Wording.{lock_answers, status_told, acted_cell, raced_cell, tried_cell, refused_tells, tried_tells, raced_tells}
use Rattle.ipcz_cell.proofs.Mailing.{told_hit, told_miss}
use Rattle.ipcz_node.specs.Acts.{commit}
use Rattle.ipcz_node.specs.Node.{word_side, source_in}
use Rattle.ipcz_cell.specs.Outcomes.{act_view}
use Rattle.std.specs.Prelude.{true, false}
use Rattle.ipcz_world.specs.WordAnswers.{word_answer}
use Rattle.ipcz_word.specs.Layout.{word_of_bits}
use Rattle.ipcz_node.proofs.Growing.{grows_not}
use Rattle.ipcz_cell.proofs.Slotting.{none_then}
use Rattle.ipcz_cell.proofs.cell.NodeCell.lock_word.Goals as goal
use Rattle.ipcz_cell.specs.Seats.{mine_of}

pub word_here-word-requires-clause-grows : goal.word_here-word-requires-clause-grows
word_here-word-requires-clause-grows g c = grows_not _ c.args.serial router_acts.Lock refl

pub status_here-found-requires-clause-can : goal.status_here-found-requires-clause-can
status_here-found-requires-clause-can g c = subst (λ (z : Node). CanWord z c.args.serial c.word_here-word.result.1 router_acts.Lock c.word_here-word.result.0) (sym c.self.invariant.0.seated.state) c.word_here-word.ensures.can

pub status_here-found-requires-clause-inside : goal.status_here-found-requires-clause-inside
status_here-found-requires-clause-inside g c =
    let was = c.self.invariant.0.seated in
    let can = subst (λ (z : Node). CanWord z c.args.serial c.word_here-word.result.1 router_acts.Lock c.word_here-word.result.0) (sym was.state) c.word_here-word.ensures.can in
    (own_sound _ _ _ _ was).primary c.args.serial can.router c.word_here-word.result.0 can.can.there can.primary

pub commit_word-requires-clause-answer : goal.commit_word-requires-clause-answer
commit_word-requires-clause-answer g c = lock_answers _ _ c.source_of-source.result _ c.answer_act-answered.ensures.answer

pub invariant_of-self : goal.invariant_of-self
invariant_of-self g c =
    let was = c.self.invariant.0 in
    let t = g.F.FabricName.table in
    let i = c.word_here-word.result.0 in
    let side = c.word_here-word.result.1 in
    let n = c.status_here-found.result in
    let me = (mine_of c.self.inside.seat.me) in
    let loaded = c.status_here-found.ensures in
    let refused = c.is_refused-refused.ensures in
    let done = status_told n side c.source_of-source.result c.try_lock-plan.result true _ _ c.try_lock-plan.ensures.plan (sym refused ∙ c.if-refused.true) loaded.done.2 in (
      acted_cell t _ _ _ _ _ me was _ (mine_of c.status_here-found.new.seat.me) loaded.table loaded.sound c.commit_word.new.state.node i c.args.serial n side c.source_of-source.result router_acts.Lock c.answer_act-answered.result.answer done c.answer_act-answered.ensures.answer
          (c.commit_word.ensures ∙ ap (λ (z : Node). commit z (acts.Router c.args.serial router_acts.Lock) c.answer_act-answered.result.answer) c.word_here-word.ensures.node),
      none_then c.status_here-found.ensures.slots c.self.invariant.1,
    )

pub returns-then-refused : goal.returns-then-refused
returns-then-refused g c =
    let was = c.self.invariant.0 in
    let t = g.F.FabricName.table in
    let i = c.word_here-word.result.0 in
    let side = c.word_here-word.result.1 in
    let n = c.status_here-found.result in
    let me = (mine_of c.self.inside.seat.me) in
    let loaded = c.status_here-found.ensures in
    let named : word_side c.args.self.now.part.state c.args.serial ≡ Some (i, side) = ap (λ (z : CellState). word_side z.part.state c.args.serial) (sym c.self.view_is) ∙ (ap (λ (z : Node). word_side z c.args.serial) was.seated.state ∙ c.word_here-word.ensures.named) in
    let own : c.source_of-source.result ≡ source_in c.args.self.now.part.state c.args.serial = c.source_of-source.ensures ∙ (ap (λ (z : Node). source_in z c.args.serial) (c.word_here-word.ensures.node ∙ sym was.seated.state) ∙ ap (λ (z : CellState). source_in z.part.state c.args.serial) c.self.view_is) in
    let refused = c.is_refused-refused.ensures in
    let done = status_told n side c.source_of-source.result c.try_lock-plan.result true _ _ c.try_lock-plan.ensures.plan (sym refused ∙ c.if-refused.true) loaded.done.2 in
    let can = subst (λ (z : Node). CanWord z c.args.serial side router_acts.Lock i) (sym was.seated.state) c.word_here-word.ensures.can in
    let inside = (own_sound _ _ _ _ was.seated).primary c.args.serial can.router i can.can.there can.primary in
    record {
      word = i;
      side = side;
      loaded = n;
      named = named;
      inside = inside;
      is_word = loaded.done.0;
      tried = refused_tells i n c.args.serial side c.source_of-source.result (source_in c.args.self.now.part.state c.args.serial) c.try_lock-plan.result me (mine_of c.status_here-found.new.seat.me) c.self.inside.state.room c.commit_word.new.state.room c.args.self.now own c.self.view_is c.try_lock-plan.ensures.plan (sym refused ∙ c.if-refused.true) done;
      told = (refl, refl);
    }

pub lock_here-now-requires-clause-can : goal.lock_here-now-requires-clause-can
lock_here-now-requires-clause-can g c =
    let was = c.self.invariant.0 in
    let t = g.F.FabricName.table in
    let i = c.word_here-word.result.0 in
    let side = c.word_here-word.result.1 in
    let n = c.status_here-found.result in
    let me = (mine_of c.self.inside.seat.me) in
    let loaded = c.status_here-found.ensures in
    let free = sym c.is_refused-refused.ensures ∙ c.if-refused.false in
    let seen = status_told n side c.source_of-source.result c.try_lock-plan.result false _ _ c.try_lock-plan.ensures.plan free loaded.done.2 in
    subst (λ (m : BatchMine). CanWord (part_in m.0).state c.args.serial side router_acts.Lock i) (sym seen) (subst (λ (z : Node). CanWord z c.args.serial side router_acts.Lock i) (sym was.seated.state) c.word_here-word.ensures.can)

pub lock_here-now-requires-clause-inside : goal.lock_here-now-requires-clause-inside
lock_here-now-requires-clause-inside g c =
    let was = c.self.invariant.0.seated in
    let can = subst (λ (z : Node). CanWord z c.args.serial c.word_here-word.result.1 router_acts.Lock c.word_here-word.result.0) (sym was.state) c.word_here-word.ensures.can in
    (own_sound _ _ _ _ was).primary c.args.serial can.router c.word_here-word.result.0 can.can.there can.primary

pub lock_here-now-requires-clause-new : goal.lock_here-now-requires-clause-new
lock_here-now-requires-clause-new g c = spelled _ _ c.answer_act-answered.ensures.word c.answer_act-answered.ensures.valid

pub invariant_of-self-then-now-found : goal.invariant_of-self-then-now-found
invariant_of-self-then-now-found g c =
    let was = c.self.invariant.0 in
    let t = g.F.FabricName.table in
    let i = c.word_here-word.result.0 in
    let side = c.word_here-word.result.1 in
    let n = c.status_here-found.result in
    let me = (mine_of c.self.inside.seat.me) in
    let loaded = c.status_here-found.ensures in
    let free = sym c.is_refused-refused.ensures ∙ c.if-refused.false in
    let seen = status_told n side c.source_of-source.result c.try_lock-plan.result false _ _ c.try_lock-plan.ensures.plan free loaded.done.2 in
    let now = c.lock_here-now.result in
    let miss = told_miss _ n _ _ c.if-now-found.true c.lock_here-now.ensures.done.2 in
    let done = miss ∙ ap (λ (m : BatchMine). (saw i now m.0, m.1)) seen in
    (raced_cell t _ _ _ _ _ me was _ (mine_of c.lock_here-now.new.seat.me) (c.lock_here-now.ensures.table ∙ loaded.table) c.lock_here-now.ensures.sound c.word_here-word.new.state.node i n now me.0 done c.word_here-word.ensures.node, none_then c.lock_here-now.ensures.slots (none_then c.status_here-found.ensures.slots c.self.invariant.1))

pub returns-then-now-found : goal.returns-then-now-found
returns-then-now-found g c =
    let was = c.self.invariant.0 in
    let t = g.F.FabricName.table in
    let i = c.word_here-word.result.0 in
    let side = c.word_here-word.result.1 in
    let n = c.status_here-found.result in
    let me = (mine_of c.self.inside.seat.me) in
    let loaded = c.status_here-found.ensures in
    let named : word_side c.args.self.now.part.state c.args.serial ≡ Some (i, side) = ap (λ (z : CellState). word_side z.part.state c.args.serial) (sym c.self.view_is) ∙ (ap (λ (z : Node). word_side z c.args.serial) was.seated.state ∙ c.word_here-word.ensures.named) in
    let own : c.source_of-source.result ≡ source_in c.args.self.now.part.state c.args.serial = c.source_of-source.ensures ∙ (ap (λ (z : Node). source_in z c.args.serial) (c.word_here-word.ensures.node ∙ sym was.seated.state) ∙ ap (λ (z : CellState). source_in z.part.state c.args.serial) c.self.view_is) in
    let free = sym c.is_refused-refused.ensures ∙ c.if-refused.false in
    let seen = status_told n side c.source_of-source.result c.try_lock-plan.result false _ _ c.try_lock-plan.ensures.plan free loaded.done.2 in
    let now = c.lock_here-now.result in
    let miss = told_miss _ n _ _ c.if-now-found.true c.lock_here-now.ensures.done.2 in
    let done = miss ∙ ap (λ (m : BatchMine). (saw i now m.0, m.1)) seen in
    let can = subst (λ (z : Node). CanWord z c.args.serial side router_acts.Lock i) (sym was.seated.state) c.word_here-word.ensures.can in
    let inside = (own_sound _ _ _ _ was.seated).primary c.args.serial can.router i can.can.there can.primary in
    record {
      word = i;
      side = side;
      loaded = n;
      named = named;
      inside = inside;
      is_word = loaded.done.0;
      tried = raced_tells i n now c.args.serial side c.source_of-source.result (source_in c.args.self.now.part.state c.args.serial) me (mine_of c.lock_here-now.new.seat.me) c.self.inside.state.room c.word_here-word.new.state.room c.args.self.now own c.self.view_is c.if-now-found.true done;
      told = tt;
    }

pub commit_word-requires-2-clause-answer : goal.commit_word-requires-2-clause-answer
commit_word-requires-2-clause-answer g c = lock_answers _ _ c.source_of-source.result _ c.answer_act-answered.ensures.answer

pub invariant_of-self-2 : goal.invariant_of-self-2
invariant_of-self-2 g c =
    let was = c.self.invariant.0 in
    let t = g.F.FabricName.table in
    let i = c.word_here-word.result.0 in
    let side = c.word_here-word.result.1 in
    let n = c.status_here-found.result in
    let me = (mine_of c.self.inside.seat.me) in
    let loaded = c.status_here-found.ensures in
    let free = sym c.is_refused-refused.ensures ∙ c.if-refused.false in
    let seen = status_told n side c.source_of-source.result c.try_lock-plan.result false _ _ c.try_lock-plan.ensures.plan free loaded.done.2 in
    let now = c.lock_here-now.result in
    let hit = told_hit _ n _ _ c.if-now-found.false c.lock_here-now.ensures.done.2 in
    let done = hit ∙ ap (λ (m : BatchMine). (act_view i c.args.serial side c.source_of-source.result router_acts.Lock now m.0, m.1)) seen in
    let word = subst (λ (k : ℕ). c.answer_act-answered.result.answer ≡ word_answer (word_of_bits k) side c.source_of-source.result router_acts.Lock) (sym c.if-now-found.false) c.answer_act-answered.ensures.answer in (
      tried_cell t _ _ _ _ _ me was _ (mine_of c.lock_here-now.new.seat.me) (c.lock_here-now.ensures.table ∙ loaded.table) c.lock_here-now.ensures.sound c.commit_word-2.new.state.node i c.args.serial n now side c.source_of-source.result router_acts.Lock c.answer_act-answered.result.answer done word
          (c.commit_word-2.ensures ∙ ap (λ (z : Node). commit z (acts.Router c.args.serial router_acts.Lock) c.answer_act-answered.result.answer) c.word_here-word.ensures.node),
      none_then c.lock_here-now.ensures.slots (none_then c.status_here-found.ensures.slots c.self.invariant.1),
    )

pub returns : goal.returns
returns g c =
    let was = c.self.invariant.0 in
    let t = g.F.FabricName.table in
    let i = c.word_here-word.result.0 in
    let side = c.word_here-word.result.1 in
    let n = c.status_here-found.result in
    let me = (mine_of c.self.inside.seat.me) in
    let loaded = c.status_here-found.ensures in
    let named : word_side c.args.self.now.part.state c.args.serial ≡ Some (i, side) = ap (λ (z : CellState). word_side z.part.state c.args.serial) (sym c.self.view_is) ∙ (ap (λ (z : Node). word_side z c.args.serial) was.seated.state ∙ c.word_here-word.ensures.named) in
    let own : c.source_of-source.result ≡ source_in c.args.self.now.part.state c.args.serial = c.source_of-source.ensures ∙ (ap (λ (z : Node). source_in z c.args.serial) (c.word_here-word.ensures.node ∙ sym was.seated.state) ∙ ap (λ (z : CellState). source_in z.part.state c.args.serial) c.self.view_is) in
    let free = sym c.is_refused-refused.ensures ∙ c.if-refused.false in
    let seen = status_told n side c.source_of-source.result c.try_lock-plan.result false _ _ c.try_lock-plan.ensures.plan free loaded.done.2 in
    let now = c.lock_here-now.result in
    let hit = told_hit _ n _ _ c.if-now-found.false c.lock_here-now.ensures.done.2 in
    let done = hit ∙ ap (λ (m : BatchMine). (act_view i c.args.serial side c.source_of-source.result router_acts.Lock now m.0, m.1)) seen in
    let can = subst (λ (z : Node). CanWord z c.args.serial side router_acts.Lock i) (sym was.seated.state) c.word_here-word.ensures.can in
    let inside = (own_sound _ _ _ _ was.seated).primary c.args.serial can.router i can.can.there can.primary in
    record {
      word = i;
      side = side;
      loaded = n;
      named = named;
      inside = inside;
      is_word = loaded.done.0;
      tried = tried_tells i n now c.args.serial side c.source_of-source.result (source_in c.args.self.now.part.state c.args.serial) c.try_lock-plan.result me (mine_of c.lock_here-now.new.seat.me) c.self.inside.state.room c.commit_word-2.new.state.room c.args.self.now own c.self.view_is c.try_lock-plan.ensures.plan free c.if-now-found.false done;
      told = (refl, refl);
    }

pub status_here-found-requires-clause-named : goal.status_here-found-requires-clause-named
status_here-found-requires-clause-named g c = c.source_of-source.ensures ∙ ap (λ (z : Node). source_in z c.args.serial) (c.word_here-word.ensures.node ∙ sym c.self.invariant.0.seated.state)

pub lock_here-now-requires-clause-named : goal.lock_here-now-requires-clause-named
lock_here-now-requires-clause-named g c =
    let was = c.self.invariant.0 in
    let side = c.word_here-word.result.1 in
    let n = c.status_here-found.result in
    let loaded = c.status_here-found.ensures in
    let free = sym c.is_refused-refused.ensures ∙ c.if-refused.false in
    let seen = status_told n side c.source_of-source.result c.try_lock-plan.result false _ _ c.try_lock-plan.ensures.plan free loaded.done.2 in
    c.source_of-source.ensures ∙ (ap (λ (z : Node). source_in z c.args.serial) (c.word_here-word.ensures.node ∙ sym was.seated.state) ∙ ap (λ (m : BatchMine). source_in (part_in m.0).state c.args.serial) (sym seen))
