use Rattle.std.proofs.Common.{◌≡◌, ◌-◌, ap, sym, ◌∙◌, arith}
use Rattle.std.proofs.lemmas.Result.{on_ok_weaker}
use Rattle.std.specs.FinMap as map
use Rattle.std.specs.VecDeque.{deque_len, deque_capacity}
use Rattle.ipcz_seq.proofs.Pairs.{len-from_entries}
use Rattle.ipcz_seq.proofs.gap_queue.GapQueue.reserve.Goals as goal

pub returns-clause-first : goal.returns-clause-first
returns-clause-first g c = λ full empty.
    let none : deque_len c.self.inside.pairs ≡ 0 =
    c.self.inside.pairs.ok.0 ∙ sym (len-from_entries _ _ c.self.invariant) ∙ ap (λ q. map.len q.queue.items) c.self.view_is ∙ empty in
    let no_room : deque_capacity c.self.inside.pairs - deque_len c.self.inside.pairs ≡ 0 = ap (λ q. q.room) c.self.view_is ∙ full in
    on_ok_weaker c.make_room.result (λ one. omega (arith, one, none, c.make_room.ensures.len))
    (c.make_room.ensures.first (omega (arith, none, no_room)))
