use Rattle.std.proofs.Common.{ap, sym, ◌∙◌}
use Rattle.std.specs.Cmp.{nat_cmp_total}
use Rattle.std.specs.FinMap.{get-from_entries}
use Rattle.ipcz_seq.specs.Queue.{item_at}
use Rattle.ipcz_seq.proofs.Pairs.{none_below}
use Rattle.ipcz_seq.proofs.gap_queue.GapQueue.item_at.Goals as goal

pub returns-else-self-n : goal.returns-else-self-n
returns-else-self-n g c =
    sym (none_below c.self.inside.current c.args.n c.self.inside.pairs.items c.self.invariant c.if-self-n.false)
    ∙ sym (get-from_entries nat_cmp_total c.self.inside.pairs.items c.args.n)
    ∙ ap (λ q. item_at q.queue c.args.n) c.self.view_is

pub returns-then-self-n : goal.returns-then-self-n
returns-then-self-n g c = c.item_of.ensures ∙ sym (get-from_entries nat_cmp_total c.self.inside.pairs.items c.args.n) ∙
    ap (λ q. item_at q.queue c.args.n) c.self.view_is
