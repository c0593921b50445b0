use Rattle.std.proofs.Common.{ap, sym, refl, ◌∙◌, ◌-◌, Some, arith}
use Rattle.ipcz_seq.proofs.Pairs.{waiting_from, found_pair}
use Rattle.ipcz_seq.proofs.ring.item_of.Goals as goal

pub searched_item-requires : goal.searched_item-requires
searched_item-requires g c = waiting_from 0 _ _ (omega arith) c.requires.waiting

pub returns-in-Some : goal.returns-in-Some
returns-in-Some g c =
    let q = c.args.pairs.now in
    let there = c.in-Some.ensures.variant.0 refl in
    ap (λ (e : _). Some e.1) c.in-Some.ensures.lookup ∙
    sym (found_pair c.args.current c.args.n (c.args.n - c.args.current) c.in-Some.pair.now q.items c.requires.waiting
    (omega (arith, there, q.ok.0)) (ap (λ (e : _). e.0) (sym c.in-Some.ensures.lookup) ∙ c.if-pair-n.true))
