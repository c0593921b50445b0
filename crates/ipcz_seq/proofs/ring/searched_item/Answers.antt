use Rattle.std.proofs.Common.{Err, Some, ap, sym, subst, ◌∙◌, arith}
use Rattle.std.specs.List.Sorted.{IsSearchInRange}
use Rattle.ipcz_seq.proofs.Pairs.{pair_from_search, place_from_search, none_at_place}
use Rattle.ipcz_seq.proofs.ring.searched_item.Goals as goal

pub returns-in-Ok : goal.returns-in-Ok
returns-in-Ok g c =
    let q = c.args.pairs.now in
    ap (λ (e : _). Some e.1) c.index.ensures ∙
    sym (pair_from_search 0 c.args.n c.in-Ok.place c.index.result.now q.items c.requires (omega (arith, c.in-Ok.ensures.bound, q.ok.0)) c.in-Ok.ensures.position)

pub returns-in-Err : goal.returns-in-Err
returns-in-Err g c =
    let q = c.args.pairs.now in
    sym (none_at_place 0 c.args.n q.items c.in-Err.field-0 c.requires
    (place_from_search 0 c.args.n q.items (Err c.in-Err.field-0) c.requires (subst (IsSearchInRange (Err c.in-Err.field-0)) q.ok.0 c.in-Err.ensures.bound)
    c.in-Err.ensures.position))
