use Rattle.std.proofs.Common.{◌<◌, subst, sym, ◌∙◌, refl, arith}
use Rattle.std.specs.List.Sorted.{IsSearchInRange}
use Rattle.ipcz_seq.specs.Pairs.{IsPlaceFor}
use Rattle.ipcz_seq.proofs.Pairs.{place_at_end, place_from_search}
use Rattle.ipcz_seq.proofs.ring.place_of.Goals as goal

pub returns-in-Some-clause-place : goal.returns-in-Some-clause-place
returns-in-Some-clause-place g c =
    let q = c.args.pairs.now in
    let some = c.in-Some.ensures.variant.0 refl in
    subst (IsPlaceFor c.args.n q.items) (sym (c.len.ensures ∙ q.ok.0))
    (place_at_end 0 c.args.n q.items _ c.in-Some.last.now c.requires (omega (arith, some, q.ok.0))
    (subst (λ e. e.0 < c.args.n) c.in-Some.ensures.lookup c.if-last-n.true))

pub returns-in-Some-2-clause-place : goal.returns-in-Some-2-clause-place
returns-in-Some-2-clause-place g c =
    let q = c.args.pairs.now in
    place_from_search 0 c.args.n q.items _ c.requires (subst (IsSearchInRange c.searched_place.result)
    q.ok.0 c.searched_place.ensures.bound) c.searched_place.ensures.position
