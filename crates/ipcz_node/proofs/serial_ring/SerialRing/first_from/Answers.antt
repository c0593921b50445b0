use Rattle.std.proofs.Common.{◌≡◌, ◌&&◌, ◌<◌, ◌≤◌, length, nat_le, Some, None, Less, false, ap, subst, sym, refl, inl, inr, true≢false}
use Rattle.std.specs.List.{AllWithin, HoldsAt}
use Rattle.std.specs.Ordering.{nat_cmp, is_lt}
use Rattle.std.proofs.lemmas.Bool.{cases_lt}
use Rattle.ipcz_node.specs.Indexes.{IsLeast}
use Rattle.ipcz_node.specs.SortedSets.{has}
use Rattle.ipcz_node.proofs.SerialSets.{lowest_from, none_from}
use Rattle.ipcz_node.proofs.serial_ring.SerialRing.first_from.Goals as goal

pub returns-in-Some : goal.returns-in-Some
returns-in-Some c =
    let ys = c.self.inside.serials.items in
    let i = c.place_from.result in
    let from = c.args.from in
    let x = c.in-Some.lowest.now in
    let whole : ys ≡ c.args.self.now.members = ap (λ v. v.members) c.self.view_is in
    let inside : i < length ys = subst (λ k. i < k) c.self.inside.serials.ok.0 (c.in-Some.ensures.variant.0 refl) in
    subst (λ zs. IsLeast (λ s. nat_le from s && has nat_cmp zs s) (Some x)) whole
    (lowest_from ys from i c.self.invariant (subst (λ zs. AllWithin (λ s. nat_cmp s from ≡ Less) zs 0 i) (sym whole) c.place_from.ensures.before) x
    inside c.in-Some.ensures.lookup
    (subst (λ zs. i < length zs → HoldsAt (λ s. is_lt (nat_cmp s from) ≡ false) zs i) (sym whole) c.place_from.ensures.here inside))

pub returns-in-None : goal.returns-in-None
returns-in-None c =
    let ys = c.self.inside.serials.items in
    let i = c.place_from.result in
    let from = c.args.from in
    let whole : ys ≡ c.args.self.now.members = ap (λ v. v.members) c.self.view_is in
    let past : length ys ≤ i = elim (cases_lt i (length ys)) [
      | inl t ↦ absurd (true≢false (sym (c.in-None.ensures.variant.1 (subst (λ k. i < k) (sym c.self.inside.serials.ok.0) t))))
      | inr t ↦ t
    ] in
    subst (λ zs. IsLeast (λ s. nat_le from s && has nat_cmp zs s) None) whole
    (none_from ys from i c.self.invariant (subst (λ zs. AllWithin (λ s. nat_cmp s from ≡ Less) zs 0 i) (sym whole) c.place_from.ensures.before) past)
