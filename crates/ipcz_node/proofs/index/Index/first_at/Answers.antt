use Rattle.std.proofs.Common.{◌≡◌, ◌<◌, ◌-◌, Bool, true, false, not, length, get_or, Equal, is_eq, refl, sym, subst, ◌∙◌, arith}
use Rattle.std.specs.Prelude.{Some}
use Rattle.std.proofs.lemmas.List.{get_or_default}
use Rattle.ipcz_node.specs.Indexes.{is_filed, IsLeast}
use Rattle.ipcz_node.proofs.Indexes.{first_here, tied}
use Rattle.ipcz_node.proofs.index.Index.first_at.Goals as goal
use Rattle.ipcz_node.proofs.index.Index.first_at.Goals.{else-place-gt0-via-then-place-gt0+else-eq, else-place-gt0-via-else-place-gt0}

is_so : (b : Bool) → not b ≡ false → b ≡ true
is_so true h = refl
is_so false h = sym h

pub returns : goal.returns
returns g c =
    let filed = c.self.inside.filed.members in
    let x = c.member.result.now in
    let within : c.args.place < length filed = omega (arith, c.if-place-len.false, c.len.ensures) in
    let tie = tied _ (sym (g.met.K.Ord.matches_eq x.0 c.args.key) ∙ is_so _ (sym c.ne.ensures ∙ c.if-ne.false)) in
    let other : 0 < c.args.place → is_eq (g.K.Ord.cmp (get_or filed (c.args.place - 1) x).0 c.args.key) ≡ false =
    elim c.else-place-gt0.branch [
      | else-place-gt0-via-then-place-gt0+else-eq w ↦ λ some. (let z = w.member-then-place-gt0.result.now in
          subst (λ y. is_eq (g.K.Ord.cmp y.0 c.args.key) ≡ false)
          (w.member-then-place-gt0.ensures.here ∙ get_or_default filed (c.args.place - 1) z x (omega (arith, within)))
          (sym (g.met.K.Ord.matches_eq z.0 c.args.key) ∙ sym w.eq.ensures ∙ w.if-eq.false))
      | else-place-gt0-via-else-place-gt0 w ↦ λ some. absurd (omega (arith, some, w.if-place-gt0.false))
    ] in
    subst (λ v. IsLeast (is_filed g.K.Ord.cmp v.members c.args.key) (Some x.1)) c.self.view_is
    (subst (λ y. IsLeast (is_filed g.K.Ord.cmp filed c.args.key) (Some y.1)) (sym c.member.ensures.here)
    (first_here g.met.K.Ord.total filed c.args.key c.args.place x c.member.ensures.sorted within
    (subst (λ y. g.K.Ord.cmp y.0 c.args.key ≡ Equal) c.member.ensures.here tie) other))
