use Rattle.std.proofs.Common.{◌≡◌, ◌≤◌, length, take, ap, arith, rules, subst}
use Rattle.ipcz_picture.specs.Parts.{end_of, first_of}
use Rattle.ipcz_picture.specs.Rows.{IsPicture}
use Rattle.ipcz_picture.specs.Sizes.{most_picture}
use Rattle.ipcz_picture.proofs.Following.{fewer_lines}
use Rattle.ipcz_picture.proofs.Sizing.{bounded}
use Rattle.ipcz_picture.proofs.output.output.Goals as goal

pub picture-requires-clause-many : goal.picture-requires-clause-many
picture-requires-clause-many c =
    let few = fewer_lines c.in-Ok.lines.items in
    let whole = ap length c.in-Ok.ensures.read.whole in
    let same = ap length c.as_slice.ensures.value in
    omega (arith, few, whole, same, c.in-Ok.ensures.short)

pub returns-in_ok-text-in-Ok : goal.returns-in_ok-text-in-Ok
returns-in_ok-text-in-Ok c =
    let lines = c.in-Ok.lines.items in
    let text = c.in_ok-text-in-Ok.text.items in
    let made = c.in_ok-text-in-Ok.ensures in
    let bounds = c.bounds_of-bounds.result in
    let same = c.as_slice.ensures.value in
    let first : bounds.first ≡ first_of c.args.part (length lines) = search rules in
    let end : bounds.end ≡ end_of c.args.part (length lines) = search rules in (
      lines,
      c.in-Ok.ensures.read,
      subst (λ from. IsPicture (take (end_of c.args.part (length lines)) lines) from text) first
          (subst (λ to. IsPicture (take to lines) bounds.first text) end
          (subst (λ read. IsPicture (take bounds.end read) bounds.first text) same made.picture)),
      bounded c.args.input.now lines text c.in-Ok.ensures.read (subst (λ read. length text ≤ most_picture read) same made.few),
    )
