use Rattle.std.proofs.Common.{◌≡◌, ◌<◌, ◌∙◌, ◌&&◌, Bool, length, arith, ap, sym, true, false, not}
use Rattle.ipcz_world.proofs.Vocabulary.{place_at, Empty, is_full}
use Rattle.ipcz_world.proofs.code.Marks.{full-as, seen-at, stand-place, within}
use Rattle.ipcz_world.proofs.code.Slots.{get-place}
use Rattle.ipcz_world.proofs.mailboxes.Mailboxes.is_full.Goals as goal

pub bounds-self-inside-k : goal.bounds-self-inside-k
bounds-self-inside-k c = omega (arith, within _ c.self.inside.marks _ c.args.k c.self.view_is c.requires, c.self.invariant.few)

pub index-requires : goal.index-requires
index-requires c =
    omega (arith, within _ c.self.inside.marks _ c.args.k c.self.view_is c.requires, c.self.inside.boxes.ok)

pub returns-then-not-self-k : goal.returns-then-not-self-k
returns-then-not-self-k c =
    let l = within _ c.self.inside.marks _ c.args.k c.self.view_is c.requires in
    let many : c.args.k < length c.self.inside.marks = omega (arith, l, c.self.invariant.few, c.self.invariant.marked) in
    let at = seen-at c.self.inside.boxes.items c.self.inside.marks _ c.args.k c.index.result.now c.self.view_is l many c.index.ensures in
    let free : not (place_at false c.self.inside.marks c.args.k) ≡ true =
    ap not (sym (get-place false false c.self.inside.marks c.args.k many) ∙ c.if-not-self-k.true) in
    c.is_full.ensures ∙ sym (ap is_full at ∙ full-as _ _ ∙ ap (λ (b : Bool). b && is_full c.index.result.now) free)

pub returns-else-not-self-k : goal.returns-else-not-self-k
returns-else-not-self-k c =
    let l = within _ c.self.inside.marks _ c.args.k c.self.view_is c.requires in
    let many : c.args.k < length c.self.inside.marks = omega (arith, l, c.self.invariant.few, c.self.invariant.marked) in
    let at = ap (λ mail. place_at Empty mail c.args.k) (sym c.self.view_is) ∙
    stand-place c.self.inside.boxes.items c.self.inside.marks c.args.k l many in
    let marked : not (place_at false c.self.inside.marks c.args.k) ≡ false =
    ap not (sym (get-place false false c.self.inside.marks c.args.k many) ∙ c.if-not-self-k.false) in
    ap not c.if-not-self-k.false ∙ sym (ap is_full at ∙ full-as _ _ ∙
    ap (λ (b : Bool). b && is_full (place_at Empty c.self.inside.boxes.items c.args.k)) marked)
