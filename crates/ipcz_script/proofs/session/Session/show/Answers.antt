use Rattle.std.proofs.Common.{◌≡◌, ◌∙◌, ◌<◌, ap, sym, arith}
use Rattle.ipcz_world.specs.Holding.{shown_word}
use Rattle.ipcz_script.proofs.Showing.{shown-more}
use Rattle.ipcz_script.proofs.session.Session.show.Goals as goal

pub loop-i-preserved : goal.loop-i-preserved
loop-i-preserved c =
    let same : c.self.inside.world.world ≡ c.args.self.now.world = ap (λ s. s.world) c.self.view_is in
    let claimed : c.claimed-i-end.result ≡ c.args.self.now.world.claimed = c.claimed-i-end.ensures ∙ ap (λ w. w.claimed) same in
    let below : c.loop-i.i < c.args.self.now.world.claimed = omega (arith, c.loop-i-test.true, claimed) in
    shown-more c.args.self.now.world c.loop-i.i c.in-Some.word c.loop-i.words.items c.push.new.self.items below
    (ap (λ w. shown_word w c.loop-i.i) (sym same) ∙ sym c.word.ensures ∙ c.in-Some.is) c.in_ok-push.ensures.items c.loop-i.invariant
