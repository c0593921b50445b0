use Rattle.ipcz_places.proofs.Adding.{adds_twice}
use Rattle.ipcz_places.proofs.shown.push_shown.Goals as goal

pub showing-preserved : goal.showing-preserved
showing-preserved c = (
  adds_twice c.args.out.now.items c.showing.out.items c.push_at.new.out.items c.showing.invariant.0 c.in_ok-at.ensures.2,
  c.in_ok-at.ensures.1,
)
