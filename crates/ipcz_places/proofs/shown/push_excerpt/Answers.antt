use Rattle.ipcz_places.proofs.Adding.{adds_twice}
use Rattle.ipcz_places.proofs.shown.push_excerpt.Goals as goal

pub returns : goal.returns
returns c = record {
  printed = adds_twice c.args.out.now.items c.push_shown-2.new.out.items c.push_shown-3.new.out.items
      c.in_ok-push_shown.ensures.printed c.in_ok-push_shown-2.ensures.printed;
}
