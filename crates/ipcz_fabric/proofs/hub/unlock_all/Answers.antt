use Rattle.std.proofs.Common.{ap, arith, length, ◌∙◌}
use Rattle.ipcz_fabric.proofs.Standing.{none_sorted}
use Rattle.ipcz_fabric.proofs.hub.unlock_all.Goals as goal

pub loop-done-init : goal.loop-done-init
loop-done-init g c = record {
  left = omega (arith, c.from_vec-locked.ensures.len, c.len-count.ensures);
  many = c.requires.many;
  sorted = none_sorted 0 c.args.places.items c.requires.none;
  done = ap length c.requires.none;
  all = c.len-count.ensures ∙ c.requires.locked;
}
