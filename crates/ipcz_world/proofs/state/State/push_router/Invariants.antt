use Rattle.std.proofs.Common.{◌≡◌, ◌++◌, drop, map}
use Rattle.std.specs.List.{filter}
use Rattle.ipcz_node.specs.declared.act.Act.TheVariants.{Router as OfRouter}
use Rattle.ipcz_world.proofs.Vocabulary.{can_act}
use Rattle.ipcz_world.proofs.state.State.push_router.Given as goal

-- those that are listed, and those that are left, are all of them
abbrev pub invariant-loop-act : goal.invariant-loop-act
invariant-loop-act l = l.acts.items ++ filter (can_act l.fn.self.world l.fn.n) (map (OfRouter l.fn.serial) (drop l.act-index l.act-items)) ≡ l.fn.acts.items ++ filter (can_act l.fn.self.world l.fn.n) (map (OfRouter l.fn.serial) l.act-items)
