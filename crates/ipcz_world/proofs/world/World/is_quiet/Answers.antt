use Rattle.std.specs.Prelude.{◌≡◌, Option, Some, None, IfNone, IfSome, is_some, not, true, false, ℕ}
use Rattle.ipcz_world.proofs.code.StatesOfNodes.{world_is}
use Rattle.std.proofs.Common.{arith, ap, subst, ◌∙◌}
use Rattle.ipcz_node.specs.declared.act.Act.{Act}
use Rattle.ipcz_world.proofs.Vocabulary.{IsLawful, IsQuiet}
use Rattle.ipcz_world.specs.Visiting.{AreIdle, IsNextBusy}
use Rattle.ipcz_world.specs.World.{World}
use Rattle.ipcz_world.proofs.code.Regular.{lawful-regular}
use Rattle.ipcz_world.proofs.code.Visiting.{quiet}
use Rattle.ipcz_world.proofs.code.QuietNodes.{quiet-none_busy}
use Rattle.ipcz_world.proofs.world.World.is_quiet.Goals as goal

idle-quiet : (w : World) (o : Option (ℕ × Act)) → IsLawful w → IfNone o (AreIdle w 0 w.count) → is_some o ≡ false → IsQuiet w
idle-quiet w None law idle is = quiet w law idle
idle-quiet w (Some found) law idle is = cc

busy-unquiet : (w : World) (o : Option (ℕ × Act)) → IsLawful w → IfSome o (λ found. IsNextBusy w 0 found.0) → is_some o ≡ true → IsQuiet w → ⊥
busy-unquiet w None law busy is still = cc
busy-unquiet w (Some found) law busy is still = quiet-none_busy w 0 found.0 (lawful-regular w law) (omega arith) still busy

pub last_busy-requires-clause-regular : goal.last_busy-requires-clause-regular
last_busy-requires-clause-regular c = lawful-regular _ c.self.invariant

pub returns-clause-quiet : goal.returns-clause-quiet
returns-clause-quiet c is =
    idle-quiet _ c.last_busy.result (subst IsLawful (world_is c.self.view_is) c.self.invariant)
    (subst (λ w. IfNone c.last_busy.result (AreIdle w 0 w.count)) (world_is c.self.view_is) c.last_busy.ensures.none) (c.is_none.ensures ∙ ap not is)

pub returns-clause-busy : goal.returns-clause-busy
returns-clause-busy c is =
    busy-unquiet _ c.last_busy.result (subst IsLawful (world_is c.self.view_is) c.self.invariant)
    (subst (λ w. IfSome c.last_busy.result (λ found. IsNextBusy w 0 found.0)) (world_is c.self.view_is) c.last_busy.ensures.some)
    (c.is_none.ensures ∙ ap not is)
