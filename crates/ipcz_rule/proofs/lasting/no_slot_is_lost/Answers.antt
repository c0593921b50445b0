use Rattle.std.specs.Prelude.{true}
use Rattle.ipcz_slots.proofs.NoSlotLost.{no_slot_is_lost}
use Rattle.ipcz_rule.specs.Lasting.{virtual, sizes}
use Rattle.ipcz_rule.proofs.Lasts.{laws_of}
use Rattle.ipcz_rule.proofs.LastsAll.{ends}
use Rattle.ipcz_rule.proofs.lasting.no_slot_is_lost.Goals as goal

pub returns : goal.returns
returns c = λ count limit k. no_slot_is_lost (virtual count limit true) (sizes count limit k true) (laws_of ends count limit k true)
