use Rattle.std.proofs.Common.{◌≡◌, ◌+◌, ◌∷◌, ◌++◌, [], not, length, ap, ◌∙◌, refl, arith}
use Rattle.ipcz_rule.specs.Batches.{Batch, BatchMine, batch_from}
use Rattle.ipcz_cell.specs.CellStates.{part_in}
use Rattle.ipcz_cell.specs.Cells.{batch_slots, has_batch, probed_slots}
use Rattle.ipcz_cell.specs.Mails.{slot_of}
use Rattle.ipcz_cell.specs.Outcomes.{handed, is_itself, touched}
use Rattle.ipcz_cell.specs.Parts.{handed_part}
use Rattle.ipcz_cell.specs.Seats.{mine_of}
use Rattle.ipcz_cell.proofs.LeftSlots.{first_slot, home_held, home_slots, is_held, kept_held, kept_slots, spent_batch, stand_behind}
use Rattle.ipcz_cell.proofs.Mailing.{has_none}
use Rattle.ipcz_cell.proofs.Posting.{front}
use Rattle.ipcz_cell.proofs.mail.leave_slot.Goals as goal

pub place_of-place-requires : goal.place_of-place-requires
place_of-place-requires g c = is_held c.args.held.now c.args.from _ (c.requires.held c.args.from)

pub is_spent-requires-clause-slot : goal.is_spent-requires-clause-slot
is_spent-requires-clause-slot g c =
    let t = g.F.FabricName.table in
    let p = part_in c.args.seat.now.me.0.view in
    let m0 : BatchMine = mine_of c.args.seat.now.me in
    let at = c.place_of-place.ensures.place in
    let n : c.args.probed + c.place_of-place.result ≡ length p.probed + length at.0 = let a = c.requires.probed.0 in let b = at.3 in omega (arith, a, b) in
    let k = slot_of t c.args.from c.args.node in
    let first = first_slot t.count m0 c.args.node c.args.from c.args.held.now at.0 at.1 p refl c.requires.node.0 c.requires.slots at.2 c.requires.held (mine_of c.turn_over.new.seat.me) _ k n refl c.turn_over.ensures.me in
    (batch_from p c.args.from, front c.turn_over.new.seat.me.1 _ k c.slot_of-slot.result (batch_from p c.args.from) first c.slot_of-slot.ensures.slot)

pub hand_here-requires-clause-picked : goal.hand_here-requires-clause-picked
hand_here-requires-clause-picked g c = is_itself (handed c.args.from c.args.source)

pub hand_on_here-requires-clause-picked : goal.hand_on_here-requires-clause-picked
hand_on_here-requires-clause-picked g c = is_itself (touched (handed_part c.args.from c.args.source))

pub hand_here-requires-clause-spent : goal.hand_here-requires-clause-spent
hand_here-requires-clause-spent g c =
    let t = g.F.FabricName.table in
    let p = part_in c.args.seat.now.me.0.view in
    let m0 : BatchMine = mine_of c.args.seat.now.me in
    let at = c.place_of-place.ensures.place in
    let n : c.args.probed + c.place_of-place.result ≡ length p.probed + length at.0 = let a = c.requires.probed.0 in let b = at.3 in omega (arith, a, b) in
    let k = slot_of t c.args.from c.args.node in
    let first = first_slot t.count m0 c.args.node c.args.from c.args.held.now at.0 at.1 p refl c.requires.node.0 c.requires.slots at.2 c.requires.held (mine_of c.turn_over.new.seat.me) _ k n refl c.turn_over.ensures.me in
    let tested = c.is_spent.ensures.spent (batch_from p c.args.from) (front c.turn_over.new.seat.me.1 _ k c.slot_of-slot.result (batch_from p c.args.from) first c.slot_of-slot.ensures.slot) in
    let left = spent_batch p c.args.from c.is_spent.result tested in
    ap (λ (m : BatchMine). has_batch (part_in m.0) c.args.from) (c.is_spent.ensures.same ∙ c.turn_over.ensures.me) ∙ (left ∙ ap not c.if-is_spent.true)

pub hand_here-requires-clause-slot : goal.hand_here-requires-clause-slot
hand_here-requires-clause-slot g c =
    let t = g.F.FabricName.table in
    let p = part_in c.args.seat.now.me.0.view in
    let m0 : BatchMine = mine_of c.args.seat.now.me in
    let at = c.place_of-place.ensures.place in
    let n : c.args.probed + c.place_of-place.result ≡ length p.probed + length at.0 = let a = c.requires.probed.0 in let b = at.3 in omega (arith, a, b) in
    let k = slot_of t c.args.from c.args.node in
    let first = first_slot t.count m0 c.args.node c.args.from c.args.held.now at.0 at.1 p refl c.requires.node.0 c.requires.slots at.2 c.requires.held (mine_of c.turn_over.new.seat.me) _ k n refl c.turn_over.ensures.me in
    let tested = c.is_spent.ensures.spent (batch_from p c.args.from) (front c.turn_over.new.seat.me.1 _ k c.slot_of-slot.result (batch_from p c.args.from) first c.slot_of-slot.ensures.slot) in
    let left = spent_batch p c.args.from c.is_spent.result tested in
    let none = has_none (batch_from p c.args.from) (left ∙ ap not c.if-is_spent.true) in
    front c.is_spent.new.seat.me.1 _ k k [] (ap (λ (m : BatchMine). m.1) c.is_spent.ensures.same ∙ (first ∙ ap (λ (b : Batch). (k, b) ∷ (batch_slots t.count p at.1 ++ (probed_slots t.count p.node p.probed ++ batch_slots t.count p at.0))) none)) refl

pub hand_on_here-requires-clause-left : goal.hand_on_here-requires-clause-left
hand_on_here-requires-clause-left g c =
    let t = g.F.FabricName.table in
    let p = part_in c.args.seat.now.me.0.view in
    let m0 : BatchMine = mine_of c.args.seat.now.me in
    let at = c.place_of-place.ensures.place in
    let n : c.args.probed + c.place_of-place.result ≡ length p.probed + length at.0 = let a = c.requires.probed.0 in let b = at.3 in omega (arith, a, b) in
    let k = slot_of t c.args.from c.args.node in
    let first = first_slot t.count m0 c.args.node c.args.from c.args.held.now at.0 at.1 p refl c.requires.node.0 c.requires.slots at.2 c.requires.held (mine_of c.turn_over.new.seat.me) _ k n refl c.turn_over.ensures.me in
    let tested = c.is_spent.ensures.spent (batch_from p c.args.from) (front c.turn_over.new.seat.me.1 _ k c.slot_of-slot.result (batch_from p c.args.from) first c.slot_of-slot.ensures.slot) in
    let left = spent_batch p c.args.from c.is_spent.result tested in
    ap (λ (m : BatchMine). has_batch (part_in m.0) c.args.from) (c.is_spent.ensures.same ∙ c.turn_over.ensures.me) ∙ (left ∙ ap not c.if-is_spent.false)

pub returns-then-is_spent-clause-done : goal.returns-then-is_spent-clause-done
returns-then-is_spent-clause-done g c =
    let t = g.F.FabricName.table in
    let p = part_in c.args.seat.now.me.0.view in
    let m0 : BatchMine = mine_of c.args.seat.now.me in
    let at = c.place_of-place.ensures.place in
    let n : c.args.probed + c.place_of-place.result ≡ length p.probed + length at.0 = let a = c.requires.probed.0 in let b = at.3 in omega (arith, a, b) in
    let k = slot_of t c.args.from c.args.node in
    let first = first_slot t.count m0 c.args.node c.args.from c.args.held.now at.0 at.1 p refl c.requires.node.0 c.requires.slots at.2 c.requires.held (mine_of c.turn_over.new.seat.me) _ k n refl c.turn_over.ensures.me in
    let tested = c.is_spent.ensures.spent (batch_from p c.args.from) (front c.turn_over.new.seat.me.1 _ k c.slot_of-slot.result (batch_from p c.args.from) first c.slot_of-slot.ensures.slot) in
    let left = spent_batch p c.args.from c.is_spent.result tested in
    let same = ap (λ (m : BatchMine). m.0) (c.is_spent.ensures.same ∙ c.turn_over.ensures.me) in
    let there = ap (λ (m : BatchMine). m.1) c.is_spent.ensures.same ∙ first in
    let behind = stand_behind c.args.held.now at.0 at.1 c.args.from c.len-many.result c.place_of-place.result at.2 c.len-many.ensures.length at.3 in
    let done = home_slots t.count m0 c.args.node c.args.from c.args.held.now at.0 at.1 p refl c.requires.node.0 c.requires.slots at.2 c.requires.held c.requires.message.0 c.args.source c.requires.message.1
    (mine_of c.is_spent.new.seat.me) (mine_of c.hand_here.new.seat.me) (mine_of c.turn_over-then-is_spent.new.seat.me) _ k c.take.new.self c.place_of-place.ensures.once c.take.ensures.without refl behind.0 same there c.hand_here.ensures.done c.turn_over-then-is_spent.ensures.me in
    done.0

pub returns-then-is_spent-clause-left : goal.returns-then-is_spent-clause-left
returns-then-is_spent-clause-left g c =
    let t = g.F.FabricName.table in
    let p = part_in c.args.seat.now.me.0.view in
    let m0 : BatchMine = mine_of c.args.seat.now.me in
    let at = c.place_of-place.ensures.place in
    let n : c.args.probed + c.place_of-place.result ≡ length p.probed + length at.0 = let a = c.requires.probed.0 in let b = at.3 in omega (arith, a, b) in
    let k = slot_of t c.args.from c.args.node in
    let first = first_slot t.count m0 c.args.node c.args.from c.args.held.now at.0 at.1 p refl c.requires.node.0 c.requires.slots at.2 c.requires.held (mine_of c.turn_over.new.seat.me) _ k n refl c.turn_over.ensures.me in
    let tested = c.is_spent.ensures.spent (batch_from p c.args.from) (front c.turn_over.new.seat.me.1 _ k c.slot_of-slot.result (batch_from p c.args.from) first c.slot_of-slot.ensures.slot) in
    let left = spent_batch p c.args.from c.is_spent.result tested in
    let same = ap (λ (m : BatchMine). m.0) (c.is_spent.ensures.same ∙ c.turn_over.ensures.me) in
    let there = ap (λ (m : BatchMine). m.1) c.is_spent.ensures.same ∙ first in
    let behind = stand_behind c.args.held.now at.0 at.1 c.args.from c.len-many.result c.place_of-place.result at.2 c.len-many.ensures.length at.3 in
    let done = home_slots t.count m0 c.args.node c.args.from c.args.held.now at.0 at.1 p refl c.requires.node.0 c.requires.slots at.2 c.requires.held c.requires.message.0 c.args.source c.requires.message.1
    (mine_of c.is_spent.new.seat.me) (mine_of c.hand_here.new.seat.me) (mine_of c.turn_over-then-is_spent.new.seat.me) _ k c.take.new.self c.place_of-place.ensures.once c.take.ensures.without refl behind.0 same there c.hand_here.ensures.done c.turn_over-then-is_spent.ensures.me in
    done.1

pub returns-then-is_spent-clause-held : goal.returns-then-is_spent-clause-held
returns-then-is_spent-clause-held g c =
    let t = g.F.FabricName.table in
    let p = part_in c.args.seat.now.me.0.view in
    let m0 : BatchMine = mine_of c.args.seat.now.me in
    let at = c.place_of-place.ensures.place in
    let n : c.args.probed + c.place_of-place.result ≡ length p.probed + length at.0 = let a = c.requires.probed.0 in let b = at.3 in omega (arith, a, b) in
    let k = slot_of t c.args.from c.args.node in
    let first = first_slot t.count m0 c.args.node c.args.from c.args.held.now at.0 at.1 p refl c.requires.node.0 c.requires.slots at.2 c.requires.held (mine_of c.turn_over.new.seat.me) _ k n refl c.turn_over.ensures.me in
    let tested = c.is_spent.ensures.spent (batch_from p c.args.from) (front c.turn_over.new.seat.me.1 _ k c.slot_of-slot.result (batch_from p c.args.from) first c.slot_of-slot.ensures.slot) in
    let left = spent_batch p c.args.from c.is_spent.result tested in
    home_held t.count m0 c.args.node c.args.from c.args.held.now at.0 at.1 p refl c.requires.node.0 c.requires.slots at.2 c.requires.held c.take.new.self c.take.ensures.without (left ∙ ap not c.if-is_spent.true)

pub returns-else-is_spent-clause-done : goal.returns-else-is_spent-clause-done
returns-else-is_spent-clause-done g c =
    let t = g.F.FabricName.table in
    let p = part_in c.args.seat.now.me.0.view in
    let m0 : BatchMine = mine_of c.args.seat.now.me in
    let at = c.place_of-place.ensures.place in
    let n : c.args.probed + c.place_of-place.result ≡ length p.probed + length at.0 = let a = c.requires.probed.0 in let b = at.3 in omega (arith, a, b) in
    let k = slot_of t c.args.from c.args.node in
    let first = first_slot t.count m0 c.args.node c.args.from c.args.held.now at.0 at.1 p refl c.requires.node.0 c.requires.slots at.2 c.requires.held (mine_of c.turn_over.new.seat.me) _ k n refl c.turn_over.ensures.me in
    let tested = c.is_spent.ensures.spent (batch_from p c.args.from) (front c.turn_over.new.seat.me.1 _ k c.slot_of-slot.result (batch_from p c.args.from) first c.slot_of-slot.ensures.slot) in
    let left = spent_batch p c.args.from c.is_spent.result tested in
    let same = ap (λ (m : BatchMine). m.0) (c.is_spent.ensures.same ∙ c.turn_over.ensures.me) in
    let there = ap (λ (m : BatchMine). m.1) c.is_spent.ensures.same ∙ first in
    let behind = stand_behind c.args.held.now at.0 at.1 c.args.from c.len-many.result c.place_of-place.result at.2 c.len-many.ensures.length at.3 in
    let done = kept_slots t.count m0 c.args.node c.args.from c.args.held.now at.0 at.1 p refl c.requires.node.0 c.requires.slots at.2 c.requires.held c.requires.message.0 c.args.source c.requires.message.1
    (mine_of c.is_spent.new.seat.me) (mine_of c.hand_on_here.new.seat.me) (mine_of c.turn_over-else-is_spent.new.seat.me) _ k refl behind.1 same there c.hand_on_here.ensures.done c.turn_over-else-is_spent.ensures.me in
    done.0

pub returns-else-is_spent-clause-left : goal.returns-else-is_spent-clause-left
returns-else-is_spent-clause-left g c =
    let t = g.F.FabricName.table in
    let p = part_in c.args.seat.now.me.0.view in
    let m0 : BatchMine = mine_of c.args.seat.now.me in
    let at = c.place_of-place.ensures.place in
    let n : c.args.probed + c.place_of-place.result ≡ length p.probed + length at.0 = let a = c.requires.probed.0 in let b = at.3 in omega (arith, a, b) in
    let k = slot_of t c.args.from c.args.node in
    let first = first_slot t.count m0 c.args.node c.args.from c.args.held.now at.0 at.1 p refl c.requires.node.0 c.requires.slots at.2 c.requires.held (mine_of c.turn_over.new.seat.me) _ k n refl c.turn_over.ensures.me in
    let tested = c.is_spent.ensures.spent (batch_from p c.args.from) (front c.turn_over.new.seat.me.1 _ k c.slot_of-slot.result (batch_from p c.args.from) first c.slot_of-slot.ensures.slot) in
    let left = spent_batch p c.args.from c.is_spent.result tested in
    let same = ap (λ (m : BatchMine). m.0) (c.is_spent.ensures.same ∙ c.turn_over.ensures.me) in
    let there = ap (λ (m : BatchMine). m.1) c.is_spent.ensures.same ∙ first in
    let behind = stand_behind c.args.held.now at.0 at.1 c.args.from c.len-many.result c.place_of-place.result at.2 c.len-many.ensures.length at.3 in
    let done = kept_slots t.count m0 c.args.node c.args.from c.args.held.now at.0 at.1 p refl c.requires.node.0 c.requires.slots at.2 c.requires.held c.requires.message.0 c.args.source c.requires.message.1
    (mine_of c.is_spent.new.seat.me) (mine_of c.hand_on_here.new.seat.me) (mine_of c.turn_over-else-is_spent.new.seat.me) _ k refl behind.1 same there c.hand_on_here.ensures.done c.turn_over-else-is_spent.ensures.me in
    done.1

pub returns-else-is_spent-clause-held : goal.returns-else-is_spent-clause-held
returns-else-is_spent-clause-held g c =
    let t = g.F.FabricName.table in
    let p = part_in c.args.seat.now.me.0.view in
    let m0 : BatchMine = mine_of c.args.seat.now.me in
    let at = c.place_of-place.ensures.place in
    let n : c.args.probed + c.place_of-place.result ≡ length p.probed + length at.0 = let a = c.requires.probed.0 in let b = at.3 in omega (arith, a, b) in
    let k = slot_of t c.args.from c.args.node in
    let first = first_slot t.count m0 c.args.node c.args.from c.args.held.now at.0 at.1 p refl c.requires.node.0 c.requires.slots at.2 c.requires.held (mine_of c.turn_over.new.seat.me) _ k n refl c.turn_over.ensures.me in
    let tested = c.is_spent.ensures.spent (batch_from p c.args.from) (front c.turn_over.new.seat.me.1 _ k c.slot_of-slot.result (batch_from p c.args.from) first c.slot_of-slot.ensures.slot) in
    let left = spent_batch p c.args.from c.is_spent.result tested in
    kept_held t.count m0 c.args.node c.args.from c.args.held.now at.0 at.1 p refl c.requires.node.0 c.requires.slots at.2 c.requires.held (left ∙ ap not c.if-is_spent.false)
