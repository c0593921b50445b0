use Rattle.std.proofs.Common.{◌<◌, [], ◌∷◌, ◌++◌, ap, sym, ◌∙◌, arith}
use Rattle.ipcz_rule.specs.Batches.{BatchMine}
use Rattle.ipcz_cell.specs.CellStates.{CellState, part_in}
use Rattle.ipcz_cell.specs.Mails.{old_named}
use Rattle.ipcz_cell.proofs.Mailing.{seen_cell}
use Rattle.ipcz_cell.proofs.Sources.{loads_none, loads_one, message_named}
use Rattle.ipcz_cell.proofs.Slotting.{none_then}
use Rattle.ipcz_cell.proofs.cell.NodeCell.load_source.Goals as goal
use Rattle.ipcz_cell.specs.Seats.{mine_of}

pub returns-in_default : goal.returns-in_default
returns-in_default g c =
    loads_none g.F.FabricName.table.size c.args.from c.args.self.now
    (ap (λ (z : CellState). old_named z.part.message) (sym c.self.view_is) ∙ (ap old_named c.self.invariant.0.message ∙ (sym c.old_word.ensures ∙ c.in_default.is)))

pub source_here-found-requires-clause-hand : goal.source_here-found-requires-clause-hand
source_here-found-requires-clause-hand g c = ap (λ (z : CellState). z.part.state.hand) c.self.view_is ∙ c.requires

pub source_here-found-requires-clause-message : goal.source_here-found-requires-clause-message
source_here-found-requires-clause-message g c =
    message_named (part_in c.self.inside.seat.me.0.view).message c.in-Some.old (ap old_named c.self.invariant.0.message ∙ (sym c.old_word.ensures ∙ c.in-Some.is))

pub source_here-found-requires-clause-inside : goal.source_here-found-requires-clause-inside
source_here-found-requires-clause-inside g c = let words = c.fabric.invariant.4 in let less = c.if-old-fabric.false in omega (arith, words, less)

pub invariant_of-self : goal.invariant_of-self
invariant_of-self g c =
    let done = c.source_here-found.ensures in
    (seen_cell g.F.FabricName.table _ _ _ _ _ _ c.self.invariant.0 _ (mine_of c.source_here-found.new.seat.me) done.table done.sound c.in-Some.old c.source_here-found.result done.done.2, none_then c.source_here-found.ensures.slots c.self.invariant.1)

pub returns : goal.returns
returns g c =
    let was = c.self.invariant.0 in
    let done = c.source_here-found.ensures.done in
    let i = c.in-Some.old in
    let n = c.source_here-found.result in
    let inside : i < g.F.FabricName.table.size = let words = c.fabric.invariant.4 in let less = c.if-old-fabric.false in omega (arith, words, less) in
    loads_one g.F.FabricName.table.size c.args.from i n c.args.self.now _ c.source.result
    (ap (λ (z : CellState). old_named z.part.message) (sym c.self.view_is) ∙ (ap old_named was.message ∙ (sym c.old_word.ensures ∙ c.in-Some.is)))
    inside done.0 done.1 c.source.ensures
    (ap (λ (m : BatchMine). part_in m.0) done.2 ∙ ap (λ (o : CellState). o.part) c.self.view_is)
    (ap (λ (o : CellState). o.room) c.self.view_is)
    (ap (λ (m : BatchMine). m.0.seen) done.2 ∙ ap (λ (o : CellState). o.seen ++ (i, n) ∷ []) c.self.view_is)
