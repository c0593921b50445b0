-- What a table without a name keeps: its first seat has the view of all nodes at the start, and no slot.
use Rattle.std.specs.Prelude.{◌≡◌, []}
use Rattle.ipcz_rule.specs.Start.{opening_view}
use Rattle.ipcz_rule.specs.Lasting.{own_of}
use Rattle.ipcz_cell.specs.TableNames.{IsLaidOut}
use Rattle.ipcz_cell.specs.declared.making.Blank.TheInside.{Inside}

pub record IsBlank (b : Inside) : Type 0 where
  pub nodes : b.table.shared.key.nodes ≡ b.nodes
  pub words : b.table.shared.key.words ≡ b.words
  pub own : b.seat.table_id ≡ b.table.shared.table_id
  pub me : b.seat.me ≡ (own_of (opening_view b.nodes) [] [] [], [])
  pub slots : b.table.shared.key.slots ≡ b.slots
  pub reuses : b.table.shared.key.reuses ≡ b.reuses
  pub laid_out : IsLaidOut (record { id = b.table.shared.table_id; count = b.nodes; size = b.words; slots = b.slots; reuses = b.reuses })
