use Rattle.ipcz_fabric.proofs.desk.put_noted.Given as goal

abbrev pub ghosts-note_as : goal.ghosts-note_as
ghosts-note_as g a = record { call = g.P.PutName.puts a.answer.now }
