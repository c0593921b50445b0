use Rattle.ipcz_fabric_tests.proofs.wide_cells.a_cell_takes_up_to_65536_bytes_of_any_value.Given as goal

abbrev pub ghosts-all_go_over : goal.ghosts-all_go_over
ghosts-all_go_over g a = record { table = a.blank }
