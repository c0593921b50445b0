use Rattle.ipcz_fabric_tests.proofs.hubs.a_gate_may_call_the_hub.Given as goal

abbrev pub ghosts-taken : goal.ghosts-taken
ghosts-taken g a = record { table = a.blank }
