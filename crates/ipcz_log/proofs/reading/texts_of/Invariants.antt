use Rattle.std.proofs.Common.{◌≡◌, drop, map, option_map, ◌++◌}
use Rattle.serde_json.specs.View.{view}
use Rattle.serde_json.specs.Find.{as_str}
use Rattle.ipcz_script.specs.Each.{each_of}
use Rattle.ipcz_log.proofs.reading.texts_of.Given as goal

abbrev pub invariant-loop-value : goal.invariant-loop-value
invariant-loop-value l = option_map (λ ys. l.names.items ++ ys) (each_of as_str (map view (drop l.value-index l.values))) ≡ each_of as_str (map view l.values)
