use Rattle.std.proofs.Common.{◌≡◌, ◌++◌, length}
use Rattle.std.specs.List.{All, flat_map}
use Rattle.ipcz_lines.specs.Lines.{IsReadLine, with_line_feed}
use Rattle.ipcz_lines.proofs.line.reading.read_lines.Given as goal

abbrev pub invariant-loop-rest : goal.invariant-loop-rest
invariant-loop-rest l = record {
  whole : flat_map with_line_feed l.lines.items ++ l.rest ≡ l.input;
  each : All IsReadLine l.lines.items;
}

abbrev pub decreases-loop-rest : goal.decreases-loop-rest
decreases-loop-rest l = length l.rest
