use Rattle.std.proofs.Common.{codes}
use Rattle.ipcz_lines.specs.Lines.{FitsLine, line_text, spaced}
use Rattle.ipcz_lines.proofs.Lacking.{reads_none}
use Rattle.ipcz_lines.proofs.Forms.{put_only}
use Rattle.ipcz_lines.proofs.line.reading.put.Goals as goal

pub returns-in_err-name : goal.returns-in_err-name
returns-in_err-name c =
    reads_none line_text FitsLine (spaced (codes "put") c.args.bytes.now) _ c.from_residual.ensures (λ x h e.
    let s = put_only x c.args.bytes.now h e in c.in_err-name.ensures (s.name, s.answer) (s.is_name, s.is_answer) s.text)
