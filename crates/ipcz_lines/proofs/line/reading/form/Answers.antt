use Rattle.std.proofs.Common.{rules}
use Rattle.ipcz_lines.proofs.Forms.{NoLineWord, turn_reads}
use Rattle.ipcz_lines.proofs.line.reading.form.Goals as goal

pub returns-in-Some-7 : goal.returns-in-Some-7
returns-in-Some-7 c =
    let unlike_words : NoLineWord c.in-Some.first.now = record {
      open_ = search rules;
      put = search rules;
      close = search rules;
      get = search rules;
      words = search rules;
      refused = search rules;
    } in
    turn_reads c.in-Some.first.now c.in-Some.rest.now c.args.bytes.now c.turn.result c.in-Some.ensures.first unlike_words
    c.in-Some.ensures.joined c.turn.ensures
