use Rattle.std.proofs.Common.{rules}
use Rattle.ipcz_lines.proofs.Forms.{NoEventWord, router_reads}
use Rattle.ipcz_lines.proofs.line.acts.event.Goals as goal

pub returns-in-Some-5 : goal.returns-in-Some-5
returns-in-Some-5 c =
    let unlike_words : NoEventWord c.in-Some.first.now = record {
      hand = search rules;
      look = search rules;
      post = search rules;
      close = search rules;
    } in
    router_reads c.in-Some.first.now c.in-Some.rest.now c.args.bytes.now c.router.result c.in-Some.ensures.first unlike_words
    c.in-Some.ensures.joined c.router.ensures
