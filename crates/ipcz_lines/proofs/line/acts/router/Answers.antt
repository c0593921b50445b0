use Rattle.std.specs.Fmt.{decimal}
use Rattle.ipcz_lines.specs.Lines.{IsRouterEvent, event_text, spaced}
use Rattle.ipcz_lines.proofs.Lacking.{reads_none, tail_is}
use Rattle.ipcz_lines.proofs.Forms.{routed_only}
use Rattle.ipcz_lines.proofs.line.acts.router.Goals as goal

pub returns-in_err-number-in-114 : goal.returns-in_err-number-in-114
returns-in_err-number-in-114 c =
    reads_none event_text IsRouterEvent (spaced c.args.first.now c.args.bytes.now) _ c.from_residual.ensures (λ x h e.
    let s = routed_only x c.args.first.now c.args.bytes.now c.requires.one_word h e in
    c.in_err-number-in-114.ensures s.serial s.number (tail_is 114 (decimal s.serial) c.args.first.now s.named))

pub returns-in_err-act-in-114 : goal.returns-in_err-act-in-114
returns-in_err-act-in-114 c =
    reads_none event_text IsRouterEvent (spaced c.args.first.now c.args.bytes.now) _ c.from_residual-in_err-act-in-114.ensures (λ x h e.
    let s = routed_only x c.args.first.now c.args.bytes.now c.requires.one_word h e in c.in_err-act-in-114.ensures s.act s.is_act s.text)
