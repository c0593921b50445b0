use Rattle.std.specs.Fmt.{decimal}
use Rattle.ipcz_lines.specs.Lines.{IsWordAct, act_text, central_text, spaced}
use Rattle.ipcz_lines.proofs.Lacking.{not_parted, parts_agree, reads_none}
use Rattle.ipcz_lines.proofs.Forms.{central_lacks, stepped_only}
use Rattle.ipcz_lines.proofs.line.acts.stepped.Goals as goal

pub returns-in_err-second : goal.returns-in_err-second
returns-in_err-second c =
    reads_none act_text IsWordAct (spaced c.args.first.now c.args.bytes.now) _ c.from_residual.ensures (λ x h e.
    let s = stepped_only x c.args.first.now c.args.bytes.now c.requires.one_word h e in
    not_parted 32 (central_text s.word) (decimal s.after) c.args.bytes.now c.in_err-second.ensures.none s.text)

pub returns-in_err-step : goal.returns-in_err-step
returns-in_err-step c =
    reads_none act_text IsWordAct (spaced c.args.first.now c.args.bytes.now) _ c.from_residual-in_err-step.ensures (λ x h e.
    let s = stepped_only x c.args.first.now c.args.bytes.now c.requires.one_word h e in c.in_err-step.ensures s.step tt s.named)

pub returns-in_err-central : goal.returns-in_err-central
returns-in_err-central c =
    reads_none act_text IsWordAct (spaced c.args.first.now c.args.bytes.now) _ c.from_residual-in_err-central.ensures (λ x h e.
    let s = stepped_only x c.args.first.now c.args.bytes.now c.requires.one_word h e in
    c.in_err-central.ensures s.word s.is_word
    (parts_agree 32 (central_text s.word) (decimal s.after) c.in_ok-second.second.now c.in_ok-second.third.now c.args.bytes.now
    (central_lacks s.word s.is_word) c.in_ok-second.ensures.first c.in_ok-second.ensures.joined s.text).0)

pub returns-in_err-word : goal.returns-in_err-word
returns-in_err-word c =
    reads_none act_text IsWordAct (spaced c.args.first.now c.args.bytes.now) _ c.from_residual-in_err-word.ensures (λ x h e.
    let s = stepped_only x c.args.first.now c.args.bytes.now c.requires.one_word h e in
    c.in_err-word.ensures s.after s.is_after
    (parts_agree 32 (central_text s.word) (decimal s.after) c.in_ok-second.second.now c.in_ok-second.third.now c.args.bytes.now
    (central_lacks s.word s.is_word) c.in_ok-second.ensures.first c.in_ok-second.ensures.joined s.text).1)
