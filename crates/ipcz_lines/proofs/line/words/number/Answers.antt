use Rattle.ipcz_lines.proofs.Numbers.{plain_decimal, utf8_decimal}
use Rattle.ipcz_lines.proofs.line.words.number.Goals as goal

pub returns-then-not-begins_plainly : goal.returns-then-not-begins_plainly
returns-then-not-begins_plainly c = λ n h e. let t = c.begins_plainly.ensures.1 (plain_decimal _ n h e) in cc

pub returns-in-Err : goal.returns-in-Err
returns-in-Err c = λ n h e. c.in-Err.ensures.cases.0 (utf8_decimal _ n h e)
