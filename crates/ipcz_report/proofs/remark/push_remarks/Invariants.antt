use Rattle.std.proofs.Common.{◌≡◌, ◌++◌, drop}
use Rattle.ipcz_places.specs.Places.{IsPlace}
use Rattle.ipcz_report.specs.Remarks.{remarks_text}
use Rattle.ipcz_report.proofs.remark.push_remarks.Given as goal

-- the lines so far and those of the remarks that are left are all lines, and the place is one of the text
abbrev pub invariant-loop-remark : goal.invariant-loop-remark
invariant-loop-remark l =
    (l.out.items ++ remarks_text l.text (drop l.remark-index l.remarks) ≡ l.fn.out.items ++ remarks_text l.text l.remarks)
    × IsPlace l.text l.place
