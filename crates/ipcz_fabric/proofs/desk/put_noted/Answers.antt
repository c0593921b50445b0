use Rattle.ipcz_rule.specs.Steps.{put_part}
use Rattle.ipcz_fabric.specs.Portals.{ends_of}
use Rattle.ipcz_fabric.proofs.Replaying.{left_told, puts_by}
use Rattle.ipcz_fabric.proofs.desk.put_noted.Goals as goal

pub returns-clause-left : goal.returns-clause-left
returns-clause-left g c =
    let put = c.put_here-put.ensures in
    left_told (λ e. e.why) c.args.me.now.id g.P.PutName.puts (put_part c.args.portal.now.end c.args.bytes (ends_of c.args.portals.items)) c.put_here-put.result
    c.told-answer.result c.args.cell.now c.put_here-put.new.cell c.note_as.new.cell c.told-answer.ensures put.ok put.err put.seen c.note_as.ensures.part c.note_as.ensures.seen

pub returns-clause-noted : goal.returns-clause-noted
returns-clause-noted g c =
    let put = c.put_here-put.ensures in (
      c.told-answer.result,
      c.told-answer.ensures,
      c.put_here-put.new.cell,
      puts_by (λ e. e.why) c.args.profile c.args.portal.now.end c.args.bytes _ c.args.cell.now.part c.put_here-put.new.cell.part c.put_here-put.result
          c.told-answer.result c.told-answer.ensures put.allowed put.number put.ok put.why put.err,
      record { part = c.note_as.ensures.part; seen = c.note_as.ensures.seen },
      c.note_as.ensures.me,
    )
