use Rattle.ipcz_events.proofs.RunTexts.{run_text_so}
use Rattle.ipcz_events.proofs.run_text.run_text.Goals as goal

pub returns : goal.returns
returns c =
    run_text_so c.args.schedule.now c.args.seed c.in_ok-ending.ending c.new-text.result.items c.push_header.new.out.items c.obey_all.new.out.items c.push_end.new.out.items
    c.in_ok-session.session c.as_slice.result.now c.new-text.ensures.items c.in_ok-push_header.ensures c.in_ok-session.ensures.session c.as_slice.ensures c.in_ok-ending.ensures
    c.in_ok-push_end.ensures
