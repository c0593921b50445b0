use Rattle.ipcz_picture.proofs.Calling.{called_at}
use Rattle.ipcz_picture.proofs.scene.place_of_call.Goals as goal

pub returns-in_default : goal.returns-in_default
returns-in_default c name h = absurd (c.in_default.ensures.other name h)

pub returns : goal.returns
returns c = called_at c.in-Some.name.now c.args.named.now c.args.line.now c.portal_named.result c.in-Some.ensures.called c.portal_named.ensures.found
