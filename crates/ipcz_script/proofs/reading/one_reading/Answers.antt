use Rattle.ipcz_script.proofs.ReadingLaws.{same_script}
use Rattle.ipcz_script.proofs.reading.one_reading.Goals as goal

pub returns : goal.returns
returns c = record { law = same_script }
