use Rattle.std.proofs.Common.{◌∙◌, ap}
use Rattle.serde_json.specs.View.{view}
use Rattle.ipcz_script.specs.ReadBack.{lacks}
use Rattle.ipcz_events.proofs.JsonLines.{text_lacks}
use Rattle.ipcz_events.proofs.entry_lines.text_of.Goals as goal

pub returns : goal.returns
returns c =
    let exact = c.in_ok-text.ensures.text c.requires.whole in
    record {
      exact = exact;
      line = ap (lacks 10) exact ∙ text_lacks (view c.args.value.now);
      reads = (c.in_ok-text.ensures.utf8, c.in_ok-text.ensures.reads_back c.requires.flat);
    }
