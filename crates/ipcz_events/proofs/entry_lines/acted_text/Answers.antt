use Rattle.std.proofs.Common.{◌∙◌, ◌≤◌, ap, subst, sym}
use Rattle.serde_json.specs.Data.{depth}
use Rattle.serde_json.specs.Read.{max_depth}
use Rattle.serde_json.specs.Written.{has_float}
use Rattle.ipcz_events.specs.declared.entry.Entry.TheVariants as entries
use Rattle.ipcz_events.specs.Written.{IsTextOf}
use Rattle.ipcz_events.proofs.JsonLines.{entry_flat, entry_whole}
use Rattle.ipcz_events.proofs.entry_lines.acted_text.Goals as goal

pub text_of-requires : goal.text_of-requires
text_of-requires c = record {
  whole = ap has_float c.in_ok-value.ensures ∙ entry_whole (entries.Acted c.args.node c.args.event.now);
  flat = subst (λ d. depth d ≤ max_depth) (sym c.in_ok-value.ensures) (entry_flat (entries.Acted c.args.node c.args.event.now));
}

pub returns : goal.returns
returns c = subst (IsTextOf c.in_ok-text.text.items) c.in_ok-value.ensures c.in_ok-text.ensures
