use Rattle.std.proofs.Common.{◌≡◌, ◌≤◌, ◌++◌, ◌∷◌, [], ap, subst, sym}
use Rattle.serde_json.specs.Data.{depth}
use Rattle.serde_json.specs.Read.{max_depth}
use Rattle.serde_json.specs.Written.{has_float}
use Rattle.ipcz_events.specs.Written.{IsTextOf}
use Rattle.ipcz_events.proofs.JsonLines.{header_flat}
use Rattle.ipcz_events.proofs.entry_lines.push_header.Goals as goal

pub text_of-requires : goal.text_of-requires
text_of-requires c = record {
  whole = ap has_float c.in_ok-value.ensures;
  flat = subst (λ d. depth d ≤ max_depth) (sym c.in_ok-value.ensures) (header_flat c.args.nodes c.args.words c.args.seed);
}

pub returns : goal.returns
returns c = (
  c.in_ok-line.line.items,
  subst (IsTextOf c.in_ok-line.line.items) c.in_ok-value.ensures c.in_ok-line.ensures,
  subst (λ t. c.push_line.new.out.items ≡ c.args.out.now.items ++ (t ++ 10 ∷ [])) c.as_slice.ensures.value c.in_ok-push_line.ensures,
)
