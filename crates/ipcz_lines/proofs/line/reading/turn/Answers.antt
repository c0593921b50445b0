use Rattle.std.proofs.Common.{get_or, ◌≡◌, ◌∷◌, ℕ, List, sym, ap, arith, rules}
use Rattle.std.specs.Fmt.{decimal}
use Rattle.ipcz_lines.specs.Lines.{IsTurn, line_text, spaced}
use Rattle.ipcz_lines.proofs.Lacking.{ends_with, middle_is, reads_none}
use Rattle.ipcz_lines.proofs.Forms.{turned_only}
use Rattle.ipcz_lines.proofs.line.reading.turn.Goals as goal
use Rattle.ipcz_lines.proofs.line.reading.turn.Goals.{in_default-via-then-first-lt2, in_default-via-else-first-lt2+in-110+in_default-1}
use Rattle.ipcz_lines.proofs.line.reading.turn.Goals.{in_default-via-else-first-lt2+in_default-1}

pub returns-in_err-node-in-110 : goal.returns-in_err-node-in-110
returns-in_err-node-in-110 c =
    reads_none line_text IsTurn (spaced c.args.first.now c.args.bytes.now) _ c.from_residual.ensures (λ x h e.
    let s = turned_only x c.args.first.now c.args.bytes.now c.requires.one_word h e in
    c.in_err-node-in-110.ensures s.node s.is_node (middle_is 110 58 (decimal s.node) c.args.first.now s.named))

pub returns-in_err-event-in-110 : goal.returns-in_err-event-in-110
returns-in_err-event-in-110 c =
    reads_none line_text IsTurn (spaced c.args.first.now c.args.bytes.now) _ c.from_residual-in_err-event-in-110.ensures (λ x h e.
    let s = turned_only x c.args.first.now c.args.bytes.now c.requires.one_word h e in
    c.in_err-event-in-110.ensures s.event s.is_event s.text)

pub returns-in_default : goal.returns-in_default
returns-in_default c =
    λ x h e.
    let s = turned_only x c.args.first.now c.args.bytes.now c.requires.one_word h e in
    let first : get_or c.args.first.now 0 0 ≡ 110 = ap (λ (l : List ℕ). get_or l 0 0) (sym s.named) in
    let last = ends_with (110 ∷ decimal s.node) 58 c.args.first.now s.named in
    elim c.in_default.branch [
      | in_default-via-then-first-lt2 w ↦ search rules
      | in_default-via-else-first-lt2+in-110+in_default-1 w ↦ omega arith
      | in_default-via-else-first-lt2+in_default-1 w ↦ omega arith
    ]
