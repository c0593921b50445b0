use Rattle.std.proofs.Common.{◌∷◌}
use Rattle.std.specs.Fmt.{decimal}
use Rattle.ipcz_lines.specs.LineParts.{IsLink, link_text}
use Rattle.ipcz_lines.proofs.Lacking.{not_parted, parts_agree, reads_none}
use Rattle.ipcz_lines.proofs.Forms.{node_lacks_point, peripheral_only}
use Rattle.ipcz_lines.proofs.line.words.peripheral.Goals as goal

pub returns-in_err-first : goal.returns-in_err-first
returns-in_err-first c =
    reads_none link_text IsLink (80 ∷ c.args.bytes.now) _ c.from_residual.ensures (λ x h e.
    let p = peripheral_only x c.args.bytes.now h e in
    not_parted 46 (decimal p.node) (decimal p.serial) c.args.bytes.now c.in_err-first.ensures.none p.text)

pub returns-in_err-node : goal.returns-in_err-node
returns-in_err-node c =
    reads_none link_text IsLink (80 ∷ c.args.bytes.now) _ c.from_residual-in_err-node.ensures (λ x h e.
    let p = peripheral_only x c.args.bytes.now h e in
    c.in_err-node.ensures p.node p.is_node
    (parts_agree 46 (decimal p.node) (decimal p.serial) c.in_ok-first.first.now c.in_ok-first.second.now c.args.bytes.now
    (node_lacks_point p.node p.is_node) c.in_ok-first.ensures.first c.in_ok-first.ensures.joined p.text).0)

pub returns-in_err-number : goal.returns-in_err-number
returns-in_err-number c =
    reads_none link_text IsLink (80 ∷ c.args.bytes.now) _ c.from_residual-in_err-number.ensures (λ x h e.
    let p = peripheral_only x c.args.bytes.now h e in
    c.in_err-number.ensures p.serial p.is_serial
    (parts_agree 46 (decimal p.node) (decimal p.serial) c.in_ok-first.first.now c.in_ok-first.second.now c.args.bytes.now
    (node_lacks_point p.node p.is_node) c.in_ok-first.ensures.first c.in_ok-first.ensures.joined p.text).1)
