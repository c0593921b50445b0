use Rattle.std.proofs.Common.{◌≡◌, ◌∷◌, Some, ap, arith, codes}
use Rattle.std.proofs.lemmas.Grind.{common_steps}
use Rattle.std.specs.Fmt.{decimal}
use Rattle.ipcz_events.specs.declared.naming.Named.TheVariants as named
use Rattle.ipcz_events.proofs.Names.{names_one}
use Rattle.ipcz_events.proofs.naming.named_by.Goals as goal

pub returns-in_ok-node_in-in-look-clause-only : goal.returns-in_ok-node_in-in-look-clause-only
returns-in_ok-node_in-in-look-clause-only c =
    let here : c.args.first.now ≡ codes "look" = grind (arith, common_steps) in
    let sender = c.in_ok-node_in-in-look.ensures in
    λ name is bits.
    ap Some (names_one c.args.first.now c.args.rest.now (named.Look c.in_ok-node_in-in-look.field-0) name sender.0 bits (here, sender.1) is)

pub returns-in_ok-node_in-in-post-clause-only : goal.returns-in_ok-node_in-in-post-clause-only
returns-in_ok-node_in-in-post-clause-only c =
    let here : c.args.first.now ≡ codes "post" = grind (arith, common_steps) in
    let to = c.in_ok-node_in-in-post.ensures in
    λ name is bits.
    ap Some (names_one c.args.first.now c.args.rest.now (named.Post c.in_ok-node_in-in-post.field-0) name to.0 bits (here, to.1) is)

pub returns-in_ok-end_in-in-close-clause-some : goal.returns-in_ok-end_in-in-close-clause-some
returns-in_ok-end_in-in-close-clause-some c =
    let here : c.args.first.now ≡ codes "close" = grind (arith, common_steps) in
    let end = c.in_ok-end_in-in-close.ensures in
    ((here, end.1), end.0)

pub returns-in_ok-end_in-in-close-clause-only : goal.returns-in_ok-end_in-in-close-clause-only
returns-in_ok-end_in-in-close-clause-only c =
    let here : c.args.first.now ≡ codes "close" = grind (arith, common_steps) in
    let end = c.in_ok-end_in-in-close.ensures in
    λ name is bits.
    ap Some (names_one c.args.first.now c.args.rest.now (named.Close c.in_ok-end_in-in-close.field-0) name end.0 bits (here, end.1) is)

pub returns-in_ok-told_by-in-114-clause-only : goal.returns-in_ok-told_by-in-114-clause-only
returns-in_ok-told_by-in-114-clause-only c =
    let here : c.args.first.now ≡ 114 ∷ decimal c.in_ok-number-in-114.field-0 = grind (arith, common_steps) in
    λ name is bits.
    ap Some (names_one c.args.first.now c.args.rest.now (named.Router c.in_ok-number-in-114.field-0 c.in_ok-told_by-in-114.field-0) name
    c.in_ok-number-in-114.ensures.0 bits (here, c.in_ok-told_by-in-114.ensures.some) is)
