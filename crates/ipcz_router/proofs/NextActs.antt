-- The first act of an open terminal where nothing decays.
use Rattle.std.proofs.Common.{◌≡◌, ◌&&◌, Bool, true, false, Option, Some, None, is_none, refl, if◌then◌else◌}
use Rattle.ipcz_edge.specs.Edge.{Edge, edge_decays, choose, can_finish}
use Rattle.ipcz_router.specs.declared.act.RouterAct.TheVariants.{SendOut, SendIn, Discard, FinishOut, FinishIn, Leave, Mark, Wake, Claim}
use Rattle.ipcz_router.specs.declared.act.RouterAct.TheVariants.{Lock, Begin, Retire, Rest}
use Rattle.ipcz_router.specs.Router.{Router, is_terminal}
use Rattle.ipcz_router.specs.ActTable.{is_possible, next_act}

and_false : (b : Bool) → (b && false) ≡ false
and_false true = refl
and_false false = refl

-- behind a send outward it is a mark, a wake or a rest
pub terminal_next : (r : Router) → is_terminal r ≡ true → r.closed ≡ false → edge_decays r.outward ≡ false →
    is_possible r SendOut ≡ false → next_act r ≡ (if is_possible r Mark then Mark else if is_possible r Wake then Wake else Rest)
unfolding is_possible next_act choose can_finish
terminal_next r terminal opened whole sent = go r.inward refl terminal
  where
    go : (o : Option Edge) → r.inward ≡ o → is_none o ≡ true →
        next_act r ≡ (if is_possible r Mark then Mark else if is_possible r Wake then Wake else Rest)
    go (Some e) is t = cc
    go None is t =
        let send_in : is_possible r SendIn ≡ false = rw is (and_false _) in
        let discard : is_possible r Discard ≡ false = rw (is, opened) refl in
        let finish_out : is_possible r FinishOut ≡ false = rw whole refl in
        let finish_in : is_possible r FinishIn ≡ false = rw is refl in
        let leave : is_possible r Leave ≡ false = rw is refl in
        let claim : is_possible r Claim ≡ false = rw is refl in
        let lock : is_possible r Lock ≡ false = rw (is, opened) refl in
        let begin : is_possible r Begin ≡ false = rw is refl in
        let retire : is_possible r Retire ≡ false = rw (is, opened) refl in
        rw (sent, send_in, discard, finish_out, finish_in, leave, claim, lock, begin, retire) refl
