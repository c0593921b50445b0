use Rattle.std.proofs.Common.{◌≡◌, ◌&&◌, Bool, true, false, Ok, Err, if◌then◌else◌, Option, refl, sym, ◌∙◌, ap}
use Rattle.ipcz_base.specs.declared.refusal.Refusal.TheVariants.{Stranger, Forged}
use Rattle.ipcz_router.specs.declared.sending.Sending.{Sending}
use Rattle.ipcz_router.specs.Bypass.{fits_accept_bypass, is_source}
use Rattle.ipcz_router.specs.Hearing.{hears, deafness, answer_to}
use Rattle.ipcz_router.proofs.router.Router.hear.Goals as goal

-- a message that doesn't fit is a stranger's, and one that fits is forged if its sender isn't the source
refused : (fits sent : Bool) (sending : Option Sending) →
    (if fits then (if sent then Ok sending else Err Forged) else Err Stranger) ≡
    (if fits && sent then Ok sending else Err (if fits then Forged else Stranger))
refused true true sending = refl
refused true false sending = refl
refused false sent sending = refl

pub returns-in-AcceptBypass-clause-sending : goal.returns-in-AcceptBypass-clause-sending
unfolding hears deafness answer_to
returns-in-AcceptBypass-clause-sending c =
    let r = c.args.self.now.router in
    c.accept_bypass.ensures.sending
    ∙ refused (fits_accept_bypass r c.in-AcceptBypass.old c.in-AcceptBypass.side) (is_source c.args.sender c.args.source) _
    ∙ ap (λ m. if hears r c.args.sender m c.args.source then Ok (answer_to r m) else Err (deafness r m)) (sym c.in-AcceptBypass.is)
