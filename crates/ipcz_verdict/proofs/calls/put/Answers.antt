use Rattle.std.proofs.Common.{◌∙◌, sym, ap₂}
use Rattle.ipcz_promise.specs.Promise.{first_refusal}
use Rattle.ipcz_verdict.specs.Desks.{account_of}
use Rattle.ipcz_verdict.proofs.Deciding.{none_then, put_done, put_miscounted, put_refused, some_then}
use Rattle.ipcz_verdict.proofs.calls.put.Goals as goal

pub returns-then-is_some-clause-decided : goal.returns-then-is_some-clause-decided
returns-then-is_some-clause-decided c = put_refused c.args.profile c.args.portals.now c.args.portals.now c.args.node c.args.at c.args.parcel c.args.number
    (some_then c.first_refusal.result (sym c.is_some.ensures ∙ c.if-is_some.true)
    (c.first_refusal.ensures ∙ ap₂ (first_refusal c.args.profile (account_of c.args.portals.now) c.args.node c.args.at) c.as_slice-bytes.ensures c.as_slice-ends.ensures))

pub returns-then-put_count-number-clause-decided : goal.returns-then-put_count-number-clause-decided
returns-then-put_count-number-clause-decided c = put_miscounted c.args.profile c.args.portals.now c.args.portals.now c.args.node c.args.at c.args.parcel c.args.number
    (λ e. c.if-put_count-number.true (c.put_count.ensures ∙ e))

pub returns-clause-decided : goal.returns-clause-decided
returns-clause-decided c = put_done c.args.profile c.args.portals.now c.send.new.portals c.args.node c.args.at c.args.parcel c.args.number
    (sym (c.first_refusal.ensures ∙ ap₂ (first_refusal c.args.profile (account_of c.args.portals.now) c.args.node c.args.at) c.as_slice-bytes.ensures c.as_slice-ends.ensures)
    ∙ none_then c.first_refusal.result (sym c.is_some.ensures ∙ c.if-is_some.false))
    (sym c.put_count.ensures ∙ c.if-put_count-number.false) c.in_ok-send.ensures
