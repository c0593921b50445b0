use Rattle.std.proofs.Common.{◌≡◌, ◌∙◌, ap, sym, subst, refl, Bool, true, false, Some}
use Rattle.std.specs.Prelude.{unwrap_or}
use Rattle.ipcz_base.specs.declared.message.Message.{Message}
use Rattle.ipcz_node.specs.Deliveries.{IsTakenAtOnce}
use Rattle.ipcz_world.specs.Mailing.{as_marked, taken_up}
use Rattle.ipcz_world.specs.Turns.{hand_message}
use Rattle.ipcz_world.specs.declared.mail.Mail.TheVariants.{Hand}
use Rattle.ipcz_world.proofs.mailboxes.hand_at.Goals as goal

-- a message that was left in hand is in hand, whatever the flag
in_hand : (marked : Bool) (m : Message) → hand_message (as_marked marked (Hand m)) ≡ Some m
unfolding as_marked taken_up hand_message
in_hand true m = refl
in_hand false m = refl

pub returns-then-marked-clause-tried : goal.returns-then-marked-clause-tried
unfolding as_marked taken_up hand_message
returns-then-marked-clause-tried c m source e =
    subst (λ x. IsTakenAtOnce c.args.node.now c.args.from x source c.deliver_at_once.result c.deliver_at_once.new.self)
    (ap (λ o. unwrap_or o m) (sym (λ j. hand_message (as_marked (c.if-marked.true j) (c.in-Full.is j))) ∙ e))
    (c.deliver_at_once.ensures.tried source)

pub returns-in-Hand-clause-tried : goal.returns-in-Hand-clause-tried
returns-in-Hand-clause-tried c m source e =
    subst (λ x. IsTakenAtOnce c.args.node.now c.args.from x source c.deliver_at_once-in-Hand.result c.deliver_at_once-in-Hand.new.self)
    (ap (λ o. unwrap_or o m) (sym (in_hand c.args.marked c.in-Hand.message) ∙ sym (λ j. hand_message (as_marked c.args.marked (c.in-Hand.is j))) ∙ e))
    (c.deliver_at_once-in-Hand.ensures.tried source)
