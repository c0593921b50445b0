-- In a quiet world each node is idle, so that no node is the next one that has an act.
use Rattle.std.specs.Prelude.{◌≡◌, ◌≤◌, ◌<◌, ℕ, Bool, true, false, not, ◌&&◌, None, refl}
use Rattle.std.proofs.Common.{arith, ap, ◌∙◌, inl, inr}
use Rattle.ipcz_base.specs.Indexed.{place_at}
use Rattle.ipcz_node.specs.declared.act.Act.TheVariants as acts
use Rattle.ipcz_node.specs.Node.{Node}
use Rattle.ipcz_world.proofs.Vocabulary.{first_number, has_mail_for, are_empty, is_quiet, Mail, is_clear, is_full, is_idle, next_at, seen_at, IsQuiet}
use Rattle.ipcz_world.proofs.Vocabulary.{IsRegular}
use Rattle.ipcz_node.specs.Acts.{next, node_turn}
use Rattle.ipcz_world.specs.declared.mail.Mail.TheVariants as mails
use Rattle.ipcz_world.specs.World.{World, mail_at, node_at}
use Rattle.ipcz_world.specs.Visiting.{IsNextBusy}
use Rattle.ipcz_world.proofs.OwnTurns.{idle_own}
use Rattle.ipcz_world.proofs.code.SeenMail.{no_destination, no_sender}
use Rattle.ipcz_world.proofs.facts.Tests.{none_is}

not_full : (m : Mail) → is_clear m ≡ true → is_full m ≡ false
unfolding is_clear is_full
not_full mails.Empty h = refl
not_full (mails.Full m) h = cc
not_full (mails.Hand m) h = cc

-- what is said of a quiet node
nothing-in-hand : (n : Node) → is_quiet n ≡ true → n.hand ≡ None
unfolding is_quiet
nothing-in-hand n h = none_is n.hand (grind (arith, h))

no-mail : (n : Node) → is_quiet n ≡ true → not (are_empty n.outboxes) ≡ false
unfolding is_quiet
no-mail n h = grind (arith, h)

module _ (w : World) (regular : IsRegular w) (quiet : IsQuiet w) (n : ℕ) (l : n < w.count) where
  count_is : (node_at w n).count ≡ w.count
  count_is = (regular.sound n l).count_is

  sender : first_number (λ i. place_at false (seen_at w n).full i) 0 (node_at w n).count ≡ None
  sender = ap (first_number (λ i. place_at false (seen_at w n).full i) 0) count_is ∙
      no_sender w n regular.lengths.few (λ k. not_full (mail_at w k) (quiet.mail k))

  destination : first_number (λ i. has_mail_for (node_at w n) i && place_at false (seen_at w n).empty i) 0 (node_at w n).count ≡ None
  destination = ap (first_number (λ i. has_mail_for (node_at w n) i && place_at false (seen_at w n).empty i) 0) count_is ∙
      no_destination w n (no-mail (node_at w n) (quiet.nodes n l))

  idle : next_at w n ≡ acts.Idle
  unfolding next_at next node_turn
  idle = rw (nothing-in-hand (node_at w n) (quiet.nodes n l), sender, destination) (idle_own (node_at w n) (quiet.nodes n l))

  is-idle : is_idle (next_at w n) ≡ true
  unfolding is_idle
  is-idle = ap is_idle idle

both : (c : Bool) → c ≡ true → c ≡ false → ⊥
both c a z = cc

pub quiet-none_busy : (w : World) (from n : ℕ) → IsRegular w → from ≤ w.count → IsQuiet w → IsNextBusy w from n → ⊥
quiet-none_busy w from n regular low quiet (inl busy) =
    both (is_idle (next_at w n)) (is-idle w regular quiet n busy.within) busy.acts
quiet-none_busy w from n regular low quiet (inr (before, busy)) =
    both (is_idle (next_at w n)) (is-idle w regular quiet n (omega (arith, busy.within, low))) busy.acts
