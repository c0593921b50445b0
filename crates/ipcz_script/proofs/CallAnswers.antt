-- What each call may be answered.
use Rattle.std.proofs.Common.{ℕ, Bool, true, false, List, Option, Some, None, sym, subst, inl, inr}
use Rattle.std.specs.Prelude.{if◌then◌else◌, nat_lt}
use Rattle.ipcz_base.specs.declared.profile.Profile.TheVariants.{Printed}
use Rattle.ipcz_base.specs.declared.end.End.{End}
use Rattle.ipcz_base.specs.declared.item.Item.{Item}
use Rattle.ipcz_base.specs.declared.item.Item.TheVariants.{Parcel, Mark, Gone}
use Rattle.ipcz_base.specs.declared.parcel.Parcel as parcels
use Rattle.ipcz_base.specs.declared.refusal.Refusal.{Refusal}
use Rattle.ipcz_base.specs.declared.refusal.Refusal.TheVariants as refusals
use Rattle.ipcz_node.specs.Node.{Found, terminal_of}
use Rattle.ipcz_node.specs.Calls.{close_refusal, get_refusal, put_refusal}
use Rattle.ipcz_world.specs.declared.step.Step.TheVariants as steps
use Rattle.ipcz_world.specs.declared.step.Reply.{Reply}
use Rattle.ipcz_world.specs.declared.step.Reply.TheVariants as replies
use Rattle.ipcz_world.specs.World.{World, node_at}
use Rattle.ipcz_world.specs.Steps.{first_step, get_reply, got_reply, unless}
use Rattle.ipcz_world.proofs.Vocabulary.{current_item}
use Rattle.ipcz_script.specs.declared.said.Said.{Said}
use Rattle.ipcz_script.specs.declared.said.Said.TheVariants as said
use Rattle.ipcz_script.specs.Sessions.{answer_to}
use Rattle.ipcz_script.proofs.OpenNames.{IsOpened, open-reply}

module _ (P : Said → Type 0) (refused : (why : Refusal) → P (said.Refused why)) where
  -- a step that may be refused
  stepped : (w v : World) (c : Bool) (o : Option Refusal) (reply : Reply) → P (answer_to reply) →
      P (answer_to (if c then unless w o (record { reply = reply; world = v }) else record
      { reply = replies.Refused refusals.Stranger; world = w }).reply)
  unfolding unless answer_to
  stepped w v true None reply h = h
  stepped w v true (Some why) reply h = refused why
  stepped w v false o reply h = refused refusals.Stranger

  pub open-answers : P said.Opened → (w : World) (n : ℕ) → P (answer_to (first_step w (steps.Open n)).reply)
  unfolding answer_to
  open-answers opened w n = go (first_step w (steps.Open n)).reply (open-reply w n)
    where
      go : (reply : Reply) → IsOpened reply → P (answer_to reply)
      go reply (inl h) = subst (λ r. P (answer_to r)) (sym h.1) opened
      go reply (inr h) = subst (λ r. P (answer_to r)) (sym h.1) (refused h.0)

  pub put-answers : ((k : ℕ) → P (said.Put k)) → (w : World) (n : ℕ) (e : End) (bytes : List ℕ) (ends : List End) →
      P (answer_to (first_step w (steps.Put n e bytes ends)).reply)
  unfolding first_step answer_to
  put-answers put w n e bytes ends = stepped w _ (nat_lt n w.count) (put_refusal Printed (node_at w n) e bytes ends) (replies.Put _) (put _)

  pub close-answers : ((k : ℕ) → P (said.Closed k)) → (w : World) (n : ℕ) (e : End) →
      P (answer_to (first_step w (steps.Close n e)).reply)
  unfolding first_step answer_to
  close-answers closed w n e = stepped w _ (nat_lt n w.count) (close_refusal (node_at w n) e) (replies.Closed _) (closed _)

  item-answers : ((k : ℕ) (p : parcels.Parcel) → P (said.Got k p)) → (k : ℕ) (o : Option Item) → P (answer_to (got_reply k o))
  unfolding got_reply answer_to
  item-answers got k None = refused refusals.Empty
  item-answers got k (Some (Parcel p)) = got k p
  item-answers got k (Some Mark) = refused refusals.PeerClosed
  item-answers got k (Some Gone) = refused refusals.PeerClosed

  found-answers : ((k : ℕ) (p : parcels.Parcel) → P (said.Got k p)) → (o : Option Found) → P (answer_to (get_reply o))
  unfolding get_reply answer_to
  found-answers got None = refused refusals.Stranger
  found-answers got (Some f) = item-answers got f.router.in_queue.current (current_item f.router.in_queue)

  pub get-answers : ((k : ℕ) (p : parcels.Parcel) → P (said.Got k p)) → (w : World) (n : ℕ) (e : End) →
      P (answer_to (first_step w (steps.Get n e)).reply)
  unfolding first_step
  get-answers got w n e = stepped w _ (nat_lt n w.count) (get_refusal (node_at w n) e) (get_reply (terminal_of (node_at w n) e))
      (found-answers got (terminal_of (node_at w n) e))
