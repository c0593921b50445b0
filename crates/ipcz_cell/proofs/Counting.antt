-- The steps on the claim count.
use Rattle.std.specs.Prelude.{not, None, ◌≡◌, ◌≤◌, ℕ, List, [], ◌∷◌, Option, MatchBool, eqb, Bool}
use Rattle.std.proofs.Common.{ap, sym, subst, ◌∙◌, refl, arith}
use Rattle.ipcz_router.specs.declared.act.Answer.TheVariants as answers
use Rattle.ipcz_router.specs.declared.act.RouterAct.TheVariants as router_acts
use Rattle.ipcz_node.specs.declared.act.Act.TheVariants as acts
use Rattle.ipcz_world.proofs.Whole.{lists_have_lengths}
use Rattle.ipcz_rule.specs.Rule.{saw}
use Rattle.ipcz_rule.specs.Batches.{BatchMine}
use Rattle.ipcz_rule.specs.Steps.{act_part}
use Rattle.ipcz_rule.proofs.BatchPlainKinds.{loads_for_claim}
use Rattle.ipcz_rule.proofs.BatchedLaws.{counts_reached}
use Rattle.ipcz_rule.proofs.Lasts.{count_is}
use Rattle.ipcz_cell.specs.TableNames.{TableName}
use Rattle.ipcz_cell.specs.CellStates.{part_in, change_part}
use Rattle.ipcz_cell.specs.Outcomes.{Tells, IsPicked}
use Rattle.ipcz_cell.specs.Claims.{AreReached, CanClaim, counted}
use Rattle.atomic_table.specs.Seated.{TableId}
use Rattle.ipcz_base.specs.declared.message.Message.{Message}
use Rattle.ipcz_router.specs.declared.act.Answer.{Answer}
use Rattle.ipcz_node.specs.Node.{Node}
use Rattle.ipcz_node.specs.Acts.{commit}
use Rattle.ipcz_cell.specs.Cells.{AreSound, IsCell}
use Rattle.ipcz_cell.proofs.Keeping.{router_act_keeps, act_state}
use Rattle.ipcz_cell.proofs.Seating.{may_by, reseated, touched_cell}
use Rattle.ipcz_cell.specs.Seats.{Keeps}

-- a step at the claim count tells that what it finds is at most the number of words, and at least each count that was seen
pub counts_told : (all : Bool) (count size slots id : ℕ) (m : BatchMine) (f : ℕ → ℕ) (then : ℕ → BatchMine → Type 0) → Keeps all count size slots id m size f then →
    Keeps all count size slots id m size f (λ n m'. (n ≤ size) × AreReached size m.0.seen n × then n m')
counts_told all count size slots id m f then may s b deep at small =
    let h = may s b deep at small in
    let most = (lists_have_lengths b.rules.world b.rules.books b.rules.routes b.rules.lawful).claimed in
    let is = count_is count size s b in
    let size_is = b.rules.words in
    (h.0, h.1, h.2, h.3, (omega (arith, most, is, size_is), (λ k earlier e. (counts_reached count size (not all) s b id m.0 k earlier at e).0), h.4))

pub count_may : (t : TableName) (id word serial : ℕ) (m : BatchMine) (told : Tells) → IsPicked told (counted t.size serial) → m.0.parts ≡ part_in m.0 ∷ [] → CanClaim (part_in m.0).state serial → t.size ≡ word →
    Keeps t.reuses t.count t.size t.id.slots id m word (λ n. n) (told m)
count_may t id word serial m told picked whole can at =
    may_by t.reuses t.count t.size t.id.slots id m word (λ n. n) told (counted t.size serial) picked
    (subst (λ (i : ℕ). Keeps t.reuses t.count t.size t.id.slots id m i (λ n. n) (counted t.size serial m)) at
    (counts_told t.reuses t.count t.size t.id.slots id m (λ n. n) (λ n m'. MatchBool (eqb n t.size) (m' ≡ (change_part (act_part (acts.Router serial router_acts.Claim) answers.NoWord) (saw t.size n m.0), m.1)) (m' ≡ (saw t.size n m.0, m.1)))
    (loads_for_claim (not t.reuses) t.reuses t.count t.size t.id.slots id m (part_in m.0) serial can.0 whole can.1)))

module _ (t : TableName) (n : Node) (hand : Option Message) (tos senders : List ℕ) (id : TableId) (me : BatchMine) (was : IsCell t n hand tos senders id me) (id' : TableId) (me' : BatchMine) (same : id' ≡ id) (sound : AreSound t.count t.size me'.0) where
  -- a cell after loads, and then a claim
  pub claimed_cell : (n' : Node) (serial : ℕ) (seen : List (ℕ × ℕ)) (answer : Answer) → me' ≡ (change_part (act_part (acts.Router serial router_acts.Claim) answer) (record { parts = me.0.parts; seen = seen; announced = None; caller = me.0.caller }), me.1) →
      n' ≡ commit n (acts.Router serial router_acts.Claim) answer → IsCell t n' hand tos senders id' me'
  claimed_cell n' serial seen answer done e =
      let a = acts.Router serial router_acts.Claim in
      let p' = act_part a answer (part_in me.0) in
      let v' = change_part (act_part a answer) (record { parts = me.0.parts; seen = seen; announced = None; caller = me.0.caller }) in
      let state : p'.state ≡ n' = act_state a answer (part_in me.0) ∙ (ap (λ (z : Node). commit z a answer) was.seated.state ∙ sym e) in
      touched_cell t n n' hand tos senders id id' me me' p' v' was
      (reseated t n id me was.seated n' id' me' p' v' me.1 same done refl state sound) done refl (router_act_keeps serial router_acts.Claim answer (part_in me.0))
