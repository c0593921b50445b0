-- The kinds of atomic step that change the own node and no mailbox, each with the rule after it.
use Rattle.std.specs.Prelude.{◌≡◌, ◌<◌, ℕ, true, false, nat_lt, List, [], ◌∷◌, length, slice_index, None, refl, Bool}
use Rattle.std.proofs.Common.{arith, ap, ◌∙◌, sym, subst, inl, set}
use Rattle.std.proofs.lemmas.List.{set-get_or}
use Rattle.std.proofs.lemmas.Bool.Decides.{nat_tests}
use mathlib.Core.Option.{some}
use lib.ListN.{get_elem?}
use Rattle.atomic_table.specs.Table.{keeps}
use Rattle.ipcz_base.specs.declared.profile.Profile.TheVariants.{Printed, Wide}
use Rattle.ipcz_base.specs.declared.profile.Profile.{Profile}
use Rattle.ipcz_base.specs.declared.end.End.{End}
use Rattle.ipcz_base.specs.declared.item.Item.TheVariants.{Parcel}
use Rattle.ipcz_base.specs.declared.parcel.Parcel as parcels
use Rattle.ipcz_word.specs.Layout.{bits_of}
use Rattle.ipcz_node.specs.declared.act.Act.{Act}
use Rattle.ipcz_node.specs.Node.{Node}
use Rattle.ipcz_node.specs.Calls.{put_refusal, put_node, put_number}
use Rattle.ipcz_world.specs.declared.step.Step.{Step}
use Rattle.ipcz_world.specs.declared.step.Step.TheVariants as steps
use Rattle.ipcz_world.specs.declared.step.Reply.{Reply}
use Rattle.ipcz_world.specs.declared.step.Reply.TheVariants as replies
use Rattle.ipcz_world.specs.World.{World, node_at, word_at, set_node}
use Rattle.ipcz_world.specs.Turns.{after_act, turn_event, turn_lacks_serials, can_take}
use Rattle.ipcz_world.specs.Steps.{Effect, StepAny, unless, put_of, put_step, turn_step}
use Rattle.ipcz_world.specs.Books.{Books, advance, add_put}
use Rattle.ipcz_world.specs.Plain.{Plain}
use Rattle.ipcz_world.specs.Routes.{Routes, routes_after}
use Rattle.ipcz_world.specs.Lawful.{Lawful}
use Rattle.ipcz_world.specs.Ranks.{AreTurns}
use Rattle.ipcz_world.proofs.frames.Frames.{node-set_node, mail-set_node, size-set_node, count-set_node}
use Rattle.ipcz_world.proofs.Whole.{each_step_keeps_lawful, replies_plainly}
use Rattle.ipcz_rule.specs.declared.view.View.{View}
use Rattle.ipcz_rule.specs.declared.view.Part.{Part}
use Rattle.ipcz_rule.specs.Rule.{St, Mine, mailbox, Joined, Rules}
use Rattle.ipcz_world.specs.HeldEnds.{is_turn}
use Rattle.ipcz_world.proofs.lawful.LettingGo.{held_were_held}
use Rattle.ipcz_rule.specs.Deeds.{Deed, Does}
use Rattle.ipcz_rule.specs.Kinds.{DeedForm, Done, IsDeeds, IsTurns, KeepsEnds, IsKept}
use Rattle.ipcz_rule.proofs.Moved.{ruled_with, spelled, keeps_sources}
use Rattle.ipcz_rule.proofs.Inboxes.{inboxes_stay}
use Rattle.ipcz_rule.proofs.Touches.{NodeMoves, others_spell, own_spells, mails_show}
use Rattle.ipcz_world.specs.HeldEnds.{is_turn}
use Rattle.ipcz_world.proofs.lawful.StayingHeld.{calls_keep_held}

-- what a touch owes: the world after it, lawful with the books after it, and what is known of it
pub record Touched (w : World) (views : List View) (p p' : Part) (G : World → Books → Routes → Type 0) : Type 0 where
  pub world : World
  pub books : Books
  pub routes : Routes
  pub moves : NodeMoves w world p.node p'.state
  pub words : (i : ℕ) → word_at world i ≡ word_at w i
  pub claimed : world.claimed ≡ w.claimed
  pub joined : Joined views books
  pub lawful : Lawful world books routes
  pub known : G world books routes

-- a part that stands for the same node, has the same hand and history, and has probed the same mailboxes
pub record KeepsHands (p p' : Part) : Type 0 where
  pub node : p'.node ≡ p.node
  pub hand : p'.state.hand ≡ p.state.hand
  pub message : p'.message ≡ p.message
  pub probed : p'.probed ≡ p.probed
  pub history : p'.history ≡ p.history

-- touch: any word of the table stays, and the own node changes
touched : (count size id i : ℕ) (m : Mine) (p p' : Part) (v' : View) → m.0.parts ≡ p ∷ [] → v'.parts ≡ p' ∷ [] → (v'.announced ≡ None) × (v'.seen ≡ m.0.seen) × (v'.caller ≡ m.0.caller) → KeepsHands p p' →
    (s : St) (r : Rules count size s) → get_elem? s.views id ≡ some m.0 → (G : World → Books → Routes → Type 0) → Touched r.world (set s.views id v') p p' G →
    (r' : Rules count size record { words = set s.words i (slice_index s.words i); homes = s.homes; views = set s.views id v' }) × G r'.world r'.books r'.routes
touched count size id i m p p' v' is is' same_seen k s r at G t =
    let sp = spelled s r id m.0 p at is in
    let same : (j : ℕ) → slice_index s.words (mailbox r.world j) ≡ slice_index s.words (mailbox r.world j) = λ j. refl in
    let After : List ℕ → Type 0 = λ ws. (r' : Rules count size record { words = ws; homes = s.homes; views = set s.views id v' }) × G r'.world r'.books r'.routes in
    let rules : After s.words = ruled_with s r t.world t.books t.routes s.words s.homes id m.0 v' p p' at is is' (inl same_seen.1) (k.history, same_seen.2) (record {
      count = t.moves.count;
      size = t.moves.size;
      wide = refl;
      deep = refl;
      links = λ j l. r.shows.links j (rw (← t.moves.size) l) ∙ ap bits_of (sym (t.words j));
      sources = keeps_sources r.world t.world t.words r.sources;
      claims = ap (slice_index s.words) t.moves.size ∙ (r.shows.claims ∙ sym t.claimed);
      grows = let kept = t.claimed in omega (arith, kept);
      mail = mails_show s r.world t.world s.words p.node p'.state t.moves same r.owner r.shows;
      node = k.node;
      own = own_spells s r.world t.world s.words p.node p'.state t.moves same p p' refl k.node refl k.hand k.message k.probed sp;
      others = others_spell s r.world t.world s.words p.node p'.state t.moves same;
    }) (inboxes_stay s r t.world s.words id v' t.moves.count t.moves.size same_seen.0 (λ to l. refl) (λ from to lf lt e. inl e)) t.joined t.lawful G t.known in
    subst After (sym (set-get_or s.words i 0)) rules

-- a step that is deeds, as one that keeps the rule and ends
abbrev pub Kept : Bool → DeedForm
Kept all count size slots id m i f deeds told = IsKept all count size slots id m i f (λ n. []) told

pub any_kept : (all : Bool) (count size slots id : ℕ) (m : Mine) (i : ℕ) (f : ℕ → ℕ) (deeds : ℕ → List Deed) (told : ℕ → Mine → Type 0) → IsDeeds count size slots id m i f deeds told →
    Kept all count size slots id m i f deeds told
any_kept all count size slots id m i f deeds told may s r deep at small =
    let h = may s r deep at small in (h.0, h.1, h.2, (h.3.0, (h.3.1.1.0, (λ e. h.3.1.1.1 refl))), h.4)

-- touch, of a call
pub touches : (count size slots id i : ℕ) (m : Mine) (p p' : Part) (v' : View) (deeds : List Deed) → m.0.parts ≡ p ∷ [] → v'.parts ≡ p' ∷ [] → (v'.announced ≡ None) × (v'.seen ≡ m.0.seen) × (v'.caller ≡ m.0.caller) → KeepsHands p p' →
    ((s : St) (r : Rules count size s) → get_elem? s.views id ≡ some m.0 → p.node < r.world.count → node_at r.world p.node ≡ p.state →
    Touched r.world (set s.views id v') p p' (Done r.world r.books r.routes deeds)) →
    IsDeeds count size slots id m i (λ n. n) (λ n. deeds) (λ n m'. m' ≡ (v', m.1))
touches count size slots id i m p p' v' deeds is is' same_seen k owes s r deep at small =
    let sp = spelled s r id m.0 p at is in
    (v', keeps, tt, touched count size id i m p p' v' is is' same_seen k s r at (Done r.world r.books r.routes deeds) (owes s r at sp.inside sp.state), refl)

-- touch, of an act
pub touches_turn : (count size slots id i : ℕ) (m : Mine) (p p' : Part) (v' : View) (act : Act) → m.0.parts ≡ p ∷ [] → v'.parts ≡ p' ∷ [] → (v'.announced ≡ None) × (v'.seen ≡ m.0.seen) × (v'.caller ≡ m.0.caller) → KeepsHands p p' →
    ((s : St) (r : Rules count size s) → get_elem? s.views id ≡ some m.0 → p.node < r.world.count → node_at r.world p.node ≡ p.state →
    Touched r.world (set s.views id v') p p' (AreTurns r.world r.books r.routes ((p.node, act) ∷ []))) →
    IsTurns count size slots id m i (λ n. n) (λ n. (p.node, act) ∷ []) (λ n m'. m' ≡ (v', m.1))
touches_turn count size slots id i m p p' v' act is is' same_seen k owes s r deep at small =
    let sp = spelled s r id m.0 p at is in
    (v', keeps, tt, touched count size id i m p p' v' is is' same_seen k s r at (AreTurns r.world r.books r.routes ((p.node, act) ∷ [])) (owes s r at sp.inside sp.state), refl)

-- the node of a number is another
pub set_moves : (w : World) (n : ℕ) (x : Node) → NodeMoves w (set_node w n x) n x
set_moves w n x = record {
  count = count-set_node w n x;
  size = size-set_node w n x;
  here = node-set_node w n x n ∙ grind (arith, nat_tests);
  apart = λ j ne. node-set_node w n x j ∙ grind (arith, nat_tests, ne);
  mail = mail-set_node w n x;
}

turn_gives : (w : World) (n : ℕ) (act : Act) → n < w.count → turn_lacks_serials w n act ≡ false → turn_step w n act ≡ record { reply = replies.Turned (turn_event w n act); world = after_act w n act }
unfolding unless
turn_gives w n act inside lacks = let l : nat_lt n w.count ≡ true = grind (arith, nat_tests, inside) in rw (l, lacks) refl

put_gives : (profile : Profile) (w : World) (n : ℕ) (at : End) (bytes : List ℕ) (ends : List End) → n < w.count →
    put_refusal profile (node_at w n) at bytes ends ≡ None →
    put_step profile w n at (record { bytes = bytes; ends = ends }) ≡ record {
      reply = replies.Put (put_number (node_at w n) at);
      world = set_node w n (put_node (node_at w n) at (record { bytes = bytes; ends = ends }));
    }
unfolding unless
put_gives profile w n at bytes ends inside fine = let l : nat_lt n w.count ≡ true = grind (arith, nat_tests, inside) in rw (l, fine) refl

-- a turn that takes a possible act which doesn't want serials keeps the world lawful
turn_lawful : (w : World) (b : Books) (g : Routes) (n : ℕ) (act : Act) → Lawful w b g → n < w.count → can_take w n act ≡ true → turn_lacks_serials w n act ≡ false →
    Lawful (after_act w n act) (advance w b (steps.Turn n) (replies.Turned (turn_event w n act))) (routes_after w g (steps.Turn n) (replies.Turned (turn_event w n act)))
turn_lawful w b g n act lawful inside can lacks =
    let done = turn_gives w n act inside lacks in
    subst (λ (e : Effect). Lawful e.world (advance w b (steps.Turn n) e.reply) (routes_after w g (steps.Turn n) e.reply)) done
    (each_step_keeps_lawful w (turn_step w n act).world b g (steps.Turn n) (turn_step w n act).reply lawful (act, (λ l. can), inl (refl, refl)))

-- what a turn leaves: a lawful world, to which that turn leads
abbrev pub After : World → Books → Routes → ℕ → Act → World → Books → Routes → Type 0
After w b g n act u c h = Lawful u c h × AreTurns w b g ((n, act) ∷ []) u c h

pub turn_after : (w : World) (b : Books) (g : Routes) (n : ℕ) (act : Act) → Lawful w b g → n < w.count → can_take w n act ≡ true → turn_lacks_serials w n act ≡ false →
    After w b g n act (after_act w n act) (advance w b (steps.Turn n) (replies.Turned (turn_event w n act))) (routes_after w g (steps.Turn n) (replies.Turned (turn_event w n act)))
unfolding advance routes_after
turn_after w b g n act lawful inside can lacks = (turn_lawful w b g n act lawful inside can lacks, (record { node = inside; may = can; serials = lacks }, (refl, refl, refl)))

-- a put that isn't refused keeps the world lawful
module _ (profile : Profile) (w : World) (b : Books) (g : Routes) (n : ℕ) (at : End) (bytes : List ℕ) (ends : List End) where
  abbrev parcel : parcels.Parcel
  parcel = record { bytes = bytes; ends = ends }

  abbrev reply : Reply
  reply = replies.Put (put_number (node_at w n) at)

  abbrev IsDone : Type 0
  IsDone = Lawful (set_node w n (put_node (node_at w n) at parcel)) (add_put b at (Parcel parcel)) g × (put_number (node_at w n) at ≡ length (b.put at))

  -- by the step that it is
  done_by : (step : Step) → StepAny w step (put_step profile w n at parcel).reply (put_step profile w n at parcel).world →
      advance w b step reply ≡ add_put b at (Parcel parcel) → routes_after w g step reply ≡ g →
      (Plain b step reply (advance w b step reply) → put_number (node_at w n) at ≡ length (b.put at)) →
      Lawful w b g → n < w.count → put_refusal profile (node_at w n) at bytes ends ≡ None → IsDone
  done_by step is written routed counted lawful inside fine =
      let it = put_step profile w n at parcel in
      let done = put_gives profile w n at bytes ends inside fine in
      let kept = each_step_keeps_lawful w it.world b g step it.reply lawful is in
      let plain = replies_plainly w it.world b g step it.reply lawful is in (
        subst (Lawful (set_node w n (put_node (node_at w n) at parcel)) (add_put b at (Parcel parcel))) routed
            (subst (λ (c : Books). Lawful (set_node w n (put_node (node_at w n) at parcel)) c (routes_after w g step reply)) written
            (subst (λ (e : Effect). Lawful e.world (advance w b step e.reply) (routes_after w g step e.reply)) done kept)),
        counted (subst (λ (e : Effect). Plain b step e.reply (advance w b step e.reply)) done plain),
      )

pub put_lawful : (profile : Profile) (w : World) (b : Books) (g : Routes) (n : ℕ) (at : End) (bytes : List ℕ) (ends : List End) → Lawful w b g →
    n < w.count → put_refusal profile (node_at w n) at bytes ends ≡ None → IsDone profile w b g n at bytes ends
unfolding advance routes_after
put_lawful Printed w b g n at bytes ends = done_by Printed w b g n at bytes ends (steps.Put n at bytes ends) (inl (refl, refl)) refl refl (λ h. h.0)
put_lawful Wide w b g n at bytes ends = done_by Wide w b g n at bytes ends (steps.PutWide n at bytes ends) (inl (refl, refl)) refl refl (λ h. h.0)

-- a call lets no end go, and lets nobody have one that nobody had
pub call_keeps : (w v : World) (b : Books) (g : Routes) (step : Step) (reply : Reply) → Lawful w b g → is_turn step ≡ false → StepAny w step reply v → KeepsEnds true w v
call_keeps w v b g step reply lawful call is =
    ((λ i s held. held_were_held w v b g step reply i s lawful is held), (λ e i s held. calls_keep_held w v b g step reply i s lawful call is held))

-- so a call that is a step of the world is that deed
pub call_done : (w v : World) (b c : Books) (g h : Routes) (step : Step) (reply : Reply) → Lawful w b g → is_turn step ≡ false → StepAny w step reply v →
    c ≡ advance w b step reply → h ≡ routes_after w g step reply → Done w b g (Does step reply ∷ []) v c h
call_done w v b c g h step reply lawful call is books routes = ((v, is, (refl, books, routes)), call_keeps w v b g step reply lawful call is)

-- a put is
pub put_done : (profile : Profile) (w : World) (b : Books) (g : Routes) (n : ℕ) (at : End) (bytes : List ℕ) (ends : List End) → Lawful w b g → n < w.count →
    put_refusal profile (node_at w n) at bytes ends ≡ None →
    Done w b g (Does (put_of profile n at bytes ends) (replies.Put (put_number (node_at w n) at)) ∷ [])
    (set_node w n (put_node (node_at w n) at (record { bytes = bytes; ends = ends }))) (add_put b at (Parcel (record { bytes = bytes; ends = ends }))) g
unfolding is_turn advance routes_after
put_done Printed w b g n at bytes ends lawful inside fine =
    let e = put_gives Printed w n at bytes ends inside fine in
    call_done w (set_node w n (put_node (node_at w n) at (record { bytes = bytes; ends = ends }))) b (add_put b at (Parcel (record { bytes = bytes; ends = ends }))) g g
    (steps.Put n at bytes ends) (replies.Put (put_number (node_at w n) at)) lawful refl
    (inl (ap (λ (x : Effect). x.reply) (sym e), ap (λ (x : Effect). x.world) (sym e))) refl refl
put_done Wide w b g n at bytes ends lawful inside fine =
    let e = put_gives Wide w n at bytes ends inside fine in
    call_done w (set_node w n (put_node (node_at w n) at (record { bytes = bytes; ends = ends }))) b (add_put b at (Parcel (record { bytes = bytes; ends = ends }))) g g
    (steps.PutWide n at bytes ends) (replies.Put (put_number (node_at w n) at)) lawful refl
    (inl (ap (λ (x : Effect). x.reply) (sym e), ap (λ (x : Effect). x.world) (sym e))) refl refl
