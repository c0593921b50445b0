-- From what opens, calls and acts keep, to what holds after every run.
use Rattle.std.specs.Prelude.{◌≡◌, ◌⊎◌, ◌<◌, ℕ, Bool, true, false, nat_lt, List, [], ◌∷◌, refl}
use Rattle.std.proofs.Common.{arith, subst, sym, inl, inr}
use Rattle.std.proofs.lemmas.Bool.Decides.{nat_tests}
use Rattle.ipcz_world.proofs.Vocabulary.{End, Refusal, Act, Reply, World, can_take, after_act, unless, Books, at_end, Records, Inv, Node, Profile}
use Rattle.ipcz_world.proofs.Vocabulary.{Printed, Wide, Step, new_world, turn_lacks_serials, turn_event, Effect, open_step, close_step, turn_step}
use Rattle.ipcz_world.proofs.Vocabulary.{StepAny, no_books, advance, after_turn, Routes, routes_after, routes_after_turn, routes_of, Lawful}
use Rattle.ipcz_world.proofs.Vocabulary.{StepKeepsLawful, AreFlagged, FlagsAgree}
use Rattle.ipcz_base.specs.declared.refusal.Refusal.TheVariants as refusals
use Rattle.ipcz_world.specs.declared.step.Step.TheVariants as steps
use Rattle.ipcz_world.specs.declared.step.Reply.TheVariants as replies
use Rattle.ipcz_world.specs.Steps.{put_of, put_step, get_step}
use Rattle.ipcz_world.specs.Routes.{first_routes}
use Rattle.ipcz_world.specs.Places.{in_places, unread_weight}
use Rattle.ipcz_world.specs.Laws.{KeepsLinks, WordLaw}
use Rattle.ipcz_world.specs.Lawful.{RunAny, IsWithinLimits, IsReached, Headline}
use Rattle.ipcz_world.specs.WorldLaws.{StartsLawful, LinksStay, HeadlineHolds, NothingStrays}
use Rattle.ipcz_world.proofs.lawful.LinkLaws.{link_law, bypass_law}
use Rattle.ipcz_world.proofs.lawful.WordLaws.{word_law}
use Rattle.ipcz_world.proofs.lawful.LengthLaws.{length_law}
use Rattle.ipcz_world.proofs.frames.StrayLaws.{stray_law}
use Rattle.ipcz_world.proofs.acts.Seeing.{stays-same}
use Rattle.ipcz_world.proofs.runs.NodeSteps.{IsKept, kept-step}
use Rattle.ipcz_world.proofs.lawful.StepWakers.{IsOwing, step_owing, step_came}
use Rattle.ipcz_world.proofs.lawful.Tracking.{Came}
use Rattle.ipcz_world.specs.Owed.{GoneUnread}
use Rattle.ipcz_world.proofs.lawful.StartWakers.{owing-start}
use Rattle.ipcz_world.specs.Settling.{IsBounded}
use Rattle.ipcz_world.specs.Steps.{AnyAct}
use Rattle.ipcz_world.proofs.runs.BoundedSteps.{bounded-step}
use Rattle.ipcz_world.proofs.runs.Starting.{starts_bounded}
use Rattle.ipcz_world.proofs.runs.FlaggedSteps.{flagged-step, flagged-new}
use Rattle.ipcz_world.proofs.runs.FlagsAgree.{agreed-step, agreed-start}

-- the laws, from the invariant
pub lawful_by : (w : World) (b : Books) (g : Records) (h : Routes) → Inv w b g → routes_of g ≡ h → AreFlagged w → FlagsAgree w →
    IsOwing w → GoneUnread w b → IsBounded w → Lawful w b h
lawful_by w b g h law e flagged agreed owing unread bounded = record {
  records = g;
  routes = e;
  inv = law;
  conserved = law.conserved;
  held_once = law.held_once;
  link_law = link_law w b g law;
  bypass_law = bypass_law w b g law;
  word_law = subst (WordLaw w) e (word_law w b g law);
  flagged = flagged;
  agreed = agreed;
  wakers = owing.wakers;
  ranked = owing.ranked;
  unread = unread;
  bounded = bounded;
}

-- the sentence, from the laws
pub headline_by : (w : World) (b : Books) (g : Routes) → Lawful w b g → Headline w b g
headline_by w b g law = record {
  locked_once = law.link_law.one_holder;
  locked_stable = law.link_law.held_stable;
  bypassed_locked = law.bypass_law;
  free_joins = law.link_law.free;
  got_prefix = law.conserved.prefix;
  one_place = λ e h. subst (λ z. in_places (at_end e h) z w ≡ unread_weight h b e) law.routes (law.conserved.exact e h);
  dropped_by_sinks = law.conserved.gone_closed;
}

-- a world with books and routes that has records for which the invariant holds
pub record Started (w : World) (b : Books) (h : Routes) : Type 0 where
  pub records : Records
  pub inv : Inv w b records
  pub routes : routes_of records ≡ h

-- such a world, in which the words of links of before are those of the same links
pub record Kept (g : Records) (w : World) (b : Books) (h : Routes) : Type 0 where
  pub records : Records
  pub inv : Inv w b records
  pub routes : routes_of records ≡ h
  pub stays : KeepsLinks (routes_of g) h

-- an effect of a step that keeps all this
abbrev pub KeptBy : World → Books → Records → Step → Effect → Type 0
KeptBy w b g step done = Kept g done.world (advance w b step done.reply) (routes_after w (routes_of g) step done.reply)

-- the invariant is kept by each call of a caller, and by each act that a turn may take
pub record StepsKeep : Type 0 where
  pub opens : (w : World) (b : Books) (g : Records) (n : ℕ) → Inv w b g → KeptBy w b g (steps.Open n) (open_step w n)
  pub puts : (profile : Profile) (w : World) (b : Books) (g : Records) (n : ℕ) (at : End) (bytes : List ℕ) (ends : List End) → Inv w b g →
      KeptBy w b g (put_of profile n at bytes ends) (put_step profile w n at (record { bytes = bytes; ends = ends }))
  pub gets : (w : World) (b : Books) (g : Records) (n : ℕ) (at : End) → Inv w b g → KeptBy w b g (steps.Get n at) (get_step w n at)
  pub closes : (w : World) (b : Books) (g : Records) (n : ℕ) (at : End) → Inv w b g → KeptBy w b g (steps.Close n at) (close_step w n at)
  pub takes : (w : World) (b : Books) (g : Records) (n : ℕ) (act : Act) → Inv w b g → n < w.count → can_take w n act ≡ true →
      turn_lacks_serials w n act ≡ false →
      Kept g (after_act w n act) (after_turn w b n (turn_event w n act)) (routes_after_turn w (routes_of g) n (turn_event w n act))

-- a turn answers what it does, or a refusal: of a number that is no node's, or for want of serials
pub turn_reply : (w : World) (n : ℕ) (act : Act) → (((turn_step w n act).reply ≡ replies.Turned (turn_event w n act)) ×
    ((turn_step w n act).world ≡ after_act w n act) × (turn_lacks_serials w n act ≡ false) × (nat_lt n w.count ≡ true)) ⊎
    ((why : Refusal) × ((turn_step w n act).reply ≡ replies.Refused why) × ((why ≡ refusals.Stranger) ⊎ (why ≡ refusals.NumbersEnd)) ×
    ((turn_step w n act).world ≡ w))
unfolding unless
turn_reply w n act = go (nat_lt n w.count) (turn_lacks_serials w n act) refl refl
  where
    go : (p q : Bool) → nat_lt n w.count ≡ p → turn_lacks_serials w n act ≡ q →
        (((turn_step w n act).reply ≡ replies.Turned (turn_event w n act)) × ((turn_step w n act).world ≡ after_act w n act) ×
        (turn_lacks_serials w n act ≡ false) × (nat_lt n w.count ≡ true)) ⊎
        ((why : Refusal) × ((turn_step w n act).reply ≡ replies.Refused why) × ((why ≡ refusals.Stranger) ⊎ (why ≡ refusals.NumbersEnd)) ×
        ((turn_step w n act).world ≡ w))
    go false q e f = inr (refusals.Stranger, rw e refl, inl refl, rw e refl)
    go true true e f = inr (refusals.NumbersEnd, rw (e, f) refl, inr refl, rw (e, f) refl)
    go true false e f = inl (rw (e, f) refl, rw (e, f) refl, f, e)

module _ (w : World) (b : Books) (g : Records) (law : Inv w b g) where
  still : Kept g w b (routes_of g)
  still = record { records = g; inv = law; routes = refl; stays = stays-same (routes_of g) (routes_of g) refl }

  by_effect : (step : Step) (reply : Reply) (v : World) (done : Effect) → reply ≡ done.reply → v ≡ done.world → KeptBy w b g step done →
      Kept g v (advance w b step reply) (routes_after w (routes_of g) step reply)
  by_effect step reply v done e f k = rw (e, f) k

  refused : (step : Step) (reply : Reply) (v : World) (why : Refusal) → reply ≡ replies.Refused why → v ≡ w →
      advance w b step (replies.Refused why) ≡ b → routes_after w (routes_of g) step (replies.Refused why) ≡ routes_of g →
      Kept g v (advance w b step reply) (routes_after w (routes_of g) step reply)
  refused step reply v why e f p q = rw (e, f, p, q) still

  turn_kept : StepsKeep → (n : ℕ) (act : Act) → (n < w.count → can_take w n act ≡ true) → KeptBy w b g (steps.Turn n) (turn_step w n act)
  unfolding advance routes_after
  turn_kept keep n act can = elim (turn_reply w n act) [
    | inl t ↦ let l : n < w.count = grind (arith, t.3, nat_tests) in
        by_effect (steps.Turn n) (turn_step w n act).reply (turn_step w n act).world
        (record { reply = replies.Turned (turn_event w n act); world = after_act w n act }) t.0 t.1
        (keep.takes w b g n act law l (can l) t.2)
    | inr t ↦ refused (steps.Turn n) (turn_step w n act).reply (turn_step w n act).world t.0 t.1 t.3 refl refl
  ]

  pub step_kept : StepsKeep → (v : World) (step : Step) (reply : Reply) → StepAny w step reply v →
      Kept g v (advance w b step reply) (routes_after w (routes_of g) step reply)
  unfolding advance routes_after
  step_kept keep v (steps.Open n) reply (inl (e, f)) = by_effect (steps.Open n) reply v (open_step w n) e f (keep.opens w b g n law)
  step_kept keep v (steps.Open n) reply (inr (fine, (e, f))) = refused (steps.Open n) reply v refusals.OutOfMemory e f refl refl
  step_kept keep v (steps.Put n at bytes ends) reply (inl (e, f)) =
      by_effect (steps.Put n at bytes ends) reply v (put_step Printed w n at (record { bytes = bytes; ends = ends })) e f
      (keep.puts Printed w b g n at bytes ends law)
  step_kept keep v (steps.Put n at bytes ends) reply (inr (l, (e, f))) =
      refused (steps.Put n at bytes ends) reply v refusals.OutOfMemory e f refl refl
  step_kept keep v (steps.PutWide n at bytes ends) reply (inl (e, f)) =
      by_effect (steps.PutWide n at bytes ends) reply v (put_step Wide w n at (record { bytes = bytes; ends = ends })) e f
      (keep.puts Wide w b g n at bytes ends law)
  step_kept keep v (steps.PutWide n at bytes ends) reply (inr (l, (e, f))) =
      refused (steps.PutWide n at bytes ends) reply v refusals.OutOfMemory e f refl refl
  step_kept keep v (steps.Get n at) reply (e, f) = by_effect (steps.Get n at) reply v (get_step w n at) e f (keep.gets w b g n at law)
  step_kept keep v (steps.Close n at) reply (inl (e, f)) = by_effect (steps.Close n at) reply v (close_step w n at) e f
      (keep.closes w b g n at law)
  step_kept keep v (steps.Close n at) reply (inr (fine, (e, f))) = refused (steps.Close n at) reply v refusals.OutOfMemory e f refl refl
  step_kept keep v (steps.Turn n) reply (act, may, inl (e, f)) = by_effect (steps.Turn n) reply v (turn_step w n act) e f
      (turn_kept keep n act may)
  step_kept keep v (steps.Turn n) reply (act, may, inr (grows, own, fine, (e, f))) =
      refused (steps.Turn n) reply v refusals.OutOfMemory e f refl refl

-- each step keeps it that no terminal stands which has read Gone
abbrev pub UnreadKept : Type 0
UnreadKept = (w v : World) (b : Books) (g h : Records) (step : Step) (reply : Reply) → Inv w b g → Inv v (advance w b step reply) h →
    Came w v → GoneUnread w b → StepAny w step reply v → GoneUnread v (advance w b step reply)

-- each step keeps a world lawful, and the words of links what they are
pub step_keeps : StepsKeep → UnreadKept → (w v : World) (b : Books) (g : Routes) (step : Step) (reply : Reply) → Lawful w b g → StepAny w step reply v →
    Lawful v (advance w b step reply) (routes_after w g step reply) × KeepsLinks g (routes_after w g step reply)
step_keeps keep unread w v b g step reply law s =
    let k = step_kept w b law.records law.inv keep v step reply s in
    subst (λ z. Lawful v (advance w b step reply) (routes_after w z step reply) × KeepsLinks z (routes_after w z step reply)) law.routes (
      lawful_by v (advance w b step reply) k.records (routes_after w (routes_of law.records) step reply) k.inv k.routes
          (flagged-step w v b law.records step reply law.inv law.flagged s) (agreed-step w v b law.records step reply law.inv law.agreed s)
          (step_owing w b law.records law.inv law.agreed (record { wakers = law.wakers; ranked = law.ranked }) v step reply s)
          (unread w v b law.records k.records step reply law.inv k.inv
          (step_came w b law.records law.inv law.agreed (record { wakers = law.wakers; ranked = law.ranked }) v step reply s) law.unread s)
          (bounded-step w b law.records law.inv law.bounded AnyAct (λ n act m l. m l) step reply v s),
      k.stays,
    )

pub step_keeps_lawful : StepsKeep → UnreadKept → StepKeepsLawful
step_keeps_lawful keep unread w v b g step reply law s = (step_keeps keep unread w v b g step reply law s).0

pub links_stay_by : StepsKeep → UnreadKept → LinksStay
links_stay_by keep unread w v b g step reply law s = (step_keeps keep unread w v b g step reply law s).1

-- the opening world has records for which the invariant holds, and which tell the first routes
abbrev pub StartsKept : Type 0
StartsKept = (nodes words : ℕ) → IsWithinLimits nodes words → Started (new_world nodes words) no_books (first_routes nodes)

pub starts_lawful : StartsKept → StartsLawful
starts_lawful start nodes words limits = let k = start nodes words limits in
    lawful_by (new_world nodes words) no_books k.records (first_routes nodes) k.inv k.routes (flagged-new nodes words)
    (agreed-start nodes words) (owing-start nodes words) (λ k r here t retired. cc) (starts_bounded nodes words limits)

-- a run keeps a world lawful
pub run_keeps_lawful : StepKeepsLawful → (w : World) (b : Books) (g : Routes) (asked : List Step) (said : List Reply) (v : World)
    (c : Books) (h : Routes) → Lawful w b g → RunAny w b g asked said v c h → Lawful v c h
run_keeps_lawful keep w b g [] [] v c h law (e, f, q) = rw (e, f, q) law
run_keeps_lawful keep w b g [] (reply ∷ said) v c h law run = absurd run
run_keeps_lawful keep w b g (step ∷ asked) [] v c h law run = absurd run
run_keeps_lawful keep w b g (step ∷ asked) (reply ∷ said) v c h law (u, s, run) =
    run_keeps_lawful keep u (advance w b step reply) (routes_after w g step reply) asked said v c h (keep w u b g step reply law s) run

-- and what each step keeps
pub run_keeps : (Q : World → Type 0) (N : Node → Type 0) → IsKept Q N → StepKeepsLawful →
    (w : World) (b : Books) (g : Routes) (asked : List Step) (said : List Reply) (v : World) (c : Books) (h : Routes) → Lawful w b g → Q w →
    RunAny w b g asked said v c h → Q v
run_keeps Q N kept keep w b g [] [] v c h law is (e, f, q) = subst Q (sym e) is
run_keeps Q N kept keep w b g [] (reply ∷ said) v c h law is run = absurd run
run_keeps Q N kept keep w b g (step ∷ asked) [] v c h law is run = absurd run
run_keeps Q N kept keep w b g (step ∷ asked) (reply ∷ said) v c h law is (u, s, run) =
    run_keeps Q N kept keep u (advance w b step reply) (routes_after w g step reply) asked said v c h (keep w u b g step reply law s)
    (kept-step Q N kept w u b law.records step reply law.inv is s) run

-- each world that is reached is lawful
pub reached_lawful : StartsLawful → StepKeepsLawful → (nodes words : ℕ) (w : World) (b : Books) (g : Routes) → IsReached nodes words w b g →
    Lawful w b g
reached_lawful start keep nodes words w b g is = run_keeps_lawful keep (new_world nodes words) no_books (first_routes nodes) is.steps
    is.replies w b g (start nodes words is.limits) is.run

-- the sentence holds after every run from the start
pub headline_holds : StartsLawful → StepKeepsLawful → HeadlineHolds
headline_holds start keep nodes words w b g is = headline_by w b g (reached_lawful start keep nodes words w b g is)

-- nothing strays after every run from the start
pub nothing_strays : StartsLawful → StepKeepsLawful → NothingStrays
nothing_strays start keep nodes words w b g is =
    let law = reached_lawful start keep nodes words w b g is in
    (length_law w b law.records law.inv, stray_law w b law.records law.inv)
