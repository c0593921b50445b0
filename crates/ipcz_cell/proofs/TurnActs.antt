-- What a turn tells of an act that it has done.
use Rattle.std.specs.Prelude.{◌≡◌, ◌≢◌, ◌⊎◌, ℕ, Bool, true, false, ◌||◌, nat_eq, if◌then◌else◌, MatchBool, List, [], ◌∷◌, ◌++◌, Option, Some, None, Result, Ok, Err, OnOk, OnErr, IfOk, IfErr, IsOk, IsSomeAnd}
use Rattle.std.proofs.Common.{ap, sym, subst, ◌∙◌, refl, inl, inr, arith, append-nil}
use Rattle.std.proofs.lemmas.Bool.Decides.{nat_tests}
use Rattle.ipcz_base.specs.declared.refusal.Refusal.{Refusal}
use Rattle.ipcz_base.specs.declared.refusal.Refusal.TheVariants as refusals
use Rattle.ipcz_base.specs.declared.end.End.{End}
use Rattle.ipcz_router.specs.Router.{Router}
use Rattle.ipcz_router.specs.ActTable.{may_take}
use Rattle.ipcz_node.proofs.Choosing.{unlock_may, retire_may}
use Rattle.ipcz_world.specs.Wordless.{is_wordless}
use Rattle.ipcz_router.specs.declared.act.Answer.TheVariants as answers
use Rattle.ipcz_router.specs.declared.act.RouterAct.{RouterAct}
use Rattle.ipcz_router.specs.declared.act.RouterAct.TheVariants as router_acts
use Rattle.ipcz_node.specs.declared.act.Act.{Act}
use Rattle.ipcz_node.specs.declared.act.Act.TheVariants as acts
use Rattle.ipcz_node.specs.declared.happened.Happened.{Happened}
use Rattle.ipcz_node.specs.declared.happened.Happened.TheVariants as events
use Rattle.ipcz_node.specs.Acts.{act_lacks_serials, stand_in}
use Rattle.ipcz_node.specs.Preparing.{act_grows}
use Rattle.ipcz_node.specs.Events.{event_of}
use Rattle.ipcz_node.specs.RoomyNodes.{IsReadyFor}
use Rattle.ipcz_rule.specs.declared.view.Part.{Part}
use Rattle.ipcz_base.specs.declared.message.Message.{Message}
use Rattle.ipcz_rule.specs.Rule.{has_number}
use Rattle.ipcz_rule.specs.Batches.{batch_from}
use Rattle.ipcz_cell.specs.Cells.{has_batch}
use Rattle.ipcz_rule.specs.Steps.{act_part, probe_part}
use Rattle.ipcz_cell.specs.TableNames.{TableName}
use Rattle.ipcz_cell.specs.CellStates.{CellState, roomy}
use Rattle.ipcz_rule.specs.Steps.{is_touch_act}
use Rattle.ipcz_cell.specs.Mails.{Probes, IsProbed, Looks, IsTold, mail_word, posted_part}
use Rattle.ipcz_cell.specs.TurnEnds.{IsAnswered, IsDone, IsTaken, IsLost, IsRefused, NoSerials, NoMemory, LostIt, lacks_serials, IsSeenBefore, may_grow, HasRoom, LooksFor, Acts}

abbrev Seen : Type 0
Seen = List (ℕ × ℕ)

abbrev Tells : Type 0 → Type 1
Tells X = Happened → X → Type 0

abbrev Ends : Type 1
Ends = Result Happened Refusal → Type 0

-- what is told of one end is told of each that follows from it
pub told_then : {X : Type 0} (tells : Tells X) (D E : Ends) (r : Result X Refusal) → ((done : Result Happened Refusal) → D done → E done) → IsTold tells D r → IsTold tells E r
told_then tells D E (Ok told) f h = (h.0, h.1, f (Ok h.0) h.2)
told_then tells D E (Err why) f h = f (Err why) h

-- what is told of an event is told of all that holds of it
pub told_of : {X : Type 0} (tells : Tells X) (D : Ends) (done : Result Happened Refusal) (r : Result X Refusal) → IsTold tells (λ is. is ≡ done) r → D done → IsTold tells D r
told_of tells D done r told h = told_then tells (λ is. is ≡ done) D r (λ is e. subst D (sym e) h) told

-- the event itself is told
pub told_whole : (D : Ends) (r : Result Happened Refusal) → IsTold (λ event told. told ≡ event) D r → D r
told_whole D (Ok told) h = subst (λ (event : Happened). D (Ok event)) (sym h.1) h.2
told_whole D (Err why) h = h

-- who has seen nothing hasn't looked
looks_none : (t : TableName) (act : Act) (l l' : List ℕ) → LooksFor t act [] l l'
looks_none t (acts.Router serial router_acts.Claim) l l' = λ c e below. cc
looks_none t other l l' = tt

-- an act that was done whole
pub acts_whole : (t : TableName) (act : Act) (old new : CellState) (event : Happened) (seen : Seen) → new.seen ≡ old.seen ++ seen → LooksFor t act seen old.looked new.looked → IsDone t old.part act event new.part seen → Acts t act old (Ok event) new
acts_whole t act old new event seen e looks done = record { found = seen; seen = e; looks = looks; outcome = record { taken = act; which = inl refl; done = done }; full = λ room. done }

-- a look: what it has seen, and which message it has taken
abbrev look_seen : Bool → ℕ → Seen
look_seen b word = if b then [] else (word, 1) ∷ []

look_at : (b : Bool) (i from : ℕ) (old new : CellState) (x : Message) (xs : List Message) → has_batch old.part from ≡ b → MatchBool b ((batch_from old.part from ≡ x ∷ xs) × (new.seen ≡ old.seen)) (new.seen ≡ old.seen ++ (i, 1) ∷ []) →
    (new.seen ≡ old.seen ++ look_seen b i) × (has_batch old.part from ≡ true → batch_from old.part from ≡ x ∷ xs)
look_at true i sender old new x xs e h = (h.1 ∙ sym (append-nil old.seen), λ some_left. h.0)
look_at false i sender old new x xs e h = (h, λ some_left. absurd cc)

pub look_acts : (t : TableName) (from : ℕ) (old new : CellState) → Looks (mail_word t from old.part.node) from old true new → Acts t (acts.Look from) old (Ok (events.Look from)) new
unfolding event_of
look_acts t sender old new h =
    let word = mail_word t sender old.part.node in
    let b = has_batch old.part sender in
    let k = look_at b word sender old new h.0 h.1 refl h.3 in
    acts_whole t (acts.Look sender) old new (events.Look sender) (look_seen b word) k.0 tt (record { answer = answers.Plain; answered = (refl, refl); part = (h.0, h.1, h.2, k.1); event_is = refl })

-- what was lost to another thread doesn't want memory
pub raced_only : (why : Refusal) → why ≡ refusals.Raced → why ≢ refusals.OutOfMemory
raced_only why raced starved = let bad : refusals.Raced ≡ refusals.OutOfMemory = sym raced ∙ starved in cc

pub look_lost : (t : TableName) (from : ℕ) (old new : CellState) → Looks (mail_word t from old.part.node) from old false new → Acts t (acts.Look from) old (Err refusals.Raced) new
look_lost t sender old new h = record {
  found = (mail_word t sender old.part.node, h.1) ∷ [];
  seen = h.3.seen;
  looks = tt;
  outcome = (h.3.part, LostIt refl (h.1, h.2, h.0, refl));
  full = λ room. raced_only refusals.Raced refl;
}

-- a post: the mailbox is probed, and then has the message
abbrev probe_seen : Bool → ℕ → Seen
probe_seen b word = if b then [] else (word, 0) ∷ []

probed_there : (t : TableName) (b : Bool) (i to : ℕ) (old mid : CellState) → has_number old.part.probed to ≡ b → IsProbed i to old mid → (mid.seen ≡ old.seen ++ probe_seen b i) × (posted_part t to mid.part ≡ posted_part t to old.part) × (has_number mid.part.probed to ≡ true) × (mid.part.state ≡ old.part.state)
probed_there t true i to old mid e h =
    let k = subst (λ (b : Bool). MatchBool b ((mid.part ≡ old.part) × (mid.seen ≡ old.seen)) ((mid.part ≡ probe_part to old.part) × (mid.seen ≡ old.seen ++ (i, 0) ∷ []))) e h in
    (k.1 ∙ sym (append-nil old.seen), ap (posted_part t to) k.0, ap (λ (p : Part). has_number p.probed to) k.0 ∙ e, ap (λ (p : Part). p.state) k.0)
probed_there t false i to old mid e h =
    let k = subst (λ (b : Bool). MatchBool b ((mid.part ≡ old.part) × (mid.seen ≡ old.seen)) ((mid.part ≡ probe_part to old.part) × (mid.seen ≡ old.seen ++ (i, 0) ∷ []))) e h in
    let own : nat_eq to to ≡ true = grind (arith, nat_tests) in
    (k.1, ap (posted_part t to) k.0 ∙ posted own, ap (λ (p : Part). has_number p.probed to) k.0 ∙ ap (λ (b : Bool). b || has_number old.part.probed to) own, ap (λ (p : Part). p.state) k.0)
  where
    posted : nat_eq to to ≡ true → posted_part t to (probe_part to old.part) ≡ posted_part t to old.part
    posted own = rw own refl

pub probed_can : (t : TableName) (i to : ℕ) (old mid : CellState) → Probes i to old true mid → (has_number mid.part.probed to ≡ true) × (mid.part.state ≡ old.part.state)
probed_can t i to old mid h = let k = probed_there t (has_number old.part.probed to) i to old mid refl h in (k.2, k.3)

pub post_acts : (t : TableName) (to : ℕ) (old mid new : CellState) → Probes (mail_word t old.part.node to) to old true mid → new.part ≡ posted_part t to mid.part → new.seen ≡ mid.seen → Acts t (acts.Post to) old (Ok (events.Post to)) new
unfolding event_of
post_acts t to old mid new h part seen =
    let word = mail_word t old.part.node to in
    let k = probed_there t (has_number old.part.probed to) word to old mid refl h in
    acts_whole t (acts.Post to) old new (events.Post to) (probe_seen (has_number old.part.probed to) word) (seen ∙ k.0) tt (record { answer = answers.Plain; answered = (refl, refl); part = part ∙ k.1; event_is = refl })

-- an act that touches no word and no mailbox is answered nothing and sees nothing
touch_done : (t : TableName) (p p' : Part) (act : Act) (event : Happened) → is_touch_act act ≡ true → p' ≡ act_part act answers.Plain p → event ≡ event_of p.state act answers.Plain → IsDone t p act event p' []
touch_done t p p' (acts.Close end) event touch part is = record { answer = answers.Plain; answered = (refl, refl); part = part; event_is = is }
touch_done t p p' (acts.Router serial act) event touch part is = record { answer = answers.Plain; answered = plain act touch; part = part; event_is = is }
  where
    plain : (act : RouterAct) → is_touch_act (acts.Router serial act) ≡ true → IsAnswered t p (acts.Router serial act) answers.Plain []
    plain router_acts.Mark e = cc
    plain router_acts.Wake e = cc
    plain router_acts.Claim e = cc
    plain router_acts.Lock e = cc
    plain router_acts.Unlock e = cc
    plain other e = (refl, refl)
touch_done t p p' other event touch part is = cc

pub touch_acts : (t : TableName) (act : Act) (old mid new : CellState) (event : Happened) → is_touch_act act ≡ true → mid.part ≡ old.part → mid.seen ≡ old.seen → event ≡ event_of mid.part.state act answers.Plain →
    new.part ≡ act_part act answers.Plain mid.part → new.seen ≡ mid.seen → Acts t act old (Ok event) new
touch_acts t act old mid new event touch same kept is part seen =
    acts_whole t act old new event [] (seen ∙ (kept ∙ sym (append-nil old.seen))) (looks_none t act old.looked new.looked)
    (touch_done t old.part new.part act event touch (part ∙ ap (act_part act answers.Plain) same) (is ∙ ap (λ (p : Part). event_of p.state act answers.Plain) same))

-- it is refused before anything is done
touch_lacks : (p : Part) (act : Act) → is_touch_act act ≡ true → lacks_serials p act [] ≡ act_lacks_serials p.state act
touch_lacks p (acts.Hand sender) e = cc
touch_lacks p other e = refl

touch_sees : (size : ℕ) (p : Part) (act : Act) → is_touch_act act ≡ true → IsSeenBefore size p act []
touch_sees size p (acts.Hand sender) e = cc
touch_sees size p other e = refl

touch_grows : (p : Part) (act : Act) → is_touch_act act ≡ true → act_grows p.state act ≡ true → may_grow p act [] ≡ true
touch_grows p (acts.Hand sender) e g = cc
touch_grows p other e g = g

never : {A : Type 0} → false ≡ true → A
never e = cc

grown : (b : Bool) → (b ≡ false → false ≡ true) → b ≡ true
grown true h = refl
grown false h = h refl

pub prepare_refused : (t : TableName) (act : Act) (old new : CellState) (why : Refusal) → lacks_serials old.part act [] ≡ act_lacks_serials old.part.state act → IsSeenBefore t.size old.part act [] → (act_grows old.part.state act ≡ true → may_grow old.part act [] ≡ true) → act ≡ stand_in act → new.part ≡ old.part → new.seen ≡ old.seen →
    why ≡ (if act_lacks_serials old.part.state act then refusals.NumbersEnd else refusals.OutOfMemory) → (act_grows old.part.state act ≡ false → false ≡ true) → (HasRoom old act [] → false ≡ true) → Acts t act old (Err why) new
prepare_refused t act old new why lacks none may alone part seen is grows full = record {
  found = [];
  seen = seen ∙ sym (append-nil old.seen);
  looks = looks_none t act old.looked new.looked;
  outcome = (part, go (act_lacks_serials old.part.state act) refl);
  full = λ room. never (full room);
}
  where
    go : (b : Bool) → act_lacks_serials old.part.state act ≡ b → IsRefused t.size old.part act (IsLost t old.part act []) why []
    go true e = NoSerials (is ∙ ap (λ (b : Bool). if b then refusals.NumbersEnd else refusals.OutOfMemory) e) (lacks ∙ e) none
    go false e = NoMemory (is ∙ ap (λ (b : Bool). if b then refusals.NumbersEnd else refusals.OutOfMemory) e) (lacks ∙ e) (may (grown (act_grows old.part.state act) grows)) alone none

touch_ready : (c : CellState) (act : Act) → is_touch_act act ≡ true → HasRoom c act [] → IsReadyFor (roomy c) act
touch_ready c (acts.Hand sender) e room = cc
touch_ready c other e room = room

pub touch_refused : (t : TableName) (act : Act) (old new : CellState) (why : Refusal) → is_touch_act act ≡ true → act ≡ stand_in act → new.part ≡ old.part → new.seen ≡ old.seen →
    why ≡ (if act_lacks_serials old.part.state act then refusals.NumbersEnd else refusals.OutOfMemory) → (act_grows old.part.state act ≡ false → false ≡ true) → (IsReadyFor (roomy old) act → false ≡ true) → Acts t act old (Err why) new
touch_refused t act old new why touch alone part seen is grows full =
    prepare_refused t act old new why (touch_lacks old.part act touch) (touch_sees t.size old.part act touch) (touch_grows old.part act touch) alone part seen is grows (λ room. full (touch_ready old act touch room))

-- an act that is made ready and done in one go
pub told_acts : {X : Type 0} (tells : Tells X) (t : TableName) (act : Act) (old new : CellState) (r : Result X Refusal) → is_touch_act act ≡ true → act ≡ stand_in act →
    IfOk r (tells (event_of old.part.state act answers.Plain)) → OnOk r (new.part ≡ act_part act answers.Plain old.part) →
    IfErr r (λ e. e ≡ (if act_lacks_serials old.part.state act then refusals.NumbersEnd else refusals.OutOfMemory)) →
    (act_grows old.part.state act ≡ false → IsOk r) → (IsReadyFor (roomy old) act → IsOk r) → OnErr r (new.part ≡ old.part) → new.seen ≡ old.seen → IsTold tells (λ done. Acts t act old done new) r
told_acts tells t act old new (Ok told) touch alone is part why grows full same seen =
    (event_of old.part.state act answers.Plain, is, touch_acts t act old old new (event_of old.part.state act answers.Plain) touch refl refl refl part seen)
told_acts tells t act old new (Err e) touch alone is part why grows full same seen = touch_refused t act old new e touch alone same seen why grows full

-- a begin or a retire that found no memory is an unlock
pub stood_in : (t : TableName) (serial : ℕ) (act : RouterAct) (old mid new : CellState) (event : Happened) → acts.Router serial router_acts.Unlock ≡ stand_in (acts.Router serial act) → (act_grows old.part.state (acts.Router serial act) ≡ false → false ≡ true) → (IsReadyFor (roomy old) (acts.Router serial act) → false ≡ true) →
    mid.part ≡ old.part → mid.seen ≡ old.seen → Acts t (acts.Router serial router_acts.Unlock) mid (Ok event) new → Acts t (acts.Router serial act) old (Ok event) new
unfolding stand_in
stood_in t serial act old mid new event in_place grows full same kept h = record {
  found = h.found;
  seen = h.seen ∙ ap (λ (l : Seen). l ++ h.found) kept;
  looks = looks act in_place;
  outcome = record {
    taken = acts.Router serial router_acts.Unlock;
    which = inr (in_place, grown (act_grows old.part.state (acts.Router serial act)) grows);
    done = subst (λ (p : Part). IsDone t p (acts.Router serial router_acts.Unlock) event new.part h.found) same (subst (λ (a : Act). IsDone t mid.part a event new.part h.found) (unlocked h.outcome.which) h.outcome.done);
  };
  full = λ room. never (full room);
}
  where
    looks : (act : RouterAct) → acts.Router serial router_acts.Unlock ≡ stand_in (acts.Router serial act) → LooksFor t (acts.Router serial act) h.found old.looked new.looked
    looks router_acts.Claim e = cc
    looks other e = tt

    unlocked : {a : Act} {Grows : Type 0} → (a ≡ acts.Router serial router_acts.Unlock) ⊎ ((a ≡ acts.Router serial router_acts.Unlock) × Grows) →
        a ≡ acts.Router serial router_acts.Unlock
    unlocked (inl e) = e
    unlocked (inr e) = e.0

-- the same act, after a preparation that has made room for it
pub after_same : (t : TableName) (act : Act) (old mid new : CellState) (answer : Result Happened Refusal) → mid.part ≡ old.part → mid.seen ≡ old.seen →
    ((seen : Seen) → LooksFor t act seen old.looked new.looked) → ((seen : Seen) → HasRoom mid act seen) → Acts t act mid answer new → Acts t act old answer new
after_same t act old mid new answer same kept looks room h = record {
  found = h.found;
  seen = h.seen ∙ ap (λ (l : Seen). l ++ h.found) kept;
  looks = looks h.found;
  outcome = subst (λ (p : Part). Rattle.std.specs.Prelude.MatchResult answer (λ event. IsTaken t p act event new.part h.found) (λ why. (new.part ≡ p) × IsRefused t.size p act (IsLost t p act h.found) why h.found)) same h.outcome;
  full = λ was. subst (λ (p : Part). Rattle.std.specs.Prelude.MatchResult answer (λ event. IsDone t p act event new.part h.found) (λ why. why ≢ refusals.OutOfMemory)) same (h.full (room h.found));
}

-- a wake, for which there was no room
pub wake_refused : (t : TableName) (serial : ℕ) (old new : CellState) (why : Refusal) → new.part ≡ old.part → new.seen ≡ old.seen →
    why ≡ (if act_lacks_serials old.part.state (acts.Router serial router_acts.Wake) then refusals.NumbersEnd else refusals.OutOfMemory) → (act_grows old.part.state (acts.Router serial router_acts.Wake) ≡ false → false ≡ true) → (IsReadyFor (roomy old) (acts.Router serial router_acts.Wake) → false ≡ true) →
    Acts t (acts.Router serial router_acts.Wake) old (Err why) new
unfolding stand_in
wake_refused t serial old new why part seen is grows full = prepare_refused t (acts.Router serial router_acts.Wake) old new why refl refl (λ g. g) refl part seen is grows full

-- a begin and a retire are done under the lock: each is a touch, and an unlock stands in for it
pub held_touch : (act : RouterAct) → (act ≡ router_acts.Begin) ⊎ (act ≡ router_acts.Retire) → is_wordless act ≡ true
held_touch act (inl e) = ap is_wordless e
held_touch act (inr e) = ap is_wordless e

pub held_stand_in : (act : RouterAct) (serial : ℕ) → (act ≡ router_acts.Begin) ⊎ (act ≡ router_acts.Retire) → acts.Router serial router_acts.Unlock ≡ stand_in (acts.Router serial act)
unfolding stand_in
held_stand_in act serial (inl e) = subst (λ (a : RouterAct). acts.Router serial router_acts.Unlock ≡ stand_in (acts.Router serial a)) (sym e) refl
held_stand_in act serial (inr e) = subst (λ (a : RouterAct). acts.Router serial router_acts.Unlock ≡ stand_in (acts.Router serial a)) (sym e) refl

-- if a router may begin or retire, it may give its lock back
pub may_unlock : (act : RouterAct) → (act ≡ router_acts.Begin) ⊎ (act ≡ router_acts.Retire) → (o : Option Router) → IsSomeAnd o (λ r. may_take r act ≡ true) → IsSomeAnd o (λ r. may_take r router_acts.Unlock ≡ true)
may_unlock act which None h = h
may_unlock act (inl is) (Some r) h = unlock_may r (ap (may_take r) (sym is) ∙ h)
may_unlock act (inr is) (Some r) h = retire_may r (ap (may_take r) (sym is) ∙ h)

-- these acts of a router are touches, and none stands in for them
abbrev IsPlain : RouterAct → Type 0
IsPlain act = (is_wordless act ≡ true) × ((serial : ℕ) → acts.Router serial act ≡ stand_in (acts.Router serial act))

pub plain_acts : (act : RouterAct) → act ≢ router_acts.Mark → act ≢ router_acts.Wake → act ≢ router_acts.Claim → act ≢ router_acts.Lock → act ≢ router_acts.Begin →
    act ≢ router_acts.Retire → act ≢ router_acts.Unlock → IsPlain act
unfolding stand_in
plain_acts router_acts.Mark mark wake claim lock begin retire unlock = absurd (mark refl)
plain_acts router_acts.Wake mark wake claim lock begin retire unlock = absurd (wake refl)
plain_acts router_acts.Claim mark wake claim lock begin retire unlock = absurd (claim refl)
plain_acts router_acts.Lock mark wake claim lock begin retire unlock = absurd (lock refl)
plain_acts router_acts.Begin mark wake claim lock begin retire unlock = absurd (begin refl)
plain_acts router_acts.Retire mark wake claim lock begin retire unlock = absurd (retire refl)
plain_acts router_acts.Unlock mark wake claim lock begin retire unlock = absurd (unlock refl)
plain_acts other mark wake claim lock begin retire unlock = (refl, λ s. refl)

-- nor does one for a close
pub close_refused : (t : TableName) (e : End) (old new : CellState) (why : Refusal) → new.part ≡ old.part → new.seen ≡ old.seen →
    why ≡ (if act_lacks_serials old.part.state (acts.Close e) then refusals.NumbersEnd else refusals.OutOfMemory) → (act_grows old.part.state (acts.Close e) ≡ false → false ≡ true) → (IsReadyFor (roomy old) (acts.Close e) → false ≡ true) →
    Acts t (acts.Close e) old (Err why) new
unfolding stand_in
close_refused t e old new why part seen is grows full = touch_refused t (acts.Close e) old new why refl refl part seen is grows full
