-- What a turn tells of an act on a link's word: its event, its answer and what was seen.
use Rattle.std.specs.Prelude.{◌≡◌, ℕ, List, [], ◌∷◌, ◌++◌, Option, Some, None, option_map, Ok}
use Rattle.std.proofs.Common.{ap, sym, ◌∙◌, refl, append_assoc}
use Rattle.ipcz_base.specs.declared.link_end.LinkEnd.{LinkEnd}
use Rattle.ipcz_base.specs.declared.link_id.LinkId.{LinkId}
use Rattle.ipcz_base.specs.declared.link_id.LinkId.TheVariants.{Central, Peripheral}
use Rattle.ipcz_base.specs.declared.side.Side.{Side}
use Rattle.ipcz_word.specs.Layout.{word_of_bits, bits_of, plan_bits}
use Rattle.ipcz_word.specs.Word.{Word, Plan, Locks, Waits, Refuses, plan_of, word_by_plan, lock, wait}
use Rattle.ipcz_word.specs.declared.lock_plan.LockPlan.{LockPlan}
use Rattle.ipcz_word.specs.declared.lock_plan.LockPlan.TheVariants as plans
use Rattle.ipcz_base.specs.Links.{word_of as link_word}
use Rattle.ipcz_router.specs.Router.{Router, primary_word}
use Rattle.ipcz_router.specs.declared.act.Answer.{Answer}
use Rattle.ipcz_router.specs.declared.act.RouterAct.{RouterAct}
use Rattle.ipcz_router.specs.declared.act.RouterAct.TheVariants as router_acts
use Rattle.ipcz_node.specs.declared.act.Act.TheVariants as acts
use Rattle.ipcz_node.specs.declared.happened.Happened.{Happened}
use Rattle.ipcz_node.specs.declared.happened.Happened.TheVariants as events
use Rattle.ipcz_node.specs.Node.{Node, router_in, word_at, word_side, source_in}
use Rattle.ipcz_node.specs.Events.{event_of, event_at, router_event, word_event, unlock_event, link_of}
use Rattle.ipcz_world.proofs.code.WordNumbers.{spelled}
use Rattle.ipcz_world.specs.Coding.{IsLinkNumber}
use Rattle.ipcz_world.specs.WordAnswers.{word_answer, word_after, try_answer}
use Rattle.ipcz_rule.proofs.Known.{number_alone}
use Rattle.ipcz_cell.specs.TableNames.{TableName}
use Rattle.ipcz_cell.specs.CellStates.{CellState}
use Rattle.ipcz_cell.specs.Words.{ActsOnWord, LocksWord, lock_seen}
use Rattle.ipcz_cell.specs.declared.words.LockTry.{LockTry}
use Rattle.ipcz_cell.specs.TurnEnds.{try_event, FoundWord, IsAnswered, LooksFor, Acts}
use Rattle.ipcz_cell.proofs.TurnActs.{acts_whole}

abbrev Loads : Type 0
Loads = List (ℕ × ℕ)

abbrev number_or : ℕ → Option ℕ → ℕ
number_or d None = d
number_or d (Some i) = i

-- the link of a router whose outward primary link has a word
linked_at : (l : LinkId) (side : Side) (other word : ℕ) → link_word (Some (record { link = l; side = side; other = other })) ≡ Some word → l ≡ Central word
unfolding link_word
linked_at (Central i) side other word e = ap (λ (o : Option ℕ). Central (number_or i o)) e
linked_at (Peripheral n m) side other word e = cc

linked : (o : Option LinkEnd) (word : ℕ) → link_word o ≡ Some word → link_of o ≡ Central word
unfolding link_of link_word
linked None word e = cc
linked (Some x) word e = linked_at x.link x.side x.other word e

abbrev word_or : Option (ℕ × Side) → Option ℕ
word_or None = None
word_or (Some y) = Some y.0

word_kept : (s : Side) (o : Option ℕ) → word_or (option_map {U = ℕ × Side} (λ word. (word, s)) o) ≡ o
word_kept s None = refl
word_kept s (Some i) = refl

record IsLinked (n : Node) (serial word : ℕ) : Type 0 where
  pub router : Router
  pub there : router_in n serial ≡ Some router
  pub link : link_of router.outward.primary ≡ Central word

link_named : (n : Node) (serial word : ℕ) (side : Side) → word_side n serial ≡ Some (word, side) → IsLinked n serial word
link_named n serial word side named = go (router_in n serial) refl
  where
    go : (o : Option Router) → router_in n serial ≡ o → IsLinked n serial word
    go None e = absurd (let bad : None ≡ Some (word, side) = ap word_at (sym e) ∙ named in cc)
    go (Some r) e = record { router = r; there = e; link = linked r.outward.primary word (sym (word_kept r.end.side (primary_word r)) ∙ ap word_or (ap word_at (sym e) ∙ named)) }

-- two numbers seen, one after the other
pub seen_two : (l : Loads) (x y : ℕ × ℕ) → (l ++ x ∷ []) ++ y ∷ [] ≡ l ++ (x ∷ y ∷ [])
seen_two l x y = append_assoc l (x ∷ []) (y ∷ [])

-- what an act on a word that needs no luck is seen to be
pub mark_event : (n : Node) (serial word : ℕ) (side : Side) (x : Word) → word_side n serial ≡ Some (word, side) →
    events.Mark serial (Central word) (bits_of (word_after x side None router_acts.Mark)) ≡ event_of n (acts.Router serial router_acts.Mark) (word_answer x side None router_acts.Mark)
unfolding event_of event_at router_event word_event word_answer word_after
mark_event n serial word side x named =
    let l = link_named n serial word side named in
    sym (ap (λ (o : Option Router). event_at n serial o router_acts.Mark (word_answer x side None router_acts.Mark)) l.there ∙ ap (λ (k : LinkId). events.Mark serial k (bits_of (word_after x side None router_acts.Mark))) l.link)

pub wake_event : (n : Node) (serial word : ℕ) (side : Side) (x : Word) → word_side n serial ≡ Some (word, side) →
    events.Wake serial (Central word) (bits_of (word_after x side None router_acts.Wake)) ≡ event_of n (acts.Router serial router_acts.Wake) (word_answer x side None router_acts.Wake)
unfolding event_of event_at router_event word_event word_answer word_after
wake_event n serial word side x named =
    let l = link_named n serial word side named in
    sym (ap (λ (o : Option Router). event_at n serial o router_acts.Wake (word_answer x side None router_acts.Wake)) l.there ∙ ap (λ (k : LinkId). events.Wake serial k (bits_of (word_after x side None router_acts.Wake))) l.link)

pub unlock_event_is : (n : Node) (serial word : ℕ) (side : Side) (x : Word) → word_side n serial ≡ Some (word, side) →
    events.Unlock serial (Central word) (bits_of (word_after x side None router_acts.Unlock)) ≡ event_of n (acts.Router serial router_acts.Unlock) (word_answer x side None router_acts.Unlock)
unfolding event_of event_at router_event unlock_event word_answer word_after
unlock_event_is n serial word side x named =
    let l = link_named n serial word side named in
    sym (ap (λ (o : Option Router). event_at n serial o router_acts.Unlock (word_answer x side None router_acts.Unlock)) l.there ∙ ap (λ (k : LinkId). events.Unlock serial k (bits_of (word_after x side None router_acts.Unlock))) l.link)

-- an act on a word is a turn's
pub word_acts : (t : TableName) (serial : ℕ) (act : RouterAct) (old new : CellState) (after : ℕ) (event : Happened) →
    ((answer : Answer) (seen : Loads) → FoundWord old.part.state serial act answer seen → IsAnswered t old.part (acts.Router serial act) answer seen) →
    ((seen : Loads) → LooksFor t (acts.Router serial act) seen old.looked new.looked) → (h : ActsOnWord serial act old after new) →
    event ≡ event_of old.part.state (acts.Router serial act) (word_answer (word_of_bits h.found) h.side None act) → Acts t (acts.Router serial act) old (Ok event) new
word_acts t serial act old new after event fits looks h e = acts_whole t (acts.Router serial act) old new event ((h.word, h.found) ∷ []) h.seen (looks ((h.word, h.found) ∷ [])) (record {
  answer = word_answer (word_of_bits h.found) h.side None act;
  answered = fits (word_answer (word_of_bits h.found) h.side None act) ((h.word, h.found) ∷ []) (record {
    word = h.word;
    side = h.side;
    found = h.found;
    answered = record { named = h.named; is_word = h.is_word; answered = refl };
    seen_is = refl;
  });
  part = h.part;
  event_is = e;
})

-- what a mark, an unlock and a wake are seen to be, by the link that was asked for
pub mark_acts : (t : TableName) (serial : ℕ) (old new : CellState) (after : ℕ) (link : LinkId) → ((word : ℕ) (side : Side) → word_side old.part.state serial ≡ Some (word, side) → link ≡ Central word) →
    ActsOnWord serial router_acts.Mark old after new → Acts t (acts.Router serial router_acts.Mark) old (Ok (events.Mark serial link after)) new
mark_acts t serial old new after link at h = word_acts t serial router_acts.Mark old new after (events.Mark serial link after) (λ answer seen f. f) (λ seen. tt) h
    ((λ j. events.Mark serial (at h.word h.side h.named j) (h.after j)) ∙ mark_event old.part.state serial h.word h.side (word_of_bits h.found) h.named)

pub wake_acts : (t : TableName) (serial : ℕ) (old new : CellState) (after : ℕ) (link : LinkId) → ((word : ℕ) (side : Side) → word_side old.part.state serial ≡ Some (word, side) → link ≡ Central word) →
    ActsOnWord serial router_acts.Wake old after new → Acts t (acts.Router serial router_acts.Wake) old (Ok (events.Wake serial link after)) new
wake_acts t serial old new after link at h = word_acts t serial router_acts.Wake old new after (events.Wake serial link after) (λ answer seen f. f) (λ seen. tt) h
    ((λ j. events.Wake serial (at h.word h.side h.named j) (h.after j)) ∙ wake_event old.part.state serial h.word h.side (word_of_bits h.found) h.named)

pub unlock_acts : (t : TableName) (serial : ℕ) (old new : CellState) (after : ℕ) (link : LinkId) → ((word : ℕ) (side : Side) → word_side old.part.state serial ≡ Some (word, side) → link ≡ Central word) →
    ActsOnWord serial router_acts.Unlock old after new → Acts t (acts.Router serial router_acts.Unlock) old (Ok (events.Unlock serial link after)) new
unlock_acts t serial old new after link at h = word_acts t serial router_acts.Unlock old new after (events.Unlock serial link after) (λ answer seen f. f) (λ seen. tt) h
    ((λ j. events.Unlock serial (at h.word h.side h.named j) (h.after j)) ∙ unlock_event_is old.part.state serial h.word h.side (word_of_bits h.found) h.named)

-- what a try for the lock is seen to be
plan_event : (serial word found : ℕ) (source : Option ℕ) (side : Side) (p : Plan) → IsLinkNumber found →
    try_event serial word found (plan_bits found side source p) ≡ word_event serial (Central word) (try_answer (word_of_bits found) side source p)
unfolding plan_bits word_event try_answer word_by_plan
plan_event serial word found source side Locks is = ap (events.Lock serial (Central word)) (number_alone found (lock (word_of_bits found) side source) is)
plan_event serial word found source side Waits is = ap (events.Wait serial (Central word)) (number_alone found (wait (word_of_bits found) side) is)
plan_event serial word found source side Refuses is = ap (events.Refused serial (Central word)) (sym (spelled (word_of_bits found) found refl is))

lock_event : (n : Node) (serial word found : ℕ) (source : Option ℕ) (side : Side) → word_side n serial ≡ Some (word, side) → IsLinkNumber found →
    try_event serial word found (plan_bits found side source (plan_of (word_of_bits found) side)) ≡ event_of n (acts.Router serial router_acts.Lock) (word_answer (word_of_bits found) side source router_acts.Lock)
unfolding event_of event_at router_event word_answer
lock_event n serial word found source side named is =
    let l = link_named n serial word side named in
    let a = try_answer (word_of_bits found) side source (plan_of (word_of_bits found) side) in
    plan_event serial word found source side (plan_of (word_of_bits found) side) is ∙
    sym (ap (λ (o : Option Router). event_at n serial o router_acts.Lock a) l.there ∙ ap (λ (k : LinkId). word_event serial k a) l.link)

seen_of_plan : (i n : ℕ) (plan : LockPlan) (l : Loads) → lock_seen i n plan l ≡ l ++ lock_seen i n plan []
seen_of_plan i n (plans.Lock new) l = seen_two l (i, n) (i, n)
seen_of_plan i n (plans.Wait new) l = seen_two l (i, n) (i, n)
seen_of_plan i n plans.Refused l = refl

pub lock_acts : (t : TableName) (serial : ℕ) (old new : CellState) (try : LockTry) (event : Happened) → LocksWord t.size serial old (Ok try) new → event ≡ try_event serial try.word try.found try.plan →
    Acts t (acts.Router serial router_acts.Lock) old (Ok event) new
lock_acts t serial old new try event h e =
    let told = h.told in
    let tried = h.tried in
    acts_whole t (acts.Router serial router_acts.Lock) old new event (lock_seen h.word h.loaded try.plan []) (tried.2 ∙ seen_of_plan h.word h.loaded try.plan old.seen) tt (record {
      answer = word_answer (word_of_bits h.loaded) h.side (source_in old.part.state serial) router_acts.Lock;
      answered = record {
        word = h.word;
        side = h.side;
        found = h.loaded;
        answered = record { named = h.named; is_word = h.is_word; answered = refl };
        seen_is = ap (λ (p : LockPlan). lock_seen h.word h.loaded p []) tried.0;
      };
      part = tried.1;
      event_is = e ∙ ((λ j. try_event serial (told.0 j) (told.1 j) (tried.0 j)) ∙ lock_event old.part.state serial h.word h.loaded (source_in old.part.state serial) h.side h.named h.is_word);
    })
