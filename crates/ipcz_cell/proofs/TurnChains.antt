-- Turns of a cell one after the other, whose events aren't told.
use Rattle.std.specs.Prelude.{◌≡◌, ◌≢◌, ◌≤◌, ◌<◌, ◌+◌, ◌⊎◌, ◌||◌, ℕ, Bool, true, false, List, [], ◌∷◌, ◌++◌, length, if◌then◌else◌, Option, Some, None, Ok, Err}
use Rattle.std.proofs.Common.{ap, sym, subst, ◌∙◌, refl, inl, inr, arith, append-nil}
use Rattle.std.proofs.lemmas.List.{length-append}
use Rattle.ipcz_base.specs.declared.message.Message.{Message}
use Rattle.ipcz_base.specs.declared.message.Message.TheVariants as messages
use Rattle.ipcz_base.specs.declared.refusal.Refusal.{Refusal}
use Rattle.ipcz_base.specs.declared.refusal.Refusal.TheVariants.{NumbersEnd, OutOfMemory}
use Rattle.ipcz_node.specs.declared.act.Act.{Act}
use Rattle.ipcz_node.specs.declared.act.Act.TheVariants as acts
use Rattle.ipcz_node.specs.declared.happened.Happened.{Happened}
use Rattle.ipcz_node.specs.declared.happened.Happened.TheVariants as events
use Rattle.ipcz_node.specs.Node.{Node}
use Rattle.ipcz_node.specs.Acts.{stand_in}
use Rattle.ipcz_node.specs.Events.{event_of, hand_event}
use Rattle.ipcz_node.specs.Hands.{is_unfit, message_lacks_serials}
use Rattle.ipcz_rule.specs.Steps.{old_word, trusted}
use Rattle.ipcz_cell.specs.TableNames.{TableName}
use Rattle.ipcz_cell.specs.CellStates.{CellState, roomy}
use Rattle.ipcz_cell.specs.Parts.{handed_part, part_handed}
use Rattle.ipcz_cell.specs.Mails.{Handles, OldLoaded, old_named}
use Rattle.ipcz_world.specs.RoomyWorlds.{HasRoomToHandle}
use Rattle.ipcz_cell.specs.Turns.{Chooses}
use Rattle.ipcz_cell.specs.TurnEnds.{Acts, IsDone}
use Rattle.ipcz_node.specs.declared.node_set.NodeSet.{NodeSet}
use Rattle.ipcz_node.specs.NodeSets.{has_node}
use Rattle.ipcz_cell.specs.TurnChains.{touches, some_touches, Did, TakesTurn, AreTurns, RunsTouching}
use Rattle.ipcz_cell.proofs.TurnParts.{turn_done, turn_act}

-- a message that names no old link has no source
pub unnamed : (from : ℕ) (x : Message) → old_word x ≡ None → trusted from x ≡ None
unfolding trusted
unnamed sender (messages.AcceptBypass old side fresh length) e = cc
unnamed sender other e = refl

pub names_none : (o : Option Message) (x : Message) → o ≡ Some x → old_named o ≡ None → old_word x ≡ None
names_none o x is none = ap old_named (sym is) ∙ none

-- one message is in hand
abbrev held_or : Message → Option Message → Message
held_or d None = d
held_or d (Some x) = x

pub fits_same : (n : Node) (from : ℕ) (o : Option Message) (x y : Message) → o ≡ Some x → o ≡ Some y → is_unfit n from x None ≡ false → is_unfit n from y None ≡ false
fits_same n sender o x y at also fit = subst (λ (m : Message). is_unfit n sender m None ≡ false) (ap (held_or x) (sym at ∙ also)) fit

-- such a message that was handled where it stands
pub item_handled : (size from : ℕ) (old new : CellState) (x : Message) → old.part.message ≡ Some x → old_word x ≡ None → new.part ≡ handed_part from None old.part → new.seen ≡ old.seen →
    Handles size from old (Ok (hand_event old.part.state from x None)) new
item_handled size sender old new x is none part seen = record {
  message = x;
  in_hand = is;
  found = [];
  loaded = subst (λ (o : Option ℕ). OldLoaded size o []) (sym none) refl;
  seen = seen ∙ sym (append-nil old.seen);
  outcome = (refl, part ∙ ap (λ (o : Option Message). part_handed sender None o old.part) is);
  full = λ room. tt;
}

-- nor one for which no memory is found
pub item_refused : (size from : ℕ) (old new : CellState) (x : Message) (why : Refusal) → old.part.message ≡ Some x → old_word x ≡ None →
    (y : Message) × (old.part.message ≡ Some y) × (why ≡ OutOfMemory) × (message_lacks_serials old.part.state from y None ≡ false) →
    ((y : Message) → old.part.message ≡ Some y → HasRoomToHandle (roomy old) from y None → false ≡ true) → new.part ≡ old.part → new.seen ≡ old.seen → Handles size from old (Err why) new
item_refused size sender old new x why is none h full part seen = record {
  message = h.0;
  in_hand = h.1;
  found = [];
  loaded = subst (λ (o : Option ℕ). OldLoaded size o []) (sym (ap old_named (sym h.1 ∙ is) ∙ none)) refl;
  seen = seen ∙ sym (append-nil old.seen);
  outcome = (h.2 ∙ sym (ap (λ (b : Bool). if b then NumbersEnd else OutOfMemory) h.3), part);
  full = λ room. absurd (let bad = full h.0 h.1 room in cc);
}

module _ (t : TableName) (first : CellState) (before : NodeSet) where
  -- so many turns have been taken, and the nodes that they touch were added
  pub record IsUnderWay (taken : ℕ) (touched : NodeSet) (now : CellState) : Type 0 where
    pub did : List Did
    pub turns : AreTurns t first did now
    pub many : taken ≡ length did
    pub added : (n : ℕ) → n < 64 → has_node touched n ≡ (some_touches did n || has_node before n)

  pub at_start : IsUnderWay 0 before first
  at_start = record { did = []; turns = refl; many = refl; added = λ n low. refl }

-- one turn more
one_more : (t : TableName) (first now next : CellState) (dids : List Did) (did : Did) → AreTurns t first dids now → TakesTurn t now did next →
    AreTurns t first (dids ++ did ∷ []) next
one_more t first now next [] did turns h = (next, subst (λ (c : CellState). TakesTurn t c did next) turns h, refl)
one_more t first now next (d ∷ ds) did turns h = (turns.0, turns.1, one_more t turns.0 now next ds did turns.2 h)

-- what one turn more touches
touches_more : (dids : List Did) (did : Did) (n : ℕ) (b : Bool) → (touches did.act n || (some_touches dids n || b)) ≡ (some_touches (dids ++ did ∷ []) n || b)
touches_more [] did n b = alone (touches did.act n)
  where
    alone : (t : Bool) → (t || b) ≡ ((t || false) || b)
    alone true = refl
    alone false = refl
touches_more (d ∷ ds) did n b = behind (touches did.act n) (touches d.act n) (some_touches ds n) (some_touches (ds ++ did ∷ []) n) (touches_more ds did n b)
  where
    behind : (t d s more : Bool) → (t || (s || b)) ≡ (more || b) → (t || ((d || s) || b)) ≡ ((d || more) || b)
    behind true true s more e = refl
    behind false true s more e = refl
    behind t false s more e = e

-- what an idle turn tells
idle_event : (t : TableName) (old new : CellState) (event : Happened) → Acts t acts.Idle old (Ok event) new → event ≡ events.Idle
unfolding stand_in event_of
idle_event t old new event h = go h.outcome.taken h.outcome.which h.outcome.done
  where
    idle : {p : Type 0} (taken : Act) → (taken ≡ acts.Idle) ⊎ ((taken ≡ acts.Idle) × p) → taken ≡ acts.Idle
    idle taken (inl e) = e
    idle taken (inr e) = e.0

    go : {p : Type 0} (taken : Act) → (taken ≡ acts.Idle) ⊎ ((taken ≡ acts.Idle) × p) → IsDone t old.part taken event new.part h.found → event ≡ events.Idle
    go taken which done = (subst (λ (a : Act). IsDone t old.part a event new.part h.found) (idle taken which) done).event_is

module _ (t : TableName) (limit : ℕ) (first now mid next : CellState) (before touched : NodeSet) (taken : ℕ) (act : Act) (way : IsUnderWay t first before taken touched now) (chosen : Chooses t now act mid) where
  pub more : (after : NodeSet) → act ≢ acts.Idle → (event : Happened) → Acts t act mid (Ok event) next →
      ((n : ℕ) → n < 64 → has_node after n ≡ (touches act n || has_node touched n)) → IsUnderWay t first before (taken + 1) after next
  more after busy event h adds = let did : Did = record { act = act; event = event } in record {
    did = way.did ++ did ∷ [];
    turns = one_more t first now next way.did did way.turns (record { turn = turn_done t act now mid next (Ok event) chosen h; act = turn_act t act now mid next (Ok event) chosen h; busy = busy });
    many = let many = way.many in let l = length-append way.did (did ∷ []) in omega (arith, many, l);
    added = λ n low. adds n low ∙ (ap (λ (b : Bool). touches act n || b) (way.added n low) ∙ touches_more way.did did n (has_node before n));
  }

  -- the end, at an idle turn, at a refused one, or at the limit
  pub ends_idle : taken < limit → act ≡ acts.Idle → (event : Happened) → Acts t act mid (Ok event) next → RunsTouching t limit first (Ok taken) before touched next
  ends_idle below idle event h = record {
    runs = record {
      did = way.did;
      last = now;
      taken = way.turns;
      end = (way.many, inr (below, record { turn = turn_done t act now mid next (Ok events.Idle) chosen nothing; idle = turn_act t act now mid next (Ok events.Idle) chosen nothing ∙ idle }));
    };
    touched = way.added;
  }
    where
      nothing : Acts t act mid (Ok events.Idle) next
      nothing = subst (λ (e : Happened). Acts t act mid (Ok e) next) (idle_event t mid next event (subst (λ (a : Act). Acts t a mid (Ok event) next) idle h)) h

  pub ends_refused : (why : Refusal) → taken < limit → Acts t act mid (Err why) next → RunsTouching t limit first (Err why) before touched next
  ends_refused why below h = record {
    runs = record {
      did = way.did;
      last = now;
      taken = way.turns;
      end = (let many = way.many in omega (arith, many, below), turn_done t act now mid next (Err why) chosen h);
    };
    touched = way.added;
  }

pub ends_full : (t : TableName) (limit : ℕ) (first now : CellState) (before touched : NodeSet) (taken : ℕ) → IsUnderWay t first before taken touched now → limit ≤ taken → taken ≤ limit →
    RunsTouching t limit first (Ok limit) before touched now
ends_full t limit first now before touched taken way up most = record {
  runs = record {
    did = way.did;
    last = now;
    taken = way.turns;
    end = (let many = way.many in omega (arith, many, up, most), inl (refl, refl));
  };
  touched = way.added;
}
