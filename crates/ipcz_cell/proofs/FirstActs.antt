-- What the loads of a turn have found, and which act comes first by it.
use Rattle.std.specs.Prelude.{◌≡◌, ◌≢◌, ◌⊎◌, ◌≤◌, ◌<◌, ◌+◌, ℕ, zero, suc, Bool, true, false, ◌&&◌, List, [], ◌∷◌, ◌++◌, ◌||◌, replicate, unwrap_or, MatchBool, MatchOption, Option, Some, None}
use Rattle.std.proofs.Common.{inl, inr, ⊎_elim, ap, sym, subst, ◌∙◌, refl, arith, append_assoc, append-nil}
use Rattle.std.specs.Int.{bit_at}
use mathlib.Core.Logic.{dite}
use native.Mathlib.Decide.{ℕ_discrete, dec_lt}
use Rattle.ipcz_base.specs.declared.end.End.{End}
use Rattle.ipcz_base.specs.Indexed.{place_at}
use Rattle.ipcz_node.specs.declared.act.Act.{Act}
use Rattle.ipcz_node.specs.declared.act.Act.TheVariants as acts
use Rattle.ipcz_node.specs.Node.{Node, Found, flagged_router}
use Rattle.ipcz_node.specs.Acts.{has_mail_for, first_number, next, node_turn, close_turn, router_turn}
use Rattle.ipcz_rule.specs.declared.view.Part.{Part}
use Rattle.ipcz_rule.specs.Rule.{has_number}
use Rattle.ipcz_rule.specs.Batches.{BatchMine}
use Rattle.ipcz_base.specs.declared.message.Message.{Message}
use Rattle.atomic_table.specs.Seated.{TableId}
use Rattle.ipcz_cell.specs.TableNames.{TableName}
use Rattle.ipcz_cell.specs.CellStates.{CellState, part_in}
use Rattle.ipcz_cell.specs.Cells.{IsCell, has_batch, is_hand_of}
use Rattle.ipcz_cell.proofs.Posting.{below_has}
use Rattle.ipcz_cell.specs.Mails.{HasSeen, mail_word, inbox_word}
use Rattle.ipcz_cell.specs.Turns.{WasFound, WasFoundClear, WasFoundOther, IsLast, NoneFull, NoneEmpty, IsOpen, IsShut, nothing_seen, IsFirstElse, IsFirst, HasLooked, Chooses, FindsFull, CanPost, FindsEmpty}

abbrev Loads : Type 0
Loads = List (ℕ × ℕ)

-- what was found is so with loads more after or before
found_more : (found more : Loads) (word n : ℕ) → WasFound found word n → WasFound (found ++ more) word n
found_more found more word n w = record {
  before = w.before;
  after = w.after ++ more;
  there = ap (λ (l : Loads). l ++ more) w.there ∙ append_assoc w.before ((word, n) ∷ w.after) more;
}

found_later : (first found : Loads) (word n : ℕ) → WasFound found word n → WasFound (first ++ found) word n
found_later first found word n w = record {
  before = first ++ w.before;
  after = w.after;
  there = ap (λ (l : Loads). first ++ l) w.there ∙ sym (append_assoc first w.before ((word, n) ∷ w.after));
}

other_more : (found more : Loads) (word n : ℕ) → WasFoundOther found word n → WasFoundOther (found ++ more) word n
other_more found more word n w = record { at = w.at; other = w.other; load = found_more found more word w.at w.load }

other_later : (first found : Loads) (word n : ℕ) → WasFoundOther found word n → WasFoundOther (first ++ found) word n
other_later first found word n w = record { at = w.at; other = w.other; load = found_later first found word w.at w.load }

last_later : (first found : Loads) (word n : ℕ) → IsLast found word n → IsLast (first ++ found) word n
last_later first found word n w = record {
  before = first ++ w.before;
  last = ap (λ (l : Loads). first ++ l) w.last ∙ sym (append_assoc first w.before ((word, n) ∷ []));
}

clear_more : (t : TableName) (node sender : ℕ) (found more : Loads) → WasFoundClear t node sender found → WasFoundClear t node sender (found ++ more)
clear_more t node sender found more c = record { at = c.at; clear = c.clear; load = found_more found more (inbox_word t node) c.at c.load }

-- the mailbox to a node from each below another was loaded, and wasn't found full, or the sender's bit wasn't set
abbrev NoneLoaded : TableName → ℕ → ℕ → Loads → Type 0
NoneLoaded t node end found = (from : ℕ) → from < end → WasFoundOther found (mail_word t from node) 1 ⊎ WasFoundClear t node from found

none_loaded_more : (t : TableName) (node end : ℕ) (found more : Loads) → NoneLoaded t node end found → NoneLoaded t node end (found ++ more)
none_loaded_more t node end found more h sender low = ⊎_elim (λ w. inl (other_more found more (mail_word t sender node) 1 w)) (λ c. inr (clear_more t node sender found more c)) (h sender low)

none_full_more : (t : TableName) (p : Part) (end : ℕ) (found more : Loads) → NoneFull t p end found → NoneFull t p end (found ++ more)
none_full_more t p end found more h sender low =
    let w = h sender low in
    (w.0, ⊎_elim (λ w. inl (other_more found more (mail_word t sender p.node) 1 w)) (λ c. inr (clear_more t p.node sender found more c)) w.1)

shut_more : (t : TableName) (p : Part) (to : ℕ) (found more : Loads) → IsShut t p to found → IsShut t p to (found ++ more)
shut_more t p to found more h mail = let w = h mail in (w.0, other_more found more (mail_word t p.node to) 0 w.1)

shut_later : (t : TableName) (p : Part) (to : ℕ) (first found : Loads) → IsShut t p to found → IsShut t p to (first ++ found)
shut_later t p to first found h mail = let w = h mail in (w.0, other_later first found (mail_word t p.node to) 0 w.1)

open_later : (t : TableName) (p : Part) (to : ℕ) (first found : Loads) → IsOpen t p to found → IsOpen t p to (first ++ found)
open_later t p to first found h = record { mail = h.mail; free = λ e. last_later first found (mail_word t p.node to) 0 (h.free e) }

-- loads, one after the other
looked_none : (a : CellState) → HasLooked [] a a
looked_none a = record { part = refl; room = refl; looked = refl; seen = sym (append-nil a.seen) }

looked_more : (first found : Loads) (a b c : CellState) → HasLooked first a b → HasLooked found b c → HasLooked (first ++ found) a c
looked_more first found a b c h k = record {
  part = k.part ∙ h.part;
  room = k.room ∙ h.room;
  looked = k.looked ∙ h.looked;
  seen = k.seen ∙ (ap (λ (l : Loads). l ++ found) h.seen ∙ append_assoc a.seen first found);
}

looked_one : (word n : ℕ) (a b : CellState) → HasSeen word n a b → HasLooked ((word, n) ∷ []) a b
looked_one word n a b h = record { part = h.part; room = h.room; looked = h.looked; seen = h.seen }

-- the mailboxes to a node from each below another were loaded, and none was full, or the sender's bit wasn't set; of the others it is known if
-- their bits aren't set
pub record LooksFull (t : TableName) (old now : CellState) (inbox end : ℕ) : Type 0 where
  pub found : Loads
  pub looked : HasLooked found old now
  pub none : NoneLoaded t old.part.node end found
  pub clear : (from : ℕ) → bit_at inbox from ≡ 0 → WasFoundClear t old.part.node from found

-- senders whose bits aren't set
pub full_pass : (t : TableName) (a b : CellState) (inbox end next : ℕ) → LooksFull t a b inbox end → ((j : ℕ) → end ≤ j → j < next → bit_at inbox j ≡ 0) → LooksFull t a b inbox next
full_pass t a b inbox end next l zeros = record {
  found = l.found;
  looked = l.looked;
  none = λ sender below. dite (dec_lt sender end) (λ low. l.none sender low) (λ high. inr (l.clear sender (zeros sender (omega (arith, high)) below)));
  clear = l.clear;
}

module _ (t : TableName) (a b c : CellState) (inbox end n node : ℕ) (own : node ≡ a.part.node) (l : LooksFull t a b inbox end) (h : HasSeen (mail_word t end node) n b c) where
  abbrev one : Loads
  one = (mail_word t end a.part.node, n) ∷ []

  seen : HasLooked one b c
  seen = looked_one (mail_word t end a.part.node) n b c (subst (λ (k : ℕ). HasSeen (mail_word t end k) n b c) own h)

  -- one load more, which found the mailbox not full
  pub full_more : n ≢ 1 → LooksFull t a c inbox (end + 1)
  full_more other = record {
    found = l.found ++ one;
    looked = looked_more l.found one a b c l.looked seen;
    none = λ sender low. dite (ℕ_discrete sender end)
        (λ same. inl (subst (λ (k : ℕ). WasFoundOther (l.found ++ one) (mail_word t k a.part.node) 1) (sym same) (record { at = n; other = other; load = record { before = l.found; after = []; there = refl } })))
        (λ apart. none_loaded_more t a.part.node end l.found one l.none sender (omega (arith, low, apart)));
    clear = λ sender bit. clear_more t a.part.node sender l.found one (l.clear sender bit);
  }

  -- or found it full
  pub full_found : n ≡ 1 → end < t.count → ((sender : ℕ) → sender ≤ end → has_batch a.part sender ≡ false) → FindsFull t a (Some end) c
  full_found is low none_left = record {
    found = l.found ++ one;
    looked = looked_more l.found one a b c l.looked seen;
    first = (
      low,
      (λ sender below. (none_left sender (omega (arith, below)), none_loaded_more t a.part.node end l.found one l.none sender below)),
      subst (λ (d : Bool). MatchBool d (Unit {0}) (IsLast (l.found ++ one) (mail_word t end a.part.node) 1)) (sym (none_left end (omega arith)))
          (record { before = l.found; last = λ j. l.found ++ (mail_word t end a.part.node, is j) ∷ [] }),
    );
  }

-- the lowest sender of whose batch something is left, if there is one
pub record IsLowest (t : TableName) (p : Part) (lowest : Option ℕ) : Type 0 where
  pub below : (sender : ℕ) → sender < unwrap_or lowest t.count → has_batch p sender ≡ false
  pub is : (sender : ℕ) → lowest ≡ Some sender → (has_batch p sender ≡ true) × (sender < t.count)
  pub inside : unwrap_or lowest t.count ≤ t.count

pub full_end : (t : TableName) (a b : CellState) (inbox end : ℕ) (lowest : Option ℕ) → IsLowest t a.part lowest → unwrap_or lowest t.count ≤ end → LooksFull t a b inbox end → FindsFull t a lowest b
full_end t a b inbox end None low most l =
    record { found = l.found; looked = l.looked; first = λ sender below. (low.below sender below, l.none sender (omega (arith, below, most))) }
full_end t a b inbox end (Some lowest) low most l = let at = low.is lowest refl in record {
  found = l.found;
  looked = l.looked;
  first = (
    at.1,
    (λ sender below. (low.below sender below, l.none sender (omega (arith, below, most)))),
    subst (λ (d : Bool). MatchBool d (Unit {0}) (IsLast l.found (mail_word t lowest a.part.node) 1)) (sym at.0) tt,
  );
}

-- the senders whose slots a cell has without a message in hand are those of whose batches something is left
module _ (t : TableName) (n : Node) (hand : Option Message) (tos senders : List ℕ) (id : TableId) (me : BatchMine) (was : IsCell t n hand tos senders id me) (a : CellState) (part : part_in me.0 ≡ a.part)
    (idle : a.part.state.hand ≡ None) where
  has_left : (s : ℕ) → has_number senders s ≡ has_batch a.part s
  has_left s =
      let none : n.hand ≡ None = ap (λ (z : Node). z.hand) (sym was.seated.state) ∙ (ap (λ (p : Part). p.state.hand) part ∙ idle) in
      was.held s ∙ λ j. is_hand_of (none j) s || has_batch (part j) s

  pub lowest_is : (lowest : Option ℕ) → MatchOption lowest (senders ≡ []) (λ low. (has_number senders low ≡ true) × ((j : ℕ) → has_number senders j ≡ true → low ≤ j)) → IsLowest t a.part lowest
  lowest_is None none = record {
    below = λ s l. sym (has_left s) ∙ ap (λ (xs : List ℕ). has_number xs s) none;
    is = λ s e. absurd cc;
    inside = omega arith;
  }
  lowest_is (Some low) h = let inside = below_has t.count senders low was.within h.0 in record {
    below = λ s l. sym (has_left s) ∙ missing (has_number senders s) (λ e. let up = h.1 s e in omega (arith, up, l));
    is = λ s e. let same : low ≡ s = cc in subst (λ (k : ℕ). (has_batch a.part k ≡ true) × (k < t.count)) same (sym (has_left low) ∙ h.0, inside);
    inside = omega (arith, inside);
  }
    where
      missing : (b : Bool) → (b ≡ true → ⊥) → b ≡ false
      missing true f = absurd (f refl)
      missing false f = refl

-- to no node below another can a message be posted
pub record LooksEmpty (t : TableName) (old now : CellState) (end : ℕ) : Type 0 where
  pub found : Loads
  pub looked : HasLooked found old now
  pub none : NoneEmpty t old.part end found

pub empty_none : (t : TableName) (a : CellState) → LooksEmpty t a a 0
empty_none t a = record { found = []; looked = looked_none a; none = λ to low. absurd (omega (arith, low)) }

module _ (t : TableName) (a b c : CellState) (end : ℕ) (l : LooksEmpty t a b end) where
  -- one destination more, to which no message can be posted
  pub empty_more : CanPost t end b false c → LooksEmpty t a c (end + 1)
  empty_more h = let shut = subst (λ (p : Part). IsShut t p end h.found) l.looked.part h.can in record {
    found = l.found ++ h.found;
    looked = looked_more l.found h.found a b c l.looked h.looked;
    none = λ to low. dite (ℕ_discrete to end)
        (λ same. subst (λ (k : ℕ). IsShut t a.part k (l.found ++ h.found)) (sym same) (shut_later t a.part end l.found h.found shut))
        (λ apart. shut_more t a.part to l.found h.found (l.none to (omega (arith, low, apart))));
  }

  -- or one can
  pub empty_found : CanPost t end b true c → end < t.count → FindsEmpty t a (Some end) c
  empty_found h low = let open_there = subst (λ (p : Part). IsOpen t p end h.found) l.looked.part h.can in record {
    found = l.found ++ h.found;
    looked = looked_more l.found h.found a b c l.looked h.looked;
    first = (low, (λ to below. shut_more t a.part to l.found h.found (l.none to below)), open_later t a.part end l.found h.found open_there);
  }

-- nodes that no message waits for
pub empty_pass : (t : TableName) (a b : CellState) (end next : ℕ) → LooksEmpty t a b end → ((j : ℕ) → end ≤ j → j < next → has_mail_for a.part.state j ≡ false) → LooksEmpty t a b next
empty_pass t a b end next l nothing = record {
  found = l.found;
  looked = l.looked;
  none = λ to below. dite (dec_lt to end) (λ low. l.none to low) (λ high mail. absurd (let bad = sym (nothing to (omega (arith, high)) below) ∙ mail in cc));
}

-- to no node can a message be posted
pub empty_end : (t : TableName) (a b : CellState) (end : ℕ) → t.count ≤ end → LooksEmpty t a b end → FindsEmpty t a None b
empty_end t a b end all l = record { found = l.found; looked = l.looked; first = λ to low. l.none to (omega (arith, low, all)) }

-- no number passes a test that none passes
none_passes : (test : ℕ → Bool) → ((k : ℕ) → test k ≡ false) → (i count : ℕ) → first_number test i count ≡ None
none_passes test fails i zero = refl
none_passes test fails i (suc left) = rw (fails i) (none_passes test fails (i + 1) left)

no_place : (n k : ℕ) → place_at false (replicate n false) k ≡ false
unfolding place_at
no_place zero k = refl
no_place (suc n) zero = refl
no_place (suc n) (suc k) = no_place n k

and_false : (b c : Bool) → c ≡ false → (b && c) ≡ false
and_false true c e = e
and_false false c e = refl

-- without a message in hand and without any mailbox, a pending close comes first, and then a router
next_is : (n : Node) → n.hand ≡ None → next n nothing_seen ≡ close_turn n.pending (router_turn (flagged_router n))
unfolding next node_turn
next_is n idle = rw (idle, none_passes (λ sender. place_at false nothing_seen.full sender) (no_place 64) 0 n.count, none_passes (λ to. has_mail_for n to && place_at false nothing_seen.empty to) (λ k. and_false (has_mail_for n k) _ (no_place 64 k)) 0 n.count) refl

rest_first : (t : TableName) (p : Part) (found : Loads) (act : Act) (ends : List End) (o : Option Found) → IsFirstElse t p found act → act ≡ close_turn ends (router_turn o) → IsFirst t p found act
unfolding close_turn router_turn
rest_first t p found act (e ∷ ends) o h is = subst (IsFirst t p found) (sym is) (subst (IsFirstElse t p found) is h)
rest_first t p found act [] None h is = subst (IsFirst t p found) (sym is) (subst (IsFirstElse t p found) is h)
rest_first t p found act [] (Some f) h is = subst (IsFirst t p found) (sym is) (subst (IsFirstElse t p found) is h)

module _ (t : TableName) (a b c : CellState) (o q : Option ℕ) (none : o ≡ None) (idle : a.part.state.hand ≡ None) (full : FindsFull t a o b) (empty : FindsEmpty t b q c) where
  before : FindsFull t a None b
  before = subst (λ (z : Option ℕ). FindsFull t a z b) none full

  after : (z : Option ℕ) → q ≡ z → FindsEmpty t b z c
  after z e = subst (λ (y : Option ℕ). FindsEmpty t b y c) e empty

  pub post_chosen : (to : ℕ) → q ≡ Some to → Chooses t a (acts.Post to) c
  post_chosen to e =
      let h = after (Some to) e in
      let same = before.looked.part in
      record {
        found = before.found ++ h.found;
        looked = looked_more before.found h.found a b c before.looked h.looked;
        first = record {
          inside = h.first.0;
          idle = idle;
          none = none_full_more t a.part t.count before.found h.found before.first;
          lowest = λ k low. shut_later t a.part k before.found h.found (subst (λ (p : Part). IsShut t p k h.found) same (h.first.1 k low));
          can = open_later t a.part to before.found h.found (subst (λ (p : Part). IsOpen t p to h.found) same h.first.2);
        };
      }

  pub else_chosen : (act : Act) → q ≡ None → act ≡ close_turn c.part.state.pending (router_turn (flagged_router c.part.state)) → Chooses t a act c
  else_chosen act e is =
      let h = after None e in
      let same = before.looked.part in
      let found = before.found ++ h.found in
      let looked = looked_more before.found h.found a b c before.looked h.looked in
      let own : act ≡ close_turn a.part.state.pending (router_turn (flagged_router a.part.state)) =
      is ∙ ap (λ (p : Part). close_turn p.state.pending (router_turn (flagged_router p.state))) looked.part in
      let first : IsFirstElse t a.part found act = record {
        idle = idle;
        none = none_full_more t a.part t.count before.found h.found before.first;
        lowest = λ k low. shut_later t a.part k before.found h.found (subst (λ (p : Part). IsShut t p k h.found) same (h.first k low));
        first = own ∙ sym (next_is a.part.state idle);
      } in
      record {
        found = found;
        looked = looked;
        first = rest_first t a.part found act a.part.state.pending (flagged_router a.part.state) first own;
      }
