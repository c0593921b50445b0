-- What steps on mailboxes have in common, on a table of batches: the mailbox of such a step, and that the table after it folds a single one.
use Rattle.std.specs.Prelude.{◌≡◌, ◌≢◌, ◌<◌, ◌+◌, ◌*◌, ℕ, zero, suc, Bool, true, false, cond, nat_eq, List, [], ◌∷◌, map, length, slice_index, Some, refl}
use Rattle.std.specs.Int.{bit_at}
use Rattle.std.proofs.Common.{arith, ap, ◌∙◌, sym, subst, ⊎_elim, set, length-set, get_or-set_same, get_or-set_other}
use Rattle.std.proofs.lemmas.Bool.Decides.{nat_tests}
use mathlib.Core.Option.{some}
use mathlib.Core.Option as maybe
use mathlib.Core.Logic.{dite}
use native.Mathlib.Decide.{ℕ_discrete}
use lib.ListN.{get_elem?}
use Rattle.atomic_table.specs.Table.{Act as TableAct, Valid, carried_after, homes_after}
use Rattle.atomic_table.proofs.Lists.{at_map, at_set, set_here, set_else}
use Rattle.ipcz_base.specs.Indexed.{place_at, put_place}
use Rattle.ipcz_node.specs.Node.{Node}
use Rattle.ipcz_world.specs.World.{mail_at, way}
use Rattle.ipcz_rule.specs.declared.view.View.{View}
use Rattle.ipcz_rule.specs.declared.view.Part.{Part}
use Rattle.ipcz_rule.specs.Rule.{Slot, Homes, St, Spells, Rules, has_number, mailbox}
use Rattle.ipcz_rule.specs.Batches.{Batch, BatchSt, plain_count, batch_from, shown_part, ViewFolds, MailFolds, MailboxFolds, Folds}
use Rattle.ipcz_rule.proofs.BatchSteps.{all_back, back_stays, word_total}
use Rattle.ipcz_rule.proofs.FromLaws.{hand_stands, hand_sender}
use Rattle.ipcz_rule.proofs.Histories.{only}
use Rattle.ipcz_rule.proofs.Inboxes.{box_is}
use Rattle.ipcz_rule.proofs.Mailing.{way_low, way_first, way_second}
use Rattle.ipcz_rule.proofs.Moved.{at_inside, spelled}
use Rattle.ipcz_rule.proofs.Returning.{any_home}

-- lists by index: the place that was put, and all others
pub place_here : {X : Type 0} (fs : List (List X)) (i : ℕ) (xs : List X) → place_at [] (put_place [] fs i xs) i ≡ xs
unfolding place_at put_place
place_here [] zero xs = refl
place_here [] (suc i) xs = place_here [] i xs
place_here (f ∷ fs) zero xs = refl
place_here (f ∷ fs) (suc i) xs = place_here fs i xs

pub place_else : {X : Type 0} (fs : List (List X)) (i : ℕ) (xs : List X) (j : ℕ) → j ≢ i → place_at [] (put_place [] fs i xs) j ≡ place_at [] fs j
unfolding place_at put_place
place_else [] zero xs zero ne = absurd (ne refl)
place_else [] zero xs (suc j) ne = refl
place_else [] (suc i) xs zero ne = refl
place_else [] (suc i) xs (suc j) ne = place_else [] i xs j (λ e. ne (ap suc e))
place_else (f ∷ fs) zero xs zero ne = absurd (ne refl)
place_else (f ∷ fs) zero xs (suc j) ne = refl
place_else (f ∷ fs) (suc i) xs zero ne = refl
place_else (f ∷ fs) (suc i) xs (suc j) ne = place_else fs i xs j (λ e. ne (ap suc e))

-- another mailbox than that from a node to another
abbrev pub Apart : (n to a c : ℕ) → Type 0
Apart n to a c = a ≡ n → c ≢ to

-- what is in front of the nodes' outboxes, of which one node has other
abbrev pub changed_at : ℕ → List Batch → (ℕ → List Batch) → ℕ → List Batch
changed_at n fs fronts a = cond (nat_eq a n) fs (fronts a)

pub changed_at_here : (n : ℕ) (fs : List Batch) (fronts : ℕ → List Batch) → changed_at n fs fronts n ≡ fs
changed_at_here n fs fronts = let b : nat_eq n n ≡ true = grind (arith, nat_tests) in ap (λ c. cond c fs (fronts n)) b

pub changed_at_else : (n : ℕ) (fs : List Batch) (fronts : ℕ → List Batch) (a : ℕ) → a ≢ n → changed_at n fs fronts a ≡ fronts a
changed_at_else n fs fronts a ne = let b : nat_eq a n ≡ false = grind (arith, nat_tests, ne) in ap (λ c. cond c fs (fronts a)) b

pub front_else : (fronts : ℕ → List Batch) (n to : ℕ) (fs : List Batch) → ((c : ℕ) → c ≢ to → place_at [] fs c ≡ place_at [] (fronts n) c) →
    (a c : ℕ) → Apart n to a c → place_at [] (changed_at n fs fronts a) c ≡ place_at [] (fronts a) c
front_else fronts n to fs same a c apart = dite (ℕ_discrete a n)
    (λ e. ap (λ z. place_at [] (changed_at n fs fronts z) c) e ∙ (ap (λ z. place_at [] z c) (changed_at_here n fs fronts) ∙ (same c (apart e) ∙ ap (λ z. place_at [] (fronts z) c) (sym e))))
    (λ ne. ap (λ z. place_at [] z c) (changed_at_else n fs fronts a ne))

-- what is left of batches, of which one receiver has other of one sender
abbrev pub left_with : ℕ → ℕ → Batch → (ℕ → ℕ → Batch) → ℕ → ℕ → Batch
left_with n to xs left a c = cond (nat_eq a n) (cond (nat_eq c to) xs (left a c)) (left a c)

pub left_here : (n to : ℕ) (xs : Batch) (left : ℕ → ℕ → Batch) → left_with n to xs left n to ≡ xs
left_here n to xs left =
    let b : nat_eq n n ≡ true = grind (arith, nat_tests) in
    let d : nat_eq to to ≡ true = grind (arith, nat_tests) in
    ap (λ c. cond c (cond (nat_eq to to) xs (left n to)) (left n to)) b ∙ ap (λ c. cond c xs (left n to)) d

pub left_else : (n to : ℕ) (xs : Batch) (left : ℕ → ℕ → Batch) (a c : ℕ) → Apart n to a c → left_with n to xs left a c ≡ left a c
left_else n to xs left a c apart = dite (ℕ_discrete a n)
    (λ e. let ne = apart e in
    let b : nat_eq a n ≡ true = grind (arith, nat_tests, e) in
    let d : nat_eq c to ≡ false = grind (arith, nat_tests, ne) in
    ap (λ z. cond z (cond (nat_eq c to) xs (left a c)) (left a c)) b ∙ ap (λ z. cond z xs (left a c)) d)
    (λ ne. let b : nat_eq a n ≡ false = grind (arith, nat_tests, ne) in ap (λ z. cond z (cond (nat_eq c to) xs (left a c)) (left a c)) b)

-- a mailbox of which single ones are known
pub folds_three : (n : ℕ) (home : maybe.Option (maybe.Option Batch)) (single : ℕ) (one : maybe.Option (maybe.Option Slot)) (rest left : Batch) → MailFolds n home single one rest left → single ≡ 3 →
    (rest ≡ []) × (left ≡ [])
folds_three zero home single one rest left h e = let z = h.1 in absurd (omega (arith, z, e))
folds_three (suc zero) home single one rest left h e = let z = h.2 in absurd (omega (arith, z, e))
folds_three (suc (suc zero)) home single one rest left h e = ⊎_elim (λ t. let z = t.0 in absurd (omega (arith, z, e))) (λ t. let z = t.1 in absurd (omega (arith, z, e))) h
folds_three (suc (suc (suc zero))) home single one rest left h e = (h.1, h.2)
folds_three (suc (suc (suc (suc n)))) home single one rest left h e = absurd h

pub folds_two : (n : ℕ) (home : maybe.Option (maybe.Option Batch)) (single : ℕ) (one : maybe.Option (maybe.Option Slot)) (rest left : Batch) → MailFolds n home single one rest left → single ≡ 2 →
    (n ≡ 2) × (left ≡ rest)
folds_two zero home single one rest left h e = let z = h.1 in absurd (omega (arith, z, e))
folds_two (suc zero) home single one rest left h e = let z = h.2 in absurd (omega (arith, z, e))
folds_two (suc (suc zero)) home single one rest left h e = ⊎_elim (λ t. (refl, t.1)) (λ t. let z = t.1 in absurd (omega (arith, z, e))) h
folds_two (suc (suc (suc zero))) home single one rest left h e = let z = h.0 in absurd (omega (arith, z, e))
folds_two (suc (suc (suc (suc n)))) home single one rest left h e = absurd h

-- one of which something is left
pub folds_left : (n : ℕ) (home : maybe.Option (maybe.Option Batch)) (single : ℕ) (one : maybe.Option (maybe.Option Slot)) (rest left : Batch) → MailFolds n home single one rest left → left ≢ [] →
    (n ≡ 2) × MailFolds 2 home single one rest left
folds_left zero home single one rest left h some_left = absurd (some_left h.3)
folds_left (suc zero) home single one rest left h some_left = absurd (some_left h.4)
folds_left (suc (suc zero)) home single one rest left h some_left = (refl, h)
folds_left (suc (suc (suc zero))) home single one rest left h some_left = absurd (some_left h.2)
folds_left (suc (suc (suc (suc n)))) home single one rest left h some_left = absurd h

-- one that is empty, and one that is full
pub folds_zero : (n : ℕ) (home : maybe.Option (maybe.Option Batch)) (single : ℕ) (one : maybe.Option (maybe.Option Slot)) (rest left : Batch) → MailFolds n home single one rest left → n ≡ 0 →
    MailFolds 0 home single one rest left
folds_zero n home single one rest left h e = subst (λ z. MailFolds z home single one rest left) e h

pub folds_one : (n : ℕ) (home : maybe.Option (maybe.Option Batch)) (single : ℕ) (one : maybe.Option (maybe.Option Slot)) (rest left : Batch) → MailFolds n home single one rest left → n ≡ 1 →
    MailFolds 1 home single one rest left
folds_one n home single one rest left h e = subst (λ z. MailFolds z home single one rest left) e h

-- the same mailbox, of which each is the same
pub same_folds : {n n' : ℕ} {home home' : maybe.Option (maybe.Option Batch)} {single single' : ℕ} {one one' : maybe.Option (maybe.Option Slot)} {rest rest' left left' : Batch} →
    n ≡ n' → home ≡ home' → single ≡ single' → one ≡ one' → rest ≡ rest' → left ≡ left' → MailFolds n home single one rest left → MailFolds n' home' single' one' rest' left'
same_folds {n} {n'} {home} {home'} {single} {single'} {one} {one'} {rest} {rest'} {left} {left'} a b c d e g h =
    subst (λ z. MailFolds z home' single' one' rest' left') a
    (subst (λ z. MailFolds n z single' one' rest' left') b
    (subst (λ z. MailFolds n home z one' rest' left') c
    (subst (λ z. MailFolds n home single z rest' left') d
    (subst (λ z. MailFolds n home single one z left') e
    (subst (λ z. MailFolds n home single one rest z) g h)))))

-- the slots of a seat that gives the one that it carries
pub homes_gave : {S : Type 0} (hs : List (maybe.Option S)) (a : TableAct S) (k : ℕ) (y : S) → Valid hs ((k, y) ∷ []) a → carried_after ((k, y) ∷ []) a ≡ [] → homes_after hs ((k, y) ∷ []) a ≡ set hs k (some y)
homes_gave hs a k y valid none_left = ap (all_back (homes_after hs ((k, y) ∷ []) a)) (sym none_left) ∙ back_stays hs ((k, y) ∷ []) a valid

-- and of one that takes one
pub record Took {S : Type 0} (hs hs' : List (maybe.Option S)) (k : ℕ) (y : S) : Type 0 where
  pub deep : length hs' ≡ length hs
  pub else : (j : ℕ) → j ≢ k → get_elem? hs' j ≡ get_elem? hs j
  pub was : k < length hs → get_elem? hs k ≡ some (some y)

took_of : {S : Type 0} (hs hs' : List (maybe.Option S)) (k : ℕ) (y : S) → set hs' k (some y) ≡ hs → Took hs hs' k y
took_of hs hs' k y e =
    let deep : length hs' ≡ length hs = sym (length-set hs' k (some y)) ∙ ap length e in record {
      deep = deep;
      else = λ j ne. sym (set_else hs' k j (some y) ne) ∙ ap (λ l. get_elem? l j) e;
      was = λ inside. ap (λ l. get_elem? l k) (sym e) ∙ set_here hs' k (some y) (omega (arith, deep, inside));
    }

pub homes_took : {S : Type 0} (hs : List (maybe.Option S)) (a : TableAct S) (k : ℕ) (y : S) → Valid hs [] a → carried_after [] a ≡ (k, y) ∷ [] → Took hs (homes_after hs [] a) k y
homes_took hs a k y valid took = took_of hs (homes_after hs [] a) k y (ap (all_back (homes_after hs [] a)) (sym took) ∙ back_stays hs [] a valid)

-- two nodes have but one mailbox
pub same_way : (count n to a c : ℕ) → to < count → c < count → a * count + c ≡ n * count + to → (a ≡ n) × (c ≡ to)
same_way count n to a c to_in c_in e = (
  dite (ℕ_discrete a n) (λ same. same) (λ ne. absurd (way_first count a n c to c_in to_in ne e)),
  dite (ℕ_discrete c to) (λ same. same) (λ ne. absurd (way_second count a n c to c_in to_in ne e)),
)

module _ {count size : ℕ} {alone : Bool} {s : BatchSt} {t : St} {fronts : ℕ → List Batch} {left : ℕ → ℕ → Batch} (f : Folds count size alone s t fronts left) (r : Rules count size t) where
  -- the seat's part in the single table says of its world what the rule says
  pub spelled_there : (id : ℕ) (v : View) (p : Part) → get_elem? s.views id ≡ some v → v.parts ≡ p ∷ [] → Spells t.words r.world (shown_part fronts p)
  spelled_there id v p at is = let h = f.views id v at in spelled t r id h.0 (shown_part fronts p) h.1 (h.2.parts ∙ ap (map (shown_part fronts)) is)

  pub node_below : (id : ℕ) (v : View) (p : Part) → get_elem? s.views id ≡ some v → v.parts ≡ p ∷ [] → p.node < count
  node_below id v p at is = let l = (spelled_there id v p at is).inside in let c = r.nodes in omega (arith, l, c)

  -- no other seat has a part of that node
  pub node_apart : (id : ℕ) (v : View) (p : Part) → get_elem? s.views id ≡ some v → v.parts ≡ p ∷ [] → (j : ℕ) (w : View) (k : ℕ) (q : Part) → j ≢ id → get_elem? s.views j ≡ some w → get_elem? w.parts k ≡ some q →
      q.node ≢ p.node
  node_apart id v p at is j w k q ne seat there same =
      let h = f.views id v at in
      let g = f.views j w seat in
      let mine = (r.shows.parts id h.0 0 (shown_part fronts p) h.1 (ap (λ l. get_elem? l 0) (h.2.parts ∙ ap (map (shown_part fronts)) is))).0 in
      let its = (r.shows.parts j g.0 k (shown_part fronts q) g.1 (ap (λ l. get_elem? l k) g.2.parts ∙ at_map (shown_part fronts) w.parts k q there)).0 in
      ne (sym its ∙ (ap r.owner same ∙ mine))

  -- a mailbox that the seat has probed
  pub probed_three : (id : ℕ) (v : View) (p : Part) (to : ℕ) → get_elem? s.views id ≡ some v → v.parts ≡ p ∷ [] → to < count → has_number p.probed to ≡ true →
      slice_index t.words (size + 1 + count + (p.node * count + to)) ≡ 3
  probed_three id v p to at is to_in has =
      let c = r.nodes in
      let e = sym ((spelled_there id v p at is).probed to (omega (arith, c, to_in))) ∙ has in
      let three : slice_index t.words (mailbox r.world (way r.world p.node to)) ≡ 3 = grind (arith, e, nat_tests) in
      ap (slice_index t.words) (sym (box_is r p.node to)) ∙ three

  -- the mailbox of the message in the seat's hand
  pub hand_two : (id : ℕ) (v : View) (p : Part) (from : ℕ) → get_elem? s.views id ≡ some v → v.parts ≡ p ∷ [] → p.state.hand ≡ Some from →
      (from < count) × (slice_index t.words (size + 1 + count + (from * count + p.node)) ≡ 2)
  hand_two id v p from at is holds =
      let w = r.world in
      let sp = spelled_there id v p at is in
      let n_in = sp.inside in
      let c = r.nodes in
      let hand_is = ap (λ (y : Node). y.hand) sp.state ∙ holds in
      let from_in = hand_sender w r.books r.routes p.node from r.lawful n_in hand_is in
      let inside : way w from p.node < w.count * w.count = let h = way_low w.count from w.count p.node 0 n_in from_in in omega (arith, h) in
      let two = (any_home (slice_index t.words (mailbox w (way w from p.node))) (get_elem? t.homes (way w from p.node)) (get_elem? t.homes (way w from p.node)) (mail_at w (way w from p.node))
      (hand_stands w r.books r.routes p.node from r.lawful n_in hand_is) (r.shows.mail (way w from p.node) inside)).0 in
      (omega (arith, from_in, c), ap (slice_index t.words) (sym (box_is r from p.node)) ∙ two)

  -- the mailbox from a node to another
  module _ (n to : ℕ) (n_in : n < count) (to_in : to < count) (i k : ℕ) (at_k : k ≡ n * count + to) (at_i : i ≡ size + 1 + count + k) where
    pub mail_here : MailFolds (slice_index s.words i) (get_elem? s.homes k) (slice_index t.words i) (get_elem? t.homes k) (place_at [] (fronts n) to) (left n to)
    mail_here =
        let e : i ≡ plain_count count size + (n * count + to) = at_i ∙ ap (λ c. size + 1 + count + c) at_k in
        same_folds (ap (slice_index s.words) (sym e)) (ap (get_elem? s.homes) (sym at_k)) (ap (slice_index t.words) (sym e)) (ap (get_elem? t.homes) (sym at_k)) refl refl (f.mail n to n_in to_in)

    low : k < count * count
    low = let h = way_low count n count to 0 to_in n_in in omega (arith, h, at_k)

    pub in_homes : k < length t.homes
    in_homes = let l = low in let d = r.shows.deep ∙ ap (λ c. c * c) r.nodes in omega (arith, l, d)

    pub in_words : i < length t.words
    in_words = let l = low in let d = word_total f r in omega (arith, l, d, at_i)

    -- the mailboxes after a step, if those but this one are as they were
    pub boxes_fold : (s' : BatchSt) (t' : St) (fronts' : ℕ → List Batch) (left' : ℕ → ℕ → Batch) →
        ((j : ℕ) → j ≢ k → slice_index s'.words (plain_count count size + j) ≡ slice_index s.words (plain_count count size + j)) →
        ((j : ℕ) → j ≢ k → slice_index t'.words (plain_count count size + j) ≡ slice_index t.words (plain_count count size + j)) →
        ((j : ℕ) → j ≢ k → get_elem? s'.homes j ≡ get_elem? s.homes j) → ((j : ℕ) → j ≢ k → get_elem? t'.homes j ≡ get_elem? t.homes j) →
        ((a c : ℕ) → Apart n to a c → place_at [] (fronts' a) c ≡ place_at [] (fronts a) c) → ((a c : ℕ) → Apart n to a c → left' a c ≡ left a c) →
        MailFolds (slice_index s'.words i) (get_elem? s'.homes k) (slice_index t'.words i) (get_elem? t'.homes k) (place_at [] (fronts' n) to) (left' n to) →
        (a c : ℕ) → a < count → c < count → MailboxFolds count size s' t' fronts' left' a c
    boxes_fold s' t' fronts' left' words words_there homes homes_there front its shown a c a_in c_in = dite (ℕ_discrete (a * count + c) k)
        (λ same.
        let e = same_way count n to a c to_in c_in (same ∙ at_k) in
        let word : i ≡ plain_count count size + (a * count + c) = at_i ∙ ap (λ z. size + 1 + count + z) (sym same) in
        same_folds (ap (slice_index s'.words) word) (ap (get_elem? s'.homes) (sym same)) (ap (slice_index t'.words) word) (ap (get_elem? t'.homes) (sym same))
        (ap (λ z. place_at [] (fronts' z) to) (sym e.0) ∙ ap (place_at [] (fronts' a)) (sym e.1)) (ap (λ z. left' z to) (sym e.0) ∙ ap (left' a) (sym e.1)) shown)
        (λ ne.
        let apart : Apart n to a c = λ ea ec. ne (ap (λ z. z * count + c) ea ∙ (ap (λ z. n * count + z) ec ∙ sym at_k)) in
        same_folds (sym (words (a * count + c) ne)) (sym (homes (a * count + c) ne)) (sym (words_there (a * count + c) ne)) (sym (homes_there (a * count + c) ne)) (sym (front a c apart)) (sym (its a c apart)) (f.mail a c a_in c_in))

    -- words of which those of the mailboxes but this one are as they were, and so are those before them
    pub record MailWords (ws wt : List ℕ) : Type 0 where
      pub long : length ws ≡ length s.words
      pub long_there : length wt ≡ length t.words
      pub words : (j : ℕ) → j < plain_count count size → slice_index ws j ≡ slice_index s.words j
      pub words_there : (j : ℕ) → j < plain_count count size → slice_index wt j ≡ slice_index t.words j
      pub boxes : (j : ℕ) → j ≢ k → slice_index ws (plain_count count size + j) ≡ slice_index s.words (plain_count count size + j)
      pub boxes_there : (j : ℕ) → j ≢ k → slice_index wt (plain_count count size + j) ≡ slice_index t.words (plain_count count size + j)

    -- the table after a step on this mailbox folds the single one after its step
    pub mail_step_by : (ws wt : List ℕ) → MailWords ws wt → (hs : List (maybe.Option Batch)) (ht : Homes) (fronts' : ℕ → List Batch) (left' : ℕ → ℕ → Batch) → length hs ≡ length s.homes → length ht ≡ length t.homes →
        ((j : ℕ) → j ≢ k → get_elem? hs j ≡ get_elem? s.homes j) → ((j : ℕ) → j ≢ k → get_elem? ht j ≡ get_elem? t.homes j) →
        ((a c : ℕ) → Apart n to a c → place_at [] (fronts' a) c ≡ place_at [] (fronts a) c) → ((a c : ℕ) → Apart n to a c → left' a c ≡ left a c) →
        MailFolds (slice_index ws i) (get_elem? hs k) (slice_index wt i) (get_elem? ht k) (place_at [] (fronts' n) to) (left' n to) →
        (id : ℕ) (v v' u' : View) (p' : Part) → get_elem? s.views id ≡ some v → v'.parts ≡ p' ∷ [] → ViewFolds count size fronts' v' u' →
        ((from : ℕ) → from < count → batch_from p' from ≡ left' from p'.node) →
        ((j : ℕ) (w y : View) → j ≢ id → get_elem? s.views j ≡ some w → ViewFolds count size fronts w y → ViewFolds count size fronts' w y) →
        ((j : ℕ) (w : View) (c : ℕ) (q : Part) (from : ℕ) → j ≢ id → get_elem? s.views j ≡ some w → get_elem? w.parts c ≡ some q → left' from q.node ≡ left from q.node) →
        ((from to : ℕ) → from < count → to < count → left' from to ≢ [] → bit_at (slice_index s.words (size + 1 + to)) from ≡ 1) →
        (alone ≡ true → (from : ℕ) → fronts' from ≡ []) → (alone ≡ true → (from to : ℕ) → left' from to ≡ []) →
        Folds count size alone (record { words = ws; homes = hs; views = set s.views id v' }) (record { words = wt; homes = ht; views = set t.views id u' }) fronts' left'
    mail_step_by ws wt w hs ht fronts' left' deep deep_there homes homes_there front its shown id v v' u' p' at is' own mine other_views other_parts announced none_behind none_left =
        let there = f.views id v at in record {
          wide = w.long ∙ (f.wide ∙ sym w.long_there);
          deep = deep ∙ (f.deep ∙ sym deep_there);
          many = length-set s.views id v' ∙ (f.many ∙ sym (length-set t.views id u'));
          words = λ j l. w.words j l ∙ (f.words j l ∙ sym (w.words_there j l));
          mail = boxes_fold (record { words = ws; homes = hs; views = set s.views id v' }) (record { words = wt; homes = ht; views = set t.views id u' }) fronts' left' w.boxes w.boxes_there homes homes_there front its shown;
          views = λ j x seat. ⊎_elim
              (λ (h : (j ≡ id) × (v' ≡ x)). (
                u',
                ap (get_elem? (set t.views id u')) h.0 ∙ set_here t.views id u' (at_inside t.views id there.0 there.1),
                subst (λ z. ViewFolds count size fronts' z u') h.1 own,
              ))
              (λ (h : (j ≢ id) × (get_elem? s.views j ≡ some x)). let g = f.views j x h.1 in (g.0, set_else t.views id j u' h.0 ∙ g.1, other_views j x g.0 h.0 h.1 g.2))
              (at_set s.views id j v' x seat);
          parts = λ j x c q from seat at_c lf. ⊎_elim
              (λ (h : (j ≡ id) × (v' ≡ x)).
              let same : p' ≡ q = only x.parts p' q c (sym (ap (λ (z : View). z.parts) h.1) ∙ is') at_c in
              subst (λ (z : Part). batch_from z from ≡ left' from z.node) same (mine from lf))
              (λ (h : (j ≢ id) × (get_elem? s.views j ≡ some x)). f.parts j x c q from h.1 at_c lf ∙ sym (other_parts j x c q from h.0 h.1 at_c))
              (at_set s.views id j v' x seat);
          announced = λ a c la lc some_left. ap (λ z. bit_at z a) (w.words (size + 1 + c) (omega (arith, lc))) ∙ announced a c la lc some_left;
          none_behind = none_behind;
          none_left = none_left;
        }

    set_words : (words : List ℕ) (m j : ℕ) → j < plain_count count size → slice_index (set words i m) j ≡ slice_index words j
    set_words words m j l = get_or-set_other words i j m 0 (λ e. omega (arith, e, l, at_i))

    set_boxes : (words : List ℕ) (m j : ℕ) → j ≢ k → slice_index (set words i m) (plain_count count size + j) ≡ slice_index words (plain_count count size + j)
    set_boxes words m j ne = get_or-set_other words i (plain_count count size + j) m 0 (λ e. ne (omega (arith, e, at_i)))

    -- the words after a step on this one in both tables
    pub both_words : (m m1 : ℕ) → MailWords (set s.words i m) (set t.words i m1)
    both_words m m1 = record {
      long = length-set s.words i m;
      long_there = length-set t.words i m1;
      words = set_words s.words m;
      words_there = set_words t.words m1;
      boxes = set_boxes s.words m;
      boxes_there = set_boxes t.words m1;
    }

    -- and after one in the single table, by which the other's words stay
    pub single_words : (ws wt : List ℕ) → ws ≡ s.words → length wt ≡ length t.words → ((j : ℕ) → j ≢ i → slice_index wt j ≡ slice_index t.words j) → MailWords ws wt
    single_words ws wt same long else = record {
      long = ap length same;
      long_there = long;
      words = λ j l. ap (λ z. slice_index z j) same;
      words_there = λ j l. else j (λ e. omega (arith, e, l, at_i));
      boxes = λ j ne. ap (λ z. slice_index z (plain_count count size + j)) same;
      boxes_there = λ j ne. else (plain_count count size + j) (λ e. ne (omega (arith, e, at_i)));
    }

    pub set_there : (m : ℕ) → slice_index (set t.words i m) i ≡ m
    set_there m = get_or-set_same t.words i m 0 in_words

    pub set_in_both : (m : ℕ) → slice_index (set s.words i m) i ≡ m
    set_in_both m = let l = in_words in let e = f.wide in get_or-set_same s.words i m 0 (omega (arith, l, e))

    pub mail_step : (m m1 : ℕ) (hs : List (maybe.Option Batch)) (ht : Homes) (fronts' : ℕ → List Batch) (left' : ℕ → ℕ → Batch) → length hs ≡ length s.homes → length ht ≡ length t.homes →
        ((j : ℕ) → j ≢ k → get_elem? hs j ≡ get_elem? s.homes j) → ((j : ℕ) → j ≢ k → get_elem? ht j ≡ get_elem? t.homes j) →
        ((a c : ℕ) → Apart n to a c → place_at [] (fronts' a) c ≡ place_at [] (fronts a) c) → ((a c : ℕ) → Apart n to a c → left' a c ≡ left a c) →
        MailFolds m (get_elem? hs k) m1 (get_elem? ht k) (place_at [] (fronts' n) to) (left' n to) →
        (id : ℕ) (v v' u' : View) (p' : Part) → get_elem? s.views id ≡ some v → v'.parts ≡ p' ∷ [] → ViewFolds count size fronts' v' u' →
        ((from : ℕ) → from < count → batch_from p' from ≡ left' from p'.node) →
        ((j : ℕ) (w y : View) → j ≢ id → get_elem? s.views j ≡ some w → ViewFolds count size fronts w y → ViewFolds count size fronts' w y) →
        ((j : ℕ) (w : View) (c : ℕ) (q : Part) (from : ℕ) → j ≢ id → get_elem? s.views j ≡ some w → get_elem? w.parts c ≡ some q → left' from q.node ≡ left from q.node) →
        ((from to : ℕ) → from < count → to < count → left' from to ≢ [] → bit_at (slice_index s.words (size + 1 + to)) from ≡ 1) →
        (alone ≡ true → (from : ℕ) → fronts' from ≡ []) → (alone ≡ true → (from to : ℕ) → left' from to ≡ []) →
        Folds count size alone (record { words = set s.words i m; homes = hs; views = set s.views id v' }) (record { words = set t.words i m1; homes = ht; views = set t.views id u' }) fronts' left'
    mail_step m m1 hs ht fronts' left' deep deep_there homes homes_there front its shown =
        mail_step_by (set s.words i m) (set t.words i m1) (both_words m m1) hs ht fronts' left' deep deep_there homes homes_there front its
        (same_folds (sym (set_in_both m)) refl (sym (set_there m1)) refl refl refl shown)
