-- A look at a full mailbox: the first message of the batch comes to hand, in the single table too, and the seat has the others.
use Rattle.std.specs.Prelude.{◌≡◌, ◌≢◌, ◌<◌, ◌+◌, ◌*◌, ℕ, Bool, true, false, eqb, List, [], ◌∷◌, length, slice_index, Some, None, refl, MatchBool}
use Rattle.std.specs.Int.{bit_at}
use Rattle.std.proofs.Common.{arith, ap, ◌∙◌, sym, subst, inl, set, length-set, eqb-true}
use prog.Atomic.{either}
use mathlib.Core.Option.{some, none, some-injective}
use mathlib.Core.Logic.{dite}
use native.Mathlib.Decide.{ℕ_discrete}
use lib.ListN.{get_elem?}
use Rattle.atomic_table.specs.Table.{Act as TableAct, Valid, stepped, carried_after, homes_after, takes}
use Rattle.atomic_table.proofs.Lists.{set_else}
use Rattle.ipcz_base.specs.Indexed.{place_at}
use Rattle.ipcz_base.specs.declared.message.Message.{Message}
use Rattle.ipcz_router.specs.declared.act.Answer.TheVariants as answers
use Rattle.ipcz_node.specs.declared.act.Act.{Act}
use Rattle.ipcz_node.specs.declared.act.Act.TheVariants as acts
use Rattle.ipcz_node.proofs.Fronts.{look_behind}
use Rattle.ipcz_rule.specs.declared.view.View.{View}
use Rattle.ipcz_rule.specs.declared.view.Part.{Part}
use Rattle.ipcz_rule.specs.Rule.{Slot, Homes, St, Mine, Rules, with_part, with_state, saw}
use Rattle.ipcz_rule.specs.Steps.{look_part}
use Rattle.ipcz_rule.specs.Kinds.{Loads, Looks, turn_where}
use Rattle.ipcz_rule.specs.Batches.{Batch, BatchSt, BatchMine, batch_from, with_batch, with_batches, shown_part, ViewFolds, Folds, Batched}
use Rattle.ipcz_rule.specs.BatchKinds.{BatchLooks}
use Rattle.ipcz_rule.proofs.BatchSteps.{KnownBy, SingleBy, BatchBy}
use Rattle.ipcz_rule.proofs.BatchedKinds.{part_there, saw_folds, part_folds, loads}
use Rattle.ipcz_rule.proofs.BatchMail.{in_homes, mail_here, mail_step, node_below, node_apart, folds_one, homes_took, left_with, left_here, left_else, place_here, place_else}
use Rattle.ipcz_rule.proofs.Inboxes.{box_is}

-- the single table after a look that found its mailbox full
pub record SingleLook (q : KnownBy (List (ℕ × Act))) (count size id i k from : ℕ) (t : St) (r : Rules count size t) (u : View) (sp : Part) (x : Message) : Type 0 where
  pub view : View
  pub homes : Homes
  pub deep : length homes ≡ length t.homes
  pub else : (j : ℕ) → j ≢ k → get_elem? homes j ≡ get_elem? t.homes j
  pub after : (r' : Rules count size (record { words = set t.words i 2; homes = homes; views = set t.views id view })) × q ((sp.node, acts.Look from) ∷ []) r.world r.books r.routes r'.world r'.books r'.routes
  pub is : view ≡ with_part (look_part from x sp) (saw i 1 u)

same_message : (y x : Message) → some (some (Some y)) ≡ some (some (Some x)) → y ≡ x
same_message y x e = let g : Some y ≡ Some x = some-injective (Some y) (Some x) (some-injective (some (Some y)) (some (Some x)) e) in cc

pub single_look : (q : KnownBy (List (ℕ × Act))) → Looks (SingleBy q) → (count size slots id i k from : ℕ) (t : St) (r : Rules count size t) (u : View) (sp : Part) (x : Message) → u.parts ≡ sp ∷ [] → k ≡ from * count + sp.node →
    i ≡ size + 1 + count + k → from < count → sp.state.hand ≡ None → length t.homes ≡ slots → get_elem? t.views id ≡ some u → k < length t.homes → slice_index t.words i ≡ 1 → get_elem? t.homes k ≡ some (some (Some x)) →
    SingleLook q count size id i k from t r u sp x
single_look q old count size slots id i k from t r u sp x is at_k at_i small_from idle deep at inside one home =
    let Single : ℕ → Type 0 = λ n1. (v : View) × (a : TableAct Slot) × Valid t.homes [] a ×
    ((r' : Rules count size (stepped t i (either (eqb n1 1) 2 n1) id [] v a)) × q (turn_where (eqb n1 1) sp.node (acts.Look from)) r.world r.books r.routes r'.world r'.books r'.routes) ×
    MatchBool (eqb n1 1) ((y : Message) × (◌≡◌ {A = Mine} (v, carried_after [] a) (with_part (look_part from y sp) (saw i n1 u), (k, Some y) ∷ []))) (◌≡◌ {A = Mine} (v, carried_after [] a) (saw i n1 u, [])) in
    let st : Single 1 = subst Single one (old count size slots id i k from (u, []) sp is at_k at_i small_from idle t r deep at (subst (λ c. c < 18446744073709551616) (sym one) (omega arith))) in
    let y = st.4.0 in
    let took = homes_took t.homes st.1 k (Some y) st.2 (ap (λ (z : Mine). z.1) st.4.1) in
    let same : y ≡ x = same_message y x (sym (took.was inside) ∙ home) in record {
      view = st.0;
      homes = homes_after t.homes [] st.1;
      deep = took.deep;
      else = took.else;
      after = st.3;
      is = ap (λ (z : Mine). z.0) st.4.1 ∙ ap (λ z. with_part (look_part from z sp) (saw i 1 u)) same;
    }

-- a look is the same behind messages in front
pub look_shown : (fronts : ℕ → List Batch) (from : ℕ) (x : Message) (xs : Batch) (p : Part) → look_part from x (shown_part fronts p) ≡ shown_part fronts (look_part from x (with_batch from xs p))
look_shown fronts from x xs p = ap (λ y. with_batches [] (with_state y (look_part from x p))) (sym (look_behind (fronts p.node) p.state from answers.Plain))

none_there : (i : ℕ) → place_at {X = Batch} [] [] i ≡ []
unfolding place_at
none_there i = refl

module _ {count size : ℕ} {alone : Bool} {s : BatchSt} {t : St} {fronts : ℕ → List Batch} {left : ℕ → ℕ → Batch} (f : Folds count size alone s t fronts left) where
  -- what the seat has left of batches, where it is other of one sender
  pub own_left : (id : ℕ) (v : View) (p : Part) (from : ℕ) (xs : Batch) → get_elem? s.views id ≡ some v → v.parts ≡ p ∷ [] → (a : ℕ) → a < count → batch_from (with_batch from xs p) a ≡ left_with from p.node xs left a p.node
  own_left id v p from xs at is a la = dite (ℕ_discrete a from)
      (λ e. ap (batch_from (with_batch from xs p)) e ∙ (place_here p.batches from xs ∙ (sym (left_here from p.node xs left) ∙ ap (λ z. left_with from p.node xs left z p.node) (sym e))))
      (λ ne. place_else p.batches from xs a ne ∙ (f.parts id v 0 p a at (ap (λ (l : List Part). get_elem? l 0) is) la ∙ sym (left_else from p.node xs left a p.node (λ e same. ne e))))

  -- the bits of senders of whom something is left
  pub left_announced : (from to : ℕ) (xs : Batch) → bit_at (slice_index s.words (size + 1 + to)) from ≡ 1 →
      (a c : ℕ) → a < count → c < count → left_with from to xs left a c ≢ [] → bit_at (slice_index s.words (size + 1 + c)) a ≡ 1
  left_announced from to xs bit a c la lc some_left = dite (ℕ_discrete a from)
      (λ ea. dite (ℕ_discrete c to)
      (λ ec. ap (λ z. bit_at (slice_index s.words (size + 1 + z)) a) ec ∙ (ap (bit_at (slice_index s.words (size + 1 + to))) ea ∙ bit))
      (λ ne. f.announced a c la lc (λ e. some_left (left_else from to xs left a c (λ g. ne) ∙ e))))
      (λ ne. f.announced a c la lc (λ e. some_left (left_else from to xs left a c (λ g. absurd (ne g)) ∙ e)))

  pub none_left_with : (from to : ℕ) (xs : Batch) → (alone ≡ true → xs ≡ []) → alone ≡ true → (a c : ℕ) → left_with from to xs left a c ≡ []
  none_left_with from to xs spent lone a c = dite (ℕ_discrete a from)
      (λ ea. dite (ℕ_discrete c to)
      (λ ec. ap (λ z. left_with from to xs left z c) ea ∙ (ap (left_with from to xs left from) ec ∙ (left_here from to xs left ∙ spent lone)))
      (λ ne. left_else from to xs left a c (λ g. ne) ∙ f.none_left lone a c))
      (λ ne. left_else from to xs left a c (λ g. absurd (ne g)) ∙ f.none_left lone a c)

  -- where batches are alone, nothing is behind a mailbox's message
  pub alone_behind : alone ≡ true → (a c : ℕ) → place_at [] (fronts a) c ≡ []
  alone_behind lone a c = ap (λ fs. place_at [] fs c) (f.none_behind lone a) ∙ none_there c

  -- the bit of a sender whose single mailbox is full
  pub full_bit : (r : Rules count size t) (from to i : ℕ) → from < count → to < count → i ≡ size + 1 + count + (from * count + to) → slice_index t.words i ≡ 1 → bit_at (slice_index s.words (size + 1 + to)) from ≡ 1
  full_bit r from to i from_in to_in at_i one =
      let c = r.nodes in
      let z = r.words in
      let full = r.inboxes.full from to (omega (arith, from_in, c)) (omega (arith, to_in, c)) (ap (slice_index t.words) (box_is r from to ∙ sym at_i) ∙ one) in
      ap (λ w. bit_at w from) (f.words (size + 1 + to) (omega (arith, to_in)) ∙ ap (λ e. slice_index t.words (e + 1 + to)) (sym z)) ∙ full

module _ (q : KnownBy (List (ℕ × Act))) (alone : Bool) (old : Looks (SingleBy q)) (load : Loads (SingleBy q)) (count size slots id i k from : ℕ) (m : BatchMine) (p : Part) (is : m.0.parts ≡ p ∷ []) (at_k : k ≡ from * count + p.node)
    (at_i : i ≡ size + 1 + count + k) (small_from : from < count) (idle : p.state.hand ≡ None) (s : BatchSt) (b : Batched count size alone s) (deep : length s.homes ≡ slots) (at : get_elem? s.views id ≡ some m.0)
    (small : slice_index s.words i < 18446744073709551616) where
  abbrev n : ℕ
  n = slice_index s.words i

  abbrev Looked : Bool → BatchMine → Type 0
  Looked c m' = MatchBool c
      ((x : Message) × (xs : List Message) × (alone ≡ true → xs ≡ []) × (m' ≡ (with_part (look_part from x (with_batch from xs p)) (saw i n m.0), (k, x ∷ xs) ∷ m.1)))
      (m' ≡ (saw i n m.0, m.1))

  abbrev F : Bool → Type 0
  F c = (v : View) × (a : TableAct Batch) × Valid s.homes m.1 a ×
      ((b' : Batched count size alone (stepped s i (either c 2 n) id m.1 v a)) × q (turn_where c p.node (acts.Look from)) b.rules.world b.rules.books b.rules.routes b'.rules.world b'.rules.books b'.rules.routes) × Looked c (v, carried_after m.1 a)

  looked_by : (c : Bool) → eqb n 1 ≡ c → F c
  looked_by true e =
      let t = b.single in
      let f = b.folds in
      let r = b.rules in
      let h = f.views id m.0 at in
      let u : View = h.0 in
      let sp = shown_part b.fronts p in
      let n_in = node_below f r id m.0 p at is in
      let one_found : n ≡ 1 = eqb-true n 1 e in
      let rest = place_at [] (b.fronts from) p.node in
      let full = folds_one (slice_index s.words i) (get_elem? s.homes k) (slice_index t.words i) (get_elem? t.homes k) rest (b.left from p.node) (mail_here f r from p.node small_from n_in i k at_k at_i) one_found in
      let x = full.0 in
      let st = single_look q old count size slots id i k from t r u sp x (part_there h.2 is) at_k at_i small_from idle (sym f.deep ∙ deep) h.1 (in_homes f r from p.node small_from n_in i k at_k at_i) full.2 full.3 in
      let p' = look_part from x (with_batch from rest p) in
      let v' : View = with_part p' (saw i n m.0) in
      let left' : ℕ → ℕ → Batch = left_with from p.node rest b.left in
      let own : ViewFolds count size b.fronts v' st.view = subst (ViewFolds count size b.fronts v') (sym st.is) (part_folds p' (look_part from x sp) (look_shown b.fronts from x rest p) (saw_folds i n 1 (λ l. sym one_found) h.2)) in
      let bit = full_bit f r from p.node i small_from n_in (at_i ∙ ap (λ c. size + 1 + count + c) at_k) full.2 in
      let only : alone ≡ true → rest ≡ [] = λ lone. alone_behind f lone from p.node in (
        v',
        takes k (x ∷ rest),
        full.1,
        (
          record {
            single = record { words = set t.words i 2; homes = st.homes; views = set t.views id st.view };
            rules = st.after.0;
            fronts = b.fronts;
            left = left';
            folds = mail_step f r from p.node small_from n_in i k at_k at_i 2 2 (set s.homes k none) st.homes b.fronts left' (length-set s.homes k none) st.deep
                (λ j ne. set_else s.homes k j none ne) st.else (λ a c ne. refl) (λ a c ne. left_else from p.node rest b.left a c ne) (inl (refl, left_here from p.node rest b.left)) id m.0 v' st.view p' at refl own
                (own_left f id m.0 p from rest at is) (λ j w y ne seat g. g) (λ j w c x a ne seat there. left_else from p.node rest b.left a x.node (λ g. node_apart f r id m.0 p at is j w c x ne seat there))
                (left_announced f from p.node rest bit) f.none_behind (none_left_with f from p.node rest only);
          },
          st.after.1,
        ),
        (x, rest, only, refl),
      )
  looked_by false e = loads q alone load count size slots id i m p is s b deep at small

  pub looked_batch : F (eqb n 1)
  looked_batch = looked_by (eqb n 1) refl

pub batch_looks : (q : KnownBy (List (ℕ × Act))) (alone : Bool) → Looks (SingleBy q) → Loads (SingleBy q) → BatchLooks alone (BatchBy alone q)
batch_looks q alone old load count size slots id i k from m p is at_k at_i small_from idle s b deep at small =
    looked_batch q alone old load count size slots id i k from m p is at_k at_i small_from idle s b deep at small
