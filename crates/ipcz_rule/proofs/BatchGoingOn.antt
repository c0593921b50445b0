-- What is left of a batch: a look at it takes the next message into the hand, and a hand before it is followed by a post of the sender in the single table.
use Rattle.std.specs.Prelude.{◌≡◌, ◌≢◌, ◌≤◌, ◌<◌, ◌+◌, ◌*◌, ℕ, zero, suc, Bool, true, false, cond, nat_eq, List, [], ◌∷◌, ◌++◌, map, length, slice_index, Option, Some, None, is_some, refl}
use Rattle.std.specs.Int.{bit_at}
use Rattle.std.proofs.Common.{arith, ap, ◌∙◌, sym, subst, inl, inr, ⊎_elim, set, length-set, get_or-set_same, get_or-set_other}
use Rattle.std.proofs.lemmas.List.{append-nil, length-map, set-get_or}
use Rattle.std.proofs.lemmas.Bool.Decides.{nat_tests}
use mathlib.Core.Option.{some, some-injective}
use mathlib.Core.Option as maybe
use mathlib.Core.Logic.{dite}
use native.Mathlib.Decide.{ℕ_discrete}
use lib.ListN.{get_elem?}
use Rattle.atomic_table.specs.Table.{keeps}
use Rattle.atomic_table.proofs.Lists.{at_map, at_set, set_here, set_else}
use Rattle.ipcz_base.specs.Indexed.{place_at, put_place}
use Rattle.ipcz_base.specs.declared.message.Message.{Message}
use Rattle.ipcz_router.specs.declared.act.Answer.{Answer}
use Rattle.ipcz_router.specs.declared.act.Answer.TheVariants as answers
use Rattle.ipcz_node.specs.declared.act.Act.{Act}
use Rattle.ipcz_node.specs.declared.act.Act.TheVariants as acts
use Rattle.ipcz_node.specs.Node.{Node, outbox}
use Rattle.ipcz_node.specs.Acts.{commit, rest_of, post_of, has_mail_for}
use Rattle.ipcz_node.specs.Hands.{message_lacks_serials}
use Rattle.ipcz_node.specs.Fronts.{behind, fronted}
use Rattle.ipcz_node.proofs.Fronts.{first_behind, place_front}
use Rattle.ipcz_world.specs.declared.mail.Mail.{Mail}
use Rattle.ipcz_world.specs.World.{World, node_at, mail_at, way}
use Rattle.ipcz_world.specs.Turns.{hand_message, after_act, turn_event}
use Rattle.ipcz_world.specs.Books.{Books, after_turn}
use Rattle.ipcz_world.specs.Routes.{Routes, routes_after_turn}
use Rattle.ipcz_world.specs.Ranks.{AreTurns}
use Rattle.ipcz_rule.specs.declared.view.View.{View}
use Rattle.ipcz_rule.specs.declared.view.Part.{Part}
use Rattle.ipcz_rule.specs.Rule.{Slot, St, Mine, Rules, MailAt, with_part, with_state, saw}
use Rattle.ipcz_rule.specs.Steps.{look_part, trusted, hand_part}
use Rattle.ipcz_rule.specs.Kinds.{IsTurns, Looks, Hands}
use Rattle.ipcz_rule.specs.Batches.{Batch, BatchSt, BatchMine, BatchTurns, plain_count, seen_at, batch_from, with_batch, with_batches, shown_part, ViewFolds, MailFolds, Folds, Batched}
use Rattle.ipcz_rule.specs.BatchKinds.{LooksOn, HandsOn}
use Rattle.ipcz_rule.proofs.BatchSteps.{KnownBy, SingleBy, BatchBy, seen-more}
use Rattle.ipcz_rule.proofs.BatchedKinds.{part_there, part_folds}
use Rattle.ipcz_rule.proofs.BatchMail.{changed_at, changed_at_here, changed_at_else, front_else, place_here, place_else, left_with, left_here, left_else, folds_two, folds_left, same_folds, homes_gave}
use Rattle.ipcz_rule.proofs.BatchMail.{node_below, node_apart, spelled_there, hand_two, mail_here, in_homes, in_words, boxes_fold, mail_step_by, single_words, set_there}
use Rattle.ipcz_rule.proofs.BatchHanding.{lacks_behind, hand_shown}
use Rattle.ipcz_rule.proofs.BatchLooking.{single_look, look_shown, own_left, left_announced, none_left_with}
use Rattle.ipcz_rule.proofs.FromLaws.{stands_in_hand}
use Rattle.ipcz_rule.proofs.Histories.{only}
use Rattle.ipcz_rule.proofs.Inboxes.{box_is}
use Rattle.ipcz_rule.proofs.Mailing.{way_low}
use Rattle.ipcz_rule.proofs.Moved.{at_inside}
use Rattle.ipcz_rule.proofs.PostingBeside.{posted_part, posted_view, posted_table, posted_beside, at_unmap}

-- a message in a mailbox at 2 stands in hand
stands_at_two : (home : maybe.Option (maybe.Option Slot)) (m : Mail) → MailAt 2 home m → is_some (hand_message m) ≡ true
unfolding hand_message
stands_at_two home m h = ap (λ y. is_some (hand_message y)) h.1

some_hand : (a : Option ℕ) (from : ℕ) → a ≡ Some from → a ≡ None → ⊥
some_hand None from e h = cc
some_hand (Some b) from e h = cc

first_same : (x y : Message) (xs ys : Batch) → x ∷ xs ≡ y ∷ ys → x ≡ y
first_same x y xs ys e = cc

rest_same : (x y : Message) (xs ys : Batch) → x ∷ xs ≡ y ∷ ys → xs ≡ ys
rest_same x y xs ys e = cc

some_first : (x : Message) (xs : Batch) → x ∷ xs ≢ []
some_first x xs e = cc

-- a view that has seen a mailbox's word in the single table only
saw_high : {count size : ℕ} {fronts : ℕ → List Batch} {v : View} (p1 : Part) (u : View) (i n : ℕ) → plain_count count size ≤ i → ViewFolds count size fronts v (with_part p1 u) → ViewFolds count size fronts v (with_part p1 (saw i n u))
saw_high {count} {size} {fronts} {v} p1 u i n high f = record {
  parts = f.parts;
  announced = f.announced;
  caller = f.caller;
  seen = λ j l. seen-more j u.seen ((i, n) ∷ []) ∙ (ap (λ ns. seen_at j u.seen ++ ns) (none j l) ∙ (append-nil (seen_at j u.seen) ∙ f.seen j l));
}
  where
    none : (j : ℕ) → j < plain_count count size → seen_at j ((i, n) ∷ []) ≡ []
    none j l = let e : nat_eq i j ≡ false = grind (arith, nat_tests, high, l) in ap (λ c. cond c (n ∷ []) []) e

module _ {count size : ℕ} {alone : Bool} {s : BatchSt} {t : St} {fronts : ℕ → List Batch} {left : ℕ → ℕ → Batch} (f : Folds count size alone s t fronts left) (r : Rules count size t) where
  -- a seat with nothing in hand has no single mailbox at 2
  idle_not_two : (id : ℕ) (v : View) (p : Part) (from : ℕ) → get_elem? s.views id ≡ some v → v.parts ≡ p ∷ [] → from < count → p.state.hand ≡ None → slice_index t.words (size + 1 + count + (from * count + p.node)) ≡ 2 → ⊥
  idle_not_two id v p from at is from_in idle two =
      let w = r.world in
      let sp = spelled_there f r id v p at is in
      let n_in = sp.inside in
      let c = r.nodes in
      let k = way w from p.node in
      let a_in : from < w.count = omega (arith, from_in, c) in
      let inside : k < w.count * w.count = let h = way_low w.count from w.count p.node 0 n_in a_in in omega (arith, h) in
      let shown : MailAt 2 (get_elem? t.homes k) (mail_at w k) = subst (λ z. MailAt z (get_elem? t.homes k) (mail_at w k)) (ap (slice_index t.words) (box_is r from p.node) ∙ two) (r.shows.mail k inside) in
      some_hand p.state.hand from (sym (ap (λ (y : Node). y.hand) sp.state) ∙ stands_in_hand w r.books r.routes p.node from r.lawful n_in a_in (stands_at_two (get_elem? t.homes k) (mail_at w k) shown)) idle

  -- what a seat looks at that has messages left of a batch: the next of them is in the single mailbox
  record NextIs (id from : ℕ) (p : Part) (x : Message) (xs : Batch) : Type 0 where
    two : slice_index s.words (size + 1 + count + (from * count + p.node)) ≡ 2
    one : slice_index t.words (size + 1 + count + (from * count + p.node)) ≡ 1
    home : get_elem? t.homes (from * count + p.node) ≡ some (some (Some x))
    behind_it : place_at [] (fronts from) p.node ≡ xs

  next_is : (id : ℕ) (v : View) (p : Part) (from : ℕ) (x : Message) (xs : Batch) → get_elem? s.views id ≡ some v → v.parts ≡ p ∷ [] → from < count → p.state.hand ≡ None → batch_from p from ≡ x ∷ xs → NextIs id from p x xs
  next_is id v p from x xs at is from_in idle batch =
      let n_in = node_below f r id v p at is in
      let k = from * count + p.node in
      let i = size + 1 + count + k in
      let rest = place_at [] (fronts from) p.node in
      let its : left from p.node ≡ x ∷ xs = sym (f.parts id v 0 p from at (ap (λ (l : List Part). get_elem? l 0) is) from_in) ∙ batch in
      let here = mail_here f r from p.node from_in n_in i k refl refl in
      let h = folds_left (slice_index s.words i) (get_elem? s.homes k) (slice_index t.words i) (get_elem? t.homes k) rest (left from p.node) here (λ e. some_first x xs (sym its ∙ e)) in
      ⊎_elim
      (λ (g : (slice_index t.words i ≡ 2) × (left from p.node ≡ rest)). absurd (idle_not_two id v p from at is from_in idle g.0))
      (λ (g : (y : Message) × (slice_index t.words i ≡ 1) × (get_elem? t.homes k ≡ some (some (Some y))) × (left from p.node ≡ y ∷ rest)).
      let both : g.0 ∷ rest ≡ x ∷ xs = sym g.3 ∙ its in record {
        two = h.0;
        one = g.1;
        home = g.2 ∙ ap (λ z. some (some (Some z))) (first_same g.0 x rest xs both);
        behind_it = rest_same g.0 x rest xs both;
      })
      h.1

pub batch_looks_on : (q : KnownBy (List (ℕ × Act))) (alone : Bool) → Looks (SingleBy q) → LooksOn (BatchBy alone q)
batch_looks_on q alone old count size slots id i from m p x xs is small_from idle batch s b deep at small =
    let t = b.single in
    let f = b.folds in
    let r = b.rules in
    let h = f.views id m.0 at in
    let u : View = h.0 in
    let n : ℕ = p.node in
    let k : ℕ = from * count + n in
    let i1 : ℕ = size + 1 + count + k in
    let sp = shown_part b.fronts p in
    let n_in = node_below f r id m.0 p at is in
    let next = next_is f r id m.0 p from x xs at is small_from idle batch in
    let its : b.left from n ≡ x ∷ xs = sym (f.parts id m.0 0 p from at (ap (λ (l : List Part). get_elem? l 0) is) small_from) ∙ batch in
    let st = single_look q old count size slots id i1 k from t r u sp x (part_there h.2 is) refl refl small_from idle (sym f.deep ∙ deep) h.1 (in_homes f r from n small_from n_in i1 k refl refl) next.one next.home in
    let p' = look_part from x (with_batch from xs p) in
    let v' : View = with_part p' m.0 in
    let left' : ℕ → ℕ → Batch = left_with from n xs b.left in
    let own : ViewFolds count size b.fronts v' st.view = subst (ViewFolds count size b.fronts v') (sym st.is) (saw_high (look_part from x sp) u i1 1 (omega arith) (part_folds p' (look_part from x sp) (look_shown b.fronts from x xs p) h.2)) in
    let stay : set s.words i (slice_index s.words i) ≡ s.words = set-get_or s.words i 0 in
    let bit = f.announced from n small_from n_in (λ e. some_first x xs (sym its ∙ e)) in (
      v',
      keeps,
      tt,
      (
        record {
          single = record { words = set t.words i1 2; homes = st.homes; views = set t.views id st.view };
          rules = st.after.0;
          fronts = b.fronts;
          left = left';
          folds = mail_step_by f r from n small_from n_in i1 k refl refl (set s.words i (slice_index s.words i)) (set t.words i1 2)
              (single_words f r from n small_from n_in i1 k refl refl (set s.words i (slice_index s.words i)) (set t.words i1 2) stay (length-set t.words i1 2) (λ j ne. get_or-set_other t.words i1 j 2 0 ne))
              s.homes st.homes b.fronts left' refl st.deep (λ j ne. refl) st.else (λ a c ne. refl) (λ a c ne. left_else from n xs b.left a c ne)
              (same_folds (sym (ap (λ z. slice_index z i1) stay ∙ next.two)) refl (sym (set_there f r from n small_from n_in i1 k refl refl 2)) refl refl refl (inl (refl, left_here from n xs b.left ∙ sym next.behind_it)))
              id m.0 v' st.view p' at refl own (own_left f id m.0 p from xs at is) (λ j w y ne seat g. g) (λ j w c z a ne seat there. left_else from n xs b.left a z.node (λ g. node_apart f r id m.0 p at is j w c z ne seat there))
              (left_announced f from n xs bit) f.none_behind (none_left_with f from n xs (λ lone. absurd (some_first x xs (sym its ∙ f.none_left lone from n))));
        },
        st.after.1,
      ),
      refl,
    )

-- a post of what is in front takes its first message
place_rest : (fs boxes : List Batch) (to : ℕ) (y : Message) (ys : Batch) → place_at [] fs to ≡ y ∷ ys → put_place [] (fronted fs boxes) to (ys ++ place_at [] boxes to) ≡ fronted (put_place [] fs to ys) boxes
unfolding place_at put_place
place_rest [] boxes to y ys e = absurd (some_first y ys (sym e))
place_rest (f ∷ fs) [] zero y ys e = ap (λ z. z ∷ fs) (append-nil ys)
place_rest (f ∷ fs) [] (suc to) y ys e = ap (λ z. f ∷ put_place [] fs to z) (append-nil ys)
place_rest (f ∷ fs) (b ∷ boxes) zero y ys e = refl
place_rest (f ∷ fs) (b ∷ boxes) (suc to) y ys e = ap (λ z. (f ++ b) ∷ z) (place_rest fs boxes to y ys e)

post_front : (fs : List Batch) (n : Node) (to : ℕ) (y : Message) (ys : Batch) (answer : Answer) → place_at [] fs to ≡ y ∷ ys → commit (behind fs n) (acts.Post to) answer ≡ behind (put_place [] fs to ys) n
unfolding commit rest_of
post_front fs n to y ys answer e =
    ap (λ z. record n { outboxes = put_place [] (fronted fs n.outboxes) to (rest_of z) }) (place_front fs n.outboxes to ∙ ap (λ z. z ++ place_at [] n.outboxes to) e) ∙
    ap (λ z. record n { outboxes = z }) (place_rest fs n.outboxes to y ys e)

-- so each part is shown then as it is behind what is left in front
module _ (fronts : ℕ → List Batch) (from n : ℕ) (y : Message) (ys : Batch) (front : place_at [] (fronts from) n ≡ y ∷ ys) where
  abbrev gs : List Batch
  gs = put_place [] (fronts from) n ys

  abbrev pub fronts_after : ℕ → List Batch
  fronts_after = changed_at from gs fronts

  part_posted : (q : Part) → posted_part from n (shown_part fronts q) ≡ shown_part fronts_after q
  part_posted q = dite (ℕ_discrete q.node from)
      (λ e.
      let b : nat_eq q.node from ≡ true = grind (arith, nat_tests, e) in
      let state : commit (behind (fronts q.node) q.state) (acts.Post n) answers.Plain ≡ behind (fronts_after q.node) q.state =
      ap (λ z. commit (behind (fronts z) q.state) (acts.Post n) answers.Plain) e ∙ (post_front (fronts from) q.state n y ys answers.Plain front ∙
      (ap (λ z. behind z q.state) (sym (changed_at_here from gs fronts)) ∙ ap (λ z. behind (fronts_after z) q.state) (sym e))) in
      ap (λ c. cond c (with_state (commit (behind (fronts q.node) q.state) (acts.Post n) answers.Plain) (shown_part fronts q)) (shown_part fronts q)) b ∙
      ap (λ z. with_batches [] (with_state z q)) state)
      (λ ne.
      let b : nat_eq q.node from ≡ false = grind (arith, nat_tests, ne) in
      ap (λ c. cond c (with_state (commit (behind (fronts q.node) q.state) (acts.Post n) answers.Plain) (shown_part fronts q)) (shown_part fronts q)) b ∙
      ap (λ z. with_batches [] (with_state (behind z q.state) q)) (sym (changed_at_else from gs fronts q.node ne)))

  parts_posted : (ps : List Part) → map (posted_part from n) (map (shown_part fronts) ps) ≡ map (shown_part fronts_after) ps
  parts_posted [] = refl
  parts_posted (q ∷ qs) = ap (λ z. z ∷ map (posted_part from n) (map (shown_part fronts) qs)) (part_posted q) ∙ ap (λ z. shown_part fronts_after q ∷ z) (parts_posted qs)

  pub views_posted : {count size : ℕ} {v u : View} → ViewFolds count size fronts v u → ViewFolds count size fronts_after v (posted_view from n u)
  views_posted {count} {size} {v} {u} g = record {
    parts = ap (map (posted_part from n)) g.parts ∙ parts_posted v.parts;
    announced = g.announced;
    caller = g.caller;
    seen = g.seen;
  }

-- what stands below a list's length
at_below : {A : Type 0} (l : List A) (i : ℕ) → i < length l → (a : A) × (get_elem? l i ≡ some a)
at_below [] i h = absurd (omega (arith, h))
at_below (x ∷ xs) zero h = (x, refl)
at_below (x ∷ xs) (suc i) h = at_below xs i (omega (arith, h))

-- a part that is shown of one
abbrev Shown : (ℕ → List Batch) → Part → Type 0
Shown fronts q = (z : Part) × (shown_part fronts z ≡ q)

shown_in : {count size : ℕ} {alone : Bool} {s : BatchSt} {t : St} {fronts : ℕ → List Batch} {left : ℕ → ℕ → Batch} → Folds count size alone s t fronts left →
    (j : ℕ) (u : View) (c : ℕ) (q : Part) → get_elem? t.views j ≡ some u → get_elem? u.parts c ≡ some q → Shown fronts q
shown_in {count} {size} {alone} {s} {t} {fronts} {left} f j u c q seat there =
    let v = at_below s.views j (let l = at_inside t.views j u seat in let e = f.many in omega (arith, l, e)) in
    let g = f.views j v.0 v.1 in
    let same : g.0 ≡ u = some-injective g.0 u (sym g.1 ∙ seat) in
    let z = at_unmap (shown_part fronts) v.0.parts c q (ap (λ l. get_elem? l c) (sym g.2.parts) ∙ (ap (λ (x : View). get_elem? x.parts c) same ∙ there)) in
    (z.0, z.2)

-- so is each after a step of one seat
shown_set : (fronts : ℕ → List Batch) (views : List View) (id : ℕ) (u1 : View) (p' : Part) → u1.parts ≡ shown_part fronts p' ∷ [] →
    ((j : ℕ) (u : View) (c : ℕ) (q : Part) → get_elem? views j ≡ some u → get_elem? u.parts c ≡ some q → Shown fronts q) →
    (j : ℕ) (u : View) (c : ℕ) (q : Part) → get_elem? (set views id u1) j ≡ some u → get_elem? u.parts c ≡ some q → Shown fronts q
shown_set fronts views id u1 p' is all j u c q seat there = ⊎_elim
    (λ (h : (j ≡ id) × (u1 ≡ u)). (p', only u.parts (shown_part fronts p') q c (sym (ap (λ (z : View). z.parts) h.1) ∙ is) there))
    (λ (h : (j ≢ id) × (get_elem? views j ≡ some u)). all j u c q h.1 there)
    (at_set views id j u1 u seat)

-- the node that the rule shows of a table whose parts are all shown so
shown_node : {count size : ℕ} (fronts : ℕ → List Batch) (t : St) (r : Rules count size t) → ((j : ℕ) (u : View) (c : ℕ) (q : Part) → get_elem? t.views j ≡ some u → get_elem? u.parts c ≡ some q → Shown fronts q) →
    (a : ℕ) → a < count → (x : Node) × (node_at r.world a ≡ behind (fronts a) x)
shown_node {count} {size} fronts t r all a a_in =
    let h = r.parts a a_in in
    let z = all h.id h.view h.place h.part h.seat h.there in
    let sp = (r.shows.parts h.id h.view h.place h.part h.seat h.there).1 in
    let node : z.0.node ≡ a = ap (λ (q : Part). q.node) z.1 ∙ h.node_is in (
      z.0.state,
      ap (node_at r.world) (sym h.node_is) ∙ (sp.state ∙ (ap (λ (q : Part). q.state) (sym z.1) ∙ ap (λ b. behind (fronts b) z.0.state) node)),
    )

-- turns behind a turn
turns_behind : (x : ℕ × Act) (ys : List (ℕ × Act)) (w w1 w2 : World) (b b1 b2 : Books) (g g1 g2 : Routes) → AreTurns w b g (x ∷ []) w1 b1 g1 → AreTurns w1 b1 g1 ys w2 b2 g2 → AreTurns w b g (x ∷ ys) w2 b2 g2
turns_behind x ys w w1 w2 b b1 b2 g g1 g2 one more =
    let e = turn_event w x.0 x.1 in
    (one.0, same_turns ys (after_act w x.0 x.1) w1 w2 (after_turn w b x.0 e) b1 b2 (routes_after_turn w g x.0 e) g1 g2 one.1.0 one.1.1 one.1.2 more)
  where
    same_turns : (ys : List (ℕ × Act)) (w w1 w2 : World) (b b1 b2 : Books) (g g1 g2 : Routes) → w1 ≡ w → b1 ≡ b → g1 ≡ g → AreTurns w1 b1 g1 ys w2 b2 g2 → AreTurns w b g ys w2 b2 g2
    same_turns ys w w1 w2 b b1 b2 g g1 g2 ew eb eg more =
        subst (λ u. AreTurns u b g ys w2 b2 g2) ew (subst (λ c. AreTurns w1 c g ys w2 b2 g2) eb (subst (λ h. AreTurns w1 b1 h ys w2 b2 g2) eg more))

-- a hand behind which others are left: the single table takes the hand, and then a post of the sender
module _ (alone : Bool) (old : Hands IsTurns) (count size slots id i from : ℕ) (m : BatchMine) (p : Part) (x y : Message) (ys : Batch) (is : m.0.parts ≡ p ∷ []) (batch : batch_from p from ≡ y ∷ ys) (holds : p.state.hand ≡ Some from)
    (has : p.message ≡ Some x) (serials : message_lacks_serials p.state from x (trusted from x) ≡ false) (s : BatchSt) (b : Batched count size alone s) (deep : length s.homes ≡ slots) (at : get_elem? s.views id ≡ some m.0) where
  abbrev t : St
  t = b.single

  abbrev n : ℕ
  n = p.node

  abbrev k : ℕ
  k = from * count + n

  abbrev i1 : ℕ
  i1 = size + 1 + count + k

  abbrev u : View
  u = (b.folds.views id m.0 at).0

  abbrev sp : Part
  sp = shown_part b.fronts p

  abbrev u1 : View
  u1 = with_part (hand_part from (trusted from x) x sp) u

  abbrev t1 : St
  t1 = record { words = set t.words i1 0; homes = set t.homes k (some None); views = set t.views id u1 }

  n_in : n < count
  n_in = node_below b.folds b.rules id m.0 p at is

  hand : (from < count) × (slice_index t.words i1 ≡ 2)
  hand = hand_two b.folds b.rules id m.0 p from at is holds

  its : b.left from n ≡ y ∷ ys
  its = sym (b.folds.parts id m.0 0 p from at (ap (λ (l : List Part). get_elem? l 0) is) hand.0) ∙ batch

  bare : (slice_index s.words i1 ≡ 2) × (b.left from n ≡ place_at [] (b.fronts from) n)
  bare = folds_two (slice_index s.words i1) (get_elem? s.homes k) (slice_index t.words i1) (get_elem? t.homes k) (place_at [] (b.fronts from) n) (b.left from n)
      (mail_here b.folds b.rules from n hand.0 n_in i1 k refl refl) hand.1

  front : place_at [] (b.fronts from) n ≡ y ∷ ys
  front = sym bare.1 ∙ its

  -- the hand
  handed : (r1 : Rules count size t1) × AreTurns b.rules.world b.rules.books b.rules.routes ((n, acts.Hand from) ∷ []) r1.world r1.books r1.routes
  handed =
      let f = b.folds in
      let r = b.rules in
      let h = f.views id m.0 at in
      let st = old count size slots id i1 k from (u, (k, None) ∷ []) sp x [] (part_there h.2 is) refl refl holds has (sym (lacks_behind (b.fronts n) p.state from x (trusted from x)) ∙ serials) refl t r (sym f.deep ∙ deep) h.1
      (subst (λ c. c < 18446744073709551616) (sym hand.1) (omega arith)) in
      let gave = homes_gave t.homes st.1 k None st.2 (ap (λ (z : Mine). z.1) st.4) in
      let After : List (maybe.Option Slot) → View → Type 0 = λ hs v. (r' : Rules count size (record { words = set t.words i1 0; homes = hs; views = set t.views id v })) ×
      AreTurns r.world r.books r.routes ((n, acts.Hand from) ∷ []) r'.world r'.books r'.routes in
      subst (After (set t.homes k (some None))) (ap (λ (z : Mine). z.0) st.4) (subst (λ hs. After hs st.0) gave st.3)

  -- its part is shown as it is behind what is in front still
  part_after : hand_part from (trusted from x) x sp ≡ shown_part b.fronts (hand_part from (trusted from x) x p)
  part_after = hand_shown b.fronts from (trusted from x) x p

  -- and then the post
  posted : (r1 : Rules count size t1) → (r2 : Rules count size (posted_table size count from n y t1)) × AreTurns r1.world r1.books r1.routes ((from, acts.Post n) ∷ []) r2.world r2.books r2.routes
  posted r1 =
      let f = b.folds in
      let c = r1.nodes in
      let from_in = hand.0 in
      let to_in = n_in in
      let node = shown_node b.fronts t1 r1 (shown_set b.fronts t.views id u1 (hand_part from (trusted from x) x p) (ap (λ (q : Part). q ∷ []) part_after) (shown_in f)) from from_in in
      let first = first_behind (b.fronts from) node.0 n y (ys ++ outbox node.0 n) (ap (λ l. l ++ outbox node.0 n) front) in
      let bit = f.announced from n from_in to_in (λ e. some_first y ys (sym its ∙ e)) in
      let wide = in_words f b.rules from n from_in to_in i1 k refl refl in
      posted_beside count size t1 r1 from n y (omega (arith, from_in, c)) (omega (arith, to_in, c))
      (ap (λ z. has_mail_for z n) node.1 ∙ first.1) (ap (λ z. post_of z (acts.Post n)) node.1 ∙ first.0)
      (ap (slice_index t1.words) (box_is r1 from n) ∙ get_or-set_same t.words i1 0 0 wide)
      (ap (λ z. bit_at (slice_index t1.words (z + 1 + n)) from) r1.words ∙ (ap (λ z. bit_at z from) (get_or-set_other t.words i1 (size + 1 + n) 0 0 (λ e. omega (arith, e, to_in)) ∙ sym (f.words (size + 1 + n) (omega (arith, to_in)))) ∙ bit))

  abbrev p' : Part
  p' = hand_part from (trusted from x) x p

  abbrev v' : View
  v' = with_part p' m.0

  abbrev s' : BatchSt
  s' = record { words = set s.words i (slice_index s.words i); homes = s.homes; views = set s.views id v' }

  abbrev t2 : St
  t2 = posted_table size count from n y t1

  abbrev fronts' : ℕ → List Batch
  fronts' = fronts_after b.fronts from n y ys front

  stay : s'.words ≡ s.words
  stay = set-get_or s.words i 0

  words_else : (j : ℕ) → j ≢ i1 → slice_index t2.words j ≡ slice_index t.words j
  words_else j ne = get_or-set_other (set t.words i1 0) i1 j 1 0 ne ∙ get_or-set_other t.words i1 j 0 0 ne

  words_here : slice_index t2.words i1 ≡ 1
  words_here = let l = in_words b.folds b.rules from n hand.0 n_in i1 k refl refl in let e = length-set t.words i1 0 in get_or-set_same (set t.words i1 0) i1 1 0 (omega (arith, l, e))

  homes_else : (j : ℕ) → j ≢ k → get_elem? t2.homes j ≡ get_elem? t.homes j
  homes_else j ne = set_else (set t.homes k (some None)) k j (some (Some y)) ne ∙ set_else t.homes k j (some None) ne

  homes_here : get_elem? t2.homes k ≡ some (some (Some y))
  homes_here = let l = in_homes b.folds b.rules from n hand.0 n_in i1 k refl refl in let e = length-set t.homes k (some None) in set_here (set t.homes k (some None)) k (some (Some y)) (omega (arith, l, e))

  behind_it : place_at [] (fronts' from) n ≡ ys
  behind_it = ap (λ z. place_at [] z n) (changed_at_here from (put_place [] (b.fronts from) n ys) b.fronts) ∙ place_here (b.fronts from) n ys

  mail_after : MailFolds (slice_index s'.words i1) (get_elem? s'.homes k) (slice_index t2.words i1) (get_elem? t2.homes k) (place_at [] (fronts' from) n) (b.left from n)
  mail_after = same_folds (sym (ap (λ z. slice_index z i1) stay ∙ bare.0)) refl (sym words_here) refl (sym behind_it) refl (inr (y, refl, homes_here, its))

  lone_not : alone ≡ true → ⊥
  lone_not lone = some_first y ys (sym its ∙ b.folds.none_left lone from n)

  folds_then : Folds count size alone s' t2 fronts' b.left
  folds_then =
      let f = b.folds in
      let h = f.views id m.0 at in
      let own1 : ViewFolds count size b.fronts v' u1 = part_folds p' (hand_part from (trusted from x) x sp) part_after h.2 in record {
        wide = length-set s.words i (slice_index s.words i) ∙ (f.wide ∙ sym (length-set (set t.words i1 0) i1 1 ∙ length-set t.words i1 0));
        deep = f.deep ∙ sym (length-set (set t.homes k (some None)) k (some (Some y)) ∙ length-set t.homes k (some None));
        many = length-set s.views id v' ∙ (f.many ∙ sym (length-map (set t.views id u1) (posted_view from n) ∙ length-set t.views id u1));
        words = λ j l. ap (λ z. slice_index z j) stay ∙ (f.words j l ∙ sym (words_else j (λ e. omega (arith, e, l))));
        mail = boxes_fold f b.rules from n hand.0 n_in i1 k refl refl s' t2 fronts' b.left (λ j ne. ap (λ z. slice_index z (plain_count count size + j)) stay)
            (λ j ne. words_else (plain_count count size + j) (λ e. ne (omega (arith, e)))) (λ j ne. refl) homes_else
            (front_else b.fronts from n (put_place [] (b.fronts from) n ys) (λ c ne. place_else (b.fronts from) n ys c ne)) (λ a c ne. refl) mail_after;
        views = λ j w seat. ⊎_elim
            (λ (g : (j ≡ id) × (v' ≡ w)). (
              posted_view from n u1,
              ap (get_elem? t2.views) g.0 ∙ at_map (posted_view from n) (set t.views id u1) id u1 (set_here t.views id u1 (at_inside t.views id u h.1)),
              subst (λ z. ViewFolds count size fronts' z (posted_view from n u1)) g.1 (views_posted b.fronts from n y ys front own1),
            ))
            (λ (g : (j ≢ id) × (get_elem? s.views j ≡ some w)). let e = f.views j w g.1 in (
              posted_view from n e.0,
              at_map (posted_view from n) (set t.views id u1) j e.0 (set_else t.views id j u1 g.0 ∙ e.1),
              views_posted b.fronts from n y ys front e.2,
            ))
            (at_set s.views id j v' w seat);
        parts = λ j w c q a seat there la. ⊎_elim
            (λ (g : (j ≡ id) × (v' ≡ w)).
            let same : p' ≡ q = only w.parts p' q c (sym (ap (λ (z : View). z.parts) g.1)) there in
            subst (λ (z : Part). batch_from z a ≡ b.left a z.node) same (f.parts id m.0 0 p a at (ap (λ (l : List Part). get_elem? l 0) is) la))
            (λ (g : (j ≢ id) × (get_elem? s.views j ≡ some w)). f.parts j w c q a g.1 there la)
            (at_set s.views id j v' w seat);
        announced = λ a c la lc some_left. ap (λ z. bit_at (slice_index z (size + 1 + c)) a) stay ∙ f.announced a c la lc some_left;
        none_behind = λ lone a. absurd (lone_not lone);
        none_left = f.none_left;
      }

  pub handed_on : (b' : Batched count size alone s') × AreTurns b.rules.world b.rules.books b.rules.routes ((n, acts.Hand from) ∷ (from, acts.Post n) ∷ []) b'.rules.world b'.rules.books b'.rules.routes
  handed_on = let one = handed in let two = posted one.0 in (
    record { single = t2; rules = two.0; fronts = fronts'; left = b.left; folds = folds_then },
    turns_behind (n, acts.Hand from) ((from, acts.Post n) ∷ []) b.rules.world one.0.world two.0.world b.rules.books one.0.books two.0.books b.rules.routes one.0.routes two.0.routes one.1 two.1,
  )

pub batch_hands_on : (alone : Bool) → Hands IsTurns → HandsOn (BatchTurns alone)
batch_hands_on alone old count size slots id i from m p x y ys is batch holds has serials s b deep at small = (
  with_part (hand_part from (trusted from x) x p) m.0,
  keeps,
  tt,
  handed_on alone old count size slots id i from m p x y ys is batch holds has serials s b deep at,
  refl,
)
