-- Steps on the word of a link: mark, wake, lock, wait, unlock, and loads of it.
use Rattle.std.specs.Prelude.{◌≡◌, ◌<◌, ℕ, Bool, true, false, cond, nat_eq, List, [], ◌∷◌, length, slice_index, Option, Some, refl, MatchBool}
use Rattle.std.proofs.Common.{inl, arith, ap, ◌∙◌, sym, inr, subst, set, length-set, get_or-set_same, get_or-set_other}
use Rattle.std.proofs.lemmas.Bool.Decides.{nat_tests}
use Rattle.std.proofs.lemmas.List.{set-get_or}
use mathlib.Core.Option.{some}
use mathlib.Core.Logic.{dite}
use native.Mathlib.Decide.{ℕ_discrete}
use lib.ListN.{get_elem?}
use Rattle.atomic_table.specs.Table.{Act as TableAct, Valid, stepped, carried_after, keeps}
use Rattle.ipcz_base.specs.declared.side.Side.{Side}
use Rattle.ipcz_word.specs.Laws.{HasNode}
use Rattle.ipcz_word.specs.Word.{Word, Plan, Locks, Waits, Refuses, plan_of, word_by_plan}
use Rattle.ipcz_word.specs.Layout.{bits_of, word_of_bits}
use Rattle.ipcz_word.proofs.Return.{sets_return}
use Rattle.ipcz_router.specs.Router.{Router, primary_word, source_of}
use Rattle.ipcz_router.specs.declared.act.RouterAct.{RouterAct}
use Rattle.ipcz_router.specs.declared.act.RouterAct.TheVariants as acts
use Rattle.ipcz_node.specs.declared.act.Act.TheVariants.{Router as OfRouter}
use Rattle.ipcz_node.specs.Node.{Node}
use Rattle.ipcz_node.specs.Acts.{commit}
use Rattle.ipcz_world.specs.Coding.{IsLinkNumber}
use Rattle.ipcz_world.specs.World.{World, node_at, word_at, way, set_node, set_word}
use Rattle.ipcz_world.specs.WordAnswers.{word_answer, word_after}
use Rattle.ipcz_world.specs.Ranks.{AreTurns}
use Rattle.ipcz_world.proofs.frames.Frames.{node-set_node, node-set_word, word-set_node, word-set_word, mail-set_node, mail-set_word, claimed-set_node, claimed-set_word, size-set_node, size-set_word, count-set_node, count-set_word}
use Rattle.ipcz_rule.specs.declared.view.View.{View}
use Rattle.ipcz_rule.specs.declared.view.Part.{Part}
use Rattle.ipcz_rule.specs.Rule.{Slot, St, Mine, inbox, mailbox, Rules, with_part, saw}
use Rattle.ipcz_rule.specs.Steps.{CanAct, is_on_word}
use Rattle.ipcz_rule.proofs.Counts.{Silent}
use Rattle.ipcz_rule.proofs.Known.{sound_part, named_part, found_word}
use Rattle.ipcz_rule.specs.Kinds.{Follows, IsTurns, turn_where}
use Rattle.ipcz_rule.proofs.Moved.{ruled_with, spelled, named_beside}
use Rattle.ipcz_rule.proofs.Inboxes.{inboxes_stay}
use Rattle.ipcz_rule.proofs.Touches.{NodeMoves, others_spell, own_spells, mails_show}
use Rattle.ipcz_rule.proofs.Joins.{joined_same}
use Rattle.ipcz_rule.proofs.Touching.{After}
use Rattle.ipcz_rule.proofs.Acting.{plain_part, act_routes, act_after, act_hand, after_word, unwritten_word}

-- a word and a node are others
word_moves : (w : World) (i : ℕ) (y : Word) (n : ℕ) (x : Node) → NodeMoves w (set_node (set_word w i y) n x) n x
word_moves w i y n x = record {
  count = count-set_node (set_word w i y) n x ∙ count-set_word w i y;
  size = size-set_node (set_word w i y) n x ∙ size-set_word w i y;
  here = node-set_node (set_word w i y) n x n ∙ grind (arith, nat_tests);
  apart = λ j ne. node-set_node (set_word w i y) n x j ∙ (grind (arith, nat_tests, ne, node-set_word w i y j));
  mail = λ k. mail-set_node (set_word w i y) n x k ∙ mail-set_word w i y k;
}

word_is : (w : World) (i : ℕ) (y : Word) (n : ℕ) (x : Node) (j : ℕ) → word_at (set_node (set_word w i y) n x) j ≡ cond (nat_eq j i) y (word_at w j)
word_is w i y n x j = word-set_node (set_word w i y) n x j ∙ word-set_word w i y j

-- an act of a router that would name a node leaves a word that names one, or none
by_plan_named : (x : Word) (s : Side) (o : Option ℕ) (q : Plan) → HasNode x.source → HasNode o → HasNode (word_by_plan x s o q).source
unfolding word_by_plan
by_plan_named x s o Locks old new = new
by_plan_named x s o Waits old new = old
by_plan_named x s o Refuses old new = old

named_after : (x : Word) (s : Side) (o : Option ℕ) (act : RouterAct) → HasNode x.source → HasNode o → HasNode (word_after x s o act).source
unfolding word_after
named_after x s o acts.Lock old new = by_plan_named x s o (plan_of x s) old new
named_after x s o acts.Unlock old new = tt
named_after x s o other old new = old

module _ (count size : ℕ) (s : St) (r : Rules count size s) (id : ℕ) (v v' : View) (p : Part) (serial : ℕ) (rt : Router) (act : RouterAct) (i n' : ℕ)
    (at : get_elem? s.views id ≡ some v) (is : v.parts ≡ p ∷ []) (can : CanAct p.state serial rt act) (on : is_on_word act ≡ true) (primary : primary_word rt ≡ Some i) (inside : i < size)
    (new : n' ≡ bits_of (word_after (word_at r.world i) rt.end.side (source_of rt) act)) (is' : v'.parts ≡ plain_part serial act (word_answer (word_at r.world i) rt.end.side (source_of rt) act) p ∷ []) (sight : Silent s.words v v') where
  abbrev w : World
  w = r.world

  abbrev y : Word
  y = word_after (word_at r.world i) rt.end.side (source_of rt) act

  abbrev p' : Part
  p' = plain_part serial act (word_answer (word_at r.world i) rt.end.side (source_of rt) act) p

  abbrev w' : World
  w' = set_node (set_word w i y) p.node p'.state

  below : i < w.size
  below = let e = r.words in omega (arith, inside)

  wide : i < length s.words
  wide = let e = r.shows.wide in let l = below in omega arith

  after : After w r.books r.routes p.node (OfRouter serial act) w' r.books (act_routes w r.routes p.node serial act)
  after =
      let sp = spelled s r id v p at is in
      let kept = act_after w r.books r.routes p.node serial p.state rt act r.lawful sp.inside sp.state can (unwritten_word act on) in
      let moved = subst (λ (u : World). After w r.books r.routes p.node (OfRouter serial act) u r.books (act_routes w r.routes p.node serial act)) (after_word w p.node serial rt act i on primary) kept in
      subst (λ (z : Node). After w r.books r.routes p.node (OfRouter serial act) (set_node (set_word w i y) p.node (commit z (OfRouter serial act) (word_answer (word_at w i) rt.end.side (source_of rt) act))) r.books (act_routes w r.routes p.node serial act)) sp.state moved

  links : (j : ℕ) → j < w'.size → slice_index (set s.words i n') j ≡ bits_of (word_at w' j)
  links j l = dite (ℕ_discrete j i)
      (λ same. ap (slice_index (set s.words i n')) same ∙ (get_or-set_same s.words i n' 0 wide ∙ (new ∙ ap bits_of (sym (word_is w i y p.node p'.state j ∙ grind (arith, nat_tests, same))))))
      (λ apart. get_or-set_other s.words i j n' 0 apart ∙ (r.shows.links j (rw (← (word_moves w i y p.node p'.state).size) l) ∙ ap bits_of (sym (word_is w i y p.node p'.state j ∙ grind (arith, nat_tests, apart)))))

  sources : (j : ℕ) → HasNode (word_at w' j).source
  sources j =
      let own = named_part s r id v p serial rt at is can.there in
      subst (λ (x : Word). HasNode x.source) (sym (word_is w i y p.node p'.state j))
      (named_beside i j y (word_at w j) (named_after (word_at w i) rt.end.side (source_of rt) act (r.sources i) own) (r.sources j))

  boxes : (k : ℕ) → slice_index (set s.words i n') (mailbox w k) ≡ slice_index s.words (mailbox w k)
  boxes k = get_or-set_other s.words i (mailbox w k) n' 0 (λ e. let l = below in omega arith)

  pub word_rules : Follows count size s r ((p.node, OfRouter serial act) ∷ []) record { words = set s.words i n'; homes = s.homes; views = set s.views id v' }
  word_rules =
      let sp = spelled s r id v p at is in
      let moves = word_moves w i y p.node p'.state in
      ruled_with s r w' r.books (act_routes w r.routes p.node serial act) (set s.words i n') s.homes id v v' p p' at is is' sight.1 (refl, sight.2) (record {
        count = moves.count;
        size = moves.size;
        wide = length-set s.words i n';
        deep = refl;
        links = links;
        sources = sources;
        claims = ap (slice_index (set s.words i n')) moves.size ∙ (get_or-set_other s.words i w.size n' 0 (λ e. let l = below in omega arith) ∙ (r.shows.claims ∙ sym (claimed-set_node (set_word w i y) p.node p'.state ∙ claimed-set_word w i y)));
        grows = let same = claimed-set_node (set_word w i y) p.node p'.state ∙ claimed-set_word w i y in omega (arith, same);
        mail = mails_show s w w' (set s.words i n') p.node p'.state moves boxes r.owner r.shows;
        node = refl;
        own = own_spells s w w' (set s.words i n') p.node p'.state moves boxes p p' refl refl refl (act_hand p.state serial act (word_answer (word_at r.world i) rt.end.side (source_of rt) act)) refl refl sp;
        others = others_spell s w w' (set s.words i n') p.node p'.state moves boxes;
      }) (inboxes_stay s r w' (set s.words i n') id v' moves.count moves.size sight.0 (λ to l. get_or-set_other s.words i (inbox w to) n' 0 (λ e. let q = below in omega arith)) (λ from to lf lt e. inl (sym (boxes (way w from to)) ∙ e)))
      (joined_same s.views id v v' p p' r.books at is is' refl refl refl r.joined) after.0 (AreTurns w r.books r.routes ((p.node, OfRouter serial act) ∷ [])) after.1

pub same_moves : (w : World) (n : ℕ) (x : Node) → node_at w n ≡ x → NodeMoves w w n x
same_moves w n x is = record { count = refl; size = refl; here = is; apart = λ j ne. refl; mail = λ k. refl }

-- nothing changes but what was seen
pub sees : {count size : ℕ} (s : St) (r : Rules count size s) (i id : ℕ) (v v' : View) (p : Part) → get_elem? s.views id ≡ some v → v.parts ≡ p ∷ [] → v'.parts ≡ p ∷ [] → Silent s.words v v' →
    Follows count size s r [] record { words = set s.words i (slice_index s.words i); homes = s.homes; views = set s.views id v' }
sees {count} {size} s r i id v v' p at is is' sight =
    let sp = spelled s r id v p at is in
    let w = r.world in
    let moves = same_moves w p.node p.state sp.state in
    let same : (j : ℕ) → slice_index s.words (mailbox w j) ≡ slice_index s.words (mailbox w j) = λ j. refl in
    let rules : Follows count size s r [] record { words = s.words; homes = s.homes; views = set s.views id v' } = ruled_with s r w r.books r.routes s.words s.homes id v v' p p at is is' sight.1 (refl, sight.2) (record {
      count = refl;
      size = refl;
      wide = refl;
      deep = refl;
      links = r.shows.links;
      sources = r.sources;
      claims = r.shows.claims;
      grows = omega arith;
      mail = r.shows.mail;
      node = refl;
      own = sp;
      others = λ q ne h. h;
    }) (inboxes_stay s r w s.words id v' refl refl sight.0 (λ to l. refl) (λ from to lf lt e. inl e)) (joined_same s.views id v v' p p r.books at is is' refl refl refl r.joined) r.lawful (AreTurns r.world r.books r.routes []) (refl, refl, refl) in
    subst (λ (ws : List ℕ). Follows count size s r [] record { words = ws; homes = s.homes; views = set s.views id v' }) (sym (set-get_or s.words i 0)) rules

-- the view after an act of a router on the word i, if it was found at n
abbrev pub plain_view : ℕ → ℕ → ℕ → Side → Option ℕ → RouterAct → Part → View → View
plain_view i n serial side source act p v = with_part (plain_part serial act (word_answer (word_of_bits n) side source act) p) (saw i n v)

module _ (count size id : ℕ) (m : Mine) (p : Part) (serial : ℕ) (rt : Router) (act : RouterAct) (i : ℕ) (f : ℕ → ℕ) (hit : ℕ → Bool)
    (is : m.0.parts ≡ p ∷ []) (can : CanAct p.state serial rt act) (on : is_on_word act ≡ true) (primary : primary_word rt ≡ Some i) (inside : i < size)
    (fits : (x : Word) → IsLinkNumber (bits_of x) → hit (bits_of x) ≡ true → f (bits_of x) ≡ bits_of (word_after x rt.end.side (source_of rt) act))
    (stays : (n : ℕ) → hit n ≡ false → f n ≡ n) (s : St) (r : Rules count size s) (at : get_elem? s.views id ≡ some m.0) where
  abbrev n : ℕ
  n = slice_index s.words i

  abbrev Told : Bool → Mine → Type 0
  Told b m' = MatchBool b (m' ≡ (plain_view i n serial rt.end.side (source_of rt) act p m.0, m.1)) (m' ≡ (saw i n m.0, m.1))

  abbrev F : Bool → Type 0
  F b = (v : View) × (a : TableAct Slot) × Valid s.homes m.1 a × Follows count size s r (turn_where b p.node (OfRouter serial act)) (stepped s i (f n) id m.1 v a) × Told b (v, carried_after m.1 a)

  spelled_word : n ≡ bits_of (word_at r.world i)
  spelled_word = r.shows.links i (rw r.words inside)

  back : word_of_bits n ≡ word_at r.world i
  back = ap word_of_bits spelled_word ∙ sets_return (word_at r.world i)

  by : (b : Bool) → hit n ≡ b → F b
  by true e = (
    plain_view i n serial rt.end.side (source_of rt) act p m.0,
    keeps,
    tt,
    word_rules count size s r id m.0 (plain_view i n serial rt.end.side (source_of rt) act p m.0) p serial rt act i (f n) at is can on primary inside
        (ap f spelled_word ∙ fits (word_at r.world i) (subst IsLinkNumber spelled_word (found_word s r i inside)) (ap hit (sym spelled_word) ∙ e)) (ap (λ x. plain_part serial act (word_answer x rt.end.side (source_of rt) act) p ∷ []) back) (refl, inr (i, refl), refl),
    refl,
  )
  by false e = (
    saw i n m.0,
    keeps,
    tt,
    subst (λ (k : ℕ). Follows count size s r [] (stepped s i k id m.1 (saw i n m.0) keeps)) (sym (stays n e)) (sees s r i id m.0 (saw i n m.0) p at is is (refl, inr (i, refl), refl)),
    refl,
  )

  pub by_test : F (hit n)
  by_test = by (hit n) refl

-- a step on the word of a link: if the test holds of what it finds, it is the act, else it is a load
pub word_acts : (count size slots id : ℕ) (m : Mine) (p : Part) (serial : ℕ) (rt : Router) (act : RouterAct) (i : ℕ) (f : ℕ → ℕ) (hit : ℕ → Bool) →
    m.0.parts ≡ p ∷ [] → CanAct p.state serial rt act → is_on_word act ≡ true → primary_word rt ≡ Some i →
    ((x : Word) → IsLinkNumber (bits_of x) → hit (bits_of x) ≡ true → f (bits_of x) ≡ bits_of (word_after x rt.end.side (source_of rt) act)) →
    ((n : ℕ) → hit n ≡ false → f n ≡ n) →
    IsTurns count size slots id m i f (λ n. turn_where (hit n) p.node (OfRouter serial act)) (λ n m'. MatchBool (hit n) (m' ≡ (plain_view i n serial rt.end.side (source_of rt) act p m.0, m.1)) (m' ≡ (saw i n m.0, m.1)))
word_acts count size slots id m p serial rt act i f hit is can on primary fits stays s r deep at small =
    by_test count size id m p serial rt act i f hit is can on primary ((sound_part s r id m.0 p at is).primary serial rt i can.there primary) fits stays s r at
