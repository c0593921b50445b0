-- Open: the second half, on the own new word.
use Rattle.std.specs.Prelude.{◌≡◌, ◌<◌, ℕ, Bool, true, cond, nat_eq, [], ◌∷◌, length, slice_index, Some, None, refl, eqb}
use Rattle.std.proofs.Common.{arith, ap, ◌∙◌, sym, subst, set, length-set, get_or-set_same, get_or-set_other, eq-eqb}
use Rattle.std.proofs.lemmas.Bool.Decides.{nat_tests}
use prog.Atomic.{either}
use mathlib.Core.Option.{some}
use mathlib.Core.Logic.{dite}
use native.Mathlib.Decide.{ℕ_discrete}
use lib.ListN.{get_elem?}
use Rattle.atomic_table.specs.Table.{stepped, keeps}
use Rattle.ipcz_word.specs.Word.{Word}
use Rattle.ipcz_word.specs.Laws.{HasNode}
use Rattle.ipcz_word.specs.Layout.{source_bits, sets_bits, bits_of}
use Rattle.ipcz_node.specs.Node.{Node}
use Rattle.ipcz_world.specs.World.{World, node_at, word_at, way, set_node, set_word}
use Rattle.ipcz_world.specs.Lawful.{Lawful}
use Rattle.ipcz_world.proofs.frames.Frames.{node-set_node, node-set_word, word-set_node, word-set_word, mail-set_node, mail-set_word, claimed-set_node, claimed-set_word, size-set_node, size-set_word, count-set_node, count-set_word}
use Rattle.ipcz_world.proofs.Whole.{each_step_keeps_lawful}
use Rattle.ipcz_rule.specs.declared.view.View.{View}
use Rattle.ipcz_rule.specs.declared.view.Part.{Part}
use Rattle.ipcz_rule.specs.Rule.{St, inbox, mailbox, Rules, with_part, with_state, saw}
use Rattle.ipcz_rule.proofs.Counts.{Silent}
use Rattle.ipcz_rule.proofs.Moved.{ruled_with, spelled, named_beside}
use Rattle.ipcz_rule.proofs.Inboxes.{inboxes_stay}
use Rattle.ipcz_rule.proofs.Touches.{NodeMoves, others_spell, own_spells, mails_show}
use Rattle.ipcz_rule.proofs.Joins.{joined_same}
use Rattle.std.specs.Prelude.{nat_lt, if◌then◌else◌}
use Rattle.std.proofs.Common.{inl, inr}
use Rattle.ipcz_base.specs.declared.side.Side.TheVariants.{A, B}
use Rattle.ipcz_base.specs.declared.refusal.Refusal.TheVariants as refusals
use Rattle.ipcz_base.specs.Ends.{end_at}
use Rattle.ipcz_word.specs.Word.{open_word, empty_word}
use Rattle.ipcz_word.specs.SideSets.{has, none as no_sides}
use Rattle.ipcz_node.specs.Calls.{serials_refusal, open_node}
use Rattle.ipcz_world.specs.declared.step.Step.TheVariants as steps
use Rattle.ipcz_world.specs.declared.step.Reply.TheVariants as replies
use Rattle.ipcz_world.specs.Steps.{Effect, refuse, unless, opened_reply, open_on, open_step}
use Rattle.ipcz_world.specs.Books.{Books, advance}
use Rattle.ipcz_world.specs.Routes.{Routes, routes_after}
use Rattle.ipcz_rule.specs.Deeds.{Does}
use Rattle.ipcz_rule.specs.Kinds.{Done, IsDeeds, Opens}
use Rattle.ipcz_world.specs.HeldEnds.{is_turn}
use Rattle.ipcz_rule.specs.Steps.{open_part}
use Rattle.ipcz_rule.proofs.FromLaws.{opening_word}
use Rattle.ipcz_rule.proofs.Known.{sound_part}
use Rattle.ipcz_rule.proofs.Touching.{Kept, call_done, any_kept}

open_moves : (w : World) (i : ℕ) (y : Word) (n : ℕ) (x : Node) → NodeMoves w (set_word (set_node w n x) i y) n x
open_moves w i y n x = record {
  count = count-set_word (set_node w n x) i y ∙ count-set_node w n x;
  size = size-set_word (set_node w n x) i y ∙ size-set_node w n x;
  here = node-set_word (set_node w n x) i y n ∙ (node-set_node w n x n ∙ grind (arith, nat_tests));
  apart = λ j ne. node-set_word (set_node w n x) i y j ∙ (node-set_node w n x j ∙ grind (arith, nat_tests, ne));
  mail = λ k. mail-set_word (set_node w n x) i y k ∙ mail-set_node w n x k;
}

opened_word : (w : World) (i : ℕ) (y : Word) (n : ℕ) (x : Node) (j : ℕ) → word_at (set_word (set_node w n x) i y) j ≡ cond (nat_eq j i) y (word_at w j)
opened_word w i y n x j = word-set_word (set_node w n x) i y j ∙ ap (cond (nat_eq j i) y) (word-set_node w n x j)

open_gives : (w : World) (n i : ℕ) (x : Node) → n < w.count → node_at w n ≡ x → x.opening ≡ Some i → serials_refusal x ≡ None →
    open_step w n ≡ record { reply = replies.Opened (end_at i A) (end_at i B); world = set_word (set_node w n (open_node (node_at w n) i)) i open_word }
unfolding open_on unless
open_gives w n i x inside is opening fine =
    let l : nat_lt n w.count ≡ true = grind (arith, nat_tests, inside) in
    let o : (node_at w n).opening ≡ Some i = ap (λ y. y.opening) is ∙ opening in
    let f : serials_refusal (node_at w n) ≡ None = ap serials_refusal is ∙ fine in
    ap (λ b. if b then open_on w n (node_at w n).opening else refuse w refusals.Stranger) l
    ∙ (ap (open_on w n) o ∙ ap (λ why. unless w why (record { reply = replies.Opened (end_at i A) (end_at i B); world = set_word (set_node w n (open_node (node_at w n) i)) i open_word })) f)

open_written : (w : World) (b : Books) (n i : ℕ) → advance w b (steps.Open n) (replies.Opened (end_at i A) (end_at i B)) ≡ b
unfolding advance
open_written w b n i = refl

empty_bits : bits_of empty_word ≡ 0
unfolding bits_of sets_bits empty_word has no_sides source_bits
empty_bits = refl

open_named : HasNode open_word.source
unfolding open_word
open_named = tt

module _ (count size : ℕ) (s : St) (r : Rules count size s) (id : ℕ) (v v' : View) (p : Part) (i n' : ℕ)
    (at : get_elem? s.views id ≡ some v) (is : v.parts ≡ p ∷ []) (opening : p.state.opening ≡ Some i) (fine : serials_refusal p.state ≡ None) (inside : i < size)
    (new : n' ≡ bits_of open_word) (is' : v'.parts ≡ with_state (open_node p.state i) p ∷ []) (sight : Silent s.words v v') where
  abbrev w : World
  w = r.world

  abbrev p' : Part
  p' = with_state (open_node p.state i) p

  abbrev w' : World
  w' = set_word (set_node w p.node p'.state) i open_word

  abbrev g' : Routes
  g' = routes_after w r.routes (steps.Open p.node) (replies.Opened (end_at i A) (end_at i B))

  below : i < w.size
  below = let e = r.words in omega (arith, inside)

  wide : i < length s.words
  wide = let e = r.shows.wide in let l = below in omega arith

  lawful : Lawful w' r.books g'
  lawful =
      let sp = spelled s r id v p at is in
      let it = open_step w p.node in
      let kept = each_step_keeps_lawful w it.world r.books r.routes (steps.Open p.node) it.reply r.lawful (inl (refl, refl)) in
      let done = subst (λ (e : Effect). Lawful e.world (advance w r.books (steps.Open p.node) e.reply) (routes_after w r.routes (steps.Open p.node) e.reply)) (open_gives w p.node i p.state sp.inside sp.state opening fine) kept in
      subst (λ (z : Node). Lawful (set_word (set_node w p.node (open_node z i)) i open_word) r.books g') sp.state
      (subst (λ (c : Books). Lawful (set_word (set_node w p.node (open_node (node_at w p.node) i)) i open_word) c g') (open_written w r.books p.node i) done)

  links : (j : ℕ) → j < w'.size → slice_index (set s.words i n') j ≡ bits_of (word_at w' j)
  links j l = dite (ℕ_discrete j i)
      (λ same. ap (slice_index (set s.words i n')) same ∙ (get_or-set_same s.words i n' 0 wide ∙ (new ∙ ap bits_of (sym (opened_word w i open_word p.node p'.state j ∙ grind (arith, nat_tests, same))))))
      (λ apart. get_or-set_other s.words i j n' 0 apart ∙ (r.shows.links j (rw (← (open_moves w i open_word p.node p'.state).size) l) ∙ ap bits_of (sym (opened_word w i open_word p.node p'.state j ∙ grind (arith, nat_tests, apart)))))

  sources : (j : ℕ) → HasNode (word_at w' j).source
  sources j = subst (λ (x : Word). HasNode x.source) (sym (opened_word w i open_word p.node p'.state j)) (named_beside i j open_word (word_at w j) open_named (r.sources j))

  boxes : (k : ℕ) → slice_index (set s.words i n') (mailbox w k) ≡ slice_index s.words (mailbox w k)
  boxes k = get_or-set_other s.words i (mailbox w k) n' 0 (λ e. let l = below in omega arith)

  abbrev IsOpened : World → Books → Routes → Type 0
  IsOpened = Done w r.books r.routes (Does (steps.Open p.node) (opened_reply i) ∷ [])

  is_opened : IsOpened w' r.books g'
  unfolding is_turn
  is_opened =
      let sp = spelled s r id v p at is in
      let e = open_gives w p.node i p.state sp.inside sp.state opening fine in
      subst (λ (z : Node). IsOpened (set_word (set_node w p.node (open_node z i)) i open_word) r.books g') sp.state
      (call_done w (set_word (set_node w p.node (open_node (node_at w p.node) i)) i open_word) r.books r.books r.routes g' (steps.Open p.node) (opened_reply i) r.lawful refl
      (inl (ap (λ (x : Effect). x.reply) (sym e), ap (λ (x : Effect). x.world) (sym e))) (sym (open_written w r.books p.node i)) refl)

  pub open_rules : (r' : Rules count size record { words = set s.words i n'; homes = s.homes; views = set s.views id v' }) × IsOpened r'.world r'.books r'.routes
  open_rules =
      let sp = spelled s r id v p at is in
      let moves = open_moves w i open_word p.node p'.state in
      ruled_with s r w' r.books g' (set s.words i n') s.homes id v v' p p' at is is' sight.1 (refl, sight.2) (record {
        count = moves.count;
        size = moves.size;
        wide = length-set s.words i n';
        deep = refl;
        links = links;
        sources = sources;
        claims = ap (slice_index (set s.words i n')) moves.size ∙ (get_or-set_other s.words i w.size n' 0 (λ e. let l = below in omega arith) ∙ (r.shows.claims ∙ sym (claimed-set_word (set_node w p.node p'.state) i open_word ∙ claimed-set_node w p.node p'.state)));
        grows = let same = claimed-set_word (set_node w p.node p'.state) i open_word ∙ claimed-set_node w p.node p'.state in omega (arith, same);
        mail = mails_show s w w' (set s.words i n') p.node p'.state moves boxes r.owner r.shows;
        node = refl;
        own = own_spells s w w' (set s.words i n') p.node p'.state moves boxes p p' refl refl refl refl refl refl sp;
        others = others_spell s w w' (set s.words i n') p.node p'.state moves boxes;
      }) (inboxes_stay s r w' (set s.words i n') id v' moves.count moves.size sight.0 (λ to l. get_or-set_other s.words i (inbox w to) n' 0 (λ e. let q = below in omega arith)) (λ from to lf lt e. inl (sym (boxes (way w from to)) ∙ e)))
      (joined_same s.views id v v' p p' r.books at is is' refl refl refl r.joined) lawful IsOpened is_opened

-- open: the own new word goes from 0 to that of an open pair
pub opens_deeds : Opens IsDeeds
opens_deeds count size slots id i m p is opening fine s r deep at small =
    let w = r.world in
    let n : ℕ = slice_index s.words i in
    let sp = spelled s r id m.0 p at is in
    let inside : i < size = (sound_part s r id m.0 p at is).opening i opening in
    let empty : word_at w i ≡ empty_word = opening_word w r.books r.routes p.node i r.lawful (ap (λ y. y.opening) sp.state ∙ opening) in
    let zero_here : n ≡ 0 = r.shows.links i (rw r.words inside) ∙ ap bits_of empty ∙ empty_bits in
    let v' = with_part (open_part i p) (saw i n m.0) in
    let G : Bool → Type 0 = λ b. (r' : Rules count size (stepped s i (either b (bits_of open_word) n) id m.1 v' keeps)) ×
    Done w r.books r.routes (Does (steps.Open p.node) (opened_reply i) ∷ []) r'.world r'.books r'.routes in
    (v', keeps, tt, subst G (sym (eq-eqb n 0 zero_here)) (open_rules count size s r id m.0 v' p i (bits_of open_word) at is opening fine inside refl refl (refl, inr (i, refl), refl)), (zero_here, refl))

pub opens : (all : Bool) → Opens (Kept all)
opens all count size slots id i m p is opening fine =
    any_kept all count size slots id m i (λ n. either (eqb n 0) (bits_of open_word) n) (λ n. Does (steps.Open p.node) (opened_reply i) ∷ [])
    (λ n m'. (n ≡ 0) × (m' ≡ (with_part (open_part i p) (saw i n m.0), m.1))) (opens_deeds count size slots id i m p is opening fine)
