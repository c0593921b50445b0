-- The kinds of step whose word is no mailbox's, on a table of batches: each out of the single table's own kind, since what a node does is the same
-- behind messages in front of its outboxes.
use Rattle.std.specs.Prelude.{◌≡◌, ◌≤◌, ◌<◌, ◌+◌, ◌-◌, ℕ, Bool, true, false, nat_eq, eqb, bit_and, bit_or, if◌then◌else◌, Option, Some, None, List, [], ◌∷◌, ◌++◌, map, slice_index, MatchBool, refl}
use Rattle.std.specs.Int.{bit_at}
use Rattle.std.proofs.Common.{arith, ap, ◌∙◌, sym, subst}
use Rattle.std.proofs.lemmas.Bool.Decides.{nat_tests}
use prog.Atomic.{either}
use mathlib.Core.Option.{some}
use lib.ListN.{get_elem?}
use Rattle.ipcz_base.specs.declared.item.Item.TheVariants.{Parcel, Mark}
use Rattle.ipcz_base.specs.Sides.{opposite}
use Rattle.ipcz_word.specs.Word.{plan_of, open_word}
use Rattle.ipcz_word.specs.Layout.{bits_of, word_of_bits, stable_bit, waiting_bit, locked_bit}
use Rattle.ipcz_router.specs.Router.{Router, primary_word, source_of}
use Rattle.ipcz_router.specs.declared.act.RouterAct.{RouterAct}
use Rattle.ipcz_router.specs.declared.act.RouterAct.TheVariants as router_acts
use Rattle.ipcz_router.specs.declared.act.Answer.{Answer}
use Rattle.ipcz_router.specs.declared.act.Answer.TheVariants as answers
use Rattle.ipcz_node.specs.declared.act.Act.{Act}
use Rattle.ipcz_node.specs.declared.act.Act.TheVariants as acts
use Rattle.ipcz_node.specs.Node.{Node, router_in}
use Rattle.ipcz_node.specs.Acts.{commit}
use Rattle.ipcz_node.specs.Calls.{put_number}
use Rattle.ipcz_node.specs.Fronts.{behind}
use Rattle.ipcz_node.proofs.Fronts.{put_behind, get_behind, close_call_behind, open_behind, rewet_behind, commit_behind, possible_behind, is_post}
use Rattle.ipcz_node.proofs.Fronts.{put_refusal_behind, get_refusal_behind, close_refusal_behind, act_lacks_behind}
use Rattle.ipcz_world.specs.WordAnswers.{word_after, word_answer}
use Rattle.ipcz_world.specs.Steps.{put_of, opened_reply}
use Rattle.ipcz_world.specs.declared.step.Step.TheVariants.{Open, Get, Close}
use Rattle.ipcz_world.specs.declared.step.Reply.TheVariants as replies
use Rattle.ipcz_world.specs.World.{World}
use Rattle.ipcz_world.specs.Books.{Books}
use Rattle.ipcz_world.specs.Routes.{Routes}
use Rattle.ipcz_rule.specs.declared.view.View.{View}
use Rattle.ipcz_rule.specs.declared.view.Part.{Part}
use Rattle.ipcz_rule.specs.Histories.{IsNoted, noted, entry_of, after_call}
use Rattle.ipcz_rule.specs.Rule.{St, Mine, Rules, with_part, with_state, saw, announcing, forgetting}
use Rattle.ipcz_rule.specs.Steps.{put_part, get_part, close_part, claimed_part, open_part, wet_part, act_part, written_part, dropped_part, retired_part, add_put_entry, add_got_entry, CanAct, is_touch_act}
use Rattle.ipcz_rule.specs.Deeds.{Deed, Does, Beside, deed_where}
use Rattle.ipcz_rule.specs.Deeds as asides
use Rattle.ipcz_rule.specs.Kinds.{Loads, Puts, Gets, Closes, PendingCloses, Touches, TouchActs, Dries, Wets, Marks, Wakes, Unlocks, TriesLock, LoadsForLock, LoadsForClaim, Claims, ClaimsForOpen, Opens}
use Rattle.ipcz_rule.specs.Kinds.{Announces, LoadsForPost, LoadsForHand, Notes, turn_where, is_refusal}
use Rattle.ipcz_rule.specs.Batches.{Batch, BatchMine, plain_count, shown_part, seen_at, with_batches, ViewFolds, Between, BatchStep}
use Rattle.ipcz_rule.proofs.Announcing.{set_stays}
use Rattle.ipcz_rule.proofs.Known.{sound_part}
use Rattle.ipcz_rule.proofs.Moved.{spelled}
use Rattle.ipcz_rule.proofs.OldLinks.{old_link}
use Rattle.ipcz_rule.proofs.BatchSteps.{SingleStep, KnownBy, SingleBy, BatchBy, Leaves, seen-more, touch_step, plain_step}

-- the single view has the one part, as it is shown there
pub part_there : {count size : ℕ} {fronts : ℕ → List Batch} {v u : View} {p : Part} → ViewFolds count size fronts v u → v.parts ≡ p ∷ [] → u.parts ≡ shown_part fronts p ∷ []
part_there {count} {size} {fronts} f is = f.parts ∙ ap (map (shown_part fronts)) is

-- views that have seen a number more
pub saw_folds : {count size : ℕ} {fronts : ℕ → List Batch} {v u : View} (i n n1 : ℕ) → (i < plain_count count size → n1 ≡ n) → ViewFolds count size fronts v u →
    ViewFolds count size fronts (saw i n v) (saw i n1 u)
saw_folds {count} {size} {fronts} {v} {u} i n n1 same f = record {
  parts = f.parts;
  announced = refl;
  caller = f.caller;
  seen = λ j l. seen-more j u.seen ((i, n1) ∷ []) ∙ (ap (λ ns. ns ++ seen_at j ((i, n1) ∷ [])) (f.seen j l) ∙ (ap (λ ns. seen_at j v.seen ++ ns) (one j l (nat_eq i j) refl) ∙ sym (seen-more j v.seen ((i, n) ∷ []))));
}
  where
    one : (j : ℕ) → j < plain_count count size → (b : Bool) → nat_eq i j ≡ b → seen_at j ((i, n1) ∷ []) ≡ seen_at j ((i, n) ∷ [])
    one j l true e = ap (λ k. seen_at j ((i, k) ∷ [])) (same (let q : i ≡ j = grind (arith, nat_tests, e) in omega (arith, q, l)))
    one j l false e = rw e refl

-- views of which the one part is another
pub part_folds : {count size : ℕ} {fronts : ℕ → List Batch} {v u : View} (p' p1 : Part) → p1 ≡ shown_part fronts p' → ViewFolds count size fronts v u →
    ViewFolds count size fronts (with_part p' v) (with_part p1 u)
part_folds p' p1 e f = record { parts = ap (λ (x : Part). x ∷ []) e; announced = refl; caller = f.caller; seen = f.seen }

-- a load of any word
pub loads : (q : KnownBy (List (ℕ × Act))) (alone : Bool) → Loads (SingleBy q) → Loads (BatchBy alone q)
loads q alone old count size slots id i m p is = touch_step count size alone slots id m p i (λ n m'. m' ≡ (saw i n m.0, m.1)) is
    (q []) (λ fronts u n m1. m1 ≡ (saw i n u, []))
    (λ fronts u f. old count size slots id i (u, []) (shown_part fronts p) (part_there f is))
    (λ fronts u f n n1 m1 same e. record {
      none_carried = ap (λ (x : Mine). x.1) e;
      view = saw i n m.0;
      part = p;
      parts = is;
      node = refl;
      batches = refl;
      folds = subst (λ (x : View). ViewFolds count size fronts (saw i n m.0) x) (sym (ap (λ (y : Mine). y.0) e)) (saw_folds i n n1 same f);
      is = refl;
    })

-- a touch of any word by which the one part becomes another
module _ (count size : ℕ) (alone : Bool) (slots id : ℕ) (m : BatchMine) (p : Part) (i : ℕ) (is : m.0.parts ≡ p ∷ []) where
  pub part_step : (known : World → Books → Routes → World → Books → Routes → Type 0) (p' : Part) (p1 : (ℕ → List Batch) → Part) →
      p'.node ≡ p.node → p'.batches ≡ p.batches → ((fronts : ℕ → List Batch) → p1 fronts ≡ shown_part fronts p') →
      ((fronts : ℕ → List Batch) (u : View) → ViewFolds count size fronts m.0 u →
      SingleStep (λ n. known) count size slots id (u, []) i (λ n. n) (λ n m1. m1 ≡ (with_part (p1 fronts) u, []))) →
      BatchStep alone (λ n. known) count size slots id m i (λ n. n) (λ n m'. m' ≡ (with_part p' m.0, m.1))
  part_step known p' p1 node batches shown single = touch_step count size alone slots id m p i (λ n m'. m' ≡ (with_part p' m.0, m.1)) is
      known (λ fronts u n m1. m1 ≡ (with_part (p1 fronts) u, [])) single
      (λ fronts u f n n1 m1 same e. record {
        none_carried = ap (λ (x : Mine). x.1) e;
        view = with_part p' m.0;
        part = p';
        parts = refl;
        node = node;
        batches = batches;
        folds = subst (λ (x : View). ViewFolds count size fronts (with_part p' m.0) x) (sym (ap (λ (y : Mine). y.0) e)) (part_folds p' (p1 fronts) (shown fronts) f);
        is = refl;
      })

  -- a step on a word before the mailboxes, by which the one part becomes another if a test holds of what it finds: else it is a load
  pub word_step : (known : Between) (g : ℕ → ℕ) (hit : ℕ → Bool) (p' : ℕ → Part) (p1 : (ℕ → List Batch) → ℕ → Part) →
      ((n : ℕ) → (p' n).node ≡ p.node) → ((n : ℕ) → (p' n).batches ≡ p.batches) → ((fronts : ℕ → List Batch) (n : ℕ) → p1 fronts n ≡ shown_part fronts (p' n)) →
      ((fronts : ℕ → List Batch) (u : View) → ViewFolds count size fronts m.0 u → (t : St) → Rules count size t → get_elem? t.views id ≡ some u → i ≤ size) →
      ((fronts : ℕ → List Batch) (u : View) → ViewFolds count size fronts m.0 u →
      SingleStep known count size slots id (u, []) i g (λ n m1. MatchBool (hit n) (m1 ≡ (with_part (p1 fronts n) (saw i n u), [])) (m1 ≡ (saw i n u, [])))) →
      BatchStep alone known count size slots id m i g (λ n m'. MatchBool (hit n) (m' ≡ (with_part (p' n) (saw i n m.0), m.1)) (m' ≡ (saw i n m.0, m.1)))
  word_step known g hit p' p1 node batches shown low single =
      plain_step count size alone slots id m p i (λ n m'. MatchBool (hit n) (m' ≡ (with_part (p' n) (saw i n m.0), m.1)) (m' ≡ (saw i n m.0, m.1))) is
      known g (λ fronts u n m1. MatchBool (hit n) (m1 ≡ (with_part (p1 fronts n) (saw i n u), [])) (m1 ≡ (saw i n u, [])))
      (λ fronts u f t r at. let l = low fronts u f t r at in omega (arith, l))
      (λ s b at from to lf lt some_left word bit. let h = b.folds.views id m.0 at in let l = low b.fronts h.0 h.2 b.single b.rules h.1 in absurd (omega (arith, l, word)))
      single (λ fronts u f n m1 h. by (hit n) fronts u f n m1 h)
    where
      by : (c : Bool) (fronts : ℕ → List Batch) (u : View) → ViewFolds count size fronts m.0 u → (n : ℕ) (m1 : Mine) →
          MatchBool c (m1 ≡ (with_part (p1 fronts n) (saw i n u), [])) (m1 ≡ (saw i n u, [])) →
          Leaves count size fronts m p (λ m'. MatchBool c (m' ≡ (with_part (p' n) (saw i n m.0), m.1)) (m' ≡ (saw i n m.0, m.1))) m1
      by true fronts u f n m1 e = record {
        none_carried = ap (λ (x : Mine). x.1) e;
        view = with_part (p' n) (saw i n m.0);
        part = p' n;
        parts = refl;
        node = node n;
        batches = batches n;
        folds = subst (λ (x : View). ViewFolds count size fronts (with_part (p' n) (saw i n m.0)) x) (sym (ap (λ (y : Mine). y.0) e))
            (part_folds (p' n) (p1 fronts n) (shown fronts n) (saw_folds i n n (λ l. refl) f));
        is = refl;
      }
      by false fronts u f n m1 e = record {
        none_carried = ap (λ (x : Mine). x.1) e;
        view = saw i n m.0;
        part = p;
        parts = is;
        node = refl;
        batches = refl;
        folds = subst (λ (x : View). ViewFolds count size fronts (saw i n m.0) x) (sym (ap (λ (y : Mine). y.0) e)) (saw_folds i n n (λ l. refl) f);
        is = refl;
      }

-- what an act of a node writes is the same behind messages in front
written_shown : (fronts : ℕ → List Batch) (n : Node) (act : Act) (x : Part) → written_part (behind (fronts x.node) n) act (shown_part fronts x) ≡ shown_part fronts (written_part n act x)
written_shown fronts n (acts.Hand from) x = refl
written_shown fronts n (acts.Look from) x = refl
written_shown fronts n (acts.Post to) x = refl
written_shown fronts n (acts.Close e) x = refl
written_shown fronts n (acts.Router serial router_acts.Discard) x = dropped (router_in n serial)
  where
    dropped : (o : Option Router) → dropped_part o (shown_part fronts x) ≡ shown_part fronts (dropped_part o x)
    dropped None = refl
    dropped (Some r) = refl
written_shown fronts n (acts.Router serial router_acts.Retire) x = retired (router_in n serial)
  where
    retired : (o : Option Router) → retired_part o (shown_part fronts x) ≡ shown_part fronts (retired_part o x)
    retired None = refl
    retired (Some r) = refl
written_shown fronts n (acts.Router serial other) x = refl
written_shown fronts n acts.Idle x = refl

-- it leaves the part's node and the batches
record Stays (p p' : Part) : Type 0 where
  pub node : p'.node ≡ p.node
  pub batches : p'.batches ≡ p.batches

written_stays : (n : Node) (act : Act) (x : Part) → Stays x (written_part n act x)
written_stays n (acts.Hand from) x = record { node = refl; batches = refl }
written_stays n (acts.Look from) x = record { node = refl; batches = refl }
written_stays n (acts.Post to) x = record { node = refl; batches = refl }
written_stays n (acts.Close e) x = record { node = refl; batches = refl }
written_stays n (acts.Router serial router_acts.Discard) x = dropped (router_in n serial)
  where
    dropped : (o : Option Router) → Stays x (dropped_part o x)
    dropped None = record { node = refl; batches = refl }
    dropped (Some r) = record { node = refl; batches = refl }
written_stays n (acts.Router serial router_acts.Retire) x = retired (router_in n serial)
  where
    retired : (o : Option Router) → Stays x (retired_part o x)
    retired None = record { node = refl; batches = refl }
    retired (Some r) = record { node = refl; batches = refl }
written_stays n (acts.Router serial other) x = record { node = refl; batches = refl }
written_stays n acts.Idle x = record { node = refl; batches = refl }

pub act_node : (act : Act) (a : Answer) (p : Part) → (act_part act a p).node ≡ p.node
act_node act a p = (written_stays p.state act (with_state (commit p.state act a) p)).node

pub act_batches : (act : Act) (a : Answer) (p : Part) → (act_part act a p).batches ≡ p.batches
act_batches act a p = (written_stays p.state act (with_state (commit p.state act a) p)).batches

-- so an act but a post does the same there
pub act_shown : (fronts : ℕ → List Batch) (act : Act) (a : Answer) (p : Part) → is_post act ≡ false → act_part act a (shown_part fronts p) ≡ shown_part fronts (act_part act a p)
act_shown fronts act a p other =
    ap (λ (x : Node). written_part (behind (fronts p.node) p.state) act (with_batches [] (with_state x p))) (sym (commit_behind (fronts p.node) p.state act a other)) ∙
    written_shown fronts p.state act (with_state (commit p.state act a) p)

-- and its router may take it there
pub can_there : (fs : List Batch) (n : Node) (serial : ℕ) (r : Router) (act : RouterAct) → CanAct n serial r act → CanAct (behind fs n) serial r act
can_there fs n serial r act can = record { there = can.there; may = can.may; serials = sym (act_lacks_behind fs n (acts.Router serial act)) ∙ can.serials }

touch_is_no_post : (act : Act) → is_touch_act act ≡ true → is_post act ≡ false
touch_is_no_post (acts.Post to) h = absurd (cc)
touch_is_no_post other h = refl

-- put, get and close
pub puts : (q : KnownBy (List Deed)) (alone : Bool) → Puts (SingleBy q) → Puts (BatchBy alone q)
puts q alone old profile count size slots id i m p at bytes ends is free = part_step count size alone slots id m p i is
    (q (Does (put_of profile p.node at bytes ends) (replies.Put (put_number p.state at)) ∷ []))
    (put_part at bytes ends p) (λ fronts. put_part at bytes ends (shown_part fronts p)) refl refl
    (λ fronts. ap (λ x. add_put_entry at (put_number p.state at) (Parcel (record { bytes = bytes; ends = ends })) (with_batches [] (with_state x p)))
    (sym (put_behind (fronts p.node) p.state at (record { bytes = bytes; ends = ends }))))
    (λ fronts u f. old profile count size slots id i (u, []) (shown_part fronts p) at bytes ends (part_there f is)
    (sym (put_refusal_behind (fronts p.node) profile p.state at bytes ends) ∙ free))

pub gets : (q : KnownBy (List Deed)) (alone : Bool) → Gets (SingleBy q) → Gets (BatchBy alone q)
gets q alone old count size slots id i m p at number parcel is free got = part_step count size alone slots id m p i is
    (q (Does (Get p.node at) (replies.Got number parcel) ∷ []))
    (get_part at number parcel p) (λ fronts. get_part at number parcel (shown_part fronts p)) refl refl
    (λ fronts. ap (λ x. add_got_entry at number parcel (with_batches [] (with_state x p))) (sym (get_behind (fronts p.node) p.state at)))
    (λ fronts u f. old count size slots id i (u, []) (shown_part fronts p) at number parcel (part_there f is)
    (sym (get_refusal_behind (fronts p.node) p.state at) ∙ free) got)

pub closes : (q : KnownBy (List Deed)) (alone : Bool) → Closes (SingleBy q) → Closes (BatchBy alone q)
closes q alone old count size slots id i m p at is free = part_step count size alone slots id m p i is
    (q (Does (Close p.node at) (replies.Closed (put_number p.state at)) ∷ []))
    (close_part at p) (λ fronts. close_part at (shown_part fronts p)) refl refl
    (λ fronts. ap (λ x. add_put_entry at (put_number p.state at) Mark (with_batches [] (with_state x p))) (sym (close_call_behind (fronts p.node) p.state at)))
    (λ fronts u f. old count size slots id i (u, []) (shown_part fronts p) at (part_there f is) (sym (close_refusal_behind (fronts p.node) p.state at) ∙ free))

-- touches of a turn
pub pending_closes : (q : KnownBy (List (ℕ × Act))) (alone : Bool) → PendingCloses (SingleBy q) → PendingCloses (BatchBy alone q)
pending_closes q alone old count size slots id i m p e is first = part_step count size alone slots id m p i is
    (q ((p.node, acts.Close e) ∷ [])) (act_part (acts.Close e) answers.Plain p) (λ fronts. act_part (acts.Close e) answers.Plain (shown_part fronts p)) refl refl
    (λ fronts. act_shown fronts (acts.Close e) answers.Plain p refl)
    (λ fronts u f. old count size slots id i (u, []) (shown_part fronts p) e (part_there f is) first)

pub touches : (q : KnownBy (List (ℕ × Act))) (alone : Bool) → Touches (SingleBy q) → Touches (BatchBy alone q)
touches q alone old count size slots id i m p serial r act is can plain = part_step count size alone slots id m p i is
    (q ((p.node, acts.Router serial act) ∷ [])) (act_part (acts.Router serial act) answers.Plain p) (λ fronts. act_part (acts.Router serial act) answers.Plain (shown_part fronts p))
    (act_node (acts.Router serial act) answers.Plain p) (act_batches (acts.Router serial act) answers.Plain p)
    (λ fronts. act_shown fronts (acts.Router serial act) answers.Plain p refl)
    (λ fronts u f. old count size slots id i (u, []) (shown_part fronts p) serial r act (part_there f is) (can_there (fronts p.node) p.state serial r act can) plain)

pub touch_acts : (q : KnownBy (List (ℕ × Act))) (alone : Bool) → TouchActs (SingleBy q) → TouchActs (BatchBy alone q)
touch_acts q alone old count size slots id i m p act is touch possible serials =
    let other = touch_is_no_post act touch in part_step count size alone slots id m p i is
    (q ((p.node, act) ∷ [])) (act_part act answers.Plain p) (λ fronts. act_part act answers.Plain (shown_part fronts p)) (act_node act answers.Plain p) (act_batches act answers.Plain p)
    (λ fronts. act_shown fronts act answers.Plain p other)
    (λ fronts u f. old count size slots id i (u, []) (shown_part fronts p) act (part_there f is) touch (possible_behind (fronts p.node) p.state act other possible)
    (sym (act_lacks_behind (fronts p.node) p.state act) ∙ serials))

pub dries : (q : KnownBy (List Deed)) (alone : Bool) → Dries (SingleBy q) → Dries (BatchBy alone q)
dries q alone old count size slots id i m p serial r is can = part_step count size alone slots id m p i is
    (q (Beside (asides.Dries p.node serial) ∷ [])) (act_part (acts.Router serial router_acts.Claim) answers.NoWord p)
    (λ fronts. act_part (acts.Router serial router_acts.Claim) answers.NoWord (shown_part fronts p)) refl refl
    (λ fronts. act_shown fronts (acts.Router serial router_acts.Claim) answers.NoWord p refl)
    (λ fronts u f. old count size slots id i (u, []) (shown_part fronts p) serial r (part_there f is) (can_there (fronts p.node) p.state serial r router_acts.Claim can))

pub wets : (q : KnownBy (List Deed)) (alone : Bool) → Wets (SingleBy q) → Wets (BatchBy alone q)
wets q alone old count size slots id i m p serial is there = part_step count size alone slots id m p i is
    (q (Beside (asides.Wets p.node serial) ∷ [])) (wet_part serial p) (λ fronts. wet_part serial (shown_part fronts p)) refl refl
    (λ fronts. ap (λ x. with_batches [] (with_state x p)) (sym (rewet_behind (fronts p.node) p.state serial)))
    (λ fronts u f. old count size slots id i (u, []) (shown_part fronts p) serial (part_there f is) there)

-- a router's link word is one of the table
link_inside : {count size : ℕ} {fronts : ℕ → List Batch} (id i : ℕ) (v u : View) (p : Part) (serial : ℕ) (r : Router) → ViewFolds count size fronts v u → v.parts ≡ p ∷ [] →
    router_in p.state serial ≡ Some r → primary_word r ≡ Some i → (t : St) (rules : Rules count size t) → get_elem? t.views id ≡ some u → i ≤ size
link_inside {count} {size} {fronts} id i v u p serial r f is there primary t rules at =
    let l : i < size = (sound_part t rules id u (shown_part fronts p) at (part_there f is)).primary serial r i there primary in omega (arith, l)

-- acts on a link word
pub marks : (q : KnownBy (List (ℕ × Act))) (alone : Bool) → Marks (SingleBy q) → Marks (BatchBy alone q)
marks q alone old count size slots id i m p serial r is can primary = word_step count size alone slots id m p i is
    (λ n. q ((p.node, acts.Router serial router_acts.Mark) ∷ [])) (λ n. bit_or n (stable_bit r.end.side)) (λ n. true)
    (λ n. act_part (acts.Router serial router_acts.Mark) (word_answer (word_of_bits n) r.end.side (source_of r) router_acts.Mark) p)
    (λ fronts n. act_part (acts.Router serial router_acts.Mark) (word_answer (word_of_bits n) r.end.side (source_of r) router_acts.Mark) (shown_part fronts p))
    (λ n. refl) (λ n. refl) (λ fronts n. act_shown fronts (acts.Router serial router_acts.Mark) (word_answer (word_of_bits n) r.end.side (source_of r) router_acts.Mark) p refl)
    (λ fronts u f t rules at. link_inside id i m.0 u p serial r f is can.there primary t rules at)
    (λ fronts u f. old count size slots id i (u, []) (shown_part fronts p) serial r (part_there f is) (can_there (fronts p.node) p.state serial r router_acts.Mark can) primary)

pub wakes : (q : KnownBy (List (ℕ × Act))) (alone : Bool) → Wakes (SingleBy q) → Wakes (BatchBy alone q)
wakes q alone old count size slots id i m p serial r is can primary = word_step count size alone slots id m p i is
    (λ n. q ((p.node, acts.Router serial router_acts.Wake) ∷ [])) (λ n. bit_and n (18446744073709551615 - waiting_bit (opposite r.end.side))) (λ n. true)
    (λ n. act_part (acts.Router serial router_acts.Wake) (word_answer (word_of_bits n) r.end.side (source_of r) router_acts.Wake) p)
    (λ fronts n. act_part (acts.Router serial router_acts.Wake) (word_answer (word_of_bits n) r.end.side (source_of r) router_acts.Wake) (shown_part fronts p))
    (λ n. refl) (λ n. refl) (λ fronts n. act_shown fronts (acts.Router serial router_acts.Wake) (word_answer (word_of_bits n) r.end.side (source_of r) router_acts.Wake) p refl)
    (λ fronts u f t rules at. link_inside id i m.0 u p serial r f is can.there primary t rules at)
    (λ fronts u f. old count size slots id i (u, []) (shown_part fronts p) serial r (part_there f is) (can_there (fronts p.node) p.state serial r router_acts.Wake can) primary)

pub unlocks : (q : KnownBy (List (ℕ × Act))) (alone : Bool) → Unlocks (SingleBy q) → Unlocks (BatchBy alone q)
unlocks q alone old count size slots id i m p serial r is can primary = word_step count size alone slots id m p i is
    (λ n. q ((p.node, acts.Router serial router_acts.Unlock) ∷ [])) (λ n. bit_and n (18446744073709486335 - locked_bit r.end.side)) (λ n. true)
    (λ n. act_part (acts.Router serial router_acts.Unlock) (word_answer (word_of_bits n) r.end.side (source_of r) router_acts.Unlock) p)
    (λ fronts n. act_part (acts.Router serial router_acts.Unlock) (word_answer (word_of_bits n) r.end.side (source_of r) router_acts.Unlock) (shown_part fronts p))
    (λ n. refl) (λ n. refl) (λ fronts n. act_shown fronts (acts.Router serial router_acts.Unlock) (word_answer (word_of_bits n) r.end.side (source_of r) router_acts.Unlock) p refl)
    (λ fronts u f t rules at. link_inside id i m.0 u p serial r f is can.there primary t rules at)
    (λ fronts u f. old count size slots id i (u, []) (shown_part fronts p) serial r (part_there f is) (can_there (fronts p.node) p.state serial r router_acts.Unlock can) primary)

pub tries_lock : (q : KnownBy (List (ℕ × Act))) (alone : Bool) → TriesLock (SingleBy q) → TriesLock (BatchBy alone q)
tries_lock q alone old count size slots id i o m p serial r is can primary = word_step count size alone slots id m p i is
    (λ n. q (turn_where (eqb n o) p.node (acts.Router serial router_acts.Lock)))
    (λ n. either (eqb n o) (bits_of (word_after (word_of_bits o) r.end.side (source_of r) router_acts.Lock)) n) (λ n. eqb n o)
    (λ n. act_part (acts.Router serial router_acts.Lock) (word_answer (word_of_bits n) r.end.side (source_of r) router_acts.Lock) p)
    (λ fronts n. act_part (acts.Router serial router_acts.Lock) (word_answer (word_of_bits n) r.end.side (source_of r) router_acts.Lock) (shown_part fronts p))
    (λ n. refl) (λ n. refl) (λ fronts n. act_shown fronts (acts.Router serial router_acts.Lock) (word_answer (word_of_bits n) r.end.side (source_of r) router_acts.Lock) p refl)
    (λ fronts u f t rules at. link_inside id i m.0 u p serial r f is can.there primary t rules at)
    (λ fronts u f. old count size slots id i o (u, []) (shown_part fronts p) serial r (part_there f is) (can_there (fronts p.node) p.state serial r router_acts.Lock can) primary)

pub loads_for_lock : (q : KnownBy (List (ℕ × Act))) (alone : Bool) → LoadsForLock (SingleBy q) → LoadsForLock (BatchBy alone q)
loads_for_lock q alone old count size slots id i m p serial r is can primary = word_step count size alone slots id m p i is
    (λ n. q (turn_where (is_refusal (plan_of (word_of_bits n) r.end.side)) p.node (acts.Router serial router_acts.Lock)))
    (λ n. n) (λ n. is_refusal (plan_of (word_of_bits n) r.end.side))
    (λ n. act_part (acts.Router serial router_acts.Lock) (word_answer (word_of_bits n) r.end.side (source_of r) router_acts.Lock) p)
    (λ fronts n. act_part (acts.Router serial router_acts.Lock) (word_answer (word_of_bits n) r.end.side (source_of r) router_acts.Lock) (shown_part fronts p))
    (λ n. refl) (λ n. refl) (λ fronts n. act_shown fronts (acts.Router serial router_acts.Lock) (word_answer (word_of_bits n) r.end.side (source_of r) router_acts.Lock) p refl)
    (λ fronts u f t rules at. link_inside id i m.0 u p serial r f is can.there primary t rules at)
    (λ fronts u f. old count size slots id i (u, []) (shown_part fronts p) serial r (part_there f is) (can_there (fronts p.node) p.state serial r router_acts.Lock can) primary)

-- acts on the claim count
pub loads_for_claim : (q : KnownBy (List (ℕ × Act))) (alone : Bool) → LoadsForClaim (SingleBy q) → LoadsForClaim (BatchBy alone q)
loads_for_claim q alone old count size slots id m p serial r is can = word_step count size alone slots id m p size is
    (λ n. q (turn_where (eqb n size) p.node (acts.Router serial router_acts.Claim))) (λ n. n) (λ n. eqb n size)
    (λ n. act_part (acts.Router serial router_acts.Claim) answers.NoWord p) (λ fronts n. act_part (acts.Router serial router_acts.Claim) answers.NoWord (shown_part fronts p))
    (λ n. refl) (λ n. refl) (λ fronts n. act_shown fronts (acts.Router serial router_acts.Claim) answers.NoWord p refl)
    (λ fronts u f t rules at. omega arith)
    (λ fronts u f. old count size slots id (u, []) (shown_part fronts p) serial r (part_there f is) (can_there (fronts p.node) p.state serial r router_acts.Claim can))

pub claims : (q : KnownBy (List (ℕ × Act))) (alone : Bool) → Claims (SingleBy q) → Claims (BatchBy alone q)
claims q alone old count size slots id c m p serial r is can few = word_step count size alone slots id m p size is
    (λ n. q (turn_where (eqb n c) p.node (acts.Router serial router_acts.Claim))) (λ n. either (eqb n c) (c + 1) n) (λ n. eqb n c)
    (λ n. act_part (acts.Router serial router_acts.Claim) (answers.Claimed c) p) (λ fronts n. act_part (acts.Router serial router_acts.Claim) (answers.Claimed c) (shown_part fronts p))
    (λ n. refl) (λ n. refl) (λ fronts n. act_shown fronts (acts.Router serial router_acts.Claim) (answers.Claimed c) p refl)
    (λ fronts u f t rules at. omega arith)
    (λ fronts u f. old count size slots id c (u, []) (shown_part fronts p) serial r (part_there f is) (can_there (fronts p.node) p.state serial r router_acts.Claim can) few)

pub claims_for_open : (q : KnownBy (List Deed)) (alone : Bool) → ClaimsForOpen (SingleBy q) → ClaimsForOpen (BatchBy alone q)
claims_for_open q alone old count size slots id c m p is idle few = word_step count size alone slots id m p size is
    (λ n. q (deed_where (eqb n c) (Beside (asides.ClaimsWord p.node)))) (λ n. either (eqb n c) (c + 1) n) (λ n. eqb n c)
    (λ n. claimed_part c p) (λ fronts n. claimed_part c (shown_part fronts p)) (λ n. refl) (λ n. refl) (λ fronts n. refl)
    (λ fronts u f t rules at. omega arith)
    (λ fronts u f. old count size slots id c (u, []) (shown_part fronts p) (part_there f is) idle few)

-- an open, on the word that was claimed for it
pub opens : (q : KnownBy (List Deed)) (alone : Bool) → Opens (SingleBy q) → Opens (BatchBy alone q)
opens q alone old count size slots id i m p is opening fine =
    plain_step count size alone slots id m p i (λ n m'. (n ≡ 0) × (m' ≡ (with_part (open_part i p) (saw i n m.0), m.1))) is
    (λ n. q (Does (Open p.node) (opened_reply i) ∷ [])) (λ n. either (eqb n 0) (bits_of open_word) n)
    (λ fronts u n m1. (n ≡ 0) × (m1 ≡ (with_part (open_part i (shown_part fronts p)) (saw i n u), [])))
    (λ fronts u f t r at. let l = inside fronts u f t r at in omega (arith, l))
    (λ s b at from to lf lt some_left word bit. let h = b.folds.views id m.0 at in let l = inside b.fronts h.0 h.2 b.single b.rules h.1 in absurd (omega (arith, l, word)))
    (λ fronts u f. old count size slots id i (u, []) (shown_part fronts p) (part_there f is) opening fine)
    (λ fronts u f n m1 e. record {
      none_carried = ap (λ (x : Mine). x.1) e.1;
      view = with_part (open_part i p) (saw i n m.0);
      part = open_part i p;
      parts = refl;
      node = refl;
      batches = refl;
      folds = subst (λ (x : View). ViewFolds count size fronts (with_part (open_part i p) (saw i n m.0)) x) (sym (ap (λ (y : Mine). y.0) e.1))
          (part_folds (open_part i p) (open_part i (shown_part fronts p)) (ap (λ x. with_batches [] (with_state x p)) (sym (open_behind (fronts p.node) p.state i))) (saw_folds i n n (λ l. refl) f));
      is = (e.0, refl);
    })
  where
    inside : (fronts : ℕ → List Batch) (u : View) → ViewFolds count size fronts m.0 u → (t : St) (r : Rules count size t) → get_elem? t.views id ≡ some u → i < size
    inside fronts u f t r at = (sound_part t r id u (shown_part fronts p) at (part_there f is)).opening i opening

-- an announcement, and a load for a post
announcing_folds : {count size : ℕ} {fronts : ℕ → List Batch} {v u : View} (to : ℕ) → ViewFolds count size fronts v u → ViewFolds count size fronts (announcing to v) (announcing to u)
announcing_folds to f = record { parts = f.parts; announced = refl; caller = f.caller; seen = f.seen }

pub forgetting_folds : {count size : ℕ} {fronts : ℕ → List Batch} {v u : View} → ViewFolds count size fronts v u → ViewFolds count size fronts (forgetting v) (forgetting u)
forgetting_folds f = record { parts = f.parts; announced = refl; caller = f.caller; seen = f.seen }

pub announces : (q : KnownBy (List (ℕ × Act))) (alone : Bool) → Announces (SingleBy q) → Announces (BatchBy alone q)
announces q alone old count size slots id i to bits m p is at_i low own =
    plain_step count size alone slots id m p i (λ n m'. m' ≡ (announcing to m.0, m.1)) is
    (λ n. q []) (λ n. bit_or n bits) (λ fronts u n m1. m1 ≡ (announcing to u, []))
    (λ fronts u f t r at. omega (arith, at_i, low))
    (λ s b at from to' lf lt some_left word bit. set_stays (slice_index s.words i) bits from bit)
    (λ fronts u f. old count size slots id i to bits (u, []) (shown_part fronts p) (part_there f is) at_i low own)
    (λ fronts u f n m1 e. record {
      none_carried = ap (λ (x : Mine). x.1) e;
      view = announcing to m.0;
      part = p;
      parts = is;
      node = refl;
      batches = refl;
      folds = subst (λ (x : View). ViewFolds count size fronts (announcing to m.0) x) (sym (ap (λ (y : Mine). y.0) e)) (announcing_folds to f);
      is = refl;
    })

pub loads_for_post : (q : KnownBy (List (ℕ × Act))) (alone : Bool) → LoadsForPost (SingleBy q) → LoadsForPost (BatchBy alone q)
loads_for_post q alone old count size slots id i to m p is at_i low =
    plain_step count size alone slots id m p i (λ n m'. m' ≡ (if eqb (bit_at n p.node) 1 then announcing to m.0 else forgetting m.0, m.1)) is
    (λ n. q []) (λ n. n) (λ fronts u n m1. m1 ≡ (if eqb (bit_at n p.node) 1 then announcing to u else forgetting u, []))
    (λ fronts u f t r at. omega (arith, at_i, low))
    (λ s b at from to' lf lt some_left word bit. bit)
    (λ fronts u f. old count size slots id i to (u, []) (shown_part fronts p) (part_there f is) at_i low)
    (λ fronts u f n m1 e. by (eqb (bit_at n p.node) 1) fronts u f m1 e)
  where
    by : (c : Bool) (fronts : ℕ → List Batch) (u : View) → ViewFolds count size fronts m.0 u → (m1 : Mine) → m1 ≡ (if c then announcing to u else forgetting u, []) →
        Leaves count size fronts m p (λ m'. m' ≡ (if c then announcing to m.0 else forgetting m.0, m.1)) m1
    by true fronts u f m1 e = record {
      none_carried = ap (λ (x : Mine). x.1) e;
      view = announcing to m.0;
      part = p;
      parts = is;
      node = refl;
      batches = refl;
      folds = subst (λ (x : View). ViewFolds count size fronts (announcing to m.0) x) (sym (ap (λ (y : Mine). y.0) e)) (announcing_folds to f);
      is = refl;
    }
    by false fronts u f m1 e = record {
      none_carried = ap (λ (x : Mine). x.1) e;
      view = forgetting m.0;
      part = p;
      parts = is;
      node = refl;
      batches = refl;
      folds = subst (λ (x : View). ViewFolds count size fronts (forgetting m.0) x) (sym (ap (λ (y : Mine). y.0) e)) (forgetting_folds f);
      is = refl;
    }

-- a load of the old link's word, with an AcceptBypass in hand
pub loads_for_hand : (q : KnownBy (List (ℕ × Act))) (alone : Bool) → LoadsForHand (SingleBy q) → LoadsForHand (BatchBy alone q)
loads_for_hand q alone old count size slots id from link m p x is hand message named =
    plain_step count size alone slots id m p link (λ n m'. ((word_of_bits n).source ≡ Some from) × (m' ≡ (saw link n m.0, m.1))) is
    (λ n. q []) (λ n. n) (λ fronts u n m1. ((word_of_bits n).source ≡ Some from) × (m1 ≡ (saw link n u, [])))
    (λ fronts u f t r at. let l = (old_link t r (shown_part fronts p) from link x (spelled t r id u (shown_part fronts p) at (part_there f is)) hand message named).0 in omega (arith, l))
    (λ s b at from' to lf lt some_left word bit. bit)
    (λ fronts u f. old count size slots id from link (u, []) (shown_part fronts p) x (part_there f is) hand message named)
    (λ fronts u f n m1 e. record {
      none_carried = ap (λ (y : Mine). y.1) e.1;
      view = saw link n m.0;
      part = p;
      parts = is;
      node = refl;
      batches = refl;
      folds = subst (λ (y : View). ViewFolds count size fronts (saw link n m.0) y) (sym (ap (λ (y : Mine). y.0) e.1)) (saw_folds link n n (λ l. refl) f);
      is = (e.0, refl);
    })

-- a call that is written into the history
pub notes : (q : KnownBy (List (ℕ × Act))) (alone : Bool) → Notes (SingleBy q) → Notes (BatchBy alone q)
notes q alone old count size slots id i m p c call is has =
    touch_step count size alone slots id m p i (λ n m'. IsNoted m.0 p c call m'.0 × (m'.1 ≡ m.1)) is
    (q []) (λ fronts u n m1. IsNoted u (shown_part fronts p) c call m1.0 × (m1.1 ≡ []))
    (λ fronts u f. old count size slots id i (u, []) (shown_part fronts p) c call (part_there f is) (f.caller ∙ has))
    (λ fronts u f n n1 m1 same e.
    let e1 = e.0 in
    let entry = entry_of p.node c.id call in
    let after : View = record { parts = noted entry p ∷ []; seen = m.0.seen; announced = None; caller = Some (after_call e1.between entry c) } in
    record {
      none_carried = e.1;
      view = after;
      part = noted entry p;
      parts = refl;
      node = refl;
      batches = refl;
      folds = subst (λ (y : View). ViewFolds count size fronts after y) (sym e1.view) (record { parts = refl; announced = refl; caller = refl; seen = f.seen });
      is = (record { between = e1.between; view = refl; history = e1.history; own = e1.own }, refl);
    })
