-- In every world that steps lead to, the source that a word names is the number of a node; so its number is small.
use Rattle.std.specs.Prelude.{◌≡◌, ◌<◌, ◌≤◌, ℕ, zero, suc, ◌+◌, ◌-◌, ◌++◌, length, replicate, Bool, true, false, cond, nat_eq, nat_lt, if◌then◌else◌, Option, Some, None, List, [], ◌∷◌, refl}
use Rattle.std.proofs.Common.{arith, sym, subst, inl, inr}
use Rattle.std.proofs.lemmas.Bool.Decides.{nat_tests}
use Rattle.ipcz_world.proofs.Vocabulary.{place_at, Side, A, B, has, Word, empty_word, open_word, Router, primary_word, RouterAct, Act, Hand, Close}
use Rattle.ipcz_world.proofs.Vocabulary.{Node, router_in, Message, Refusal, Reply, World, node_at, word_at, mail_at, way, router_at, set_node}
use Rattle.ipcz_world.proofs.Vocabulary.{set_word, set_claimed, set_mail, after_act, hand_message, unless, Books, Plan, Locks, Waits, Refuses}
use Rattle.ipcz_world.proofs.Vocabulary.{plan_of, source_of, Look, Post, Idle, post_of, put_refusal, get_refusal, close_refusal, serials_refusal}
use Rattle.ipcz_world.proofs.Vocabulary.{Mail, Printed, Wide, Step, has_unclaimed_word, new_world, touch, touch_word, after_router_act, after_hand}
use Rattle.ipcz_world.proofs.Vocabulary.{after_look, after_post, full_message, turn_lacks_serials, Effect, GivesOrNoMemory, refuse, at_node}
use Rattle.ipcz_world.proofs.Vocabulary.{open_with, open_on, open_step, close_step, StepAny, no_books, advance, Routes, routes_after, Lawful}
use Rattle.ipcz_base.specs.declared.refusal.Refusal.TheVariants as refusals
use Rattle.ipcz_word.specs.Laws.{HasNode}
use Rattle.ipcz_word.specs.Layout.{bits_at, bits_of, locked_bit, sets_bits, source_bits, stable_bit, waiting_bit}
use Rattle.ipcz_word.specs.SideSets.{Sides}
use Rattle.ipcz_word.specs.Word.{word_by_plan}
use Rattle.ipcz_router.specs.declared.act.RouterAct.TheVariants as acts
use Rattle.ipcz_node.specs.declared.act.Act.TheVariants.{Router as OfRouter}
use Rattle.ipcz_world.specs.declared.step.Step.TheVariants as steps
use Rattle.ipcz_world.specs.WordAnswers.{word_after}
use Rattle.ipcz_node.specs.FirstPairs.{first_pairs}
use Rattle.ipcz_world.specs.Routes.{first_routes}
use Rattle.ipcz_world.specs.Lawful.{IsReached, RunAny}
use Rattle.ipcz_world.proofs.Whole.{world_starts_lawful, each_step_keeps_lawful}
use Rattle.ipcz_world.proofs.code.Regular.{lawful-regular}
use Rattle.ipcz_world.proofs.frames.Frames.{word-set_word}

-- each word names no source, or the number of a node
abbrev pub NameNodes : World → Type 0
NameNodes w = (i : ℕ) → HasNode (word_at w i).source

-- so do the routers of a node
abbrev HasSources : Node → Type 0
HasSources n = (s : ℕ) (r : Router) → router_in n s ≡ Some r → HasNode (source_of r)

-- ---- an act on a word

named-plan : (x : Word) (s : Side) (source : Option ℕ) (plan : Plan) → HasNode x.source → HasNode source →
    HasNode (word_by_plan x s source plan).source
unfolding word_by_plan
named-plan x s source Locks is named = named
named-plan x s source Waits is named = is
named-plan x s source Refuses is named = is

named-after : (x : Word) (s : Side) (source : Option ℕ) (act : RouterAct) → HasNode x.source → HasNode source →
    HasNode (word_after x s source act).source
unfolding word_after
named-after x s source acts.Mark is named = is
named-after x s source acts.Wake is named = is
named-after x s source acts.Lock is named = named-plan x s source (plan_of x s) is named
named-after x s source acts.Unlock is named = tt
named-after x s source other is named = is

named-set : (w : World) (i : ℕ) (x : Word) → NameNodes w → HasNode x.source → NameNodes (set_word w i x)
named-set w i x law is j = subst (λ (y : Word). HasNode y.source) (sym (word-set_word w i x j)) (go (nat_eq j i))
  where
    go : (c : Bool) → HasNode (cond c x (word_at w j)).source
    go true = is
    go false = law j

named-touch_word : (w : World) (s : Side) (source : Option ℕ) (act : RouterAct) (o : Option ℕ) → NameNodes w → HasNode source →
    NameNodes (touch_word w s source act o)
unfolding touch_word
named-touch_word w s source act None law named = law
named-touch_word w s source act (Some i) law named =
    named-set w i (word_after (word_at w i) s source act) law (named-after (word_at w i) s source act (law i) named)

named-claim : (w : World) (i : ℕ) → NameNodes w → NameNodes (set_claimed w i)
unfolding word_at set_claimed
named-claim w i law = law

named-touch : (w : World) (r : Router) (act : RouterAct) → NameNodes w → HasNode (source_of r) → NameNodes (touch w r act)
unfolding touch
named-touch w r acts.Claim law named = go (has_unclaimed_word w)
  where
    go : (b : Bool) → NameNodes (if b then set_claimed w (w.claimed + 1) else w)
    go true = named-claim w (w.claimed + 1) law
    go false = law
named-touch w r acts.Mark law named = named-touch_word w r.end.side (source_of r) acts.Mark (primary_word r) law named
named-touch w r acts.Wake law named = named-touch_word w r.end.side (source_of r) acts.Wake (primary_word r) law named
named-touch w r acts.Lock law named = named-touch_word w r.end.side (source_of r) acts.Lock (primary_word r) law named
named-touch w r acts.Unlock law named = named-touch_word w r.end.side (source_of r) acts.Unlock (primary_word r) law named
named-touch w r other law named = law

-- ---- an act of a node

named-node : (w : World) (n : ℕ) (x : Node) → NameNodes w → NameNodes (set_node w n x)
unfolding word_at set_node
named-node w n x law = law

named-mail : (w : World) (k : ℕ) (x : Mail) → NameNodes w → NameNodes (set_mail w k x)
unfolding word_at set_mail
named-mail w k x law = law

named-handed : (w : World) (n from : ℕ) (o : Option Message) → NameNodes w → NameNodes (after_hand w n from o)
unfolding after_hand
named-handed w n from None law = law
named-handed w n from (Some m) law = named-mail _ _ _ (named-node w n _ law)

named-looked : (w : World) (n from : ℕ) (o : Option Message) → NameNodes w → NameNodes (after_look w n from o)
unfolding after_look
named-looked w n from None law = law
named-looked w n from (Some m) law = named-mail _ _ _ (named-node w n _ law)

named-posted : (w : World) (n to : ℕ) (o : Option Message) → NameNodes w → NameNodes (after_post w n to o)
unfolding after_post
named-posted w n to None law = law
named-posted w n to (Some m) law = named-mail _ _ _ (named-node w n _ law)

named-router : (w : World) (n s : ℕ) (act : RouterAct) (o : Option Router) → NameNodes w → HasSources (node_at w n) →
    router_in (node_at w n) s ≡ o → NameNodes (after_router_act w n s act o)
unfolding after_router_act
named-router w n s act None law sources here = law
named-router w n s act (Some r) law sources here = named-node (touch w r act) n _ (named-touch w r act law (sources s r here))

named-acted : (w : World) (n : ℕ) (act : Act) → NameNodes w → HasSources (node_at w n) → NameNodes (after_act w n act)
unfolding after_act router_at
named-acted w n (Hand from) law sources = named-handed w n from (hand_message (mail_at w (way w from n))) law
named-acted w n (Look from) law sources = named-looked w n from (full_message (mail_at w (way w from n))) law
named-acted w n (Post to) law sources = named-posted w n to (post_of (node_at w n) (Post to)) law
named-acted w n (Close e) law sources = named-node w n _ law
named-acted w n (OfRouter s act) law sources = named-router w n s act (router_in (node_at w n) s) law sources refl
named-acted w n Idle law sources = law

-- ---- a step

named-unless : (w : World) (o : Option Refusal) (done : Effect) → NameNodes w → NameNodes done.world → NameNodes (unless w o done).world
unfolding unless
named-unless w None done law after = after
named-unless w (Some why) done law after = law

named-at_node : (w : World) (n : ℕ) (done : Effect) → NameNodes w → (n < w.count → NameNodes done.world) → NameNodes (at_node w n done).world
named-at_node w n done law after = go (nat_lt n w.count) refl
  where
    go : (c : Bool) → nat_lt n w.count ≡ c → NameNodes (if c then done else refuse w refusals.Stranger).world
    go true e = after (grind (arith, e, nat_tests))
    go false e = law

named-open_with : (w counted : World) (n i : ℕ) → NameNodes w → NameNodes counted → NameNodes (open_with w counted n i).world
unfolding open_word
named-open_with w counted n i law counts =
    named-unless w (serials_refusal (node_at w n)) _ law (named-set _ i open_word (named-node counted n _ counts) tt)

named-open_on : (w : World) (n : ℕ) (o : Option ℕ) → NameNodes w → NameNodes (open_on w n o).world
unfolding open_on
named-open_on w n (Some i) law = named-open_with w w n i law law
named-open_on w n None law = go (has_unclaimed_word w)
  where
    go : (c : Bool) → NameNodes (if c then open_with w (set_claimed w (w.claimed + 1)) n w.claimed else refuse w refusals.NoWord).world
    go true = named-open_with w (set_claimed w (w.claimed + 1)) n w.claimed law (named-claim w (w.claimed + 1) law)
    go false = law

named-given : (w v : World) (done : Effect) (reply : Reply) → NameNodes w → NameNodes done.world → GivesOrNoMemory w done reply v → NameNodes v
named-given w v done reply law after (inl h) = subst NameNodes (sym h.1) after
named-given w v done reply law after (inr (fine, (e, f))) = subst NameNodes (sym f) law

pub named-step : (w v : World) (step : Step) (reply : Reply) → ((n : ℕ) → n < w.count → HasSources (node_at w n)) → NameNodes w →
    StepAny w step reply v → NameNodes v
named-step w v (steps.Open n) reply sources law h = named-given w v (open_step w n) reply law
    (named-at_node w n _ law (λ l. named-open_on w n (node_at w n).opening law)) h
named-step w v (steps.Put n at bytes ends) reply sources law (inr (l, (e, f))) = subst NameNodes (sym f) law
named-step w v (steps.Put n at bytes ends) reply sources law (inl h) = subst NameNodes (sym h.1)
    (named-at_node w n _ law (λ l. named-unless w (put_refusal Printed (node_at w n) at bytes ends) _ law (named-node w n _ law)))
named-step w v (steps.PutWide n at bytes ends) reply sources law (inr (l, (e, f))) = subst NameNodes (sym f) law
named-step w v (steps.PutWide n at bytes ends) reply sources law (inl h) = subst NameNodes (sym h.1)
    (named-at_node w n _ law (λ l. named-unless w (put_refusal Wide (node_at w n) at bytes ends) _ law (named-node w n _ law)))
named-step w v (steps.Get n at) reply sources law h = subst NameNodes (sym h.1)
    (named-at_node w n _ law (λ l. named-unless w (get_refusal (node_at w n) at) _ law (named-node w n _ law)))
named-step w v (steps.Close n at) reply sources law h = named-given w v (close_step w n at) reply law
    (named-at_node w n _ law (λ l. named-unless w (close_refusal (node_at w n) at) _ law (named-node w n _ law))) h
named-step w v (steps.Turn n) reply sources law (act, may, inr (grows, own, fine, (e, f))) = subst NameNodes (sym f) law
named-step w v (steps.Turn n) reply sources law (act, may, inl (e, f)) = subst NameNodes (sym f)
    (named-at_node w n _ law (λ l. named-unless w (if turn_lacks_serials w n act then Some refusals.NumbersEnd else None) _ law
    (named-acted w n act law (sources n l))))

-- ---- its number

bits_at-most : (bit : Side → ℕ) (s : Sides) → bits_at bit s ≤ bit A + bit B
bits_at-most bit s = go (has s A) (has s B)
  where
    go : (a b : Bool) → (if a then bit A else 0) + (if b then bit B else 0) ≤ bit A + bit B
    go true true = omega (arith)
    go true false = omega (arith)
    go false true = omega (arith)
    go false false = omega (arith)

source_bits-most : (source : Option ℕ) → HasNode source → source_bits source ≤ 64
unfolding source_bits
source_bits-most None named = omega (arith)
source_bits-most (Some node) named = omega (arith, named)

-- a word that names a node has a number below 4096
pub named-small : (x : Word) → HasNode x.source → bits_of x < 32768
unfolding bits_of sets_bits
named-small x named = omega (
  arith,
  bits_at-most stable_bit x.stable,
  bits_at-most waiting_bit x.waiting,
  bits_at-most locked_bit x.holder,
  source_bits-most x.source named,
)

-- ---- a run

named-empties : (m i : ℕ) → HasNode (place_at empty_word (replicate m empty_word) i).source
unfolding place_at empty_word
named-empties zero i = tt
named-empties (suc m) zero = tt
named-empties (suc m) (suc i) = named-empties m i

named-opens : (k m i : ℕ) → HasNode (place_at empty_word (replicate k open_word ++ replicate m empty_word) i).source
unfolding place_at open_word
named-opens zero m i = named-empties m i
named-opens (suc k) m zero = tt
named-opens (suc k) m (suc i) = named-opens k m i

named-start : (nodes words : ℕ) → NameNodes (new_world nodes words)
unfolding word_at new_world
named-start nodes words i = named-opens (length (first_pairs nodes)) (words - length (first_pairs nodes)) i

named-run : (w : World) (b : Books) (g : Routes) (asked : List Step) (said : List Reply) (v : World) (c : Books) (h : Routes) →
    Lawful w b g → NameNodes w → RunAny w b g asked said v c h → NameNodes v
named-run w b g [] [] v c h law is run = subst NameNodes (sym run.0) is
named-run w b g [] (reply ∷ said) v c h law is run = absurd run
named-run w b g (step ∷ asked) [] v c h law is run = absurd run
named-run w b g (step ∷ asked) (reply ∷ said) v c h law is (u, s, run) =
    named-run u (advance w b step reply) (routes_after w g step reply) asked said v c h (each_step_keeps_lawful w u b g step reply law s)
    (named-step w u step reply
    (λ n l serial r here. (lawful-regular w (record { books = b; routes = g; lawful = law })).sourced n serial r l here) is s) run

pub named-reached : (nodes words : ℕ) (w : World) (b : Books) (g : Routes) → IsReached nodes words w b g → NameNodes w
named-reached nodes words w b g is = named-run (new_world nodes words) no_books (first_routes nodes) is.steps is.replies w b g
    (world_starts_lawful nodes words is.limits) (named-start nodes words) is.run
