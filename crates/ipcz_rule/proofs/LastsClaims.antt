-- A claim on a table whose link words come back: the numbers before it are passed over, and then it is the rule's own.
use Rattle.std.specs.Prelude.{◌≡◌, ◌≤◌, ◌<◌, ◌⊎◌, ◌+◌, ◌*◌, ℕ, zero, suc, eqb, nat_eq, Bool, true, false, List, [], ◌∷◌, length, slice_index, Option, Some, None, refl, MatchBool}
use Rattle.std.proofs.Common.{arith, ap, ◌∙◌, sym, subst, inl, inr, ⊎_elim, set, length-set, get_or-set_same, get_or-set_other, eqb-true}
use Rattle.std.proofs.lemmas.Bool.Decides.{nat_tests}
use prog.Atomic.{either}
use mathlib.Core.Option.{some}
use mathlib.Core.Logic.{dite}
use native.Mathlib.Decide.{ℕ_discrete}
use lib.ListN.{get_elem?}
use Rattle.ipcz_base.specs.Indexed.{place_at}
use Rattle.atomic_table.specs.Table.{Act as TableAct, Valid, stepped, carried_after}
use Rattle.ipcz_base.specs.declared.side.Side.{Side}
use Rattle.ipcz_word.specs.Word.{Word}
use Rattle.ipcz_word.specs.Layout.{bits_of}
use Rattle.ipcz_word.specs.Laws.{HasNode}
use Rattle.ipcz_router.specs.Router.{Router}
use Rattle.ipcz_router.specs.declared.act.RouterAct.TheVariants as router_acts
use Rattle.ipcz_router.specs.declared.act.Answer.TheVariants as answers
use Rattle.ipcz_node.specs.declared.act.Act.{Act}
use Rattle.ipcz_node.specs.declared.act.Act.TheVariants as acts
use Rattle.std.specs.Int.{bit_at}
use Rattle.ipcz_world.specs.World.{World, node_at, word_at, mail_at, router_at, set_claimed, way, has_unclaimed_word}
use Rattle.ipcz_world.specs.Books.{Books}
use Rattle.ipcz_world.specs.Routes.{Routes, hand_of}
use Rattle.ipcz_rule.specs.Deeds.{Deed, Beside, Passes, AreDeeds}
use Rattle.ipcz_world.specs.Ranks.{AreTurns}
use Rattle.ipcz_world.specs.Lawful.{Lawful}
use Rattle.ipcz_world.specs.WorldLaws.{LawfulStraysNothing}
use Rattle.ipcz_world.specs.HeldEnds.{IsEndHeld, ByRouter, ByOpen, ByOutbox, ByMailbox, PassingKeepsLawful, passed_over, lose_words}
use Rattle.ipcz_rule.specs.declared.view.View.{View}
use Rattle.ipcz_rule.specs.declared.view.Part.{Part}
use Rattle.ipcz_rule.specs.Rule.{St, inbox, mailbox, MailAt, Inboxes, Rules, Spells, Shows, with_part, saw}
use Rattle.ipcz_world.specs.declared.mail.Mail.{Mail}
use Rattle.ipcz_rule.specs.Steps.{CanAct, act_part}
use Rattle.ipcz_rule.specs.Kinds.{Loads, Claims, turn_where}
use Rattle.ipcz_rule.specs.Batches.{Batch, BatchSt, BatchMine, Batched, BatchTurns, Folds, MailFolds, plain_count}
use Rattle.ipcz_slots.specs.SlotKinds.{Known, Steps, Keeps, LosesNone, Skips, Takes}
use Rattle.ipcz_rule.specs.Lasting.{EndLaws, virtual, sizes, side_of, turns_of, own_of}
use Rattle.ipcz_rule.specs.LastingClaims.{passing_turns, ClaimsOnSlots, ClaimsInTheirOrder, ClaimsLast}
use Rattle.ipcz_rule.proofs.Lasts.{are_sizes, count_is, laws_of, kept_by, loses_none, held_claimed}
use Rattle.ipcz_rule.proofs.KeptEnds.{one_keeps, claim_keeps}
use Rattle.ipcz_slots.proofs.Reusing.{claims}
use Rattle.ipcz_slots.proofs.Ordered.{claims_in_order}

-- passing over numbers changes nothing but the claim count
node_same : (w : World) (c n : ℕ) → node_at (set_claimed w c) n ≡ node_at w n
unfolding node_at set_claimed
node_same w c n = refl

word_same : (w : World) (c i : ℕ) → word_at (set_claimed w c) i ≡ word_at w i
unfolding word_at set_claimed
word_same w c i = refl

mail_same : (w : World) (c k : ℕ) → mail_at (set_claimed w c) k ≡ mail_at w k
unfolding mail_at set_claimed
mail_same w c k = refl

count_same : (w : World) (c : ℕ) → (set_claimed w c).count ≡ w.count
unfolding set_claimed
count_same w c = refl

size_same : (w : World) (c : ℕ) → (set_claimed w c).size ≡ w.size
unfolding set_claimed
size_same w c = refl

pub claimed_same : (w : World) (c : ℕ) → (set_claimed w c).claimed ≡ c
unfolding set_claimed
claimed_same w c = refl

hand_same : (w : World) (c n : ℕ) (h : Option ℕ) → hand_of (set_claimed w c) n h ≡ hand_of w n h
unfolding hand_of mail_at set_claimed
hand_same w c n None = refl
hand_same w c n (Some from) = refl

pub held_same : (w : World) (c i : ℕ) (s : Side) → IsEndHeld (set_claimed w c) i s → IsEndHeld w i s
unfolding node_at mail_at router_at set_claimed
held_same w c i s (ByRouter k r here holds) = ByRouter k r here holds
held_same w c i s (ByOpen n e) = ByOpen n e
held_same w c i s (ByOutbox from to place m there holds) = ByOutbox from to place m there holds
held_same w c i s (ByMailbox k place m there holds) = ByMailbox k place m there holds

pub held_then : (w : World) (c i : ℕ) (s : Side) → IsEndHeld w i s → IsEndHeld (set_claimed w c) i s
unfolding node_at mail_at router_at set_claimed
held_then w c i s (ByRouter k r here holds) = ByRouter k r here holds
held_then w c i s (ByOpen n e) = ByOpen n e
held_then w c i s (ByOutbox from to place m there holds) = ByOutbox from to place m there holds
held_then w c i s (ByMailbox k place m there holds) = ByMailbox k place m there holds

unclaimed_left : (w : World) (c : ℕ) → c < w.size → has_unclaimed_word (set_claimed w c) ≡ true
unfolding set_claimed
unclaimed_left w c l = grind (arith, nat_tests, l)

-- the table whose count has passed over so many numbers
module _ (ends : EndLaws) (passing : PassingKeepsLawful) (strays : LawfulStraysNothing) (count limit : ℕ) (t : St) (r : Rules count limit t) (skip : ℕ) (most : r.world.claimed + skip ≤ limit) where
  abbrev w1 : World
  w1 = passed_over r.world skip

  abbrev n1 : ℕ
  n1 = r.world.claimed + skip

  abbrev pub t1 : St
  t1 = record { words = set t.words limit n1; homes = t.homes; views = t.views }

  lawful1 : Lawful w1 r.books (lose_words r.routes r.world.claimed skip)
  lawful1 = passing r.world r.books r.routes skip r.lawful (let z = r.words in omega (arith, z, most))

  pub wide1 : limit < length t.words
  wide1 = let e = r.shows.wide in let z = r.words in omega (arith, e, z)

  link1 : (i : ℕ) → i < r.world.size → slice_index t1.words i ≡ slice_index t.words i
  link1 i l = get_or-set_other t.words limit i n1 0 (λ e. let z = r.words in omega (arith, e, z, l))

  box1 : (j : ℕ) → slice_index t1.words (mailbox r.world j) ≡ slice_index t.words (mailbox r.world j)
  box1 j = get_or-set_other t.words limit (mailbox r.world j) n1 0 (λ e. let z = r.words in omega (arith, e, z))

  spells1 : (p : Part) → Spells t.words r.world p → Spells t1.words w1 p
  unfolding set_claimed
  spells1 p sp = record {
    inside = sp.inside;
    state = node_same r.world n1 p.node ∙ sp.state;
    message = hand_same r.world n1 p.node p.state.hand ∙ sp.message;
    probed = λ to l. sp.probed to l ∙ sym (ap (λ (v : ℕ). nat_eq v 3) (box1 (way r.world p.node to)));
  }

  shows1 : Shows t1 w1 r.owner
  unfolding set_claimed
  shows1 = record {
    wide = length-set t.words limit n1 ∙ r.shows.wide;
    deep = r.shows.deep;
    links = λ i l. link1 i l ∙ (r.shows.links i l ∙ ap bits_of (sym (word_same r.world n1 i)));
    claims = ap (slice_index t1.words) r.words ∙ get_or-set_same t.words limit n1 0 wide1;
    mail = λ j l. subst (λ (v : ℕ). MailAt v (get_elem? t.homes j) (mail_at w1 j)) (sym (box1 j)) (subst (λ (m : Mail). MailAt (slice_index t.words (mailbox r.world j)) (get_elem? t.homes j) m) (sym (mail_same r.world n1 j)) (r.shows.mail j l));
    parts = λ id v j p at there. let was = r.shows.parts id v j p at there in (was.0, spells1 p was.1);
  }

  box_way : (a b : ℕ) → slice_index t1.words (mailbox w1 (way w1 a b)) ≡ slice_index t.words (mailbox r.world (way r.world a b))
  unfolding set_claimed
  box_way a b = box1 (way r.world a b)

  inbox1 : (to : ℕ) → slice_index t1.words (inbox w1 to) ≡ slice_index t.words (inbox r.world to)
  unfolding set_claimed
  inbox1 to = get_or-set_other t.words limit (inbox r.world to) n1 0 (λ e. let z = r.words in omega (arith, z, e))

  inboxes1 : Inboxes t1.words t1.views w1
  inboxes1 = record {
    full = λ a b la lb e. ap (λ n. bit_at n a) (inbox1 b) ∙ r.inboxes.full a b (rw (← count_same r.world n1) la) (rw (← count_same r.world n1) lb) (sym (box_way a b) ∙ e);
    announced = λ id v j p to at there says l has. ap (λ n. bit_at n p.node) (inbox1 to) ∙ r.inboxes.announced id v j p to at there says (rw (← count_same r.world n1) l) has;
  }

  pub passed_rules : Rules count limit t1
  passed_rules = record {
    world = w1;
    books = r.books;
    routes = lose_words r.routes r.world.claimed skip;
    owner = r.owner;
    nodes = count_same r.world n1 ∙ r.nodes;
    words = size_same r.world n1 ∙ r.words;
    shows = shows1;
    inboxes = inboxes1;
    joined = r.joined;
    lawful = lawful1;
    lengths = (strays w1 r.books (lose_words r.routes r.world.claimed skip) lawful1).0;
    strays = (strays w1 r.books (lose_words r.routes r.world.claimed skip) lawful1).1;
    sources = λ i. subst (λ (x : Word). HasNode x.source) (sym (word_same r.world n1 i)) (r.sources i);
    counted = λ id v j n at there. let low = r.counted id v j n at (subst (λ (q : ℕ). get_elem? v.seen j ≡ some (q, n)) (size_same r.world n1) there) in let e = claimed_same r.world n1 in omega (arith, low, e);
    parts = r.parts;
    histories = r.histories;
  }

  pub passed_world : passed_rules.world ≡ w1
  unfolding passed_rules
  passed_world = refl

  -- deeds from what it shows are deeds behind those numbers
  pub passed_deeds : (deeds : List Deed) (v : World) (b : Books) (g : Routes) → AreDeeds passed_rules.world passed_rules.books passed_rules.routes deeds v b g →
      AreDeeds r.world r.books r.routes (Beside (Passes skip) ∷ deeds) v b g
  unfolding passed_rules
  passed_deeds deeds v b g are = ((let z = r.words in omega (arith, z, most)), are)

-- the table of batches whose count has passed over so many numbers folds that one
module _ (ends : EndLaws) (passing : PassingKeepsLawful) (strays : LawfulStraysNothing) (count limit : ℕ) {alone : Bool} (s : BatchSt) (b : Batched count limit alone s) (skip : ℕ)
    (most : b.rules.world.claimed + skip ≤ limit) where
  abbrev n3 : ℕ
  n3 = b.rules.world.claimed + skip

  abbrev pub s1 : BatchSt
  s1 = record { words = set s.words limit n3; homes = s.homes; views = s.views }

  abbrev u1 : St
  u1 = t1 ends passing strays count limit b.single b.rules skip most

  pub wide2 : limit < length s.words
  wide2 = let w = wide1 ends passing strays count limit b.single b.rules skip most in let e = b.folds.wide in omega (arith, w, e)

  word2 : (i : ℕ) → i < plain_count count limit → slice_index s1.words i ≡ slice_index u1.words i
  word2 i l = dite (ℕ_discrete i limit)
      (λ e. ap (slice_index s1.words) e ∙ (get_or-set_same s.words limit n3 0 wide2
      ∙ sym (ap (slice_index u1.words) e ∙ get_or-set_same b.single.words limit n3 0 (wide1 ends passing strays count limit b.single b.rules skip most))))
      (λ ne. get_or-set_other s.words limit i n3 0 ne ∙ (b.folds.words i l ∙ sym (get_or-set_other b.single.words limit i n3 0 ne)))

  box2 : (k : ℕ) → slice_index s1.words (plain_count count limit + k) ≡ slice_index s.words (plain_count count limit + k)
  box2 k = get_or-set_other s.words limit (plain_count count limit + k) n3 0 (λ e. omega (arith, e))

  box3 : (k : ℕ) → slice_index u1.words (plain_count count limit + k) ≡ slice_index b.single.words (plain_count count limit + k)
  box3 k = get_or-set_other b.single.words limit (plain_count count limit + k) n3 0 (λ e. omega (arith, e))

  folds1 : Folds count limit alone s1 u1 b.fronts b.left
  folds1 = record {
    wide = length-set s.words limit n3 ∙ (b.folds.wide ∙ sym (length-set b.single.words limit n3));
    deep = b.folds.deep;
    many = b.folds.many;
    words = word2;
    mail = λ from to lf lt. let k = from * count + to in
        subst (λ n. MailFolds n (get_elem? s.homes k) (slice_index u1.words (plain_count count limit + k)) (get_elem? b.single.homes k) (place_at [] (b.fronts from) to) (b.left from to)) (sym (box2 k))
        (subst (λ n. MailFolds (slice_index s.words (plain_count count limit + k)) (get_elem? s.homes k) n (get_elem? b.single.homes k) (place_at [] (b.fronts from) to) (b.left from to)) (sym (box3 k))
        (b.folds.mail from to lf lt));
    views = b.folds.views;
    parts = b.folds.parts;
    announced = λ from to lf lt some_left. ap (λ n. bit_at n from) (get_or-set_other s.words limit (limit + 1 + to) n3 0 (λ e. omega (arith, e))) ∙ b.folds.announced from to lf lt some_left;
    none_behind = b.folds.none_behind;
    none_left = b.folds.none_left;
  }

  pub passed_batched : Batched count limit alone s1
  passed_batched = record {
    single = u1;
    rules = passed_rules ends passing strays count limit b.single b.rules skip most;
    fronts = b.fronts;
    left = b.left;
    folds = folds1;
  }

  pub passed_world2 : passed_batched.rules.world ≡ passed_over b.rules.world skip
  unfolding passed_batched
  passed_world2 = passed_world ends passing strays count limit b.single b.rules skip most

  -- deeds from what it shows are deeds behind those numbers
  pub passed_deeds2 : (deeds : List Deed) (v : World) (d : Books) (g : Routes) → AreDeeds passed_batched.rules.world passed_batched.rules.books passed_batched.rules.routes deeds v d g →
      AreDeeds b.rules.world b.rules.books b.rules.routes (Beside (Passes skip) ∷ deeds) v d g
  unfolding passed_batched
  passed_deeds2 = passed_deeds ends passing strays count limit b.single b.rules skip most

-- one value over another
pub set_over : (l : List ℕ) (i a b : ℕ) → set (set l i a) i b ≡ set l i b
set_over [] i a b = refl
set_over (x ∷ xs) zero a b = refl
set_over (x ∷ xs) (suc i) a b = ap (λ (l : List ℕ). x ∷ l) (set_over xs i a b)

pub eqb_self : (n : ℕ) → eqb n n ≡ true
eqb_self n = grind (arith, nat_tests)

-- a claim of a number beyond the count, on the virtual table
module _ (ends : EndLaws) (passing : PassingKeepsLawful) (strays : LawfulStraysNothing) (loads : Loads (BatchTurns false)) (old : Claims (BatchTurns false))
    (count limit slots id c skip : ℕ) (m : BatchMine) (p : Part) (serial : ℕ) (rt : Router) (is : m.0.parts ≡ p ∷ []) (can : CanAct p.state serial rt router_acts.Claim) (small : c + skip < limit)
    (t : BatchSt) (r : Batched count limit false t) (deep : length t.homes ≡ slots) (at : get_elem? t.views id ≡ some m.0) (fits : slice_index t.words limit < 18446744073709551616) (tiny : limit < 18446744073709551616) where
  abbrev act2 : Act
  act2 = acts.Router serial router_acts.Claim

  abbrev n2 : ℕ
  n2 = slice_index t.words limit

  abbrev left2 : BatchMine
  left2 = (with_part (act_part act2 (answers.Claimed (c + skip)) p) (saw limit (c + skip) m.0), m.1)

  -- what it is, by whether the count was found
  abbrev Res2 : Bool → Type 0
  Res2 b = (v : View) × (a : TableAct Batch) × Valid t.homes m.1 a ×
      ((r' : Batched count limit false (stepped t limit (either b (c + skip + 1) n2) id m.1 v a)) ×
      MatchBool b (passing_turns count limit c skip ((p.node, act2) ∷ []) t r (stepped t limit (either b (c + skip + 1) n2) id m.1 v a) r')
      (turns_of count limit true limit (λ n. []) t r (stepped t limit (either b (c + skip + 1) n2) id m.1 v a) r')) ×
      MatchBool b (◌≡◌ {A = BatchMine} (v, carried_after m.1 a) left2) (◌≡◌ {A = BatchMine} (v, carried_after m.1 a) (saw limit n2 m.0, m.1))

  by2 : (b : Bool) → eqb n2 c ≡ b → Res2 b
  unfolding set_claimed passed_rules passed_batched
  by2 true e =
      let found : r.rules.world.claimed ≡ c = sym (count_is count limit t r) ∙ eqb-true n2 c e in
      let most : r.rules.world.claimed + skip ≤ limit = omega (arith, found, small) in
      let t' : BatchSt = s1 ends passing strays count limit t r skip most in
      let r1 = passed_batched ends passing strays count limit t r skip most in
      let k : ℕ = c + skip in
      let same : r.rules.world.claimed + skip ≡ k = omega (arith, found) in
      let here : slice_index t'.words limit ≡ k = get_or-set_same t.words limit (r.rules.world.claimed + skip) 0 (wide2 ends passing strays count limit t r skip most) ∙ same in
      let Raw : ℕ → Bool → Type 0 = λ j b. (v : View) × (a : TableAct Batch) × Valid t.homes m.1 a ×
      ((b' : Batched count limit false (stepped t' limit (either b (k + 1) j) id m.1 v a)) ×
      AreTurns r1.rules.world r1.rules.books r1.rules.routes (turn_where b p.node act2) b'.rules.world b'.rules.books b'.rules.routes) ×
      MatchBool b (◌≡◌ {A = BatchMine} (v, carried_after m.1 a) (with_part (act_part act2 (answers.Claimed k) p) (saw limit j m.0), m.1)) (◌≡◌ {A = BatchMine} (v, carried_after m.1 a) (saw limit j m.0, m.1)) in
      let raw : Raw (slice_index t'.words limit) (eqb (slice_index t'.words limit) k) = old count limit slots id k m p serial rt is can small t' r1 deep at (subst (λ (q : ℕ). q < 18446744073709551616) (sym here) (omega (arith, small, tiny))) in
      let done : Raw k true = subst (λ (b : Bool). Raw k b) (eqb_self k) (subst (λ (j : ℕ). Raw j (eqb j k)) here raw) in
      let Out : List ℕ → Type 0 = λ ws. (r' : Batched count limit false (record { words = ws; homes = (stepped t' limit (k + 1) id m.1 done.0 done.1).homes; views = (stepped t' limit (k + 1) id m.1 done.0 done.1).views })) ×
      AreTurns (passed_over r.rules.world skip) r.rules.books (lose_words r.rules.routes r.rules.world.claimed skip) ((p.node, act2) ∷ []) r'.rules.world r'.rules.books r'.rules.routes in
      let out = subst Out (set_over t.words limit (r.rules.world.claimed + skip) (k + 1)) done.3 in
      (done.0, done.1, done.2, (out.0, (found, omega (arith, small), out.1)), done.4)
  by2 false e = loads count limit slots id limit m p is t r deep at fits

  pub claimed_beyond : Res2 (eqb n2 c)
  claimed_beyond = by2 (eqb n2 c) refl

-- what was nowhere stays so, and nobody has the numbers that were passed over
module _ (ends : EndLaws) (passing : PassingKeepsLawful) (count limit k c skip : ℕ) (p : Part) (serial : ℕ) where
  abbrev g3 : Known (virtual count limit true)
  g3 = passing_turns count limit c skip ((p.node, acts.Router serial router_acts.Claim) ∷ [])

  -- who holds an end then held it before, or the number wasn't passed over
  was3 : (t : BatchSt) (r : Batched count limit false t) (t' : BatchSt) (r' : Batched count limit false t') → g3 t r t' r' → (i : ℕ) (s : Side) → IsEndHeld r'.rules.world i s → IsEndHeld r.rules.world i s ⊎ (c + skip ≤ i)
  was3 t r t' r' g i s held =
      let most : r.rules.world.claimed + skip ≤ r.rules.world.size = let z = r.rules.words in let e = g.0 in let l = g.1 in omega (arith, z, e, l) in
      ⊎_elim (λ h. inl (held_same r.rules.world (r.rules.world.claimed + skip) i s h)) (λ far. inr (let e = g.0 in let q = claimed_same r.rules.world (r.rules.world.claimed + skip) in omega (arith, far, e, q)))
      (ends.kept (passed_over r.rules.world skip) r'.rules.world r.rules.books r'.rules.books (lose_words r.rules.routes r.rules.world.claimed skip) r'.rules.routes ((p.node, acts.Router serial router_acts.Claim) ∷ []) i s (passing r.rules.world r.rules.books r.rules.routes skip r.rules.lawful most) g.2 held)

  pub passes_kept : Keeps (virtual count limit true) (sizes count limit k true) g3
  passes_kept t r t' r' g b i l gone held = ⊎_elim gone (λ far. let e = count_is count limit t r in let f = g.0 in omega (arith, e, f, far, l)) (was3 t r t' r' g i (side_of b) held)

  pub passes_skipped : Skips (virtual count limit true) (sizes count limit k true) g3 (c + skip)
  passes_skipped t r t' r' g b i far under held = ⊎_elim
      (λ h. let low = held_claimed ends r.rules.world r.rules.books r.rules.routes r.rules.lawful i (side_of b) h in let e = count_is count limit t r in omega (arith, e, low, far))
      (λ beyond. omega (arith, beyond, under))
      (was3 t r t' r' g i (side_of b) held)

  -- who is held stays so
  pub passes_loses : (id : ℕ) (v : View) → LosesNone (virtual count limit true) (sizes count limit k true) id v g3
  passes_loses id v again t r t' r' at g b i l gone held =
      let most : r.rules.world.claimed + skip ≤ r.rules.world.size = let z = r.rules.words in let e = g.0 in let l = g.1 in omega (arith, z, e, l) in
      ⊎_elim gone (λ lets. one_keeps (passed_over r.rules.world skip) p.node (acts.Router serial router_acts.Claim) (claim_keeps serial) i (side_of b) lets)
      (ends.stay (passed_over r.rules.world skip) r'.rules.world r.rules.books r'.rules.books (lose_words r.rules.routes r.rules.world.claimed skip) r'.rules.routes ((p.node, acts.Router serial router_acts.Claim) ∷ []) i (side_of b)
      (passing r.rules.world r.rules.books r.rules.routes skip r.rules.lawful most) g.2 (held_then r.rules.world (r.rules.world.claimed + skip) i (side_of b) held))

  -- and both ends of the number that is claimed are held
  pub passes_takes : (id : ℕ) (v : View) → c + skip < limit → Takes (virtual count limit true) id v g3 (c + skip)
  passes_takes id v small t r t' r' at g b gone =
      let room : has_unclaimed_word (passed_over r.rules.world skip) ≡ true = unclaimed_left r.rules.world (r.rules.world.claimed + skip) (let z = r.rules.words in let e = g.0 in omega (arith, z, e, small)) in
      let held = ends.claimed.router (passed_over r.rules.world skip) p.node serial (side_of b) g.2.0.may room in
      gone (subst (λ (n : ℕ). IsEndHeld r'.rules.world n (side_of b)) (claimed_same r.rules.world (r.rules.world.claimed + skip) ∙ (let e = g.0 in omega (arith, e)))
      (subst (λ (u : World). IsEndHeld u (passed_over r.rules.world skip).claimed (side_of b)) (sym g.2.1.0) held))

claims_beyond : EndLaws → PassingKeepsLawful → LawfulStraysNothing → Loads (BatchTurns false) → Claims (BatchTurns false) → ClaimsOnSlots
claims_beyond ends passing strays loads old k dirty free looked one count limit slots id c skip m p serial rt is can small tiny has =
    let x = virtual count limit true in
    let z = sizes count limit k true in
    let n : ℕ = c + skip in
    let g : Known x = passing_turns count limit c skip ((p.node, acts.Router serial router_acts.Claim) ∷ []) in
    let h : Known x = turns_of count limit true limit (λ j. []) in
    let hit : BatchMine → Type 0 = λ m'. m' ≡ (with_part (act_part (acts.Router serial router_acts.Claim) (answers.Claimed n) p) (saw limit n m.0), m.1) in
    let miss : ℕ → BatchMine → Type 0 = λ j m'. m' ≡ (saw limit j m.0, m.1) in
    let P : ℕ → Type 0 = λ q. Steps x (λ t r t' r'. MatchBool (eqb (slice_index t.words limit) c) (g t r t' r') (h t r t' r')) slots id m q (λ j. either (eqb j c) (n + 1) j) (λ j m'. MatchBool (eqb j c) (hit m') (miss j m')) in
    let steps : P limit = λ t r deep at fits. claimed_beyond ends passing strays loads old count limit slots id c skip m p serial rt is can small t r deep at fits tiny in
    claims x z (laws_of ends count limit k true) (are_sizes count limit k one) g h slots id c n (own_of m.0 dirty free looked) m.1 hit miss
    (passes_kept ends passing count limit k c skip p serial) (passes_loses ends passing count limit k c skip p serial id m.0) (passes_skipped ends passing count limit k c skip p serial)
    (passes_takes ends passing count limit k c skip p serial id m.0 small) (kept_by ends count limit k true limit (λ j. []))
    (loses_none ends count limit k true id limit m.0 (λ j. []) (λ again t r t' r' at g j s h. h)) (omega arith) small has (subst P (omega arith) steps)

-- where slots aren't used again a claim is the rule's own
claims_in_their_order : EndLaws → Claims (BatchTurns true) → ClaimsInTheirOrder
claims_in_their_order ends old k dirty free looked count limit slots id c m p serial rt is can few areas =
    let x = virtual count limit false in
    let z = sizes count limit k false in
    let act = acts.Router serial router_acts.Claim in
    let turns : ℕ → List (ℕ × Act) = λ n. turn_where (eqb n c) p.node act in
    let told : ℕ → BatchMine → Type 0 = λ n m'. MatchBool (eqb n c) (m' ≡ (with_part (act_part act (answers.Claimed c) p) (saw limit n m.0), m.1)) (m' ≡ (saw limit n m.0, m.1)) in
    claims_in_order x z (laws_of ends count limit k false) areas (turns_of count limit false limit turns) slots id c (own_of m.0 dirty free looked) m.1 told
    (kept_by ends count limit k false limit turns) refl few
    (subst (λ (q : ℕ). Steps x (turns_of count limit false limit turns) slots id m q (λ n. either (eqb n c) (c + 1) n) told) (omega arith) (old count limit slots id c m p serial rt is can few))

pub claims_last : ClaimsLast
claims_last ends passing strays loads old = (claims_beyond ends passing strays (loads false) (old false), claims_in_their_order ends (old true))
