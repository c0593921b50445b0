-- Steps on the claim count: a claim of a proxy, one that finds no word, and the first half of an open.
use Rattle.std.specs.Prelude.{◌≡◌, ◌≤◌, ◌<◌, ◌+◌, ℕ, Bool, true, false, nat_lt, [], ◌∷◌, length, slice_index, Some, None, refl, MatchBool, if◌then◌else◌}
use Rattle.std.proofs.Common.{arith, ap, ◌∙◌, sym, inl, inr, subst, set, length-set, get_or-set_same, get_or-set_other, eqb, eqb-true}
use Rattle.std.proofs.lemmas.Bool.Decides.{nat_tests}
use prog.Atomic.{either}
use mathlib.Core.Option.{some}
use lib.ListN.{get_elem?}
use Rattle.atomic_table.specs.Table.{Act as TableAct, Valid, stepped, carried_after, keeps}
use Rattle.ipcz_word.specs.Layout.{bits_of}
use Rattle.ipcz_router.specs.Router.{Router}
use Rattle.ipcz_router.specs.declared.act.RouterAct.TheVariants as acts
use Rattle.ipcz_router.specs.declared.act.Answer.TheVariants as answers
use Rattle.ipcz_node.specs.declared.act.Act.TheVariants.{Router as OfRouter}
use Rattle.ipcz_node.specs.Node.{Node}
use Rattle.ipcz_node.specs.Acts.{commit}
use Rattle.ipcz_world.specs.World.{World, node_at, word_at, way, set_node, set_claimed}
use Rattle.ipcz_world.specs.WordAnswers.{answer_of, touch}
use Rattle.ipcz_world.specs.Turns.{after_router_act}
use Rattle.ipcz_world.specs.Steps.{claim_for_open}
use Rattle.ipcz_world.specs.Books.{Books}
use Rattle.ipcz_world.specs.Routes.{Routes}
use Rattle.ipcz_world.specs.Ranks.{AreTurns}
use Rattle.ipcz_world.specs.Lawful.{Lawful}
use Rattle.ipcz_world.proofs.frames.Frames.{node-set_node, node-set_claimed, word-set_node, word-set_claimed, mail-set_node, mail-set_claimed, claimed-set_node, claimed-set_claimed, size-set_node, size-set_claimed, count-set_node, count-set_claimed}
use Rattle.ipcz_world.proofs.Whole.{claim_keeps_lawful}
use Rattle.ipcz_rule.specs.declared.view.View.{View}
use Rattle.ipcz_rule.specs.declared.view.Part.{Part}
use Rattle.ipcz_world.specs.HeldEnds.{IsEndHeld}
use Rattle.ipcz_world.proofs.lawful.LettingGo.{held_for_open_were_held}
use Rattle.ipcz_rule.specs.Rule.{Slot, St, Mine, inbox, mailbox, Rules, with_part, saw}
use Rattle.ipcz_rule.specs.Steps.{CanAct, claimed_part}
use Rattle.ipcz_rule.specs.Deeds.{Beside, ClaimsWord, deed_where}
use Rattle.ipcz_rule.specs.Kinds.{Follows, Done, IsKept, IsDeeds, IsTurns, turn_where, Claims, ClaimsForOpen, LoadsForClaim}
use Rattle.ipcz_rule.proofs.KeptEnds.{turns_keep}
use Rattle.ipcz_rule.proofs.Counts.{Silent}
use Rattle.ipcz_rule.proofs.Moved.{ruled_with, spelled, keeps_sources}
use Rattle.ipcz_rule.proofs.Touches.{NodeMoves, others_spell, own_spells, mails_show}
use Rattle.ipcz_rule.proofs.Joins.{joined_same}
use Rattle.ipcz_rule.proofs.Touching.{KeepsHands, set_moves, After}
use Rattle.ipcz_rule.proofs.Acting.{plain_part, act_routes, act_after, act_hand}
use Rattle.ipcz_rule.proofs.Inboxes.{inboxes_stay}
use Rattle.ipcz_rule.proofs.Wording.{sees}
use Rattle.ipcz_world.proofs.lawful.StayingHeld.{opening_keeps_held}
use Rattle.ipcz_rule.proofs.KeptEnds.{where_keeps, claim_keeps}

-- the rule after a step on the claim count that leaves n', if the own node is another
module _ (count size : ℕ) (s : St) (r : Rules count size s) (id : ℕ) (v v' : View) (p p' : Part) (w' : World) (g' : Routes) (n' : ℕ)
    (at : get_elem? s.views id ≡ some v) (is : v.parts ≡ p ∷ []) (is' : v'.parts ≡ p' ∷ []) (sight : Silent s.words v v') (moves : NodeMoves r.world w' p.node p'.state) (words : (j : ℕ) → word_at w' j ≡ word_at r.world j) (claimed : n' ≡ w'.claimed) (up : r.world.claimed ≤ n')
    (k : KeepsHands p p') (put : p'.put ≡ p.put) (got : p'.got ≡ p.got) (gone : p'.gone ≡ p.gone) (lawful : Lawful w' r.books g') (G : World → Books → Routes → Type 0) (known : G w' r.books g') where
  abbrev w : World
  w = r.world

  wide : size < length s.words
  wide = let e = r.shows.wide in let z = r.words in omega arith

  boxes : (j : ℕ) → slice_index (set s.words size n') (mailbox w j) ≡ slice_index s.words (mailbox w j)
  boxes j = get_or-set_other s.words size (mailbox w j) n' 0 (λ e. let z = r.words in omega arith)

  pub claim_rules : (r' : Rules count size record { words = set s.words size n'; homes = s.homes; views = set s.views id v' }) × G r'.world r'.books r'.routes
  claim_rules = ruled_with s r w' r.books g' (set s.words size n') s.homes id v v' p p' at is is' sight.1 (k.history, sight.2) (record {
    count = moves.count;
    size = moves.size;
    wide = length-set s.words size n';
    deep = refl;
    links = λ j l. let l' : j < w.size = rw (← moves.size) l in get_or-set_other s.words size j n' 0 (λ e. let z = r.words in omega arith) ∙ (r.shows.links j l' ∙ ap bits_of (sym (words j)));
    sources = keeps_sources w w' words r.sources;
    claims = ap (slice_index (set s.words size n')) (moves.size ∙ r.words) ∙ (get_or-set_same s.words size n' 0 wide ∙ claimed);
    grows = omega (arith, up, claimed);
    mail = mails_show s w w' (set s.words size n') p.node p'.state moves boxes r.owner r.shows;
    node = k.node;
    own = own_spells s w w' (set s.words size n') p.node p'.state moves boxes p p' refl k.node refl k.hand k.message k.probed (spelled s r id v p at is);
    others = others_spell s w w' (set s.words size n') p.node p'.state moves boxes;
  }) (inboxes_stay s r w' (set s.words size n') id v' moves.count moves.size sight.0 (λ to l. get_or-set_other s.words size (inbox w to) n' 0 (λ e. let z = r.words in omega arith)) (λ from to lf lt e. inl (sym (boxes (way w from to)) ∙ e))) (joined_same s.views id v v' p p' r.books at is is' put got gone r.joined) lawful G known

claim_after : (w : World) (n serial : ℕ) (x : Node) (rt : Router) → node_at w n ≡ x → w.claimed < w.size →
    after_router_act w n serial acts.Claim (Some rt) ≡ set_node (set_claimed w (w.claimed + 1)) n (commit x (OfRouter serial acts.Claim) (answers.Claimed w.claimed))
unfolding after_router_act touch answer_of
claim_after w n serial x rt is l =
    let t : nat_lt w.claimed w.size ≡ true = grind (arith, nat_tests, l) in
    ap (λ b. set_node (if b then set_claimed w (w.claimed + 1) else w) n (commit (node_at w n) (OfRouter serial acts.Claim) (if b then answers.Claimed w.claimed else answers.NoWord))) t
    ∙ ap (λ y. set_node (set_claimed w (w.claimed + 1)) n (commit y (OfRouter serial acts.Claim) (answers.Claimed w.claimed))) is

claim_moves : (w : World) (c n : ℕ) (x : Node) → NodeMoves w (set_node (set_claimed w c) n x) n x
claim_moves w c n x = record {
  count = count-set_node (set_claimed w c) n x ∙ count-set_claimed w c;
  size = size-set_node (set_claimed w c) n x ∙ size-set_claimed w c;
  here = node-set_node (set_claimed w c) n x n ∙ grind (arith, nat_tests);
  apart = λ j ne. node-set_node (set_claimed w c) n x j ∙ grind (arith, nat_tests, ne, node-set_claimed w c j);
  mail = λ k. mail-set_node (set_claimed w c) n x k ∙ mail-set_claimed w c k;
}

-- claim: the count is exchanged for the next, if it is what was found before
module _ (count size id : ℕ) (m : Mine) (p : Part) (serial : ℕ) (rt : Router) (c : ℕ) (is : m.0.parts ≡ p ∷ []) (can : CanAct p.state serial rt acts.Claim) (small : c < size)
    (s : St) (r : Rules count size s) (at : get_elem? s.views id ≡ some m.0) where
  abbrev n : ℕ
  n = slice_index s.words size

  abbrev p' : Part
  p' = plain_part serial acts.Claim (answers.Claimed c) p

  abbrev Told : Bool → Mine → Type 0
  Told b m' = MatchBool b (m' ≡ (with_part p' (saw size n m.0), m.1)) (m' ≡ (saw size n m.0, m.1))

  abbrev F : Bool → Type 0
  F b = (v : View) × (a : TableAct Slot) × Valid s.homes m.1 a × Follows count size s r (turn_where b p.node (OfRouter serial acts.Claim)) (stepped s size (either b (c + 1) n) id m.1 v a) × Told b (v, carried_after m.1 a)

  claims_by : (b : Bool) → eqb n c ≡ b → F b
  claims_by true e =
      let w = r.world in
      let sp = spelled s r id m.0 p at is in
      let found : w.claimed ≡ c = sym r.shows.claims ∙ (ap (slice_index s.words) r.words ∙ eqb-true n c e) in
      let room : w.claimed < w.size = let z = r.words in omega arith in
      let g' = act_routes w r.routes p.node serial acts.Claim in
      let Kept : World → Type 0 = λ u. After w r.books r.routes p.node (OfRouter serial acts.Claim) u r.books g' in
      let kept = subst Kept (claim_after w p.node serial p.state rt sp.state room)
      (act_after w r.books r.routes p.node serial p.state rt acts.Claim r.lawful sp.inside sp.state can refl) in
      let w' = set_node (set_claimed w (c + 1)) p.node p'.state in
      let done : Kept w' = subst (λ (k : ℕ). Kept (set_node (set_claimed w (k + 1)) p.node (commit p.state (OfRouter serial acts.Claim) (answers.Claimed k)))) found kept in
      let v' = with_part p' (saw size n m.0) in (
        v',
        keeps,
        tt,
        claim_rules count size s r id m.0 v' p p' w' g' (c + 1) at is refl (refl, inr (size, refl), refl) (claim_moves w (c + 1) p.node p'.state)
            (λ j. word-set_node (set_claimed w (c + 1)) p.node p'.state j ∙ word-set_claimed w (c + 1) j) (sym (claimed-set_node (set_claimed w (c + 1)) p.node p'.state ∙ claimed-set_claimed w (c + 1))) (omega (arith, found))
            (record { node = refl; hand = act_hand p.state serial acts.Claim (answers.Claimed c); message = refl; probed = refl; history = refl }) refl refl refl done.0
            (AreTurns w r.books r.routes ((p.node, OfRouter serial acts.Claim) ∷ [])) done.1,
        refl,
      )
  claims_by false e = (saw size n m.0, keeps, tt, sees s r size id m.0 (saw size n m.0) p at is is (refl, inr (size, refl), refl), refl)

  pub claimed_word : F (eqb n c)
  claimed_word = claims_by (eqb n c) refl

pub claims_turns : Claims IsTurns
claims_turns count size slots id c m p serial rt is can small s r deep at low = claimed_word count size id m p serial rt c is can small s r at

pub claims : (all : Bool) → Claims (IsKept all)
claims all count size slots id c m p serial rt is can below s r deep at small =
    let t = claims_turns count size slots id c m p serial rt is can below s r deep at small in (t.0, t.1, t.2, turns_keep all count size s _ r (turn_where (eqb (slice_index s.words size) c) p.node (OfRouter serial acts.Claim)) (λ e. where_keeps (eqb (slice_index s.words size) c) r.world p.node (OfRouter serial acts.Claim) (claim_keeps serial)) t.3, t.4)

dry_after : (w : World) (n serial : ℕ) (x : Node) (rt : Router) → node_at w n ≡ x → nat_lt w.claimed w.size ≡ false →
    after_router_act w n serial acts.Claim (Some rt) ≡ set_node w n (commit x (OfRouter serial acts.Claim) answers.NoWord)
unfolding after_router_act touch answer_of
dry_after w n serial x rt is t =
    ap (λ b. set_node (if b then set_claimed w (w.claimed + 1) else w) n (commit (node_at w n) (OfRouter serial acts.Claim) (if b then answers.Claimed w.claimed else answers.NoWord))) t
    ∙ ap (λ y. set_node w n (commit y (OfRouter serial acts.Claim) answers.NoWord)) is

-- a load of the claim count: if it finds that each word was claimed, the router is dry
module _ (count size id : ℕ) (m : Mine) (p : Part) (serial : ℕ) (rt : Router) (is : m.0.parts ≡ p ∷ []) (can : CanAct p.state serial rt acts.Claim)
    (s : St) (r : Rules count size s) (at : get_elem? s.views id ≡ some m.0) where
  abbrev seen_count : ℕ
  seen_count = slice_index s.words size

  abbrev dry_part : Part
  dry_part = plain_part serial acts.Claim answers.NoWord p

  abbrev DryTold : Bool → Mine → Type 0
  DryTold b m' = MatchBool b (m' ≡ (with_part dry_part (saw size seen_count m.0), m.1)) (m' ≡ (saw size seen_count m.0, m.1))

  abbrev Dry : Bool → Type 0
  Dry b = (v : View) × (a : TableAct Slot) × Valid s.homes m.1 a × Follows count size s r (turn_where b p.node (OfRouter serial acts.Claim)) (stepped s size seen_count id m.1 v a) × DryTold b (v, carried_after m.1 a)

  dry_by : (b : Bool) → eqb seen_count size ≡ b → Dry b
  dry_by true e =
      let w = r.world in
      let sp = spelled s r id m.0 p at is in
      let found : seen_count ≡ w.claimed = ap (slice_index s.words) (sym r.words) ∙ r.shows.claims in
      let all : nat_lt w.claimed w.size ≡ false = let h = sym found ∙ (eqb-true seen_count size e ∙ sym r.words) in grind (arith, nat_tests, h) in
      let g' = act_routes w r.routes p.node serial acts.Claim in
      let Kept : World → Type 0 = λ u. After w r.books r.routes p.node (OfRouter serial acts.Claim) u r.books g' in
      let done : Kept (set_node w p.node dry_part.state) = subst Kept (dry_after w p.node serial p.state rt sp.state all)
      (act_after w r.books r.routes p.node serial p.state rt acts.Claim r.lawful sp.inside sp.state can refl) in
      let v' = with_part dry_part (saw size seen_count m.0) in (
        v',
        keeps,
        tt,
        claim_rules count size s r id m.0 v' p dry_part (set_node w p.node dry_part.state) g' seen_count at is refl (refl, inr (size, refl), refl) (set_moves w p.node dry_part.state)
            (word-set_node w p.node dry_part.state) (found ∙ sym (claimed-set_node w p.node dry_part.state)) (omega (arith, found))
            (record { node = refl; hand = act_hand p.state serial acts.Claim answers.NoWord; message = refl; probed = refl; history = refl }) refl refl refl done.0
            (AreTurns w r.books r.routes ((p.node, OfRouter serial acts.Claim) ∷ [])) done.1,
        refl,
      )
  dry_by false e = (saw size seen_count m.0, keeps, tt, sees s r size id m.0 (saw size seen_count m.0) p at is is (refl, inr (size, refl), refl), refl)

  pub dry_found : Dry (eqb seen_count size)
  dry_found = dry_by (eqb seen_count size) refl

pub loads_for_claim_turns : LoadsForClaim IsTurns
loads_for_claim_turns count size slots id m p serial rt is can s r deep at small = dry_found count size id m p serial rt is can s r at

pub loads_for_claim : (all : Bool) → LoadsForClaim (IsKept all)
loads_for_claim all count size slots id m p serial rt is can s r deep at small =
    let t = loads_for_claim_turns count size slots id m p serial rt is can s r deep at small in (t.0, t.1, t.2, turns_keep all count size s _ r (turn_where (eqb (slice_index s.words size) size) p.node (OfRouter serial acts.Claim)) (λ e. where_keeps (eqb (slice_index s.words size) size) r.world p.node (OfRouter serial acts.Claim) (claim_keeps serial)) t.3, t.4)

half_moves : (w : World) (c n : ℕ) (x : Node) → NodeMoves w (set_claimed (set_node w n x) c) n x
half_moves w c n x = record {
  count = count-set_claimed (set_node w n x) c ∙ count-set_node w n x;
  size = size-set_claimed (set_node w n x) c ∙ size-set_node w n x;
  here = node-set_claimed (set_node w n x) c n ∙ (node-set_node w n x n ∙ grind (arith, nat_tests));
  apart = λ j ne. node-set_claimed (set_node w n x) c j ∙ (node-set_node w n x j ∙ grind (arith, nat_tests, ne));
  mail = λ k. mail-set_claimed (set_node w n x) c k ∙ mail-set_node w n x k;
}

-- the first half of an open: a claim for it
module _ (count size id : ℕ) (m : Mine) (p : Part) (c : ℕ) (is : m.0.parts ≡ p ∷ []) (idle : p.state.opening ≡ None) (small : c < size)
    (s : St) (r : Rules count size s) (at : get_elem? s.views id ≡ some m.0) where
  abbrev count_found : ℕ
  count_found = slice_index s.words size

  abbrev HalfTold : Bool → Mine → Type 0
  HalfTold b m' = MatchBool b (m' ≡ (with_part (claimed_part c p) (saw size count_found m.0), m.1)) (m' ≡ (saw size count_found m.0, m.1))

  abbrev Claimed : Bool → World → Books → Routes → Type 0
  Claimed b = Done r.world r.books r.routes (deed_where b (Beside (ClaimsWord p.node)))

  abbrev Half : Bool → Type 0
  Half b = (v : View) × (a : TableAct Slot) × Valid s.homes m.1 a ×
      ((r' : Rules count size (stepped s size (either b (c + 1) count_found) id m.1 v a)) × Claimed b r'.world r'.books r'.routes) × HalfTold b (v, carried_after m.1 a)

  half_by : (b : Bool) → eqb count_found c ≡ b → Half b
  half_by true e =
      let w = r.world in
      let sp = spelled s r id m.0 p at is in
      let found : w.claimed ≡ c = sym r.shows.claims ∙ (ap (slice_index s.words) r.words ∙ eqb-true count_found c e) in
      let room : w.claimed < w.size = let z = r.words in omega arith in
      let kept : Lawful (claim_for_open w p.node) r.books r.routes = claim_keeps_lawful w r.books r.routes p.node r.lawful sp.inside room (ap (λ y. y.opening) sp.state ∙ idle) in
      let p' = claimed_part c p in
      let w' = set_claimed (set_node w p.node p'.state) (c + 1) in
      let lawful : Lawful w' r.books r.routes = subst (λ (k : ℕ). Lawful (set_claimed (set_node w p.node (record p.state { opening = Some k })) (k + 1)) r.books r.routes) found
      (subst (λ (y : Node). Lawful (set_claimed (set_node w p.node (record y { opening = Some w.claimed })) (w.claimed + 1)) r.books r.routes) sp.state kept) in
      let ends : Claimed true w' r.books r.routes = subst (λ (k : ℕ). Claimed true (set_claimed (set_node w p.node (record p.state { opening = Some k })) (k + 1)) r.books r.routes) found
      (subst (λ (y : Node). Claimed true (set_claimed (set_node w p.node (record y { opening = Some w.claimed })) (w.claimed + 1)) r.books r.routes) sp.state (
        ((sp.inside, room, ap (λ y. y.opening) sp.state ∙ idle), (refl, refl, refl)),
        (
          (λ k side held. held_for_open_were_held w r.books r.routes p.node k side r.lawful sp.inside held),
          (λ e k side held. opening_keeps_held w r.books r.routes p.node k side r.lawful (ap (λ y. y.opening) sp.state ∙ idle) held),
        ),
      )) in
      let v' = with_part p' (saw size count_found m.0) in (
        v',
        keeps,
        tt,
        claim_rules count size s r id m.0 v' p p' w' r.routes (c + 1) at is refl (refl, inr (size, refl), refl) (half_moves w (c + 1) p.node p'.state)
            (λ j. word-set_claimed (set_node w p.node p'.state) (c + 1) j ∙ word-set_node w p.node p'.state j) (sym (claimed-set_claimed (set_node w p.node p'.state) (c + 1))) (omega (arith, found))
            (record { node = refl; hand = refl; message = refl; probed = refl; history = refl }) refl refl refl lawful (Claimed true) ends,
        refl,
      )
  half_by false e =
      let f = sees s r size id m.0 (saw size count_found m.0) p at is is (refl, inr (size, refl), refl) in
      (saw size count_found m.0, keeps, tt, (f.0, (f.1, ((λ k side held. inl (subst (λ (u : World). IsEndHeld u k side) f.1.0 held)), (λ h k side held. subst (λ (u : World). IsEndHeld u k side) (sym f.1.0) held)))), refl)

  pub half_claimed : Half (eqb count_found c)
  half_claimed = half_by (eqb count_found c) refl

pub claims_for_open_deeds : ClaimsForOpen IsDeeds
claims_for_open_deeds count size slots id c m p is idle small s r deep at low = half_claimed count size id m p c is idle small s r at
