-- A post by a node that takes no step itself: its part is another wherever it stands.
use Rattle.std.specs.Prelude.{◌≡◌, ◌≢◌, ◌<◌, ◌+◌, ◌*◌, ℕ, zero, suc, true, false, cond, nat_eq, List, [], ◌∷◌, map, length, slice_index, Some, refl}
use Rattle.std.specs.Int.{bit_at}
use Rattle.std.proofs.Common.{arith, ap, ◌∙◌, sym, subst, set, length-set, get_or-set_same, get_or-set_other}
use Rattle.std.proofs.lemmas.List.{length-map}
use Rattle.std.proofs.lemmas.Bool.Decides.{nat_tests}
use mathlib.Core.Option.{some, some-injective, some-ne-none}
use mathlib.Core.Logic.{dite}
use native.Mathlib.Decide.{ℕ_discrete}
use lib.ListN.{get_elem?}
use Rattle.atomic_table.proofs.Lists.{at_map, set_here, set_else}
use Rattle.ipcz_base.specs.declared.message.Message.{Message}
use Rattle.ipcz_router.specs.declared.act.Answer.TheVariants as answers
use Rattle.ipcz_word.specs.Layout.{bits_of}
use Rattle.ipcz_node.specs.declared.act.Act.TheVariants as acts
use Rattle.ipcz_node.specs.Node.{Node}
use Rattle.ipcz_node.specs.Acts.{commit, post_of, has_mail_for}
use Rattle.ipcz_world.specs.declared.mail.Mail.TheVariants as mails
use Rattle.ipcz_world.specs.World.{World, node_at, mail_at, way, set_node, set_mail}
use Rattle.ipcz_world.specs.Turns.{after_act}
use Rattle.ipcz_world.specs.Books.{Books}
use Rattle.ipcz_world.specs.Routes.{Routes, hand_of}
use Rattle.ipcz_world.specs.Ranks.{AreTurns}
use Rattle.ipcz_world.proofs.Whole.{lawful_worlds_stray_nothing}
use Rattle.ipcz_rule.specs.declared.view.View.{View}
use Rattle.ipcz_rule.specs.declared.view.Part.{Part}
use Rattle.ipcz_rule.specs.Histories.{Histories}
use Rattle.ipcz_rule.specs.Rule.{Homes, St, Rules, Spells, Shows, Inboxes, Joined, InParts, MailAt, has_number, inbox, mailbox, puts_of, gets_of, drops_of, with_state}
use Rattle.ipcz_rule.proofs.FromLaws.{hand_stands}
use Rattle.ipcz_rule.proofs.Inboxes.{box_is, same_box_way, same_inbox}
use Rattle.ipcz_rule.proofs.Mailing.{MailMoves, way_low, way_first, way_second, mail_moves}
use Rattle.ipcz_rule.proofs.Moved.{keeps_sources}
use Rattle.ipcz_rule.proofs.Posting.{no_hand, post_after, post_can, post_hand, post_lacks, post_written, three_stays, turn_routes}
use Rattle.ipcz_rule.proofs.Touches.{same_hand, same_box}
use Rattle.ipcz_rule.proofs.Touching.{After, turn_after}

-- a part behind the post of this node to another
abbrev pub posted_part : ℕ → ℕ → Part → Part
posted_part n to q = cond (nat_eq q.node n) (with_state (commit q.state (acts.Post to) answers.Plain) q) q

abbrev pub posted_view : ℕ → ℕ → View → View
posted_view n to v = record { parts = map (posted_part n to) v.parts; seen = v.seen; announced = v.announced; caller = v.caller }

-- what stands in a list that was mapped comes of what stood there
pub at_unmap : {A B : Type 0} (f : A → B) (l : List A) (i : ℕ) (y : B) → get_elem? (map f l) i ≡ some y → (x : A) × (get_elem? l i ≡ some x) × (f x ≡ y)
at_unmap f [] i y e = absurd (some-ne-none y (sym e))
at_unmap f (x ∷ xs) zero y e = (x, refl, some-injective (f x) y e)
at_unmap f (x ∷ xs) (suc i) y e = at_unmap f xs i y e

module _ (n to : ℕ) where
  by_test : (P : Part → Type 0) (q : Part) → (q.node ≡ n → P (with_state (commit q.state (acts.Post to) answers.Plain) q)) → (q.node ≢ n → P q) → P (posted_part n to q)
  by_test P q mine its = dite (ℕ_discrete q.node n)
      (λ e. let b : nat_eq q.node n ≡ true = grind (arith, nat_tests, e) in subst (λ c. P (cond c (with_state (commit q.state (acts.Post to) answers.Plain) q) q)) (sym b) (mine e))
      (λ ne. let b : nat_eq q.node n ≡ false = grind (arith, nat_tests, ne) in subst (λ c. P (cond c (with_state (commit q.state (acts.Post to) answers.Plain) q) q)) (sym b) (its ne))

  -- the post changes no more of a part than its node's state
  module _ {X : Type 0} (of : Part → X) (same : (x : Node) (q : Part) → of (with_state x q) ≡ of q) where
    pub posted_same : (q : Part) → of (posted_part n to q) ≡ of q
    posted_same q = by_test (λ z. of z ≡ of q) q (λ e. same (commit q.state (acts.Post to) answers.Plain) q) (λ ne. refl)

  module _ {X : Type 0} (of : Part → List X) (same : (x : Node) (q : Part) → of (with_state x q) ≡ of q) (views : List View) (x : X) where
    more_parts : InParts views of x → InParts (map (posted_view n to) views) of x
    more_parts h = record {
      id = h.id;
      view = posted_view n to h.view;
      place = h.place;
      part = posted_part n to h.part;
      index = h.index;
      seat = at_map (posted_view n to) views h.id h.view h.seat;
      there = at_map (posted_part n to) h.view.parts h.place h.part h.there;
      entry = ap (λ l. get_elem? l h.index) (posted_same of same h.part) ∙ h.entry;
    }

    fewer_parts : InParts (map (posted_view n to) views) of x → InParts views of x
    fewer_parts h =
        let v = at_unmap (posted_view n to) views h.id h.view h.seat in
        let p = at_unmap (posted_part n to) v.0.parts h.place h.part (ap (λ (z : View). get_elem? z.parts h.place) v.2 ∙ h.there) in record {
          id = h.id;
          view = v.0;
          place = h.place;
          part = p.0;
          index = h.index;
          seat = v.1;
          there = p.1;
          entry = ap (λ l. get_elem? l h.index) (sym (posted_same of same p.0) ∙ ap of p.2) ∙ h.entry;
        }

  posted_joined : (views : List View) (b : Books) → Joined views b → Joined (map (posted_view n to) views) b
  posted_joined views b j = record {
    put = λ e i item h. more_parts puts_of (λ x q. refl) views ((e, i), item) (j.put e i item h);
    put_only = λ e i item h. j.put_only e i item (fewer_parts puts_of (λ x q. refl) views ((e, i), item) h);
    got = λ e i p h. more_parts gets_of (λ x q. refl) views ((e, i), p) (j.got e i p h);
    got_only = λ e i p h. j.got_only e i p (fewer_parts gets_of (λ x q. refl) views ((e, i), p) h);
    gone = λ e i low more. more_parts drops_of (λ x q. refl) views (e, i) (j.gone e i low more);
    gone_only = λ e i h. j.gone_only e i (fewer_parts drops_of (λ x q. refl) views (e, i) h);
  }

  posted_histories : (views : List View) → Histories views → Histories (map (posted_view n to) views)
  posted_histories views h = record {
    log = h.log;
    seat_of = h.seat_of;
    parts = λ id v j p seat there.
        let w = at_unmap (posted_view n to) views id v seat in
        let q = at_unmap (posted_part n to) w.0.parts j p (ap (λ (z : View). get_elem? z.parts j) w.2 ∙ there) in
        subst (λ (z : Part). z.history ≡ Rattle.ipcz_rule.specs.Histories.at_node z.node h.log) q.2
        (by_test (λ z. z.history ≡ Rattle.ipcz_rule.specs.Histories.at_node z.node h.log) q.0 (λ e. h.parts id w.0 j q.0 w.1 q.1) (λ ne. h.parts id w.0 j q.0 w.1 q.1));
    callers = λ id v c seat has.
        let w = at_unmap (posted_view n to) views id v seat in
        subst (λ many. Rattle.ipcz_rule.specs.Histories.IsCaller h.log many (h.seat_of c.id) id c) (sym (length-map views (posted_view n to))) (h.callers id w.0 c w.1 (ap (λ (z : View). z.caller) w.2 ∙ has));
    begun = λ k e there. subst (λ many. e.by < many) (sym (length-map views (posted_view n to))) (h.begun k e there);
  }

-- the table behind it
abbrev pub posted_table : (size count n to : ℕ) → Message → St → St
posted_table size count n to x s = record {
  words = set s.words (size + 1 + count + (n * count + to)) 1;
  homes = set s.homes (n * count + to) (some (Some x));
  views = map (posted_view n to) s.views;
}

-- it keeps the rule if the mailbox is empty, the message is the first in the outbox, and it was announced
module _ (count size : ℕ) (s : St) (r : Rules count size s) (n to : ℕ) (x : Message) (n_in : n < r.world.count) (to_in : to < r.world.count)
    (has : has_mail_for (node_at r.world n) to ≡ true) (first : post_of (node_at r.world n) (acts.Post to) ≡ Some x)
    (free : slice_index s.words (mailbox r.world (way r.world n to)) ≡ 0) (bit : bit_at (slice_index s.words (inbox r.world to)) n ≡ 1) where
  abbrev w : World
  w = r.world

  abbrev k : ℕ
  k = way w n to

  abbrev i : ℕ
  i = mailbox w k

  abbrev x' : Node
  x' = commit (node_at w n) (acts.Post to) answers.Plain

  abbrev w' : World
  w' = set_mail (set_node w n x') k (mails.Full x)

  abbrev g' : Routes
  g' = turn_routes w r.routes n (acts.Post to)

  abbrev words' : List ℕ
  words' = set s.words i 1

  abbrev homes' : Homes
  homes' = set s.homes k (some (Some x))

  abbrev views' : List View
  views' = map (posted_view n to) s.views

  moves : MailMoves w w' n x' k (mails.Full x)
  moves = mail_moves w n x' k (mails.Full x)

  low : k < w.count * w.count
  low = let h = way_low w.count n w.count to 0 to_in n_in in omega (arith, h)

  wide : i < length s.words
  wide = let e = r.shows.wide in let l = low in omega (arith, e, l)

  empty : mail_at w k ≡ mails.Empty
  empty = (subst (λ z. MailAt z (get_elem? s.homes k) (mail_at w k)) free (r.shows.mail k low)).1

  done : After w r.books r.routes n (acts.Post to) w' r.books g'
  done = subst (λ u. After w r.books r.routes n (acts.Post to) u r.books g') (post_after w n to (node_at w n) x refl first)
      (subst (λ b. After w r.books r.routes n (acts.Post to) (after_act w n (acts.Post to)) b g') (post_written w r.books n to)
      (turn_after w r.books r.routes n (acts.Post to) r.lawful n_in (post_can w n to (node_at w n) refl to_in has empty) (post_lacks w n to)))

  there : slice_index words' i ≡ 1
  there = get_or-set_same s.words i 1 0 wide

  else : (j : ℕ) → j ≢ i → slice_index words' j ≡ slice_index s.words j
  else j ne = get_or-set_other s.words i j 1 0 ne

  box_else : (j : ℕ) → j ≢ k → slice_index words' (mailbox w j) ≡ slice_index s.words (mailbox w j)
  box_else j ne = else (mailbox w j) (λ e. ne (omega (arith, e)))

  inbox_same : (b : ℕ) → b < w.count → slice_index words' (inbox w b) ≡ slice_index s.words (inbox w b)
  inbox_same b l = else (inbox w b) (λ e. omega (arith, l, e))

  mails_shown : (j : ℕ) → j < w'.count * w'.count → MailAt (slice_index words' (mailbox w' j)) (get_elem? homes' j) (mail_at w' j)
  mails_shown j l = dite (ℕ_discrete j k)
      (λ same. let box : mailbox w' j ≡ i = same_box w w' j moves.count moves.size ∙ ap (mailbox w) same in
      let deep_is = r.shows.deep in let inside = low in
      rw (box, there, same, moves.mail) (x, set_here s.homes k (some (Some x)) (omega (arith, deep_is, inside)), refl))
      (λ apart. rw (same_box w w' j moves.count moves.size, box_else j apart, set_else s.homes k j (some (Some x)) apart, moves.mails j apart) (r.shows.mail j (rw (← moves.count) l)))

  same_three : nat_eq (slice_index s.words i) 3 ≡ nat_eq 1 3
  same_three = ap (λ z. nat_eq z 3) free

  -- each part says what it said of hands and mailboxes
  spells : (q : Part) → Spells s.words w q → Spells words' w' (posted_part n to q)
  spells q sp = by_test n to (Spells words' w') q
      (λ e. record {
        inside = rw moves.count sp.inside;
        state = ap (node_at w') e ∙ (moves.node ∙ ap (λ y. commit y (acts.Post to) answers.Plain) (ap (node_at w) (sym e) ∙ sp.state));
        message = ap (hand_of w' q.node) (post_hand q.state to) ∙ message q sp;
        probed = probed q sp;
      })
      (λ ne. record { inside = rw moves.count sp.inside; state = moves.nodes q.node ne ∙ sp.state; message = message q sp; probed = probed q sp })
    where
      message : (q : Part) → Spells s.words w q → hand_of w' q.node q.state.hand ≡ q.message
      message q sp = same_hand w w' q.node q.state.hand moves.count (λ from e. moves.mails (way w from q.node)
          (λ same. no_hand (mail_at w (way w from q.node)) (ap (mail_at w) same ∙ empty) (hand_stands w r.books r.routes q.node from r.lawful sp.inside (ap (λ (y : Node). y.hand) sp.state ∙ e)))) ∙ sp.message

      probed : (q : Part) → Spells s.words w q → (b : ℕ) → b < w'.count → has_number q.probed b ≡ nat_eq (slice_index words' (mailbox w' (way w' q.node b))) 3
      probed q sp b l = sp.probed b (rw (← moves.count) l) ∙ (three_stays s.words i 1 (mailbox w (way w q.node b)) wide same_three ∙ ap (λ z. nat_eq (slice_index words' z) 3) (sym (same_box_way w w' q.node b moves.count moves.size)))

  shown : Shows record { words = words'; homes = homes'; views = views' } w' r.owner
  shown = record {
    wide = length-set s.words i 1 ∙ (r.shows.wide ∙ sym (ap (λ z. z + 1 + w'.count + w'.count * w'.count) moves.size ∙ ap (λ z. w.size + 1 + z + z * z) moves.count));
    deep = length-set s.homes k (some (Some x)) ∙ (r.shows.deep ∙ sym (ap (λ z. z * z) moves.count));
    links = λ j l. let l' : j < w.size = rw (← moves.size) l in else j (λ e. omega (arith, l', e)) ∙ (r.shows.links j l' ∙ ap bits_of (sym (moves.words j)));
    claims = ap (slice_index words') moves.size ∙ (else w.size (λ e. omega (arith, e)) ∙ (r.shows.claims ∙ sym moves.claimed));
    mail = mails_shown;
    parts = λ id v j p seat at_j.
        let u = at_unmap (posted_view n to) s.views id v seat in
        let q = at_unmap (posted_part n to) u.0.parts j p (ap (λ (z : View). get_elem? z.parts j) u.2 ∙ at_j) in
        let was = r.shows.parts id u.0 j q.0 u.1 q.1 in
        subst (λ (z : Part). (r.owner z.node ≡ id) × Spells words' w' z) q.2 (ap r.owner (posted_same n to (λ (z : Part). z.node) (λ y z. refl) q.0) ∙ was.0, spells q.0 was.1);
  }

  told : Inboxes words' views' w'
  told = record {
    full = λ a b a_in b_in one.
        let la : a < w.count = rw (← moves.count) a_in in
        let lb : b < w.count = rw (← moves.count) b_in in
        let one' = ap (slice_index words') (sym (same_box_way w w' a b moves.count moves.size)) ∙ one in
        stays a b lb (dite (ℕ_discrete (way w a b) k)
        (λ same. dite (ℕ_discrete a n)
        (λ e. dite (ℕ_discrete b to)
        (λ t. subst (λ z. bit_at (slice_index s.words (inbox w z)) a ≡ 1) (sym t) (ap (bit_at (slice_index s.words (inbox w to))) e ∙ bit))
        (λ ne. absurd (way_second w.count a n b to lb to_in ne same)))
        (λ ne. absurd (way_first w.count a n b to lb to_in ne same)))
        (λ apart. r.inboxes.full a b la lb (sym (box_else (way w a b) apart) ∙ one')));
    announced = λ id v j p b seat at_j says b_in probed.
        let lb : b < w.count = rw (← moves.count) b_in in
        let u = at_unmap (posted_view n to) s.views id v seat in
        let q = at_unmap (posted_part n to) u.0.parts j p (ap (λ (z : View). get_elem? z.parts j) u.2 ∙ at_j) in
        let node : p.node ≡ q.0.node = ap (λ (z : Part). z.node) (sym q.2) ∙ posted_same n to (λ (z : Part). z.node) (λ y z. refl) q.0 in
        let has' : has_number q.0.probed b ≡ true = ap (λ l. has_number l b) (sym (posted_same n to (λ (z : Part). z.probed) (λ y z. refl) q.0) ∙ ap (λ (z : Part). z.probed) q.2) ∙ probed in
        stays p.node b lb (ap (bit_at (slice_index s.words (inbox w b))) node ∙ r.inboxes.announced id u.0 j q.0 b u.1 q.1 (ap (λ (z : View). z.announced) u.2 ∙ says) lb has');
  }
    where
      stays : (a b : ℕ) → b < w.count → bit_at (slice_index s.words (inbox w b)) a ≡ 1 → bit_at (slice_index words' (inbox w' b)) a ≡ 1
      stays a b lb is = ap (λ z. bit_at (slice_index words' z) a) (same_inbox w w' b moves.size) ∙ (ap (λ z. bit_at z a) (inbox_same b lb) ∙ is)

  after : (r' : Rules count size (record { words = words'; homes = homes'; views = views' })) × AreTurns w r.books r.routes ((n, acts.Post to) ∷ []) r'.world r'.books r'.routes
  after = (
    record {
      world = w';
      books = r.books;
      routes = g';
      owner = r.owner;
      nodes = moves.count ∙ r.nodes;
      words = moves.size ∙ r.words;
      shows = shown;
      inboxes = told;
      joined = posted_joined n to s.views r.books r.joined;
      lawful = done.0;
      lengths = (lawful_worlds_stray_nothing w' r.books g' done.0).0;
      strays = (lawful_worlds_stray_nothing w' r.books g' done.0).1;
      sources = keeps_sources w w' moves.words r.sources;
      counted = λ id v j c seat seen.
          let u = at_unmap (posted_view n to) s.views id v seat in
          let was = r.counted id u.0 j c u.1 (ap (λ (z : View). get_elem? z.seen j) u.2 ∙ (seen ∙ ap (λ z. some (z, c)) moves.size)) in
          let same = moves.claimed in omega (arith, was, same);
      parts = λ node l.
          let h = r.parts node l in record {
            id = h.id;
            view = posted_view n to h.view;
            place = h.place;
            part = posted_part n to h.part;
            seat = at_map (posted_view n to) s.views h.id h.view h.seat;
            there = at_map (posted_part n to) h.view.parts h.place h.part h.there;
            node_is = posted_same n to (λ (z : Part). z.node) (λ y z. refl) h.part ∙ h.node_is;
          };
      histories = posted_histories n to s.views r.histories;
    },
    done.1,
  )

  pub posted_beside : (r' : Rules count size (posted_table size count n to x s)) × AreTurns w r.books r.routes ((n, acts.Post to) ∷ []) r'.world r'.books r'.routes
  posted_beside =
      let slot : k ≡ n * count + to = ap (λ c. n * c + to) r.nodes in
      let word : i ≡ size + 1 + count + (n * count + to) = box_is r n to in
      let Behind : ℕ → ℕ → Type 0 = λ a b. (r' : Rules count size (record { words = set s.words a 1; homes = set s.homes b (some (Some x)); views = views' })) ×
      AreTurns w r.books r.routes ((n, acts.Post to) ∷ []) r'.world r'.books r'.routes in
      subst (Behind (size + 1 + count + (n * count + to))) slot (subst (λ a. Behind a k) word after)
