-- Close: what stands in the words and slots at the end, with the parts of all nodes, is the world that was shown, where each batch was of one message.
use Rattle.std.specs.Prelude.{◌≡◌, ◌≢◌, ◌≤◌, ◌<◌, ◌+◌, ◌*◌, ℕ, zero, suc, true, List, [], ◌∷◌, map, length, slice_index, Some, is_some, refl}
use Rattle.std.proofs.Common.{arith, ap, ◌∙◌, sym, subst, get_or, ⊎_elim}
use Rattle.std.proofs.lemmas.List.{length-map}
use Rattle.std.proofs.lemmas.List.Elements.{All-from_get_or}
use mathlib.Core.Option.{some, some-injective, some-ne-none}
use mathlib.Core.Option as maybe
use lib.ListN.{get_elem?}
use Rattle.ipcz_base.specs.Indexed.{place_at}
use Rattle.ipcz_base.specs.declared.message.Message.{Message}
use Rattle.ipcz_word.specs.Layout.{word_of_bits, bits_of}
use Rattle.ipcz_word.specs.Word.{empty_word}
use Rattle.ipcz_word.proofs.Return.{sets_return}
use Rattle.ipcz_node.specs.Node.{Node, bare_node}
use Rattle.ipcz_node.specs.Fronts.{behind}
use Rattle.ipcz_world.specs.declared.mail.Mail.{Mail}
use Rattle.ipcz_world.specs.declared.mail.Mail.TheVariants as mails
use Rattle.ipcz_world.specs.World.{World, node_at, word_at, mail_at, way}
use Rattle.ipcz_world.specs.Coding.{IsLinkNumber, IsTable}
use Rattle.ipcz_world.specs.Parts.{world_of_parts}
use Rattle.ipcz_world.specs.Routes.{hand_of}
use Rattle.ipcz_world.specs.Lawful.{IsWithinLimits}
use Rattle.ipcz_world.specs.Soundness.{HasLengths}
use Rattle.ipcz_world.specs.Turns.{hand_message, message_in_hand}
use Rattle.ipcz_world.proofs.Whole.{lists_have_lengths}
use Rattle.ipcz_rule.proofs.FromLaws.{stands_in_hand}
use Rattle.ipcz_rule.proofs.Known.{found_word}
use Rattle.ipcz_rule.specs.declared.view.View.{View}
use Rattle.ipcz_rule.specs.declared.view.Part.{Part}
use Rattle.ipcz_rule.specs.Rule.{Slot, MailAt, Spells, InParts, Joined, mailbox, puts_of, gets_of, drops_of, with_state}
use Rattle.ipcz_rule.specs.Batches.{Batch, BatchSt, Batched, MailFolds, plain_count, shown_part, with_batches}
use Rattle.ipcz_rule.proofs.BatchedLaws.{part_shown, entry_here, entry_there}
use Rattle.ipcz_rule.proofs.BatchedStart.{nothing_from}
use Rattle.ipcz_rule.proofs.QuietParts.{split}
use Rattle.ipcz_rule.specs.End.{AreAll, IsShown, view_of, states_of}

-- two lists that are read alike are the same
pub same_places : {X : Type 0} (d : X) (xs ys : List X) → length xs ≡ length ys → ((i : ℕ) → i < length xs → place_at d xs i ≡ place_at d ys i) → xs ≡ ys
unfolding place_at
same_places d [] [] l same = refl
same_places d [] (y ∷ ys) l same = absurd (omega (arith, l))
same_places d (x ∷ xs) [] l same = absurd (omega (arith, l))
same_places d (x ∷ xs) (y ∷ ys) l same =
    let here : x ≡ y = same 0 (omega arith) in
    let behind = same_places d xs ys (omega (arith, l)) (λ i b. same (suc i) (omega (arith, b))) in
    λ j. here j ∷ behind j

-- the image of an element
place-map : {X Y : Type 0} (f : X → Y) (d : Y) (xs : List X) (i : ℕ) (x : X) → get_elem? xs i ≡ some x → place_at d (map f xs) i ≡ f x
unfolding place_at
place-map f d [] i x e = absurd (some-ne-none x (sym e))
place-map f d (y ∷ xs) zero x e = ap f (some-injective y x e)
place-map f d (y ∷ xs) (suc i) x e = place-map f d xs i x e

-- an image of a number
place-images : {Y : Type 0} (f : ℕ → Y) (d : Y) (xs : List ℕ) (i : ℕ) → i < length xs → place_at d (map f xs) i ≡ f (get_or xs i 0)
unfolding place_at
place-images f d [] i l = absurd (omega (arith, l))
place-images f d (x ∷ xs) zero l = refl
place-images f d (x ∷ xs) (suc i) l = place-images f d xs i (omega (arith, l))

-- the message of a mailbox that is in hand
hand_tells : (m : Mail) (x : Message) → m ≡ mails.Hand x → hand_message m ≡ Some x
unfolding hand_message
hand_tells m x e = ap hand_message e

taken : (w : World) (to from : ℕ) (x : Message) → message_in_hand w to from ≡ Some x → hand_of w to (Some from) ≡ Some x
unfolding hand_of
taken w to from x e = e

-- within a list there is an element
pub some_inside : {X : Type 0} (xs : List X) (i : ℕ) → i < length xs → (x : X) × (get_elem? xs i ≡ some x)
some_inside [] i l = absurd (omega (arith, l))
some_inside (x ∷ xs) zero l = (x, refl)
some_inside (x ∷ xs) (suc i) l = some_inside xs i (omega (arith, l))

-- what the word of a mailbox tells where nothing is behind the batches, and nothing is left of them
full_one : (n : ℕ) (home : maybe.Option (maybe.Option Batch)) (m : ℕ) (one : maybe.Option (maybe.Option Slot)) (rest left : Batch) → MailFolds n home m one rest left → rest ≡ [] → n ≡ 1 →
    (x : Message) × (home ≡ some (some (x ∷ []))) × (m ≡ 1) × (one ≡ some (some (Some x)))
full_one zero home m one rest left h none e = cc
full_one (suc zero) home m one rest left h none e = (h.0, h.1 ∙ ap (λ (l : Batch). some (some (h.0 ∷ l))) none, h.2, h.3)
full_one (suc (suc n)) home m one rest left h none e = cc

hand_one : (n : ℕ) (home : maybe.Option (maybe.Option Batch)) (m : ℕ) (one : maybe.Option (maybe.Option Slot)) (rest left : Batch) → MailFolds n home m one rest left → left ≡ [] → n ≡ 2 → m ≡ 2
hand_one zero home m one rest left h none e = cc
hand_one (suc zero) home m one rest left h none e = cc
hand_one (suc (suc zero)) home m one rest left h none e = ⊎_elim (λ t. t.0) (λ t. let odd : t.0 ∷ rest ≡ [] = sym t.3 ∙ none in cc) h
hand_one (suc (suc (suc n))) home m one rest left h none e = cc

none_one : (n : ℕ) (home : maybe.Option (maybe.Option Batch)) (m : ℕ) (one : maybe.Option (maybe.Option Slot)) (rest left : Batch) → MailFolds n home m one rest left → n ≢ 1 → n ≢ 2 →
    (m ≢ 1) × (m ≢ 2)
none_one zero home m one rest left h a b = let e = h.1 in ((λ d. omega (arith, d, e)), (λ d. omega (arith, d, e)))
none_one (suc zero) home m one rest left h a b = absurd (a refl)
none_one (suc (suc zero)) home m one rest left h a b = absurd (b refl)
none_one (suc (suc (suc zero))) home m one rest left h a b = let e = h.0 in ((λ d. omega (arith, d, e)), (λ d. omega (arith, d, e)))
none_one (suc (suc (suc (suc n)))) home m one rest left h a b = absurd h

same_message : (x y : Message) → ◌≡◌ {A = maybe.Option (maybe.Option Slot)} (some (some (Some x))) (some (some (Some y))) → x ≡ y
same_message x y e = let f : Some x ≡ Some y = some-injective (Some x) (Some y) (some-injective (some (Some x)) (some (Some y)) e) in cc

module _ (count size : ℕ) (s : BatchSt) (r : Batched count size true s) (id : ℕ) (v : View) (at : get_elem? s.views id ≡ some v) (all : AreAll count v.parts) where
  abbrev w : World
  w = r.rules.world

  abbrev lengths : HasLengths w
  lengths = lists_have_lengths w r.rules.books r.rules.routes r.rules.lawful

  -- a part of any seat stands in the single table as it is, but for what is left of batches
  known : (j : ℕ) (u : View) (k : ℕ) (p : Part) → get_elem? s.views j ≡ some u → get_elem? u.parts k ≡ some p → (r.rules.owner p.node ≡ j) × Spells r.single.words w (with_batches [] p)
  known j u k p seat there =
      let h = part_shown r.folds j u k p seat there in
      subst (λ fs. (r.rules.owner p.node ≡ j) × Spells r.single.words w (with_batches [] (with_state (behind fs p.state) p))) (r.folds.none_behind refl p.node)
      (r.rules.shows.parts j h.view k (shown_part r.fronts p) h.seat h.there)

  -- what the part of each node says
  pub spelled : (k : ℕ) (p : Part) → get_elem? v.parts k ≡ some p → (r.rules.owner p.node ≡ id) × Spells r.single.words w (with_batches [] p)
  spelled k p e = known id v k p at e

  pub part_of : (k : ℕ) → k < count → (p : Part) × (get_elem? v.parts k ≡ some p)
  part_of k l = some_inside v.parts k (omega (arith, l, all.many))

  pub state_is : (k : ℕ) (p : Part) → get_elem? v.parts k ≡ some p → node_at w k ≡ p.state
  state_is k p e = subst (λ n. node_at w n ≡ p.state) (all.ordered k p e) (spelled k p e).1.state

  pub hand_is : (k : ℕ) (p : Part) → get_elem? v.parts k ≡ some p → hand_of w k p.state.hand ≡ p.message
  hand_is k p e = subst (λ n. hand_of w n p.state.hand ≡ p.message) (all.ordered k p e) (spelled k p e).1.message

  -- the nodes are those of the parts
  pub nodes_are : w.nodes ≡ states_of v.parts
  unfolding node_at
  nodes_are = same_places (bare_node 0 0) w.nodes (states_of v.parts)
      (lengths.nodes ∙ (r.rules.nodes ∙ (sym all.many ∙ sym (length-map v.parts (λ p. p.state)))))
      (λ i l. let t = part_of i (omega (arith, l, lengths.nodes, r.rules.nodes)) in
      state_is i t.0 t.1 ∙ sym (place-map (λ (p : Part). p.state) (bare_node 0 0) v.parts i t.0 t.1))

  -- all parts stand in this view
  its_own : (j k : ℕ) (u : View) (q : Part) → get_elem? s.views j ≡ some u → get_elem? u.parts k ≡ some q → v ≡ u
  its_own j k u q seat there =
      let told = known j u k q seat there in
      let t = part_of q.node (omega (arith, told.1.inside, r.rules.nodes)) in
      let mine : r.rules.owner q.node ≡ id = ap r.rules.owner (sym (all.ordered q.node t.0 t.1)) ∙ (spelled q.node t.0 t.1).0 in
      let same : j ≡ id = sym told.0 ∙ mine in
      some-injective v u (sym at ∙ (ap (get_elem? s.views) (sym same) ∙ seat))

  goes : {X : Type 0} (of : Part → List X) (x : X) → InParts s.views of x → InParts (view_of v.parts ∷ []) of x
  goes of x h = record {
    id = 0;
    view = view_of v.parts;
    place = h.place;
    part = h.part;
    index = h.index;
    seat = refl;
    there = ap (λ (z : View). get_elem? z.parts h.place) (its_own h.id h.place h.view h.part h.seat h.there) ∙ h.there;
    entry = h.entry;
  }

  came : {X : Type 0} (of : Part → List X) (x : X) → InParts (view_of v.parts ∷ []) of x → InParts s.views of x
  came of x h = go h.id h.seat
    where
      go : (i : ℕ) → get_elem? (view_of v.parts ∷ []) i ≡ some h.view → InParts s.views of x
      go (suc i) e = absurd (some-ne-none h.view (sym e))
      go zero e = record {
        id = id;
        view = v;
        place = h.place;
        part = h.part;
        index = h.index;
        seat = at;
        there = ap (λ (z : View). get_elem? z.parts h.place) (some-injective (view_of v.parts) h.view e) ∙ h.there;
        entry = h.entry;
      }

  -- the books are those of the parts
  pub joined_is : Joined (view_of v.parts ∷ []) r.rules.books
  joined_is = let j = r.rules.joined in record {
    put = λ e n item h. goes puts_of ((e, n), item) (entry_here r.folds puts_of (λ p. refl) ((e, n), item) (j.put e n item h));
    put_only = λ e n item h. j.put_only e n item (entry_there r.folds puts_of (λ p. refl) ((e, n), item) (came puts_of ((e, n), item) h));
    got = λ e n q h. goes gets_of ((e, n), q) (entry_here r.folds gets_of (λ p. refl) ((e, n), q) (j.got e n q h));
    got_only = λ e n q h. j.got_only e n q (entry_there r.folds gets_of (λ p. refl) ((e, n), q) (came gets_of ((e, n), q) h));
    gone = λ e n h l. goes drops_of (e, n) (entry_here r.folds drops_of (λ p. refl) (e, n) (j.gone e n h l));
    gone_only = λ e n h. j.gone_only e n (entry_there r.folds drops_of (λ p. refl) (e, n) (came drops_of (e, n) h));
  }

  -- the world was the shown one
  pub is_shown : IsShown count size v.parts w
  is_shown = record {
    nodes = nodes_are;
    hands = hand_is;
    table = s;
    rules = r;
    world_is = refl;
    id = id;
    view = v;
    seat = at;
    parts = refl;
    joined = joined_is;
  }

  -- a link word and the claim count are those of the single table
  word_same : (i : ℕ) → i ≤ size → slice_index s.words i ≡ slice_index r.single.words i
  word_same i l = r.folds.words i (omega (arith, l))

  claims_is : (claimed : ℕ) → claimed ≡ slice_index s.words size → claimed ≡ slice_index r.single.words size
  claims_is claimed is = is ∙ word_same size (omega arith)

  -- the link words, read one after the other
  module _ (bits : List ℕ) (many : length bits ≡ size) (read : (i : ℕ) → i < size → slice_index bits i ≡ slice_index s.words i) where
    bits_are : (i : ℕ) → i < size → slice_index bits i ≡ bits_of (word_at w i)
    bits_are i l = read i l ∙ (word_same i (omega (arith, l)) ∙ r.rules.shows.links i (omega (arith, l, r.rules.words)))

    pub words_are : w.words ≡ map word_of_bits bits
    unfolding word_at
    words_are = same_places empty_word w.words (map word_of_bits bits)
        (lengths.words ∙ (r.rules.words ∙ (sym many ∙ sym (length-map bits word_of_bits))))
        (λ i l. let inside : i < size = omega (arith, l, lengths.words, r.rules.words) in
        sym (place-images word_of_bits empty_word bits i (omega (arith, inside, many))
        ∙ (ap word_of_bits (bits_are i inside) ∙ sets_return (word_at w i))))

    pub is_table : IsWithinLimits count size → (claimed : ℕ) → claimed ≡ slice_index s.words size → IsTable bits claimed
    is_table limits claimed is = record {
      words = All-from_get_or IsLinkNumber bits 0 (λ i l. let inside : i < size = omega (arith, l, many) in
          subst IsLinkNumber (sym (read i inside ∙ word_same i (omega (arith, inside)))) (found_word r.single r.rules i inside));
      claimed = let few = lengths.claimed in let shown = r.rules.shows.claims in let all_words = r.rules.words in
          let same : claimed ≡ w.claimed = claims_is claimed is ∙ (ap (slice_index r.single.words) (sym all_words) ∙ shown) in omega (arith, many, same, few, all_words);
      few = omega (arith, many, limits.words);
    }

    -- the world is the one of its parts
    pub world_is : (boxes : List Mail) (claimed : ℕ) → claimed ≡ slice_index s.words size → length boxes ≡ count * count →
        ((k : ℕ) → k < count * count → place_at mails.Empty boxes k ≡ mail_at w k) →
        w ≡ world_of_parts (states_of v.parts) boxes (map word_of_bits bits) claimed
    unfolding mail_at
    world_is boxes claimed is length_is same =
        let nodes = nodes_are in
        let words = words_are in
        let claims : w.claimed ≡ claimed = sym (claims_is claimed is ∙ (ap (slice_index r.single.words) (sym r.rules.words) ∙ r.rules.shows.claims)) in
        let counts : w.count ≡ length (states_of v.parts) = r.rules.nodes ∙ (sym all.many ∙ sym (length-map v.parts (λ p. p.state))) in
        let sizes : w.size ≡ length (map word_of_bits bits) = r.rules.words ∙ (sym many ∙ sym (length-map bits word_of_bits)) in
        let square : length w.mail ≡ count * count = lengths.mail ∙ ap (λ n. n * n) r.rules.nodes in
        let boxes_are : w.mail ≡ boxes = same_places mails.Empty w.mail boxes (square ∙ sym length_is) (λ k l. sym (same k (omega (arith, l, square)))) in
        λ j. record { nodes = nodes j; words = words j; claimed = claims j; size = sizes j; count = counts j; mail = boxes_are j }

  -- what a mailbox is, by its word in the single table
  single_box : (k n : ℕ) → k < count * count → slice_index r.single.words (plain_count count size + k) ≡ n → MailAt n (get_elem? r.single.homes k) (mail_at w k)
  single_box k n l e =
      let same : mailbox w k ≡ plain_count count size + k = ap (λ m. m + 1 + w.count + k) r.rules.words ∙ ap (λ m. size + 1 + m + k) r.rules.nodes in
      let inside : k < w.count * w.count = subst (λ m. k < m * m) (sym r.rules.nodes) l in
      subst (λ m. MailAt m (get_elem? r.single.homes k) (mail_at w k)) (ap (slice_index r.single.words) same ∙ e) (r.rules.shows.mail k inside)

  -- and what that is, by its word here
  box : (k : ℕ) → k < count * count → (rest : Batch) × (left : Batch) ×
      MailFolds (slice_index s.words (plain_count count size + k)) (get_elem? s.homes k) (slice_index r.single.words (plain_count count size + k)) (get_elem? r.single.homes k) rest left ×
      (rest ≡ []) × (left ≡ [])
  box k l =
      let t = split count count k l in
      let rest : Batch = place_at [] (r.fronts t.0) t.1 in
      let left : Batch = r.left t.0 t.1 in
      let index : t.0 * count + t.1 ≡ k = let e = t.4 in omega (arith, e) in (
        rest,
        left,
        subst (λ i. MailFolds (slice_index s.words (plain_count count size + i)) (get_elem? s.homes i) (slice_index r.single.words (plain_count count size + i)) (get_elem? r.single.homes i) rest left)
            index (r.folds.mail t.0 t.1 t.2 t.3),
        ap (λ fs. place_at [] fs t.1) (r.folds.none_behind refl t.0) ∙ nothing_from t.1,
        r.folds.none_left refl t.0 t.1,
      )

  in_hand : (k : ℕ) → k < count * count → slice_index s.words (plain_count count size + k) ≡ 2 → slice_index r.single.words (plain_count count size + k) ≡ 2
  in_hand k l e = let b = box k l in hand_one _ _ _ _ b.0 b.1 b.2 b.4 e

  pub full_box : (k : ℕ) → k < count * count → slice_index s.words (size + 1 + count + k) ≡ 1 → (xs : List Batch) (slot : Batch) →
      ((y : Batch) → get_elem? s.homes k ≡ some (some y) → get_elem? xs k ≡ some y) → get_elem? xs k ≡ some slot →
      (x : Message) × (slot ≡ x ∷ []) × (mail_at w k ≡ mails.Full x)
  full_box k l e xs slot home there =
      let b = box k l in
      let f = full_one _ _ _ _ b.0 b.1 b.2 b.3 e in
      let t = single_box k 1 l f.2 in
      let same : t.0 ≡ f.0 = same_message t.0 f.0 (sym t.1 ∙ f.3) in
      (f.0, some-injective slot (f.0 ∷ []) (sym there ∙ home (f.0 ∷ []) f.1), t.2 ∙ ap (λ (x : Message). mails.Full x) same)

  -- a mailbox whose message is in the receiver's hand: the receiver's part has the message and knows the sender
  pub hand_box : (from to : ℕ) → from < count → to < count → slice_index s.words (size + 1 + count + (from * count + to)) ≡ 2 → (p : Part) → get_elem? v.parts to ≡ some p →
      (x : Message) × (p.message ≡ Some x) × (p.state.hand ≡ Some from) × (mail_at w (from * count + to) ≡ mails.Hand x)
  hand_box from to lf lt e p there =
      let inside : from * count + to < count * count = below_square from to count lf lt in
      let t = single_box (from * count + to) 2 inside (in_hand (from * count + to) inside e) in
      let here : mail_at w (way w from to) ≡ mails.Hand t.0 = ap (λ c. mail_at w (from * c + to)) r.rules.nodes ∙ t.1 in
      let seen : message_in_hand w to from ≡ Some t.0 = hand_tells (mail_at w (way w from to)) t.0 here in
      let noted : (node_at w to).hand ≡ Some from = stands_in_hand w r.rules.books r.rules.routes to from r.rules.lawful (omega (arith, lt, r.rules.nodes)) (omega (arith, lf, r.rules.nodes)) (ap is_some seen) in
      let hand : p.state.hand ≡ Some from = ap (λ (n : Node). n.hand) (sym (state_is to p there)) ∙ noted in
      (t.0, sym (hand_is to p there) ∙ (ap (hand_of w to) hand ∙ taken w to from t.0 seen), hand, t.1)
    where
      below_square : (a b c : ℕ) → a < c → b < c → a * c + b < c * c
      below_square a b c la lb = grind (arith, la, lb)

  pub empty_box : (k n : ℕ) → k < count * count → slice_index s.words (size + 1 + count + k) ≡ n → n ≢ 1 → n ≢ 2 → mail_at w k ≡ mails.Empty
  empty_box k n l e not_full not_hand =
      let b = box k l in
      let other = none_one _ _ _ _ b.0 b.1 b.2 (λ d. not_full (sym e ∙ d)) (λ d. not_hand (sym e ∙ d)) in
      go (slice_index r.single.words (plain_count count size + k)) (single_box k _ l refl) other.0 other.1
    where
      go : (n : ℕ) → MailAt n (get_elem? r.single.homes k) (mail_at w k) → n ≢ 1 → n ≢ 2 → mail_at w k ≡ mails.Empty
      go zero m a b = m.1
      go (suc zero) m a b = absurd (a refl)
      go (suc (suc zero)) m a b = absurd (b refl)
      go (suc (suc (suc zero))) m a b = m
      go (suc (suc (suc (suc n)))) m a b = absurd m

-- a slot for each mailbox
pub homes_many : (count size : ℕ) (s : BatchSt) (r : Batched count size true s) → length s.homes ≡ count * count
homes_many count size s r = r.folds.deep ∙ (r.rules.shows.deep ∙ ap (λ n. n * n) r.rules.nodes)
