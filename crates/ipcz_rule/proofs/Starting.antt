-- The table at the start shows the world at the start, which is lawful with empty books.
use Rattle.std.specs.Prelude.{◌≡◌, ◌<◌, ◌+◌, ◌-◌, ◌*◌, ℕ, zero, suc, Bool, true, false, nat_eq, if◌then◌else◌, List, [], ◌∷◌, ◌++◌, map, length, replicate, slice_index, Some, None, refl}
use Rattle.std.proofs.Common.{arith, ap, ◌∙◌, sym, subst, get_or}
use Rattle.std.proofs.lemmas.List.{length-append, length-replicate, length-map}
use mathlib.Core.Option.{some, some-injective, some-ne-none}
use lib.ListN.{get_elem?}
use Rattle.atomic_table.specs.Table.{opening}
use Rattle.ipcz_base.specs.Indexed.{place_at}
use Rattle.ipcz_base.specs.declared.side.Side.TheVariants.{A, B}
use Rattle.ipcz_word.specs.Laws.{HasNode}
use Rattle.ipcz_word.specs.Layout.{source_bits, sets_bits, bits_of}
use Rattle.ipcz_word.specs.SideSets as sides
use Rattle.ipcz_word.specs.Word.{empty_word, open_word}
use Rattle.ipcz_node.specs.Node.{Node, bare_node, add_end}
use Rattle.ipcz_node.specs.FirstPairs.{first_pairs, add_pair, add_pairs, new_node}
use Rattle.ipcz_world.specs.declared.mail.Mail.TheVariants as mails
use Rattle.ipcz_world.specs.World.{World, node_at, word_at, mail_at, way, numbers_from, new_nodes, new_world}
use Rattle.ipcz_world.specs.Books.{no_books}
use Rattle.ipcz_world.specs.Routes.{first_routes, hand_of}
use Rattle.ipcz_world.specs.Lawful.{IsWithinLimits, Lawful}
use Rattle.ipcz_world.specs.Soundness.{IsSound}
use Rattle.ipcz_world.proofs.Whole.{world_starts_lawful, lawful_worlds_stray_nothing, nodes_are_sound}
use Rattle.ipcz_rule.specs.declared.view.View.{View}
use Rattle.ipcz_rule.specs.declared.view.Part.{Part}
use Rattle.ipcz_rule.specs.declared.history.CallerView.{CallerView}
use Rattle.ipcz_rule.proofs.Inboxes.{has_not}
use Rattle.ipcz_rule.proofs.Histories.{no_caller}
use Rattle.ipcz_rule.specs.Rule.{Slot, MailAt, Spells, InParts, Joined, Rules, puts_of, gets_of, drops_of}
use Rattle.ipcz_rule.specs.LastingStart.{ShowsStart}
use Rattle.ipcz_rule.specs.Start.{opening_words, opening_part, opening_parts, opening_view, no_messages}

-- a number of a list that is read behind another list
pub read-behind : (xs ys : List ℕ) (n i : ℕ) → length xs ≡ n → get_or (xs ++ ys) (n + i) 0 ≡ get_or ys i 0
read-behind [] ys zero i l = let e : zero + i ≡ i = omega arith in ap (λ m. get_or ys m 0) e
read-behind [] ys (suc n) i l = absurd (omega (arith, l))
read-behind (x ∷ xs) ys zero i l = absurd (omega (arith, l))
read-behind (x ∷ xs) ys (suc n) i l = let e : suc n + i ≡ suc (n + i) = omega arith in
    ap (λ m. get_or (x ∷ (xs ++ ys)) m 0) e ∙ read-behind xs ys n i (omega (arith, l))

read-zeros : (n i : ℕ) → slice_index (replicate n 0) i ≡ 0
read-zeros zero i = refl
read-zeros (suc n) zero = refl
read-zeros (suc n) (suc i) = read-zeros n i

open_bits : bits_of open_word ≡ 3
unfolding bits_of sets_bits source_bits open_word sides.has sides.both sides.none
open_bits = refl

empty_bits : bits_of empty_word ≡ 0
unfolding bits_of sets_bits source_bits empty_word sides.has sides.none
empty_bits = refl

-- the empty words are read as 0, whatever lies behind them
empty_links : (r : ℕ) (ys : List ℕ) (i : ℕ) → i < r → get_or (replicate r 0 ++ ys) i 0 ≡ bits_of (place_at empty_word (replicate r empty_word) i)
unfolding place_at
empty_links zero ys i l = absurd (omega (arith, l))
empty_links (suc r) ys zero l = sym empty_bits
empty_links (suc r) ys (suc i) l = empty_links r ys i (omega (arith, l))

-- the link words are those of the world
links_are : (p r : ℕ) (ys : List ℕ) (i : ℕ) → i < p + r →
    get_or (replicate p 3 ++ (replicate r 0 ++ ys)) i 0 ≡ bits_of (place_at empty_word (replicate p open_word ++ replicate r empty_word) i)
unfolding place_at
links_are zero r ys i l = empty_links r ys i (omega (arith, l))
links_are (suc p) r ys zero l = sym open_bits
links_are (suc p) r ys (suc i) l = links_are p r ys i (omega (arith, l))

-- they name no source
empty_named : (r i : ℕ) → HasNode (place_at empty_word (replicate r empty_word) i).source
unfolding place_at empty_word
empty_named zero i = tt
empty_named (suc r) zero = tt
empty_named (suc r) (suc i) = empty_named r i

links_named : (p r i : ℕ) → HasNode (place_at empty_word (replicate p open_word ++ replicate r empty_word) i).source
unfolding place_at open_word
links_named zero r i = empty_named r i
links_named (suc p) r zero = tt
links_named (suc p) r (suc i) = links_named p r i

-- the nodes of the world, by number
nodes_are : (count i left n : ℕ) → n < left → place_at (bare_node 0 0) (new_nodes count (numbers_from i left)) n ≡ new_node (i + n) count
unfolding place_at
nodes_are count i zero n l = absurd (omega (arith, l))
nodes_are count i (suc left) zero l = let e : i ≡ i + zero = omega arith in ap (λ j. new_node j count) e
nodes_are count i (suc left) (suc n) l = let e : (i + 1) + n ≡ i + suc n = omega arith in
    nodes_are count (i + 1) left n (omega (arith, l)) ∙ ap (λ j. new_node j count) e

mails_are : (n k : ℕ) → place_at mails.Empty (replicate n mails.Empty) k ≡ mails.Empty
unfolding place_at
mails_are zero k = refl
mails_are (suc n) zero = refl
mails_are (suc n) (suc k) = mails_are n k

homes_are : (n k : ℕ) → k < n → get_elem? (map some (no_messages n)) k ≡ some (some None)
homes_are zero k l = absurd (omega (arith, l))
homes_are (suc n) zero l = refl
homes_are (suc n) (suc k) l = homes_are n k (omega (arith, l))

-- a part of those at the start
pub parts_are : (count i left j : ℕ) (p : Part) → get_elem? (opening_parts count i left) j ≡ some p → (j < left) × (opening_part count (i + j) ≡ p)
parts_are count i zero j p e = absurd (some-ne-none p (sym e))
parts_are count i (suc left) zero p e = let same : i + zero ≡ i = omega arith in
    (omega arith, ap (opening_part count) same ∙ some-injective (opening_part count i) p e)
parts_are count i (suc left) (suc j) p e = let t = parts_are count (i + 1) left j p e in let same : i + suc j ≡ (i + 1) + j = omega arith in
    (omega (arith, t.0), ap (opening_part count) same ∙ t.1)

pub part_there : (count i left j : ℕ) → j < left → get_elem? (opening_parts count i left) j ≡ some (opening_part count (i + j))
part_there count i zero j l = absurd (omega (arith, l))
part_there count i (suc left) zero l = let same : i ≡ i + zero = omega arith in ap (λ n. some (opening_part count n)) same
part_there count i (suc left) (suc j) l = let same : (i + 1) + j ≡ i + suc j = omega arith in
    part_there count (i + 1) left j (omega (arith, l)) ∙ ap (λ n. some (opening_part count n)) same

-- new ends leave the hand as it is
pair_hand : (n : Node) (pair : ℕ) (p : ℕ × ℕ) → (add_pair n pair p).hand ≡ n.hand
pair_hand n pair p = go (nat_eq p.0 n.number) (nat_eq p.1 n.number)
  where
    go : (c d : Bool) → (if c then add_end n pair A p.1 else if d then add_end n pair B p.0 else n).hand ≡ n.hand
    go true d = refl
    go false true = refl
    go false false = refl

pairs_hand : (n : Node) (pair : ℕ) (ps : List (ℕ × ℕ)) → (add_pairs n pair ps).hand ≡ n.hand
pairs_hand n pair [] = refl
pairs_hand n pair (p ∷ ps) = pairs_hand (add_pair n pair p) (pair + 1) ps ∙ pair_hand n pair p

pub new_hand : (n count : ℕ) → (new_node n count).hand ≡ None
unfolding new_node
new_hand n count = pairs_hand (bare_node n count) 0 (first_pairs count)

module _ (count size : ℕ) (limits : IsWithinLimits count size) where
  abbrev pairs : ℕ
  pairs = length (first_pairs count)

  abbrev w : World
  w = new_world count size

  abbrev words : List ℕ
  words = opening_words count size

  abbrev behind : List ℕ
  behind = replicate (count + count * count) 0

  -- the words behind the link words
  behind_links : (i : ℕ) → get_or words (size + i) 0 ≡ get_or (pairs ∷ behind) i 0
  behind_links i =
      let split : size + i ≡ pairs + ((size - pairs) + i) = omega (arith, limits.pairs) in
      ap (λ n. get_or words n 0) split
      ∙ (read-behind (replicate pairs 3) (replicate (size - pairs) 0 ++ (pairs ∷ behind)) pairs ((size - pairs) + i) (length-replicate {A = ℕ} pairs 3)
      ∙ read-behind (replicate (size - pairs) 0) (pairs ∷ behind) (size - pairs) i (length-replicate {A = ℕ} (size - pairs) 0))

  pub mail_zero : (k : ℕ) → get_or words (size + 1 + count + k) 0 ≡ 0
  mail_zero k = let e : size + 1 + count + k ≡ size + suc (count + k) = omega arith in
      ap (λ n. get_or words n 0) e ∙ (behind_links (suc (count + k)) ∙ read-zeros (count + count * count) (count + k))

  wide : length words ≡ size + 1 + count + count * count
  wide =
      let a = length-append {A = ℕ} (replicate pairs 3) (replicate (size - pairs) 0 ++ (pairs ∷ behind)) in
      let b = length-append {A = ℕ} (replicate (size - pairs) 0) (pairs ∷ behind) in
      let c = length-replicate {A = ℕ} pairs 3 in
      let d = length-replicate {A = ℕ} (size - pairs) 0 in
      let e = length-replicate {A = ℕ} (count + count * count) 0 in
      omega (arith, a, b, c, d, e, limits.pairs)

  spells : (n : ℕ) → n < count → Spells words w (opening_part count n)
  unfolding node_at new_world hand_of
  spells n l = record {
    inside = l;
    state = let e : 0 + n ≡ n = omega arith in nodes_are count 0 count n l ∙ ap (λ j. new_node j count) e;
    message = ap (hand_of w n) (new_hand n count);
    probed = λ to lt. ap (λ x. nat_eq x 3) (sym (mail_zero (way w n to)));
  }

  nothing_in : {X : Type 0} (of : Part → List X) → ((n : ℕ) → of (opening_part count n) ≡ []) → (x : X) → InParts (opening_view count ∷ []) of x → ⊥
  nothing_in {X = X} of bare x h = go h.id h.seat
    where
      go : (id : ℕ) → get_elem? (opening_view count ∷ []) id ≡ some h.view → ⊥
      go (suc id) e = some-ne-none h.view (sym e)
      go zero e = let there = parts_are count 0 count h.place h.part (ap (λ (v : View). get_elem? v.parts h.place) (some-injective (opening_view count) h.view e) ∙ h.there) in
          some-ne-none x (sym (ap (λ (l : List X). get_elem? l h.index) (sym (bare (0 + h.place)) ∙ ap of there.1) ∙ h.entry))

  joined : Joined (opening_view count ∷ []) no_books
  joined = record {
    put = λ e n item h. absurd (grind (arith, h));
    put_only = λ e n item h. absurd (nothing_in puts_of (λ n. refl) _ h);
    got = λ e n p h. absurd (grind (arith, h));
    got_only = λ e n p h. absurd (nothing_in gets_of (λ n. refl) _ h);
    gone = λ e n h l. absurd (omega (arith, l));
    gone_only = λ e n h. absurd (nothing_in drops_of (λ n. refl) _ h);
  }

  all_spell : (id : ℕ) (v : View) (j : ℕ) (p : Part) → get_elem? (opening_view count ∷ []) id ≡ some v → get_elem? v.parts j ≡ some p → (0 ≡ id) × Spells words w p
  all_spell (suc id) v j p at there = absurd (some-ne-none v (sym at))
  all_spell zero v j p at there =
      let t = parts_are count 0 count j p (ap (λ (z : View). get_elem? z.parts j) (some-injective (opening_view count) v at) ∙ there) in
      let same : j ≡ 0 + j = omega arith in
      (refl, subst (Spells words w) (ap (opening_part count) same ∙ t.1) (spells j t.0))

  mail_there : (k : ℕ) → k < count * count → MailAt (slice_index words (size + 1 + count + k)) (get_elem? (map some (no_messages (count * count))) k) (mail_at w k)
  unfolding mail_at new_world
  mail_there k l = subst (λ n. MailAt n (get_elem? (map some (no_messages (count * count))) k) (mail_at w k)) (sym (mail_zero k))
      (homes_are (count * count) k l, mails_are (count * count) k)

  links : (i : ℕ) → i < size → slice_index words i ≡ bits_of (word_at w i)
  unfolding word_at new_world
  links i l = links_are pairs (size - pairs) (pairs ∷ behind) i (omega (arith, l, limits.pairs))

  sources : (i : ℕ) → HasNode (word_at w i).source
  unfolding word_at new_world
  sources i = links_named pairs (size - pairs) i

  claims : slice_index words size ≡ pairs
  claims = let e : size ≡ size + 0 = omega arith in ap (λ n. get_or words n 0) e ∙ behind_links 0

  none_announced : (id : ℕ) (v : View) (to : ℕ) → get_elem? (opening_view count ∷ []) id ≡ some v → v.announced ≡ Some to → ⊥
  none_announced zero v to at says = has_not (opening_view count) v to refl (some-injective (opening_view count) v at) says
  none_announced (suc id) v to at says = some-ne-none v (sym at)

  -- the rule holds of the table at the start
  pub opens : Rules count size (opening words (no_messages (count * count)) (opening_view count))
  unfolding new_world
  opens = record {
    world = w;
    books = no_books;
    routes = first_routes count;
    owner = λ n. 0;
    nodes = refl;
    words = refl;
    shows = record {
      wide = wide;
      deep = length-map (no_messages (count * count)) some ∙ length-replicate {A = Slot} (count * count) None;
      links = links;
      claims = claims;
      mail = mail_there;
      parts = all_spell;
    };
    inboxes = record {
      full = λ a b la lb e. absurd (let z = mail_zero (way w a b) in omega (arith, z, e));
      announced = λ id v j p to at there says. absurd (none_announced id v to at says);
    };
    joined = joined;
    lawful = law;
    lengths = (lawful_worlds_stray_nothing w no_books (first_routes count) law).0;
    strays = (lawful_worlds_stray_nothing w no_books (first_routes count) law).1;
    sources = sources;
    counted = λ id v k n at there. absurd (nothing_seen id v k n at there);
    parts = λ node below. record {
      id = 0;
      view = opening_view count;
      place = node;
      part = opening_part count (0 + node);
      seat = refl;
      there = part_there count 0 count node below;
      node_is = omega arith;
    };
    histories = record {
      log = [];
      seat_of = λ n. 0;
      parts = λ id v j p at there. nothing_called id v j p at there;
      callers = λ id v c at has. absurd (nobody_calls id v c at has);
      begun = λ k e there. absurd (some-ne-none e (sym there));
    };
  }
    where
      nothing_seen : (id : ℕ) (v : View) (k n : ℕ) → get_elem? (opening_view count ∷ []) id ≡ some v → get_elem? v.seen k ≡ some (size, n) → ⊥
      nothing_seen (suc id) v k n at there = some-ne-none v (sym at)
      nothing_seen zero v k n at there = some-ne-none (size, n) (sym (ap (λ (z : View). get_elem? z.seen k) (some-injective (opening_view count) v at) ∙ there))

      nothing_called : (id : ℕ) (v : View) (j : ℕ) (p : Part) → get_elem? (opening_view count ∷ []) id ≡ some v → get_elem? v.parts j ≡ some p → p.history ≡ []
      nothing_called (suc id) v j p at there = absurd (some-ne-none v (sym at))
      nothing_called zero v j p at there =
          let t = parts_are count 0 count j p (ap (λ (z : View). get_elem? z.parts j) (some-injective (opening_view count) v at) ∙ there) in
          sym (ap (λ (z : Part). z.history) t.1)

      nobody_calls : (id : ℕ) (v : View) (c : CallerView) → get_elem? (opening_view count ∷ []) id ≡ some v → v.caller ≡ Some c → ⊥
      nobody_calls (suc id) v c at has = some-ne-none v (sym at)
      nobody_calls zero v c at has = no_caller (opening_view count) v c refl (some-injective (opening_view count) v at) has

      law : Lawful (new_world count size) no_books (first_routes count)
      law = world_starts_lawful count size limits

  -- it shows the world at the start
  pub opens_shows : ShowsStart count size (opening words (no_messages (count * count)) (opening_view count), opens)
  unfolding opens
  opens_shows = record { world = refl; books = refl; routes = refl }

-- each node at the start is sound
pub starts_sound : (count size : ℕ) → IsWithinLimits count size → (n : ℕ) → n < count → IsSound count size n (new_node n count)
unfolding new_world node_at
starts_sound count size limits n l =
    let law = world_starts_lawful count size limits in
    let e : 0 + n ≡ n = omega arith in
    subst (IsSound count size n) (nodes_are count 0 count n l ∙ ap (λ j. new_node j count) e)
    (nodes_are_sound (new_world count size) no_books (first_routes count) n law l)
