-- A step of a seat: what it owes, and the rule after it.
use Rattle.std.specs.Prelude.{◌≡◌, ◌≢◌, ◌≤◌, ◌<◌, ◌+◌, ◌*◌, ℕ, zero, suc, Bool, true, false, cond, nat_eq, List, [], ◌∷◌, length, slice_index}
use Rattle.std.proofs.Common.{arith, ap, ◌∙◌, sym, subst, ⊎_elim, set}
use mathlib.Core.Option.{some, some-injective, some-ne-none}
use lib.ListN.{get_elem?}
use mathlib.Core.Logic.{dite}
use native.Mathlib.Decide.{ℕ_discrete}
use Rattle.atomic_table.proofs.Lists.{at_set, set_here, set_else}
use Rattle.ipcz_word.specs.Laws.{HasNode}
use Rattle.ipcz_word.specs.Layout.{bits_of}
use Rattle.ipcz_word.specs.Word.{Word}
use Rattle.ipcz_world.specs.World.{World, word_at, mail_at}
use Rattle.ipcz_world.specs.Books.{Books}
use Rattle.ipcz_world.specs.Routes.{Routes}
use Rattle.ipcz_world.specs.Lawful.{Lawful}
use Rattle.ipcz_world.proofs.Whole.{lawful_worlds_stray_nothing}
use Rattle.ipcz_rule.specs.declared.view.View.{View}
use Rattle.ipcz_rule.specs.declared.view.Part.{Part}
use Rattle.ipcz_rule.specs.Histories.{Histories}
use Rattle.ipcz_rule.specs.Rule.{Homes, St, mailbox, MailAt, Spells, Shows, Inboxes, Joined, HaveParts, Rules}
use Rattle.ipcz_rule.proofs.Counts.{Sees, keeps_counts}
use Rattle.ipcz_rule.proofs.Histories.{only, histories_stay}

pub at_inside : {A : Type 0} (l : List A) (i : ℕ) (a : A) → get_elem? l i ≡ some a → i < length l
at_inside [] i a e = absurd (some-ne-none a (sym e))
at_inside (x ∷ xs) zero a e = omega arith
at_inside (x ∷ xs) (suc i) a e = let h = at_inside xs i a e in omega arith

-- what a step owes that leaves these words and homes, if the part p becomes p' and the shown world w becomes w'
pub record Moves (s : St) (w w' : World) (words : List ℕ) (homes : Homes) (p p' : Part) : Type 0 where
  pub count : w'.count ≡ w.count
  pub size : w'.size ≡ w.size
  pub wide : length words ≡ length s.words
  pub deep : length homes ≡ length s.homes
  pub links : (j : ℕ) → j < w'.size → slice_index words j ≡ bits_of (word_at w' j)
  pub sources : (j : ℕ) → HasNode (word_at w' j).source
  pub claims : slice_index words w'.size ≡ w'.claimed
  pub grows : w.claimed ≤ w'.claimed
  pub mail : (k : ℕ) → k < w'.count * w'.count → MailAt (slice_index words (mailbox w' k)) (get_elem? homes k) (mail_at w' k)
  pub node : p'.node ≡ p.node
  pub own : Spells words w' p'
  pub others : (q : Part) → q.node ≢ p.node → Spells s.words w q → Spells words w' q

-- the world that is shown after such a step
pub shown : (s : St) (w w' : World) (owner : ℕ → ℕ) (words : List ℕ) (homes : Homes) (id : ℕ) (v v' : View) (p p' : Part) → Shows s w owner →
    get_elem? s.views id ≡ some v → v.parts ≡ p ∷ [] → v'.parts ≡ p' ∷ [] → Moves s w w' words homes p p' →
    Shows record { words = words; homes = homes; views = set s.views id v' } w' owner
shown s w w' owner words homes id v v' p p' r at is is' m =
    let mine : owner p.node ≡ id = (r.parts id v 0 p at (ap (λ (l : List Part). get_elem? l 0) is)).0 in record {
      wide = m.wide ∙ (r.wide ∙ sym (ap (λ n. n + 1 + w'.count + w'.count * w'.count) m.size ∙ ap (λ n. w.size + 1 + n + n * n) m.count));
      deep = m.deep ∙ (r.deep ∙ sym (ap (λ n. n * n) m.count));
      links = m.links;
      claims = m.claims;
      mail = m.mail;
      parts = λ j u k q at_j at_k. ⊎_elim
          (λ (t : (j ≡ id) × (v' ≡ u)).
          let same : p' ≡ q = only u.parts p' q k (sym (ap (λ (z : View). z.parts) t.1) ∙ is') at_k in
          subst (λ (z : Part). (owner z.node ≡ j) × Spells words w' z) same (ap owner m.node ∙ (mine ∙ sym t.0), m.own))
          (λ (t : (j ≢ id) × (get_elem? s.views j ≡ some u)).
          let was = r.parts j u k q t.1 at_k in
          (was.0, m.others q (λ e. t.0 (sym was.0 ∙ (ap owner e ∙ mine))) was.1))
          (at_set s.views id j v' u at_j);
    }

-- each node's part stays in its view, or is the one that changed
parts_stay : (views : List View) (count id : ℕ) (v v' : View) (p p' : Part) → get_elem? views id ≡ some v → v.parts ≡ p ∷ [] → v'.parts ≡ p' ∷ [] → p'.node ≡ p.node →
    HaveParts views count → HaveParts (set views id v') count
parts_stay views count id v v' p p' at is is' same all node below = let h = all node below in dite (ℕ_discrete h.id id)
    (λ e. let mine : v ≡ h.view = some-injective v h.view (sym at ∙ (ap (get_elem? views) (sym e) ∙ h.seat)) in
    let here : p ≡ h.part = only h.view.parts p h.part h.place (sym (ap (λ (z : View). z.parts) mine) ∙ is) h.there in record {
      id = id;
      view = v';
      place = 0;
      part = p';
      seat = set_here views id v' (at_inside views id v at);
      there = ap (λ (l : List Part). get_elem? l 0) is';
      node_is = same ∙ (ap (λ (z : Part). z.node) here ∙ h.node_is);
    })
    (λ far. record {
      id = h.id;
      view = h.view;
      place = h.place;
      part = h.part;
      seat = set_else views id h.id v' far ∙ h.seat;
      there = h.there;
      node_is = h.node_is;
    })

-- the rule after such a step, if the new world is lawful with the new books, and with this history
ruled : {count size : ℕ} (s : St) (r : Rules count size s) (w' : World) (b' : Books) (g' : Routes) (words : List ℕ) (homes : Homes) (id : ℕ) (v v' : View) (p p' : Part) →
    get_elem? s.views id ≡ some v → v.parts ≡ p ∷ [] → v'.parts ≡ p' ∷ [] → Sees s.words v v' → Histories (set s.views id v') → Moves s r.world w' words homes p p' →
    Inboxes words (set s.views id v') w' → Joined (set s.views id v') b' → Lawful w' b' g' →
    Rules count size record { words = words; homes = homes; views = set s.views id v' }
ruled {count} s r w' b' g' words homes id v v' p p' at is is' sight histories m inboxes joined lawful = record {
  world = w';
  books = b';
  routes = g';
  owner = r.owner;
  nodes = m.count ∙ r.nodes;
  words = m.size ∙ r.words;
  shows = shown s r.world w' r.owner words homes id v v' p p' r.shows at is is' m;
  inboxes = inboxes;
  joined = joined;
  lawful = lawful;
  lengths = (lawful_worlds_stray_nothing w' b' g' lawful).0;
  strays = (lawful_worlds_stray_nothing w' b' g' lawful).1;
  sources = m.sources;
  counted = keeps_counts s.views s.words r.world w' id v v' at sight m.size m.grows r.shows.claims r.counted;
  parts = parts_stay s.views count id v v' p p' at is is' m.node r.parts;
  histories = histories;
}

-- the rule after it, with what is known of the world that is shown then
pub ruled_by : {count size : ℕ} (s : St) (r : Rules count size s) (w' : World) (b' : Books) (g' : Routes) (words : List ℕ) (homes : Homes) (id : ℕ) (v v' : View) (p p' : Part) →
    get_elem? s.views id ≡ some v → v.parts ≡ p ∷ [] → v'.parts ≡ p' ∷ [] → Sees s.words v v' → Histories (set s.views id v') → Moves s r.world w' words homes p p' →
    Inboxes words (set s.views id v') w' → Joined (set s.views id v') b' → Lawful w' b' g' → (G : World → Books → Routes → Type 0) → G w' b' g' →
    (r' : Rules count size record { words = words; homes = homes; views = set s.views id v' }) × G r'.world r'.books r'.routes
unfolding ruled
ruled_by s r w' b' g' words homes id v v' p p' at is is' sight histories m inboxes joined lawful G known =
    (ruled s r w' b' g' words homes id v v' p p' at is is' sight histories m inboxes joined lawful, known)

-- the same if nothing is written into the history
pub ruled_with : {count size : ℕ} (s : St) (r : Rules count size s) (w' : World) (b' : Books) (g' : Routes) (words : List ℕ) (homes : Homes) (id : ℕ) (v v' : View) (p p' : Part) →
    get_elem? s.views id ≡ some v → v.parts ≡ p ∷ [] → v'.parts ≡ p' ∷ [] → Sees s.words v v' → (p'.history ≡ p.history) × (v'.caller ≡ v.caller) → Moves s r.world w' words homes p p' →
    Inboxes words (set s.views id v') w' → Joined (set s.views id v') b' → Lawful w' b' g' → (G : World → Books → Routes → Type 0) → G w' b' g' →
    (r' : Rules count size record { words = words; homes = homes; views = set s.views id v' }) × G r'.world r'.books r'.routes
ruled_with s r w' b' g' words homes id v v' p p' at is is' sight same m =
    ruled_by s r w' b' g' words homes id v v' p p' at is is' sight (histories_stay s.views id v v' p p' at is is' m.node same.0 same.1 r.histories) m

-- if the words stay, so do their sources
pub keeps_sources : (w w' : World) → ((i : ℕ) → word_at w' i ≡ word_at w i) → ((i : ℕ) → HasNode (word_at w i).source) → (i : ℕ) → HasNode (word_at w' i).source
keeps_sources w w' same named i = subst (λ (x : Word). HasNode x.source) (sym (same i)) (named i)

-- and so do those of the others if one word names a node, or none
pub named_beside : (i j : ℕ) (x y : Word) → HasNode x.source → HasNode y.source → HasNode (cond (nat_eq j i) x y).source
named_beside i j x y new old = go (nat_eq j i)
  where
    go : (b : Bool) → HasNode (cond b x y).source
    go true = new
    go false = old

-- the own part says of the world what the rule says
pub spelled : {count size : ℕ} (s : St) (r : Rules count size s) (id : ℕ) (v : View) (p : Part) → get_elem? s.views id ≡ some v → v.parts ≡ p ∷ [] → Spells s.words r.world p
spelled s r id v p at is = (r.shows.parts id v 0 p at (ap (λ (l : List Part). get_elem? l 0) is)).1

-- the one rule shows what the other shows
abbrev pub Stays : {count size : ℕ} {s t : St} → Rules count size s → Rules count size t → Type 0
Stays r r' = (r'.world ≡ r.world) × (r'.books ≡ r.books) × (r'.routes ≡ r.routes)

pub stays_on : {count size : ℕ} {s t u : St} (r : Rules count size s) (r' : Rules count size t) (r'' : Rules count size u) → Stays r r' → Stays r' r'' → Stays r r''
stays_on r r' r'' a b = (b.0 ∙ a.0, b.1 ∙ a.1, b.2 ∙ a.2)
