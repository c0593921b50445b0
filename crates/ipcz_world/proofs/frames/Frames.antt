-- What each way to read the world finds after each way to change it: one equation for each of both.
use Rattle.std.specs.Prelude.{◌≡◌, ◌≢◌, ◌⊎◌, ℕ, Bool, true, false, cond, ◌&&◌, nat_eq, Some, None, refl}
use Rattle.std.specs.Cmp.{nat_cmp_total}
use Rattle.std.specs.FinMap.{get, insert, remove, get-insert, get-remove}
use Rattle.std.proofs.Common.{arith, ap, sym, ◌∙◌, inl, inr}
use Rattle.std.proofs.lemmas.Option.{same_Some}
use Rattle.std.proofs.lemmas.Bool.Decides.{nat_tests}
use Rattle.ipcz_base.proofs.Indexed.{place_at-put_place}
use Rattle.ipcz_world.proofs.Vocabulary.{Word, empty_word, Router, Node, bare_node, with_router, Empty, World, Key, same_key, node_at, word_at}
use Rattle.ipcz_world.proofs.Vocabulary.{mail_at, router_at, set_node, set_word, set_claimed, set_mail, set_router, without_router, Mail}
use Rattle.ipcz_world.proofs.facts.Updates.{remove_router}

-- the nodes, after a node was changed
pub node-set_node : (w : World) (n : ℕ) (x : Node) (j : ℕ) → node_at (set_node w n x) j ≡ cond (nat_eq j n) x (node_at w j)
unfolding node_at set_node
node-set_node w n x j = place_at-put_place (bare_node 0 0) w.nodes n x j

-- the nodes, after a word was changed
pub node-set_word : (w : World) (i : ℕ) (x : Word) (j : ℕ) → node_at (set_word w i x) j ≡ node_at w j
unfolding node_at set_word
node-set_word w i x j = refl

-- the nodes, after the claim count was changed
pub node-set_claimed : (w : World) (i : ℕ) (j : ℕ) → node_at (set_claimed w i) j ≡ node_at w j
unfolding node_at set_claimed
node-set_claimed w i j = refl

-- the nodes, after a mailbox was changed
pub node-set_mail : (w : World) (k : ℕ) (x : Mail) (j : ℕ) → node_at (set_mail w k x) j ≡ node_at w j
unfolding node_at set_mail
node-set_mail w k x j = refl

-- the words, after a node was changed
pub word-set_node : (w : World) (n : ℕ) (x : Node) (j : ℕ) → word_at (set_node w n x) j ≡ word_at w j
unfolding word_at set_node
word-set_node w n x j = refl

-- the words, after a word was changed
pub word-set_word : (w : World) (i : ℕ) (x : Word) (j : ℕ) → word_at (set_word w i x) j ≡ cond (nat_eq j i) x (word_at w j)
unfolding word_at set_word
word-set_word w i x j = place_at-put_place empty_word w.words i x j

-- the words, after the claim count was changed
pub word-set_claimed : (w : World) (i : ℕ) (j : ℕ) → word_at (set_claimed w i) j ≡ word_at w j
unfolding word_at set_claimed
word-set_claimed w i j = refl

-- the words, after a mailbox was changed
pub word-set_mail : (w : World) (k : ℕ) (x : Mail) (j : ℕ) → word_at (set_mail w k x) j ≡ word_at w j
unfolding word_at set_mail
word-set_mail w k x j = refl

-- the mailboxes, after a node was changed
pub mail-set_node : (w : World) (n : ℕ) (x : Node) (j : ℕ) → mail_at (set_node w n x) j ≡ mail_at w j
unfolding mail_at set_node
mail-set_node w n x j = refl

-- the mailboxes, after a word was changed
pub mail-set_word : (w : World) (i : ℕ) (x : Word) (j : ℕ) → mail_at (set_word w i x) j ≡ mail_at w j
unfolding mail_at set_word
mail-set_word w i x j = refl

-- the mailboxes, after the claim count was changed
pub mail-set_claimed : (w : World) (i : ℕ) (j : ℕ) → mail_at (set_claimed w i) j ≡ mail_at w j
unfolding mail_at set_claimed
mail-set_claimed w i j = refl

-- the mailboxes, after a mailbox was changed
pub mail-set_mail : (w : World) (k : ℕ) (x : Mail) (j : ℕ) → mail_at (set_mail w k x) j ≡ cond (nat_eq j k) x (mail_at w j)
unfolding mail_at set_mail
mail-set_mail w k x j = place_at-put_place Empty w.mail k x j

-- the claim count, after a node was changed
pub claimed-set_node : (w : World) (n : ℕ) (x : Node) → (set_node w n x).claimed ≡ w.claimed
unfolding set_node
claimed-set_node w n x = refl

-- the claim count, after a word was changed
pub claimed-set_word : (w : World) (i : ℕ) (x : Word) → (set_word w i x).claimed ≡ w.claimed
unfolding set_word
claimed-set_word w i x = refl

-- the claim count, after the claim count was changed
pub claimed-set_claimed : (w : World) (i : ℕ) → (set_claimed w i).claimed ≡ i
unfolding set_claimed
claimed-set_claimed w i = refl

-- the claim count, after a mailbox was changed
pub claimed-set_mail : (w : World) (k : ℕ) (x : Mail) → (set_mail w k x).claimed ≡ w.claimed
unfolding set_mail
claimed-set_mail w k x = refl

-- how many words there are, after a node was changed
pub size-set_node : (w : World) (n : ℕ) (x : Node) → (set_node w n x).size ≡ w.size
unfolding set_node
size-set_node w n x = refl

-- how many words there are, after a word was changed
pub size-set_word : (w : World) (i : ℕ) (x : Word) → (set_word w i x).size ≡ w.size
unfolding set_word
size-set_word w i x = refl

-- how many words there are, after the claim count was changed
pub size-set_claimed : (w : World) (i : ℕ) → (set_claimed w i).size ≡ w.size
unfolding set_claimed
size-set_claimed w i = refl

-- how many words there are, after a mailbox was changed
pub size-set_mail : (w : World) (k : ℕ) (x : Mail) → (set_mail w k x).size ≡ w.size
unfolding set_mail
size-set_mail w k x = refl

-- how many nodes there are, after a node was changed
pub count-set_node : (w : World) (n : ℕ) (x : Node) → (set_node w n x).count ≡ w.count
unfolding set_node
count-set_node w n x = refl

-- how many nodes there are, after a word was changed
pub count-set_word : (w : World) (i : ℕ) (x : Word) → (set_word w i x).count ≡ w.count
unfolding set_word
count-set_word w i x = refl

-- how many nodes there are, after the claim count was changed
pub count-set_claimed : (w : World) (i : ℕ) → (set_claimed w i).count ≡ w.count
unfolding set_claimed
count-set_claimed w i = refl

-- how many nodes there are, after a mailbox was changed
pub count-set_mail : (w : World) (k : ℕ) (x : Mail) → (set_mail w k x).count ≡ w.count
unfolding set_mail
count-set_mail w k x = refl

-- a router of one of two nodes
get_cond : (b : Bool) (x y : Node) (s : ℕ) → get (cond b x y).routers s ≡ cond b (get x.routers s) (get y.routers s)
get_cond true x y s = refl
get_cond false x y s = refl

-- the routers, after a node was changed
pub router-set_node : (w : World) (n : ℕ) (x : Node) (q : Key) → router_at (set_node w n x) q ≡ cond (nat_eq q.node n)
    (get x.routers q.serial) (router_at w q)
unfolding router_at
router-set_node w n x q = ap (λ y. get y.routers q.serial) (node-set_node w n x q.node) ∙ get_cond (nat_eq q.node n) x (node_at w q.node)
    q.serial

-- the routers, after a word was changed
pub router-set_word : (w : World) (i : ℕ) (x : Word) (q : Key) → router_at (set_word w i x) q ≡ router_at w q
unfolding router_at node_at set_word
router-set_word w i x q = refl

-- the routers, after the claim count was changed
pub router-set_claimed : (w : World) (i : ℕ) (q : Key) → router_at (set_claimed w i) q ≡ router_at w q
unfolding router_at node_at set_claimed
router-set_claimed w i q = refl

-- the routers, after a mailbox was changed
pub router-set_mail : (w : World) (k : ℕ) (x : Mail) (q : Key) → router_at (set_mail w k x) q ≡ router_at w q
unfolding router_at node_at set_mail
router-set_mail w k x q = refl

-- a key is the same as itself
pub same_key-itself : (k : Key) → same_key k k ≡ true
unfolding same_key
same_key-itself k = grind arith

-- keys that pass the test are the same
pub same_key-apart : (j k : Key) → same_key j k ≡ true → j ≡ k
unfolding same_key
same_key-apart j k e = let n : j.node ≡ k.node = grind (arith, e) in let s : j.serial ≡ k.serial = grind (arith, e) in
    λ i. record { node = n i; serial = s i }

-- each test of keys, with what it tells
pub same_key_tells : (j k : Key) → ((same_key j k ≡ true) × (j ≡ k)) ⊎ ((same_key j k ≡ false) × (j ≢ k))
same_key_tells j k = go (same_key j k) refl
  where
    go : (b : Bool) → same_key j k ≡ b → ((same_key j k ≡ true) × (j ≡ k)) ⊎ ((same_key j k ≡ false) × (j ≢ k))
    go true e = inl (e, same_key-apart j k e)
    go false e = inr (e, λ h. grind (arith, e, h, same_key-itself k))

-- a router after that of one key has become another: it is that one, or it stands under another key as before
abbrev pub OneOrBefore : World → Key → Router → Key → Router → Type 0
OneOrBefore w k x q t = ((q ≡ k) × (x ≡ t)) ⊎ ((same_key q k ≡ false) × (router_at w q ≡ Some t))

pub one_or_before : (w v : World) (k : Key) (x : Router) → ((q : Key) → router_at v q ≡ cond (same_key q k) (Some x) (router_at w q)) →
    (q : Key) (t : Router) → router_at v q ≡ Some t → OneOrBefore w k x q t
one_or_before w v k x routers q t e = go (same_key_tells q k)
  where
    go : ((same_key q k ≡ true) × (q ≡ k)) ⊎ ((same_key q k ≡ false) × (q ≢ k)) → OneOrBefore w k x q t
    go (inl m) = inl (m.1, same_Some x t (sym (rw m.0 at (routers q)) ∙ e))
    go (inr m) = inr (m.0, sym (rw m.0 at (routers q)) ∙ e)

-- the routers, after a router was changed or added
pub router-set_router : (w : World) (k : Key) (r : Router) (q : Key) →
    router_at (set_router w k r) q ≡ cond (same_key q k) (Some r) (router_at w q)
unfolding same_key router_at
router-set_router w k r q = router-set_node w k.node (with_router (node_at w k.node) k.serial r) q ∙ go (nat_eq q.node k.node) refl
  where
    go : (b : Bool) → nat_eq q.node k.node ≡ b →
        cond b (get (insert (node_at w k.node).routers k.serial r) q.serial) (get (node_at w q.node).routers q.serial) ≡ cond
        (b && nat_eq q.serial k.serial) (Some r) (get (node_at w q.node).routers q.serial)
    go true e = grind (arith, e, get-insert nat_cmp_total (node_at w k.node).routers k.serial r q.serial, nat_tests)
    go false e = refl

-- the routers, after a router left
pub router-remove_router : (w : World) (k : Key) (q : Key) → router_at (remove_router w k) q ≡ cond (same_key q k) None (router_at w q)
unfolding same_key router_at
router-remove_router w k q = router-set_node w k.node (without_router (node_at w k.node) k.serial) q ∙ go (nat_eq q.node k.node) refl
  where
    go : (b : Bool) → nat_eq q.node k.node ≡ b →
        cond b (get (remove (node_at w k.node).routers k.serial) q.serial) (get (node_at w q.node).routers q.serial) ≡ cond
        (b && nat_eq q.serial k.serial) None (get (node_at w q.node).routers q.serial)
    go true e = grind (arith, e, get-remove nat_cmp_total (node_at w k.node).routers k.serial q.serial, nat_tests)
    go false e = refl

-- what each way to read the world finds after each way to change it
pub ruleset frames = (
  node-set_node,
  node-set_word,
  node-set_claimed,
  node-set_mail,
  word-set_node,
  word-set_word,
  word-set_claimed,
  word-set_mail,
  mail-set_node,
  mail-set_word,
  mail-set_claimed,
  mail-set_mail,
  claimed-set_node,
  claimed-set_word,
  claimed-set_claimed,
  claimed-set_mail,
  size-set_node,
  size-set_word,
  size-set_claimed,
  size-set_mail,
  count-set_node,
  count-set_word,
  count-set_claimed,
  count-set_mail,
  router-set_node,
  router-set_word,
  router-set_claimed,
  router-set_mail,
  router-set_router,
  router-remove_router,
)
