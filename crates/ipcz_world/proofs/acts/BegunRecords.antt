-- The records after a bypass has begun, against those before.
use Rattle.ipcz_word.specs.SideSets.{has}
use Rattle.ipcz_world.proofs.Vocabulary.{Side, A, B, LinkId, Central, Peripheral, opposite_end, World, Key, same_key, Records, Spare, is_linked}
use Rattle.ipcz_world.proofs.Vocabulary.{is_begun, is_recorded, bypass_of, side_length, side_router, side_node, side_end, proxy_side, known_from}
use Rattle.ipcz_world.proofs.Vocabulary.{view, view_by, is_left, bypass_length, length_by}
use Rattle.ipcz_world.specs.Routes.{source as source'}
use Rattle.std.specs.Prelude.{◌≡◌, ◌≢◌, ◌⊎◌, ℕ, Bool, true, false, cond, nat_eq, Option, Some, None, refl}
use Rattle.std.proofs.Common.{arith, sym, ap, subst, inl, inr}
use Rattle.std.proofs.lemmas.Bool.Decides.{nat_tests}
use Rattle.ipcz_world.proofs.frames.Frames.{same_key_tells}
use Rattle.ipcz_world.proofs.frames.OfRecords.{source}
use Rattle.ipcz_world.proofs.facts.RecordsAfter.{begin_records}

pub proxy_at : (g : Records) (k : Key) (o fresh : ℕ) (p q : Key) →
    ((begin_records g k o fresh p).peripheral q).proxy ≡ (g.peripheral q).proxy
proxy_at g k o fresh p q = grind (arith, same_key_tells q p)

pub inner_at : (g : Records) (k : Key) (o fresh : ℕ) (p q : Key) → ((begin_records g k o fresh p).peripheral q).node ≡ (g.peripheral q).node
inner_at g k o fresh p q = grind (arith, same_key_tells q p)

pub inner_router : (g : Records) (k : Key) (o fresh : ℕ) (p q : Key) →
    ((begin_records g k o fresh p).peripheral q).router ≡ (g.peripheral q).router
inner_router g k o fresh p q = grind (arith, same_key_tells q p)

left_at : (g : Records) (k : Key) (o fresh : ℕ) (p q : Key) → ((begin_records g k o fresh p).peripheral q).left ≡ (g.peripheral q).left
left_at g k o fresh p q = grind (arith, same_key_tells q p)

pub end_at : (g : Records) (k : Key) (o fresh : ℕ) (p q : Key) → ((begin_records g k o fresh p).peripheral q).end ≡ (g.peripheral q).end
end_at g k o fresh p q = grind (arith, same_key_tells q p)

pub left-begun : (g : Records) (k : Key) (o fresh : ℕ) (p : Key) (l : LinkId) (s : Side) →
    is_left (begin_records g k o fresh p) l s ≡ is_left g l s
unfolding is_left
left-begun g k o fresh p (Central i) s = refl
left-begun g k o fresh p (Peripheral n x) s = ap (λ z. has z s) (left_at g k o fresh p (record { node = n; serial = x }))

pub router-begun : (g : Records) (k : Key) (o fresh : ℕ) (p : Key) (l : LinkId) (s : Side) →
    side_router (begin_records g k o fresh p) l s ≡ side_router g l s
unfolding side_router
router-begun g k o fresh p (Central i) s = refl
router-begun g k o fresh p (Peripheral n x) A = ap (λ z. Some (record { node = n; serial = z }))
    (proxy_at g k o fresh p (record { node = n; serial = x }))
router-begun g k o fresh p (Peripheral n x) B = grind (
  arith,
  inner_at g k o fresh p (record { node = n; serial = x }),
  inner_router g k o fresh p (record { node = n; serial = x }),
)

pub node-begun : (g : Records) (k : Key) (o fresh : ℕ) (p : Key) (l : LinkId) (s : Side) →
    side_node (begin_records g k o fresh p) l s ≡ side_node g l s
unfolding side_node
node-begun g k o fresh p (Central i) s = refl
node-begun g k o fresh p (Peripheral n x) A = refl
node-begun g k o fresh p (Peripheral n x) B = inner_at g k o fresh p (record { node = n; serial = x })

pub end-begun : (g : Records) (k : Key) (o fresh : ℕ) (p : Key) (l : LinkId) (s : Side) →
    side_end (begin_records g k o fresh p) l s ≡ side_end g l s
unfolding side_end
end-begun g k o fresh p (Central i) s = refl
end-begun g k o fresh p (Peripheral n x) s = end_at g k o fresh p (record { node = n; serial = x })

pub source-begun : (g : Records) (k : Key) (o fresh : ℕ) (p : Key) (l : LinkId) (s : Side) →
    source (begin_records g k o fresh p) l s ≡ source g l s
unfolding source'
source-begun g k o fresh p (Central i) s = refl
source-begun g k o fresh p (Peripheral n x) A = end_at g k o fresh p (record { node = n; serial = x })
source-begun g k o fresh p (Peripheral n x) B = ap opposite_end (end_at g k o fresh p (record { node = n; serial = x }))

pub view-begun : (v : World) (g : Records) (k : Key) (o fresh : ℕ) (p : Key) (l : LinkId) (s : Side) →
    view v (begin_records g k o fresh p) l s ≡ view v g l s
unfolding view_by
view-begun v g k o fresh p l s = grind (arith, router-begun g k o fresh p l s, end-begun g k o fresh p l s)

pub linked-begun : (g : Records) (k : Key) (o fresh : ℕ) (p : Key) (j : ℕ) → g.owner fresh ≡ Spare k →
    is_linked ((begin_records g k o fresh p).owner j) ≡ is_linked (g.owner j)
unfolding is_linked
linked-begun g k o fresh p j own = grind (arith, own, nat_tests)

pub recorded-begun : (v : World) (g : Records) (k : Key) (o fresh : ℕ) (p : Key) (l : LinkId) → g.owner fresh ≡ Spare k →
    is_recorded v (begin_records g k o fresh p) l ≡ is_recorded v g l
unfolding is_recorded
recorded-begun v g k o fresh p (Central i) own = linked-begun g k o fresh p i own
recorded-begun v g k o fresh p (Peripheral n x) own = refl

-- the bypass that begins, and the others
pub begun-here : (g : Records) (k : Key) (o fresh : ℕ) (p : Key) →
    (begin_records g k o fresh p).bypass o ≡ record { stage = 1; proxy = k; inner = p; fresh = fresh; taken_at = 0; accepted_at = 0 }
begun-here g k o fresh p = grind (arith, nat_tests)

pub begun-else : (g : Records) (k : Key) (o fresh : ℕ) (p : Key) (j : ℕ) → nat_eq j o ≡ false →
    (begin_records g k o fresh p).bypass j ≡ g.bypass j
begun-else g k o fresh p j e = grind (arith, e)

-- a fact of each word from that of the bypass that begins and those of the others
pub by_word : (o : ℕ) {P : ℕ → Type 0} → P o → ((j : ℕ) → nat_eq j o ≡ false → P j) → (j : ℕ) → P j
by_word o {P} here other j = go (nat_eq j o) refl
  where
    go : (c : Bool) → nat_eq j o ≡ c → P j
    go true e = subst P (sym (grind (arith, e, nat_tests))) here
    go false e = other j e

pub side-begun : (g : Records) (k : Key) (o fresh : ℕ) (p : Key) (j : ℕ) → nat_eq j o ≡ false →
    proxy_side (begin_records g k o fresh p) j ≡ proxy_side g j
side-begun g k o fresh p j e = grind (arith, begun-else g k o fresh p j e, end_at g k o fresh p (g.bypass j).inner)

pub by-inner : (g : Records) (k : Key) (o fresh : ℕ) (p q : Key) →
    ((begin_records g k o fresh p).peripheral q).by ≡ cond (same_key q p) (Some o) (g.peripheral q).by
by-inner g k o fresh p q = grind (arith, same_key_tells q p)

-- no link has another length
pub length-begun : (g : Records) (k : Key) (o fresh : ℕ) (p : Key) (l : LinkId) (s : Side) → (g.peripheral p).by ≡ None →
    is_begun (g.bypass o) ≡ false → ((q : Key) (m : ℕ) → (g.peripheral q).by ≡ Some m → is_begun (g.bypass m) ≡ true) →
    side_length (begin_records g k o fresh p) l s ≡ side_length g l s
unfolding bypass_of length_by bypass_length known_from
length-begun g k o fresh p (Central j) s free live begun = go (nat_eq j o) refl
  where
    go : (c : Bool) → nat_eq j o ≡ c → side_length (begin_records g k o fresh p) (Central j) s ≡ side_length g (Central j) s
    go true e = let f : j ≡ o = grind (arith, e, nat_tests) in grind (arith, f, live, begun-here g k o fresh p)
    go false e = grind (arith, begun-else g k o fresh p j e, side-begun g k o fresh p j e)
length-begun g k o fresh p (Peripheral n x) s free live begun = go (same_key_tells q p) (g.peripheral q).by refl s
  where
    q : Key
    q = record { node = n; serial = x }

    go : ((same_key q p ≡ true) × (q ≡ p)) ⊎ ((same_key q p ≡ false) × (q ≢ p)) → (m : Option ℕ) → (g.peripheral q).by ≡ m → (t : Side) →
        side_length (begin_records g k o fresh p) (Peripheral n x) t ≡ side_length g (Peripheral n x) t
    go (inl e) m f A = grind (arith, by-inner g k o fresh p q, e, free, begun-here g k o fresh p)
    go (inl e) m f B = grind (arith, by-inner g k o fresh p q, e, free, begun-here g k o fresh p)
    go (inr e) None f t = grind (arith, by-inner g k o fresh p q, e, f)
    go (inr e) (Some m) f A = let a : nat_eq m o ≡ false = grind (arith, begun q m f, live, nat_tests) in
        grind (arith, by-inner g k o fresh p q, e, f, begun-else g k o fresh p m a)
    go (inr e) (Some m) f B = let a : nat_eq m o ≡ false = grind (arith, begun q m f, live, nat_tests) in
        grind (arith, by-inner g k o fresh p q, e, f, begun-else g k o fresh p m a)
