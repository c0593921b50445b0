-- What each function of a link reads in the records, by the kind of the link.
use Rattle.ipcz_world.proofs.Vocabulary.{Side, A, B, Central, World, Key, node_at, Records, inner_link, is_linked, is_begun, is_recorded, side_node}
use Rattle.ipcz_world.proofs.Vocabulary.{side_router, bypass_of, Owner, Spare, Fresh, Linked, Opening, is_unclaimed, Lost, key_at, Unclaimed}
use Rattle.std.specs.Prelude.{◌≡◌, refl, ℕ, ◌&&◌, nat_lt, if◌then◌else◌, Some, None, true}
use Rattle.std.proofs.Common.{arith}

-- the router of a side, of a central link
pub side_router-central : (g : Records) (i : ℕ) (s : Side) → side_router g (Central i) s ≡ key_at ((g.central i).node s)
    ((g.central i).router s)
unfolding side_router
side_router-central g i s = refl

-- the router of a side, of a peripheral link at the proxy
pub side_router-proxy : (g : Records) (p : Key) → side_router g (inner_link p) A ≡ Some
    (record { node = p.node; serial = (g.peripheral p).proxy })
unfolding side_router
side_router-proxy g p = refl

-- the router of a side, of a peripheral link inward
pub side_router-inner : (g : Records) (p : Key) → side_router g (inner_link p) B ≡ key_at (g.peripheral p).node (g.peripheral p).router
unfolding side_router
side_router-inner g p = refl

-- the node of a side, of a central link
pub side_node-central : (g : Records) (i : ℕ) (s : Side) → side_node g (Central i) s ≡ (g.central i).node s
unfolding side_node
side_node-central g i s = refl

-- the node of a side, of a peripheral link at the proxy
pub side_node-proxy : (g : Records) (p : Key) → side_node g (inner_link p) A ≡ p.node
unfolding side_node
side_node-proxy g p = refl

-- the node of a side, of a peripheral link inward
pub side_node-inner : (g : Records) (p : Key) → side_node g (inner_link p) B ≡ (g.peripheral p).node
unfolding side_node
side_node-inner g p = refl

-- the bypass that takes a link away, of a central link
pub bypass_of-central : (g : Records) (i : ℕ) → bypass_of g (Central i) ≡ (if is_begun (g.bypass i) then Some i else None)
unfolding bypass_of
bypass_of-central g i = refl

-- the bypass that takes a link away, of a peripheral link inward
pub bypass_of-inner : (g : Records) (p : Key) → bypass_of g (inner_link p) ≡ (g.peripheral p).by
unfolding bypass_of
bypass_of-inner g p = refl

-- whether a link has a record, of a central link
pub is_recorded-central : (w : World) (g : Records) (i : ℕ) → is_recorded w g (Central i) ≡ is_linked (g.owner i)
unfolding is_recorded
is_recorded-central w g i = refl

-- whether a link has a record, of a peripheral link inward
pub is_recorded-inner : (w : World) (g : Records) (p : Key) → is_recorded w g (inner_link p) ≡
    (nat_lt p.node w.count && nat_lt p.serial (node_at w p.node).next_peripheral)
unfolding is_recorded
is_recorded-inner w g p = refl

-- what each function of a link reads, by the kind of the link
pub ruleset record_rules = (
  side_router-central,
  side_router-proxy,
  side_router-inner,
  side_node-central,
  side_node-proxy,
  side_node-inner,
  bypass_of-central,
  bypass_of-inner,
  is_recorded-central,
  is_recorded-inner,
)

pub unclaimed-is : (x : Owner) → is_unclaimed x ≡ true → x ≡ Unclaimed
unfolding is_unclaimed
unclaimed-is Unclaimed e = refl
unclaimed-is (Spare k) e = absurd (grind (arith, e))
unclaimed-is (Opening n) e = absurd (grind (arith, e))
unclaimed-is Lost e = absurd (grind (arith, e))
unclaimed-is (Fresh o) e = absurd (grind (arith, e))
unclaimed-is Linked e = absurd (grind (arith, e))
