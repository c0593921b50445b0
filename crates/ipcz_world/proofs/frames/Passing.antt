-- A router that is known to a record, stands, and passes a test.
use Rattle.std.specs.Prelude.{◌≡◌, Bool, true, Option, Some, None, refl}
use Rattle.std.proofs.Common.{arith}
use Rattle.ipcz_world.proofs.Vocabulary.{Router, World, Key, router_at, passes, key_passes}

-- a router is known, stands, and passes a test
pub record Passes (w : World) (o : Option Key) (test : Router → Bool) : Type 0 where
  pub key : Key
  pub router : Router
  pub known : o ≡ Some key
  pub here : router_at w key ≡ Some router
  pub passed : test router ≡ true

pub passes-tells : (w : World) (o : Option Key) (test : Router → Bool) → key_passes w o test ≡ true → Passes w o test
unfolding key_passes passes
passes-tells w None test h = absurd (grind (arith, h))
passes-tells w (Some k) test h = go (router_at w k) refl h
  where
    go : (o : Option Router) → router_at w k ≡ o → passes o test ≡ true → Passes w (Some k) test
    go None e h = absurd (grind (arith, h))
    go (Some r) e h = record { key = k; router = r; known = refl; here = e; passed = h }

-- a test at a known router that stands
pub passes-at : (w : World) (o : Option Key) (k : Key) (r : Router) (test : Router → Bool) → o ≡ Some k → router_at w k ≡ Some r →
    key_passes w o test ≡ test r
unfolding key_passes passes
passes-at w o k r test e f = rw (e, f) refl
