-- What is said of each router by itself stays if it holds of the one that has changed, whatever it is.
use Rattle.std.specs.Prelude.{◌≡◌, cond, Some}
use Rattle.std.proofs.Common.{inl, inr}
use Rattle.ipcz_world.proofs.Vocabulary.{Router, World, Key, same_key, router_at}
use Rattle.ipcz_world.specs.Each.{EachRouter}
use Rattle.ipcz_world.proofs.frames.Frames.{one_or_before}

-- one router has become another: of all others what was said tells what is said now
pub each-by : (w v : World) (k : Key) (y : Router) (Was Is : Key → Router → Type 0) →
    ((q : Key) → router_at v q ≡ cond (same_key q k) (Some y) (router_at w q)) → ((q : Key) (z : Router) → Was q z → Is q z) →
    EachRouter w Was → Is k y → EachRouter v Is
each-by w v k y Was Is routers still law new q z at = elim (one_or_before w v k y routers q z at) [
  | inl one ↦ rw (one.0, ← one.1) new
  | inr old ↦ still q z (law q z old.1)
]

-- the same is said as before
pub each-one : (w v : World) (k : Key) (y : Router) (IsSo : Router → Type 0) →
    ((q : Key) → router_at v q ≡ cond (same_key q k) (Some y) (router_at w q)) → EachRouter w (λ q z. IsSo z) → IsSo y →
    EachRouter v (λ q z. IsSo z)
each-one w v k y IsSo routers law new = each-by w v k y (λ q z. IsSo z) (λ q z. IsSo z) routers (λ q z is. is) law new
