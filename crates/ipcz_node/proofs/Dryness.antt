-- Of which routers it is known that none is dry.
use Rattle.std.specs.Prelude.{◌≡◌, ℕ, Bool, true, false, ◌||◌, cond, Option, Some, None}
use Rattle.std.proofs.Common.{sym, subst, ◌∙◌, refl}
use Rattle.std.specs.Ordering.{nat_cmp, eq_by_cmp}
use Rattle.std.specs.Cmp.{nat_cmp_total}
use Rattle.std.specs.FinMap.{FinMap, get, insert, get-insert, remove, get-remove, empty, get-empty}
use Rattle.ipcz_base.specs.declared.item.Item.{Item}
use Rattle.ipcz_base.specs.declared.message.Message.{Message}
use Rattle.ipcz_base.specs.declared.message.Message.TheVariants as messages
use Rattle.ipcz_router.specs.Router.{Router}
use Rattle.ipcz_router.specs.Calls.{accept}
use Rattle.ipcz_router.specs.Hearing.{hear}
use Rattle.ipcz_router.specs.ActEffects.{apply}
use Rattle.ipcz_router.specs.declared.act.Answer.{Answer}
use Rattle.ipcz_router.specs.declared.act.RouterAct.TheVariants.{FinishOut}
use Rattle.ipcz_node.specs.Directories.{MayBeDry}

-- what is found is one of two
one_of : (c : Bool) (P : Router → Type 0) (w : Router) (o : Option Router) (r : Router) → P w → ((x : Router) → o ≡ Some x → P x) → cond c (Some w) o ≡ Some r → P r
one_of true P w o r new old e = subst P (let same : Some w ≡ Some r = e in cc) new
one_of false P w o r new old e = old r e

-- a router that isn't dry was written
pub wet_written : (b : Bool) (m : FinMap nat_cmp Router) (s : ℕ) (w : Router) → (b ≡ false → w.dry ≡ false) → MayBeDry b m → MayBeDry b (insert m s w)
wet_written b m s w wet known none q r here =
    one_of (eq_by_cmp nat_cmp q s) (λ (x : Router). x.dry ≡ false) w (get m q) r (wet none) (λ x at. known none q x at) (sym (get-insert nat_cmp_total m s w q) ∙ here)

-- one router was changed, and is as dry as before
pub dry_kept : (b : Bool) (m : FinMap nat_cmp Router) (s : ℕ) (r w : Router) → get m s ≡ Some r → w.dry ≡ r.dry → MayBeDry b m → MayBeDry b (insert m s w)
dry_kept b m s r w here same known = wet_written b m s w (λ none. same ∙ known none s r here) known

neither : (a b : Bool) → (a || b) ≡ false → (a ≡ false) × (b ≡ false)
neither false b e = (refl, e)
neither true b e = absurd (cc)

-- one was changed, and it is noted if it is dry
pub dry_noted : (b d : Bool) (m : FinMap nat_cmp Router) (s : ℕ) (w : Router) → d ≡ w.dry → MayBeDry b m → MayBeDry (d || b) (insert m s w)
dry_noted b d m s w is known none = wet_written b m s w (λ _. sym is ∙ (neither d b none).0) known (neither d b none).1

-- a router that isn't dry more
pub wet_added : (b : Bool) (m k : FinMap nat_cmp Router) (s : ℕ) (w : Router) → k ≡ insert m s w → w.dry ≡ false → MayBeDry b m → MayBeDry b k
wet_added b m k s w is wet known = subst (MayBeDry b) (sym is) (wet_written b m s w (λ _. wet) known)

-- a router fewer
pub dry_dropped : (b : Bool) (m k : FinMap nat_cmp Router) (s : ℕ) → k ≡ remove m s → MayBeDry b m → MayBeDry b k
dry_dropped b m k s is known = subst (MayBeDry b) (sym is) (λ none q r here. left none q r (eq_by_cmp nat_cmp q s) (sym (get-remove nat_cmp_total m s q) ∙ here))
  where
    left : b ≡ false → (q : ℕ) (r : Router) (c : Bool) → cond c None (get m q) ≡ Some r → r.dry ≡ false
    left none q r true e = absurd (cc)
    left none q r false e = known none q r e

-- the same routers
pub dry_same : (b : Bool) (m k : FinMap nat_cmp Router) → k ≡ m → MayBeDry b m → MayBeDry b k
dry_same b m k is known = subst (MayBeDry b) (sym is) known

-- no routers
pub dry_none : (b : Bool) (m : FinMap nat_cmp Router) → m ≡ empty → MayBeDry b m
dry_none b m is = subst (MayBeDry b) (sym is) (λ none q r here. let no : None ≡ Some r = sym (get-empty nat_cmp q) ∙ here in absurd (cc))

-- an item that comes leaves it as it was
pub accept_dry : (r : Router) (from_outward : Bool) (n : ℕ) (item : Item) → (accept r from_outward n item).dry ≡ r.dry
unfolding accept
accept_dry r true n item = refl
accept_dry r false n item = refl

-- and so does a message
pub hear_dry : (r : Router) (sender : ℕ) (m : Message) → (hear r sender m).dry ≡ r.dry
unfolding hear
hear_dry r sender (messages.BypassPeer link side old target fresh) = refl
hear_dry r sender (messages.AcceptBypass old side fresh length) = refl
hear_dry r sender (messages.StopProxying side old in_length out_length) = refl
hear_dry r sender (messages.ProxyWillStop link side in_length) = refl
hear_dry r sender (messages.Flush link side) = refl
hear_dry r sender (messages.Item link side number item moves) = refl

-- and so does a finish
pub finish_dry : (r : Router) (a : Answer) → (apply r FinishOut a).dry ≡ r.dry
unfolding apply
finish_dry r a = refl
