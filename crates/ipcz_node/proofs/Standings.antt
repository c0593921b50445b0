-- Where the events of a bypass, of a close and of a get leave a router filed.
use Rattle.std.proofs.Common.{◌≡◌, ◌&&◌, ℕ, Bool, true, false, Option, Some, None, refl, sym, subst, arith}
use Rattle.ipcz_base.specs.declared.side.Side.{Side}
use Rattle.ipcz_base.specs.declared.message.Message.{Message}
use Rattle.ipcz_base.specs.declared.message.Message.TheVariants as messages
use Rattle.ipcz_base.specs.Links.{central_end}
use Rattle.ipcz_edge.specs.Edge.{Edge}
use Rattle.ipcz_router.specs.Router.{Router, is_terminal}
use Rattle.ipcz_router.specs.Closing.{close_router}
use Rattle.ipcz_router.specs.Filings.{filing_of}
use Rattle.ipcz_router.specs.Bypass.{accept_bypass, stop_proxying, proxy_will_stop}
use Rattle.ipcz_router.specs.Hearing.{hear, links_brought}
use Rattle.ipcz_node.specs.Directories.{ends_inside}
use Rattle.ipcz_node.proofs.Refiling.{FilesWithin, StaysFiled, same_links, same_standing, bypass_standing, at_most_one}
use Rattle.ipcz_node.proofs.Refiling.{own_outward, own_inward, own_inward_decaying}

pub accept_bypass_standing : (r : Router) (sender : ℕ) (side : Side) (fresh length : ℕ) →
    FilesWithin 1 r (accept_bypass r sender side fresh length)
accept_bypass_standing r sender side fresh length = record {
  few = omega (
    arith,
    at_most_one (filing_of r) (Some (central_end fresh side sender)),
    own_outward (filing_of r),
    own_inward (filing_of r),
    own_inward_decaying (filing_of r),
  );
  closes = λ h. h;
  stays = refl;
}

-- a router whose links stay
pub proxy_will_stop_standing : (r : Router) (in_length : ℕ) → FilesWithin 0 r (proxy_will_stop r in_length)
proxy_will_stop_standing r in_length = record { few = omega (arith, same_links (filing_of r)); closes = λ h. h; stays = refl }

pub stop_proxying_standing : (r : Router) (in_length out_length : ℕ) → FilesWithin 0 r (stop_proxying r in_length out_length)
stop_proxying_standing r in_length out_length = stopping r.inward refl
  where
    stopping : (i : Option Edge) → r.inward ≡ i → FilesWithin 0 r (stop_proxying r in_length out_length)
    stopping None is = subst (λ i. FilesWithin 0 (record r { inward = i }) (stop_proxying (record r { inward = i }) in_length out_length))
        (sym is)
        (record { few = omega (arith, same_links (filing_of (record r { inward = None }))); closes = λ h. h; stays = refl })
    stopping (Some e) is =
        subst (λ i. FilesWithin 0 (record r { inward = i }) (stop_proxying (record r { inward = i }) in_length out_length)) (sym is)
        (record { few = omega (arith, same_links (filing_of (record r { inward = Some e }))); closes = λ h. h; stays = refl })

-- a message brings a router at most the links that it is said to
pub hear_standing : (r : Router) (sender : ℕ) (m : Message) → FilesWithin (links_brought m) r (hear r sender m)
unfolding hear links_brought
hear_standing r sender (messages.Item link side number item moves) = same_standing r
hear_standing r sender (messages.BypassPeer link side old target fresh) = bypass_standing r target fresh
hear_standing r sender (messages.AcceptBypass old side fresh length) = accept_bypass_standing r sender side fresh length
hear_standing r sender (messages.StopProxying side old in_length out_length) = stop_proxying_standing r in_length out_length
hear_standing r sender (messages.ProxyWillStop link side in_length) = proxy_will_stop_standing r in_length
hear_standing r sender (messages.Flush link side) =
    record { few = omega (arith, same_links (filing_of r)); closes = λ h. h; stays = refl }

-- one that brings none leaves it where it was filed, but for its flag
pub hear_stays : (r : Router) (sender : ℕ) (m : Message) → links_brought m ≡ 0 → StaysFiled r (hear r sender m)
unfolding hear links_brought
hear_stays r sender (messages.Item link side number item moves) none = refl
hear_stays r sender (messages.BypassPeer link side old target fresh) none = absurd (omega (arith, none))
hear_stays r sender (messages.AcceptBypass old side fresh length) none = absurd (omega (arith, none))
hear_stays r sender (messages.StopProxying side old in_length out_length) none = stopping r.inward refl
  where
    stopping : (i : Option Edge) → r.inward ≡ i → StaysFiled r (stop_proxying r in_length out_length)
    stopping None is = subst (λ i. StaysFiled (record r { inward = i }) (stop_proxying (record r { inward = i }) in_length out_length))
        (sym is) refl
    stopping (Some e) is = subst (λ i. StaysFiled (record r { inward = i }) (stop_proxying (record r { inward = i }) in_length out_length))
        (sym is) refl
hear_stays r sender (messages.ProxyWillStop link side in_length) none = refl
hear_stays r sender (messages.Flush link side) none = refl

-- and no ends
pub hear_inside : (r : Router) (sender : ℕ) (m : Message) → ends_inside (hear r sender m) ≡ ends_inside r
unfolding hear
hear_inside r sender (messages.Item link side number item moves) = refl
hear_inside r sender other = refl

pub close_standing : (r : Router) → FilesWithin 0 r (close_router r)
close_standing r = record { few = omega (arith, same_links (filing_of r)); closes = λ h. closed (is_terminal r); stays = refl }
  where
    closed : (b : Bool) → (b && false) ≡ false
    closed true = refl
    closed false = refl
