-- What a router hears, told by the message whole: each message but an item, which a router takes by `accept`.
use Rattle.std.specs.Prelude.{ℕ, Bool, true, false, ◌&&◌, if◌then◌else◌, Option, Some, None}
use Rattle.ipcz_base.specs.declared.message.Message.{Message}
use Rattle.ipcz_base.specs.declared.message.Message.TheVariants as messages
use Rattle.ipcz_base.specs.declared.refusal.Refusal.{Refusal}
use Rattle.ipcz_base.specs.declared.refusal.Refusal.TheVariants.{Stranger, Forged}
use Rattle.ipcz_router.specs.declared.sending.Sending.{Sending}
use Rattle.ipcz_router.specs.Router.{Router, inward_edge, rouse}
use Rattle.ipcz_router.specs.Bypass.{fits_bypass_peer, bypass_peer, accept_message, fits_accept_bypass, is_source, accept_bypass}
use Rattle.ipcz_router.specs.Bypass.{stop_message, fits_stop_proxying, stop_proxying, will_stop_message, fits_proxy_will_stop, proxy_will_stop}

-- whether a router hears a message from a node, if the word of an old link names this source
unfoldable pub hears : Router → ℕ → Message → Option ℕ → Bool
hears r sender (messages.Item link side number item moves) source = false
hears r sender (messages.BypassPeer link side old target fresh) source = fits_bypass_peer r link side
hears r sender (messages.AcceptBypass old side fresh length) source = fits_accept_bypass r old side && is_source sender source
hears r sender (messages.StopProxying side old in_length out_length) source = fits_stop_proxying r old side
hears r sender (messages.ProxyWillStop link side in_length) source = fits_proxy_will_stop r link side
hears r sender (messages.Flush link side) source = true

-- why it doesn't: an AcceptBypass that has only the wrong sender is forged
unfoldable pub deafness : Router → Message → Refusal
deafness r (messages.AcceptBypass old side fresh length) = if fits_accept_bypass r old side then Forged else Stranger
deafness r other = Stranger

-- the router after a message that it hears
unfoldable pub hear : Router → ℕ → Message → Router
hear r sender (messages.Item link side number item moves) = r
hear r sender (messages.BypassPeer link side old target fresh) = bypass_peer r target fresh
hear r sender (messages.AcceptBypass old side fresh length) = accept_bypass r sender side fresh length
hear r sender (messages.StopProxying side old in_length out_length) = stop_proxying r in_length out_length
hear r sender (messages.ProxyWillStop link side in_length) = proxy_will_stop r in_length
hear r sender (messages.Flush link side) = rouse r

-- what it sends in turn
unfoldable pub answer_to : Router → Message → Option Sending
answer_to r (messages.Item link side number item moves) = None
answer_to r (messages.BypassPeer link side old target fresh) = Some (accept_message r old target fresh)
answer_to r (messages.AcceptBypass old side fresh length) = stop_message r r.outward.primary old side length
answer_to r (messages.StopProxying side old in_length out_length) = will_stop_message (inward_edge r).decaying in_length
answer_to r (messages.ProxyWillStop link side in_length) = None
answer_to r (messages.Flush link side) = None

-- how many links more it has then, at most: one, if the message brings the word of a fresh one
unfoldable pub links_brought : Message → ℕ
links_brought (messages.BypassPeer link side old target fresh) = 1
links_brought (messages.AcceptBypass old side fresh length) = 1
links_brought other = 0
