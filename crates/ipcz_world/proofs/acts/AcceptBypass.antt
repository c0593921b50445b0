-- The router across accepts a bypass and takes the fresh link: the invariant is kept.
use Rattle.ipcz_world.proofs.frames.LiveLinks.{live-kept}
use Rattle.ipcz_world.proofs.frames.Sealing.{live_of}
use Rattle.std.specs.Prelude.{ℕ, refl}
use Rattle.std.proofs.Common.{arith}
use Rattle.ipcz_world.proofs.Vocabulary.{Side, LinkEnd, Message, Router, World, Key, Books, Records, Inv, accept_bypass}
use Rattle.ipcz_world.proofs.facts.Updates.{accept_act}
use Rattle.ipcz_world.proofs.facts.RecordsAfter.{accepted_records}
use Rattle.ipcz_world.proofs.frames.Unmoved.{ordered-kept, spares-kept, moves-kept, terminals-kept, end_places-kept, books_kept-kept}
use Rattle.ipcz_world.proofs.frames.Unmoved.{conserved-kept, held_once-kept, no_strays-kept}
use Rattle.ipcz_world.proofs.frames.Handing.{handed_on}
use Rattle.ipcz_world.proofs.acts.AcceptBypassRecords.{shape-accept}
use Rattle.ipcz_world.proofs.frames.Sealing.{ordered_of, spares_of, moves_of as moves_law, terminals_of, end_places_of, books_kept_of}
use Rattle.ipcz_world.proofs.frames.Sealing.{conserved_of, held_once_of, no_strays_of, Sealed, Closed, shape_of}
use Rattle.ipcz_world.proofs.acts.AcceptBypassAround.{CanAccept, here, on, is}
use Rattle.ipcz_world.proofs.acts.AcceptBypassViews.{at_o, like, changed, agree, carried, places}
use Rattle.ipcz_world.proofs.acts.AcceptBypassNumbers.{items-accept, order-accept, proxy_numbers-accept, fresh_numbers-accept}
use Rattle.ipcz_world.proofs.acts.AcceptBypassLinks.{counts-accept, bypasses, roles-accept, begun-accept}
use Rattle.ipcz_world.proofs.acts.AcceptBypassStages.{retired-accept, gones-accept, stands-accept, words-accept, stages-accept, controls-accept, descriptors}
use Rattle.ipcz_world.proofs.facts.Updates.{tells_stop}

module _ (w : World) (b : Books) (g : Records) (from : ℕ) (k : Key) (r : Router) (e : LinkEnd) (o : ℕ) (side : Side) (fresh length : ℕ)
    (law : Sealed w b g) (can : Closed (CanAccept w from k r e o side fresh length)) where
  -- what the hand makes of the router, the world and the records
  abbrev x : Router
  x = accept_bypass r from side fresh length

  abbrev sent : Message
  sent = tells_stop r o side length

  abbrev v : World
  v = handed_on w from k x e.other sent

  abbrev h : Records
  h = accepted_records g k r o side fresh

  -- The router across accepts: all that always holds holds still.
  -- Nothing is lost, for its queues are as they were and what it sends carries no item. Nothing is doubled or out of order: what comes
  -- over the fresh link has numbers from taken_at on, and the router hasn't passed taken_at, since it is behind the proxy, which is behind
  -- taken_at (x_in, y_out). What it has sent is below its next number out; this becomes accepted_at, the length of the old link and of the
  -- inner one beyond it, and what it sends from now on goes over the fresh link, to a router that is behind it (z_in, y_in).
  pub inv-accept : Inv (accept_act w from k r e o side fresh length) b (accepted_records g k r o side fresh)
  unfolding handed_on
  inv-accept = record {
    counts = counts-accept law can;
    ordered = ordered-kept w v g h k r x (changed law can) (agree law can) (like law can) (ordered_of law);
    shape = shape-accept w from k r e o side fresh length (shape_of law) (here law can) (on law can);
    roles = roles-accept law can;
    begun = begun-accept law can;
    stands = stands-accept law can;
    words = words-accept law can;
    spares = spares-kept w v g h k r x (changed law can) (agree law can) (like law can) (λ i. refl)
        (λ j st. grind (arith, st, at_o law can j, (is law can).stage)) (spares_of law);
    bypasses = bypasses law can;
    stages = stages-accept law can;
    live = live-kept g h (λ i l. l) (agree law can).pair (λ j st. grind (arith, st, at_o law can j, (is law can).stage))
        (agree law can).is_begun (live_of law);
    controls = controls-accept law can;
    moves = moves-kept w v g h k r x (changed law can) (agree law can) (carried law can) (descriptors law can) (moves_law law);
    terminals = terminals-kept w v g h k r x (changed law can) (agree law can) (like law can) (terminals_of law);
    end_places = end_places-kept w v g h k r x (changed law can) (agree law can) (like law can) (carried law can) (end_places_of law);
    books_kept = books_kept-kept w v g h k r x (changed law can) (agree law can) b (like law can) (books_kept_of law);
    retired_ends = retired-accept law can;
    gones = gones-accept law can;
    items = items-accept law can;
    order = order-accept law can;
    proxy_numbers = proxy_numbers-accept law can;
    fresh_numbers = fresh_numbers-accept law can;
    conserved = conserved-kept w v g h k r x (changed law can) (agree law can) b (like law can) (carried law can) (places law can)
        (conserved_of law);
    held_once = held_once-kept w v g h k r x (changed law can) (agree law can) b (carried law can) (places law can) (held_once_of law);
    no_strays = no_strays-kept w v g h k r x (changed law can) (agree law can) (no_strays_of law);
  }
