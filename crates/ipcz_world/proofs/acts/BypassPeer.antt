-- The router inward is told of a bypass and takes the fresh link: the invariant is kept.
use Rattle.ipcz_world.proofs.acts.BypassPeerStages.{retired-peer, gones-peer, live-peer}
use Rattle.std.specs.Prelude.{ℕ, ◌+◌}
use Rattle.std.proofs.Common.{ap, ◌∙◌, sym}
use Rattle.ipcz_world.proofs.Vocabulary.{Side, LinkId, Message, opposite, EndPlaces, BooksKept, Conserved, HeldOnce, times_held, Router}
use Rattle.ipcz_world.proofs.Vocabulary.{World, Key, Books, Records, at_end, names_end, bypass_peer, Inv}
use Rattle.ipcz_base.specs.declared.message.Message.TheVariants as messages
use Rattle.ipcz_world.specs.Whereabouts.{times_closed}
use Rattle.ipcz_world.proofs.facts.Updates.{peer_act}
use Rattle.ipcz_world.proofs.facts.RecordsAfter.{taken_records}
use Rattle.ipcz_world.proofs.frames.Unmoved.{ordered-kept, moves-kept, end_places-kept, books_kept-kept, conserved-kept, held_once-kept}
use Rattle.ipcz_world.proofs.frames.Unmoved.{no_strays-kept}
use Rattle.ipcz_world.proofs.frames.Handing.{handed_on}
use Rattle.ipcz_world.proofs.frames.Sealing.{ordered_of, moves_of as moves_law, terminals_of, end_places_of, books_kept_of, conserved_of}
use Rattle.ipcz_world.proofs.frames.Sealing.{held_once_of, no_strays_of, Sealed, Closed}
use Rattle.ipcz_world.proofs.acts.BypassPeerAround.{CanPeer, like, changed}
use Rattle.ipcz_world.proofs.acts.BypassPeerRecords.{bypasses-peer, counts-peer}
use Rattle.ipcz_world.proofs.acts.BypassPeerLinks.{shape-peer, roles-peer, begun-peer}
use Rattle.ipcz_world.proofs.acts.BypassPeerStages.{stands-peer, words-peer, spares-peer, stages-peer, terminals-peer}
use Rattle.ipcz_world.proofs.acts.BypassPeerNumbers.{carried, items-peer, order-peer, proxy_numbers-peer, fresh_numbers-peer}
use Rattle.ipcz_world.proofs.acts.BypassPeerMessages.{refl-agree, places, descriptors, controls-peer, moves-peer, places_g}

module _ (w : World) (b : Books) (g : Records) (from : ℕ) (k : Key) (r : Router) (o : ℕ) (link : LinkId) (side : Side) (target fresh : ℕ)
    (law : Sealed w b g) (can : Closed (CanPeer w from k r o link side target fresh)) where
  -- what the hand makes of the router, the world and the records
  abbrev x : Router
  x = bypass_peer r target fresh

  abbrev sent : Message
  sent = messages.AcceptBypass o (opposite r.end.side) fresh r.out_queue.current

  abbrev v : World
  v = handed_on w from k x target sent

  -- The router inward takes the fresh link: all that always holds holds still.
  -- Nothing is lost, for its queues are as they were and what it sends carries no item. What it has sent over the inner link is below its
  -- next number out; this becomes taken_at, the length of the inner link and of the old one beyond it, and what it sends from now on goes
  -- over the fresh link. The proxy has sent and queued only what it got from here, so it is behind taken_at (y_out, y_items). Nobody
  -- stands across the fresh link yet, so nothing comes over it.
  pub inv-peer : Inv (peer_act w from k r o target fresh) b (taken_records g k r o fresh target)
  unfolding handed_on
  inv-peer = record {
    counts = counts-peer law can;
    ordered = ordered-kept w v g g k r x (changed law can) (refl-agree law can) (like law can) (ordered_of law);
    shape = shape-peer law can;
    roles = roles-peer law can;
    begun = begun-peer law can;
    stands = stands-peer law can;
    words = words-peer law can;
    spares = spares-peer law can;
    bypasses = bypasses-peer law can;
    live = live-peer law can;
    stages = stages-peer law can;
    controls = controls-peer law can;
    moves = moves-peer law can (moves-kept w v g g k r x (changed law can) (refl-agree law can) (carried law can) (descriptors law can)
        (moves_law law));
    terminals = terminals-peer law can (terminals_of law);
    end_places = record {
      held = at_ends.held;
      pending = at_ends.pending;
      each = λ q z at. let is = at_ends.each q z at in record { out = is.out; inn = is.inn };
      within = at_ends.within;
    };
    books_kept = record {
      own_pair = in_books.own_pair;
      mark_last = in_books.mark_last;
      gone_last = in_books.gone_last;
      retired_closed = in_books.retired_closed;
      numbers = in_books.numbers;
      mark_seen =
          in_books.mark_seen;
    };
    retired_ends = retired-peer law can;
    gones = gones-peer law can;
    items = items-peer law can;
    order = order-peer law can;
    proxy_numbers = proxy_numbers-peer law can;
    fresh_numbers = fresh_numbers-peer law can;
    conserved = record {
      exact = λ d t. places law can (at_end d t) ∙ (conserved_of law).exact d t;
      read_put = all.read_put;
      prefix = all.prefix;
      gone_closed = all.gone_closed;
      reach = all.reach;
      current = all.current;
      sink = all.sink;
      move_out = all.move_out;
      move_in = all.move_in;
      move_open = all.move_open;
      unopened_put = all.unopened_put;
      unopened_got = all.unopened_got;
    };
    held_once = record {
      once = λ d. ap (λ n. n + (times_held v d + times_closed b d)) (places law can (names_end d) ∙ sym (places_g law can (names_end d))) ∙
          held.once d;
      moves_in_parcel = held.moves_in_parcel;
    };
    no_strays = no_strays-kept w v g g k r x (changed law can) (refl-agree law can) (no_strays_of law);
  }
    where
      at_ends : EndPlaces v g
      at_ends = end_places-kept w v g g k r x (changed law can) (refl-agree law can) (like law can) (carried law can) (end_places_of law)

      in_books : BooksKept v b g
      in_books = books_kept-kept w v g g k r x (changed law can) (refl-agree law can) b (like law can) (books_kept_of law)

      all : Conserved v b g
      all = conserved-kept w v g g k r x (changed law can) (refl-agree law can) b (like law can) (carried law can) (places_g law can)
          (conserved_of law)

      held : HeldOnce v b g
      held = held_once-kept w v g g k r x (changed law can) (refl-agree law can) b (carried law can) (places_g law can) (held_once_of law)
