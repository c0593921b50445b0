-- A word becomes a pair's first link: the invariant is kept.
use Rattle.ipcz_world.proofs.frames.FirstLinkStages.{live-grown}
use Rattle.std.specs.Prelude.{ℕ}
use Rattle.std.proofs.Common.{◌∙◌}
use Rattle.ipcz_world.proofs.Vocabulary.{Side, End, World, Key, Books, Records, Owner, Terminal, Inv, CentralRecord}
use Rattle.ipcz_world.proofs.frames.FreshPairs.{IsGrown}
use Rattle.ipcz_world.proofs.frames.FirstLinkLinks.{counts-grown, ordered-grown, shape-grown, roles-grown, begun-grown}
use Rattle.ipcz_world.proofs.frames.FirstLinkStages.{stands-grown, words-grown, spares-grown, bypasses-grown, stages-grown, controls-grown}
use Rattle.ipcz_world.proofs.frames.FirstLinkItems.{moves-grown, terminals-grown, end_places-grown, books_kept-grown, items-grown, retired-grown, gones-grown}
use Rattle.ipcz_world.proofs.frames.FirstLinkItems.{order-grown, proxy_numbers-grown, fresh_numbers-grown, conserved-grown, held_once-grown}

module _ (w v : World) (b : Books) (g : Records) (owner' : ℕ → Owner) (central' : ℕ → CentralRecord) (terminal' : End → Terminal) (i : ℕ)
    (at : Side → Key) (law : Inv w b g) (is : IsGrown w v g owner' central' terminal' i at) where
  -- No link, message or item named the word, so what is said of all else reads as before. If a pair begins on it, its two ends have put
  -- and read nothing.
  pub inv-grown : Inv v b (record g { owner = owner'; central = central'; terminal = terminal' })
  inv-grown = record {
    counts = counts-grown law is;
    ordered = ordered-grown law is;
    shape = shape-grown law is;
    roles = roles-grown law is;
    begun = begun-grown law is;
    stands = stands-grown law is;
    words = words-grown law is;
    spares = spares-grown law is;
    bypasses = bypasses-grown law is;
    live = live-grown law is;
    stages = stages-grown law is;
    controls = controls-grown law is;
    moves = moves-grown law is;
    terminals = terminals-grown law is;
    end_places = end_places-grown law is;
    books_kept = books_kept-grown law is;
    retired_ends = retired-grown law is;
    gones = gones-grown law is;
    items = items-grown law is;
    order = order-grown law is;
    proxy_numbers = proxy_numbers-grown law is;
    fresh_numbers = fresh_numbers-grown law is;
    conserved = conserved-grown law is;
    held_once = held_once-grown law is;
    no_strays = λ n. is.strays n ∙ law.no_strays n;
  }
