-- What holds after any list of steps: the sentence that this repository exists for, and what it takes to keep it.
-- (This project's own, for ipcz's promise that parcels come in order and are not lost while routes change.)
use Rattle.std.specs.Prelude.{◌≡◌, ◌≤◌, ℕ, true, false, Some, List, [], ◌∷◌, length, map, take, slice_get}
use Rattle.ipcz_base.specs.declared.side.Side.{Side}
use Rattle.ipcz_base.specs.declared.end.End.{End}
use Rattle.ipcz_base.specs.declared.item.Item.{Item}
use Rattle.ipcz_base.specs.declared.item.Item.TheVariants.{Parcel}
use Rattle.ipcz_base.specs.Ends.{opposite_end}
use Rattle.ipcz_word.specs.SideSets.{has}
use Rattle.ipcz_word.specs.Word.{is_free}
use Rattle.ipcz_node.specs.FirstPairs.{first_pairs}
use Rattle.ipcz_world.specs.declared.step.Step.{Step}
use Rattle.ipcz_world.specs.declared.step.Reply.{Reply}
use Rattle.ipcz_world.specs.World.{node_limit, word_limit, World, word_at, new_world}
use Rattle.ipcz_world.specs.Steps.{Scheduler, AnyAct, StepBy}
use Rattle.ipcz_world.specs.Books.{Books, no_books, advance, read, is_closed}
use Rattle.ipcz_world.specs.Routes.{Routes, first_routes, routes_after}
use Rattle.ipcz_world.specs.Places.{in_places, at_end, times_at, unread_weight}
use Rattle.ipcz_world.specs.Records.{Records, routes_of}
use Rattle.ipcz_world.specs.Whereabouts.{Conserved, HeldOnce}
use Rattle.ipcz_world.specs.Inv.{Inv}
use Rattle.ipcz_world.specs.Laws.{There, LinkLaw, BypassLaw, WordLaw}
use Rattle.ipcz_world.specs.Owed.{GoneUnread, AreFlagged, FlagsAgree, HaveWakers, IsRanked}
use Rattle.ipcz_world.specs.Settling.{IsBounded}

-- the sentence: what holds after any list of steps of trusted nodes
pub record Headline (w : World) (b : Books) (g : Routes) : Type 0 where
  -- a central link is locked by at most one side
  pub locked_once : (i : ℕ) (s t : Side) → has (word_at w i).holder s ≡ true → has (word_at w i).holder t ≡ true → s ≡ t
  -- and only while both are stable
  pub locked_stable : (i : ℕ) (s t : Side) → has (word_at w i).holder s ≡ true → has (word_at w i).stable t ≡ true
  -- what is being bypassed is locked by the side that left it
  pub bypassed_locked : BypassLaw w
  -- a stable link that is free joins routers without decaying links
  pub free_joins : (i : ℕ) (s : Side) → is_free (word_at w i) ≡ true → There w i s
  -- each portal has got a prefix of what its peer put
  pub got_prefix : (e : End) → take (length (b.got (opposite_end e))) (b.put e) ≡ map Parcel (b.got (opposite_end e))
  -- each accepted item neither got nor dropped by a sink stands in exactly one queue or message, under its number: however items are
  -- weighed, the places of an end weigh what it put and its peer hasn't read
  pub one_place : (e : End) (h : ℕ → Item → ℕ) → in_places (at_end e h) g w ≡ unread_weight h b e
  -- only a sink drops items: an end that isn't closed has dropped none
  pub dropped_by_sinks : (e : End) → is_closed b e ≡ false → b.gone e ≡ 0

-- what the weights say of one item: if the peer hasn't read it, it stands in one place, and what stands anywhere is such an item
pub record EachOnce (w : World) (b : Books) (g : Routes) : Type 0 where
  pub once : (e : End) (n : ℕ) (item : Item) → read b (opposite_end e) ≤ n → slice_get (b.put e) n ≡ Some item → times_at w g e n item ≡ 1
  pub only : (e : End) (n : ℕ) (item : Item) → 1 ≤ times_at w g e n item →
      (read b (opposite_end e) ≤ n) × (slice_get (b.put e) n ≡ Some item)

-- a lawful world with its books and its routes: the laws, and records of the run for which the invariant holds
pub record Lawful (w : World) (b : Books) (g : Routes) : Type 0 where
  pub records : Records
  pub routes : routes_of records ≡ g
  pub inv : Inv w b records
  pub conserved : Conserved w b records
  pub held_once : HeldOnce w b records
  pub link_law : LinkLaw w
  pub bypass_law : BypassLaw w
  pub word_law : WordLaw w g
  -- a router that could act is flagged, so that nothing could be done if nothing waits
  pub flagged : AreFlagged w
  -- and its flags agree
  pub agreed : FlagsAgree w
  -- who has tried for a lock has a waker, and no proxies stand in a ring
  pub wakers : HaveWakers w
  pub ranked : IsRanked w
  -- no terminal stands that has read Gone
  pub unread : GoneUnread w b
  -- the world's lists have their lengths and nothing lies beyond its nodes, so that what its nodes see is all that waits
  pub bounded : IsBounded w

-- a run of steps with their replies, from a world with books and routes to another; each turn takes an act that the scheduler allows
abbrev pub RunBy : Scheduler → World → Books → Routes → List Step → List Reply → World → Books → Routes → Type 0
RunBy May w b g [] [] v c h = (v ≡ w) × (c ≡ b) × (h ≡ g)
RunBy May w b g [] (reply ∷ replies) v c h = ⊥
RunBy May w b g (step ∷ steps) [] v c h = ⊥
RunBy May w b g (step ∷ steps) (reply ∷ replies) v c h =
    (u : World) × StepBy May w step reply u × RunBy May u (advance w b step reply) (routes_after w g step reply) steps replies v c h

-- a run in which a turn takes any possible act
abbrev pub RunAny : World → Books → Routes → List Step → List Reply → World → Books → Routes → Type 0
RunAny = RunBy AnyAct

-- how many nodes and words a world may have
pub record IsWithinLimits (count size : ℕ) : Type 0 where
  pub some_node : 1 ≤ count
  pub nodes : count ≤ node_limit
  pub pairs : length (first_pairs count) ≤ size
  pub words : size ≤ word_limit

-- a world, books and routes that some list of steps leads to from the start, whichever possible act each turn takes
pub record IsReached (nodes words : ℕ) (w : World) (b : Books) (g : Routes) : Type 0 where
  pub limits : IsWithinLimits nodes words
  pub steps : List Step
  pub replies : List Reply
  pub run : RunAny (new_world nodes words) no_books (first_routes nodes) steps replies w b g
