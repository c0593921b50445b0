-- The theorem of this repository, on one page: what holds after any list of steps, in any order, of the nodes and their callers together.
--
-- Its premises:
--   The nodes trust each other. A turn of a node takes an act of the tables whose conditions hold, whichever that is; callers open,
--   put, get and close as they like, and a step that is refused is a step as any other. That the calls of `World` take such steps is
--   proved.
--   Link words and mailboxes keep what is written to them, and no node is lost.
--   Nothing is said of when a node takes a turn, or whether: if it matters that the world is quiet, or which turns were taken, it
--   is said.
-- In addition one trusts what checks this page and makes the program of it (docs/THEOREM.md, "What is trusted").
use Rattle.std.specs.Prelude.{◌≡◌, ◌≤◌, ◌<◌, ℕ, ◌+◌, ◌*◌, true, false, Some, List, length, map, take, slice_get}
use Rattle.ipcz_base.specs.declared.side.Side.{Side}
use Rattle.ipcz_base.specs.declared.end.End.{End}
use Rattle.ipcz_base.specs.declared.item.Item.TheVariants.{Parcel}
use Rattle.ipcz_base.specs.Ends.{opposite_end, end_at}
use Rattle.ipcz_node.specs.declared.act.Act.{Act}
use Rattle.ipcz_world.specs.declared.step.Step.{Step}
use Rattle.ipcz_world.specs.declared.step.Reply.{Reply}
use Rattle.ipcz_world.specs.World.{World, new_world}
use Rattle.ipcz_world.specs.Books.{Books, no_books, is_closed}
use Rattle.ipcz_world.specs.Plain.{PlainRun}
use Rattle.ipcz_world.specs.Routes.{Routes, first_routes, is_opened}
use Rattle.ipcz_world.specs.Laws.{LinkLaw, BypassLaw, WordLaw, LengthLaw, StrayLaw, EndLaw}
use Rattle.ipcz_world.specs.Lawful.{EachOnce, RunAny, IsWithinLimits}
use Rattle.ipcz_world.specs.Owed.{Owed, IsWet, IsDirect, HasNoProxies, HasNoClosedPairs}
use Rattle.ipcz_world.specs.Settling.{IsQuiet}
use Rattle.ipcz_world.specs.Turns.{can_take}
use Rattle.ipcz_world.specs.Ranks.{Rates, IsRated, AreTurns, rank, uses_up, times_used, unlock_count}
use Rattle.ipcz_world.specs.Steps.{StepAny}
use Rattle.ipcz_world.specs.WorldLaws.{BeginsUnderLock, OnlyFlushesStray}

-- what holds of a run: its steps with their replies, and the world, the books and the routes that it ends with
pub record Theorem (steps : List Step) (replies : List Reply) (w : World) (b : Books) (g : Routes) : Type 0 where
  -- to its callers the nodes together are one small machine, that over the books alone: it allows these replies to these steps, and ends
  -- with the same books
  pub one_machine : PlainRun no_books steps replies b
  -- each portal has got a prefix of what its peer put, in order
  pub in_order : (e : End) → take (length (b.got (opposite_end e))) (b.put e) ≡ map Parcel (b.got (opposite_end e))
  -- nothing is lost or duplicated: each item that was put and that the peer hasn't read stands in one queue or message, under its number, and
  -- whatever stands anywhere is such an item; and an end that isn't closed has dropped none
  pub each_once : EachOnce w b g
  pub dropped_by_sinks : (e : End) → is_closed b e ≡ false → b.gone e ≡ 0
  -- each end of an open pair is held by callers, in a parcel, to be closed, or closed: one of these, once
  pub held_once : EndLaw w b g
  -- a link is locked by at most one side, and only while both are stable; what is bypassed is under its lock; a stable link that is free
  -- joins routers without decaying links; and each claimed word has one use
  pub links : LinkLaw w
  pub bypasses : BypassLaw w
  -- nor does the next step begin one otherwise, whatever step it is
  pub begins_locked : (step : Step) (reply : Reply) (v : World) → StepAny w step reply v → BeginsUnderLock w step reply
  pub words : WordLaw w g
  -- all that know a link's length know the same, and no message but a Flush finds its router gone: neither now nor in any reply
  pub lengths : LengthLaw w
  pub strays : StrayLaw w
  pub replies_fit : (i : ℕ) (reply : Reply) → slice_get replies i ≡ Some reply → OnlyFlushesStray reply
  -- no router that waits is forgotten
  pub owed : Owed w
  -- if nothing waits and words were left, no proxy is left, each open pair of which an end isn't closed is two terminals on one free link,
  -- with all delivered, and of a pair with both ends closed no router is left
  pub quiet_is_direct : IsQuiet w → IsWet w → HasNoProxies w × HasNoClosedPairs w b × ((pair : ℕ) (s : Side) → is_opened g pair ≡ true →
      is_closed b (end_at pair s) ≡ false → IsDirect w b pair)
  -- left alone it becomes quiet: whatever turns the nodes take from here, no more of them use something up than the world's rank, and two
  -- for each begin or retire that found no memory, by all rates that fit the books
  pub left_alone : (turns : List (ℕ × Act)) (c : Rates) (v : World) (d : Books) (h : Routes) → IsRated c b → AreTurns w b g turns v d h →
      times_used w turns + rank c v ≤ rank c w + 2 * unlock_count turns
  -- and if no node has an act that uses something up, it is quiet
  pub unused_is_quiet : ((n : ℕ) (act : Act) → n < w.count → can_take w n act ≡ true → uses_up w n act ≡ false) → IsQuiet w

-- the theorem: it is so of each run from the start, whichever possible act each turn takes
abbrev pub TheTheoremHolds : Type 0
TheTheoremHolds =
    (nodes words : ℕ) (steps : List Step) (replies : List Reply) (w : World) (b : Books) (g : Routes) → IsWithinLimits nodes words →
    RunAny (new_world nodes words) no_books (first_routes nodes) steps replies w b g → Theorem steps replies w b g
