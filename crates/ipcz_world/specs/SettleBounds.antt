-- What comes of a settle: how many acts its turns can take, and what its answer tells.
use Rattle.std.specs.Prelude.{◌≡◌, ◌≤◌, ◌<◌, ℕ, ◌+◌, ◌*◌, Bool, true, false, cond, ◌&&◌, ◌||◌, nat_eq, Some, List, [], ◌∷◌, length, slice_get}
use Rattle.ipcz_base.specs.declared.side.Side.{Side}
use Rattle.ipcz_base.specs.declared.end.End.{End}
use Rattle.ipcz_base.specs.declared.item.Item.{Item}
use Rattle.ipcz_base.specs.declared.refusal.Refusal.{Refusal}
use Rattle.ipcz_base.specs.Ends.{opposite_end, end_at}
use Rattle.ipcz_base.specs.Items.{ends_in}
use Rattle.ipcz_world.specs.declared.step.Settled.{Settled}
use Rattle.ipcz_world.specs.declared.step.Settled.TheVariants as ends
use Rattle.ipcz_world.specs.World.{World}
use Rattle.ipcz_world.specs.Books.{Books, read, is_closed, is_retired}
use Rattle.ipcz_world.specs.Routes.{Routes, is_opened}
use Rattle.ipcz_world.specs.Settling.{AreVisits, act_count, next_node, IsSettle, IsRefusedSettle}
use Rattle.ipcz_world.specs.FirstRuns.{KeepsLaw, turns_of, replies_of}
use Rattle.ipcz_world.specs.Lawful.{Lawful}
use Rattle.ipcz_world.specs.Owed.{IsWet, IsDirect, HasNoProxies, HasNoClosedPairs}
use Rattle.ipcz_world.specs.Ranks.{Rates, worth, rank, IsRated, may_put, is_unlock}

-- how many of these visits took an unlock: a begin or a retire that found no memory
abbrev pub unlocks_taken : (n : ℕ) (visits : List Bool) (w v : World) → AreVisits n visits w v → ℕ
unlocks_taken n [] w v same = 0
unlocks_taken n (true ∷ visits) w v (has, (u, (event, (act, may, gives)), more)) =
    worth 1 (is_unlock act) + unlocks_taken (next_node w n) visits u v more
unlocks_taken n (false ∷ visits) w v (idle, more) = unlocks_taken (next_node w n) visits w v more

-- law: visits take no more acts than the rank falls by, and two for each unlock
abbrev pub VisitsAreBounded : Type 0
VisitsAreBounded =
    (n : ℕ) (visits : List Bool) (w v : World) (b : Books) (g : Routes) (c : Rates) → Lawful w b g → IsRated c b →
    (taken : AreVisits n visits w v) → act_count visits + rank c v ≤ rank c w + 2 * unlocks_taken n visits w v taken

-- law: a settle ends unsettled only if its limit was below the rank at the start and two for each unlock
abbrev pub UnsettledIsBounded : Type 0
UnsettledIsBounded =
    (limit : ℕ) (w v : World) (b : Books) (g : Routes) (c : Rates) → Lawful w b g → IsRated c b → (s : IsSettle limit w v ends.Unsettled) →
    limit < rank c w + 2 * unlocks_taken 0 s.visits w v s.turns

-- the answer fits so many acts at most: settled after no more of them, and unsettled only if the limit is below them
abbrev pub FitsMost : ℕ → ℕ → Settled → Type 0
FitsMost limit most (ends.Settled after) = after ≤ most
FitsMost limit most ends.Unsettled = limit < most

-- a settle whose very turns keep the law, and whose answer fits the rank at its start and two for each unlock: for all books and routes
-- with which the world is lawful, and all rates that fit
pub record IsLawfulSettle (limit : ℕ) (w v : World) (answer : Settled) : Type 0 where
  pub settle : IsSettle limit w v answer
  pub keeps : KeepsLaw w (turns_of 0 settle.visits w v settle.turns) (replies_of 0 settle.visits w v settle.turns) v
  pub most : (b : Books) (g : Routes) (c : Rates) → Lawful w b g → IsRated c b →
      FitsMost limit (rank c w + 2 * unlocks_taken 0 settle.visits w v settle.turns) answer

-- a settle that is refused, whose very turns before the one that is refused keep the law, and are no more than the same number
pub record IsLawfulRefusal (limit : ℕ) (w v : World) (why : Refusal) : Type 0 where
  pub settle : IsRefusedSettle limit w v why
  pub keeps : KeepsLaw w (turns_of 0 settle.visits w v settle.turns) (replies_of 0 settle.visits w v settle.turns) v
  pub most : (b : Books) (g : Routes) (c : Rates) → Lawful w b g → IsRated c b →
      act_count settle.visits ≤ rank c w + 2 * unlocks_taken 0 settle.visits w v settle.turns

-- no item that wasn't read carries an end
abbrev pub CarryNone : Books → Type 0
CarryNone b =
    (e : End) (n : ℕ) (item : Item) → read b (opposite_end e) ≤ n → slice_get (b.put e) n ≡ Some item → ends_in item ≡ []

-- whether a sink of an end's pair has retired, and all that the end has put was read: it puts nothing more
abbrev pub is_over : Books → End → Bool
is_over b e = (is_retired b e || is_retired b (opposite_end e)) && nat_eq (read b (opposite_end e)) (length (b.put e))

-- the rates of such books: each end has put what it will have put, but for its mark and Gone, an end that is over has nothing left, and
-- nothing is to be paid but the passing of numbers
abbrev pub plain_rates : Books → Rates
plain_rates b = record { cap = λ e. cond (is_over b e) 0 (length (b.put e) + may_put b e); price = λ pair. 6 }

-- law: they fit
abbrev pub PlainAreRated : Type 0
PlainAreRated = (b : Books) → CarryNone b → IsRated (plain_rates b) b

-- a limit that is enough for a settle, if no item that wasn't read carries an end and no begin finds no memory
abbrev pub plain_limit : Books → World → ℕ
plain_limit b w = rank (plain_rates b) w

-- law: so it is, with two more for each begin or retire that finds no memory
abbrev pub PlainLimitIsEnough : Type 0
PlainLimitIsEnough =
    (limit : ℕ) (w v : World) (b : Books) (g : Routes) → Lawful w b g → CarryNone b → (s : IsSettle limit w v ends.Unsettled) →
    limit < plain_limit b w + 2 * unlocks_taken 0 s.visits w v s.turns

-- law: if a settle has settled and no router has found the words used up, no proxy is left, nor a router of a pair with both ends closed,
-- and each other open pair is direct
abbrev pub SettledIsDirect : Type 0
SettledIsDirect =
    (limit acts : ℕ) (w v : World) (b : Books) (g : Routes) → IsSettle limit w v (ends.Settled acts) → Lawful v b g → IsWet v →
    HasNoProxies v × HasNoClosedPairs v b × ((pair : ℕ) (s : Side) → is_opened g pair ≡ true → is_closed b (end_at pair s) ≡ false →
    IsDirect v b pair)
