-- What lies between two steps of a seat that only loads. If it has found a link word or the claim count at two numbers, another seat has
-- taken an act between; and a mailbox that its node waits for stays as it was found.
use Rattle.std.specs.Prelude.{◌≡◌, ◌≢◌, ◌≤◌, ◌<◌, ◌⊎◌, ◌+◌, ◌*◌, ℕ, suc, nat_eq, Bool, false, List, [], ◌∷◌, ◌++◌, length, slice_index, MatchBool, refl}
use mathlib.Core.Option.{some}
use lib.ListN.{get_elem?}
use Rattle.ipcz_node.specs.declared.act.Act.{Act}
use Rattle.ipcz_node.specs.declared.act.Act.TheVariants.{Hand, Post}
use Rattle.ipcz_rule.specs.declared.view.View.{View}
use Rattle.ipcz_rule.specs.declared.view.Part.{Part}
use Rattle.ipcz_rule.specs.Rule.{saw}
use Rattle.ipcz_rule.specs.Batches.{BatchMine, BatchTurns}
use Rattle.ipcz_rule.specs.TableRuns.{TurnStep, Ruled, after_step, AreSteps}

-- a step is a load: no act, it leaves the word as it was found, and its seat has that number seen and nothing else changed. So is an exchange
-- that finds another number than the one it was for
pub record IsLoad (count size : ℕ) (alone : Bool) (p : Ruled count size alone) (turns : List (ℕ × Act)) (t : TurnStep count size alone p.0 turns) : Type 0 where
  pub none : turns ≡ []
  pub same : t.change (slice_index p.0.words t.word) ≡ slice_index p.0.words t.word
  pub view : (t.allowed p.0 p.1 refl t.there t.small).0 ≡ saw t.word (slice_index p.0.words t.word) t.me.0

-- so a step of a kind is one wherever a test of the number found fails, if it tells that this number was seen then and nothing else of its
-- seat has changed, that the word is left, and that it is no act
abbrev pub SightsAreLoads : Type 0
SightsAreLoads =
    (count size : ℕ) (alone : Bool) (id i : ℕ) (me : BatchMine) (change : ℕ → ℕ) (acts : ℕ → List (ℕ × Act)) (hit : ℕ → Bool) (p : Ruled count size alone) →
    BatchTurns alone count size (length p.0.homes) id me i change acts (λ n left. hit n ≡ false → left ≡ (saw i n me.0, me.1)) →
    get_elem? p.0.views id ≡ some me.0 → slice_index p.0.words i < 18446744073709551616 → hit (slice_index p.0.words i) ≡ false →
    change (slice_index p.0.words i) ≡ slice_index p.0.words i → acts (slice_index p.0.words i) ≡ [] →
    (t : TurnStep count size alone p.0 []) × IsLoad count size alone p [] t

-- a step is no act, or one, or a hand and the post behind it
abbrev pub IsOneAtMost : List (ℕ × Act) → Type 0
IsOneAtMost turns =
    (turns ≡ []) ⊎ (((turn : ℕ × Act) × (turns ≡ turn ∷ [])) ⊎ ((from : ℕ) × (to : ℕ) × (turns ≡ (to, Hand from) ∷ (from, Post to) ∷ [])))

-- the steps of a seat are loads, and each of another seat is one act at most, or a hand and the post behind it
abbrev pub OnlyLoads : (count size : ℕ) (alone : Bool) (id : ℕ) (p : Ruled count size alone) (steps : List (List (ℕ × Act))) (q : Ruled count size alone) →
    AreSteps count size alone p steps q → Type 0
OnlyLoads count size alone id p [] q run = Unit {0}
OnlyLoads count size alone id p (turns ∷ steps) q run =
    MatchBool (nat_eq run.0.seat id) (IsLoad count size alone p turns run.0) (IsOneAtMost turns) ×
    OnlyLoads count size alone id (after_step count size alone p turns run.0) steps q run.1

-- behind the first k steps of a seat, and before its next, lies an act of another seat on the word i
abbrev pub IsOvertaken : (count size : ℕ) (alone : Bool) (id i k : ℕ) (p : Ruled count size alone) (steps : List (List (ℕ × Act))) (q : Ruled count size alone) →
    AreSteps count size alone p steps q → Type 0
IsOvertaken count size alone id i k p [] q run = ⊥
IsOvertaken count size alone id i k p (turns ∷ steps) q run = MatchBool (nat_eq run.0.seat id)
    ((j : ℕ) × (k ≡ suc j) × IsOvertaken count size alone id i j (after_step count size alone p turns run.0) steps q run.1)
    (((k ≡ 0) × (run.0.word ≡ i) × (turns ≢ [])) ⊎ IsOvertaken count size alone id i k (after_step count size alone p turns run.0) steps q run.1)

-- in a run in which the seat only loads it has seen these numbers more
pub record HasSeenMore (count size : ℕ) (alone : Bool) (id : ℕ) (p : Ruled count size alone) (steps : List (List (ℕ × Act))) (q : Ruled count size alone)
    (run : AreSteps count size alone p steps q) (v v' : View) (more : List (ℕ × ℕ)) : Type 0 where
  pub loads : OnlyLoads count size alone id p steps q run
  pub first : get_elem? p.0.views id ≡ some v
  pub last : get_elem? q.0.views id ≡ some v'
  pub seen : v'.seen ≡ v.seen ++ more

-- if it has found a link word or the claim count at one number and then at another, another seat has taken an act on that word between
abbrev pub RacedIsOvertaken : Type 0
RacedIsOvertaken =
    (count size : ℕ) (alone : Bool) (id i n found : ℕ) (p q : Ruled count size alone) (steps : List (List (ℕ × Act))) (run : AreSteps count size alone p steps q) (v v' : View)
    (before : List (ℕ × ℕ)) → HasSeenMore count size alone id p steps q run v v' (before ++ (i, n) ∷ (i, found) ∷ []) → i ≤ size → found ≢ n →
    IsOvertaken count size alone id i (suc (length before)) p steps q run

-- a node waits for the mailbox of the word i at n: it is full, and to the node; or it is empty, and from the node
abbrev pub IsWaitedFor : ℕ → ℕ → Part → ℕ → ℕ → Type 0
IsWaitedFor count size x i n =
    ((from : ℕ) × (from < count) × (i ≡ size + 1 + count + (from * count + x.node)) × (n ≡ 1)) ⊎
    ((to : ℕ) × (to < count) × (i ≡ size + 1 + count + (x.node * count + to)) × (n ≡ 0))

-- such a mailbox it finds so again
abbrev pub WaitedForStays : Type 0
WaitedForStays =
    (count size : ℕ) (alone : Bool) (id i n found : ℕ) (p q : Ruled count size alone) (steps : List (List (ℕ × Act))) (run : AreSteps count size alone p steps q) (v v' : View) (x : Part)
    (before : List (ℕ × ℕ)) → HasSeenMore count size alone id p steps q run v v' (before ++ (i, n) ∷ (i, found) ∷ []) → v.parts ≡ x ∷ [] →
    IsWaitedFor count size x i n → found ≡ n
