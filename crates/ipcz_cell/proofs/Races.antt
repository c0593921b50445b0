-- A call that is answered Raced was overtaken.
use Rattle.std.specs.Prelude.{◌≡◌, ◌≢◌, ◌≤◌, ◌⊎◌, ◌+◌, ℕ, suc, not, [], ◌∷◌, ◌++◌, List, length, Some, None, Result, Err, unwrap_or}
use Rattle.std.proofs.Common.{arith, ap, sym, ◌∙◌, inl, inr, append_assoc}
use Rattle.std.proofs.lemmas.List.{length-append}
use Rattle.ipcz_base.specs.declared.end.End.{End}
use Rattle.ipcz_base.specs.declared.refusal.Refusal.{Refusal}
use Rattle.ipcz_base.specs.declared.refusal.Refusal.TheVariants.{OutOfMemory, Raced}
use Rattle.ipcz_node.specs.declared.act.Act.{Act}
use Rattle.ipcz_node.specs.Node.{Node}
use Rattle.ipcz_node.specs.Calls.{serials_refusal}
use Rattle.ipcz_rule.specs.TableRuns.{Ruled, AreSteps}
use Rattle.ipcz_rule.specs.Races.{HasSeenMore, IsWaitedFor}
use Rattle.ipcz_rule.proofs.Races.{raced_is_overtaken}
use Rattle.ipcz_rule.proofs.MailRaces.{waited_for_stays}
use Rattle.ipcz_cell.specs.TableNames.{TableName}
use Rattle.ipcz_cell.specs.CellStates.{CellState}
use Rattle.ipcz_cell.specs.TurnEnds.{IsRefused, NoSerials, NoMemory, LostIt, EndsRaced, IsLostTurn}
use Rattle.ipcz_cell.specs.Claims.{Answered}
use Rattle.ipcz_cell.specs.Claims.{Got, Dry, Slotless, Lost}
use Rattle.ipcz_cell.specs.Opens as opens
use Rattle.ipcz_cell.specs.Opens.{ClaimsForOpen}
use Rattle.ipcz_cell.specs.Races.{IsRunOf, IsOvertakenCall, RacedTurnIsOvertaken, RacedTryIsOvertaken, RacedClaimIsOvertaken, RacedOpenIsOvertaken}

-- the numbers that a call has seen end with two of one word
module _ (t : TableName) (id : ℕ) (p q : Ruled t.count t.size (not t.reuses)) (steps : List (List (ℕ × Act))) (run : AreSteps t.count t.size (not t.reuses) p steps q)
    (old new : CellState) (call : IsRunOf t id p steps q run old new) where
  more : (loads : List (ℕ × ℕ)) → new.seen ≡ old.seen ++ loads → HasSeenMore t.count t.size (not t.reuses) id p steps q run call.first call.last loads
  more loads e = record {
    loads = call.loads;
    first = call.before;
    last = call.behind;
    seen = call.seen_behind ∙ (e ∙ ap (λ (l : List (ℕ × ℕ)). l ++ loads) (sym call.seen_before));
  }

  overtaken : (before : List (ℕ × ℕ)) (i n found : ℕ) → new.seen ≡ old.seen ++ (before ++ (i, n) ∷ (i, found) ∷ []) → found ≢ n → i ≤ t.size →
      IsOvertakenCall t id p steps q run old new
  overtaken before i n found e apart low = record {
    word = i;
    is_shared = low;
    earlier = suc (length before);
    all = ap length e ∙ (length-append old.seen (before ++ (i, n) ∷ (i, found) ∷ []) ∙ count);
    overtaken = raced_is_overtaken t.count t.size (not t.reuses) id i n found p q steps run call.first call.last before (more _ e) low apart;
  }
    where
      count : length old.seen + length (before ++ (i, n) ∷ (i, found) ∷ []) ≡ length old.seen + suc (suc (length before))
      count = let h = length-append before ((i, n) ∷ (i, found) ∷ []) in omega (arith, h)

  unraced : {X : Type 0} (before : List (ℕ × ℕ)) (i n found : ℕ) → new.seen ≡ old.seen ++ (before ++ (i, n) ∷ (i, found) ∷ []) → found ≢ n →
      IsWaitedFor t.count t.size old.part i n → X
  unraced before i n found e apart waits = absurd (apart (waited_for_stays t.count t.size (not t.reuses) id i n found p q steps run call.first call.last old.part before
      (more _ e) call.part waits))

  two : (i n found : ℕ) → new.seen ≡ (old.seen ++ (i, n) ∷ []) ++ (i, found) ∷ [] → new.seen ≡ old.seen ++ ([] ++ (i, n) ∷ (i, found) ∷ [])
  two i n found e = e ∙ append_assoc old.seen ((i, n) ∷ []) ((i, found) ∷ [])

  ends : (seen : List (ℕ × ℕ)) → new.seen ≡ old.seen ++ seen → EndsRaced t old.part seen → IsOvertakenCall t id p steps q run old new
  ends seen e h = go h.of
    where
      is : new.seen ≡ old.seen ++ (h.before ++ (h.word, h.loaded) ∷ (h.word, h.exchanged) ∷ [])
      is = e ∙ ap (λ (l : List (ℕ × ℕ)). old.seen ++ l) h.last

      go : (h.word ≤ t.size) ⊎ IsWaitedFor t.count t.size old.part h.word h.loaded → IsOvertakenCall t id p steps q run old new
      go (inl low) = overtaken h.before h.word h.loaded h.exchanged is h.differ low
      go (inr waits) = unraced h.before h.word h.loaded h.exchanged is h.differ waits

  refused : (loads found : List (ℕ × ℕ)) (act : Act) → new.seen ≡ old.seen ++ (loads ++ found) →
      IsRefused t.size old.part act (IsLostTurn t old.part act loads found) Raced found → IsOvertakenCall t id p steps q run old new
  refused loads found act e (NoSerials a b c) = cc
  refused loads found act e (NoMemory a b c d f) = cc
  refused loads found act e (LostIt a h) = ends (loads ++ found) e h.ends

  low : t.size ≤ t.size
  low = omega arith

  claimed : (serial : ℕ) → Answered t serial old new (Err Raced) → IsOvertakenCall t id p steps q run old new
  claimed serial (Got c n e number reached part seen) = cc
  claimed serial (Dry e part seen) = cc
  claimed serial (Slotless c e again less part seen none) = cc
  claimed serial (Lost n found e apart part seen) = overtaken [] t.size n found (two t.size n found seen) apart low

  claimed_for_open : ClaimsForOpen t old new (Err Raced) → IsOvertakenCall t id p steps q run old new
  claimed_for_open (opens.Claimed c n e number reached part seen) = cc
  claimed_for_open (opens.Exhausted e seen) = cc
  claimed_for_open (opens.Slotless c e again less part seen none) = cc
  claimed_for_open (opens.Outrun n found e apart part seen) = overtaken [] t.size n found (two t.size n found seen) apart low

pub raced_turn_is_overtaken : RacedTurnIsOvertaken
raced_turn_is_overtaken t id p q steps run old new call h =
    refused t id p q steps run old new call h.loads h.found h.act h.seen h.outcome.1

pub raced_try_is_overtaken : RacedTryIsOvertaken
raced_try_is_overtaken serial t id p q steps run old new call h =
    overtaken t id p q steps run old new call [] h.word h.loaded h.tried.1.0 (two t id p q steps run old new call h.word h.loaded h.tried.1.0 h.tried.1.3)
    h.tried.1.1 (let l = h.inside in omega arith)

pub raced_claim_is_overtaken : RacedClaimIsOvertaken
raced_claim_is_overtaken None t id p q steps run old new call h = claimed_for_open t id p q steps run old new call h
raced_claim_is_overtaken (Some serial) t id p q steps run old new call h = claimed t id p q steps run old new call serial h

-- an open that isn't raced
unready : (n : Node) → ◌≡◌ {A = Result (End × End) Refusal} (Err Raced) (Err (unwrap_or (serials_refusal n) OutOfMemory)) → ⊥
unready n e = grind (arith, e)

pub raced_open_is_overtaken : RacedOpenIsOvertaken
raced_open_is_overtaken t id p q steps run old new call (opens.UnderWay made e l h) = cc
raced_open_is_overtaken t id p q steps run old new call (opens.Fresh c n made e idle number reached h) = cc
raced_open_is_overtaken t id p q steps run old new call (opens.NoneLeft e idle h) = cc
raced_open_is_overtaken t id p q steps run old new call (opens.NoSlot c e again idle fine l part seen none) = cc
raced_open_is_overtaken t id p q steps run old new call (opens.Unready e part seen) = absurd (unready old.part.state e)
raced_open_is_overtaken t id p q steps run old new call (opens.Lost n found e idle fine l apart part seen) =
    overtaken t id p q steps run old new call [] t.size n found (two t id p q steps run old new call t.size n found seen) apart
    (low t id p q steps run old new call)
