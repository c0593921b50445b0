-- The kinds of step whose word is no mailbox's, on a table of batches: which ends each keeps.
use Rattle.std.specs.Prelude.{◌≡◌, ℕ, Bool, true, List, [], ◌∷◌, None, refl}
use Rattle.ipcz_router.specs.Router.{Router}
use Rattle.ipcz_router.specs.declared.act.RouterAct.{RouterAct}
use Rattle.ipcz_router.specs.declared.act.Answer.TheVariants as answers
use Rattle.ipcz_node.specs.declared.act.Act.TheVariants as acts
use Rattle.ipcz_world.specs.Wordless.{is_wordless}
use Rattle.ipcz_rule.specs.declared.view.Part.{Part}
use Rattle.ipcz_rule.specs.Deeds.{Deed}
use Rattle.ipcz_rule.specs.GivenUp.{GivesEnd}
use Rattle.ipcz_rule.specs.Rule.{with_part}
use Rattle.ipcz_rule.specs.Steps.{act_part, CanAct}
use Rattle.ipcz_rule.specs.Kinds.{Loads, Puts, Gets, Closes, PendingCloses, Dries, Wets, Marks, Wakes, Unlocks, TriesLock, LoadsForLock, LoadsForClaim, Opens, Announces, LoadsForPost, LoadsForHand, Notes, KeepsEnds}
use Rattle.ipcz_rule.specs.Batches.{BatchMine, BatchKept, shown_part}
use Rattle.ipcz_rule.proofs.BatchSteps.{KnownBy, BatchBy, by_kept}
use Rattle.ipcz_rule.proofs.BatchedKinds as plain
use Rattle.ipcz_rule.proofs.WordKinds as words
use Rattle.ipcz_rule.proofs.Announcing as announcing
use Rattle.ipcz_rule.proofs.Calling as calling
use Rattle.ipcz_rule.proofs.Claiming as claiming
use Rattle.ipcz_rule.proofs.Dropping as dropping
use Rattle.ipcz_rule.proofs.Opening as opening
use Rattle.ipcz_rule.proofs.Putting as putting
use Rattle.ipcz_rule.proofs.RunningDry as running_dry
use Rattle.ipcz_rule.proofs.Wetting as wetting
use Rattle.ipcz_rule.proofs.Writing as writing

-- whichever deeds a step is
abbrev pub deeds_kept : Bool → KnownBy (List Deed)
deeds_kept all deeds w b g w' b' g' = KeepsEnds all w w'

pub loads : (alone all : Bool) → Loads (BatchKept alone all)
loads alone all = plain.loads (by_kept all) alone (words.loads all)

pub pending_closes : (alone all : Bool) → PendingCloses (BatchKept alone all)
pending_closes alone all = plain.pending_closes (by_kept all) alone (calling.pending_closes all)

pub marks : (alone all : Bool) → Marks (BatchKept alone all)
marks alone all = plain.marks (by_kept all) alone (words.marks all)

pub wakes : (alone all : Bool) → Wakes (BatchKept alone all)
wakes alone all = plain.wakes (by_kept all) alone (words.wakes all)

pub unlocks : (alone all : Bool) → Unlocks (BatchKept alone all)
unlocks alone all = plain.unlocks (by_kept all) alone (words.unlocks all)

pub tries_lock : (alone all : Bool) → TriesLock (BatchKept alone all)
tries_lock alone all = plain.tries_lock (by_kept all) alone (words.tries_lock all)

pub loads_for_lock : (alone all : Bool) → LoadsForLock (BatchKept alone all)
loads_for_lock alone all = plain.loads_for_lock (by_kept all) alone (words.loads_for_lock all)

pub loads_for_claim : (alone all : Bool) → LoadsForClaim (BatchKept alone all)
loads_for_claim alone all = plain.loads_for_claim (by_kept all) alone (claiming.loads_for_claim all)

pub announces : (alone all : Bool) → Announces (BatchKept alone all)
announces alone all = plain.announces (by_kept all) alone (announcing.announces all)

pub loads_for_post : (alone all : Bool) → LoadsForPost (BatchKept alone all)
loads_for_post alone all = plain.loads_for_post (by_kept all) alone (announcing.loads_for_post all)

pub loads_for_hand : (alone all : Bool) → LoadsForHand (BatchKept alone all)
loads_for_hand alone all = plain.loads_for_hand (by_kept all) alone (words.loads_for_hand all)

pub notes : (alone all : Bool) → Notes (BatchKept alone all)
notes alone all = plain.notes (by_kept all) alone (writing.notes all)

pub puts : (alone all : Bool) → Puts (BatchBy alone (deeds_kept all))
puts alone all = plain.puts (deeds_kept all) alone (putting.puts all)

pub gets : (alone all : Bool) → Gets (BatchBy alone (deeds_kept all))
gets alone all = plain.gets (deeds_kept all) alone (calling.gets all)

pub closes : (alone all : Bool) → Closes (BatchBy alone (deeds_kept all))
closes alone all = plain.closes (deeds_kept all) alone (calling.closes all)

pub dries : (alone all : Bool) → Dries (BatchBy alone (deeds_kept all))
dries alone all = plain.dries (deeds_kept all) alone (running_dry.dries all)

pub wets : (alone all : Bool) → Wets (BatchBy alone (deeds_kept all))
wets alone all = plain.wets (deeds_kept all) alone (wetting.wets all)

pub opens : (alone all : Bool) → Opens (BatchBy alone (deeds_kept all))
opens alone all = plain.opens (deeds_kept all) alone (opening.opens all)

-- an act of a router without a word keeps all ends if it gives none up
pub touches_acts : (alone all : Bool) (count size slots id i : ℕ) (m : BatchMine) (p : Part) (serial : ℕ) (r : Router) (act : RouterAct) → m.0.parts ≡ p ∷ [] →
    CanAct p.state serial r act → is_wordless act ≡ true → (all ≡ true → GivesEnd p.state (acts.Router serial act) None) →
    BatchKept alone all count size slots id m i (λ n. n) (λ n. (p.node, acts.Router serial act) ∷ [])
    (λ n m'. m' ≡ (with_part (act_part (acts.Router serial act) answers.Plain p) m.0, m.1))
touches_acts alone all count size slots id i m p serial r act is can touch none = plain.part_step count size alone slots id m p i is
    (by_kept all ((p.node, acts.Router serial act) ∷ [])) (act_part (acts.Router serial act) answers.Plain p) (λ fronts. act_part (acts.Router serial act) answers.Plain (shown_part fronts p))
    (plain.act_node (acts.Router serial act) answers.Plain p) (plain.act_batches (acts.Router serial act) answers.Plain p)
    (λ fronts. plain.act_shown fronts (acts.Router serial act) answers.Plain p refl)
    (λ fronts u f. dropping.touches_acts all count size slots id i (u, []) (shown_part fronts p) serial r act (plain.part_there f is)
    (plain.can_there (fronts p.node) p.state serial r act can) touch none)
