-- What a seat knows by the rule: that its own node is sound and has no strays, and that what it finds at a link is a link word.
use Rattle.std.specs.Prelude.{◌≡◌, ◌<◌, ℕ, Bool, true, false, ◌&&◌, Some, [], ◌∷◌, slice_index, refl}
use Rattle.std.proofs.Common.{arith, ap, ◌∙◌, sym, subst}
use mathlib.Core.Option.{some}
use lib.ListN.{get_elem?}
use Rattle.ipcz_base.specs.declared.side.Side.{Side}
use Rattle.ipcz_base.specs.declared.side.Side.TheVariants.{A, B}
use Rattle.ipcz_word.specs.SideSets.{Sides, has}
use Rattle.ipcz_word.specs.Laws.{HasNode}
use Rattle.ipcz_word.specs.Layout.{bits_of, bits_beside, idle_bits}
use Rattle.ipcz_word.specs.Word.{Word, OneHolder}
use Rattle.ipcz_word.proofs.Return.{sets_small, valid_bits}
use Rattle.ipcz_router.specs.Router.{Router, source_of}
use Rattle.ipcz_node.specs.Node.{Node, router_in}
use Rattle.ipcz_world.specs.World.{node_at, word_at}
use Rattle.ipcz_world.specs.Coding.{IsLinkNumber}
use Rattle.ipcz_world.specs.Soundness.{IsSound}
use Rattle.ipcz_world.proofs.Whole.{nodes_are_sound, lawful_worlds_give_the_headline}
use Rattle.ipcz_rule.specs.declared.view.View.{View}
use Rattle.ipcz_rule.specs.declared.view.Part.{Part}
use Rattle.ipcz_rule.specs.Rule.{St, Rules, Spells}
use Rattle.ipcz_rule.proofs.FromLaws.{source_is_node}
use Rattle.ipcz_rule.proofs.Moved.{spelled}

-- a part that spells a lawful world is of a sound node
pub sound_spelled : {count size : ℕ} (s : St) (r : Rules count size s) (p : Part) → Spells s.words r.world p → IsSound count size p.node p.state
sound_spelled {count} {size} s r p sp =
    subst (λ (x : Node). IsSound count size p.node x) sp.state
    (subst (λ (c : ℕ). IsSound c size p.node (node_at r.world p.node)) r.nodes
    (subst (λ (z : ℕ). IsSound r.world.count z p.node (node_at r.world p.node)) r.words
    (nodes_are_sound r.world r.books r.routes p.node r.lawful sp.inside)))

-- the own node is sound
pub sound_part : {count size : ℕ} (s : St) (r : Rules count size s) (id : ℕ) (v : View) (p : Part) → get_elem? s.views id ≡ some v → v.parts ≡ p ∷ [] → IsSound count size p.node p.state
sound_part s r id v p at is = sound_spelled s r p (spelled s r id v p at is)

-- a router of the own node would name a node, or none
pub named_part : {count size : ℕ} (s : St) (r : Rules count size s) (id : ℕ) (v : View) (p : Part) (serial : ℕ) (rt : Router) → get_elem? s.views id ≡ some v → v.parts ≡ p ∷ [] → router_in p.state serial ≡ Some rt →
    HasNode (source_of rt)
named_part s r id v p serial rt at is there =
    let sp = spelled s r id v p at is in
    source_is_node r.world r.books r.routes p.node serial rt r.lawful sp.inside (ap (λ (x : Node). router_in x serial) sp.state ∙ there)

-- the own node has no strays
pub no_strays : {count size : ℕ} (s : St) (r : Rules count size s) (p : Part) → Spells s.words r.world p → p.state.strays ≡ []
no_strays s r p sp = ap (λ (x : Node). x.strays) (sym sp.state) ∙ r.strays.none p.node

one_side : (x : Sides) → ((s t : Side) → has x s ≡ true → has x t ≡ true → s ≡ t) → (has x A && has x B) ≡ false
one_side x once = go (has x A) (has x B) refl refl
  where
    apart : A ≡ B → ⊥
    apart e = absurd (subst is_a e tt)
      where
        is_a : Side → Type 0
        is_a A = Unit {0}
        is_a B = ⊥

    go : (a b : Bool) → has x A ≡ a → has x B ≡ b → (a && b) ≡ false
    go true true e f = absurd (apart (once A B e f))
    go true false e f = refl
    go false b e f = refl

-- the sets take no more than six bits, and the source begins at the ninth
idle_none : (x : Word) → idle_bits (bits_of x) ≡ 0
unfolding bits_of
idle_none x = omega (arith, sets_small x)

-- the number of a word that at most one side holds, and that names a node or none
pub number_valid : (x : Word) → OneHolder x → HasNode x.source → IsLinkNumber (bits_of x)
number_valid x once named = record { word = valid_bits x once named; idle = idle_none x }

-- nothing stands in addition to the number of a link word
pub number_alone : (n : ℕ) (x : Word) → IsLinkNumber n → bits_beside n x ≡ bits_of x
number_alone n x is = omega (arith, is.idle)

-- what stands at a link is a link word
pub found_word : {count size : ℕ} (s : St) (r : Rules count size s) (i : ℕ) → i < size → IsLinkNumber (slice_index s.words i)
found_word s r i inside =
    let x = word_at r.world i in
    let once = (lawful_worlds_give_the_headline r.world r.books r.routes r.lawful).locked_once i in
    subst IsLinkNumber (sym (r.shows.links i (rw r.words inside))) (number_valid x (one_side x.holder once) (r.sources i))
