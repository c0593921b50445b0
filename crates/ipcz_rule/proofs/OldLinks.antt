-- The old link of an AcceptBypass in hand: it has a word of the table, which names the sender.
use Rattle.std.specs.Prelude.{◌≡◌, ◌<◌, ℕ, Bool, true, false, nat_lt, if◌then◌else◌, Option, Some, None, refl}
use Rattle.std.proofs.Common.{arith, ap, ◌∙◌, sym}
use Rattle.std.proofs.lemmas.Bool.Decides.{nat_tests}
use Rattle.ipcz_base.specs.declared.message.Message.{Message}
use Rattle.ipcz_base.specs.declared.message.Message.TheVariants as messages
use Rattle.ipcz_node.specs.Node.{Node}
use Rattle.ipcz_world.specs.World.{World, word_at}
use Rattle.ipcz_world.specs.WordAnswers.{source_for}
use Rattle.ipcz_world.specs.Routes.{hand_of}
use Rattle.ipcz_world.proofs.Whole.{lists_have_lengths}
use Rattle.ipcz_rule.specs.declared.view.Part.{Part}
use Rattle.ipcz_rule.specs.Rule.{St, Rules, Spells}
use Rattle.ipcz_rule.specs.RuleLaws.{OldLinksAreWords}
use Rattle.ipcz_rule.specs.Steps.{old_word, trusted}
use Rattle.ipcz_rule.proofs.FromLaws.{hand_sender, hand_source}
use Rattle.ipcz_rule.proofs.Posting.{in_hand}

picked : (b : Bool) (x : Option ℕ) (from : ℕ) → (if b then x else None) ≡ Some from → (b ≡ true) × (x ≡ Some from)
picked true x from h = (refl, h)
picked false x from h = cc

-- the source that is given for a message in hand, if it names an old link, is that of this link's word
told_source : (w : World) (x : Message) (old from : ℕ) → old_word x ≡ Some old → source_for w x ≡ trusted from x → (nat_lt old w.claimed ≡ true) × ((word_at w old).source ≡ Some from)
unfolding source_for trusted
told_source w (messages.AcceptBypass o side fresh length) old from named h =
    let same : o ≡ old = grind (arith, named) in
    rw (← same) (picked (nat_lt o w.claimed) (word_at w o).source from h)
told_source w (messages.Item link side number item moves) old from named h = cc
told_source w (messages.BypassPeer link side o target fresh) old from named h = cc
told_source w (messages.StopProxying side o in_length out_length) old from named h = cc
told_source w (messages.ProxyWillStop link side in_length) old from named h = cc
told_source w (messages.Flush link side) old from named h = cc

pub old_link : {count size : ℕ} (s : St) (r : Rules count size s) (p : Part) (from old : ℕ) (x : Message) → Spells s.words r.world p → p.state.hand ≡ Some from → p.message ≡ Some x →
    old_word x ≡ Some old → (old < size) × ((word_at r.world old).source ≡ Some from)
old_link {count} {size} s r p from old x sp holds has named =
    let w = r.world in
    let held = ap (λ (y : Node). y.hand) sp.state ∙ holds in
    let from_in = hand_sender w r.books r.routes p.node from r.lawful sp.inside held in
    let src = hand_source w r.books r.routes p.node from x r.lawful sp.inside from_in (in_hand w p.node from x (ap (hand_of w p.node) (sym holds) ∙ (sp.message ∙ has))) in
    let t = told_source w x old from named src in
    let claimed = (lists_have_lengths w r.books r.routes r.lawful).claimed in
    let inside : old < size = let l : old < w.claimed = grind (arith, nat_tests, t.0) in omega (arith, l, claimed, r.words) in
    (inside, t.1)

pub old_links_are_words : OldLinksAreWords
old_links_are_words count size s r id v j p from old x seat there hand message named =
    (old_link s r p from old x (r.shows.parts id v j p seat there).1 hand message named).0
