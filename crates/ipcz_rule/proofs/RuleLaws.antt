-- What the rule says of the world that is shown and of each part.
use Rattle.std.specs.Prelude.{◌≡◌, ◌≤◌, ◌<◌, ◌+◌, ◌*◌, ℕ, zero, suc, List, [], ◌∷◌, length, map, take, slice_get, slice_index, Option, Some, refl}
use Rattle.std.proofs.Common.{arith, ap, ◌∙◌, sym, subst}
use mathlib.Core.Option.{some}
use lib.ListN.{get_elem?}
use Rattle.ipcz_base.specs.declared.item.Item.TheVariants.{Parcel}
use Rattle.ipcz_base.specs.Ends.{opposite_end}
use Rattle.ipcz_node.specs.Node.{Node}
use Rattle.ipcz_node.specs.Hands.{is_unfit}
use Rattle.std.specs.Int.{bit_at}
use Rattle.ipcz_rule.specs.Rule.{mailbox}
use Rattle.ipcz_world.specs.World.{World, node_at, way}
use Rattle.ipcz_world.specs.WordAnswers.{source_for}
use Rattle.ipcz_world.specs.Turns.{message_in_hand}
use Rattle.ipcz_world.specs.Routes.{hand_of}
use Rattle.ipcz_world.proofs.facts.LinkTests.{opposite_end-twice}
use Rattle.ipcz_world.proofs.Whole.{lawful_worlds_give_the_headline, lawful_worlds_owe, lists_have_lengths, messages_in_hand_fit}
use Rattle.ipcz_world.proofs.Whole.{each_step_keeps_lawful, replies_plainly}
use Rattle.ipcz_world.proofs.lawful.Rating.{turns_keep_rates}
use Rattle.ipcz_world.proofs.lawful.Turning.{turns_are_bounded}
use Rattle.ipcz_rule.specs.RuleLaws.{FullMailboxesAreAnnounced, RuleGivesHeadline, RuleOwes, RuleBoundsTurns, ShownHasLengths, PartsAreSound, PartsHandsFit, LinksAreWords, CountsWereReached, NodesHaveParts, PutsAreOnce, GetsFollowPuts}
use Rattle.ipcz_rule.proofs.Known.{sound_spelled, no_strays, found_word}
use Rattle.ipcz_rule.specs.Steps.{trusted}
use Rattle.ipcz_rule.proofs.FromLaws.{hand_sender, hand_source}
use Rattle.ipcz_rule.proofs.Posting.{in_hand}

pub rule_gives_headline : RuleGivesHeadline
rule_gives_headline count size s r = (lawful_worlds_give_the_headline r.world r.books r.routes r.lawful, r.lengths, r.strays)

pub rule_owes : RuleOwes
rule_owes count size s r = lawful_worlds_owe r.world r.books r.routes r.lawful

pub rule_bounds_turns : RuleBoundsTurns
rule_bounds_turns count size s r c turns v d h rated taken =
    turns_are_bounded each_step_keeps_lawful (turns_keep_rates each_step_keeps_lawful replies_plainly) r.world v r.books d r.routes h c turns
    r.lawful rated taken

pub full_mailboxes_are_announced : FullMailboxesAreAnnounced
full_mailboxes_are_announced count size s r from to from_in to_in full =
    let c = r.nodes in
    let z = r.words in
    let box : mailbox r.world (way r.world from to) ≡ size + 1 + count + (from * count + to) = rw (c, z) refl in
    ap (λ (i : ℕ). bit_at (slice_index s.words i) from) (sym (ap (λ (q : ℕ). q + 1 + to) z))
    ∙ r.inboxes.full from to (omega (arith, c, from_in)) (omega (arith, c, to_in)) (ap (slice_index s.words) box ∙ full)

pub shown_has_lengths : ShownHasLengths
shown_has_lengths count size s r = lists_have_lengths r.world r.books r.routes r.lawful

pub parts_are_sound : PartsAreSound
parts_are_sound count size s r id v j p seat there =
    let sp = (r.shows.parts id v j p seat there).1 in
    (rw (← r.nodes) sp.inside, sound_spelled s r p sp, no_strays s r p sp)

hand_is : (w : World) (n from : ℕ) → hand_of w n (Some from) ≡ message_in_hand w n from
unfolding hand_of
hand_is w n from = refl

pub parts_hands_fit : PartsHandsFit
parts_hands_fit count size s r id v j p from x seat there hand message unfit =
    let sp = (r.shows.parts id v j p seat there).1 in
    let w = r.world in
    let held = ap (λ (y : Node). y.hand) sp.state ∙ hand in
    let src : source_for w x ≡ trusted from x = hand_source w r.books r.routes p.node from x r.lawful sp.inside (hand_sender w r.books r.routes p.node from r.lawful sp.inside held)
    (in_hand w p.node from x (ap (hand_of w p.node) (sym hand) ∙ (sp.message ∙ message))) in
    messages_in_hand_fit w r.books r.routes p.node from x r.lawful sp.inside (ap (λ (y : Node). y.hand) sp.state ∙ hand)
    (sym (hand_is w p.node from) ∙ (ap (hand_of w p.node) (sym hand) ∙ (sp.message ∙ message)))
    (ap (λ (o : Option ℕ). is_unfit (node_at w p.node) from x o) src ∙ (ap (λ (y : Node). is_unfit y from x (trusted from x)) sp.state ∙ unfit))

pub links_are_words : LinksAreWords
links_are_words count size s r i inside = found_word s r i inside

pub counts_were_reached : CountsWereReached
counts_were_reached count size s r id v k n at seen =
    let stands : slice_index s.words size ≡ r.world.claimed = ap (slice_index s.words) (sym r.words) ∙ r.shows.claims in
    let low = r.counted id v k n at (subst (λ (c : ℕ). get_elem? v.seen k ≡ some (c, n)) (sym r.words) seen) in
    let most : r.world.claimed ≤ r.world.size = (lists_have_lengths r.world r.books r.routes r.lawful).claimed in
    let all = r.words in
    (omega (arith, stands, low), omega (arith, stands, most, all))

-- lists by index

slice_get-take : {X : Type 0} (k : ℕ) (xs : List X) (n : ℕ) (x : X) → slice_get (take k xs) n ≡ Some x → slice_get xs n ≡ Some x
slice_get-take zero xs n x h = cc
slice_get-take (suc k) [] n x h = h
slice_get-take (suc k) (y ∷ ys) zero x h = h
slice_get-take (suc k) (y ∷ ys) (suc n) x h = slice_get-take k ys n x h

slice_get-map : {X Y : Type 0} (f : X → Y) (xs : List X) (n : ℕ) (x : X) → slice_get xs n ≡ Some x → slice_get (map f xs) n ≡ Some (f x)
slice_get-map f [] n x h = cc
slice_get-map f (y ∷ ys) zero x h = grind (arith, h)
slice_get-map f (y ∷ ys) (suc n) x h = slice_get-map f ys n x h

slice_get-below : {X : Type 0} (xs : List X) (n : ℕ) (x : X) → slice_get xs n ≡ Some x → (k : ℕ) → k < n → (y : X) × (slice_get xs k ≡ Some y)
slice_get-below [] n x h k l = cc
slice_get-below (z ∷ zs) zero x h k l = absurd (omega (arith, l))
slice_get-below (z ∷ zs) (suc n) x h zero l = (z, refl)
slice_get-below (z ∷ zs) (suc n) x h (suc k) l = slice_get-below zs n x h k (omega (arith, l))

some_same : {X : Type 0} (o : Option X) (x y : X) → o ≡ Some x → o ≡ Some y → x ≡ y
some_same o x y h k = grind (arith, h, k)

pub puts_are_once : PutsAreOnce
puts_are_once count size s r e n x y h k = some_same (slice_get (r.books.put e) n) x y (r.joined.put_only e n x h) (r.joined.put_only e n y k)

pub gets_follow_puts : GetsFollowPuts
gets_follow_puts count size s r e n q h =
    let b = r.books in
    let got = r.joined.got_only e n q h in
    let prefix = (lawful_worlds_give_the_headline r.world b r.routes r.lawful).got_prefix (opposite_end e) in
    let put : slice_get (b.put (opposite_end e)) n ≡ Some (Parcel q) =
    slice_get-take (length (b.got (opposite_end (opposite_end e)))) (b.put (opposite_end e)) n (Parcel q)
    (ap (λ l. slice_get l n) prefix ∙ slice_get-map Parcel (b.got (opposite_end (opposite_end e))) n q (ap (λ d. slice_get (b.got d) n) (opposite_end-twice e) ∙ got)) in
    (r.joined.put (opposite_end e) n (Parcel q) put, λ k l. let t = slice_get-below (b.got e) n q got k l in (t.0, r.joined.got e k t.0 t.1))

pub nodes_have_parts : NodesHaveParts
nodes_have_parts count size s r = r.parts
