-- A probed mailbox is given back, and so is the slot of a message in hand.
use Rattle.std.specs.Prelude.{◌≡◌, ◌≢◌, ◌<◌, ◌+◌, ◌*◌, ℕ, zero, suc, true, nat_eq, List, [], length, slice_index, Some, None, is_some, refl, Bool}
use Rattle.std.proofs.Common.{arith, ap, ◌∙◌, sym, inl, inr, subst, set, length-set, get_or-set_same, get_or-set_other}
use Rattle.std.proofs.lemmas.Bool.Decides.{nat_tests}
use mathlib.Core.Option.{some}
use mathlib.Core.Option as maybe
use mathlib.Core.Logic.{dite}
use native.Mathlib.Decide.{ℕ_discrete}
use lib.ListN.{get_elem?}
use Rattle.atomic_table.specs.Table.{Act as TableAct, Valid, stepped, carried_after, gives}
use Rattle.atomic_table.proofs.Lists.{set_here, set_else}
use Rattle.ipcz_world.specs.declared.mail.Mail.{Mail}
use Rattle.ipcz_world.specs.declared.mail.Mail.TheVariants as mails
use Rattle.ipcz_world.specs.World.{mail_at, way}
use Rattle.ipcz_world.specs.Turns.{hand_message}
use Rattle.ipcz_rule.specs.declared.view.View.{View}
use Rattle.ipcz_rule.specs.declared.view.Part.{Part}
use Rattle.ipcz_rule.specs.Rule.{Slot, Mine, has_number, without_number, mailbox, MailAt, Spells, with_part, saw}
use Rattle.ipcz_rule.specs.Steps.{unprobe_part}
use Rattle.ipcz_rule.specs.Kinds.{Follows, IsKept, IsTurns, Unprobes, GivesBack}
use Rattle.ipcz_rule.proofs.KeptEnds.{turns_keep}
use Rattle.ipcz_rule.proofs.FromLaws.{hand_stands, hand_sender}
use Rattle.ipcz_rule.proofs.Joins.{joined_same}
use Rattle.ipcz_rule.proofs.Moved.{spelled}
use Rattle.ipcz_rule.proofs.Mailing.{MailMoves, way_low, way_first, way_second, mail_rules}
use Rattle.ipcz_rule.proofs.Posting.{no_hand, without_itself, without_other, three_stays}

pub unprobes_turns : Unprobes IsTurns
unprobes_turns count size slots id i k to m p rest is at_k at_i small_to has slot s r deep at small =
    let w = r.world in
    let n : ℕ = p.node in
    let sp = spelled s r id m.0 p at is in
    let n_in = sp.inside in
    let c = r.nodes in
    let z = r.words in
    let to_in : to < w.count = omega (arith, c, small_to) in
    let kk : k ≡ way w n to = at_k ∙ ap (λ q. n * q + to) (sym c) in
    let index : i ≡ mailbox w k = omega (arith, at_i, c, z) in
    let inside : k < w.count * w.count = let h = way_low w.count n w.count to 0 to_in n_in in omega (arith, kk) in
    let wide = r.shows.wide in
    let deep_is = r.shows.deep in
    let here : slice_index s.words (mailbox w (way w n to)) ≡ 3 = let e = sym (sp.probed to to_in) ∙ has in grind (arith, e, nat_tests) in
    let word : slice_index s.words (mailbox w k) ≡ 3 = ap (λ q. slice_index s.words (mailbox w q)) kk ∙ here in
    let empty : mail_at w k ≡ mails.Empty = subst (λ q. MailAt q (get_elem? s.homes k) (mail_at w k)) word (r.shows.mail k inside) in
    let p' = unprobe_part to p in
    let moves : MailMoves w w p.node p.state k mails.Empty = record { count = refl; size = refl; claimed = refl; words = λ j. refl; node = sp.state; nodes = λ j ne. refl; mail = empty; mails = λ j ne. refl } in
    let not_hand : (q : Part) → Spells s.words w q → (from : ℕ) → q.state.hand ≡ Some from → way w from q.node ≢ k =
    λ q sq from e same. no_hand (mail_at w (way w from q.node)) (ap (mail_at w) same ∙ empty) (hand_stands w r.books r.routes q.node from r.lawful sq.inside (ap (λ y. y.hand) sq.state ∙ e)) in
    let homes' = set s.homes k (some None) in
    let long : i < length s.words = omega (arith, index, inside, wide) in
    let rules = mail_rules count size s r id m.0 (with_part p' m.0) p p' w r.routes i k 0 homes' mails.Empty at is refl (refl, inl refl, refl) moves index inside (length-set s.homes k (some None))
    (λ j ne. set_else s.homes k j (some None) ne) (set_here s.homes k (some None) (omega (arith, inside, deep_is)), refl) refl refl r.books (joined_same s.views id m.0 (with_part p' m.0) p p' r.books at is refl refl refl refl r.joined)
    sp.message
    (λ t l. dite (ℕ_discrete t to)
    (λ e. ap (has_number (without_number p.probed to)) e ∙ (without_itself p.probed to ∙ sym (ap (λ q. nat_eq q 3)
    (ap (λ q. slice_index (set s.words i 0) (mailbox w (way w n q))) e ∙ (ap (slice_index (set s.words i 0)) (ap (mailbox w) (sym kk) ∙ sym index) ∙ get_or-set_same s.words i 0 0 long)))))
    (λ ne. without_other p.probed to t ne ∙ (sp.probed t l ∙ ap (λ q. nat_eq q 3) (sym (get_or-set_other s.words i (mailbox w (way w n t)) 0 0
    (λ e. way_second w.count n n t to l to_in ne (omega (arith, e, index, kk))))))))
    (λ q sq ne from e. not_hand q sq from e)
    (λ q ne t l e. absurd (way_first w.count q.node n t to l to_in ne (e ∙ kk)))
    (λ e a b la lb same. absurd (omega (arith, e))) r.lawful [] (refl, refl, refl) in
    let Told : Mine → Type 0 = λ m'. m' ≡ (with_part p' m.0, rest) in
    let G : List (ℕ × Slot) → Type 0 = λ held. (v : View) × (a : TableAct Slot) × Valid s.homes held a × Follows count size s r [] (stepped s i 0 id held v a) × Told (v, carried_after held a) in
    subst G (sym slot) (with_part p' m.0, gives, tt, rules, refl)

pub unprobes : (all : Bool) → Unprobes (IsKept all)
unprobes all count size slots id i k to m p rest is at_k at_i small_to has slot s r deep at small =
    let t = unprobes_turns count size slots id i k to m p rest is at_k at_i small_to has slot s r deep at small in (t.0, t.1, t.2, turns_keep all count size s _ r [] (λ e j side g. g) t.3, t.4)

-- a mailbox at 2 shows its mail whatever its slot
pub any_home : (n : ℕ) (home other : maybe.Option (maybe.Option Slot)) (x : Mail) → is_some (hand_message x) ≡ true → MailAt n home x → (n ≡ 2) × MailAt n other x
unfolding hand_message
any_home zero home other x h e = absurd (no_hand x e.1 h)
any_home (suc zero) home other x h e = absurd (full x e.0 e.2 h)
  where
    full : (x : Mail) (y : _) → x ≡ mails.Full y → is_some (hand_message x) ≡ true → ⊥
    full mails.Empty y q h = cc
    full (mails.Full z) y q h = cc
    full (mails.Hand z) y q h = cc
any_home (suc (suc zero)) home other x h e = (refl, e)
any_home (suc (suc (suc zero))) home other x h e = absurd (no_hand x e h)
any_home (suc (suc (suc (suc n)))) home other x h e = absurd e

pub gives_back_turns : GivesBack IsTurns
gives_back_turns count size slots id i k from m p y rest is at_k at_i holds slot s r deep at small =
    let w = r.world in
    let n : ℕ = p.node in
    let word : ℕ = slice_index s.words i in
    let sp = spelled s r id m.0 p at is in
    let n_in = sp.inside in
    let c = r.nodes in
    let z = r.words in
    let hand_is = ap (λ y. y.hand) sp.state ∙ holds in
    let from_in = hand_sender w r.books r.routes n from r.lawful n_in hand_is in
    let kk : k ≡ way w from n = at_k ∙ ap (λ q. from * q + n) (sym c) in
    let index : i ≡ mailbox w k = omega (arith, at_i, c, z) in
    let inside : k < w.count * w.count = let h = way_low w.count from w.count n 0 n_in from_in in omega (arith, kk) in
    let wide = r.shows.wide in
    let stands : is_some (hand_message (mail_at w k)) ≡ true = ap (λ q. is_some (hand_message (mail_at w q))) kk ∙ hand_stands w r.books r.routes n from r.lawful n_in hand_is in
    let homes' = set s.homes k (some y) in
    let shown = any_home (slice_index s.words (mailbox w k)) (get_elem? s.homes k) (get_elem? homes' k) (mail_at w k) stands (r.shows.mail k inside) in
    let moves : MailMoves w w p.node p.state k (mail_at w k) = record { count = refl; size = refl; claimed = refl; words = λ j. refl; node = sp.state; nodes = λ j ne. refl; mail = refl; mails = λ j ne. refl } in
    let long : i < length s.words = omega (arith, index, inside, wide) in
    let v' = saw i word m.0 in
    let at_word : MailAt word (get_elem? homes' k) (mail_at w k) = subst (λ q. MailAt (slice_index s.words q) (get_elem? homes' k) (mail_at w k)) (sym index) shown.1 in
    let rules = mail_rules count size s r id m.0 v' p p w r.routes i k word homes' (mail_at w k) at is is (refl, inr (i, refl), refl) moves index inside (length-set s.homes k (some y))
    (λ j ne. set_else s.homes k j (some y) ne) at_word refl refl r.books (joined_same s.views id m.0 v' p p r.books at is is refl refl refl r.joined)
    sp.message
    (λ t l. sp.probed t l ∙ three_stays s.words i word (mailbox w (way w n t)) long refl)
    (λ q sq ne a e same. way_second w.count a from q.node n sq.inside n_in ne (same ∙ kk))
    (λ q ne t l e. refl)
    (λ e a b la lb same. r.inboxes.full a b la lb (ap (slice_index s.words) (ap (mailbox w) same ∙ sym index) ∙ e)) r.lawful [] (refl, refl, refl) in
    let Told : Mine → Type 0 = λ m'. m' ≡ (v', rest) in
    let G : List (ℕ × Slot) → Type 0 = λ held. (v : View) × (a : TableAct Slot) × Valid s.homes held a × Follows count size s r [] (stepped s i word id held v a) × Told (v, carried_after held a) in
    subst G (sym slot) (v', gives, tt, rules, refl)

pub gives_back : (all : Bool) → GivesBack (IsKept all)
gives_back all count size slots id i k from m p y rest is at_k at_i holds slot s r deep at small =
    let t = gives_back_turns count size slots id i k from m p y rest is at_k at_i holds slot s r deep at small in (t.0, t.1, t.2, turns_keep all count size s _ r [] (λ e j side g. g) t.3, t.4)
