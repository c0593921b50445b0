-- If each node is quiet by its part and no mailbox is full, the shown world is quiet.
use Rattle.std.specs.Prelude.{◌≡◌, ◌≢◌, ◌⊎◌, ◌<◌, ◌≤◌, ◌-◌, nat_lt, ◌+◌, ◌*◌, ℕ, zero, suc, Bool, true, false, ◌&&◌, nat_eq, List, [], ◌∷◌, length, slice_index, Option, Some, None, is_some, is_none, refl}
use Rattle.std.proofs.Common.{arith, ap, ◌∙◌, sym, subst, inl, inr, ⊎_elim}
use Rattle.std.proofs.lemmas.Bool.Decides.{nat_tests}
use mathlib.Core.Option as maybe
use lib.ListN.{get_elem?}
use Rattle.ipcz_base.specs.Indexed.{place_at}
use Rattle.ipcz_node.specs.Node.{Node, flagged_router}
use Rattle.ipcz_node.specs.Acts.{is_quiet, are_empty}
use Rattle.ipcz_world.specs.declared.mail.Mail.{Mail}
use Rattle.ipcz_world.specs.declared.mail.Mail.TheVariants as mails
use Rattle.ipcz_world.specs.World.{World, node_at, mail_at}
use Rattle.ipcz_world.specs.Turns.{hand_message, is_clear}
use Rattle.ipcz_world.proofs.Whole.{lists_have_lengths}
use Rattle.ipcz_rule.specs.Rule.{Slot, mailbox, MailAt}
use Rattle.ipcz_rule.specs.RuleLaws.{QuietPartsShowQuiet}
use Rattle.ipcz_rule.proofs.FromLaws.{stands_in_hand}

pub place_beyond : {X : Type 0} (d : X) (xs : List X) (i : ℕ) → length xs ≤ i → place_at d xs i ≡ d
unfolding place_at
place_beyond d [] i l = refl
place_beyond d (x ∷ xs) zero l = absurd (omega (arith, l))
place_beyond d (x ∷ xs) (suc i) l = place_beyond d xs i (omega (arith, l))

mail_beyond : (w : World) (k : ℕ) → length w.mail ≤ k → mail_at w k ≡ mails.Empty
unfolding mail_at
mail_beyond w k l = place_beyond mails.Empty w.mail k l

pub below_or : (k n : ℕ) → (k < n) ⊎ (n ≤ k)
below_or k n = go (nat_lt k n) refl
  where
    go : (b : Bool) → nat_lt k n ≡ b → (k < n) ⊎ (n ≤ k)
    go true e = inl (grind (arith, nat_tests, e))
    go false e = inr (grind (arith, nat_tests, e))

-- a number below a product is that of a pair
pub split : (m c k : ℕ) → k < m * c → (a : ℕ) × (b : ℕ) × (a < m) × (b < c) × (k ≡ a * c + b)
split zero c k l = absurd (omega (arith, l))
split (suc m) c k l = ⊎_elim
    (λ (low : k < m * c). let t = split m c k low in (t.0, t.1, (let h = t.2 in omega (arith, h)), t.3, t.4))
    (λ (high : m * c ≤ k). (m, k - m * c, omega arith, omega (arith, l, high), omega (arith, high)))
    (below_or k (m * c))

third : (a b c d : Bool) → (a && (b && (c && d))) ≡ true → c ≡ true
third true true true d h = refl
third true true false d h = cc
third true false c d h = cc
third false b c d h = cc

quiet_hand : (n : Node) → is_quiet n ≡ true → is_none n.hand ≡ true
unfolding is_quiet
quiet_hand n h = third (are_empty n.outboxes) (nat_eq (length n.pending) 0) (is_none n.hand) (is_none (flagged_router n)) h

none_some : (o : Option ℕ) (a : ℕ) → is_none o ≡ true → o ≡ Some a → ⊥
none_some None a h e = cc
none_some (Some b) a h e = cc

clear_empty : (x : Mail) → x ≡ mails.Empty → is_clear x ≡ true
unfolding is_clear
clear_empty mails.Empty e = refl
clear_empty (mails.Full y) e = cc
clear_empty (mails.Hand y) e = cc

in_hand : (x : Mail) (y : _) → x ≡ mails.Hand y → is_some (hand_message x) ≡ true
unfolding hand_message
in_hand mails.Empty y e = cc
in_hand (mails.Full z) y e = cc
in_hand (mails.Hand z) y e = refl

by_word : (n : ℕ) (home : maybe.Option (maybe.Option Slot)) (x : Mail) → MailAt n home x → n ≢ 1 → (is_some (hand_message x) ≡ true → ⊥) → is_clear x ≡ true
by_word zero home x h full hand = clear_empty x h.1
by_word (suc zero) home x h full hand = absurd (full refl)
by_word (suc (suc zero)) home x h full hand = absurd (hand (in_hand x h.0 h.1))
by_word (suc (suc (suc zero))) home x h full hand = clear_empty x h
by_word (suc (suc (suc (suc n)))) home x h full hand = absurd h

pub quiet_parts_show_quiet : QuietPartsShowQuiet
quiet_parts_show_quiet count size s r each full = record { nodes = nodes; mail = mail }
  where
    w : World
    w = r.world

    nodes : (n : ℕ) → n < r.world.count → is_quiet (node_at r.world n) ≡ true
    nodes n l =
        let t = r.parts n (rw (← r.nodes) l) in
        let sp = (r.shows.parts t.id t.view t.place t.part t.seat t.there).1 in
        ap (λ k. is_quiet (node_at r.world k)) (sym t.node_is) ∙ (ap is_quiet sp.state ∙ each t.id t.view t.place t.part t.seat t.there)

    no_hand : (k : ℕ) → k < r.world.count * r.world.count → is_some (hand_message (mail_at r.world k)) ≡ true → ⊥
    no_hand k l h =
        let t = split r.world.count r.world.count k l in
        let held = stands_in_hand r.world r.books r.routes t.1 t.0 r.lawful t.3 t.2 (ap (λ j. is_some (hand_message (mail_at r.world j))) (sym t.4) ∙ h) in
        none_some (node_at r.world t.1).hand t.0 (quiet_hand (node_at r.world t.1) (nodes t.1 t.3)) held

    box : (k : ℕ) → mailbox r.world k ≡ size + 1 + count + k
    box k = let a = r.nodes in let b = r.words in omega (arith, a, b)

    mail : (k : ℕ) → is_clear (mail_at r.world k) ≡ true
    mail k = ⊎_elim
        (λ (low : k < r.world.count * r.world.count). by_word (slice_index s.words (mailbox r.world k)) (get_elem? s.homes k) (mail_at r.world k) (r.shows.mail k low)
        (λ e. full k (subst (λ c. k < c * c) r.nodes low) (ap (slice_index s.words) (sym (box k)) ∙ e)) (no_hand k low))
        (λ (high : r.world.count * r.world.count ≤ k). let square = (lists_have_lengths r.world r.books r.routes r.lawful).mail in clear_empty (mail_at r.world k) (mail_beyond r.world k (omega (arith, square, high))))
        (below_or k (r.world.count * r.world.count))
