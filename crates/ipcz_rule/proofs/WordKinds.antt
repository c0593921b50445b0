-- The kinds of step on the word of a link, with the masks and the plans of ipcz_word; and loads.
use Rattle.std.specs.Prelude.{◌≡◌, ◌<◌, ◌-◌, ℕ, true, eqb, bit_and, bit_or, Option, refl, slice_index, [], ◌∷◌, Bool}
use Rattle.std.proofs.Common.{ap, ◌∙◌, sym, inr, eqb-true, arith}
use prog.Atomic.{either}
use Rattle.atomic_table.specs.Table.{keeps}
use Rattle.ipcz_base.specs.declared.side.Side.{Side}
use Rattle.ipcz_base.specs.declared.side.Side.TheVariants.{A, B}
use Rattle.ipcz_base.specs.Sides.{opposite}
use Rattle.ipcz_word.specs.Word.{Word, Plan, Locks, Waits, Refuses, plan_of, word_by_plan, mark, wake, unlock}
use Rattle.ipcz_word.specs.Layout.{bits_of, word_of_bits, stable_bit, waiting_bit, locked_bit}
use Rattle.std.proofs.lemmas.Nat.{and_assoc}
use Rattle.ipcz_word.proofs.Bytes.{and_apart}
use Rattle.ipcz_word.proofs.Return.{sets_return}
use Rattle.ipcz_word.proofs.Tables.{mark_bits, wake_bits, unlock_bits}
use Rattle.ipcz_router.specs.Router.{source_of}
use Rattle.ipcz_router.specs.declared.act.RouterAct.TheVariants as acts
use Rattle.ipcz_node.specs.declared.act.Act.TheVariants.{Router as OfRouter}
use Rattle.ipcz_world.specs.Coding.{IsLinkNumber}
use Rattle.ipcz_world.specs.World.{word_at}
use Rattle.ipcz_world.specs.WordAnswers.{word_after}
use Rattle.ipcz_rule.specs.Rule.{saw}
use Rattle.ipcz_rule.specs.Kinds.{IsKept, IsTurns, Loads, Marks, Wakes, Unlocks, TriesLock, LoadsForLock, LoadsForHand, is_refusal, turn_where}
use Rattle.ipcz_rule.proofs.KeptEnds.{turns_keep}
use Rattle.ipcz_rule.proofs.Known.{number_alone}
use Rattle.ipcz_rule.proofs.Moved.{spelled}
use Rattle.ipcz_rule.proofs.OldLinks.{old_link}
use Rattle.ipcz_rule.proofs.Wording.{word_acts, sees}
use Rattle.ipcz_rule.proofs.KeptEnds.{one_keeps, where_keeps, mark_keeps, wake_keeps, unlock_keeps, lock_keeps}

mark_fits : (s : Side) (o : Option ℕ) (x : Word) → IsLinkNumber (bits_of x) → bit_or (bits_of x) (stable_bit s) ≡ bits_of (word_after x s o acts.Mark)
unfolding word_after
mark_fits s o x is = mark_bits s (bits_of x) is.word.small ∙ (number_alone (bits_of x) (mark (word_of_bits (bits_of x)) s) is ∙ ap (λ z. bits_of (mark z s)) (sets_return x))

wake_fits : (s : Side) (o : Option ℕ) (x : Word) → IsLinkNumber (bits_of x) → bit_and (bits_of x) (18446744073709551615 - waiting_bit (opposite s)) ≡ bits_of (word_after x s o acts.Wake)
unfolding word_after
wake_fits s o x is = wake_bits s (bits_of x) is.word.small ∙ (number_alone (bits_of x) (wake (word_of_bits (bits_of x)) s) is ∙ ap (λ z. bits_of (wake z s)) (sets_return x))

-- one mask clears the side's lock and bits 8 to 15
one_mask : (s : Side) (n : ℕ) → n < 32768 → bit_and n (18446744073709486335 - locked_bit s) ≡ bit_and (bit_and n (18446744073709551615 - locked_bit s)) 255
one_mask A n h = and_apart n 239 18446744073709486319 h (omega arith) refl ∙ sym (and_assoc 255 n 18446744073709551599)
one_mask B n h = and_apart n 223 18446744073709486303 h (omega arith) refl ∙ sym (and_assoc 255 n 18446744073709551583)

unlock_fits : (s : Side) (o : Option ℕ) (x : Word) → IsLinkNumber (bits_of x) → bit_and (bits_of x) (18446744073709486335 - locked_bit s) ≡ bits_of (word_after x s o acts.Unlock)
unfolding word_after
unlock_fits s o x is =
    one_mask s (bits_of x) is.word.small ∙ (unlock_bits s (bits_of x) is.word.small
    ∙ (number_alone (bits_of x) (unlock (word_of_bits (bits_of x)) s) is ∙ ap (λ z. bits_of (unlock z s)) (sets_return x)))

by_refusal : (s : Side) (o : Option ℕ) (x : Word) (q : Plan) → is_refusal q ≡ true → word_by_plan x s o q ≡ x
unfolding word_by_plan
by_refusal s o x Locks h = cc
by_refusal s o x Waits h = cc
by_refusal s o x Refuses h = refl

refusal_fits : (s : Side) (o : Option ℕ) (x : Word) → is_refusal (plan_of (word_of_bits (bits_of x)) s) ≡ true → bits_of x ≡ bits_of (word_after x s o acts.Lock)
unfolding word_after
refusal_fits s o x h = ap bits_of (sym (by_refusal s o x (plan_of x s) (ap (λ z. is_refusal (plan_of z s)) (sym (sets_return x)) ∙ h)))

pub loads_turns : Loads IsTurns
loads_turns count size slots id i m p is s r deep at small = (saw i (slice_index s.words i) m.0, keeps, tt, sees s r i id m.0 (saw i (slice_index s.words i) m.0) p at is is (refl, inr (i, refl), refl), refl)

pub loads : (all : Bool) → Loads (IsKept all)
loads all count size slots id i m p is s r deep at small =
    let t = loads_turns count size slots id i m p is s r deep at small in (t.0, t.1, t.2, turns_keep all count size s _ r [] (λ e j side g. g) t.3, t.4)

pub marks_turns : Marks IsTurns
marks_turns count size slots id i m p serial rt is can primary =
    word_acts count size slots id m p serial rt acts.Mark i (λ n. bit_or n (stable_bit rt.end.side)) (λ n. true) is can refl primary (λ x valid h. mark_fits rt.end.side (source_of rt) x valid) (λ n h. cc)

pub marks : (all : Bool) → Marks (IsKept all)
marks all count size slots id i m p serial rt is can primary s r deep at small =
    let t = marks_turns count size slots id i m p serial rt is can primary s r deep at small in (t.0, t.1, t.2, turns_keep all count size s _ r ((p.node, OfRouter serial acts.Mark) ∷ []) (λ e. one_keeps r.world p.node (OfRouter serial acts.Mark) (mark_keeps serial)) t.3, t.4)

pub wakes_turns : Wakes IsTurns
wakes_turns count size slots id i m p serial rt is can primary =
    word_acts count size slots id m p serial rt acts.Wake i (λ n. bit_and n (18446744073709551615 - waiting_bit (opposite rt.end.side))) (λ n. true) is can refl primary (λ x valid h. wake_fits rt.end.side (source_of rt) x valid) (λ n h. cc)

pub wakes : (all : Bool) → Wakes (IsKept all)
wakes all count size slots id i m p serial rt is can primary s r deep at small =
    let t = wakes_turns count size slots id i m p serial rt is can primary s r deep at small in (t.0, t.1, t.2, turns_keep all count size s _ r ((p.node, OfRouter serial acts.Wake) ∷ []) (λ e. one_keeps r.world p.node (OfRouter serial acts.Wake) (wake_keeps serial)) t.3, t.4)

pub unlocks_turns : Unlocks IsTurns
unlocks_turns count size slots id i m p serial rt is can primary =
    word_acts count size slots id m p serial rt acts.Unlock i (λ n. bit_and n (18446744073709486335 - locked_bit rt.end.side)) (λ n. true) is can refl primary (λ x valid h. unlock_fits rt.end.side (source_of rt) x valid) (λ n h. cc)

pub unlocks : (all : Bool) → Unlocks (IsKept all)
unlocks all count size slots id i m p serial rt is can primary s r deep at small =
    let t = unlocks_turns count size slots id i m p serial rt is can primary s r deep at small in (t.0, t.1, t.2, turns_keep all count size s _ r ((p.node, OfRouter serial acts.Unlock) ∷ []) (λ e. one_keeps r.world p.node (OfRouter serial acts.Unlock) (unlock_keeps serial)) t.3, t.4)

pub tries_lock_turns : TriesLock IsTurns
tries_lock_turns count size slots id i old m p serial rt is can primary =
    word_acts count size slots id m p serial rt acts.Lock i (λ n. either (eqb n old) (bits_of (word_after (word_of_bits old) rt.end.side (source_of rt) acts.Lock)) n) (λ n. eqb n old) is can refl primary
    (λ x valid e. ap (λ b. either b (bits_of (word_after (word_of_bits old) rt.end.side (source_of rt) acts.Lock)) (bits_of x)) e
    ∙ ap (λ z. bits_of (word_after z rt.end.side (source_of rt) acts.Lock)) (ap word_of_bits (sym (eqb-true (bits_of x) old e)) ∙ sets_return x))
    (λ n e. ap (λ b. either b (bits_of (word_after (word_of_bits old) rt.end.side (source_of rt) acts.Lock)) n) e)

pub tries_lock : (all : Bool) → TriesLock (IsKept all)
tries_lock all count size slots id i old m p serial rt is can primary s r deep at small =
    let t = tries_lock_turns count size slots id i old m p serial rt is can primary s r deep at small in (t.0, t.1, t.2, turns_keep all count size s _ r (turn_where (eqb (slice_index s.words i) old) p.node (OfRouter serial acts.Lock)) (λ e. where_keeps (eqb (slice_index s.words i) old) r.world p.node (OfRouter serial acts.Lock) (lock_keeps serial)) t.3, t.4)

pub loads_for_lock_turns : LoadsForLock IsTurns
loads_for_lock_turns count size slots id i m p serial rt is can primary =
    word_acts count size slots id m p serial rt acts.Lock i (λ n. n) (λ n. is_refusal (plan_of (word_of_bits n) rt.end.side)) is can refl primary (λ x valid e. refusal_fits rt.end.side (source_of rt) x e) (λ n e. refl)

pub loads_for_lock : (all : Bool) → LoadsForLock (IsKept all)
loads_for_lock all count size slots id i m p serial rt is can primary s r deep at small =
    let t = loads_for_lock_turns count size slots id i m p serial rt is can primary s r deep at small in (t.0, t.1, t.2, turns_keep all count size s _ r (turn_where (is_refusal (plan_of (word_of_bits (slice_index s.words i)) rt.end.side)) p.node (OfRouter serial acts.Lock)) (λ e. where_keeps (is_refusal (plan_of (word_of_bits (slice_index s.words i)) rt.end.side)) r.world p.node (OfRouter serial acts.Lock) (lock_keeps serial)) t.3, t.4)

pub loads_for_hand_turns : LoadsForHand IsTurns
loads_for_hand_turns count size slots id from old m p x is holds has named s r deep at small =
    let w = r.world in
    let n : ℕ = slice_index s.words old in
    let t = old_link s r p from old x (spelled s r id m.0 p at is) holds has named in
    let found : word_of_bits n ≡ word_at w old = ap word_of_bits (r.shows.links old (rw r.words t.0)) ∙ sets_return (word_at w old) in
    (saw old n m.0, keeps, tt, sees s r old id m.0 (saw old n m.0) p at is is (refl, inr (old, refl), refl), (ap (λ (z : Word). z.source) found ∙ t.1, refl))

pub loads_for_hand : (all : Bool) → LoadsForHand (IsKept all)
loads_for_hand all count size slots id from old m p x is holds has named s r deep at small =
    let t = loads_for_hand_turns count size slots id from old m p x is holds has named s r deep at small in (t.0, t.1, t.2, turns_keep all count size s _ r [] (λ e j side g. g) t.3, t.4)
