-- A mailbox that a seat's node waits for is found again as it was: only steps of the seat could change it.
use Rattle.std.specs.Prelude.{◌≡◌, ◌≤◌, ◌<◌, ◌+◌, ◌*◌, ℕ, zero, suc, Bool, true, false, cond, nat_eq, List, [], ◌∷◌, ◌++◌, length, slice_index, MatchBool, refl}
use Rattle.std.proofs.Common.{arith, ap, ◌∙◌, sym, subst, inl, inr, ⊎_elim, length-append}
use Rattle.std.proofs.lemmas.List.{append_cancel_left}
use mathlib.Core.Option.{some}
use mathlib.Core.Option as maybe
use lib.ListN.{get_elem?}
use Rattle.ipcz_base.specs.Indexed.{place_at}
use Rattle.ipcz_base.specs.declared.message.Message.{Message}
use Rattle.ipcz_node.specs.declared.act.Act.{Act}
use Rattle.ipcz_node.specs.Node.{Node, outbox}
use Rattle.ipcz_node.specs.Fronts.{behind}
use Rattle.ipcz_node.proofs.Fronts.{place_front}
use Rattle.ipcz_world.specs.World.{node_at, mail_at, way}
use Rattle.ipcz_world.specs.Ranks.{AreTurns}
use Rattle.ipcz_world.specs.declared.mail.Mail.{Mail}
use Rattle.ipcz_world.specs.declared.mail.Mail.TheVariants as mails
use Rattle.ipcz_rule.specs.declared.view.View.{View}
use Rattle.ipcz_rule.specs.declared.view.Part.{Part}
use Rattle.ipcz_rule.specs.Rule.{Slot, has_number, mailbox, MailAt, Spells, saw}
use Rattle.ipcz_rule.specs.Batches.{Batch, MailFolds, shown_part, batch_from}
use Rattle.ipcz_rule.specs.TableRuns.{TurnStep, Ruled, after_step, AreSteps}
use Rattle.ipcz_rule.specs.Races.{IsLoad, IsOneAtMost, OnlyLoads, IsWaitedFor, WaitedForStays}
use Rattle.ipcz_rule.proofs.KeptMail.{full-kept, empty-kept}
use Rattle.ipcz_rule.proofs.Lasts.{own_part}
use Rattle.ipcz_rule.proofs.Mailing.{way_low}
use Rattle.ipcz_rule.proofs.Races.{heads, same-seat, found_by, own-view, other-view, seen-more, Carries, from-load}

-- what the word of a mailbox tells of it, and the mailbox of its word
full_at : (n : ℕ) (home : maybe.Option (maybe.Option Slot)) (m : Mail) → MailAt n home m → n ≡ 1 → (x : Message) × (m ≡ mails.Full x)
full_at zero home m h e = cc
full_at (suc zero) home m h e = (h.0, h.2)
full_at (suc (suc n)) home m h e = cc

at_one : (n : ℕ) (home : maybe.Option (maybe.Option Slot)) (m : Mail) (x : Message) → MailAt n home m → m ≡ mails.Full x → n ≡ 1
at_one zero home m x h e = absurd (cc (h.1, e))
at_one (suc zero) home m x h e = refl
at_one (suc (suc zero)) home m x h e = absurd (cc (h.1, e))
at_one (suc (suc (suc zero))) home m x h e = absurd (cc (h, e))
at_one (suc (suc (suc (suc n)))) home m x h e = absurd h

empty_at : (n : ℕ) (home : maybe.Option (maybe.Option Slot)) (m : Mail) → MailAt n home m → n ≡ 0 → m ≡ mails.Empty
empty_at zero home m h e = h.1
empty_at (suc n) home m h e = cc

at_none : (n : ℕ) (home : maybe.Option (maybe.Option Slot)) (m : Mail) → MailAt n home m → m ≡ mails.Empty → nat_eq n 3 ≡ false → n ≡ 0
at_none zero home m h e k = refl
at_none (suc zero) home m h e k = absurd (cc (h.2, e))
at_none (suc (suc zero)) home m h e k = absurd (cc (h.1, e))
at_none (suc (suc (suc zero))) home m h e k = cc
at_none (suc (suc (suc (suc n)))) home m h e k = absurd h

-- and what it tells of the single table's word
box_full : (n : ℕ) (home : maybe.Option (maybe.Option Batch)) (m : ℕ) (one : maybe.Option (maybe.Option Slot)) (rest left : Batch) → MailFolds n home m one rest left → n ≡ 1 →
    (m ≡ 1) × (left ≡ [])
box_full zero home m one rest left h e = cc
box_full (suc zero) home m one rest left h e = (h.2, h.4)
box_full (suc (suc n)) home m one rest left h e = cc

box_at_one : (n : ℕ) (home : maybe.Option (maybe.Option Batch)) (m : ℕ) (one : maybe.Option (maybe.Option Slot)) (rest left : Batch) → MailFolds n home m one rest left → m ≡ 1 →
    left ≡ [] → n ≡ 1
box_at_one zero home m one rest left h e none = absurd (let f = h.1 in omega (arith, e, f))
box_at_one (suc zero) home m one rest left h e none = refl
box_at_one (suc (suc zero)) home m one rest left h e none =
    ⊎_elim (λ t. absurd (let f = t.0 in omega (arith, e, f))) (λ t. let odd : t.0 ∷ rest ≡ [] = sym t.3 ∙ none in cc) h
box_at_one (suc (suc (suc zero))) home m one rest left h e none = absurd (let f = h.0 in omega (arith, e, f))
box_at_one (suc (suc (suc (suc n)))) home m one rest left h e none = absurd h

box_empty : (n : ℕ) (home : maybe.Option (maybe.Option Batch)) (m : ℕ) (one : maybe.Option (maybe.Option Slot)) (rest left : Batch) → MailFolds n home m one rest left → n ≡ 0 →
    (m ≡ 0) × (rest ≡ [])
box_empty zero home m one rest left h e = (h.1, h.2)
box_empty (suc n) home m one rest left h e = cc

box_at_none : (n : ℕ) (home : maybe.Option (maybe.Option Batch)) (m : ℕ) (one : maybe.Option (maybe.Option Slot)) (rest left : Batch) → MailFolds n home m one rest left → m ≡ 0 → n ≡ 0
box_at_none zero home m one rest left h e = refl
box_at_none (suc zero) home m one rest left h e = absurd (let f = h.2 in omega (arith, e, f))
box_at_none (suc (suc zero)) home m one rest left h e = ⊎_elim (λ t. absurd (let f = t.0 in omega (arith, e, f))) (λ t. absurd (let f = t.1 in omega (arith, e, f))) h
box_at_none (suc (suc (suc zero))) home m one rest left h e = absurd (let f = h.0 in omega (arith, e, f))
box_at_none (suc (suc (suc (suc n)))) home m one rest left h e = absurd h

-- what waits in an outbox behind messages in front
many_behind : (fs : List Batch) (n : Node) (to : ℕ) → length (outbox (behind fs n) to) ≡ length (place_at [] fs to) + length (outbox n to)
many_behind fs n to = ap length (place_front fs n.outboxes to) ∙ length-append (place_at [] fs to) (outbox n to)

module _ (count size : ℕ) (alone : Bool) (id : ℕ) (x : Part) where
  -- the word of a mailbox in the single table, and what it shows
  module _ (z : Ruled count size alone) (from to i : ℕ) (lf : from < count) (lt : to < count) (e : i ≡ size + 1 + count + (from * count + to)) where
    abbrev k : ℕ
    k = from * count + to

    shown : MailAt (slice_index z.1.single.words i) (get_elem? z.1.single.homes k) (mail_at z.1.rules.world k)
    shown =
        let low : k < z.1.rules.world.count * z.1.rules.world.count =
        subst (λ c. k < c * c) (sym z.1.rules.nodes) (let h = way_low count from count to 0 lt lf in omega (arith, h)) in
        let index : mailbox z.1.rules.world k ≡ i =
        ap (λ s. s + 1 + z.1.rules.world.count + k) z.1.rules.words ∙ (ap (λ c. size + 1 + c + k) z.1.rules.nodes ∙ sym e) in
        subst (λ a. MailAt (slice_index z.1.single.words a) (get_elem? z.1.single.homes k) (mail_at z.1.rules.world k)) index (z.1.rules.shows.mail k low)

    folded : MailFolds (slice_index z.0.words i) (get_elem? z.0.homes k) (slice_index z.1.single.words i) (get_elem? z.1.single.homes k) (place_at [] (z.1.fronts from) to) (z.1.left from to)
    folded = subst (λ a. MailFolds (slice_index z.0.words a) (get_elem? z.0.homes k) (slice_index z.1.single.words a) (get_elem? z.1.single.homes k) (place_at [] (z.1.fronts from) to) (z.1.left from to))
        (sym e) (z.1.folds.mail from to lf lt)

  -- what the seat has left of a sender's batch
  left_same : (z : Ruled count size alone) (v : View) → get_elem? z.0.views id ≡ some v → v.parts ≡ x ∷ [] → (from : ℕ) → from < count → batch_from x from ≡ z.1.left from x.node
  left_same z v at is from l = z.1.folds.parts id v 0 x from at (ap (λ (ps : List Part). get_elem? ps 0) is) l

  -- a step of another seat
  module _ (p : Ruled count size alone) (turns : List (ℕ × Act)) (t : TurnStep count size alone p.0 turns) (other : nat_eq t.seat id ≡ false) (one : IsOneAtMost turns)
      (v : View) (at : get_elem? p.0.views id ≡ some v) (is : v.parts ≡ x ∷ []) where
    abbrev pub u : Ruled count size alone
    u = after_step count size alone p turns t

    there : get_elem? u.0.views id ≡ some v
    there = other-view count size alone id p turns t other ∙ at

    before : Spells p.1.single.words p.1.rules.world (shown_part p.1.fronts x)
    before = own_part count size id v x is p.0 p.1 at

    after : Spells u.1.single.words u.1.rules.world (shown_part u.1.fronts x)
    after = own_part count size id v x is u.0 u.1 there

    same-hand : (node_at u.1.rules.world x.node).hand ≡ (node_at p.1.rules.world x.node).hand
    same-hand = ap (λ (n : Node). n.hand) after.state ∙ sym (ap (λ (n : Node). n.hand) before.state)

    turned : AreTurns p.1.rules.world p.1.rules.books p.1.rules.routes turns u.1.rules.world u.1.rules.books u.1.rules.routes
    turned = subst (λ ts. AreTurns p.1.rules.world p.1.rules.books p.1.rules.routes ts u.1.rules.world u.1.rules.books u.1.rules.routes) t.is (t.allowed p.0 p.1 refl t.there t.small).3.1

    inside : x.node < count
    inside = subst (λ c. x.node < c) p.1.rules.nodes before.inside

    numbered : (from to : ℕ) → from * count + to ≡ way p.1.rules.world from to
    numbered from to = ap (λ c. from * c + to) (sym p.1.rules.nodes)

    full-box : (from i : ℕ) → from < count → i ≡ size + 1 + count + (from * count + x.node) → slice_index p.0.words i ≡ 1 → slice_index u.0.words i ≡ 1
    full-box from i l e was =
        let f = box_full (slice_index p.0.words i) _ _ _ _ _ (folded p from x.node i l inside e) was in
        let m = full_at (slice_index p.1.single.words i) _ _ (shown p from x.node i l inside e) f.0 in
        let single : slice_index u.1.single.words i ≡ 1 =
        at_one (slice_index u.1.single.words i) _ _ m.0 (shown u from x.node i l inside e)
        (full-kept p.1.rules.world from x.node (from * count + x.node) (subst (λ c. from < c) (sym p.1.rules.nodes) l) before.inside (numbered from x.node)
        u.1.rules.world p.1.rules.books u.1.rules.books p.1.rules.routes u.1.rules.routes turns m.0 one turned m.1 same-hand) in
        box_at_one (slice_index u.0.words i) _ _ _ _ _ (folded u from x.node i l inside e) single
        (sym (left_same u v there is from l) ∙ (left_same p v at is from l ∙ f.1))

    -- no fewer messages wait in its outbox, if none was in front of it
    outbox-kept : (to : ℕ) → place_at [] (p.1.fronts x.node) to ≡ [] → length (outbox (node_at p.1.rules.world x.node) to) ≤ length (outbox (node_at u.1.rules.world x.node) to)
    outbox-kept to bare =
        let was = ap (λ (n : Node). length (outbox n to)) before.state ∙ many_behind (p.1.fronts x.node) x.state to in
        let is = ap (λ (n : Node). length (outbox n to)) after.state ∙ many_behind (u.1.fronts x.node) x.state to in
        let none = ap (λ (ms : Batch). length ms) bare in omega (arith, was, is, none)

    empty-box : (to i : ℕ) → to < count → i ≡ size + 1 + count + (x.node * count + to) → slice_index p.0.words i ≡ 0 → slice_index u.0.words i ≡ 0
    empty-box to i l e was =
        let f = box_empty (slice_index p.0.words i) _ _ _ _ _ (folded p x.node to i inside l e) was in
        let clear = empty_at (slice_index p.1.single.words i) _ _ (shown p x.node to i inside l e) f.0 in
        let free : has_number x.probed to ≡ false = before.probed to (subst (λ c. to < c) (sym p.1.rules.nodes) l) ∙
        (ap (λ a. nat_eq (slice_index p.1.single.words a) 3) (sym (index p e)) ∙ ap (λ a. nat_eq a 3) f.0) in
        let unprobed : nat_eq (slice_index u.1.single.words i) 3 ≡ false =
        ap (λ a. nat_eq (slice_index u.1.single.words a) 3) (index u e) ∙ (sym (after.probed to (subst (λ c. to < c) (sym u.1.rules.nodes) l)) ∙ free) in
        let single : slice_index u.1.single.words i ≡ 0 =
        at_none (slice_index u.1.single.words i) _ _ (shown u x.node to i inside l e)
        (empty-kept p.1.rules.world x.node to (x.node * count + to) before.inside (subst (λ c. to < c) (sym p.1.rules.nodes) l) (numbered x.node to)
        u.1.rules.world p.1.rules.books u.1.rules.books p.1.rules.routes u.1.rules.routes turns one turned clear (outbox-kept to f.1)) unprobed in
        box_at_none (slice_index u.0.words i) _ _ _ _ _ (folded u x.node to i inside l e) single
      where
        index : (z : Ruled count size alone) → i ≡ size + 1 + count + (x.node * count + to) → i ≡ mailbox z.1.rules.world (way z.1.rules.world x.node to)
        index z e = e ∙ (ap (λ c. size + 1 + c + (x.node * c + to)) (sym z.1.rules.nodes) ∙
            ap (λ s. s + 1 + z.1.rules.world.count + (x.node * z.1.rules.world.count + to)) (sym z.1.rules.words))

    pub kept : (i n : ℕ) → IsWaitedFor count size x i n → slice_index p.0.words i ≡ n → slice_index u.0.words i ≡ n
    kept i n (inl (from, l, e, one)) was = full-box from i l e (was ∙ one) ∙ sym one
    kept i n (inr (to, l, e, none)) was = empty-box to i l e (was ∙ none) ∙ sym none

  -- so is it found again
  module _ (i n found : ℕ) (waits : IsWaitedFor count size x i n) where
    abbrev Again : (k : ℕ) (p : Ruled count size alone) (steps : List (List (ℕ × Act))) (q : Ruled count size alone) → AreSteps count size alone p steps q → Type 0
    Again k p steps q run = (v : View) → get_elem? p.0.views id ≡ some v → v.parts ≡ x ∷ [] → found ≡ n

    again : (p : Ruled count size alone) (steps : List (List (ℕ × Act))) (q : Ruled count size alone) (run : AreSteps count size alone p steps q) →
        OnlyLoads count size alone id p steps q run → found_by count size alone id p steps q run ≡ (i, found) ∷ [] → slice_index p.0.words i ≡ n → Again 0 p steps q run
    again p [] q run loads has was v at is = cc
    again p (turns ∷ steps) q run loads has was v at is =
        go (nat_eq run.0.seat id) refl loads.0 has (λ h same here. again (after_step count size alone p turns run.0) steps q run.1 loads.1 h same v here is)
      where
        t : TurnStep count size alone p.0 turns
        t = run.0

        next : Ruled count size alone
        next = after_step count size alone p turns t

        left : List (ℕ × ℕ)
        left = found_by count size alone id next steps q run.1

        go : (b : Bool) → nat_eq t.seat id ≡ b → MatchBool b (IsLoad count size alone p turns t) (IsOneAtMost turns) →
            cond b ((t.word, slice_index p.0.words t.word) ∷ left) left ≡ (i, found) ∷ [] →
            (left ≡ (i, found) ∷ [] → slice_index next.0.words i ≡ n → get_elem? next.0.views id ≡ some v → found ≡ n) → found ≡ n
        go true e load h more = sym (ap (λ (y : ℕ × ℕ). y.1) (heads h)) ∙ (ap (slice_index p.0.words) (ap (λ (y : ℕ × ℕ). y.0) (heads h)) ∙ was)
        go false e one h more = more h (kept p turns t e one v at is i n waits was) (other-view count size alone id p turns t e ∙ at)

    carry : Carries count size alone id Again
    carry = record {
      own = λ k p turns steps q t more e load g v at is. g (saw t.word (slice_index p.0.words t.word) v)
          (own-view count size alone id p turns t v (same-seat t.seat id e) load at) is;
      other = λ k p turns steps q t more e g v at is. g v (other-view count size alone id p turns t e ∙ at) is;
    }

pub waited_for_stays : WaitedForStays
waited_for_stays count size alone id i n found p q steps run v v' x before h is waits =
    from-load count size alone id i n found (Again count size alone id x i n found waits) (carry count size alone id x i n found waits)
    (again count size alone id x i n found waits) before p steps q run h.loads
    (append_cancel_left v.seen (found_by count size alone id p steps q run) (before ++ (i, n) ∷ (i, found) ∷ [])
    (sym (seen-more count size alone id p steps q run v v' h.loads h.first h.last) ∙ h.seen)) v h.first is
