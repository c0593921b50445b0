use Rattle.std.proofs.Common.{◌≡◌, ◌<◌, ◌≤◌, ◌+◌, ◌++◌, ◌∷◌, ◌/◌, ◌%◌, [], ℕ, List, Some, MatchBool, ap, sym, subst, ◌∙◌, slice_get}
use Rattle.std.specs.Option.{option_copied}
use Rattle.std.proofs.lemmas.List.{with_items_is}
use Rattle.ipcz_verdict.specs.declared.entry.Entry.{Entry}
use Rattle.ipcz_verdict.specs.declared.search.Taken.{Taken}
use Rattle.ipcz_verdict.specs.Desks.{Desk, HasAllowed}
use Rattle.ipcz_verdict.specs.Ledger.{IsAllowed}
use Rattle.ipcz_verdict.specs.Searches.{IsSearch, IsWith, key_of, left_of, rank_of, taken_lines}
use Rattle.ipcz_verdict.specs.Together.{calls_of}
use Rattle.ipcz_verdict.proofs.Counting.{key_is}
use Rattle.ipcz_verdict.proofs.Searching.{done_beside, its_log, same_first, skip_none, skip_rank, skip_refused, took}
use Rattle.ipcz_verdict.proofs.search.Search.try_key.Goals as goal

pub returns-in_default-clause-search : goal.returns-in_default-clause-search
returns-in_default-clause-search c = λ nodes profile entries s. skip_none nodes profile entries c.args.self.now.judge c.args.self.now.order.items c.args.self.now.left.items c.args.key s
    (ap (λ (q : List (List Entry)). slice_get (left_of q (c.args.key % 64)) 0) (sym c.deref.ensures.value) ∙ sym c.first_left.ensures ∙ ap option_copied c.in_default.is)

pub returns-then-rank_of-key-clause-search : goal.returns-then-rank_of-key-clause-search
returns-then-rank_of-key-clause-search c = λ nodes profile entries s. skip_rank nodes profile entries c.args.self.now.judge c.args.self.now.order.items c.args.self.now.left.items c.args.key c.in-Some.entry.now s
    (ap (λ (q : List (List Entry)). slice_get (left_of q (c.args.key % 64)) 0) (sym c.deref.ensures.value) ∙ sym c.first_left.ensures ∙ ap option_copied c.in-Some.is)
    (λ e. c.if-rank_of-key.true (c.rank_of.ensures ∙ e))

pub returns-then-not-branch-clause-search : goal.returns-then-not-branch-clause-search
returns-then-not-branch-clause-search c = λ nodes profile entries s.
    subst (λ (d : Desk). IsSearch nodes profile entries d c.args.self.now.order.items c.args.self.now.left.items (c.args.key + 1)) (sym (c.in_ok-take.ensures.kept c.if-not-branch.true))
    (skip_refused nodes profile entries c.args.self.now.judge c.args.self.now.order.items c.args.self.now.left.items c.args.key c.in-Some.entry.now s
    (ap (λ (q : List (List Entry)). slice_get (left_of q (c.args.key % 64)) 0) (sym c.deref.ensures.value) ∙ sym c.first_left.ensures ∙ ap option_copied c.in-Some.is)
    (subst (λ b. MatchBool b (HasAllowed c.take.new.self nodes profile (calls_of (taken_lines c.args.self.now.order.items) ++ c.in-Some.entry.now.line ∷ []))
    (IsAllowed nodes profile (calls_of (taken_lines c.args.self.now.order.items) ++ c.in-Some.entry.now.line ∷ []) → ⊥)) c.if-not-branch.true
    (c.in_ok-take.ensures.allowed nodes profile (calls_of (taken_lines c.args.self.now.order.items)) s.judged)))

pub returns-in_ok-push-clause-search : goal.returns-in_ok-push-clause-search
returns-in_ok-push-clause-search c = λ nodes profile entries s.
    let key : ℕ = c.args.key in
    let left : List (List Entry) = c.args.self.now.left.items in
    let new : List (List Entry) = c.take_front.new.left in
    let e : Entry = c.in-Some-take_front.entry in
    let first : left_of left (key % 64) ≡ e ∷ left_of new (key % 64) =
    subst (λ (q : List (List Entry)). left_of q (key % 64) ≡ e ∷ left_of new (key % 64)) c.deref_mut.ensures.value c.in-Some-take_front.ensures.some.0 in
    let is : IsWith left (key % 64) (left_of new (key % 64)) new = subst (λ (q : List (List Entry)). IsWith q (key % 64) (left_of new (key % 64)) new) c.deref_mut.ensures.value c.in-Some-take_front.ensures.some.1 in
    let some : slice_get (left_of left (key % 64)) 0 ≡ Some c.in-Some.entry.now =
    ap (λ (q : List (List Entry)). slice_get (left_of q (key % 64)) 0) (sym c.deref.ensures.value) ∙ sym c.first_left.ensures ∙ ap option_copied c.in-Some.is in
    let same : c.in-Some.entry.now ≡ e = same_first (left_of left (key % 64)) (left_of new (key % 64)) c.in-Some.entry.now e some first in
    let has : HasAllowed c.take.new.self nodes profile (calls_of (taken_lines c.args.self.now.order.items) ++ c.in-Some.entry.now.line ∷ []) =
    subst (λ b. MatchBool b (HasAllowed c.take.new.self nodes profile (calls_of (taken_lines c.args.self.now.order.items) ++ c.in-Some.entry.now.line ∷ []))
    (IsAllowed nodes profile (calls_of (taken_lines c.args.self.now.order.items) ++ c.in-Some.entry.now.line ∷ []) → ⊥)) c.if-not-branch.false
    (c.in_ok-take.ensures.allowed nodes profile (calls_of (taken_lines c.args.self.now.order.items)) s.judged) in
    subst (λ (q : List (List Entry)). IsSearch nodes profile entries c.take.new.self c.push.new.self.items q 0)
    (sym (with_items_is c.args.self.now.left c.take_front.new.left (c.take_front.auto.left ∙ c.deref_mut.ensures.len)))
    (subst (λ (o : List Taken). IsSearch nodes profile entries c.take.new.self o new 0) (sym c.in_ok-push.ensures.items)
    (took nodes profile entries c.args.self.now.judge c.take.new.self c.args.self.now.order.items left new key (key % 64) e (key + 1) s first is
    (subst (λ (x : Entry). HasAllowed c.take.new.self nodes profile (calls_of (taken_lines c.args.self.now.order.items) ++ x.line ∷ [])) same has)
    (done_beside nodes profile entries c.args.self.now.judge c.args.self.now.order.items left key e (left_of new (key % 64)) s first)))

pub returns-in_ok-push-clause-adds : goal.returns-in_ok-push-clause-adds
returns-in_ok-push-clause-adds c = λ nodes profile entries s.
    let key : ℕ = c.args.key in
    let left : List (List Entry) = c.args.self.now.left.items in
    let new : List (List Entry) = c.take_front.new.left in
    let e : Entry = c.in-Some-take_front.entry in
    let first : left_of left (key % 64) ≡ e ∷ left_of new (key % 64) =
    subst (λ (q : List (List Entry)). left_of q (key % 64) ≡ e ∷ left_of new (key % 64)) c.deref_mut.ensures.value c.in-Some-take_front.ensures.some.0 in
    let some : slice_get (left_of left (key % 64)) 0 ≡ Some c.in-Some.entry.now =
    ap (λ (q : List (List Entry)). slice_get (left_of q (key % 64)) 0) (sym c.deref.ensures.value) ∙ sym c.first_left.ensures ∙ ap option_copied c.in-Some.is in
    let same : c.in-Some.entry.now ≡ e = same_first (left_of left (key % 64)) (left_of new (key % 64)) c.in-Some.entry.now e some first in
    let rank : rank_of e.line ≡ key / 64 = ap (λ (x : Entry). rank_of x.line) (sym same) ∙ sym c.rank_of.ensures ∙ c.if-rank_of-key.false in
    let its : (key ≤ key_of e) × (key_of e < key + 1) = key_is key e rank (its_log nodes profile entries c.args.self.now.order.items left (key % 64) e (left_of new (key % 64)) s.stack first) in
    (record { entry = e; next = key + 1 }, c.in_ok-push.ensures.items, its.0, its.1)
