-- The accounts that a table tells: what the books say that join its views, and who holds what by its parts.
use Rattle.std.specs.Prelude.{◌≡◌, ◌≤◌, ◌<◌, ◌+◌, ℕ, zero, suc, Bool, true, false, cond, nat_eq, nat_lt, if◌then◌else◌, Option, Some, None, take, map, length}
use Rattle.std.specs.Prelude.{slice_get, refl}
use Rattle.std.proofs.Common.{arith, ap, subst, sym, ◌∙◌}
use Rattle.std.proofs.lemmas.Bool.Decides.{nat_tests}
use Rattle.std.proofs.lemmas.Option.{none-some, same_Some}
use Rattle.ipcz_base.specs.declared.end.End.{End}
use Rattle.ipcz_base.specs.declared.item.Item.{Item}
use Rattle.ipcz_base.specs.declared.item.Item.TheVariants.{Parcel, Mark}
use Rattle.ipcz_base.specs.Ends.{opposite_end}
use Rattle.ipcz_base.specs.Totals.{total_below}
use Rattle.ipcz_node.specs.Node.{Node, holds_end}
use Rattle.ipcz_node.specs.Acts.{first_number}
use Rattle.ipcz_world.specs.World.{World, node_at}
use Rattle.ipcz_world.specs.Books.{Books, is_closed}
use Rattle.ipcz_world.specs.Routes.{Routes, is_opened}
use Rattle.ipcz_world.specs.Lawful.{Lawful}
use Rattle.ipcz_world.specs.Laws.{EndLaw}
use Rattle.ipcz_world.specs.Holding.{holder_of}
use Rattle.ipcz_world.specs.Places.{times}
use Rattle.ipcz_world.specs.Whereabouts.{times_closed, times_held}
use Rattle.ipcz_world.proofs.Whole.{ends_stand_once}
use Rattle.ipcz_world.proofs.facts.LinkTests.{opposite_end-twice}
use Rattle.ipcz_rule.specs.Rule.{InParts, Rules, puts_of, gets_of}
use Rattle.ipcz_rule.specs.Batches.{BatchSt, Batched}
use Rattle.ipcz_rule.proofs.BatchedLaws.{entry_here, entry_there}
use Rattle.ipcz_promise.specs.Promise.{Account, IsInOrder, holds, is_holder}
use Rattle.ipcz_promise.specs.Accounting.{Keeps, parcels_in}
use Rattle.ipcz_promise.proofs.Parcels.{first-parcels}
use Rattle.ipcz_shown.specs.Shown.{TellsAccount, TablesTellAccounts}
use Rattle.ipcz_shown.proofs.Parts.{node-shown}
use Rattle.ipcz_shown.proofs.Marks.{EndsLast, ends-last, has-mark, mark-at, parcel-at, parcel-of}

-- the first number that passes a test, if there is one only
only-found : (test : ℕ → Bool) (from left n : ℕ) → ((k : ℕ) → k < from + left → test k ≡ true → k ≡ n) → test n ≡ true → from ≤ n →
    n < from + left → first_number test from left ≡ Some n
only-found test from zero n one here low high = absurd (omega (arith, low, high))
only-found test from (suc left) n one here low high =
    go (test from) refl (λ later. only-found test (from + 1) left n (λ k l h. one k (omega (arith, l)) h) here later (omega (arith, high)))
  where
    both : false ≡ true → ⊥
    both q = cc

    go : (c : Bool) → test from ≡ c → (from + 1 ≤ n → first_number test (from + 1) left ≡ Some n) →
        (if c then Some from else first_number test (from + 1) left) ≡ Some n
    go true e more = ap Some (one from (omega arith) e)
    go false e more = let apart : from ≡ n → ⊥ = λ same. both (sym e ∙ (ap test same ∙ here)) in more (omega (arith, low, apart))

-- what is found passes, and is below the end
found-passes : (test : ℕ → Bool) (from left n : ℕ) → first_number test from left ≡ Some n → (test n ≡ true) × (n < from + left)
found-passes test from zero n e = absurd (none-some n e)
found-passes test from (suc left) n e = go (test from) refl e (λ q. found-passes test (from + 1) left n q)
  where
    go : (c : Bool) → test from ≡ c → (if c then Some from else first_number test (from + 1) left) ≡ Some n →
        (first_number test (from + 1) left ≡ Some n → (test n ≡ true) × (n < (from + 1) + left)) → (test n ≡ true) × (n < from + suc left)
    go true h q more = let same : from ≡ n = same_Some from n q in (ap test (sym same) ∙ h, omega (arith, same))
    go false h q more = let t = more q in (t.0, omega (arith, t.1))

-- two numbers that pass make a total of two
one-below : (c n : ℕ) (f : ℕ → ℕ) → n < c → 1 ≤ f n → 1 ≤ total_below c f
one-below zero n f l h = absurd (omega (arith, l))
one-below (suc c) n f l h = go (nat_eq n c) refl (λ less. one-below c n f less h)
  where
    go : (b : Bool) → nat_eq n c ≡ b → (n < c → 1 ≤ total_below c f) → 1 ≤ f c + total_below c f
    go true e more = let same : n ≡ c = grind (arith, e, nat_tests) in let t : f n ≡ f c = ap f same in omega (arith, t, h)
    go false e more = let less : n < c = grind (arith, e, l, nat_tests) in omega (arith, more less)

two-below : (c n k : ℕ) (f : ℕ → ℕ) → n < k → k < c → 1 ≤ f n → 1 ≤ f k → 2 ≤ total_below c f
two-below zero n k f l m a b = absurd (omega (arith, m))
two-below (suc c) n k f l m a b = go (nat_eq k c) refl (λ less. two-below c n k f l less a b)
  where
    go : (d : Bool) → nat_eq k c ≡ d → (k < c → 2 ≤ total_below c f) → 2 ≤ f c + total_below c f
    go true e more =
        let same : k ≡ c = grind (arith, e, nat_tests) in
        let t : f k ≡ f c = ap f same in
        let u = one-below c n f (omega (arith, same, l)) a in
        omega (arith, t, b, u)
    go false e more = let less : k < c = grind (arith, e, m, nat_tests) in omega (arith, more less)

flag-most : (c : Bool) → cond c 1 0 ≤ 1
flag-most true = omega arith
flag-most false = omega arith

module _ (w : World) (b : Books) (g : Routes) (lawful : Lawful w b g) where
  law : EndLaw w b g
  law = ends_stand_once w b g lawful

  most : (e : End) → times_held w e + times_closed b e ≤ 1
  most e = omega (arith, law.once e, flag-most (is_opened g e.pair))

  held-one : (e : End) (n : ℕ) → holds_end (node_at w n) e ≡ true → 1 ≤ cond (holds_end (node_at w n) e) 1 0 + times e (node_at w n).pending
  held-one e n h = let t : ◌≡◌ {A = ℕ} (cond (holds_end (node_at w n) e) 1 0) 1 = ap (λ c. cond c 1 0) h in omega (arith, t)

  held-twice : (e : End) (n k : ℕ) → n < k → k < w.count → holds_end (node_at w n) e ≡ true → holds_end (node_at w k) e ≡ true → ⊥
  held-twice e n k l m h j =
      let t : 2 ≤ times_held w e = two-below w.count n k (λ i. cond (holds_end (node_at w i) e) 1 0 + times e (node_at w i).pending) l m
      (held-one e n h) (held-one e k j) in
      omega (arith, most e, t)

  unique : (e : End) (n k : ℕ) → n < w.count → k < w.count → holds_end (node_at w n) e ≡ true → holds_end (node_at w k) e ≡ true → k ≡ n
  unique e n k l m h j = go (nat_lt n k) (nat_lt k n) refl refl
    where
      go : (x y : Bool) → nat_lt n k ≡ x → nat_lt k n ≡ y → k ≡ n
      go true y p q = absurd (held-twice e n k (grind (arith, p, nat_tests)) m h j)
      go false true p q = absurd (held-twice e k n (grind (arith, q, nat_tests)) l j h)
      go false false p q = grind (arith, p, q, nat_tests)

  not-both : (c : Bool) → c ≡ true → c ≡ false → ⊥
  not-both c p q = cc

  holder-is : (n : ℕ) (e : End) → n < w.count → is_holder (holder_of w e) n ≡ holds_end (node_at w n) e
  holder-is n e l = go (holds_end (node_at w n) e) refl
    where
      nobody : (o : Option ℕ) → holder_of w e ≡ o → holds_end (node_at w n) e ≡ false → is_holder o n ≡ false
      nobody None p h = refl
      nobody (Some m) p h = other (nat_eq m n) refl
        where
          other : (c : Bool) → nat_eq m n ≡ c → nat_eq m n ≡ false
          other false q = q
          other true q =
              let same : m ≡ n = grind (arith, q, nat_tests) in
              let t = found-passes (λ i. holds_end (node_at w i) e) 0 w.count m p in
              absurd (not-both (holds_end (node_at w n) e) (ap (λ i. holds_end (node_at w i) e) (sym same) ∙ t.0) h)

      go : (c : Bool) → holds_end (node_at w n) e ≡ c → is_holder (holder_of w e) n ≡ holds_end (node_at w n) e
      go true h =
          let found : holder_of w e ≡ Some n = only-found (λ i. holds_end (node_at w i) e) 0 w.count n
          (λ k m j. unique e n k l (omega (arith, m)) h j) h (omega arith) (omega (arith, l)) in
          let self : nat_eq n n ≡ true = grind (arith, nat_tests) in
          ap (λ o. is_holder o n) found ∙ (self ∙ sym h)
      go false h = nobody (holder_of w e) refl h ∙ sym h

  unheld : (e : End) → is_closed b e ≡ true → holder_of w e ≡ None
  unheld e closed = go (holder_of w e) refl
    where
      go : (o : Option ℕ) → holder_of w e ≡ o → holder_of w e ≡ None
      go None p = p
      go (Some m) p =
          let t = found-passes (λ i. holds_end (node_at w i) e) 0 w.count m p in
          let held : 1 ≤ times_held w e = one-below w.count m (λ i. cond (holds_end (node_at w i) e) 1 0 + times e (node_at w i).pending)
          (omega (arith, t.1)) (held-one e m t.0) in
          let flag : times_closed b e ≡ 1 = ap (λ c. cond c 1 0) closed in
          absurd (omega (arith, most e, held, flag))

  last-ends : (e : End) → EndsLast (b.put e)
  last-ends e = ends-last (b.put e) (law.mark_last e) (law.gone_last e)

  prefix : (e : End) → take (length (b.got e)) (b.put (opposite_end e)) ≡ map Parcel (b.got e)
  prefix e = subst (λ d. take (length (b.got d)) (b.put (opposite_end e)) ≡ map Parcel (b.got d)) (opposite_end-twice e)
      (lawful.conserved.prefix (opposite_end e))

-- the accounts that the books and the nodes tell
abbrev told : World → Books → Routes → ℕ → ℕ → Account
told w b g count size = record {
  nodes = count;
  words = size;
  opened = λ pair. is_opened g pair;
  holder = λ e. holder_of w e;
  put = λ e. parcels_in (b.put e);
  got = b.got;
  closed = λ e. is_closed b e;
}

-- accounts are those of a world and its books
record AreOf (w : World) (b : Books) (a : Account) : Type 0 where
  holder : (n : ℕ) (e : End) → n < w.count → holds a n e ≡ holds_end (node_at w n) e
  put : (e : End) → a.put e ≡ parcels_in (b.put e)
  got : (e : End) → a.got e ≡ b.got e
  closed : (e : End) → a.closed e ≡ is_closed b e

module _ {count size : ℕ} {alone : Bool} {s : BatchSt} (b : Batched count size alone s) where
  abbrev r : Rules count size b.single
  r = b.rules

  put-in : (e : End) (n : ℕ) (x : Item) → slice_get (r.books.put e) n ≡ Some x → InParts s.views puts_of ((e, n), x)
  put-in e n x h = entry_here b.folds puts_of (λ p. refl) ((e, n), x) (r.joined.put e n x h)

  in-put : (e : End) (n : ℕ) (x : Item) → InParts s.views puts_of ((e, n), x) → slice_get (r.books.put e) n ≡ Some x
  in-put e n x h = r.joined.put_only e n x (entry_there b.folds puts_of (λ p. refl) ((e, n), x) h)

  -- the views tell such accounts
  tells : (a : Account) → a.nodes ≡ count → a.words ≡ size → AreOf r.world r.books a → TellsAccount count size s.views a
  tells a nodes words are = record {
    nodes = nodes;
    words = words;
    holder = λ id v j p seat there e. let is = node-shown b id v j p seat there in
        are.holder p.node e is.0 ∙ ap (λ (n : Node). holds_end n e) is.1;
    put = λ e n q h. put-in e n (Parcel q)
        (parcel-of (r.books.put e) (last-ends r.world r.books r.routes r.lawful e) n q (ap (λ z. slice_get z n) (sym (are.put e)) ∙ h));
    put_only = λ e n q h. ap (λ z. slice_get z n) (are.put e)
        ∙ parcel-at (r.books.put e) (last-ends r.world r.books r.routes r.lawful e) n q (in-put e n (Parcel q) h);
    got = λ e n q h. entry_here b.folds gets_of (λ p. refl) ((e, n), q) (r.joined.got e n q (ap (λ z. slice_get z n) (sym (are.got e)) ∙ h));
    got_only = λ e n q h. ap (λ z. slice_get z n) (are.got e) ∙ r.joined.got_only e n q (entry_there b.folds gets_of (λ p. refl) ((e, n), q) h);
    closed = λ e h. let t = mark-at (r.books.put e) (sym (are.closed e) ∙ h) in (t.0, put-in e t.0 Mark t.1);
    closed_only = λ e n h. are.closed e ∙ has-mark (r.books.put e) n (in-put e n Mark h);
  }

  -- also those that the world keeps by these books
  pub kept-is-told : (a : Account) (k : Keeps r.world a) → k.stands.books ≡ r.books → TellsAccount count size s.views a
  kept-is-told a k is = tells a (k.stands.nodes ∙ r.nodes) (k.words ∙ r.words) (record {
    holder = λ n e l. sym (k.stands.holder n e l);
    put = λ e. k.stands.put e ∙ ap (λ (b : Books). parcels_in (b.put e)) is;
    got = λ e. k.stands.got e ∙ ap (λ (b : Books). b.got e) is;
    closed = λ e. k.stands.closed e ∙ ap (λ (b : Books). is_closed b e) is;
  })

  tells-books : TellsAccount count size s.views (told r.world r.books r.routes count size)
  tells-books = tells (told r.world r.books r.routes count size) refl refl (record {
    holder = λ n e l. holder-is r.world r.books r.routes r.lawful n e l;
    put = λ e. refl;
    got = λ e. refl;
    closed = λ e. refl;
  })

  in-order : IsInOrder (told r.world r.books r.routes count size)
  in-order e = first-parcels (r.books.got e) (r.books.put (opposite_end e)) (prefix r.world r.books r.routes r.lawful e)

pub tables_tell_accounts : TablesTellAccounts
tables_tell_accounts count size alone s b = let r = b.rules in
    (told r.world r.books r.routes count size, tells-books b, in-order b, λ e h. unheld r.world r.books r.routes r.lawful e h)
