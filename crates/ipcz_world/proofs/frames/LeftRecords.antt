-- What the records of a router that leaves have to do with those before it.
use Rattle.std.specs.Prelude.{◌≡◌, ◌≢◌, ◌⊎◌, ℕ, Bool, true, false, cond, nat_eq, Option, Some, None, refl}
use Rattle.std.proofs.Common.{arith, sym, ◌∙◌, ap, inl, inr}
use Rattle.std.proofs.lemmas.Bool.Decides.{nat_tests}
use Rattle.ipcz_word.specs.SideSets.{Sides, has, with, has-with_here, has-with_apart}
use Rattle.ipcz_world.proofs.Vocabulary.{Side, A, B, LinkId, Central, Peripheral, LinkEnd, Router, inward_edge, Key, same_key, same_side, Records}
use Rattle.ipcz_world.proofs.Vocabulary.{Owner, is_linked, CentralRecord, Lost, is_lost_owner, is_left}
use Rattle.ipcz_world.specs.Records.{PeripheralRecord, Spare, Fresh, Linked, is_unclaimed}
use Rattle.ipcz_world.proofs.facts.RecordsAfter.{left_link, left_end, lost_word}
use Rattle.ipcz_world.proofs.frames.Frames.{same_key_tells, same_key-itself}
use Rattle.ipcz_world.proofs.frames.Aside.{aside, IsAside, KeepsOwners, central_left, peripheral_left}
use Rattle.ipcz_world.proofs.facts.Lengths.{same_side-tells}
use Rattle.ipcz_world.proofs.facts.Tests.{nat_eq-itself}

-- records that differ in the sides that were left, and in the owners of words
pub record SameButLeft (g h : Records) : Type 0 where
  pub central : (i : ℕ) → h.central i ≡ record (g.central i) { left = (h.central i).left }
  pub peripheral : (p : Key) → h.peripheral p ≡ record (g.peripheral p) { left = (h.peripheral p).left }
  pub terminal : h.terminal ≡ g.terminal
  pub begun : h.begun ≡ g.begun
  pub bypass : h.bypass ≡ g.bypass

pub same_but-itself : (g : Records) → SameButLeft g g
same_but-itself g = record { central = λ i. refl; peripheral = λ p. refl; terminal = refl; begun = refl; bypass = refl }

pub same_but-then : (g h u : Records) → SameButLeft g h → SameButLeft h u → SameButLeft g u
same_but-then g h u a c = record {
  central = λ i. c.central i ∙ ap (λ (x : CentralRecord). record x { left = (u.central i).left }) (a.central i);
  peripheral = λ p. c.peripheral p ∙ ap (λ (x : PeripheralRecord). record x { left = (u.peripheral p).left }) (a.peripheral p);
  terminal = c.terminal ∙ a.terminal;
  begun = c.begun ∙ a.begun;
  bypass = c.bypass ∙ a.bypass;
}

pub off-is : (g h : Records) → SameButLeft g h →
    h ≡ aside g h.owner (central_left h) (peripheral_left h) g.terminal
off-is g h s = λ t. record {
  owner = h.owner;
  central = λ i. s.central i t;
  peripheral = λ p. s.peripheral p t;
  bypass = s.bypass t;
  begun = s.begun t;
  terminal = s.terminal t;
}

pub left_link-same : (g : Records) (l : LinkId) (s : Side) → SameButLeft g (left_link g l s)
unfolding left_link
left_link-same g (Central i) s = record {
  central = λ j. go j (nat_eq j i) refl;
  peripheral = λ p. refl;
  terminal = refl;
  begun = refl;
  bypass = refl;
}
  where
    c : CentralRecord
    c = record (g.central i) { left = with (g.central i).left s }

    go : (j : ℕ) (t : Bool) → nat_eq j i ≡ t → cond (nat_eq j i) c (g.central j) ≡
        record (g.central j) { left = (cond (nat_eq j i) c (g.central j)).left }
    go j true e = let same : i ≡ j = grind (arith, e, nat_tests) in
        rw e (ap (λ n. record (g.central n) { left = with (g.central i).left s }) same)
    go j false e = rw e refl
left_link-same g (Peripheral n x) s = record {
  central = λ j. refl;
  peripheral = λ p. go p (same_key_tells p k);
  terminal = refl;
  begun = refl;
  bypass = refl;
}
  where
    k : Key
    k = record { node = n; serial = x }

    c : PeripheralRecord
    c = record (g.peripheral k) { left = with (g.peripheral k).left s }

    go : (p : Key) → ((same_key p k ≡ true) × (p ≡ k)) ⊎ ((same_key p k ≡ false) × (p ≢ k)) →
        cond (same_key p k) c (g.peripheral p) ≡ record (g.peripheral p) { left = (cond (same_key p k) c (g.peripheral p)).left }
    go p (inl e) = rw e.0 (ap (λ n. record (g.peripheral n) { left = with (g.peripheral k).left s }) (sym e.1))
    go p (inr e) = rw e.0 refl

pub left_end-same : (g : Records) (o : Option LinkEnd) → SameButLeft g (left_end g o)
unfolding left_end
left_end-same g None = same_but-itself g
left_end-same g (Some e) = left_link-same g e.link e.side

pub lost_word-same : (g : Records) (o : Option ℕ) → SameButLeft g (lost_word g o)
unfolding lost_word
lost_word-same g None = same_but-itself g
lost_word-same g (Some i) = record { central = λ i. refl; peripheral = λ p. refl; terminal = refl; begun = refl; bypass = refl }

-- which sides are left
record LeftSame (a c : Sides) (s t : Side) : Type 0 where
  more : has a t ≡ true → has c t ≡ true
  back : has c t ≡ true → (has a t ≡ true) ⊎ (t ≡ s)

with-left : (a : Sides) (s t : Side) → LeftSame a (with a s) s t
with-left a s t = go (same_side t s) refl
  where
    go : (c : Bool) → same_side t s ≡ c → LeftSame a (with a s) s t
    go true e = let f = same_side-tells t s e in record { more = λ h. has-with_here a s t f; back = λ h. inr f }
    go false e = let ne : t ≢ s = λ f. apart t s f e in
        record { more = λ h. has-with_apart a s t ne ∙ h; back = λ h. inl (sym (has-with_apart a s t ne) ∙ h) }
      where
        apart : (t s : Side) → t ≡ s → same_side t s ≡ false → ⊥
        apart A A f e = grind (arith, e)
        apart A B f e = cc
        apart B A f e = cc
        apart B B f e = grind (arith, e)

pub left_link-more : (g : Records) (l : LinkId) (s : Side) (m : LinkId) (t : Side) → is_left g m t ≡ true → is_left (left_link g l s) m t ≡ true
unfolding left_link is_left
left_link-more g (Central i) s (Central j) t h = go (nat_eq j i) refl
  where
    go : (c : Bool) → nat_eq j i ≡ c →
        has (cond (nat_eq j i) (record (g.central i) { left = with (g.central i).left s }) (g.central j)).left t ≡ true
    go true e = let same : j ≡ i = grind (arith, e, nat_tests) in
        rw e ((with-left (g.central i).left s t).more (ap (λ n. has (g.central n).left t) (sym same) ∙ h))
    go false e = rw e h
left_link-more g (Central i) s (Peripheral n x) t h = h
left_link-more g (Peripheral m y) s (Central j) t h = h
left_link-more g (Peripheral m y) s (Peripheral n x) t h = go (same_key_tells (record { node = n; serial = x }) (record { node = m; serial = y }))
  where
    p : Key
    p = record { node = n; serial = x }

    k : Key
    k = record { node = m; serial = y }

    go : ((same_key p k ≡ true) × (p ≡ k)) ⊎ ((same_key p k ≡ false) × (p ≢ k)) →
        has (cond (same_key p k) (record (g.peripheral k) { left = with (g.peripheral k).left s }) (g.peripheral p)).left t ≡ true
    go (inl e) = rw e.0 ((with-left (g.peripheral k).left s t).more (ap (λ n. has (g.peripheral n).left t) (sym e.1) ∙ h))
    go (inr e) = rw e.0 h

pub left_link-here : (g : Records) (l : LinkId) (s : Side) → is_left (left_link g l s) l s ≡ true
unfolding left_link is_left
left_link-here g (Central i) s = rw (nat_eq-itself i) (has-with_here (g.central i).left s s refl)
left_link-here g (Peripheral n x) s = rw (same_key-itself (record { node = n; serial = x }))
    (has-with_here (g.peripheral (record { node = n; serial = x })).left s s refl)

pub left_link-back : (g : Records) (l : LinkId) (s : Side) (m : LinkId) (t : Side) → is_left (left_link g l s) m t ≡ true →
    (is_left g m t ≡ true) ⊎ ((m ≡ l) × (t ≡ s))
unfolding left_link is_left
left_link-back g (Central i) s (Central j) t h = go (nat_eq j i) refl h
  where
    go : (c : Bool) → nat_eq j i ≡ c →
        has (cond c (record (g.central i) { left = with (g.central i).left s }) (g.central j)).left t ≡ true →
        (has (g.central j).left t ≡ true) ⊎ ((Central j ≡ Central i) × (t ≡ s))
    go true e h = let same : j ≡ i = grind (arith, e, nat_tests) in elim ((with-left (g.central i).left s t).back h) [
      | inl f ↦ inl (ap (λ n. has (g.central n).left t) same ∙ f)
      | inr f ↦ inr (ap Central same, f)
    ]
    go false e h = inl h
left_link-back g (Central i) s (Peripheral n x) t h = inl h
left_link-back g (Peripheral m y) s (Central j) t h = inl h
left_link-back g (Peripheral m y) s (Peripheral n x) t h = go (same_key p k) refl h
  where
    p : Key
    p = record { node = n; serial = x }

    k : Key
    k = record { node = m; serial = y }

    go : (c : Bool) → same_key p k ≡ c →
        has (cond c (record (g.peripheral k) { left = with (g.peripheral k).left s }) (g.peripheral p)).left t ≡ true →
        (has (g.peripheral p).left t ≡ true) ⊎ ((Peripheral n x ≡ Peripheral m y) × (t ≡ s))
    go true e h = let same : p ≡ k = grind (arith, e, same_key_tells p k) in elim ((with-left (g.peripheral k).left s t).back h) [
      | inl f ↦ inl (ap (λ n. has (g.peripheral n).left t) same ∙ f)
      | inr f ↦ inr (ap (λ z. Peripheral z.node z.serial) same, f)
    ]
    go false e h = inl h

pub left_end-more : (g : Records) (o : Option LinkEnd) (m : LinkId) (t : Side) → is_left g m t ≡ true → is_left (left_end g o) m t ≡ true
unfolding left_end
left_end-more g None m t h = h
left_end-more g (Some e) m t h = left_link-more g e.link e.side m t h

pub left_end-here : (g : Records) (o : Option LinkEnd) (e : LinkEnd) → o ≡ Some e → is_left (left_end g o) e.link e.side ≡ true
unfolding left_end
left_end-here g None e h = cc
left_end-here g (Some x) e h = let same : x ≡ e = cc in rw (← same) (left_link-here g x.link x.side)

pub left_end-back : (g : Records) (o : Option LinkEnd) (m : LinkId) (t : Side) → is_left (left_end g o) m t ≡ true →
    (is_left g m t ≡ true) ⊎ ((e : LinkEnd) × (o ≡ Some e) × (m ≡ e.link) × (t ≡ e.side))
unfolding left_end
left_end-back g None m t h = inl h
left_end-back g (Some x) m t h = elim (left_link-back g x.link x.side m t h) [ inl f ↦ inl f | inr f ↦ inr (x, refl, f.0, f.1) ]

left_link-owner : (g : Records) (l : LinkId) (s : Side) → (left_link g l s).owner ≡ g.owner
unfolding left_link
left_link-owner g (Central i) s = refl
left_link-owner g (Peripheral n x) s = refl

left_end-owner : (g : Records) (o : Option LinkEnd) → (left_end g o).owner ≡ g.owner
unfolding left_end
left_end-owner g None = refl
left_end-owner g (Some e) = left_link-owner g e.link e.side

lost_word-left : (g : Records) (o : Option ℕ) (m : LinkId) (t : Side) → is_left (lost_word g o) m t ≡ is_left g m t
unfolding lost_word is_left
lost_word-left g None m t = refl
lost_word-left g (Some i) m t = refl

lost_word-on : (g : Records) (o : Option ℕ) (i : ℕ) → (o ≡ Some i → ⊥) → (lost_word g o).owner i ≡ g.owner i
unfolding lost_word
lost_word-on g None i h = refl
lost_word-on g (Some j) i h = go (nat_eq i j) refl
  where
    go : (c : Bool) → nat_eq i j ≡ c → cond (nat_eq i j) Lost (g.owner i) ≡ g.owner i
    go true e = let same : j ≡ i = grind (arith, e, nat_tests) in absurd (h (ap Some same))
    go false e = rw e refl

lost_word-here : (g : Records) (o : Option ℕ) (i : ℕ) → o ≡ Some i → (lost_word g o).owner i ≡ Lost
unfolding lost_word
lost_word-here g None i h = cc
lost_word-here g (Some j) i h = let same : j ≡ i = cc in rw (← same) (rw (nat_eq-itself j) refl)

-- what the records are, but for a terminal's end
abbrev pub off_of : Records → Router → Records
off_of g r = lost_word (left_end (left_end g r.outward.primary) (inward_edge r).primary) r.spare

module _ (g : Records) (r : Router) where
  pub off-same : SameButLeft g (off_of g r)
  off-same = same_but-then g (left_end (left_end g r.outward.primary) (inward_edge r).primary) (off_of g r)
      (same_but-then g (left_end g r.outward.primary) (left_end (left_end g r.outward.primary) (inward_edge r).primary)
      (left_end-same g r.outward.primary) (left_end-same (left_end g r.outward.primary) (inward_edge r).primary))
      (lost_word-same (left_end (left_end g r.outward.primary) (inward_edge r).primary) r.spare)

  pub off-more : (l : LinkId) (s : Side) → is_left g l s ≡ true → is_left (off_of g r) l s ≡ true
  off-more l s h = lost_word-left (left_end (left_end g r.outward.primary) (inward_edge r).primary) r.spare l s ∙
      left_end-more (left_end g r.outward.primary) (inward_edge r).primary l s (left_end-more g r.outward.primary l s h)

  pub off-primary : (e : LinkEnd) → r.outward.primary ≡ Some e → is_left (off_of g r) e.link e.side ≡ true
  off-primary e h = lost_word-left (left_end (left_end g r.outward.primary) (inward_edge r).primary) r.spare e.link e.side ∙
      left_end-more (left_end g r.outward.primary) (inward_edge r).primary e.link e.side (left_end-here g r.outward.primary e h)

  pub off-inward : (e : LinkEnd) → (inward_edge r).primary ≡ Some e → is_left (off_of g r) e.link e.side ≡ true
  off-inward e h = lost_word-left (left_end (left_end g r.outward.primary) (inward_edge r).primary) r.spare e.link e.side ∙
      left_end-here (left_end g r.outward.primary) (inward_edge r).primary e h

  pub off-back : (l : LinkId) (s : Side) → is_left (off_of g r) l s ≡ true → (is_left g l s ≡ true) ⊎
      (((e : LinkEnd) × (r.outward.primary ≡ Some e) × (l ≡ e.link) × (s ≡ e.side)) ⊎
      ((e : LinkEnd) × ((inward_edge r).primary ≡ Some e) × (l ≡ e.link) × (s ≡ e.side)))
  off-back l s h = elim (left_end-back (left_end g r.outward.primary) (inward_edge r).primary l s
      (sym (lost_word-left (left_end (left_end g r.outward.primary) (inward_edge r).primary) r.spare l s) ∙ h)) [
        | inl a ↦ elim (left_end-back g r.outward.primary l s a) [ inl c ↦ inl c | inr c ↦ inr (inl c) ]
        | inr a ↦ inr (inr a)
      ]

  pub off-owner : (i : ℕ) → (r.spare ≡ Some i → ⊥) → (off_of g r).owner i ≡ g.owner i
  off-owner i h = lost_word-on (left_end (left_end g r.outward.primary) (inward_edge r).primary) r.spare i h ∙
      ap (λ o. o i) (left_end-owner (left_end g r.outward.primary) (inward_edge r).primary ∙ left_end-owner g r.outward.primary)

  pub off-lost : (i : ℕ) → r.spare ≡ Some i → (off_of g r).owner i ≡ Lost
  off-lost i h = lost_word-here (left_end (left_end g r.outward.primary) (inward_edge r).primary) r.spare i h

  -- what is the same of a word, if it isn't the spare's
  pub owner_by : (i : ℕ) (P : Owner → Type 0) → ((r.spare ≡ Some i → ⊥) → P (g.owner i)) → (r.spare ≡ Some i → P Lost) → P ((off_of g r).owner i)
  owner_by i P other here = go r.spare refl
    where
      go : (o : Option ℕ) → r.spare ≡ o → P ((off_of g r).owner i)
      go None e = let no_spare : r.spare ≡ Some i → ⊥ = λ h. none_other i (sym e ∙ h) in rw (off-owner i no_spare) (other no_spare)
        where
          none_other : (i : ℕ) → None ≡ Some i → ⊥
          none_other i h = cc
      go (Some j) e = at (nat_eq j i) refl
        where
          apart : (i j : ℕ) → nat_eq j i ≡ false → Some j ≡ Some i → ⊥
          apart i j c h = let same : j ≡ i = cc in grind (arith, c, same, nat_tests)

          at : (c : Bool) → nat_eq j i ≡ c → P ((off_of g r).owner i)
          at true c = let h : r.spare ≡ Some i = e ∙ ap Some (let same : j ≡ i = grind (arith, c, nat_tests) in same) in rw (off-lost i h) (here h)
          at false c = let ne : r.spare ≡ Some i → ⊥ = λ h. apart i j c (sym e ∙ h) in rw (off-owner i ne) (other ne)

  pub off-back_owner : (i : ℕ) (o : Owner) → (off_of g r).owner i ≡ o → is_lost_owner o ≡ false → g.owner i ≡ o
  unfolding is_lost_owner
  off-back_owner i o = owner_by i (λ x. x ≡ o → is_lost_owner o ≡ false → g.owner i ≡ o) (λ n h l. h)
      (λ s h l. let f : is_lost_owner Lost ≡ false = ap is_lost_owner h ∙ l in cc)

  pub is_off : (k : Key) → ((i : ℕ) → r.spare ≡ Some i → g.owner i ≡ Spare k) →
      IsAside g (off_of g r).owner (central_left (off_of g r)) (peripheral_left (off_of g r)) g.terminal
  unfolding is_linked is_left
  is_off k spared = record {
    linked = λ i. owner_by i (λ x. is_linked x ≡ is_linked (g.owner i)) (λ n. refl) (λ s. sym (ap is_linked (spared i s)));
    more = off-more;
    nowhere = λ e. refl;
    descriptor = λ e. refl;
    weight = λ f e. refl;
  }

  pub off-owners : (k : Key) → ((i : ℕ) → r.spare ≡ Some i → g.owner i ≡ Spare k) → KeepsOwners g (off_of g r).owner
  unfolding is_unclaimed
  off-owners k spared = record {
    unclaimed = λ i. owner_by i (λ x. is_unclaimed x ≡ is_unclaimed (g.owner i)) (λ n. refl) (λ s. sym (ap is_unclaimed (spared i s)));
    fresh = λ o i e. owner_by i (λ x. x ≡ Fresh o) (λ n. e) (λ s. let f : Spare k ≡ Fresh o = sym (spared i s) ∙ e in cc);
    link = λ i e. owner_by i (λ x. x ≡ Linked) (λ n. e) (λ s. let f : Spare k ≡ Linked = sym (spared i s) ∙ e in cc);
  }
