-- What becomes of one router: whether it tries or could try for the lock of a word, and which peripheral links it has.
use Rattle.std.specs.Prelude.{◌≡◌, not, ◌&&◌, ◌⊎◌, ◌≤◌, ℕ, Bool, true, false, ◌||◌, Some, is_some, refl}
use Rattle.std.proofs.Common.{arith, ap, sym, ◌∙◌, inl, inr}
use Rattle.std.proofs.lemmas.Bool.{or_left, or_right}
use Rattle.ipcz_world.proofs.Vocabulary.{Side, A, B, LinkId, Central, Peripheral, has_link, word_of, Router, is_possible, primary_word, has_primary}
use Rattle.ipcz_world.proofs.Vocabulary.{outward_has, is_proxy, decays, is_on_central, is_done}
use Rattle.ipcz_router.specs.Router.{inward_has, is_terminal}
use Rattle.ipcz_router.specs.declared.act.RouterAct.TheVariants as acts
use Rattle.ipcz_router.specs.ActTable.{is_ready, is_leaving}
use Rattle.ipcz_world.proofs.facts.Lengths.{HasEnd, has_link-tells}

-- a proxy with a spare
pub record IsReadyProxy (r : Router) : Type 0 where
  pub proxy : is_proxy r ≡ true
  pub wet : r.dry ≡ false
  pub spare : is_some r.spare ≡ true

proxy_bools : (p m d y t s x z : Bool) → ((p && (z && (m && (not d && (not y && not t))))) && (s && not x)) ≡ true →
    (p ≡ true) × (m ≡ true) × (d ≡ false) × (y ≡ false) × (t ≡ false) × (s ≡ true) × (x ≡ false) × (z ≡ true)
proxy_bools p m d y t s x z h = (
  grind (arith, h),
  grind (arith, h),
  grind (arith, h),
  grind (arith, h),
  grind (arith, h),
  grind (arith, h),
  grind (arith, h),
  grind (arith, h),
)

sink_bools : (p z m d t x : Bool) → ((p && (z && (m && (not d && not t)))) && not x) ≡ true →
    (p ≡ true) × (z ≡ true) × (m ≡ true) × (d ≡ false) × (t ≡ false) × (x ≡ false)
sink_bools p z m d t x h = (grind (arith, h), grind (arith, h), grind (arith, h), grind (arith, h), grind (arith, h), grind (arith, h))

-- what a try for the lock needs: of both kinds of routers
pub record IsAble (r : Router) : Type 0 where
  pub central : is_on_central r ≡ true
  pub marked : r.marked ≡ true
  pub still : decays r ≡ false
  pub untried : r.tried ≡ false
  pub free : r.holds ≡ false
  pub kind : IsReadyProxy r ⊎ (is_done r ≡ true)

pub able-tells : (r : Router) → is_possible r acts.Lock ≡ true → IsAble r
unfolding is_possible
able-tells r h = go (is_ready r && (is_some r.spare && not r.holds)) (is_leaving r && not r.holds) h refl refl
  where
    go : (a c : Bool) → (a || c) ≡ true → (is_ready r && (is_some r.spare && not r.holds)) ≡ a → (is_leaving r && not r.holds) ≡ c → IsAble r
    go true c h e f = by_proxy (is_proxy r) r.marked (decays r) r.dry r.tried (is_some r.spare) r.holds (is_on_central r) refl refl refl refl refl refl refl refl e
      where
        by_proxy : (p m d y t s x z : Bool) → is_proxy r ≡ p → r.marked ≡ m → decays r ≡ d → r.dry ≡ y → r.tried ≡ t → is_some r.spare ≡ s →
            r.holds ≡ x → is_on_central r ≡ z → (is_ready r && (is_some r.spare && not r.holds)) ≡ true → IsAble r
        by_proxy p m d y t s x z ep em ed ey et es ex ez k =
            let q : ((p && (z && (m && (not d && (not y && not t))))) && (s && not x)) ≡ true = rw (ep, em, ed, ey, et, es, ex, ez) at k in
            let v = proxy_bools p m d y t s x z q in record {
              central = ez ∙ v.7;
              marked = em ∙ v.1;
              still = ed ∙ v.2;
              untried = et ∙ v.4;
              free = ex ∙ v.6;
              kind = inl (record { proxy = ep ∙ v.0; wet = ey ∙ v.3; spare = es ∙ v.5 });
            }
    go false true h e f = by_sink (is_done r) (is_on_central r) r.marked (decays r) r.tried r.holds refl refl refl refl refl refl f
      where
        by_sink : (p z m d t x : Bool) → is_done r ≡ p → is_on_central r ≡ z → r.marked ≡ m → decays r ≡ d → r.tried ≡ t → r.holds ≡ x →
            (is_leaving r && not r.holds) ≡ true → IsAble r
        by_sink p z m d t x ep ez em ed et ex k =
            let q : ((p && (z && (m && (not d && not t)))) && not x) ≡ true = rw (ep, ez, em, ed, et, ex) at k in
            let v = sink_bools p z m d t x q in record {
              central = ez ∙ v.1;
              marked = em ∙ v.2;
              still = ed ∙ v.3;
              untried = et ∙ v.4;
              free = ex ∙ v.5;
              kind = inr (ep ∙ v.0);
            }
    go false false h e f = cc

pub able-is : (r : Router) → IsAble r → is_possible r acts.Lock ≡ true
unfolding is_possible
able-is r is = elim is.kind [
  | inl k ↦ or_left (is_ready r && (is_some r.spare && not r.holds)) (is_leaving r && not r.holds) (proxy_is (is_proxy r) r.marked (decays r) r.dry
      r.tried (is_some r.spare) r.holds (is_on_central r) k.proxy is.marked is.still k.wet is.untried k.spare is.free is.central)
  | inr k ↦ or_right (is_ready r && (is_some r.spare && not r.holds)) (is_leaving r && not r.holds) (sink_is (is_done r) (is_on_central r) r.marked
      (decays r) r.tried r.holds k is.central is.marked is.still is.untried is.free)
]
  where
    proxy_is : (p m d y t s x z : Bool) → p ≡ true → m ≡ true → d ≡ false → y ≡ false → t ≡ false → s ≡ true → x ≡ false → z ≡ true →
        ((p && (z && (m && (not d && (not y && not t))))) && (s && not x)) ≡ true
    proxy_is p m d y t s x z a e f h i j k l = rw (a, e, f, h, i, j, k, l) refl

    sink_is : (p z m d t x : Bool) → p ≡ true → z ≡ true → m ≡ true → d ≡ false → t ≡ false → x ≡ false →
        ((p && (z && (m && (not d && not t)))) && not x) ≡ true
    sink_is p z m d t x a e f h i j = rw (a, e, f, h, i, j) refl

-- a router on a word's link is on a central one
pub on-central : (i : ℕ) (s : Side) (r : Router) → has_primary (Central i) s r ≡ true → primary_word r ≡ Some i
unfolding word_of
on-central i s r h =
    let e : HasEnd r.outward.primary (Central i) s = has_link-tells r.outward.primary (Central i) s h in
    ap word_of e.there ∙ at e.end.link e.on_link
  where
    at : (l : LinkId) → l ≡ Central i → word_of (Some (record { link = l; side = s; other = 0 })) ≡ Some i
    at l q = ap (λ z. word_of (Some (record { link = z; side = s; other = 0 }))) q

-- one router becomes another, seen from the link of one word: whoever tries there did so before; if the word isn't held, whoever could try
-- or owes a wake there still does. It has no new peripheral link but an inward one with a serial that wasn't in use
pub record Follows (i : ℕ) (held : Bool) (number base : ℕ) (x y : Router) : Type 0 where
  pub tried : (s : Side) → y.tried ≡ true → has_primary (Central i) s y ≡ true →
      (x.tried ≡ true) × (has_primary (Central i) s x ≡ true)
  pub able : (s : Side) → held ≡ false → has_primary (Central i) s x ≡ true → is_possible x acts.Lock ≡ true →
      (is_possible y acts.Lock ≡ true) × (has_primary (Central i) s y ≡ true)
  pub owing : (s : Side) → held ≡ false → has_primary (Central i) s x ≡ true → x.wake_owed ≡ true →
      (y.wake_owed ≡ true) × (has_primary (Central i) s y ≡ true)
  pub outward : (n c : ℕ) → outward_has y (Peripheral n c) B ≡ true → outward_has x (Peripheral n c) B ≡ true
  pub inward : (n c : ℕ) → inward_has y (Peripheral n c) A ≡ true →
      (inward_has x (Peripheral n c) A ≡ true) ⊎ ((n ≡ number) × (base ≤ c))
  -- it stays of its end, and who is a terminal was one
  pub end : y.end ≡ x.end
  pub terminal : is_terminal y ≡ true → is_terminal x ≡ true

module _ (i : ℕ) (held : Bool) where
  pub follows-itself : (number base : ℕ) (x : Router) → Follows i held number base x x
  follows-itself number base x = record {
    tried = λ s h on. (h, on);
    able = λ s free on h. (h, on);
    owing = λ s free on h. (h, on);
    outward = λ n c h. h;
    inward = λ n c h. inl h;
    end = refl;
    terminal = λ h. h;
  }

  pub follows-after : (number base later : ℕ) (x y z : Router) → base ≤ later → Follows i held number base x y →
      Follows i held number later y z → Follows i held number base x z
  follows-after number base later x y z l p q = record {
    tried = λ s h on. let t = q.tried s h on in p.tried s t.0 t.1;
    able = λ s free on h. let t = p.able s free on h in q.able s free t.1 t.0;
    owing = λ s free on h. let t = p.owing s free on h in q.owing s free t.1 t.0;
    outward = λ n c h. p.outward n c (q.outward n c h);
    inward = λ n c h. elim (q.inward n c h) [
      | inl a ↦ p.inward n c a
      | inr a ↦ inr (a.0, omega (arith, l, a.1))
    ];
    end = q.end ∙ p.end;
    terminal = λ h. p.terminal (q.terminal h);
  }

  -- queues and the flag change, the try may be forgotten, and decaying links may be given up or get lengths
  pub record IsLeft (x y : Router) : Type 0 where
    pub primary : y.outward.primary ≡ x.outward.primary
    pub decaying : (l : LinkId) (s : Side) → has_link y.outward.decaying l s ≡ true → has_link x.outward.decaying l s ≡ true
    pub inward : (l : LinkId) (s : Side) → inward_has y l s ≡ true → inward_has x l s ≡ true
    pub proxy : is_proxy y ≡ is_proxy x
    pub still : decays x ≡ false → decays y ≡ false
    pub tried : y.tried ≡ true → x.tried ≡ true
    pub marked : y.marked ≡ x.marked
    pub dry : y.dry ≡ x.dry
    pub spare : y.spare ≡ x.spare
    pub holds : y.holds ≡ x.holds
    pub wake : y.wake_owed ≡ x.wake_owed
    pub end : y.end ≡ x.end
    -- a sink that is done stays so
    pub done : is_done x ≡ true → is_done y ≡ true

  pub on-kept : (x y : Router) (s : Side) → y.outward.primary ≡ x.outward.primary → has_primary (Central i) s y ≡ has_primary
      (Central i) s x
  on-kept x y s e = ap (λ p. has_link p (Central i) s) e

  pub follows-left : (number base : ℕ) (x y : Router) → IsLeft x y → Follows i held number base x y
  follows-left number base x y is = record {
    tried = λ s h on. (is.tried h, sym (on-kept x y s is.primary) ∙ on);
    able = λ s free on h. (able-is y (still (able-tells x h)), on-kept x y s is.primary ∙ on);
    owing = λ s free on h. (is.wake ∙ h, on-kept x y s is.primary ∙ on);
    outward = λ n c h. outward n c h;
    inward = λ n c h. inl (is.inward (Peripheral n c) A h);
    end = is.end;
    terminal = λ h. ap not (sym is.proxy) ∙ h;
  }
    where
      untried : x.tried ≡ false → (c : Bool) → y.tried ≡ c → y.tried ≡ false
      untried h false e = e
      untried h true e = absurd (grind (arith, is.tried e, h))

      still : IsAble x → IsAble y
      still a = record {
        central = ap (λ p. is_some (word_of p)) is.primary ∙ a.central;
        marked = is.marked ∙ a.marked;
        still = is.still a.still;
        untried = untried a.untried y.tried refl;
        free = is.holds ∙ a.free;
        kind = elim a.kind [
          | inl k ↦ inl (record { proxy = is.proxy ∙ k.proxy; wet = is.dry ∙ k.wet; spare = ap is_some is.spare ∙ k.spare })
          | inr k ↦ inr (is.done k)
        ];
      }

      outward : (n c : ℕ) → outward_has y (Peripheral n c) B ≡ true → outward_has x (Peripheral n c) B ≡ true
      outward n c h = go (has_link y.outward.primary (Peripheral n c) B) refl
        where
          go : (d : Bool) → has_link y.outward.primary (Peripheral n c) B ≡ d → outward_has x (Peripheral n c) B ≡ true
          go true e = or_left (has_link x.outward.primary (Peripheral n c) B) (has_link x.outward.decaying (Peripheral n c) B)
              (ap (λ p. has_link p (Peripheral n c) B) (sym is.primary) ∙ e)
          go false e = or_right (has_link x.outward.primary (Peripheral n c) B) (has_link x.outward.decaying (Peripheral n c) B)
              (is.decaying (Peripheral n c) B (second (has_link y.outward.primary (Peripheral n c) B)
              (has_link y.outward.decaying (Peripheral n c) B) h e))
            where
              second : (p q : Bool) → (p || q) ≡ true → p ≡ false → q ≡ true
              second true q a b = cc
              second false q a b = a

  -- a router whose part in this word's link doesn't count: it tries there no more, and it wasn't on the link, or the word is held
  pub record IsAside (x y : Router) : Type 0 where
    pub untried : (s : Side) → y.tried ≡ true → has_primary (Central i) s y ≡ true → ⊥
    pub off : (s : Side) → has_primary (Central i) s x ≡ true → held ≡ true
    pub outward : (n c : ℕ) → outward_has y (Peripheral n c) B ≡ true → outward_has x (Peripheral n c) B ≡ true
    pub inward : (l : LinkId) (s : Side) → inward_has y l s ≡ true → inward_has x l s ≡ true
    pub end : y.end ≡ x.end
    pub terminal : is_terminal y ≡ true → is_terminal x ≡ true

  pub follows-aside : (number base : ℕ) (x y : Router) → IsAside x y → Follows i held number base x y
  follows-aside number base x y is = record {
    tried = λ s h on. absurd (is.untried s h on);
    able = λ s free on h. absurd (grind (arith, is.off s on, free));
    owing = λ s free on h. absurd (grind (arith, is.off s on, free));
    outward = is.outward;
    inward = λ n c h. inl (is.inward (Peripheral n c) A h);
    end = is.end;
    terminal = is.terminal;
  }
