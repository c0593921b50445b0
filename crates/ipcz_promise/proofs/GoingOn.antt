-- How the books go on by a step, as far as what was dropped is concerned.
use Rattle.std.specs.Prelude.{◌≡◌, ◌<◌, ℕ, zero, suc, Bool, true, false, cond, Option, Some, None, List, [], ◌∷◌, ◌++◌}
use Rattle.std.specs.Prelude.{length, slice_get, refl}
use Rattle.std.proofs.Common.{arith, ap, ◌∙◌, sym}
use Rattle.ipcz_base.specs.declared.parcel.Parcel as parcels
use Rattle.ipcz_base.specs.declared.item.Item.TheVariants.{Parcel, Mark, Gone}
use Rattle.ipcz_node.specs.declared.happened.Happened.{Happened}
use Rattle.ipcz_node.specs.declared.happened.Happened.TheVariants as events
use Rattle.ipcz_world.specs.Books.{add_gone, add_got, add_put, after_discard, after_retire, after_turn, has_mark}
use Rattle.ipcz_world.specs.Lawful.{Lawful}
use Rattle.ipcz_world.specs.Routes.{Routes}
use Rattle.ipcz_world.specs.Turns.{router_of}
use Rattle.ipcz_world.proofs.Vocabulary.{Books, End, Item, Router, World}
use Rattle.ipcz_world.proofs.Vocabulary.{is_closed, opposite_end, read, same_end}
use Rattle.ipcz_world.proofs.facts.LinkTests.{opposite_end-twice, same_end-tells}
use Rattle.ipcz_world.proofs.facts.Tests.{not_both}
use Rattle.ipcz_promise.specs.Accounting.{IsUngotAt}

-- the books go on: what was put stays put, what was closed stays closed, and a closed end gets nothing more
pub record GoesOn (b c : Books) : Type 0 where
  pub closed : (d : End) → is_closed b d ≡ true → is_closed c d ≡ true
  pub put : (d : End) (i : ℕ) (item : Item) → slice_get (b.put d) i ≡ Some item → slice_get (c.put d) i ≡ Some item
  pub got : (d : End) → is_closed b d ≡ true → c.got d ≡ b.got d

-- and back: what was dropped after it was dropped before it
abbrev pub GoesBack : Books → Books → Type 0
GoesBack b c = (e : End) (is : IsUngotAt c e) → is.number < read c is.at → (was : IsUngotAt b e) × (was.number < read b was.at)

pub goes-ungot : (b c : Books) (e : End) → GoesOn b c → IsUngotAt b e → IsUngotAt c e
goes-ungot b c e on is = record {
  at = is.at;
  closed = on.closed is.at is.closed;
  number = is.number;
  item = is.item;
  put = on.put (opposite_end is.at) is.number is.item is.put;
  ungot = omega (arith, is.ungot, ap length (on.got is.at is.closed));
  carried = is.carried;
}

slice-more : (xs : List Item) (y x : Item) (i : ℕ) → slice_get xs i ≡ Some x → slice_get (xs ++ y ∷ []) i ≡ Some x
slice-more [] y x i h = cc
slice-more (z ∷ xs) y x zero h = h
slice-more (z ∷ xs) y x (suc i) h = slice-more xs y x i h

mark-stays : (xs : List Item) (y : Item) → has_mark xs ≡ true → has_mark (xs ++ y ∷ []) ≡ true
mark-stays [] y h = cc
mark-stays (Parcel p ∷ xs) y h = mark-stays xs y h
mark-stays (Mark ∷ xs) y h = refl
mark-stays (Gone ∷ xs) y h = mark-stays xs y h

pub goes-same : (b : Books) → GoesOn b b
goes-same b = record { closed = λ d h. h; put = λ d i x h. h; got = λ d h. refl }

pub goes-put : (b : Books) (e : End) (x : Item) → GoesOn b (add_put b e x)
goes-put b e x = record { closed = λ d h. marks d (same_end d e) refl h; put = λ d i y h. puts d i y (same_end d e) refl h; got = λ d h. refl }
  where
    marks : (d : End) (c : Bool) → same_end d e ≡ c → is_closed b d ≡ true → has_mark (cond c (b.put e ++ x ∷ []) (b.put d)) ≡ true
    marks d true q h = mark-stays (b.put e) x (ap (is_closed b) (sym (same_end-tells d e q)) ∙ h)
    marks d false q h = h

    puts : (d : End) (i : ℕ) (y : Item) (c : Bool) → same_end d e ≡ c → slice_get (b.put d) i ≡ Some y →
        slice_get (cond c (b.put e ++ x ∷ []) (b.put d)) i ≡ Some y
    puts d i y true q h = slice-more (b.put e) x y i (ap (λ z. slice_get (b.put z) i) (sym (same_end-tells d e q)) ∙ h)
    puts d i y false q h = h

pub goes-got : (b : Books) (at : End) (p : parcels.Parcel) → is_closed b at ≡ false → GoesOn b (add_got b at p)
goes-got b at p open_ = record { closed = λ d h. h; put = λ d i x h. h; got = λ d h. gots d (same_end d at) refl h }
  where
    gots : (d : End) (c : Bool) → same_end d at ≡ c → is_closed b d ≡ true → cond c (b.got at ++ p ∷ []) (b.got d) ≡ b.got d
    gots d true q h = absurd (not_both (is_closed b at) (ap (is_closed b) (sym (same_end-tells d at q)) ∙ h) open_)
    gots d false q h = refl

goes-gone : (b : Books) (e : End) → GoesOn b (add_gone b e)
goes-gone b e = record { closed = λ d h. h; put = λ d i x h. h; got = λ d h. refl }

goes-discard : (b : Books) (o : Option Router) → GoesOn b (after_discard b o)
unfolding after_discard
goes-discard b None = goes-same b
goes-discard b (Some r) = goes-gone b r.end

goes-retire : (b : Books) (o : Option Router) → GoesOn b (after_retire b o)
unfolding after_retire
goes-retire b None = goes-same b
goes-retire b (Some r) = goes-put b r.end Gone

pub goes-turn : (w : World) (b : Books) (n : ℕ) (event : Happened) → GoesOn b (after_turn w b n event)
unfolding after_turn
goes-turn w b n (events.Close e) = goes-put b e Mark
goes-turn w b n (events.Discard s m) = goes-discard b (router_of w n s)
goes-turn w b n (events.DiscardLeave s m) = goes-discard b (router_of w n s)
goes-turn w b n (events.Retire s m link) = goes-retire b (router_of w n s)
goes-turn w b n other = goes-same b

pub back-same : (b : Books) → GoesBack b b
back-same b e is l = (is, l)

slice-less : (xs : List Item) (y x : Item) (i : ℕ) → i < length xs → slice_get (xs ++ y ∷ []) i ≡ Some x → slice_get xs i ≡ Some x
slice-less [] y x i l h = absurd (omega (arith, l))
slice-less (z ∷ xs) y x zero l h = h
slice-less (z ∷ xs) y x (suc i) l h = slice-less xs y x i (omega (arith, l)) h

-- who has just closed an end has dropped nothing there
pub back-put : (w : World) (b : Books) (g : Routes) → Lawful w b g → (d : End) (x : Item) → GoesBack b (add_put b d x)
back-put w b g law d x e is l = (
  record {
    at = is.at;
    closed = closed (is_closed b is.at) refl;
    number = is.number;
    item = is.item;
    put = puts (same_end (opposite_end is.at) d) refl is.put;
    ungot = is.ungot;
    carried = is.carried;
  },
  l,
)
  where
    closed : (c : Bool) → is_closed b is.at ≡ c → is_closed b is.at ≡ true
    closed true q = q
    closed false q = absurd (omega (arith, l, is.ungot, law.conserved.gone_closed is.at q))

    within : is.number < length (b.put (opposite_end is.at))
    within = omega (arith, l, law.conserved.read_put (opposite_end is.at), ap (read b) (opposite_end-twice is.at))

    puts : (c : Bool) → same_end (opposite_end is.at) d ≡ c →
        slice_get (cond c (b.put d ++ x ∷ []) (b.put (opposite_end is.at))) is.number ≡ Some is.item →
        slice_get (b.put (opposite_end is.at)) is.number ≡ Some is.item
    puts true q h = ap (λ z. slice_get (b.put z) is.number) same
        ∙ slice-less (b.put d) x is.item is.number (omega (arith, within, ap (λ z. length (b.put z)) same)) h
      where
        same : opposite_end is.at ≡ d
        same = same_end-tells (opposite_end is.at) d q
    puts false q h = h

pub back-got : (b : Books) (at : End) (p : parcels.Parcel) → is_closed b at ≡ false → GoesBack b (add_got b at p)
back-got b at p open_ e is l = (
  record {
    at = is.at;
    closed = is.closed;
    number = is.number;
    item = is.item;
    put = is.put;
    ungot = omega (arith, is.ungot, same);
    carried = is.carried;
  },
  omega (arith, l, same),
)
  where
    same : length ((add_got b at p).got is.at) ≡ length (b.got is.at)
    same = ap length ((goes-got b at p open_).got is.at is.closed)
