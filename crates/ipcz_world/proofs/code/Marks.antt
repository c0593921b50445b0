-- Mailboxes with the flags that looks set: what a write does to the mailboxes as they stand, and to how many of them are full.
use Rattle.std.specs.Prelude.{◌≡◌, ◌<◌, ◌≤◌, ℕ, zero, suc, ◌+◌, Bool, true, false, cond, not, ◌&&◌, ◌-◌, Some, List, [], ◌∷◌, length, replicate}
use Rattle.std.proofs.Common.{arith, ap, sym, refl, get_or, set, ◌∙◌}
use Rattle.ipcz_base.specs.declared.message.Message.{Message}
use Rattle.ipcz_world.proofs.Vocabulary.{place_at, put_place, total_list, Mail, is_full, is_clear, higher, highest}
use Rattle.ipcz_world.specs.declared.mail.Mail.TheVariants.{Empty, Full, Hand}
use Rattle.ipcz_world.specs.Mailing.{taken_up, put_down, as_marked, as_they_stand, count_full, AreKept}
use Rattle.ipcz_world.specs.Turns.{hand_message}
use Rattle.ipcz_world.specs.SettleLimit.{gone_mailed}
use Rattle.ipcz_world.proofs.code.Slots.{get-place, length-put, place_read, put-same, set-place}
use Rattle.ipcz_world.proofs.frames.Totalling.{total_list-put_place}
use Rattle.ipcz_world.proofs.frames.Sums.{total_list-place}

-- one mailbox and its flag
pub marked-empty : (h : Bool) → as_marked h Empty ≡ Empty
unfolding as_marked taken_up
marked-empty false = refl
marked-empty true = refl

pub taken-marked : (h : Bool) (m : Mail) → taken_up (as_marked h m) ≡ as_marked true m
unfolding as_marked taken_up
taken-marked false m = refl
taken-marked true Empty = refl
taken-marked true (Full m) = refl
taken-marked true (Hand m) = refl

pub clear-marked : (h : Bool) (m : Mail) → is_clear (as_marked h m) ≡ is_clear m
unfolding as_marked taken_up is_clear
clear-marked false m = refl
clear-marked true Empty = refl
clear-marked true (Full m) = refl
clear-marked true (Hand m) = refl

pub full-unmarked : (m : Mail) → is_full (as_marked false m) ≡ is_full m
unfolding as_marked
full-unmarked m = refl

pub full-marked : (m : Mail) → is_full (as_marked true m) ≡ false
unfolding as_marked taken_up is_full
full-marked Empty = refl
full-marked (Full m) = refl
full-marked (Hand m) = refl

pub full-put_down : (m : Mail) → is_full (put_down m) ≡ is_full m
unfolding put_down is_full
full-put_down Empty = refl
full-put_down (Full m) = refl
full-put_down (Hand m) = refl

pub full-taken_up : (m : Mail) → is_full (taken_up m) ≡ false
unfolding taken_up is_full
full-taken_up Empty = refl
full-taken_up (Full m) = refl
full-taken_up (Hand m) = refl

-- the mailboxes as they stand
pub length-stand : (ms : List Mail) (hs : List Bool) → length (as_they_stand ms hs) ≡ length ms
length-stand [] hs = refl
length-stand (m ∷ ms) [] = ap suc (length-stand ms [])
length-stand (m ∷ ms) (h ∷ hs) = ap suc (length-stand ms hs)

pub stand-empty : (n : ℕ) (hs : List Bool) → as_they_stand (replicate n Empty) hs ≡ replicate n Empty
stand-empty zero hs = refl
stand-empty (suc n) [] = ap (λ ms. Empty ∷ ms) (stand-empty n [])
stand-empty (suc n) (h ∷ hs) = ap (λ m. m ∷ as_they_stand (replicate n Empty) hs) (marked-empty h) ∙ ap (λ ms. Empty ∷ ms) (stand-empty n hs)

pub stand-unmarked : (ms : List Mail) (n : ℕ) → as_they_stand ms (replicate n false) ≡ ms
unfolding as_marked
stand-unmarked [] n = refl
stand-unmarked (m ∷ ms) zero = ap (λ ms. m ∷ ms) (stand-unmarked ms zero)
stand-unmarked (m ∷ ms) (suc n) = ap (λ ms. m ∷ ms) (stand-unmarked ms n)

pub stand-place : (ms : List Mail) (hs : List Bool) (k : ℕ) → k < length ms → k < length hs →
    place_at Empty (as_they_stand ms hs) k ≡ as_marked (place_at false hs k) (place_at Empty ms k)
unfolding place_at
stand-place [] hs k l many = absurd (omega (arith, l))
stand-place (m ∷ ms) [] k l many = absurd (omega (arith, many))
stand-place (m ∷ ms) (h ∷ hs) zero l many = refl
stand-place (m ∷ ms) (h ∷ hs) (suc k) l many = stand-place ms hs k (omega (arith, l)) (omega (arith, many))

-- a mailbox and its flag are written
pub stand-put : (ms : List Mail) (hs : List Bool) (k : ℕ) (m : Mail) (h : Bool) → k < length ms → k < length hs →
    as_they_stand (put_place Empty ms k m) (put_place false hs k h) ≡ put_place Empty (as_they_stand ms hs) k (as_marked h m)
unfolding put_place
stand-put [] hs k m h l many = absurd (omega (arith, l))
stand-put (x ∷ ms) [] k m h l many = absurd (omega (arith, many))
stand-put (x ∷ ms) (y ∷ hs) zero m h l many = refl
stand-put (x ∷ ms) (y ∷ hs) (suc k) m h l many =
    ap (λ zs. as_marked y x ∷ zs) (stand-put ms hs k m h (omega (arith, l)) (omega (arith, many)))

-- only a flag is written
pub stand-mark : (ms : List Mail) (hs : List Bool) (k : ℕ) → k < length ms → k < length hs →
    as_they_stand ms (put_place false hs k true) ≡ put_place Empty (as_they_stand ms hs) k (taken_up (place_at Empty (as_they_stand ms hs) k))
stand-mark ms hs k l many =
    ap (λ xs. as_they_stand xs (put_place false hs k true)) (sym (put-same Empty ms k l)) ∙
    stand-put ms hs k (place_at Empty ms k) true l many ∙
    ap (put_place Empty (as_they_stand ms hs) k)
    (sym (ap taken_up (stand-place ms hs k l many) ∙ taken-marked (place_at false hs k) (place_at Empty ms k)))

-- only a mailbox is written
pub stand-box : (ms : List Mail) (hs : List Bool) (k : ℕ) (m : Mail) → k < length ms → k < length hs →
    as_they_stand (put_place Empty ms k m) hs ≡ put_place Empty (as_they_stand ms hs) k (as_marked (place_at false hs k) m)
stand-box ms hs k m l many =
    ap (as_they_stand (put_place Empty ms k m)) (sym (put-same false hs k many)) ∙
    stand-put ms hs k m (place_at false hs k) l many

-- how many are full
pub count-put : (ms : List Mail) (k : ℕ) (m : Mail) →
    count_full (put_place Empty ms k m) + cond (is_full (place_at Empty ms k)) 1 0 ≡ count_full ms + cond (is_full m) 1 0
unfolding is_full
count-put ms k m = total_list-put_place (λ m. cond (is_full m) 1 0) Empty ms k m refl

one-most : (b : Bool) → cond b 1 0 ≤ 1
one-most true = omega arith
one-most false = omega arith

pub count-most : (ms : List Mail) → count_full ms ≤ length ms
count-most [] = omega arith
count-most (m ∷ ms) = omega (arith, one-most (is_full m), count-most ms)

pub count-place : (ms : List Mail) (k : ℕ) → cond (is_full (place_at Empty ms k)) 1 0 ≤ count_full ms
unfolding is_full
count-place ms k = total_list-place (λ m. cond (is_full m) 1 0) Empty ms k refl

no-one : (b : Bool) → cond b 1 0 ≤ 0 → b ≡ false
no-one true l = absurd (omega (arith, l))
no-one false l = refl

pub none-full : (ms : List Mail) (k : ℕ) → count_full ms ≡ 0 → is_full (place_at Empty ms k) ≡ false
none-full ms k none = no-one (is_full (place_at Empty ms k)) (omega (arith, count-place ms k, none))

-- if it isn't none that are full, one is
pub some-full : (ms : List Mail) → (count_full ms ≡ 0 → ⊥) → (k : ℕ) × (is_full (place_at Empty ms k) ≡ true)
unfolding is_full place_at
some-full [] some = absurd (some refl)
some-full (m ∷ ms) some = go (is_full m) refl (λ more. some-full ms more)
  where
    go : (b : Bool) → is_full m ≡ b → ((count_full ms ≡ 0 → ⊥) → (k : ℕ) × (is_full (place_at Empty ms k) ≡ true)) →
        (k : ℕ) × (is_full (place_at Empty (m ∷ ms) k) ≡ true)
    go true e later = (0, e)
    go false e later =
        let none_here = ap {B = ℕ} (λ (b : Bool). cond b 1 0) e in
        let t = later (λ none. some (omega (arith, none_here, none))) in (suc t.0, t.1)

pub count-empty : (n : ℕ) → count_full (replicate n Empty) ≡ 0
unfolding is_full
count-empty zero = refl
count-empty (suc n) = omega (arith, count-empty n)

-- whether a mailbox is empty is seen without its flag
pub clear-stand : (ms : List Mail) (hs : List Bool) →
    total_list (λ m. cond (is_clear m) 0 1) (as_they_stand ms hs) ≡ total_list (λ m. cond (is_clear m) 0 1) ms
clear-stand [] hs = refl
clear-stand (m ∷ ms) [] = ap (λ n. cond (is_clear m) 0 1 + n) (clear-stand ms [])
clear-stand (m ∷ ms) (h ∷ hs) =
    let e = ap {B = ℕ} (λ (b : Bool). cond b 0 1) (clear-marked h m) in omega (arith, e, clear-stand ms hs)

-- the Gone in a mailbox is seen without its flag
gone-marked : (h : Bool) (m : Mail) → gone_mailed (as_marked h m) ≡ gone_mailed m
unfolding as_marked taken_up gone_mailed
gone-marked false m = refl
gone-marked true Empty = refl
gone-marked true (Full m) = refl
gone-marked true (Hand m) = refl

pub gone-stand : (ms : List Mail) (hs : List Bool) → highest gone_mailed (as_they_stand ms hs) ≡ highest gone_mailed ms
gone-stand [] hs = refl
gone-stand (m ∷ ms) [] = ap (higher (gone_mailed m)) (gone-stand ms [])
gone-stand (m ∷ ms) (h ∷ hs) = ap (λ n. higher n (highest gone_mailed (as_they_stand ms hs))) (gone-marked h m) ∙
    ap (higher (gone_mailed m)) (gone-stand ms hs)

-- what a mailbox is seen to be, by what was left in it and its flag
pub within : (ms : List Mail) (hs : List Bool) (now : List Mail) (k : ℕ) → as_they_stand ms hs ≡ now → k < length now → k < length ms
within ms hs now k is l = let e : length ms ≡ length now = sym (length-stand ms hs) ∙ ap (λ (xs : List Mail). length xs) is in omega (arith, e, l)

pub seen-at : (ms : List Mail) (hs : List Bool) (now : List Mail) (k : ℕ) (x : Mail) → as_they_stand ms hs ≡ now → k < length ms →
    k < length hs → x ≡ get_or ms k x → place_at Empty now k ≡ as_marked (place_at false hs k) x
seen-at ms hs now k x is l many at =
    ap (λ (xs : List Mail). place_at Empty xs k) (sym is) ∙ stand-place ms hs k l many ∙ ap (as_marked (place_at false hs k)) (place_read Empty ms k x at l)

pub full-as : (h : Bool) (m : Mail) → is_full (as_marked h m) ≡ (not h && is_full m)
unfolding as_marked
full-as false m = refl
full-as true m = full-marked m

-- the mailboxes at the start, and those that are given
length-same : (n : ℕ) → length (replicate n Empty) ≡ n
length-same zero = refl
length-same (suc n) = ap suc (length-same n)

flags : (n : ℕ) → length (replicate n false) ≡ n
flags zero = refl
flags (suc n) = ap suc (flags n)

pub empty-kept : (n : ℕ) → n ≤ 4096 → AreKept (replicate n Empty) (replicate 4096 false) 0
empty-kept n l = record {
  few = let e = length-same n in omega (arith, e, l);
  marked = flags 4096;
  counted = sym (ap count_full (stand-empty n (replicate 4096 false)) ∙ count-empty n);
}

pub given-kept : (ms : List Mail) (full : ℕ) → length ms ≤ 4096 → full ≡ count_full ms → AreKept ms (replicate 4096 false) full
given-kept ms full l e = record { few = l; marked = flags 4096; counted = e ∙ sym (ap count_full (stand-unmarked ms 4096)) }

-- the mailboxes as they stand after code has written
length-written : {X : Type 0} (d : X) (xs : List X) (k : ℕ) (y : X) → k < length xs → length (set xs k y) ≡ length xs
length-written d xs k y l = ap (λ ys. length ys) (set-place d xs k y l) ∙ length-put d xs k y l

pub wrote : (ms : List Mail) (hs : List Bool) (now : List Mail) (k : ℕ) (m : Mail) (h : Bool) → as_they_stand ms hs ≡ now → k < length ms →
    k < length hs → as_they_stand (set ms k m) (set hs k h) ≡ put_place Empty now k (as_marked h m)
wrote ms hs now k m h is l many =
    ap (λ (xs : List Mail). as_they_stand xs (set hs k h)) (set-place Empty ms k m l) ∙
    ap (as_they_stand (put_place Empty ms k m)) (set-place false hs k h many) ∙
    stand-put ms hs k m h l many ∙ ap (λ (xs : List Mail). put_place Empty xs k (as_marked h m)) is

pub wrote-box : (ms : List Mail) (hs : List Bool) (now : List Mail) (k : ℕ) (m : Mail) → as_they_stand ms hs ≡ now → k < length ms →
    k < length hs → as_they_stand (set ms k m) hs ≡ put_place Empty now k (as_marked (place_at false hs k) m)
wrote-box ms hs now k m is l many =
    ap (λ (xs : List Mail). as_they_stand xs hs) (set-place Empty ms k m l) ∙
    stand-box ms hs k m l many ∙ ap (λ (xs : List Mail). put_place Empty xs k (as_marked (place_at false hs k) m)) is

pub wrote-mark : (ms : List Mail) (hs : List Bool) (now : List Mail) (k : ℕ) → as_they_stand ms hs ≡ now → k < length ms →
    k < length hs → as_they_stand ms (set hs k true) ≡ put_place Empty now k (taken_up (place_at Empty now k))
wrote-mark ms hs now k is l many =
    ap (as_they_stand ms) (set-place false hs k true many) ∙
    stand-mark ms hs k l many ∙ ap (λ (xs : List Mail). put_place Empty xs k (taken_up (place_at Empty xs k))) is

-- a mailbox is another, and so many are full then
kept-by : (ms ns : List Mail) (hs js : List Bool) (now : List Mail) (k full more : ℕ) (m : Mail) → AreKept ms hs full →
    as_they_stand ms hs ≡ now → length ns ≡ length ms → length js ≡ length hs → as_they_stand ns js ≡ put_place Empty now k m →
    more + cond (is_full (place_at Empty now k)) 1 0 ≡ full + cond (is_full m) 1 0 → AreKept ns js more
kept-by ms ns hs js now k full more m kept is many marks written moved = record {
  few = omega (arith, kept.few, many);
  marked = marks ∙ kept.marked;
  counted = let c = ap count_full written in let d = count-put now k m in let f = kept.counted ∙ ap count_full is in
      omega (arith, c, d, f, moved);
}

pub kept-wrote : (ms : List Mail) (hs : List Bool) (now : List Mail) (k full more : ℕ) (m : Mail) (h : Bool) → AreKept ms hs full →
    as_they_stand ms hs ≡ now → k < length ms → k < length hs →
    more + cond (is_full (place_at Empty now k)) 1 0 ≡ full + cond (is_full (as_marked h m)) 1 0 → AreKept (set ms k m) (set hs k h) more
kept-wrote ms hs now k full more m h kept is l many moved =
    kept-by ms (set ms k m) hs (set hs k h) now k full more (as_marked h m) kept is (length-written Empty ms k m l)
    (length-written false hs k h many) (wrote ms hs now k m h is l many) moved

pub kept-box : (ms : List Mail) (hs : List Bool) (now : List Mail) (k full more : ℕ) (m : Mail) → AreKept ms hs full →
    as_they_stand ms hs ≡ now → k < length ms → k < length hs →
    more + cond (is_full (place_at Empty now k)) 1 0 ≡ full + cond (is_full (as_marked (place_at false hs k) m)) 1 0 →
    AreKept (set ms k m) hs more
kept-box ms hs now k full more m kept is l many moved =
    kept-by ms (set ms k m) hs hs now k full more (as_marked (place_at false hs k) m) kept is (length-written Empty ms k m l) refl
    (wrote-box ms hs now k m is l many) moved

pub kept-mark : (ms : List Mail) (hs : List Bool) (now : List Mail) (k full more : ℕ) → AreKept ms hs full →
    as_they_stand ms hs ≡ now → k < length ms → k < length hs →
    more + cond (is_full (place_at Empty now k)) 1 0 ≡ full → AreKept ms (set hs k true) more
kept-mark ms hs now k full more kept is l many moved =
    kept-by ms ms hs (set hs k true) now k full more (taken_up (place_at Empty now k)) kept is refl (length-written false hs k true many)
    (wrote-mark ms hs now k is l many) (let none = ap {B = ℕ} (λ (b : Bool). cond b 1 0) (full-taken_up (place_at Empty now k)) in omega (arith, none, moved))

-- what a mailbox is, by what it is seen to be
pub seen-read : (ms : List Mail) (hs : List Bool) (now : List Mail) (k : ℕ) (x : Mail) → as_they_stand ms hs ≡ now → k < length ms →
    k < length hs → x ≡ get_or ms k x → place_at Empty now k ≡ as_marked (get_or hs k false) x
seen-read ms hs now k x is l many at =
    seen-at ms hs now k x is l many at ∙ ap (λ (h : Bool). as_marked h x) (sym (get-place false false hs k many))

pub clear-tells : (h : Bool) (m : Mail) → is_clear (as_marked h m) ≡ true → m ≡ Empty
unfolding as_marked taken_up is_clear
clear-tells false Empty e = refl
clear-tells false (Full m) e = cc
clear-tells false (Hand m) e = cc
clear-tells true Empty e = refl
clear-tells true (Full m) e = cc
clear-tells true (Hand m) e = cc

clear-not_full : (m : Mail) → is_clear m ≡ true → is_full m ≡ false
unfolding is_clear is_full
clear-not_full Empty e = refl
clear-not_full (Full m) e = cc
clear-not_full (Hand m) e = refl

pub down-empty : (m : Mail) → is_full m ≡ false → put_down m ≡ Empty
unfolding put_down is_full
down-empty Empty e = refl
down-empty (Full m) e = cc
down-empty (Hand m) e = refl

marked-hand : (h : Bool) (m : Message) → as_marked h (Hand m) ≡ Hand m
unfolding as_marked taken_up
marked-hand false m = refl
marked-hand true m = refl

full-empty : is_full Empty ≡ false
unfolding is_full
full-empty = refl

full-hand : (m : Message) → is_full (Hand m) ≡ false
unfolding is_full
full-hand m = refl

full-full : (m : Message) → is_full (Full m) ≡ true
unfolding is_full
full-full m = refl

-- how many are full, at most and at least
pub full-most : (ms : List Mail) (hs : List Bool) (full : ℕ) → AreKept ms hs full → full ≤ 4096
full-most ms hs full kept = omega (arith, kept.counted, count-most (as_they_stand ms hs), length-stand ms hs, kept.few)

pub full-least : (ms : List Mail) (hs : List Bool) (now : List Mail) (k full : ℕ) → AreKept ms hs full → as_they_stand ms hs ≡ now →
    is_full (place_at Empty now k) ≡ true → 1 ≤ full
full-least ms hs now k full kept is e =
    let one = ap {B = ℕ} (λ (b : Bool). cond b 1 0) e in let c = kept.counted ∙ ap count_full is in omega (arith, one, c, count-place now k)

-- what each call keeps, and what stands after it
pub kept-same : (ms : List Mail) (hs : List Bool) (now : List Mail) (k full : ℕ) (m : Mail) → AreKept ms hs full →
    as_they_stand ms hs ≡ now → k < length ms → k < length hs →
    is_full (as_marked (place_at false hs k) m) ≡ is_full (place_at Empty now k) → AreKept (set ms k m) hs full
kept-same ms hs now k full m kept is l many same =
    kept-box ms hs now k full full m kept is l many (ap {B = ℕ} (λ (b : Bool). full + cond b 1 0) (sym same))

pub kept-gone : (ms : List Mail) (hs : List Bool) (now : List Mail) (k full : ℕ) → AreKept ms hs full →
    as_they_stand ms hs ≡ now → k < length ms → k < length hs → is_full (place_at Empty now k) ≡ false → AreKept (set ms k Empty) hs full
kept-gone ms hs now k full kept is l many e =
    kept-same ms hs now k full Empty kept is l many (ap is_full (marked-empty (place_at false hs k)) ∙ full-empty ∙ sym e)

pub gone : (ms : List Mail) (hs : List Bool) (now : List Mail) (k : ℕ) → as_they_stand ms hs ≡ now → k < length ms → k < length hs →
    is_full (place_at Empty now k) ≡ false → as_they_stand (set ms k Empty) hs ≡ put_place Empty now k (put_down (place_at Empty now k))
gone ms hs now k is l many e =
    wrote-box ms hs now k Empty is l many ∙
    ap (put_place Empty now k) (marked-empty (place_at false hs k) ∙ sym (down-empty (place_at Empty now k) e))

pub kept-back : (ms : List Mail) (hs : List Bool) (now : List Mail) (k full : ℕ) (m : Message) → AreKept ms hs full →
    as_they_stand ms hs ≡ now → k < length ms → k < length hs → is_clear (place_at Empty now k) ≡ true → AreKept (set ms k (Hand m)) hs full
kept-back ms hs now k full m kept is l many e =
    kept-same ms hs now k full (Hand m) kept is l many
    (ap is_full (marked-hand (place_at false hs k) m) ∙ full-hand m ∙ sym (clear-not_full (place_at Empty now k) e))

pub back : (ms : List Mail) (hs : List Bool) (now : List Mail) (k : ℕ) (m : Message) → as_they_stand ms hs ≡ now → k < length ms →
    k < length hs → as_they_stand (set ms k (Hand m)) hs ≡ put_place Empty now k (Hand m)
back ms hs now k m is l many =
    wrote-box ms hs now k (Hand m) is l many ∙ ap (put_place Empty now k) (marked-hand (place_at false hs k) m)

pub kept-posted : (ms : List Mail) (hs : List Bool) (now : List Mail) (k full : ℕ) (m : Message) → AreKept ms hs full →
    as_they_stand ms hs ≡ now → k < length ms → k < length hs → is_clear (place_at Empty now k) ≡ true →
    AreKept (set ms k (Full m)) (set hs k false) (full + 1)
kept-posted ms hs now k full m kept is l many e =
    let was = ap {B = ℕ} (λ (b : Bool). cond b 1 0) (clear-not_full (place_at Empty now k) e) in
    let more = ap {B = ℕ} (λ (b : Bool). cond b 1 0) (full-unmarked (Full m) ∙ full-full m) in
    kept-wrote ms hs now k full (full + 1) (Full m) false kept is l many (omega (arith, was, more))

pub posted : (ms : List Mail) (hs : List Bool) (now : List Mail) (k : ℕ) (m : Message) → as_they_stand ms hs ≡ now → k < length ms →
    k < length hs → as_they_stand (set ms k (Full m)) (set hs k false) ≡ put_place Empty now k (Full m)
unfolding as_marked
posted ms hs now k m is l many = wrote ms hs now k (Full m) false is l many

pub kept-taken : (ms : List Mail) (hs : List Bool) (now : List Mail) (k full : ℕ) → AreKept ms hs full →
    as_they_stand ms hs ≡ now → k < length ms → k < length hs → is_full (place_at Empty now k) ≡ true → AreKept ms (set hs k true) (full - 1)
kept-taken ms hs now k full kept is l many e =
    let one = ap {B = ℕ} (λ (b : Bool). cond b 1 0) e in
    kept-mark ms hs now k full (full - 1) kept is l many (omega (arith, one, full-least ms hs now k full kept is e))

found : {X : Type 0} (d : X) (xs : List X) (i : ℕ) (y : X) → place_at d (put_place d xs i y) i ≡ y
unfolding place_at put_place
found d [] zero y = refl
found d [] (suc i) y = found d [] i y
found d (x ∷ xs) zero y = refl
found d (x ∷ xs) (suc i) y = found d xs i y

-- a mailbox whose message was in hand is empty without it
pub cleared : (mail now : List Mail) (k : ℕ) (m : Message) → now ≡ put_place Empty mail k (put_down (place_at Empty mail k)) →
    hand_message (place_at Empty mail k) ≡ Some m → is_clear (place_at Empty now k) ≡ true
unfolding hand_message put_down is_clear
cleared mail now k m is e =
    ap (λ (xs : List Mail). is_clear (place_at Empty xs k)) is ∙ ap is_clear (found Empty mail k (put_down (place_at Empty mail k))) ∙
    down (place_at Empty mail k) e
  where
    down : (x : Mail) → hand_message x ≡ Some m → is_clear (put_down x) ≡ true
    down Empty f = cc
    down (Full y) f = cc
    down (Hand y) f = refl
