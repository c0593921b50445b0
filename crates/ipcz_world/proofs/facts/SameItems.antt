-- What the test of items tells: that two are one, and that one is itself.
use Rattle.ipcz_world.proofs.Vocabulary.{End, Item, same_end, Gone, Parcel, Mark}
use Rattle.std.specs.Prelude.{◌≡◌, ℕ, true, nat_eq, List, [], ◌∷◌, bytes_eq, refl}
use Rattle.std.specs.Cmp.Lexicographic.{pointwise}
use Rattle.std.proofs.Common.{arith, ap}
use Rattle.std.proofs.lemmas.Bool.{and_parts}
use Rattle.std.proofs.lemmas.Bool.Decides.{nat_tests}
use Rattle.ipcz_base.specs.Items.{same_item}
use Rattle.ipcz_world.proofs.facts.LinkTests.{same_end-itself, same_end-tells}

same_bytes-tells : (bs cs : List ℕ) → bytes_eq bs cs ≡ true → bs ≡ cs
same_bytes-tells [] [] h = refl
same_bytes-tells [] (c ∷ cs) h = cc
same_bytes-tells (b ∷ bs) [] h = cc
same_bytes-tells (b ∷ bs) (c ∷ cs) h = let t = and_parts (nat_eq b c) (bytes_eq bs cs) h in let e : b ≡ c = grind (arith, t.0, nat_tests) in
    let f : bs ≡ cs = same_bytes-tells bs cs t.1 in λ i. e i ∷ f i

same_ends-tells : (ds es : List End) → pointwise same_end ds es ≡ true → ds ≡ es
same_ends-tells [] [] h = refl
same_ends-tells [] (e ∷ es) h = cc
same_ends-tells (d ∷ ds) [] h = cc
same_ends-tells (d ∷ ds) (e ∷ es) h = let t = and_parts (same_end d e) (pointwise same_end ds es) h in
    let p : d ≡ e = same_end-tells d e t.0 in let f : ds ≡ es = same_ends-tells ds es t.1 in λ i. p i ∷ f i

pub same_item-tells : (x y : Item) → same_item x y ≡ true → x ≡ y
same_item-tells (Parcel p) (Parcel q) h =
    let t = and_parts (bytes_eq p.bytes q.bytes) (pointwise same_end p.ends q.ends) h in
    let e : p.bytes ≡ q.bytes = same_bytes-tells _ _ t.0 in let f : p.ends ≡ q.ends = same_ends-tells _ _ t.1 in
    ap Parcel (λ i. record { bytes = e i; ends = f i })
same_item-tells (Parcel p) Mark h = cc
same_item-tells Mark (Parcel q) h = cc
same_item-tells Mark Mark h = refl
same_item-tells (Parcel p) Gone h = cc
same_item-tells Mark Gone h = cc
same_item-tells Gone (Parcel q) h = cc
same_item-tells Gone Mark h = cc
same_item-tells Gone Gone h = refl

same_bytes-itself : (bs : List ℕ) → bytes_eq bs bs ≡ true
same_bytes-itself [] = refl
same_bytes-itself (b ∷ bs) = grind (arith, nat_tests, same_bytes-itself bs)

same_ends-itself : (es : List End) → pointwise same_end es es ≡ true
same_ends-itself [] = refl
same_ends-itself (e ∷ es) = rw (same_end-itself e, same_ends-itself es) refl

pub same_item-itself : (x : Item) → same_item x x ≡ true
same_item-itself (Parcel p) = rw (same_bytes-itself p.bytes, same_ends-itself p.ends) refl
same_item-itself Mark = refl
same_item-itself Gone = refl
