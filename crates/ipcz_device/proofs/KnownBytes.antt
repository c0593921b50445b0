-- Known bytes over two steps.
use Rattle.std.proofs.Common.{◌≡◌, ℕ, ◌+◌, ◌≤◌, ◌-◌, ◌++◌, List, Option, None, Some, length, take, drop, sym, ap, ◌∙◌, arith, append_assoc}
use Rattle.std.proofs.Common.{subst, length-drop}
use Rattle.std.proofs.lemmas.List.{take_all, drop-drop}
use Rattle.std.proofs.Math.Seq.{take-add}
use Rattle.std.specs.Io.KnownBytes.{Appends, Consumes}

pub appends_two : (a b c : Option (List ℕ)) (xs ys : List ℕ) → Appends a b xs → Appends b c ys → Appends a c (xs ++ ys)
appends_two None b c xs ys h k = tt
appends_two (Some xs0) None c xs ys h k = absurd h
appends_two (Some xs0) (Some bs) None xs ys h k = absurd k
appends_two (Some xs0) (Some bs) (Some cs) xs ys h k = k ∙ ap (λ l. l ++ ys) h ∙ append_assoc xs0 xs ys

pub consumes_two : (a b c : Option (List ℕ)) (xs ys : List ℕ) → Consumes a b xs → Consumes b c ys → Consumes a c (xs ++ ys)
consumes_two None b c xs ys h k = tt
consumes_two (Some xs0) None c xs ys h k = absurd h
consumes_two (Some xs0) (Some bs) None xs ys h k = absurd k
consumes_two (Some xs0) (Some bs) (Some cs) xs ys h k = h ∙ ap (λ l. xs ++ l) k ∙ sym (append_assoc xs ys cs)

-- one write more: what is written, and the rest
pub written : (a b c : Option (List ℕ)) (text rest : List ℕ) (k n : ℕ) → k ≤ length text → rest ≡ drop k text → n ≤ length rest →
    Appends a b (take k text) → Appends b c (take n rest)
    → (k + n ≤ length text) × (take (length rest - n) (drop n rest) ≡ drop (k + n) text) × Appends a c (take (k + n) text)
written a b c text rest k n within same few h more =
    let size : length rest ≡ length text - k = ap length same ∙ length-drop k text in
    let left : length (drop n rest) ≤ length rest - n = omega (arith, length-drop n rest) in (
      omega arith,
      take_all (length rest - n) (drop n rest) left ∙ ap (drop n) same ∙ drop-drop n k text,
      subst (Appends a c) (ap (λ l. take k text ++ take n l) same ∙ sym (take-add k n text)) (appends_two a b c _ _ h more),
    )
