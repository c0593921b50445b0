-- The names of first pairs, one node after the other.
use Rattle.std.proofs.Common.{◌≡◌, ◌∙◌, ◌++◌, ◌+◌, ◌-◌, ap, sym, refl, ℕ, zero, suc, List, [], ◌∷◌, length, arith}
use Rattle.ipcz_node.specs.FirstPairs.{pairs_from, first_pairs_from}
use Rattle.ipcz_world.specs.World.{World}
use Rattle.ipcz_script.specs.Labels.{Labels, bind_pair, bind_pairs}
use Rattle.ipcz_script.specs.Sessions.{Session}
use Rattle.ipcz_script.specs.Sessions as sessions

length-pairs : (i j left : ℕ) → length (pairs_from i j left) ≡ left
length-pairs i j zero = refl
length-pairs i j (suc left) = ap suc (length-pairs i (j + 1) left)

bind_pairs-append : (s : Labels) (pair : ℕ) (xs ys : List (ℕ × ℕ)) →
    bind_pairs s pair (xs ++ ys) ≡ bind_pairs (bind_pairs s pair xs) (pair + length xs) ys
bind_pairs-append s pair [] ys = let none : pair + 0 ≡ pair = omega arith in ap (λ n. bind_pairs s n ys) (sym none)
bind_pairs-append s pair (x ∷ xs) ys =
    let more : pair + 1 + length xs ≡ pair + length (x ∷ xs) = omega arith in
    bind_pairs-append (bind_pair s pair x.0 x.1) (pair + 1) xs ys
    ∙ ap (λ n. bind_pairs (bind_pairs (bind_pair s pair x.0 x.1) (pair + 1) xs) n ys) more

pub first-some : (s : Labels) (pair i left : ℕ) → (left ≡ 0 → ⊥) →
    bind_pairs s pair (first_pairs_from i left) ≡ bind_pairs (bind_pairs s pair (pairs_from i (i + 1) (left - 1))) (pair + (left - 1))
    (first_pairs_from (i + 1) (left - 1))
first-some s pair i zero some = absurd (some refl)
first-some s pair i (suc left) some =
    let one : suc left - 1 ≡ left = omega arith in
    bind_pairs-append s pair (pairs_from i (i + 1) left) (first_pairs_from (i + 1) left)
    ∙ ap (λ n. bind_pairs (bind_pairs s pair (pairs_from i (i + 1) left)) (pair + n) (first_pairs_from (i + 1) left))
    (length-pairs i (i + 1) left)
    ∙ ap (λ n. bind_pairs (bind_pairs s pair (pairs_from i (i + 1) n)) (pair + n) (first_pairs_from (i + 1) n)) (sym one)

-- a session of this world with these labels
abbrev pub labelled : World → Labels → Session
labelled w l = record { world = w; names = l.names; titles = l.titles }

-- naming first pairs gives the labels with their names
pub bind_pairs-labelled : (w : World) (l : Labels) (pair : ℕ) (ps : List (ℕ × ℕ)) → sessions.bind_pairs (labelled w l) pair ps ≡ labelled w (bind_pairs l pair ps)
bind_pairs-labelled w l pair [] = refl
bind_pairs-labelled w l pair (p ∷ ps) = bind_pairs-labelled w (bind_pair l pair p.0 p.1) (pair + 1) ps
