use Rattle.std.proofs.Common.{◌≡◌, ◌++◌, ◌∙◌, List, [], ◌∷◌, map, length, refl, ap, sym, arith}
use Rattle.std.proofs.lemmas.List.{append-nil}
use Rattle.ipcz_threads.proofs.lending.+lend.Goals as goal

none_left : {A : Type 0} (l : List A) → length l ≡ 0 → l ≡ []
none_left [] e = refl
none_left (x ∷ l) e = absurd (omega (arith, e))

kept : {A B : Type 0} (f : A → B) (xs : List A) (ys : List B) → ys ≡ [] → map f xs ≡ map f xs ++ ys
kept f xs ys none = sym (ap (λ l. map f xs ++ l) none ∙ append-nil (map f xs))

pub returns-in_default : goal.returns-in_default
returns-in_default g t c = kept _ c.args.workers.items c.args.cells.items (none_left c.args.cells.items (sym c.args.cells.ok.0 ∙ c.in_default.ensures.cases.0))
