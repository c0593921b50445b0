-- Workers that are asked one after the other.
use Rattle.std.proofs.Common.{◌≡◌, ◌+◌, ◌-◌, ◌&&◌, ℕ, zero, suc, Bool, List, refl, subst, arith}
use Rattle.ipcz_cell.specs.TableNames.{TableName}
use Rattle.ipcz_threads.specs.Workers.{WorkerState}
use Rattle.ipcz_threads.specs.Rounds.{IsAskedAt, AreAsked}

-- the first of them, and the others
pub asked-more : (t : TableName) (left node : ℕ) (ws us vs : List WorkerState) (own others : Bool) → (left ≡ 0 → ⊥) → IsAskedAt t ws node own us →
    AreAsked t (left - 1) (node + 1) us others vs → AreAsked t left node ws (own && others) vs
asked-more t zero node ws us vs own others some first rest = absurd (some refl)
asked-more t (suc left) node ws us vs own others some first rest =
    let one : suc left - 1 ≡ left = omega arith in
    (own, others, us, first, subst (λ n. AreAsked t n (node + 1) us others vs) one rest, refl)
