-- Lines and columns, a byte further.
use Rattle.std.proofs.Common.{◌≡◌, ◌≤◌, ◌<◌, ◌∙◌, ◌+◌, ◌==◌, List, [], ◌∷◌, ◌++◌, ℕ, suc, length, length-take-le, take, get_or, refl, ap, sym, arith, if◌then◌else◌, Bool, true, false}
use Rattle.std.proofs.Math.Seq.{take-suc}
use Rattle.ipcz_places.specs.declared.place.Place.{Place}
use Rattle.ipcz_places.specs.Places.{line_behind, column_behind, IsPlace}

pub line_behind-one : (line : ℕ) (bs : List ℕ) (b : ℕ) →
    line_behind line (bs ++ b ∷ []) ≡ (if b == 10 then line_behind line bs + 1 else line_behind line bs)
line_behind-one line [] b = refl
line_behind-one line (c ∷ cs) b = line_behind-one (if c == 10 then line + 1 else line) cs b

pub column_behind-one : (column : ℕ) (bs : List ℕ) (b : ℕ) →
    column_behind column (bs ++ b ∷ []) ≡ (if b == 10 then 1 else column_behind column bs + 1)
column_behind-one column [] b = refl
column_behind-one column (c ∷ cs) b = column_behind-one (if c == 10 then 1 else column + 1) cs b

step-few : (b : Bool) (n : ℕ) → (if b then n + 1 else n) ≤ n + 1
step-few true n = omega (arith)
step-few false n = omega (arith)

pub line_behind-few : (line : ℕ) (bs : List ℕ) → line_behind line bs ≤ line + length bs
line_behind-few line [] = omega (arith)
line_behind-few line (b ∷ bs) = omega (arith, step-few (b == 10) line, line_behind-few (if b == 10 then line + 1 else line) bs)

column_step : (lf : Bool) (column : ℕ) (bs : List ℕ) → 1 ≤ column → ((n : ℕ) → 1 ≤ n → column_behind n bs ≤ n + length bs) →
    column_behind (if lf then 1 else column + 1) bs ≤ column + suc (length bs)
column_step true column bs some few = omega (arith, few 1 (omega arith), some)
column_step false column bs some few = omega (arith, few (column + 1) (omega arith))

pub column_behind-few : (column : ℕ) (bs : List ℕ) → 1 ≤ column → column_behind column bs ≤ column + length bs
column_behind-few column [] some = omega (arith)
column_behind-few column (b ∷ bs) some = column_step (b == 10) column bs some (λ n. column_behind-few n bs)

-- the line and the column of a place are not above its offset by more than one
pub place-few : (text : List ℕ) (p : Place) → IsPlace text p → (p.line ≤ 1 + p.offset) × (p.column ≤ 1 + p.offset)
place-few text p is = (
  omega (arith, is.line, line_behind-few 1 (take p.offset text), length-take-le p.offset text is.within),
  omega (arith, is.column, column_behind-few 1 (take p.offset text) (omega arith), length-take-le p.offset text is.within),
)

-- the place behind the byte that stands at one
pub place-next : (text : List ℕ) (p q : Place) (d : ℕ) → IsPlace text p → p.offset < length text → q.offset ≡ p.offset + 1 →
    q.line ≡ (if get_or text p.offset d == 10 then p.line + 1 else p.line) →
    q.column ≡ (if get_or text p.offset d == 10 then 1 else p.column + 1) → IsPlace text q
place-next text p q d is less next line column =
    let b = get_or text p.offset d in
    let one : q.offset ≡ suc p.offset = omega (arith, next) in
    let front : take q.offset text ≡ take p.offset text ++ b ∷ [] =
    ap (λ n. take n text) one ∙ take-suc text p.offset d less in
    record {
      within = omega (arith, less, next);
      line = line ∙ ap (λ n. if b == 10 then n + 1 else n) is.line ∙ sym (line_behind-one 1 (take p.offset text) b)
          ∙ ap (line_behind 1) (sym front);
      column = column ∙ ap (λ n. if b == 10 then 1 else n + 1) is.column ∙ sym (column_behind-one 1 (take p.offset text) b)
          ∙ ap (column_behind 1) (sym front);
    }
