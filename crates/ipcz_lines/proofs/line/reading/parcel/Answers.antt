use Rattle.std.proofs.lemmas.Bool.{false≢true}
use Rattle.std.proofs.Common.{[], ◌<◌, get_or, length, ◌≡◌, ◌∷◌, ◌++◌, ◌∙◌, ℕ, List, codes, sym, subst, ap, arith, rules}
use Rattle.ipcz_lines.specs.Lines.{AreNames, FitsLine, line_text, spaced}
use Rattle.ipcz_lines.proofs.Lacking.{not_parted, parts_agree, ends_with, reads_none, tail_is}
use Rattle.ipcz_lines.proofs.Forms.{names_lack, parcel_only}
use Rattle.ipcz_lines.proofs.line.reading.parcel.Goals as goal
use Rattle.ipcz_lines.proofs.line.reading.parcel.Goals.{in_default-via-then-bytes-lt1, in_default-via-else-bytes-lt1+in_default-1}
use Rattle.ipcz_lines.proofs.line.reading.parcel.Goals.{in_default-rest-via-then-rest-lt3, in_default-rest-via-in-32+else-are_any_names}
use Rattle.ipcz_lines.proofs.line.reading.parcel.Goals.{in_default-rest-via-else-rest-lt3+in-32+in-34+in_default-1}
use Rattle.ipcz_lines.proofs.line.reading.parcel.Goals.{in_default-rest-via-else-rest-lt3+in-32+in_default-1}
use Rattle.ipcz_lines.proofs.line.reading.parcel.Goals.{in_default-rest-via-else-rest-lt3+in_default-1}

pub returns-in_err-number : goal.returns-in_err-number
returns-in_err-number c =
    reads_none line_text FitsLine (spaced (codes "get") (spaced c.args.name.now (spaced c.args.first.now c.args.bytes.now)))
    _ c.from_residual.ensures (λ x h e.
    let p = parcel_only x c.args.name.now c.args.first.now c.args.bytes.now c.requires.name c.requires.one_word h e in
    c.in_err-number.ensures p.n p.number p.named)

pub returns-in_err-names-in-91 : goal.returns-in_err-names-in-91
returns-in_err-names-in-91 c =
    reads_none line_text FitsLine (spaced (codes "get") (spaced c.args.name.now (spaced c.args.first.now c.args.bytes.now)))
    _ c.from_residual-in_err-names-in-91.ensures (λ x h e.
    let p = parcel_only x c.args.name.now c.args.first.now c.args.bytes.now c.requires.name c.requires.one_word h e in
    not_parted 93 p.names (32 ∷ 34 ∷ (p.bs ++ 34 ∷ [])) _ c.in_err-names-in-91.ensures.none
    (tail_is 91 (p.names ++ 93 ∷ (32 ∷ 34 ∷ (p.bs ++ 34 ∷ []))) c.args.bytes.now p.text))

pub returns-in_default : goal.returns-in_default
returns-in_default c =
    λ x h e.
    let p = parcel_only x c.args.name.now c.args.first.now c.args.bytes.now c.requires.name c.requires.one_word h e in
    let first : get_or c.args.bytes.now 0 0 ≡ 91 = ap (λ (l : List ℕ). get_or l 0 0) (sym p.text) in
    let long : 0 < length c.args.bytes.now = subst (λ (l : List ℕ). 0 < length l) p.text (omega arith) in
    elim c.in_default.branch [
      | in_default-via-then-bytes-lt1 w ↦ search rules
      | in_default-via-else-bytes-lt1+in_default-1 w ↦ omega arith
    ]

pub returns-in_default-rest : goal.returns-in_default-rest
returns-in_default-rest c =
    λ x h e.
    let p = parcel_only x c.args.name.now c.args.first.now c.args.bytes.now c.requires.name c.requires.one_word h e in
    let q =
    parts_agree 93 p.names (32 ∷ 34 ∷ (p.bs ++ 34 ∷ [])) c.in_ok-names-in-91.names.now c.in_ok-names-in-91.rest.now _
    (names_lack p.names p.are_names) c.in_ok-names-in-91.ensures.first c.in_ok-names-in-91.ensures.joined
    (tail_is 91 (p.names ++ 93 ∷ (32 ∷ 34 ∷ (p.bs ++ 34 ∷ []))) c.args.bytes.now p.text) in
    let first : get_or c.in_ok-names-in-91.rest.now 0 0 ≡ 32 = ap (λ (l : List ℕ). get_or l 0 0) (sym q.1) in
    let second : get_or c.in_ok-names-in-91.rest.now 1 0 ≡ 34 = ap (λ (l : List ℕ). get_or l 1 0) (sym q.1) in
    let last = ends_with (32 ∷ 34 ∷ p.bs) 34 c.in_ok-names-in-91.rest.now q.1 in
    elim c.in_default-rest.branch [
      | in_default-rest-via-then-rest-lt3 w ↦ search rules
      | in_default-rest-via-in-32+else-are_any_names w ↦
          false≢true (sym w.if-are_any_names.false ∙ w.are_any_names.ensures.1 (subst AreNames q.0 p.are_names))
      | in_default-rest-via-else-rest-lt3+in-32+in-34+in_default-1 w ↦ omega arith
      | in_default-rest-via-else-rest-lt3+in-32+in_default-1 w ↦ omega arith
      | in_default-rest-via-else-rest-lt3+in_default-1 w ↦ omega arith
    ]
