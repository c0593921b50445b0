-- What is said of the lines of a log, one after the other.
use Rattle.std.specs.Prelude.{ℕ, ◌≡◌, ◌⊎◌, ◌+◌, Bool, true, false, List, [], ◌∷◌, ◌++◌, take, drop, Option, Some, None, refl}
use Rattle.std.proofs.Common.{arith, ap, ◌∙◌, sym, subst, inl, inr, append_assoc, append-nil}
use Rattle.std.specs.Io.KnownBytes.{IsAtEnd}
use Rattle.ipcz_base.specs.declared.profile.Profile.{Profile}
use Rattle.ipcz_device.proofs.KnownBytes.{consumes_two}
use Rattle.ipcz_verdict.specs.declared.entry.Entry.{Entry}
use Rattle.ipcz_verdict.specs.declared.line.Line.{Line}
use Rattle.ipcz_verdict.specs.declared.search.Found.{Found}
use Rattle.ipcz_verdict.specs.Searches.{HasEntries}
use Rattle.ipcz_verdict.specs.Together.{IsFound}
use Rattle.ipcz_verdict.specs.Desks.{Desk}
use Rattle.ipcz_log.specs.declared.header.Header.{Header}
use Rattle.ipcz_log.specs.declared.judging.Heard.{Heard}
use Rattle.ipcz_log.specs.declared.judging.Heard.TheVariants as heard
use Rattle.ipcz_log.specs.declared.verdict.Verdict.{Verdict}
use Rattle.ipcz_log.specs.declared.verdict.Verdict.TheVariants as verdicts
use Rattle.ipcz_log.specs.Pieces.{HoldsOfInput, IsCut, Pieces, ReadsLine}
use Rattle.ipcz_log.specs.Steps.{AreRead, Goes, JudgesLine, Reaches, Reads, Said}
use Rattle.ipcz_log.specs.Verdicts.{IsEntry, IsHeader, IsSaidBehind, IsSaidOf, IsSaidOfLogs, IsSaidTogether, IsVerdict, line_len, most_steps, text_lines}
use Rattle.ipcz_log.proofs.Cutting.{cut}

-- ---- what was read and what stands behind it

none_behind : (p q : Pieces) (before after : Option (List ℕ)) (some : Bool) (behind : List ℕ) (got : ReadsLine before after p q some) → (q.ended ≡ true → behind ≡ []) → p.ended ≡ true → got.read ++ behind ≡ []
none_behind p q before after some behind got none e = ap (λ l. l ++ behind) (got.over e).0 ∙ none (got.over e).1

-- the next line was taken
pub line_on : (before now after : Option (List ℕ)) (p q : Pieces) (left next : List (List ℕ) → Verdict → Type 0) → Goes before now p left → ReadsLine now after p q true →
    ((ls : List (List ℕ)) (v : Verdict) → next ls v → left (q.line ∷ ls) v) → Goes before after q next
line_on before now after p q left next way got step = record {
  read = way.read ++ got.read;
  taken = consumes_two before now after way.read got.read way.taken got.taken;
  ended = got.ended;
  said = λ behind v none said. subst (λ input. IsVerdict input v) (sym (append_assoc way.read got.read behind))
      (way.said (got.read ++ behind) v (none_behind p q now after true behind got none) (subst (λ ls. left ls v) (sym (got.lines behind none)) (step (text_lines (q.unread ++ behind)) v said)));
}

-- what is said whatever comes behind is the verdict
pub decided : (before now : Option (List ℕ)) (p : Pieces) (left : List (List ℕ) → Verdict → Type 0) (v : Verdict) → Goes before now p left → ((ls : List (List ℕ)) → left ls v) →
    HoldsOfInput before now (λ input. IsVerdict input v)
decided before now p left v way says = (way.read, way.taken, go p.ended refl)
  where
    differ : p.ended ≡ false → p.ended ≡ true → ⊥
    differ e k = grind (arith, e, k)

    go : (c : Bool) → p.ended ≡ c → (IsAtEnd now × IsVerdict way.read v) ⊎ ((behind : List ℕ) → IsVerdict (way.read ++ behind) v)
    go true e = inl (way.ended e, subst (λ input. IsVerdict input v) (append-nil way.read) (way.said [] v (λ _. refl) (says (text_lines (p.unread ++ [])))))
    go false e = inr (λ behind. way.said behind v (λ k. absurd (differ e k)) (says (text_lines (p.unread ++ behind))))

-- a line decides
pub line_decides : (before now after : Option (List ℕ)) (p q : Pieces) (left : List (List ℕ) → Verdict → Type 0) (v : Verdict) → Goes before now p left → ReadsLine now after p q true →
    ((ls : List (List ℕ)) → left (q.line ∷ ls) v) → HoldsOfInput before after (λ input. IsVerdict input v)
line_decides before now after p q left v way got says =
    decided before after q (λ ls w. w ≡ v) v (line_on before now after p q left (λ ls w. w ≡ v) way got (λ ls w e. subst (λ x. left (q.line ∷ ls) x) (sym e) (says ls))) (λ ls. refl)

-- no line is left
pub lines_over : (before now after : Option (List ℕ)) (p q : Pieces) (left : List (List ℕ) → Verdict → Type 0) (v : Verdict) → Goes before now p left → ReadsLine now after p q false → left [] v →
    HoldsOfInput before after (λ input. IsVerdict input v)
lines_over before now after p q left v way got says =
    let t = got.lines [] (λ _. refl) in (
      way.read ++ got.read,
      consumes_two before now after way.read got.read way.taken got.taken,
      inl (
        got.ended t.3,
        subst (λ input. IsVerdict (way.read ++ input) v) (append-nil got.read)
            (way.said (got.read ++ []) v (none_behind p q now after false [] got (λ _. refl)) (subst (λ ls. left ls v) (sym t.0) says)),
      ),
    )

-- ---- the header

-- the first line, and those behind it
headed_by : (some : Bool) (bytes : List ℕ) (q : Pieces) (others : List (List ℕ)) → IsCut some (text_lines bytes) q others → (some ≡ false → others ≡ []) →
    (take (line_len bytes) bytes ≡ q.line) × (text_lines (drop (line_len bytes + 1) bytes) ≡ others)
headed_by true [] q others is none = absurd (differ is)
  where
    differ : [] ≡ q.line ∷ others → ⊥
    differ e = cc
headed_by true (b ∷ bs) q others is none = (same_heads (sym (cut (b ∷ bs) (omega arith)) ∙ is), same_tails (sym (cut (b ∷ bs) (omega arith)) ∙ is))
  where
    same_heads : {l m : List ℕ} {ls ms : List (List ℕ)} → l ∷ ls ≡ m ∷ ms → l ≡ m
    same_heads e = cc

    same_tails : {l m : List ℕ} {ls ms : List (List ℕ)} → l ∷ ls ≡ m ∷ ms → ls ≡ ms
    same_tails e = cc
headed_by false [] q others is none = (sym is.1, sym (none refl))
headed_by false (b ∷ bs) q others is none = absurd (differ (sym (cut (b ∷ bs) (omega arith)) ∙ is.0))
  where
    differ : {l : List ℕ} {ls : List (List ℕ)} → l ∷ ls ≡ [] → ⊥
    differ e = cc

-- the first line was read
pub begun : (before now : Option (List ℕ)) (p q : Pieces) (some : Bool) (left : List (List ℕ) → Verdict → Type 0) → p.unread ≡ [] → ReadsLine before now p q some →
    ((bytes : List ℕ) (v : Verdict) → take (line_len bytes) bytes ≡ q.line → left (text_lines (drop (line_len bytes + 1) bytes)) v → IsVerdict bytes v) → Goes before now q left
begun before now p q some left fresh got says = record {
  read = got.read;
  taken = got.taken;
  ended = got.ended;
  said = λ behind v none said.
      let is = headed_by some (got.read ++ behind) q (text_lines (q.unread ++ behind))
      (subst (λ l. IsCut some (text_lines (l ++ (got.read ++ behind))) q (text_lines (q.unread ++ behind))) fresh (got.lines behind none)) (last behind none) in
      says (got.read ++ behind) v is.0 (subst (λ ls. left ls v) (sym is.1) said);
}
  where
    at_end : (c : Bool) (all others : List (List ℕ)) → IsCut c all q others → c ≡ false → (q.unread ≡ []) × (q.ended ≡ true)
    at_end true all others is e = absurd (differ e)
      where
        differ : true ≡ false → ⊥
        differ k = cc
    at_end false all others is e = (is.2, is.3)

    last : (behind : List ℕ) → (q.ended ≡ true → behind ≡ []) → some ≡ false → text_lines (q.unread ++ behind) ≡ []
    last behind none e =
        let t = at_end some (text_lines (p.unread ++ (got.read ++ behind))) (text_lines (q.unread ++ behind)) (got.lines behind none) e in
        ap (λ l. text_lines (l ++ behind)) t.0 ∙ ap text_lines (none t.1)

pub headed : (before now : Option (List ℕ)) (p q : Pieces) (some : Bool) (header : Header) (logs : Option ℕ) (left : List (List ℕ) → Verdict → Type 0) → header.logs ≡ logs →
    ((ls : List (List ℕ)) (v : Verdict) → left ls v → IsSaidBehind header logs ls v) → p.unread ≡ [] → ReadsLine before now p q some → IsHeader q.line (Some header) → Goes before now q left
headed before now p q some header logs left is says fresh got head =
    begun before now p q some left fresh got (λ bytes v first said. inl (
      header,
      subst (λ l. IsHeader l (Some header)) (sym first) head,
      subst (λ o. IsSaidBehind header o (text_lines (drop (line_len bytes + 1) bytes)) v) (sym is) (says (text_lines (drop (line_len bytes + 1) bytes)) v said),
    ))

pub headless : (before now : Option (List ℕ)) (p q : Pieces) (some : Bool) → p.unread ≡ [] → ReadsLine before now p q some → IsHeader q.line None →
    HoldsOfInput before now (λ input. IsVerdict input (verdicts.NoLog 1))
headless before now p q some fresh got none =
    decided before now q (λ ls w. w ≡ verdicts.NoLog 1) (verdicts.NoLog 1)
    (begun before now p q some (λ ls w. w ≡ verdicts.NoLog 1) fresh got (λ bytes v is said. inr (subst (λ l. IsHeader l None) (sym is) none, said))) (λ ls. refl)

-- ---- one log

pub said_refused : (nodes : ℕ) (profile : Profile) (judge new : Desk) (number : ℕ) (before now after : Option (List ℕ)) (p q : Pieces) (h : Heard) → JudgesLine judge q.line h new → h ≡ heard.Refused →
    Reaches before now p nodes profile judge number → ReadsLine now after p q true → HoldsOfInput before after (λ input. IsVerdict input (verdicts.Refused number))
said_refused nodes profile judge new number before now after p q h judged refused way got =
    let t = subst (λ x. Said judge q.line nodes profile way.0 x new) refused (judged nodes profile way.0 way.1) in
    line_decides before now after p q (IsSaidOf nodes profile way.0 number) (verdicts.Refused number) way.2 got (λ ls. inr (inl (t.0, t.1, t.2, refl)))

pub said_none : (nodes : ℕ) (profile : Profile) (judge new : Desk) (number : ℕ) (before now after : Option (List ℕ)) (p q : Pieces) (h : Heard) → JudgesLine judge q.line h new → h ≡ heard.NoLine →
    Reaches before now p nodes profile judge number → ReadsLine now after p q true → HoldsOfInput before after (λ input. IsVerdict input (verdicts.NoLog number))
said_none nodes profile judge new number before now after p q h judged none way got =
    let t = subst (λ x. Said judge q.line nodes profile way.0 x new) none (judged nodes profile way.0 way.1) in
    line_decides before now after p q (IsSaidOf nodes profile way.0 number) (verdicts.NoLog number) way.2 got (λ ls. inr (inr (t, refl)))

pub goes_on : (nodes : ℕ) (profile : Profile) (judge new : Desk) (number next : ℕ) (before now after : Option (List ℕ)) (p q : Pieces) (h : Heard) → JudgesLine judge q.line h new → h ≡ heard.Allowed →
    next ≡ number + 1 → Reaches before now p nodes profile judge number → ReadsLine now after p q true → Reaches before after q nodes profile new next
goes_on nodes profile judge new number next before now after p q h judged allowed more way got =
    let t = subst (λ x. Said judge q.line nodes profile way.0 x new) allowed (judged nodes profile way.0 way.1) in
    let log : List Line = way.0 ++ t.0 ∷ [] in (
      log,
      t.2,
      line_on before now after p q (IsSaidOf nodes profile way.0 number) (IsSaidOf nodes profile log next) way.2 got
          (λ ls v said. inl (t.0, t.1, (t.2.ledger, t.2.run), subst (λ k. IsSaidOf nodes profile log k ls v) more said)),
    )

pub said_allowed : (nodes : ℕ) (profile : Profile) (judge : Desk) (number : ℕ) (before now after : Option (List ℕ)) (p q : Pieces) → Reaches before now p nodes profile judge number →
    ReadsLine now after p q false → HoldsOfInput before after (λ input. IsVerdict input verdicts.Allowed)
said_allowed nodes profile judge number before now after p q way got =
    lines_over before now after p q (IsSaidOf nodes profile way.0 number) verdicts.Allowed way.2 got ((way.1.ledger, way.1.run), refl)

-- ---- several logs

pub logs_none : (nodes : ℕ) (profile : Profile) (count : ℕ) (logs : List (List Entry)) (number : ℕ) (before now after : Option (List ℕ)) (p q : Pieces) → IsEntry count number q.line None →
    Reads before now p nodes profile count logs number → ReadsLine now after p q true → HoldsOfInput before after (λ input. IsVerdict input (verdicts.NoLog number))
logs_none nodes profile count logs number before now after p q none way got =
    line_decides before now after p q (IsSaidOfLogs nodes profile count way.0 number) (verdicts.NoLog number) way.2 got (λ ls. inr (none, refl))

pub logs_on : (nodes : ℕ) (profile : Profile) (count : ℕ) (logs new : List (List Entry)) (number next : ℕ) (before now after : Option (List ℕ)) (p q : Pieces) (entry : Entry) →
    IsEntry count number q.line (Some entry) → ((entries : List Entry) → HasEntries logs entries → HasEntries new (entries ++ entry ∷ [])) → next ≡ number + 1 →
    Reads before now p nodes profile count logs number → ReadsLine now after p q true → Reads before after q nodes profile count new next
logs_on nodes profile count logs new number next before now after p q entry read push more way got =
    let entries : List Entry = way.0 ++ entry ∷ [] in (
      entries,
      push way.0 way.1,
      line_on before now after p q (IsSaidOfLogs nodes profile count way.0 number) (IsSaidOfLogs nodes profile count entries next) way.2 got
          (λ ls v said. inl (entry, read, subst (λ k. IsSaidOfLogs nodes profile count entries k ls v) more said)),
    )

pub logs_read : (nodes : ℕ) (profile : Profile) (count : ℕ) (logs : List (List Entry)) (number : ℕ) (before now after : Option (List ℕ)) (p q : Pieces) →
    Reads before now p nodes profile count logs number → ReadsLine now after p q false → AreRead before after nodes profile logs None
logs_read nodes profile count logs number before now after p q way got =
    (way.0, way.1, λ v said. lines_over before now after p q (IsSaidOfLogs nodes profile count way.0 number) v way.2 got said)

-- what was found says what is said
pub told : (before now : Option (List ℕ)) (nodes : ℕ) (profile : Profile) (logs : List (List Entry)) (found : Found) (v : Verdict) → AreRead before now nodes profile logs None →
    ((entries : List Entry) → HasEntries logs entries → IsFound nodes profile entries most_steps found) → ((entries : List Entry) → IsFound nodes profile entries most_steps found → IsSaidTogether nodes profile entries v) →
    HoldsOfInput before now (λ input. IsVerdict input v)
told before now nodes profile logs found v read finds says = read.2 v (says read.0 (finds read.0 read.1))
