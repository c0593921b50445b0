-- What the commands that are left add to a transcript.
use Rattle.std.proofs.Common.{◌≡◌, ◌∙◌, ℕ, suc, ◌+◌, ◌<◌, ◌≤◌, ◌||◌, Bool, true, false, List, [], ◌∷◌, ◌++◌, length, drop, get_or, refl}
use Rattle.std.proofs.Common.{sym, ap, subst, append_assoc, append-nil, zero, arith, add-one, drop-cons}
use Rattle.std.proofs.Math.Seq.{drop-nil}
use Rattle.ipcz_script.specs.declared.command.Command.{Command}
use Rattle.ipcz_script.specs.declared.said.Said.{Said}
use Rattle.ipcz_script.specs.Lines.{lines_of}
use Rattle.ipcz_script.specs.Bindings.{Titles}
use Rattle.ipcz_script.specs.Transcript.{Runner, WritesBy, is_unsettled}

-- what is left has the next element at its front
pub next_of : {X : Type 0} (xs : List X) (i : ℕ) (x : X) → i < length xs → x ≡ get_or xs i x → drop i xs ≡ x ∷ drop (i + 1) xs
next_of xs i x within is = rw add-one (drop-cons xs i x within ∙ ap (λ y. y ∷ drop (suc i) xs) (sym is))

-- nothing is left past the end
pub past : {X : Type 0} (xs : List X) (i : ℕ) → length xs ≤ i → drop i xs ≡ []
past [] i h = drop-nil i
past (x ∷ xs) zero h = absurd (omega arith)
past (x ∷ xs) (suc i) h = past xs i (omega arith)

pub either : (u b c : Bool) → ((u || b) || c) ≡ (u || (b || c))
either true b c = refl
either false b c = refl

pub or_none : (u : Bool) → (u || false) ≡ u
or_none true = refl
or_none false = refl

-- whatever completes the commands that are left completes all of them
abbrev pub GoesOn : {S : Type 0} → Runner S → (S → Titles) → S → List Command → S → List Command → List ℕ → Bool → Type 0
GoesOn {S} runs titles s all u left text unsettled =
    (rest : List ℕ) (later : Bool) (t : S) → WritesBy runs titles u left rest later t →
    WritesBy runs titles s all (text ++ rest) (unsettled || later) t

-- a command more
pub writes-next : {S : Type 0} (runs : Runner S) (titles : S → Titles) (s u x : S) (all left cs : List Command) (c : Command) (answer : Said)
    (text new : List ℕ) (unsettled more : Bool) → GoesOn runs titles s all u left text unsettled → left ≡ c ∷ cs → runs u c answer x →
    new ≡ text ++ lines_of (titles x) c answer → more ≡ (unsettled || is_unsettled answer) → GoesOn runs titles s all x cs new more
writes-next runs titles s u x all left cs c answer text new unsettled more on front answered written stopped rest later t is =
    let step : WritesBy runs titles u (c ∷ cs) (lines_of (titles x) c answer ++ rest) (is_unsettled answer || later) t = (
      record { before = u; command = c; said = answer; after = x } ∷ is.0,
      (refl, refl, answered, is.1),
      ap (λ l. lines_of (titles x) c answer ++ l) is.2,
      ap (λ b. is_unsettled answer || b) is.3,
    ) in
    let whole = on (lines_of (titles x) c answer ++ rest) (is_unsettled answer || later) t
    (subst (λ l. WritesBy runs titles u l (lines_of (titles x) c answer ++ rest) (is_unsettled answer || later) t) (sym front) step) in
    let texts : text ++ (lines_of (titles x) c answer ++ rest) ≡ new ++ rest =
    sym (append_assoc text (lines_of (titles x) c answer) rest) ∙ ap (λ l. l ++ rest) (sym written) in
    let tests : (unsettled || (is_unsettled answer || later)) ≡ (more || later) = sym (either unsettled (is_unsettled answer) later) ∙
    ap (λ b. b || later) (sym stopped) in
    subst (λ l. WritesBy runs titles s all l (more || later) t) texts
    (subst (λ b. WritesBy runs titles s all (text ++ (lines_of (titles x) c answer ++ rest)) b t) tests whole)

-- no command is left
pub writes-end : {S : Type 0} (runs : Runner S) (titles : S → Titles) (s u : S) (all left : List Command) (text : List ℕ) (unsettled : Bool) →
    GoesOn runs titles s all u left text unsettled → left ≡ [] → WritesBy runs titles s all text unsettled u
writes-end runs titles s u all left text unsettled on none =
    let last : WritesBy runs titles u left [] false u = subst (λ cs. WritesBy runs titles u cs [] false u) (sym none) ([], refl, refl, refl) in
    subst (λ l. WritesBy runs titles s all l unsettled u) (append-nil text)
    (subst (λ b. WritesBy runs titles s all (text ++ []) b u) (or_none unsettled) (on [] false u last))
