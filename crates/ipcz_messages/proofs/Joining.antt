-- The next line of a kind is one line.
use Rattle.std.proofs.Common.{◌≡◌, ℕ, ◌+◌, ◌<◌, ◌≤◌, Bool, true, false, List, [], ◌∷◌, length, get_or, sym, ◌∙◌, subst, arith, inl, inr}
use Rattle.std.specs.List.{All, AllWithin}
use Rattle.std.proofs.lemmas.Bool.{cases_order}
use Rattle.std.proofs.lemmas.List.Elements.{All-set}
use Rattle.std.proofs.Math.ListN.{set}
use Rattle.ipcz_messages.specs.declared.messages.Message.{Message}
use Rattle.ipcz_lines.specs.declared.line.Line.{Line}
use Rattle.ipcz_lines.specs.declared.line.ReadLine.{ReadLine}
use Rattle.ipcz_messages.specs.Messages.{IsAt, IsHanded, IsLooked, IsMessage, IsPosted, KeepsWay, IsNext}

pub some_line : (read : List ReadLine) (j : ℕ) → j < length read → ReadLine
some_line [] j h = absurd (omega arith)
some_line (x ∷ xs) j h = x

pub true_and_false : (b : Bool) → b ≡ true → b ≡ false → ⊥
true_and_false b h e = cc

-- a line that passes the test isn't among those that don't
pub passed_over : (test : Line → Bool) (read : List ReadLine) (i k j : ℕ) → AllWithin (λ x. test x.line ≡ false) read i k → i ≤ j → j < k →
    IsAt test read j → ⊥
passed_over test read i k j none low high at =
    let d = some_line read j at.within in
    true_and_false (test (get_or read j d).line) (at.holds d) (none j d low high)

-- if none comes, none is next
pub no_next : (test : Line → Bool) (read : List ReadLine) (i : ℕ) → AllWithin (λ x. test x.line ≡ false) read (i + 1) (length read) →
    (j : ℕ) → IsNext test read i j → ⊥
no_next test read i none j next = passed_over test read (i + 1) (length read) j none (omega (arith, next.behind)) next.at.within next.at

-- of two next lines neither comes first
pub one_next : (test : Line → Bool) (read : List ReadLine) (i j k : ℕ) → IsNext test read i j → IsNext test read i k → j ≡ k
one_next test read i j k a b = elim (cases_order j k) [
  | inl e ↦ e
  | inr (inl h) ↦ absurd (passed_over test read (i + 1) k j b.first (omega (arith, a.behind)) h a.at)
  | inr (inr h) ↦ absurd (passed_over test read (i + 1) j k a.first (omega (arith, b.behind)) h b.at)
]

kept_posted : (read : List ReadLine) (from to i : ℕ) (a b : Message) → KeepsWay a b → IsPosted read from to i a → IsPosted read from to i b
kept_posted read from to i a b k h = record {
  from_is = k.from_kept ∙ h.from_is;
  to_is = k.to_kept ∙ h.to_is;
  posted = k.posted_kept ∙ h.posted;
  post = h.post;
  look = rw k.looked_kept h.look;
  hand = rw (k.looked_kept, k.handled_kept) h.hand;
  unseen = rw (k.looked_kept, k.handled_kept) h.unseen;
}

kept_looked : (read : List ReadLine) (from to j : ℕ) (a b : Message) → KeepsWay a b → IsLooked read from to j a → IsLooked read from to j b
kept_looked read from to j a b k h = record {
  from_is = k.from_kept ∙ h.from_is;
  to_is = k.to_kept ∙ h.to_is;
  posted = k.posted_kept ∙ h.posted;
  looked = k.looked_kept ∙ h.looked;
  look = h.look;
  hand = rw k.handled_kept h.hand;
}

kept_handed : (read : List ReadLine) (to n : ℕ) (a b : Message) → KeepsWay a b → IsHanded read to n a → IsHanded read to n b
kept_handed read to n a b k h = record {
  from_is = k.from_kept ∙ h.from_is;
  to_is = k.to_kept ∙ h.to_is;
  posted = k.posted_kept ∙ h.posted;
  looked = k.looked_kept ∙ h.looked;
  handled = k.handled_kept ∙ h.handled;
  hand = h.hand;
}

-- a message whose way is kept stays a message
pub message_kept : (read : List ReadLine) (a b : Message) → KeepsWay a b → IsMessage read a → IsMessage read b
message_kept read a b k (inl h) = inl (h.0, h.1, h.2, kept_posted read h.0 h.1 h.2 a b k h.3)
message_kept read a b k (inr (inl h)) = inr (inl (h.0, h.1, h.2, kept_looked read h.0 h.1 h.2 a b k h.3))
message_kept read a b k (inr (inr h)) = inr (inr (h.0, h.1, kept_handed read h.0 h.1 a b k h.2))

-- one message of all is changed, and keeps its way
pub messages_kept : (read : List ReadLine) (all : List Message) (i : ℕ) (old new : Message) → All (IsMessage read) all → i < length all →
    old ≡ get_or all i old → KeepsWay old new → All (IsMessage read) (set all i new)
messages_kept read all i old new each h at kept =
    let P : Message → Type 0 = IsMessage read in
    All-set P all i new (message_kept read old new kept (subst P (sym at) (each i old h))) each
