-- The load before the message in hand is handled: the source that it tells is the one that the message has by the rule.
use Rattle.std.specs.Prelude.{◌≡◌, ◌<◌, ℕ, Bool, true, false, nat_lt, List, [], ◌∷◌, ◌++◌, Option, Some, None, MatchBool}
use Rattle.std.proofs.Common.{arith, ap, sym, subst, ◌∙◌, refl, append-nil}
use Rattle.std.proofs.lemmas.Bool.Decides.{nat_tests}
use Rattle.ipcz_base.specs.declared.message.Message.{Message}
use Rattle.ipcz_base.specs.declared.message.Message.TheVariants as messages
use Rattle.ipcz_word.specs.Layout.{word_of_bits}
use Rattle.ipcz_world.specs.Coding.{IsLinkNumber}
use Rattle.ipcz_rule.specs.Steps.{old_word, trusted}
use Rattle.ipcz_cell.specs.CellStates.{CellState}
use Rattle.ipcz_cell.specs.Mails.{old_named, OldLoaded, LoadsSource}

trusted_none : (from : ℕ) (x : Message) → old_word x ≡ None → None ≡ trusted from x
unfolding trusted
trusted_none from (messages.AcceptBypass old side fresh length) e = cc
trusted_none from other e = refl

trusted_sender : (from i : ℕ) (x : Message) → old_word x ≡ Some i → Some from ≡ trusted from x
unfolding trusted
trusted_sender from i (messages.AcceptBypass old side fresh length) e = refl
trusted_sender from i other e = cc

-- what names an old link is a message
pub message_named : (o : Option Message) (i : ℕ) → old_named o ≡ Some i → (x : Message) × (o ≡ Some x) × (old_word x ≡ Some i)
message_named None i e = cc
message_named (Some x) i e = (x, refl, e)

-- without an old link nothing is loaded
pub loads_none : (size from : ℕ) (old : CellState) → old_named old.part.message ≡ None → LoadsSource size from old None old
loads_none size from old named = record {
  found = [];
  loaded = subst (λ (o : Option ℕ). OldLoaded size o []) (sym named) refl;
  part = refl;
  room = refl;
  seen = sym (append-nil old.seen);
  told = refl;
  known = λ x e inside. trusted_none from x (ap old_named (sym e) ∙ named);
}

-- the old link's word was loaded, and names the sender
pub loads_one : (size from i n : ℕ) (old new : CellState) (source : Option ℕ) → old_named old.part.message ≡ Some i → i < size → IsLinkNumber n → (word_of_bits n).source ≡ Some from →
    source ≡ (word_of_bits n).source → new.part ≡ old.part → new.room ≡ old.room → new.seen ≡ old.seen ++ (i, n) ∷ [] → LoadsSource size from old source new
loads_one size from i n old new source named inside is sender told part room seen = record {
  found = (i, n) ∷ [];
  loaded = subst (λ (o : Option ℕ). OldLoaded size o ((i, n) ∷ [])) (sym named) (hit (nat_lt i size) below);
  part = part;
  room = room;
  seen = seen;
  told = told;
  known = λ x e within. told ∙ (sender ∙ trusted_sender from i x (ap old_named (sym e) ∙ named));
}
  where
    hit : (b : Bool) → b ≡ true → MatchBool b ((k : ℕ) × IsLinkNumber k × ◌≡◌ {A = List (ℕ × ℕ)} ((i, n) ∷ []) ((i, k) ∷ [])) (◌≡◌ {A = List (ℕ × ℕ)} ((i, n) ∷ []) [])
    hit true e = (n, is, refl)
    hit false e = cc

    below : nat_lt i size ≡ true
    below = grind (arith, inside, nat_tests)
