-- A world in which routers ask for a word again stands at the same accounts.
use Rattle.std.specs.Prelude.{◌≡◌, ◌<◌, ℕ, zero, suc}
use Rattle.std.proofs.Common.{ap, subst, sym, ◌∙◌, inl, inr, arith}
use Rattle.std.specs.FinSet as sets
use Rattle.ipcz_base.specs.Ends.{has_end}
use Rattle.ipcz_world.specs.Retries.{AllMayAsk, LetAskTold}
use Rattle.ipcz_world.proofs.Vocabulary.{World}
use Rattle.ipcz_promise.specs.Promise.{Account}
use Rattle.ipcz_promise.specs.Accounting.{Keeps, Stands}
use Rattle.ipcz_promise.proofs.Growing.{StaysLawful}

module _ (w v : World) (each : AllMayAsk w v) (lawful : StaysLawful w v) where
  count : v.count ≡ w.count
  count = ap (λ (z : World). z.count) each.rest

  within : (n : ℕ) → n < v.count → n < w.count
  within n low = subst (λ c. n < c) count low

  asked-stands : (a : Account) → Stands w a → Stands v a
  asked-stands a k = record {
    books = k.books;
    routes = k.routes;
    lawful = lawful k.books k.routes k.lawful;
    nodes = k.nodes ∙ sym count;
    opened = k.opened;
    holder = λ n e low. ap (λ z. sets.contains z.held e) (each.nodes n) ∙ k.holder n e (within n low);
    real = λ n e h. subst (λ c. n < c) (sym count) (k.real n e h);
    put = k.put;
    got = k.got;
    closed = k.closed;
    pending = record {
      ungot = λ n e low h. k.pending.ungot n e (within n low) (sym (ap (λ z. has_end e z.pending) (each.nodes n)) ∙ h);
      closes = λ e is low. elim (k.pending.closes e is low) [
        | inl p ↦ inl (p.0, subst (λ c. p.0 < c) (sym count) p.1, ap (λ z. has_end e z.pending) (each.nodes p.0) ∙ p.2)
        | inr c ↦ inr c
      ];
    };
  }

  pub asked-keeps : (a : Account) → Keeps w a → Keeps v a
  asked-keeps a k = record { stands = asked-stands a k.stands; words = k.words ∙ sym (ap (λ (z : World). z.size) each.rest) }

pub asked-claimed : (w v : World) → AllMayAsk w v → v.claimed ≡ w.claimed
asked-claimed w v each = ap (λ (z : World). z.claimed) each.rest

-- who lets none ask changes nothing
pub asked-still : (w v : World) (told : ℕ) → LetAskTold w told v → told ≡ 0 → v ≡ w
asked-still w v told (zero, asked, is) none = asked
asked-still w v told (suc count, asked, is) none = absurd (omega (arith, is, none))
