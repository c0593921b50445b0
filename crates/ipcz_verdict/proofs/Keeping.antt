-- What a change of the books leaves as it is.
use Rattle.std.specs.Prelude.{◌≡◌, ℕ, zero, suc, Option, List, [], ◌∷◌, slice_get, refl}
use Rattle.std.proofs.Common.{◌∙◌}
use Rattle.std.specs.Option.{unwrap_or}
use Rattle.ipcz_base.specs.declared.end.End.{End}
use Rattle.ipcz_verdict.specs.declared.portal.Portal.{Portal}
use Rattle.ipcz_verdict.specs.Desks.{absent, change, holding, holding_each, index, portal_at}

keeps_at : {X : Type 0} (F : Portal → X) (f : Portal → Portal) → ((p : Portal) → F (f p) ≡ F p) → (s : List Portal) (i j : ℕ) →
    F (unwrap_or (slice_get (change s i f) j) absent) ≡ F (unwrap_or (slice_get s j) absent)
keeps_at F f h [] i j = refl
keeps_at F f h (p ∷ s) zero zero = h p
keeps_at F f h (p ∷ s) zero (suc j) = refl
keeps_at F f h (p ∷ s) (suc i) zero = refl
keeps_at F f h (p ∷ s) (suc i) (suc j) = keeps_at F f h s i j

-- a field that the change leaves alone
pub keeps : {X : Type 0} (F : Portal → X) (f : Portal → Portal) → ((p : Portal) → F (f p) ≡ F p) → (s : List Portal) (e d : End) →
    F (portal_at (change s (index e) f) d) ≡ F (portal_at s d)
keeps F f h s e d = keeps_at F f h s (index e) (index d)

-- the same of new holders
pub each_keeps : {X : Type 0} (F : Portal → X) → ((p : Portal) (o : Option ℕ) → F (record p { holder = o }) ≡ F p) → (s : List Portal) (es : List End) (o : Option ℕ) (d : End) →
    F (portal_at (holding_each s es o) d) ≡ F (portal_at s d)
each_keeps F h s [] o d = refl
each_keeps F h s (e ∷ es) o d = each_keeps F h (holding s e o) es o d ∙ keeps F (λ p. record p { holder = o }) (λ p. h p o) s e d
