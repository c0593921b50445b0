use Rattle.std.proofs.Common.{◌≡◌, ◌<◌, ◌≤◌, ◌∙◌, sym, refl, ℕ, List, Option, Some, None, Bor, length, get_or}
use Rattle.std.specs.Prelude.{IfSome, MatchOption}
use Rattle.std.specs.List.{HoldsAt, slice_get}
use Rattle.std.specs.Option.{option_copied}
use Rattle.std.proofs.lemmas.Option.{slice_get_past, slice_get_read}
use Rattle.ipcz_verdict.specs.declared.portal.Portal.{Portal}
use Rattle.ipcz_verdict.proofs.Changing.{seen_at}
use Rattle.ipcz_verdict.proofs.books.book.Goals as goal

pub returns : goal.returns
returns c =
    copied c.get.result c.args.portals.now c.index.result c.get.ensures.lookup.1 c.get.ensures.lookup.3
    ∙ seen_at c.args.portals.now c.index.result c.args.end c.index.ensures
  where
    copied : (o : Option (Bor Portal)) (s : List Portal) (i : ℕ) → IfSome o (λ x. x.now ≡ get_or s i x.now) →
        MatchOption o (length s ≤ i) (λ x. (i < length s) × HoldsAt (λ y. x.now ≡ y) s i) → option_copied o ≡ slice_get s i
    copied None s i read there = sym (slice_get_past s i there)
    copied (Some x) s i read there = sym (slice_get_read s (length s) i x.now refl there.0 read)
