-- The table whose slots carry batches at its start: it folds the single table at its start, and nothing is under way.
use Rattle.std.specs.Prelude.{◌≡◌, ◌<◌, ◌+◌, ◌*◌, ℕ, zero, suc, List, [], ◌∷◌, map, slice_index, None, refl}
use Rattle.std.proofs.Common.{arith, ap, ◌∙◌, sym, subst}
use Rattle.std.proofs.lemmas.List.{length-map, length-replicate}
use mathlib.Core.Option.{some, some-injective, some-ne-none}
use mathlib.Core.Option as maybe
use lib.ListN.{get_elem?}
use Rattle.atomic_table.specs.Table.{opening}
use Rattle.ipcz_base.specs.Indexed.{place_at}
use Rattle.ipcz_world.specs.World.{numbers_from}
use Rattle.ipcz_world.specs.Lawful.{IsWithinLimits}
use Rattle.ipcz_rule.specs.declared.view.View.{View}
use Rattle.ipcz_rule.specs.declared.view.Part.{Part}
use Rattle.ipcz_rule.specs.Rule.{Slot, St}
use Rattle.ipcz_rule.specs.Start.{opening_words, opening_part, opening_view, no_messages}
use Rattle.ipcz_rule.specs.Batches.{Batch, BatchSt, plain_count, shown_part, MailFolds, Folds, ViewFolds}
use Rattle.ipcz_rule.specs.BatchLaws.{no_batches, BatchesStart}
use Rattle.ipcz_rule.proofs.Starting.{parts_are, mail_zero, opens, opens_shows}

-- nothing is left of any batch
pub nothing_from : (from : ℕ) → place_at {X = Batch} [] [] from ≡ []
unfolding place_at
nothing_from from = refl

-- and nothing is in front of any outbox
abbrev none_ahead : ℕ → List Batch
none_ahead from = []

abbrev none_over : ℕ → ℕ → Batch
none_over from to = []

-- a part at the start is shown as it is
part_alone : (count n : ℕ) → shown_part none_ahead (opening_part count n) ≡ opening_part count n
part_alone count n = refl

parts_alone : (count : ℕ) (ns : List ℕ) → map (opening_part count) ns ≡ map (shown_part none_ahead) (map (opening_part count) ns)
parts_alone count [] = refl
parts_alone count (n ∷ ns) = ap (λ p. p ∷ map (opening_part count) ns) (sym (part_alone count n)) ∙
    ap (λ ps. shown_part none_ahead (opening_part count n) ∷ ps) (parts_alone count ns)

homes_empty : (n k : ℕ) → k < n → get_elem? (map some (no_batches n)) k ≡ some (some [])
homes_empty zero k l = absurd (omega (arith, l))
homes_empty (suc n) zero l = refl
homes_empty (suc n) (suc k) l = homes_empty n k (omega (arith, l))

-- the mailbox from a node to another is one of the table's
pub inside_square : (count from to : ℕ) → from < count → to < count → from * count + to < count * count
inside_square zero from to from_in to_in = absurd (omega (arith, from_in))
inside_square (suc c) from to from_in to_in = below from (suc c) (suc c) to from_in to_in
  where
    below : (from m c to : ℕ) → from < m → to < c → from * c + to < m * c
    below from zero c to l k = absurd (omega (arith, l))
    below zero (suc m) c to l k = omega (arith, k)
    below (suc from) (suc m) c to l k = let h = below from m c to (omega (arith, l)) k in omega (arith, h)

-- the slot of an empty mailbox
empty_folds : (found : ℕ) (home : maybe.Option (maybe.Option Batch)) (single : ℕ) (one : maybe.Option (maybe.Option Slot)) (rest : Batch) → found ≡ 0 → single ≡ 0 →
    home ≡ some (some []) → rest ≡ [] → MailFolds found home single one rest []
empty_folds found home single one rest a b c d = subst (λ n. MailFolds n home single one rest []) (sym a) (c, b, d, refl)

module _ (count size : ℕ) (limits : IsWithinLimits count size) where
  abbrev table : BatchSt
  table = opening (opening_words count size) (no_batches (count * count)) (opening_view count)

  abbrev single : St
  single = opening (opening_words count size) (no_messages (count * count)) (opening_view count)

  part_empty : (id : ℕ) (v : View) (j : ℕ) (p : Part) → get_elem? (opening_view count ∷ []) id ≡ some v → get_elem? v.parts j ≡ some p → p.batches ≡ []
  part_empty (suc id) v j p at there = absurd (some-ne-none v (sym at))
  part_empty zero v j p at there =
      let t = parts_are count 0 count j p (ap (λ (z : View). get_elem? z.parts j) (some-injective (opening_view count) v at) ∙ there) in
      ap (λ (z : Part). z.batches) (sym t.1)

  views_fold : (id : ℕ) (v : View) → get_elem? (opening_view count ∷ []) id ≡ some v → (u : View) × (get_elem? (opening_view count ∷ []) id ≡ some u) × ViewFolds count size none_ahead v u
  views_fold (suc id) v at = absurd (some-ne-none v (sym at))
  views_fold zero v at = (
    opening_view count,
    refl,
    subst (λ (x : View). ViewFolds count size none_ahead x (opening_view count)) (some-injective (opening_view count) v at) (record {
      parts = parts_alone count (numbers_from 0 count);
      announced = refl;
      caller = refl;
      seen = λ i l. refl;
    }),
  )

  folds : (alone : _) → Folds count size alone table single none_ahead none_over
  folds alone = record {
    wide = refl;
    deep = length-map (no_batches (count * count)) some ∙ (length-replicate {A = Batch} (count * count) [] ∙
        sym (length-map (no_messages (count * count)) some ∙ length-replicate {A = Slot} (count * count) None));
    many = refl;
    words = λ i l. refl;
    mail = λ from to from_in to_in.
        let k = from * count + to in
        let zero_there = mail_zero count size limits k in
        empty_folds (slice_index (opening_words count size) (plain_count count size + k)) (get_elem? (map some (no_batches (count * count))) k)
        (slice_index (opening_words count size) (plain_count count size + k)) (get_elem? (map some (no_messages (count * count))) k) (place_at [] [] to)
        zero_there zero_there (homes_empty (count * count) k (inside_square count from to from_in to_in)) (nothing_from to);
    views = views_fold;
    parts = λ id v j p from at there from_in. ap (λ bs. place_at [] bs from) (part_empty id v j p at there) ∙ nothing_from from;
    announced = λ from to from_in to_in some_left. absurd (some_left refl);
    none_behind = λ e from. refl;
    none_left = λ e from to. refl;
  }

-- it keeps the rule, and shows the world at the start
pub batches_start : BatchesStart
batches_start count size alone limits =
    let is = opens_shows count size limits in (
      record {
        single = single count size limits;
        rules = opens count size limits;
        fronts = none_ahead;
        left = none_over;
        folds = folds count size limits alone;
      },
      is.world,
      is.books,
      is.routes,
    )
