-- The table whose link words come back, at the start.
use Rattle.std.specs.Prelude.{◌≡◌, ◌<◌, ◌+◌, ◌*◌, ◌-◌, ◌≤◌, ℕ, Bool, true, false, zero, suc, List, [], ◌∷◌, ◌++◌, length, replicate, slice_index, refl}
use Rattle.std.proofs.Common.{arith, ap, ◌∙◌, sym, get_or}
use Rattle.std.proofs.lemmas.List.{length-append, length-replicate, get_or_append_left, get_or-append_right, get_or-replicate}
use mathlib.Core.Option.{some, some-injective, some-ne-none}
use mathlib.Core.Logic.{dite}
use native.Mathlib.Decide.{dec_lt}
use lib.ListN.{get_elem?}
use Rattle.atomic_table.specs.Table.{opening}
use Rattle.ipcz_node.specs.FirstPairs.{first_pairs}
use Rattle.ipcz_rule.specs.declared.view.View.{View}
use Rattle.ipcz_rule.specs.Start.{opening_words, opening_view}
use Rattle.ipcz_rule.specs.BatchLaws.{no_batches}
use Rattle.ipcz_slots.specs.declared.own.Own.{Own}
use Rattle.ipcz_rule.specs.Lasting.{virtual, sizes, own_of}
use Rattle.ipcz_rule.specs.LastingStart.{lasting_words, whole_words, LastingStarts, WholeStarts, StartLasts}
use Rattle.ipcz_slots.proofs.Beginning.{starts}
use Rattle.ipcz_word.specs.Word.{open_word, is_free}
use Rattle.ipcz_word.specs.SideSets.{has, both, none}
use Rattle.ipcz_word.specs.Layout.{bits_of, sets_bits, source_bits, word_of_bits}
use Rattle.ipcz_word.proofs.Return.{sets_return}
use Rattle.ipcz_world.specs.World.{word_at}
use Rattle.ipcz_rule.specs.Batches.{BatchSt, Batched}
use Rattle.ipcz_rule.specs.Lasting.{side_of}
use Rattle.ipcz_rule.proofs.BatchedStart.{batches_start}
use Rattle.ipcz_rule.proofs.Lasts.{laws_of, link_same}
use Rattle.ipcz_rule.proofs.LastsAll.{ends}

long_of : (n a : ℕ) → length (replicate n a) ≡ n
long_of n a = length-replicate n a

whole_length : (p r : ℕ) (m : List ℕ) → length (replicate p 3 ++ (replicate r 0 ++ (m ++ (replicate p 0 ++ replicate r 3)))) ≡ p + r + length m + (p + r)
whole_length p r m =
    let l1 : List ℕ = replicate p 0 ++ replicate r 3 in
    let a = length-append {A = ℕ} (replicate p 3) (replicate r 0 ++ (m ++ l1)) in
    let b = length-append {A = ℕ} (replicate r 0) (m ++ l1) in
    let c = length-append {A = ℕ} m l1 in
    let d = length-append {A = ℕ} (replicate p 0) (replicate r 3) in
    let e = long_of p 3 in
    let f = long_of r 0 in
    let g = long_of p 0 in
    let h = long_of r 3 in
    omega (arith, a, b, c, d, e, f, g, h)

none_of : (o : Own View) (id : ℕ) (q : Own View) → o.dirty ≡ [] → o.free ≡ [] → get_elem? (o ∷ []) id ≡ some q → (q.dirty ≡ []) × (q.free ≡ [])
none_of o zero q d f e = let same : o ≡ q = some-injective o q e in (ap (λ (y : Own View). y.dirty) (sym same) ∙ d, ap (λ (y : Own View). y.free) (sym same) ∙ f)
none_of o (suc id) q d f e = absurd (some-ne-none q (sym e))

-- a list of so many threes, so many noughts and others: at the others
at_others : (p r j : ℕ) (ys : List ℕ) → get_or (replicate p 3 ++ (replicate r 0 ++ ys)) (p + r + j) 0 ≡ get_or ys j 0
at_others p r j ys =
    get_or-append_right (replicate p 3) (replicate r 0 ++ ys) p (p + r + j) 0 (long_of p 3) (omega arith)
    ∙ (get_or-append_right (replicate r 0) ys r (p + r + j - p) 0 (long_of r 0) (omega arith)
    ∙ ap (λ n. get_or ys n 0) (omega arith))

-- at the links: whatever lies behind
at_links : (p r q i : ℕ) (ys zs : List ℕ) → i < p + r → i < p + q → get_or (replicate p 3 ++ (replicate r 0 ++ ys)) i 0 ≡ get_or (replicate p 3 ++ (replicate q 0 ++ zs)) i 0
at_links p r q i ys zs l m = dite (dec_lt i p)
    (λ k. get_or_append_left (replicate p 3) (replicate r 0 ++ ys) 0 i (rw (long_of p 3) k) ∙ sym (get_or_append_left (replicate p 3) (replicate q 0 ++ zs) 0 i (rw (long_of p 3) k)))
    (λ far. zeros r ys far l ∙ sym (zeros q zs far m))
  where
    zeros : (n : ℕ) (ws : List ℕ) → ¬ (i < p) → i < p + n → get_or (replicate p 3 ++ (replicate n 0 ++ ws)) i 0 ≡ 0
    zeros n ws far k =
        get_or-append_right (replicate p 3) (replicate n 0 ++ ws) p i 0 (long_of p 3) (omega (arith, far))
        ∙ (get_or_append_left (replicate n 0) ws 0 (i - p) (rw (long_of n 0) (omega (arith, far, k)))
        ∙ get_or-replicate n (i - p) 0 0 (omega (arith, far, k)))

three_is : 3 ≡ bits_of open_word
unfolding bits_of sets_bits open_word has both none source_bits
three_is = refl

open_free : is_free open_word ≡ true
unfolding open_word has both none
open_free = refl

-- the words of the first pairs are free at the start
opened : (count limit : ℕ) {alone : Bool} (r : Batched count limit alone (opening (opening_words count limit) (no_batches (count * count)) (opening_view count))) (p : ℕ) → p < length (first_pairs count) → p < limit →
    is_free (word_at r.rules.world p) ≡ true
opened count limit r p few below =
    let table : BatchSt = opening (opening_words count limit) (no_batches (count * count)) (opening_view count) in
    let n : ℕ = length (first_pairs count) in
    let rest : List ℕ = replicate (limit - n) 0 ++ n ∷ replicate (count + count * count) 0 in
    let three : slice_index (opening_words count limit) p ≡ 3 = get_or_append_left (replicate n 3) rest 0 p (rw (long_of n 3) few) ∙ get_or-replicate n p 3 0 few in
    let same : word_at r.rules.world p ≡ open_word = sym (sets_return (word_at r.rules.world p)) ∙ (ap word_of_bits (sym (link_same count limit p table r below ∙ r.rules.shows.links p (rw r.rules.words below)) ∙ (three ∙ three_is)) ∙ sets_return open_word) in
    ap is_free same ∙ open_free

lasting_starts : LastingStarts
lasting_starts count limit spare limits room =
    let n : ℕ = length (first_pairs count) in
    let k : ℕ = n + spare in
    let more : ℕ = limit - n in
    let start = batches_start count limit false limits in
    let r = start.0 in
    let middle : List ℕ = n ∷ replicate (count + count * count) 0 in
    let last : List ℕ = replicate n 0 ++ replicate spare 3 in
    let words : List ℕ = lasting_words count spare in
    let long : length middle ≡ 1 + count + count * count = (let e = long_of (count + count * count) 0 in omega (arith, e)) in
    let all : limit ≡ n + more = omega (arith, room) in
    let count_there : slice_index (opening_words count limit) limit ≡ n = ap (slice_index (opening_words count limit)) (omega (arith, all)) ∙ at_others n more 0 middle in
    let let_go : (p : ℕ) → get_or words (k + (1 + count + count * count) + p) 0 ≡ get_or last p 0 = λ p.
    ap (slice_index words) (omega arith) ∙ (at_others n spare ((1 + count + count * count) + p) (middle ++ last)
    ∙ (get_or-append_right middle last (1 + count + count * count) ((1 + count + count * count) + p) 0 long (omega arith) ∙ ap (λ i. get_or last i 0) (omega arith))) in
    let table : BatchSt = opening (opening_words count limit) (no_batches (count * count)) (opening_view count) in (
      (
        table,
        r,
        starts (virtual count limit true) (sizes count limit k true) (laws_of ends count limit k true)
            (opening words (no_batches (count * count)) (own_of (opening_view count) [] [] [])) table r (record {
              wide = whole_length n spare middle ∙ omega (arith, long);
              tall = let e = r.rules.shows.wide in let z = r.rules.words in let c = r.rules.nodes in r.folds.wide ∙ (e ∙ (ap (λ (q : ℕ). q + 1 + r.rules.world.count + r.rules.world.count * r.rules.world.count) z ∙ (ap (λ (q : ℕ). limit + 1 + q + q * q) c ∙ omega arith)));
              homes = refl;
              views = refl;
              rest = λ j l. at_others n spare j (middle ++ last) ∙ (get_or_append_left middle last 0 j (rw long l) ∙ sym (ap (slice_index (opening_words count limit)) (omega (arith, all)) ∙ at_others n more j middle));
              numbers = room;
              few = omega (arith, count_there);
              links = λ p l. at_links n spare more p (middle ++ last) middle l (omega (arith, l, room, all));
              claimed = λ p l. let_go p ∙ (get_or_append_left (replicate n 0) (replicate spare 3) 0 p (rw (long_of n 0) (omega (arith, count_there, l))) ∙ get_or-replicate n p 0 0 (omega (arith, count_there, l)));
              unclaimed = λ p far l. let_go p ∙ (get_or-append_right (replicate n 0) (replicate spare 3) n p 0 (long_of n 0) (omega (arith, count_there, far)) ∙ get_or-replicate spare (p - n) 3 0 (omega (arith, count_there, far, l)));
              held = λ again b p l gone. gone (ends.claimed.free r.rules.world r.rules.books r.rules.routes p (side_of b) r.rules.lawful (opened count limit r p (omega (arith, count_there, l)) (omega (arith, count_there, l, room))));
              none = λ id o at. none_of (own_of (opening_view count) [] [] []) id o refl refl at;
            }),
      ),
      record { world = start.1; books = start.2; routes = start.3 },
    )

-- where each number has a slot of its own: the words are those of the table that is folded, with noughts behind them
whole_starts : WholeStarts
whole_starts count size limits =
    let start = batches_start count size true limits in
    let r = start.0 in
    let words : List ℕ = opening_words count size in
    let n : ℕ = length (first_pairs count) in
    let tall : length words ≡ size + (1 + count + count * count) = let e = r.rules.shows.wide in let z = r.rules.words in let c = r.rules.nodes in
    r.folds.wide ∙ (e ∙ (ap (λ (q : ℕ). q + 1 + r.rules.world.count + r.rules.world.count * r.rules.world.count) z ∙ (ap (λ (q : ℕ). size + 1 + q + q * q) c ∙ omega arith))) in
    let room : n ≤ size = limits.pairs in
    let more : ℕ = size - n in
    let all : size ≡ n + more = omega (arith, room) in
    let count_there : slice_index words size ≡ n = ap (slice_index words) (omega (arith, all)) ∙ at_others n more 0 (n ∷ replicate (count + count * count) 0) in
    let front : (i : ℕ) → i < length words → get_or (words ++ replicate size 0) i 0 ≡ get_or words i 0 = λ i l. get_or_append_left words (replicate size 0) 0 i l in
    let let_go : (p : ℕ) → p < size → get_or (words ++ replicate size 0) (size + (1 + count + count * count) + p) 0 ≡ 0 = λ p l.
    get_or-append_right words (replicate size 0) (size + (1 + count + count * count)) (size + (1 + count + count * count) + p) 0 tall (omega arith)
    ∙ (ap (λ j. get_or (replicate size 0) j 0) (omega arith) ∙ get_or-replicate size p 0 0 l) in (
      (
        opening words (no_batches (count * count)) (opening_view count),
        r,
        starts (virtual count size false) (sizes count size size false) (laws_of ends count size size false)
            (opening (whole_words count size) (no_batches (count * count)) (own_of (opening_view count) [] [] [])) (opening words (no_batches (count * count)) (opening_view count)) r (record {
              wide = length-append {A = ℕ} words (replicate size 0) ∙ (let e = long_of size 0 in omega (arith, tall, e));
              tall = tall;
              homes = refl;
              views = refl;
              rest = λ j l. front (size + j) (omega (arith, tall, l));
              numbers = omega arith;
              few = omega (arith, count_there, room);
              links = λ p l. front p (omega (arith, tall, l));
              claimed = λ p l. let_go p (omega (arith, count_there, l, room));
              unclaimed = λ p far l. let_go p l;
              held = λ again. absurd (cc);
              none = λ id o at. none_of (own_of (opening_view count) [] [] []) id o refl refl at;
            }),
      ),
      record { world = start.1; books = start.2; routes = start.3 },
    )

pub start_lasts : StartLasts
start_lasts = (lasting_starts, whole_starts)
