-- A probe of an empty mailbox, and the way back: the single table takes the same step, and no batch moves.
use Rattle.std.specs.Prelude.{◌≡◌, ◌<◌, ◌+◌, ◌*◌, ℕ, Bool, true, false, eqb, List, [], ◌∷◌, length, slice_index, None, refl, MatchBool}
use Rattle.std.proofs.Common.{arith, ap, ◌∙◌, sym, subst, set, length-set, eqb-true}
use prog.Atomic.{either}
use mathlib.Core.Option.{some, none}
use mathlib.Core.Option as maybe
use lib.ListN.{get_elem?}
use Rattle.atomic_table.specs.Table.{Act as TableAct, Valid, stepped, carried_after, homes_after, takes, gives}
use Rattle.atomic_table.proofs.Lists.{set_here, set_else}
use Rattle.ipcz_base.specs.Indexed.{place_at}
use Rattle.ipcz_node.specs.declared.act.Act.{Act}
use Rattle.ipcz_rule.specs.declared.view.View.{View}
use Rattle.ipcz_rule.specs.declared.view.Part.{Part}
use Rattle.ipcz_rule.specs.Rule.{Slot, Mine, Rules, with_part, saw}
use Rattle.ipcz_rule.specs.Steps.{probe_part, unprobe_part}
use Rattle.ipcz_rule.specs.Kinds.{Loads, Probes, Unprobes}
use Rattle.ipcz_rule.specs.Batches.{Batch, BatchSt, BatchMine, shown_part, ViewFolds, Batched}
use Rattle.ipcz_rule.specs.BatchKinds.{BatchProbes, BatchUnprobes}
use Rattle.ipcz_rule.proofs.BatchSteps.{KnownBy, SingleBy, BatchBy}
use Rattle.ipcz_rule.proofs.BatchedKinds.{part_there, saw_folds, part_folds, loads}
use Rattle.ipcz_rule.proofs.BatchMail.{in_homes, mail_here, mail_step, node_below, probed_three, folds_three, folds_zero, homes_gave, homes_took}

module _ (q : KnownBy (List (ℕ × Act))) (alone : Bool) (old : Probes (SingleBy q)) (load : Loads (SingleBy q)) (count size slots id i k to : ℕ) (m : BatchMine) (p : Part) (is : m.0.parts ≡ p ∷ []) (at_k : k ≡ p.node * count + to)
    (at_i : i ≡ size + 1 + count + k) (small_to : to < count) (s : BatchSt) (b : Batched count size alone s) (deep : length s.homes ≡ slots) (at : get_elem? s.views id ≡ some m.0) (small : slice_index s.words i < 18446744073709551616) where
  abbrev n : ℕ
  n = slice_index s.words i

  abbrev Probed : Bool → BatchMine → Type 0
  Probed c m' = MatchBool c (m' ≡ (with_part (probe_part to p) (saw i n m.0), (k, []) ∷ m.1)) (m' ≡ (saw i n m.0, m.1))

  abbrev F : Bool → Type 0
  F c = (v : View) × (a : TableAct Batch) × Valid s.homes m.1 a ×
      ((b' : Batched count size alone (stepped s i (either c 3 n) id m.1 v a)) × q [] b.rules.world b.rules.books b.rules.routes b'.rules.world b'.rules.books b'.rules.routes) × Probed c (v, carried_after m.1 a)

  probed_by : (c : Bool) → eqb n 0 ≡ c → F c
  probed_by true e =
      let t = b.single in
      let f = b.folds in
      let r = b.rules in
      let h = f.views id m.0 at in
      let u : View = h.0 in
      let sp = shown_part b.fronts p in
      let n_in = node_below f r id m.0 p at is in
      let zero_found : n ≡ 0 = eqb-true n 0 e in
      let bare = folds_zero (slice_index s.words i) (get_elem? s.homes k) (slice_index t.words i) (get_elem? t.homes k) (place_at [] (b.fronts p.node) to) (b.left p.node to) (mail_here f r p.node to n_in small_to i k at_k at_i) zero_found in
      let Single : ℕ → Type 0 = λ n1. (v : View) × (a : TableAct Slot) × Valid t.homes [] a × ((r' : Rules count size (stepped t i (either (eqb n1 0) 3 n1) id [] v a)) × q [] r.world r.books r.routes r'.world r'.books r'.routes) ×
      MatchBool (eqb n1 0) (◌≡◌ {A = Mine} (v, carried_after [] a) (with_part (probe_part to sp) (saw i n1 u), (k, None) ∷ [])) (◌≡◌ {A = Mine} (v, carried_after [] a) (saw i n1 u, [])) in
      let st : Single 0 = subst Single bare.1 (old count size slots id i k to (u, []) sp (part_there h.2 is) at_k at_i small_to t r (sym f.deep ∙ deep) h.1 (subst (λ c. c < 18446744073709551616) (sym bare.1) (omega arith))) in
      let took = homes_took t.homes st.1 k None st.2 (ap (λ (z : Mine). z.1) st.4) in
      let p' = probe_part to p in
      let v' : View = with_part p' (saw i n m.0) in
      let own : ViewFolds count size b.fronts v' st.0 = subst (ViewFolds count size b.fronts v') (sym (ap (λ (z : Mine). z.0) st.4)) (part_folds p' (probe_part to sp) refl (saw_folds i n 0 (λ l. sym zero_found) h.2)) in (
        v',
        takes k [],
        bare.0,
        (
          record {
            single = record { words = set t.words i 3; homes = homes_after t.homes [] st.1; views = set t.views id st.0 };
            rules = st.3.0;
            fronts = b.fronts;
            left = b.left;
            folds = mail_step f r p.node to n_in small_to i k at_k at_i 3 3 (set s.homes k none) (homes_after t.homes [] st.1) b.fronts b.left (length-set s.homes k none) took.deep
                (λ j ne. set_else s.homes k j none ne) took.else (λ a c ne. refl) (λ a c ne. refl) (refl, bare.2, bare.3) id m.0 v' st.0 p' at refl own
                (λ from lf. f.parts id m.0 0 p from at (ap (λ (l : List Part). get_elem? l 0) is) lf) (λ j w y ne seat g. g) (λ j w c x from ne seat there. refl) f.announced f.none_behind f.none_left;
          },
          st.3.1,
        ),
        refl,
      )
  probed_by false e = loads q alone load count size slots id i m p is s b deep at small

  pub probed_batch : F (eqb n 0)
  probed_batch = probed_by (eqb n 0) refl

pub batch_probes : (q : KnownBy (List (ℕ × Act))) (alone : Bool) → Probes (SingleBy q) → Loads (SingleBy q) → BatchProbes (BatchBy alone q)
batch_probes q alone old load count size slots id i k to m p is at_k at_i small_to s b deep at small =
    probed_batch q alone old load count size slots id i k to m p is at_k at_i small_to s b deep at small

pub batch_unprobes : (q : KnownBy (List (ℕ × Act))) (alone : Bool) → Unprobes (SingleBy q) → BatchUnprobes (BatchBy alone q)
batch_unprobes q alone old count size slots id i k to m p rest is at_k at_i small_to has slot s b deep at small =
    let t = b.single in
    let f = b.folds in
    let r = b.rules in
    let h = f.views id m.0 at in
    let u : View = h.0 in
    let n : ℕ = p.node in
    let sp = shown_part b.fronts p in
    let n_in = node_below f r id m.0 p at is in
    let here = mail_here f r n to n_in small_to i k at_k at_i in
    let three : slice_index t.words i ≡ 3 = ap (slice_index t.words) (at_i ∙ ap (λ c. size + 1 + count + c) at_k) ∙ probed_three f r id m.0 p to at is small_to has in
    let bare = folds_three (slice_index s.words i) (get_elem? s.homes k) (slice_index t.words i) (get_elem? t.homes k) (place_at [] (b.fronts n) to) (b.left n to) here three in
    let st = old count size slots id i k to (u, (k, None) ∷ []) sp [] (part_there h.2 is) at_k at_i small_to has refl t r (sym f.deep ∙ deep) h.1 (subst (λ c. c < 18446744073709551616) (sym three) (omega arith)) in
    let gave = homes_gave t.homes st.1 k None st.2 (ap (λ (z : Mine). z.1) st.4) in
    let gs = set t.homes k (some None) in
    let After : List (maybe.Option Slot) → Type 0 = λ hs. (r' : Rules count size (record { words = set t.words i 0; homes = hs; views = set t.views id st.0 })) × q [] r.world r.books r.routes r'.world r'.books r'.routes in
    let after : After gs = subst After gave st.3 in
    let p' = unprobe_part to p in
    let v' : View = with_part p' m.0 in
    let own : ViewFolds count size b.fronts v' st.0 = subst (ViewFolds count size b.fronts v') (sym (ap (λ (z : Mine). z.0) st.4)) (part_folds p' (unprobe_part to sp) refl h.2) in
    let in_home : k < length s.homes = let l = in_homes f r n to n_in small_to i k at_k at_i in let d = f.deep in omega (arith, l, d) in
    let Told : BatchMine → Type 0 = λ m'. m' ≡ (v', rest) in
    let G : List (ℕ × Batch) → Type 0 = λ held. (v : View) × (a : TableAct Batch) × Valid s.homes held a ×
    ((b' : Batched count size alone (stepped s i 0 id held v a)) × q [] r.world r.books r.routes b'.rules.world b'.rules.books b'.rules.routes) × Told (v, carried_after held a) in
    subst G (sym slot) (
      v',
      gives,
      tt,
      (
        record {
          single = record { words = set t.words i 0; homes = gs; views = set t.views id st.0 };
          rules = after.0;
          fronts = b.fronts;
          left = b.left;
          folds = mail_step f r n to n_in small_to i k at_k at_i 0 0 (set s.homes k (some [])) gs b.fronts b.left (length-set s.homes k (some [])) (length-set t.homes k (some None))
              (λ j ne. set_else s.homes k j (some []) ne) (λ j ne. set_else t.homes k j (some None) ne) (λ a c ne. refl) (λ a c ne. refl) (set_here s.homes k (some []) in_home, refl, bare.0, bare.1) id m.0 v' st.0 p' at refl own
              (λ from lf. f.parts id m.0 0 p from at (ap (λ (l : List Part). get_elem? l 0) is) lf) (λ j w y ne seat g. g) (λ j w c x from ne seat there. refl) f.announced f.none_behind f.none_left;
        },
        after.1,
      ),
      refl,
    )
