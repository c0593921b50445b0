-- The slot of a batch goes home while a message of it is in hand or left: the single table takes a load.
use Rattle.std.specs.Prelude.{◌≡◌, ◌≢◌, ◌+◌, ◌*◌, ℕ, Bool, List, [], slice_index, Some, refl}
use Rattle.std.proofs.Common.{arith, ap, ◌∙◌, sym, subst, ⊎_elim, set, length-set}
use mathlib.Core.Option.{some}
use mathlib.Core.Option as maybe
use lib.ListN.{get_elem?}
use Rattle.atomic_table.specs.Table.{Act as TableAct, Valid, stepped, carried_after, gives}
use Rattle.atomic_table.proofs.Lists.{set_else}
use Rattle.ipcz_base.specs.Indexed.{place_at}
use Rattle.ipcz_node.specs.declared.act.Act.{Act}
use Rattle.ipcz_rule.specs.declared.view.View.{View}
use Rattle.ipcz_rule.specs.declared.view.Part.{Part}
use Rattle.ipcz_rule.specs.Rule.{Slot, Mine, Rules, saw}
use Rattle.ipcz_rule.specs.Kinds.{Loads}
use Rattle.ipcz_rule.specs.Batches.{Batch, BatchMine, batch_from, shown_part, ViewFolds, MailFolds, Batched}
use Rattle.ipcz_rule.specs.BatchKinds.{BatchGivesBack}
use Rattle.ipcz_rule.proofs.BatchSteps.{KnownBy, SingleBy, BatchBy, found_small, homes_stay}
use Rattle.ipcz_rule.proofs.BatchedKinds.{part_there, saw_folds}
use Rattle.ipcz_rule.proofs.BatchMail.{mail_here, mail_step, node_below, hand_two, folds_two, folds_left}

-- a mailbox whose batch is taken folds the single one whatever its slot
other_home : (n : ℕ) (home new : maybe.Option (maybe.Option Batch)) (single : ℕ) (one : maybe.Option (maybe.Option Slot)) (rest left : Batch) → n ≡ 2 → MailFolds n home single one rest left → MailFolds n new single one rest left
other_home n home new single one rest left two h =
    let there : MailFolds 2 home single one rest left = subst (λ z. MailFolds z home single one rest left) two h in
    subst (λ z. MailFolds z new single one rest left) (sym two) there

pub batch_gives_back : (q : KnownBy (List (ℕ × Act))) (alone : Bool) → Loads (SingleBy q) → BatchGivesBack (BatchBy alone q)
batch_gives_back q alone load count size slots id i k from m p xs rest is at_k at_i small_from holds slot s b deep at small =
    let t = b.single in
    let f = b.folds in
    let r = b.rules in
    let h = f.views id m.0 at in
    let u : View = h.0 in
    let n : ℕ = slice_index s.words i in
    let n1 : ℕ = slice_index t.words i in
    let sp = shown_part b.fronts p in
    let n_in = node_below f r id m.0 p at is in
    let here = mail_here f r from p.node small_from n_in i k at_k at_i in
    let word : i ≡ size + 1 + count + (from * count + p.node) = at_i ∙ ap (λ c. size + 1 + count + c) at_k in
    let two : n ≡ 2 = ⊎_elim
    (λ (hand : p.state.hand ≡ Some from). (folds_two n (get_elem? s.homes k) n1 (get_elem? t.homes k) (place_at [] (b.fronts from) p.node) (b.left from p.node) here (ap (slice_index t.words) word ∙ (hand_two f r id m.0 p from at is hand).1)).0)
    (λ (some_left : batch_from p from ≢ []). (folds_left n (get_elem? s.homes k) n1 (get_elem? t.homes k) (place_at [] (b.fronts from) p.node) (b.left from p.node) here
    (λ e. some_left (f.parts id m.0 0 p from at (ap (λ (l : List Part). get_elem? l 0) is) small_from ∙ e))).0)
    holds in
    let st = load count size slots id i (u, []) sp (part_there h.2 is) t r (sym f.deep ∙ deep) h.1 (found_small f r i small) in
    let gave = homes_stay t.homes st.1 st.2 (ap (λ (z : Mine). z.1) st.4) in
    let After : List (maybe.Option Slot) → Type 0 = λ hs. (r' : Rules count size (record { words = set t.words i n1; homes = hs; views = set t.views id st.0 })) × q [] r.world r.books r.routes r'.world r'.books r'.routes in
    let after : After t.homes = subst After gave st.3 in
    let v' : View = saw i n m.0 in
    let own : ViewFolds count size b.fronts v' st.0 = subst (ViewFolds count size b.fronts v') (sym (ap (λ (z : Mine). z.0) st.4)) (saw_folds i n n1 (λ l. absurd (omega (arith, l, at_i))) h.2) in
    let hs = set s.homes k (some xs) in
    let Told : BatchMine → Type 0 = λ m'. m' ≡ (v', rest) in
    let G : List (ℕ × Batch) → Type 0 = λ held. (v : View) × (a : TableAct Batch) × Valid s.homes held a ×
    ((b' : Batched count size alone (stepped s i n id held v a)) × q [] r.world r.books r.routes b'.rules.world b'.rules.books b'.rules.routes) × Told (v, carried_after held a) in
    subst G (sym slot) (
      v',
      gives,
      tt,
      (
        record {
          single = record { words = set t.words i n1; homes = t.homes; views = set t.views id st.0 };
          rules = after.0;
          fronts = b.fronts;
          left = b.left;
          folds = mail_step f r from p.node small_from n_in i k at_k at_i n n1 hs t.homes b.fronts b.left (length-set s.homes k (some xs)) refl
              (λ j ne. set_else s.homes k j (some xs) ne) (λ j ne. refl) (λ a c ne. refl) (λ a c ne. refl)
              (other_home n (get_elem? s.homes k) (get_elem? hs k) n1 (get_elem? t.homes k) (place_at [] (b.fronts from) p.node) (b.left from p.node) two here) id m.0 v' st.0 p at is own
              (λ a la. f.parts id m.0 0 p a at (ap (λ (l : List Part). get_elem? l 0) is) la) (λ j w y ne seat g. g) (λ j w c x a ne seat there. refl) f.announced f.none_behind f.none_left;
        },
        after.1,
      ),
      refl,
    )
