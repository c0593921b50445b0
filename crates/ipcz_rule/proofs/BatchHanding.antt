-- The last message of a batch is handled, and the slot goes home empty: the single table takes the same step.
use Rattle.std.specs.Prelude.{◌≡◌, ◌<◌, ◌+◌, ◌&&◌, not, ℕ, Bool, List, [], ◌∷◌, length, slice_index, Option, None, refl}
use Rattle.std.proofs.Common.{arith, ap, ◌∙◌, sym, subst, set, length-set}
use mathlib.Core.Option.{some}
use mathlib.Core.Option as maybe
use lib.ListN.{get_elem?}
use Rattle.atomic_table.specs.Table.{Act as TableAct, Valid, stepped, carried_after, gives}
use Rattle.atomic_table.proofs.Lists.{set_here, set_else}
use Rattle.ipcz_base.specs.Indexed.{place_at}
use Rattle.ipcz_base.specs.declared.message.Message.{Message}
use Rattle.ipcz_base.specs.Limits.{has_serials}
use Rattle.ipcz_node.specs.declared.act.Act.{Act}
use Rattle.ipcz_node.specs.declared.act.Act.TheVariants as acts
use Rattle.ipcz_node.specs.Node.{Node}
use Rattle.ipcz_node.specs.Hands.{message_lacks_serials, serials_in}
use Rattle.ipcz_node.specs.Fronts.{behind}
use Rattle.ipcz_node.proofs.Fronts.{fits_behind, deliver_behind}
use Rattle.ipcz_rule.specs.declared.view.View.{View}
use Rattle.ipcz_rule.specs.declared.view.Part.{Part}
use Rattle.ipcz_rule.specs.Rule.{Slot, Mine, Rules, with_part, with_state}
use Rattle.ipcz_rule.specs.Steps.{trusted, hand_part}
use Rattle.ipcz_rule.specs.Kinds.{Hands}
use Rattle.ipcz_rule.specs.Batches.{Batch, BatchMine, with_batches, shown_part, ViewFolds, Batched}
use Rattle.ipcz_rule.specs.BatchKinds.{BatchHands}
use Rattle.ipcz_rule.proofs.BatchSteps.{KnownBy, SingleBy, BatchBy}
use Rattle.ipcz_rule.proofs.BatchedKinds.{part_there, part_folds}
use Rattle.ipcz_rule.proofs.BatchMail.{in_homes, mail_here, mail_step, node_below, hand_two, folds_two, homes_gave}

-- a message takes as many serials behind messages in front, and is handled the same
pub lacks_behind : (fs : List Batch) (n : Node) (from : ℕ) (x : Message) (source : Option ℕ) → message_lacks_serials n from x source ≡ message_lacks_serials (behind fs n) from x source
lacks_behind fs n from x source = ap (λ b. b && not (has_serials n.next_router (serials_in x))) (fits_behind fs n from x source)

pub hand_shown : (fronts : ℕ → List Batch) (from : ℕ) (source : Option ℕ) (x : Message) (p : Part) → hand_part from source x (shown_part fronts p) ≡ shown_part fronts (hand_part from source x p)
hand_shown fronts from source x p = ap (λ y. with_batches [] (with_state y (hand_part from source x p))) (sym (deliver_behind (fronts p.node) p.state from x source))

pub batch_hands : (q : KnownBy (List (ℕ × Act))) (alone : Bool) → Hands (SingleBy q) → BatchHands (BatchBy alone q)
batch_hands q alone old count size slots id i k from m p x rest is at_k at_i spent holds has serials slot s b deep at small =
    let t = b.single in
    let f = b.folds in
    let r = b.rules in
    let h = f.views id m.0 at in
    let u : View = h.0 in
    let n : ℕ = p.node in
    let sp = shown_part b.fronts p in
    let n_in = node_below f r id m.0 p at is in
    let hand = hand_two f r id m.0 p from at is holds in
    let from_in = hand.0 in
    let here = mail_here f r from n from_in n_in i k at_k at_i in
    let two : slice_index t.words i ≡ 2 = ap (slice_index t.words) (at_i ∙ ap (λ c. size + 1 + count + c) at_k) ∙ hand.1 in
    let bare = folds_two (slice_index s.words i) (get_elem? s.homes k) (slice_index t.words i) (get_elem? t.homes k) (place_at [] (b.fronts from) n) (b.left from n) here two in
    let none_left : b.left from n ≡ [] = sym (f.parts id m.0 0 p from at (ap (λ (l : List Part). get_elem? l 0) is) from_in) ∙ spent in
    let st = old count size slots id i k from (u, (k, None) ∷ []) sp x [] (part_there h.2 is) at_k at_i holds has (sym (lacks_behind (b.fronts n) p.state from x (trusted from x)) ∙ serials) refl t r (sym f.deep ∙ deep) h.1
    (subst (λ c. c < 18446744073709551616) (sym two) (omega arith)) in
    let gave = homes_gave t.homes st.1 k None st.2 (ap (λ (z : Mine). z.1) st.4) in
    let gs = set t.homes k (some None) in
    let After : List (maybe.Option Slot) → Type 0 = λ hs. (r' : Rules count size (record { words = set t.words i 0; homes = hs; views = set t.views id st.0 })) ×
    q ((n, acts.Hand from) ∷ []) r.world r.books r.routes r'.world r'.books r'.routes in
    let after : After gs = subst After gave st.3 in
    let p' = hand_part from (trusted from x) x p in
    let v' : View = with_part p' m.0 in
    let own : ViewFolds count size b.fronts v' st.0 = subst (ViewFolds count size b.fronts v') (sym (ap (λ (z : Mine). z.0) st.4)) (part_folds p' (hand_part from (trusted from x) x sp) (hand_shown b.fronts from (trusted from x) x p) h.2) in
    let in_home : k < length s.homes = let l = in_homes f r from n from_in n_in i k at_k at_i in let d = f.deep in omega (arith, l, d) in
    let Told : BatchMine → Type 0 = λ m'. m' ≡ (v', rest) in
    let G : List (ℕ × Batch) → Type 0 = λ held. (v : View) × (a : TableAct Batch) × Valid s.homes held a ×
    ((b' : Batched count size alone (stepped s i 0 id held v a)) × q ((n, acts.Hand from) ∷ []) r.world r.books r.routes b'.rules.world b'.rules.books b'.rules.routes) × Told (v, carried_after held a) in
    subst G (sym slot) (
      v',
      gives,
      tt,
      (
        record {
          single = record { words = set t.words i 0; homes = gs; views = set t.views id st.0 };
          rules = after.0;
          fronts = b.fronts;
          left = b.left;
          folds = mail_step f r from n from_in n_in i k at_k at_i 0 0 (set s.homes k (some [])) gs b.fronts b.left (length-set s.homes k (some [])) (length-set t.homes k (some None))
              (λ j ne. set_else s.homes k j (some []) ne) (λ j ne. set_else t.homes k j (some None) ne) (λ a c ne. refl) (λ a c ne. refl)
              (set_here s.homes k (some []) in_home, refl, sym bare.1 ∙ none_left, none_left) id m.0 v' st.0 p' at refl own
              (λ a la. f.parts id m.0 0 p a at (ap (λ (l : List Part). get_elem? l 0) is) la) (λ j w y ne seat g. g) (λ j w c z a ne seat there. refl) f.announced f.none_behind f.none_left;
        },
        after.1,
      ),
      refl,
    )
