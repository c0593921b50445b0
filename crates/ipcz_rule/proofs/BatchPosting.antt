-- A post of a batch: its first message is the one that is posted in the single table, and those behind it come to stand in front of the outbox.
use Rattle.std.specs.Prelude.{◌≡◌, ◌≢◌, ◌<◌, ◌+◌, ℕ, suc, Bool, true, false, List, [], ◌∷◌, ◌++◌, map, length, slice_index, Some, refl}
use Rattle.std.proofs.Common.{arith, ap, ◌∙◌, sym, subst, set, length-set}
use mathlib.Core.Option.{some}
use mathlib.Core.Option as maybe
use mathlib.Core.Logic.{dite}
use native.Mathlib.Decide.{ℕ_discrete}
use lib.ListN.{get_elem?}
use Rattle.atomic_table.specs.Table.{Act as TableAct, Valid, stepped, carried_after, gives}
use Rattle.atomic_table.proofs.Lists.{set_else, set_here}
use Rattle.ipcz_base.specs.Indexed.{place_at, put_place}
use Rattle.ipcz_base.specs.declared.message.Message.{Message}
use Rattle.ipcz_router.specs.declared.act.Answer.TheVariants as answers
use Rattle.ipcz_node.specs.declared.act.Act.{Act}
use Rattle.ipcz_node.specs.declared.act.Act.TheVariants as acts
use Rattle.ipcz_node.specs.Node.{Node, outbox, with_outbox}
use Rattle.ipcz_node.specs.Acts.{commit, rest_of}
use Rattle.ipcz_node.specs.Fronts.{behind}
use Rattle.ipcz_node.proofs.Fronts.{first_behind, batch_post, post_under}
use Rattle.ipcz_rule.specs.declared.view.View.{View}
use Rattle.ipcz_rule.specs.declared.view.Part.{Part}
use Rattle.ipcz_rule.specs.Rule.{Slot, Mine, Rules, with_part, with_state}
use Rattle.ipcz_rule.specs.Steps.{unprobe_part}
use Rattle.ipcz_rule.specs.Kinds.{Posts}
use Rattle.ipcz_rule.specs.Batches.{Batch, BatchMine, with_batches, shown_part, ViewFolds, Batched}
use Rattle.ipcz_rule.specs.BatchKinds.{BatchPosts, batch_post_part}
use Rattle.ipcz_rule.proofs.BatchSteps.{KnownBy, SingleBy, BatchBy}
use Rattle.ipcz_rule.proofs.BatchedKinds.{part_there}
use Rattle.ipcz_rule.proofs.BatchMail.{in_homes, mail_here, mail_step, node_below, node_apart, probed_three, folds_three, homes_gave, changed_at, changed_at_here, changed_at_else, place_here, place_else, front_else}

-- what is in front of a node's outboxes after the post of a batch; nothing is, where batches are alone
abbrev pub after_post : Bool → List Batch → ℕ → Batch → List Batch
after_post true fs to xs = fs
after_post false fs to xs = put_place [] fs to xs

posted_state : (alone : Bool) (fs : List Batch) (n : Node) (to : ℕ) (x : Message) (xs ys : Batch) → place_at [] fs to ≡ [] → outbox n to ≡ x ∷ xs ++ ys → (alone ≡ true → xs ≡ []) →
    commit (behind fs n) (acts.Post to) answers.Plain ≡ behind (after_post alone fs to xs) (with_outbox n to ys)
unfolding commit rest_of
posted_state true fs n to x xs ys none box only =
    post_under fs n to answers.Plain none ∙ ap (λ z. behind fs (with_outbox n to z)) (ap rest_of box ∙ ap (λ z. z ++ ys) (only refl))
posted_state false fs n to x xs ys none box only = batch_post fs n to x xs ys answers.Plain none box

posted_here : (alone : Bool) (fs : List Batch) (to : ℕ) (xs : Batch) → place_at [] fs to ≡ [] → (alone ≡ true → xs ≡ []) → place_at [] (after_post alone fs to xs) to ≡ xs
posted_here true fs to xs none only = none ∙ sym (only refl)
posted_here false fs to xs none only = place_here fs to xs

posted_else : (alone : Bool) (fs : List Batch) (to : ℕ) (xs : Batch) (j : ℕ) → j ≢ to → place_at [] (after_post alone fs to xs) j ≡ place_at [] fs j
posted_else true fs to xs j ne = refl
posted_else false fs to xs j ne = place_else fs to xs j ne

-- parts of other nodes are shown as before
shown_same : (fronts : ℕ → List Batch) (n : ℕ) (fs : List Batch) (ps : List Part) → ((k : ℕ) (q : Part) → get_elem? ps k ≡ some q → q.node ≢ n) →
    map (shown_part fronts) ps ≡ map (shown_part (changed_at n fs fronts)) ps
shown_same fronts n fs [] apart = refl
shown_same fronts n fs (q ∷ qs) apart =
    ap (λ z. with_batches [] (with_state (behind z q.state) q) ∷ map (shown_part fronts) qs) (sym (changed_at_else n fs fronts q.node (apart 0 q refl))) ∙
    ap (λ l. shown_part (changed_at n fs fronts) q ∷ l) (shown_same fronts n fs qs (λ k p at. apart (suc k) p at))

pub batch_posts : (q : KnownBy (List (ℕ × Act))) (alone : Bool) → Posts (SingleBy q) → BatchPosts alone (BatchBy alone q)
batch_posts q alone old count size slots id i k to m p x xs ys rest is at_k at_i small_to has told box only slot s b deep at small =
    let t = b.single in
    let f = b.folds in
    let h = f.views id m.0 at in
    let u : View = h.0 in
    let n : ℕ = p.node in
    let fs : List Batch = b.fronts n in
    let sp = shown_part b.fronts p in
    let n_in = node_below f b.rules id m.0 p at is in
    let here = mail_here f b.rules n to n_in small_to i k at_k at_i in
    let three : slice_index t.words i ≡ 3 = ap (slice_index t.words) (at_i ∙ ap (λ c. size + 1 + count + c) at_k) ∙ probed_three f b.rules id m.0 p to at is small_to has in
    let bare = folds_three (slice_index s.words i) (get_elem? s.homes k) (slice_index t.words i) (get_elem? t.homes k) (place_at [] fs to) (b.left n to) here three in
    let first = first_behind fs p.state to x (xs ++ ys) (ap (λ z. z ++ outbox p.state to) bare.0 ∙ box) in
    let st = old count size slots id i k to (u, (k, Some x) ∷ []) sp x [] (part_there h.2 is) at_k at_i small_to has (h.2.announced ∙ told) first.1 first.0 refl t b.rules (sym f.deep ∙ deep) h.1
    (subst (λ c. c < 18446744073709551616) (sym three) (omega arith)) in
    let gave = homes_gave t.homes st.1 k (Some x) st.2 (ap (λ (z : Mine). z.1) st.4) in
    let gs = set t.homes k (some (Some x)) in
    let After : List (maybe.Option Slot) → Type 0 = λ hs. (r' : Rules count size (record { words = set t.words i 1; homes = hs; views = set t.views id st.0 })) ×
    q ((n, acts.Post to) ∷ []) b.rules.world b.rules.books b.rules.routes r'.world r'.books r'.routes in
    let after : After gs = subst After gave st.3 in
    let gs' : List Batch = after_post alone fs to xs in
    let fronts' : ℕ → List Batch = changed_at n gs' b.fronts in
    let mine : fronts' n ≡ gs' = changed_at_here n gs' b.fronts in
    let p' = batch_post_part to ys p in
    let v' : View = with_part p' m.0 in
    let state : commit (behind fs p.state) (acts.Post to) answers.Plain ≡ behind (fronts' n) (with_outbox p.state to ys) =
    posted_state alone fs p.state to x xs ys bare.0 box only ∙ ap (λ z. behind z (with_outbox p.state to ys)) (sym mine) in
    let own : ViewFolds count size fronts' v' st.0 = subst (ViewFolds count size fronts' v') (sym (ap (λ (z : Mine). z.0) st.4)) (record {
      parts = ap (λ y. with_batches [] (with_state y (unprobe_part to p)) ∷ []) state;
      announced = refl;
      caller = h.2.caller;
      seen = h.2.seen;
    }) in
    let in_home : k < length s.homes = let l = in_homes f b.rules n to n_in small_to i k at_k at_i in let d = f.deep in omega (arith, l, d) in
    let behind_it : place_at [] (fronts' n) to ≡ xs = ap (λ z. place_at [] z to) mine ∙ posted_here alone fs to xs bare.0 only in
    let no_front : alone ≡ true → (a : ℕ) → fronts' a ≡ [] = λ e a. dite (ℕ_discrete a n)
    (λ d. ap fronts' d ∙ (mine ∙ (ap (λ c. after_post c fs to xs) e ∙ f.none_behind e n)))
    (λ far. changed_at_else n gs' b.fronts a far ∙ f.none_behind e a) in
    let Told : BatchMine → Type 0 = λ m'. m' ≡ (v', rest) in
    let G : List (ℕ × Batch) → Type 0 = λ held. (v : View) × (a : TableAct Batch) × Valid s.homes held a ×
    ((b' : Batched count size alone (stepped s i 1 id held v a)) × q ((n, acts.Post to) ∷ []) b.rules.world b.rules.books b.rules.routes b'.rules.world b'.rules.books b'.rules.routes) × Told (v, carried_after held a) in
    subst G (sym slot) (
      v',
      gives,
      tt,
      (
        record {
          single = record { words = set t.words i 1; homes = gs; views = set t.views id st.0 };
          rules = after.0;
          fronts = fronts';
          left = b.left;
          folds = mail_step f b.rules n to n_in small_to i k at_k at_i 1 1 (set s.homes k (some (x ∷ xs))) gs fronts' b.left (length-set s.homes k (some (x ∷ xs))) (length-set t.homes k (some (Some x)))
              (λ j ne. set_else s.homes k j (some (x ∷ xs)) ne) (λ j ne. set_else t.homes k j (some (Some x)) ne) (front_else b.fronts n to gs' (λ c ne. posted_else alone fs to xs c ne)) (λ a c ne. refl) (
                x,
                (set_here s.homes k (some (x ∷ xs)) in_home ∙ ap (λ z. some (some (x ∷ z))) (sym behind_it)),
                refl,
                set_here t.homes k (some (Some x)) (in_homes f b.rules n to n_in small_to i k at_k at_i),
                bare.1,
              ) id m.0 v' st.0 p' at refl own
              (λ from lf. f.parts id m.0 0 p from at (ap (λ (l : List Part). get_elem? l 0) is) lf)
              (λ j w y ne seat g. record {
                parts = g.parts ∙ shown_same b.fronts n gs' w.parts (λ c part there. node_apart f b.rules id m.0 p at is j w c part ne seat there);
                announced = g.announced;
                caller = g.caller;
                seen = g.seen;
              })
              (λ j w c part from ne seat there. refl) f.announced no_front f.none_left;
        },
        after.1,
      ),
      refl,
    )
