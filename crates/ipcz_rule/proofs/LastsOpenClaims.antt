-- A claim for an open on a table whose link words come back: the numbers before it are passed over. (As LastsClaims.)
use Rattle.std.specs.Prelude.{◌≡◌, ◌≤◌, ◌<◌, ◌⊎◌, ◌+◌, ℕ, eqb, Bool, true, false, List, [], ◌∷◌, length, slice_index, None, refl, MatchBool}
use Rattle.std.proofs.Common.{arith, ap, set, ◌∙◌, sym, subst, inl, inr, ⊎_elim, get_or-set_same, eqb-true}
use prog.Atomic.{either}
use mathlib.Core.Option.{some}
use lib.ListN.{get_elem?}
use Rattle.atomic_table.proofs.Lists.{set_here}
use Rattle.ipcz_slots.proofs.Folding.{at_inside}
use Rattle.atomic_table.specs.Table.{Act as TableAct, Valid, stepped, carried_after}
use Rattle.ipcz_base.specs.declared.side.Side.{Side}
use Rattle.ipcz_world.specs.World.{World, set_claimed}
use Rattle.ipcz_world.specs.WorldLaws.{LawfulStraysNothing}
use Rattle.ipcz_node.specs.Node.{Node}
use Rattle.ipcz_world.specs.HeldEnds.{IsEndHeld, ByOpen, PassingKeepsLawful, passed_over}
use Rattle.ipcz_rule.specs.declared.view.View.{View}
use Rattle.ipcz_rule.specs.declared.view.Part.{Part}
use Rattle.ipcz_rule.specs.Rule.{with_part, saw}
use Rattle.ipcz_rule.specs.Batches.{Batch, BatchSt, BatchMine, Batched, BatchTurns, BatchDeeds}
use Rattle.ipcz_rule.specs.Deeds.{Deed, Beside, ClaimsWord, Passes, AreDeeds, deed_where}
use Rattle.ipcz_rule.specs.Kinds.{Done, KeepsEnds, ClaimsForOpen, Loads}
use Rattle.ipcz_slots.specs.SlotKinds.{Known, Steps, Keeps, LosesNone, Skips, Takes}
use Rattle.ipcz_rule.specs.Lasting.{EndLaws, virtual, sizes, side_of, own_of}
use Rattle.ipcz_rule.proofs.Lasts.{are_sizes, count_is, laws_of, held_claimed, node_here}
use Rattle.ipcz_slots.proofs.Reusing.{claims}
use Rattle.ipcz_slots.proofs.Ordered.{claims_in_order}
use Rattle.ipcz_world.proofs.Whole.{lawful_worlds_stray_nothing}
use Rattle.ipcz_world.proofs.runs.PassingOver.{passing_keeps_lawful}
use Rattle.ipcz_rule.specs.Steps.{claimed_part}
use Rattle.ipcz_rule.specs.LastingCalls.{passing_keeping, deeds_of, ClaimsForOpenLast, ClaimsForOpenInOrder}
use Rattle.ipcz_rule.proofs.LastsAll.{ends, batch_loads}
use Rattle.ipcz_rule.proofs.LastsCalls.{ends_done, ends_stay}
use Rattle.ipcz_rule.proofs.BatchesAll.{plain_deeds}
use Rattle.ipcz_rule.proofs.LastsClaims.{held_same, held_then, claimed_same, s1, passed_batched, passed_world2, passed_deeds2, wide2, set_over, eqb_self}

-- the word of an open under way is held
opening_held : (count limit id : ℕ) (m : BatchMine) (p : Part) (k : ℕ) (v : View) → v ≡ with_part (claimed_part k p) (saw limit k m.0) → (t : BatchSt) (r : Batched count limit false t) → get_elem? t.views id ≡ some v →
    (s : Side) → IsEndHeld r.rules.world k s
opening_held count limit id m p k v is t r at s =
    ByOpen p.node (ap (λ (y : Node). y.opening) (node_here count limit id v (claimed_part k p) (ap (λ (q : View). q.parts) is) t r at))

-- a claim of a number beyond the count, on the virtual table
module _ (ends : EndLaws) (passing : PassingKeepsLawful) (strays : LawfulStraysNothing) (loads : Loads (BatchTurns false)) (old : ClaimsForOpen (BatchDeeds false))
    (count limit slots id c skip : ℕ) (m : BatchMine) (p : Part) (is : m.0.parts ≡ p ∷ []) (idle : p.state.opening ≡ None) (small : c + skip < limit)
    (t : BatchSt) (r : Batched count limit false t) (deep : length t.homes ≡ slots) (at : get_elem? t.views id ≡ some m.0) (fits : slice_index t.words limit < 18446744073709551616) (tiny : limit < 18446744073709551616) where
  abbrev n2 : ℕ
  n2 = slice_index t.words limit

  abbrev left2 : BatchMine
  left2 = (with_part (claimed_part (c + skip) p) (saw limit (c + skip) m.0), m.1)

  -- what it is, by whether the count was found
  abbrev Res2 : Bool → Type 0
  Res2 b = (v : View) × (a : TableAct Batch) × Valid t.homes m.1 a ×
      ((r' : Batched count limit false (stepped t limit (either b (c + skip + 1) n2) id m.1 v a)) ×
      MatchBool b (passing_keeping count limit c skip p.node t r (stepped t limit (either b (c + skip + 1) n2) id m.1 v a) r')
      (deeds_of count limit true limit (λ n. []) t r (stepped t limit (either b (c + skip + 1) n2) id m.1 v a) r')) ×
      MatchBool b (◌≡◌ {A = BatchMine} (v, carried_after m.1 a) left2) (◌≡◌ {A = BatchMine} (v, carried_after m.1 a) (saw limit n2 m.0, m.1))

  by2 : (b : Bool) → eqb n2 c ≡ b → Res2 b
  unfolding set_claimed
  by2 true e =
      let found : r.rules.world.claimed ≡ c = sym (count_is count limit t r) ∙ eqb-true n2 c e in
      let most : r.rules.world.claimed + skip ≤ limit = omega (arith, found, small) in
      let t' : BatchSt = s1 ends passing strays count limit t r skip most in
      let r1 = passed_batched ends passing strays count limit t r skip most in
      let k : ℕ = c + skip in
      let same : r.rules.world.claimed + skip ≡ k = omega (arith, found) in
      let here : slice_index t'.words limit ≡ k = get_or-set_same t.words limit (r.rules.world.claimed + skip) 0 (wide2 ends passing strays count limit t r skip most) ∙ same in
      let Raw : ℕ → Bool → Type 0 = λ j b. (v : View) × (a : TableAct Batch) × Valid t.homes m.1 a ×
      ((r' : Batched count limit false (stepped t' limit (either b (k + 1) j) id m.1 v a)) ×
      Done r1.rules.world r1.rules.books r1.rules.routes (deed_where b (Beside (ClaimsWord p.node))) r'.rules.world r'.rules.books r'.rules.routes) ×
      MatchBool b (◌≡◌ {A = BatchMine} (v, carried_after m.1 a) (with_part (claimed_part k p) (saw limit j m.0), m.1)) (◌≡◌ {A = BatchMine} (v, carried_after m.1 a) (saw limit j m.0, m.1)) in
      let raw : Raw (slice_index t'.words limit) (eqb (slice_index t'.words limit) k) = old count limit slots id k m p is idle small t' r1 deep at (subst (λ (q : ℕ). q < 18446744073709551616) (sym here) (omega (arith, small, tiny))) in
      let done : Raw k true = subst (λ (b : Bool). Raw k b) (eqb_self k) (subst (λ (j : ℕ). Raw j (eqb j k)) here raw) in
      let Out : List ℕ → Type 0 = λ ws. (r' : Batched count limit false (record { words = ws; homes = (stepped t' limit (k + 1) id m.1 done.0 done.1).homes; views = (stepped t' limit (k + 1) id m.1 done.0 done.1).views })) ×
      AreDeeds r.rules.world r.rules.books r.rules.routes (Beside (Passes skip) ∷ Beside (ClaimsWord p.node) ∷ []) r'.rules.world r'.rules.books r'.rules.routes × KeepsEnds true (passed_over r.rules.world skip) r'.rules.world in
      let out = subst Out (set_over t.words limit (r.rules.world.claimed + skip) (k + 1)) (
        done.3.0,
        passed_deeds2 ends passing strays count limit t r skip most (Beside (ClaimsWord p.node) ∷ []) done.3.0.rules.world done.3.0.rules.books done.3.0.rules.routes done.3.1.0,
        subst (λ (u : World). KeepsEnds true u done.3.0.rules.world) (passed_world2 ends passing strays count limit t r skip most) done.3.1.1,
      ) in (
        done.0,
        done.1,
        done.2,
        (
          out.0,
          (
            found,
            omega (arith, small),
            out.2,
            (λ side. opening_held count limit id m p k done.0 (ap (λ (q : BatchMine). q.0) done.4)
                (record { words = set t.words limit (k + 1); homes = (stepped t' limit (k + 1) id m.1 done.0 done.1).homes; views = (stepped t' limit (k + 1) id m.1 done.0 done.1).views }) out.0
                (set_here t.views id done.0 (at_inside t.views id m.0 at)) side),
            out.1,
          ),
        ),
        done.4,
      )
  by2 false e =
      let f = loads count limit slots id limit m p is t r deep at fits in
      (f.0, f.1, f.2, (f.3.0, (f.3.1, ((λ q side held. inl (subst (λ (u : World). IsEndHeld u q side) f.3.1.0 held)), (λ h q side held. subst (λ (u : World). IsEndHeld u q side) (sym f.3.1.0) held)))), f.4)

  pub claimed_beyond : Res2 (eqb n2 c)
  claimed_beyond = by2 (eqb n2 c) refl

-- what was nowhere stays so, and nobody has the numbers that were passed over
module _ (ends : EndLaws) (count limit k c skip node : ℕ) where
  abbrev g3 : Known (virtual count limit true)
  g3 = passing_keeping count limit c skip node

  was3 : (t : BatchSt) (r : Batched count limit false t) (t' : BatchSt) (r' : Batched count limit false t') → g3 t r t' r' → (i : ℕ) (s : Side) → IsEndHeld r'.rules.world i s → IsEndHeld r.rules.world i s ⊎ (c + skip ≤ i)
  was3 t r t' r' g i s held =
      ⊎_elim (λ h. inl (held_same r.rules.world (r.rules.world.claimed + skip) i s h)) (λ far. inr (let e = g.0 in let q = claimed_same r.rules.world (r.rules.world.claimed + skip) in omega (arith, far, e, q)))
      (g.2.0 i s held)

  pub passes_kept : Keeps (virtual count limit true) (sizes count limit k true) g3
  passes_kept t r t' r' g b i l gone held = ⊎_elim gone (λ far. let e = count_is count limit t r in let f = g.0 in omega (arith, e, f, far, l)) (was3 t r t' r' g i (side_of b) held)

  pub passes_skipped : Skips (virtual count limit true) (sizes count limit k true) g3 (c + skip)
  passes_skipped t r t' r' g b i far under held = ⊎_elim
      (λ h. let low = held_claimed ends r.rules.world r.rules.books r.rules.routes r.rules.lawful i (side_of b) h in let e = count_is count limit t r in omega (arith, e, low, far))
      (λ beyond. omega (arith, beyond, under))
      (was3 t r t' r' g i (side_of b) held)

  -- who is held stays so
  pub passes_loses : (id : ℕ) (v : View) → LosesNone (virtual count limit true) (sizes count limit k true) id v g3
  passes_loses id v again t r t' r' at g b i l gone held = gone (g.2.1 refl i (side_of b) (held_then r.rules.world (r.rules.world.claimed + skip) i (side_of b) held))

  -- and both ends of the number that is claimed are held
  pub passes_takes : (id : ℕ) (v : View) → Takes (virtual count limit true) id v g3 (c + skip)
  passes_takes id v t r t' r' at g b gone = gone (g.3 (side_of b))

pub claims_for_open_last : ClaimsForOpenLast
claims_for_open_last k dirty free looked one count limit slots id c skip m p is idle small tiny has =
    let x = virtual count limit true in
    let z = sizes count limit k true in
    let n : ℕ = c + skip in
    let g : Known x = passing_keeping count limit c skip p.node in
    let h : Known x = deeds_of count limit true limit (λ j. []) in
    let hit : BatchMine → Type 0 = λ m'. m' ≡ (with_part (claimed_part n p) (saw limit n m.0), m.1) in
    let miss : ℕ → BatchMine → Type 0 = λ j m'. m' ≡ (saw limit j m.0, m.1) in
    let P : ℕ → Type 0 = λ q. Steps x (λ t r t' r'. MatchBool (eqb (slice_index t.words limit) c) (g t r t' r') (h t r t' r')) slots id m q (λ j. either (eqb j c) (n + 1) j) (λ j m'. MatchBool (eqb j c) (hit m') (miss j m')) in
    let steps : P limit = λ t r deep at fits. claimed_beyond ends passing_keeps_lawful lawful_worlds_stray_nothing (batch_loads false) ((plain_deeds false).5) count limit slots id c skip m p is idle small t r deep at fits tiny in
    claims x z (laws_of ends count limit k true) (are_sizes count limit k one) g h slots id c n (own_of m.0 dirty free looked) m.1 hit miss
    (passes_kept ends count limit k c skip p.node) (passes_loses ends count limit k c skip p.node id m.0) (passes_skipped ends count limit k c skip p.node)
    (passes_takes ends count limit k c skip p.node id m.0) (ends_done count limit k limit true (λ j. [])) (ends_stay count limit k limit true (λ j. []) id m.0) (omega arith) small has (subst P (omega arith) steps)

-- where slots aren't used again it is the rule's own
pub claims_for_open_in_order : ClaimsForOpenInOrder
claims_for_open_in_order k dirty free looked count limit slots id c m p is idle few areas =
    let x = virtual count limit false in
    let z = sizes count limit k false in
    let told : ℕ → BatchMine → Type 0 = λ n m'. MatchBool (eqb n c) (m' ≡ (with_part (claimed_part c p) (saw limit n m.0), m.1)) (m' ≡ (saw limit n m.0, m.1)) in
    let deeds : ℕ → List Deed = λ n. deed_where (eqb n c) (Beside (ClaimsWord p.node)) in
    claims_in_order x z (laws_of ends count limit k false) areas (deeds_of count limit false limit deeds) slots id c (own_of m.0 dirty free looked) m.1 told
    (ends_done count limit k limit false deeds) refl few
    (subst (λ (q : ℕ). Steps x (deeds_of count limit false limit deeds) slots id m q (λ n. either (eqb n c) (c + 1) n) told) (omega arith)
    ((plain_deeds true).5 count limit slots id c m p is idle few))
