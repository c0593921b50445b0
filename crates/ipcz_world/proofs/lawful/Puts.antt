-- Parcels that are put into a quiet world: what each put makes of the rank and of what stays, and how many acts they take in all.
use Rattle.std.specs.Prelude.{◌≡◌, ◌≤◌, ◌<◌, ℕ, ◌+◌, ◌*◌, Bool, true, false, not, cond, ◌&&◌, ◌||◌, nat_eq, nat_lt, if◌then◌else◌, Option, Some, None}
use Rattle.std.specs.Prelude.{List, [], ◌∷◌, ◌++◌, length, slice_get, refl}
use Rattle.std.proofs.Common.{arith, ap, subst, ◌∙◌, sym, inl, inr}
use Rattle.std.proofs.lemmas.Bool.Decides.{nat_tests}
use Rattle.std.proofs.lemmas.Option.{same_Some, slice_get_within}
use Rattle.std.specs.FinMap.{get}
use Rattle.ipcz_world.proofs.Vocabulary.{End, Item, Refusal, has_end, ends_in, same_end, Router, Node, Found, Edge, terminal_of, with_router}
use Rattle.ipcz_world.proofs.Vocabulary.{is_terminal, World, Key, node_at, router_at, set_node, set_router, same_key, Books, read, opposite_end, At}
use Rattle.ipcz_world.proofs.Vocabulary.{unless, total, bare_node, router_in, Profile, Printed, Wide, Parcel, on_found, is_terminal_of, put_refusal}
use Rattle.ipcz_world.proofs.Vocabulary.{put_at_router, add_put, advance, Routes, routes_after, Step, Effect, Lawful, StepKeepsLawful, is_retired}
use Rattle.ipcz_world.proofs.Vocabulary.{Rates, worth, router_worth, rank}
use Rattle.ipcz_router.specs.Calls.{put_item}
use Rattle.ipcz_node.specs.Calls.{refusal_at, put_number}
use Rattle.ipcz_world.specs.declared.step.Step.TheVariants as steps
use Rattle.ipcz_world.specs.declared.step.Reply.TheVariants as replies
use Rattle.ipcz_world.specs.Steps.{put_step}
use Rattle.ipcz_world.specs.WorldLaws.{QuietHasNoProxy}
use Rattle.ipcz_world.specs.Ranks.{may_put, TurnsKeepRates}
use Rattle.ipcz_world.specs.SettleBounds.{CarryNone, is_over, plain_rates}
use Rattle.ipcz_world.specs.PutBounds.{stays, pending_closes, PlainPut, plain_parcel, after_put, IsTakenPut, ArePuts, ends_beside}
use Rattle.ipcz_world.specs.PutBounds.{proxy_share, proxy_shares, PutsAreBounded, DirectPutsAreBounded}
use Rattle.ipcz_world.proofs.facts.Finding.{found_tells}
use Rattle.ipcz_world.proofs.facts.LinkTests.{same_end-tells}
use Rattle.ipcz_world.proofs.facts.Tests.{and_first, and_second, nat_eq-is}
use Rattle.ipcz_world.proofs.lawful.RouterWorths.{worth-most}
use Rattle.ipcz_world.proofs.frames.Flowing.{slice_get-last}
use Rattle.ipcz_world.proofs.frames.Frames.{same_key-itself, router-set_router}
use Rattle.ipcz_world.proofs.lawful.RouterStays.{less-put}
use Rattle.ipcz_world.proofs.lawful.NodeWorths.{node-with}
use Rattle.ipcz_world.proofs.lawful.NodeStays.{stays-with}
use Rattle.ipcz_world.proofs.lawful.WorldRanks.{rank-set_node}
use Rattle.ipcz_world.proofs.lawful.Staying.{stays-set_node, pending-set_node, nothing-behind, turns-paid}
use Rattle.ipcz_world.proofs.lawful.Settling.{plain_are_rated}
use Rattle.ipcz_world.proofs.lawful.QuietRanks.{quiet-rank, quiet-pending, quiet-stir, quiet-dull, puts-dull, placed, list-none}
use Rattle.ipcz_world.proofs.lawful.Quiet.{total-zero}
use Rattle.ipcz_world.proofs.lawful.CalmRouters.{calm-put, keeps-terminal}
use Rattle.ipcz_world.proofs.lawful.CalmNodes.{passes-with}
use Rattle.ipcz_world.proofs.lawful.CalmWorlds.{PassesOn, IsRoomy, by-node, turns-pass, keeps-within}

-- a put that isn't refused has found its terminal
unrefused : (c : Bool) (why : Refusal) (o : Option Refusal) → (if c then Some why else o) ≡ None → o ≡ None
unrefused true why o h = cc
unrefused false why o h = h

put-found : (profile : Profile) (n : Node) (at : End) (bytes : List ℕ) → put_refusal profile n at bytes [] ≡ None → (f : Found) × (terminal_of n at ≡ Some f)
unfolding put_refusal refusal_at
put-found profile n at bytes fine = go (terminal_of n at) refl
  where
    go : (o : Option Found) → terminal_of n at ≡ o → (f : Found) × (terminal_of n at ≡ Some f)
    go (Some f) e = (f, e)
    go None e = absurd (grind (arith, fine, e))

-- a put flags its terminal, and no more
put-worth : (c : Rates) (r : Router) (item : Item) → is_terminal r ≡ true → r.closed ≡ false →
    router_worth c (put_item r item) ≤ router_worth c r + worth 1 (not r.flagged)
unfolding router_worth
put-worth c r item t open_ = go r.inward refl r.flagged refl
  where
    and-false : (a : Bool) → (a && false) ≡ false
    and-false true = refl
    and-false false = refl

    same : worth 1 (not (r.tried && false)) ≡ 1
    same = ap (λ a. worth 1 (not a)) (and-false r.tried)

    go : (o : Option Edge) → r.inward ≡ o → (f : Bool) → r.flagged ≡ f → router_worth c (put_item r item) ≤ router_worth c r + worth 1 (not r.flagged)
    go (Some x) e f q = absurd (grind (arith, e, t))
    go None e true q = rw (e, q, open_) (omega (arith, same))
    go None e false q = rw (e, q, open_) (omega (arith, same))

-- if a put is taken: the terminal, and what the world becomes
record IsPutAt (w : World) (p : PlainPut) : Type 0 where
  serial : ℕ
  router : Router
  here : get (node_at w p.node).routers serial ≡ Some router
  end : router.end ≡ p.at
  terminal : is_terminal router ≡ true
  unclosed : router.closed ≡ false
  after : after_put w p ≡ set_router w (record { node = p.node; serial = serial }) (put_item router (Parcel (plain_parcel p)))

put-at : (w : World) (p : PlainPut) → IsTakenPut w p → IsPutAt w p
unfolding on_found
put-at w p is =
    let f = put-found p.profile (node_at w p.node) p.at p.bytes is.fine in
    let t = found_tells (node_at w p.node) (is_terminal_of p.at) f.0 f.1 in record {
      serial = f.0.serial;
      router = f.0.router;
      here = t.0;
      end = same_end-tells f.0.router.end p.at (and_second _ _ t.1);
      terminal = and_first _ _ (and_first _ _ t.1);
      unclosed = unclosed f.0.router.closed (and_second _ _ (and_first _ _ t.1));
      after = ap (λ o. set_node w p.node (on_found (node_at w p.node) o (put_at_router (node_at w p.node) (plain_parcel p)))) f.1;
    }
  where
    unclosed : (a : Bool) → not a ≡ true → a ≡ false
    unclosed true h = cc
    unclosed false h = refl

-- the terminals of these ends are flagged
abbrev AreRoused : World → List End → Type 0
AreRoused w known = (k : Key) (r : Router) → router_at w k ≡ Some r → is_terminal r ≡ true → has_end r.end known ≡ true → r.flagged ≡ true

-- a put keeps the world lawful
put-keeps : StepKeepsLawful → (w : World) (b : Books) (g : Routes) (p : PlainPut) → Lawful w b g → IsTakenPut w p →
    Lawful (after_put w p) (add_put b p.at (Parcel (plain_parcel p))) g
unfolding advance routes_after unless
put-keeps keeps w b g p law is = go p.profile is.fine
  where
    it : Profile → Effect
    it profile = put_step profile w p.node p.at (plain_parcel p)

    done : (profile : Profile) → put_refusal profile (node_at w p.node) p.at p.bytes [] ≡ None →
        it profile ≡ record { reply = replies.Put (put_number (node_at w p.node) p.at); world = after_put w p }
    done profile fine = let l : nat_lt p.node w.count ≡ true = grind (arith, nat_tests, is.node) in rw (l, fine) refl

    kept : (step : Step) → Effect → Type 0
    kept step e = Lawful e.world (advance w b step e.reply) (routes_after w g step e.reply)

    go : (profile : Profile) → put_refusal profile (node_at w p.node) p.at p.bytes [] ≡ None →
        Lawful (after_put w p) (add_put b p.at (Parcel (plain_parcel p))) g
    go Printed fine = let step = steps.Put p.node p.at p.bytes [] in
        subst (kept step) (done Printed fine) (keeps w (it Printed).world b g step (it Printed).reply law (inl (refl, refl)))
    go Wide fine = let step = steps.PutWide p.node p.at p.bytes [] in
        subst (kept step) (done Wide fine) (keeps w (it Wide).world b g step (it Wide).reply law (inl (refl, refl)))

-- what one put makes of rank and of what stays
record Raises (c : Rates) (marks : End → ℕ) (w v : World) (k : ℕ) : Type 0 where
  rank : rank c v + stays c w ≤ rank c w + stays c v + (6 + k)
  pending : pending_closes v ≡ pending_closes w
  passes : PassesOn c marks w v

module _ (c : Rates) (marks : End → ℕ) (six : (pair : ℕ) → c.price pair ≡ 6) (w : World) (b : Books) (g : Routes) (law : Lawful w b g) (p : PlainPut) (is : IsTakenPut w p) where
  abbrev it : IsPutAt w p
  it = put-at w p is

  abbrev item : Item
  item = Parcel (plain_parcel p)

  abbrev key : Key
  key = record { node = p.node; serial = it.serial }

  raised : (k : ℕ) → worth 1 (not it.router.flagged) ≤ k → Raises c marks w (after_put w p) k
  raised k h =
      let x : Node = node_at w p.node in
      let y : Router = put_item it.router item in
      let z : Node = with_router x it.serial y in record {
        rank = omega (
          arith,
          ap (rank c) it.after,
          ap (stays c) it.after,
          rank-set_node c w p.node z,
          stays-set_node c w p.node z,
          node-with c x it.serial y it.router it.here,
          stays-with c x it.serial y it.router it.here,
          put-worth c it.router item it.terminal it.unclosed,
          less-put c it.router y item (six it.router.end.pair)
              (nothing-behind w b g law p.node it.serial it.router is.node it.here it.terminal) refl refl refl refl,
          h,
        );
        pending = ap pending_closes it.after ∙ omega (arith, pending-set_node w p.node z);
        passes = subst (PassesOn c marks w) (sym it.after) (by-node c marks w p.node z (passes-with c marks x it.serial y it.router it.here
            (calm-put it.router item)
            (omega (
              arith,
              keeps-terminal c marks it.router it.terminal,
              keeps-terminal c marks y it.terminal,
              worth-most 1 (not (it.router.tried && it.router.closed)),
            ))));
      }

  stands : router_at w key ≡ Some it.router
  unfolding router_at
  stands = it.here

  -- its terminal is flagged after it, and those that were are
  roused : (known : List End) → AreRoused w known → AreRoused (after_put w p) (p.at ∷ known)
  roused known old k r here t has = go (same_key k key) refl
    where
      now : router_at (after_put w p) k ≡ cond (same_key k key) (Some (put_item it.router item)) (router_at w k)
      now = ap (λ v. router_at v k) it.after ∙ router-set_router w key (put_item it.router item) k

      other : same_key k key ≡ false → router_at w k ≡ Some r
      other e = sym (ap (λ q. cond q (Some (put_item it.router item)) (router_at w k)) e) ∙ sym now ∙ here

      go : (q : Bool) → same_key k key ≡ q → r.flagged ≡ true
      go true e =
          let mine : Some (put_item it.router item) ≡ Some r = sym (ap (λ q. cond q (Some (put_item it.router item)) (router_at w k)) e) ∙ sym now ∙ here in
          ap (λ (x : Router). x.flagged) (sym (same_Some (put_item it.router item) r mine))
      go false e = by (same_end p.at r.end) refl
        where
          by : (q : Bool) → same_end p.at r.end ≡ q → r.flagged ≡ true
          by false f = old k r (other e) t (sym (ap (λ q. q || has_end r.end known) f) ∙ has)
          by true f =
              let ends : it.router.end ≡ r.end = it.end ∙ same_end-tells p.at r.end f in
              let keys : At k ≡ At key = sym ((law.inv.terminals.each k r (other e)).terminal t) ∙ ap law.records.terminal (sym ends) ∙
              (law.inv.terminals.each key it.router stands).terminal it.terminal in
              let same : k ≡ key = at-same keys in
              let yes : same_key k key ≡ true = ap (λ q. same_key q key) same ∙ same_key-itself key in
              absurd (let odd : true ≡ false = sym yes ∙ e in cc)
            where
              at-same : {j k : Key} → At j ≡ At k → j ≡ k
              at-same h = cc

  still-roused : (known : List End) → has_end p.at known ≡ true → AreRoused w known → AreRoused (after_put w p) known
  still-roused known has old k r here t in_known = roused known old k r here t (behind (same_end p.at r.end) in_known)
    where
      behind : (q : Bool) {x : Bool} → x ≡ true → (q || x) ≡ true
      behind true h = refl
      behind false h = h

  -- so if its end is known, it raises nothing
  flagged-known : (known : List End) → has_end p.at known ≡ true → AreRoused w known → worth 1 (not it.router.flagged) ≤ 0
  flagged-known known has old =
      let up : it.router.flagged ≡ true = old key it.router stands it.terminal (ap (λ e. has_end e known) it.end ∙ has) in
      rw up (omega arith)

  one-most : worth 1 (not it.router.flagged) ≤ 1
  one-most = go (not it.router.flagged)
    where
      go : (t : Bool) → worth 1 t ≤ 1
      go true = omega arith
      go false = omega arith

-- what puts make of them
record HavePut (c : Rates) (marks : End → ℕ) (w u : World) (d : Books) (g : Routes) (k : ℕ) : Type 0 where
  lawful : Lawful u d g
  raised : rank c u + stays c w ≤ rank c w + stays c u + k
  pending : pending_closes u ≡ pending_closes w
  passes : PassesOn c marks w u

puts-raise : StepKeepsLawful → (c : Rates) (marks : End → ℕ) → ((pair : ℕ) → c.price pair ≡ 6) → (w u : World) (b d : Books) (g : Routes) (known : List End)
    (ps : List PlainPut) → Lawful w b g → AreRoused w known → ArePuts w b ps u d → HavePut c marks w u d g (6 * length ps + ends_beside known ps)
puts-raise keeps c marks six w u b d g known [] law roused_before run = record {
  lawful = subst (λ x. Lawful x d g) (sym run.0) (subst (λ x. Lawful w x g) (sym run.1) law);
  raised = omega (arith, ap (rank c) run.0, ap (stays c) run.0);
  pending = ap pending_closes run.0;
  passes = subst (PassesOn c marks w) (sym run.0) (record { stir = omega arith; keeps = omega arith });
}
puts-raise keeps c marks six w u b d g known (p ∷ ps) law roused_before run = go (has_end p.at known) refl
    (λ ends up. puts-raise keeps c marks six (after_put w p) u (add_put b p.at (Parcel (plain_parcel p))) d g ends ps
    (put-keeps keeps w b g p law run.0) up run.1)
  where
    go : (t : Bool) → has_end p.at known ≡ t →
        ((ends : List End) → AreRoused (after_put w p) ends → HavePut c marks (after_put w p) u d g (6 * length ps + ends_beside ends ps)) →
        HavePut c marks w u d g (6 * length (p ∷ ps) + cond (has_end p.at known) (ends_beside known ps) (1 + ends_beside (p.at ∷ known) ps))
    go true e more =
        let one = raised c marks six w b g law p run.0 0 (flagged-known c marks six w b g law p run.0 known e roused_before) in
        let rest = more known (still-roused c marks six w b g law p run.0 known e roused_before) in
        rw e record {
          lawful = rest.lawful;
          raised = omega (arith, one.rank, rest.raised);
          pending = rest.pending ∙ one.pending;
          passes = record { stir = omega (arith, one.passes.stir, rest.passes.stir); keeps = omega (arith, one.passes.keeps, rest.passes.keeps) };
        }
    go false e more =
        let one = raised c marks six w b g law p run.0 1 (one-most c marks six w b g law p run.0) in
        let rest = more (p.at ∷ known) (roused c marks six w b g law p run.0 known roused_before) in
        rw e record {
          lawful = rest.lawful;
          raised = omega (arith, one.rank, rest.raised);
          pending = rest.pending ∙ one.pending;
          passes = record { stir = omega (arith, one.passes.stir, rest.passes.stir); keeps = omega (arith, one.passes.keeps, rest.passes.keeps) };
        }

-- parcels without ends leave the books without items that carry ends
put-carries : (b : Books) (p : PlainPut) → CarryNone b → CarryNone (add_put b p.at (Parcel (plain_parcel p)))
put-carries b p none e n item l at = go (same_end e p.at) refl at
  where
    go : (t : Bool) → same_end e p.at ≡ t → slice_get (cond t (b.put p.at ++ Parcel (plain_parcel p) ∷ []) (b.put e)) n ≡ Some item → ends_in item ≡ []
    go false q h = none e n item l h
    go true q h = let is : e ≡ p.at = same_end-tells e p.at q in
        elim (slice_get-last (b.put p.at) (Parcel (plain_parcel p)) item n h) [
          | inl k ↦ none e n item l (ap (λ x. slice_get (b.put x) n) is ∙ k)
          | inr k ↦ ap ends_in k.1
        ]

puts-carry : (w u : World) (b d : Books) (ps : List PlainPut) → CarryNone b → ArePuts w b ps u d → CarryNone d
puts-carry w u b d [] none run = subst CarryNone (sym run.1) none
puts-carry w u b d (p ∷ ps) none run =
    puts-carry (after_put w p) u (add_put b p.at (Parcel (plain_parcel p))) d ps (put-carries b p none) run.1

-- the plain rates leave room for marks and Gones, and no more
plain-room : (b : Books) → IsRoomy (plain_rates b) (may_put b) b
plain-room b e n x unread put = go (is_over b e) refl
  where
    go : (t : Bool) → is_over b e ≡ t → n + 1 + may_put b e ≤ cond t 0 (length (b.put e) + may_put b e)
    go false q = omega (arith, slice_get_within (b.put e) n x put)
    go true q = absurd (omega (
      arith,
      unread,
      slice_get_within (b.put e) n x put,
      nat_eq-is (read b (opposite_end e)) (length (b.put e))
          (and_second (is_retired b e || is_retired b (opposite_end e)) (nat_eq (read b (opposite_end e)) (length (b.put e))) q),
    ))

plain-caps : (b : Books) (e : End) → (plain_rates b).cap e ≤ length (b.put e) + may_put b e
plain-caps b e = go (is_over b e)
  where
    go : (t : Bool) → cond t 0 (length (b.put e) + may_put b e) ≤ length (b.put e) + may_put b e
    go true = omega arith
    go false = omega arith

pub puts_are_bounded : StepKeepsLawful → TurnsKeepRates → PutsAreBounded
puts_are_bounded keeps rates w u v b d e g h ps turns law none quiet puts run =
    let c : Rates = plain_rates d in
    let marks : End → ℕ = λ x. may_put d x in
    let six : (pair : ℕ) → c.price pair ≡ 6 = λ pair. refl in
    let nobody : AreRoused w [] = λ k r here t has. cc in
    let rated = plain_are_rated d (puts-carry w u b d ps none puts) in
    let put = puts-raise keeps c marks six w u b d g [] ps law nobody puts in
    let passed = turns-pass keeps rates u v d e g h c marks turns put.lawful rated six (plain-room d)
    (puts-dull w u b d ps (quiet-dull w b g law quiet) puts) (omega (arith, put.passes.stir, quiet-stir w b g law quiet)) run in
    omega (
      arith,
      turns-paid keeps rates u v d e g h c turns put.lawful rated six run,
      keeps-within c marks v six,
      quiet-rank w b g law quiet u d ps puts c six marks (plain-caps d),
      quiet-pending w b g law quiet,
      put.pending,
      put.raised,
      put.passes.keeps,
      passed.keeps,
      passed.unlocks,
      passed.retires,
    )

-- if no proxy stands, there are no shares
no-shares : (ps : List PlainPut) (w : World) → ((n s : ℕ) (r : Router) → n < w.count → router_in (node_at w n) s ≡ Some r → is_terminal r ≡ true) →
    length w.nodes ≡ w.count → proxy_shares ps w ≡ 0
unfolding proxy_shares node_at proxy_share
no-shares ps w terminals long = list-none (λ n. total (λ serial r. proxy_share ps r) n.routers) w.nodes (λ i n at.
    let is : node_at w i ≡ n = placed (bare_node 0 0) w.nodes i n at in
    let l : i < w.count = omega (arith, slice_get_within w.nodes i n at, long) in
    total-zero (λ serial r. proxy_share ps r) n.routers (λ s r here. share r (terminals i s r l (ap (λ (x : Node). get x.routers s) is ∙ here))))
  where
    share : (r : Router) → is_terminal r ≡ true → proxy_share ps r ≡ 0
    share r t = go r.inward refl
      where
        go : (o : Option Edge) → r.inward ≡ o → proxy_share ps r ≡ 0
        go None e = rw e refl
        go (Some x) e = absurd (grind (arith, e, t))

pub direct_puts_are_bounded : StepKeepsLawful → TurnsKeepRates → QuietHasNoProxy → DirectPutsAreBounded
unfolding router_at
direct_puts_are_bounded keeps rates proxies w u v b d e g h ps turns law none quiet wet puts run = omega (
  arith,
  puts_are_bounded keeps rates w u v b d e g h ps turns law none quiet puts run,
  no-shares ps w (λ n s r l here. proxies w b g law quiet wet (record { node = n; serial = s }) r here) law.bounded.nodes,
)
