-- A proxy begins: its message is the one of the first stage, and the messages of the other bypasses are as they were.
use Rattle.ipcz_world.proofs.Vocabulary.{Side, A, B, LinkId, Central, LinkEnd, Descriptor, Message, opposite, same_link, Router, World, Key, flow}
use Rattle.ipcz_world.proofs.Vocabulary.{Books, Records, Terminal, terminal_descriptor, At, inner_link, bypass_of, side_router, side_node, proxy_side}
use Rattle.ipcz_world.proofs.Vocabulary.{across_side, IsUnderWay, is_made_before, under_way, of_end, moves_of, total_list, Controls, inner_of, of_bypass}
use Rattle.ipcz_world.proofs.Vocabulary.{control_weight, moving_link, Inv, Retired, Nowhere, Moving, key_at, is_made_by, move_weight}
use Rattle.std.specs.Prelude.{◌≡◌, ◌≤◌, ℕ, ◌+◌, Bool, true, false, cond, nat_eq, Option, Some, None, is_some, slice_get, refl}
use Rattle.std.proofs.Common.{arith, sym, ◌∙◌, ap, subst, inl, inr}
use Rattle.std.proofs.lemmas.Bool.Decides.{nat_tests}
use Rattle.std.proofs.lemmas.Option.{same_Some, none-some}
use Rattle.ipcz_base.specs.declared.message.Message.TheVariants as messages
use Rattle.ipcz_world.specs.Records.{Bypass}
use Rattle.ipcz_world.proofs.frames.RecordRules.{side_router-inner, side_router-proxy, side_node-proxy}
use Rattle.ipcz_world.proofs.facts.RecordsAfter.{begin_records}
use Rattle.ipcz_world.proofs.frames.Flowing.{total_list-found, IsLast, under_way-pushed, found, made_within, made_last, under_way-congr}
use Rattle.ipcz_world.proofs.acts.Beginning.{Begins}
use Rattle.ipcz_world.proofs.acts.BegunRecords.{router-begun, node-begun, begun-here, begun-else, side-begun}
use Rattle.ipcz_world.proofs.acts.BegunWorld.{Sends}
use Rattle.ipcz_world.proofs.acts.BegunAround.{IsBegunFrom, still-by, side-here}
use Rattle.ipcz_world.proofs.acts.BegunNumbers.{of_link, carries, begin_message, rec, came}
use Rattle.ipcz_world.proofs.facts.Lengths.{same_link-itself}

module _ {w v : World} {b : Books} {g : Records} {k : Key} {r y : Router} {p : Key} {into out : LinkEnd} {o fresh : ℕ} (law : Inv w b g)
    (is : Begins w g k r p into out o fresh) (c : Sends w v k y into.other (begin_message into out o fresh))
    (new : IsBegunFrom r y into out) where
  -- the records after the begin
  abbrev after : Records
  after = begin_records g k o fresh p

  -- a flush or an end's message is no begin
  pub controls-begun : Controls v after
  unfolding of_bypass control_weight terminal_descriptor move_weight
  controls-begun = record {
    control = λ j f. under_way-pushed (λ from to. of_bypass after j (f from to)) w v k.node into.other (begin_message into out o fresh)
        c.pushed ∙ control j f (nat_eq j o) refl;
    will_stop = λ from to i l s n u. elim (came law is c new from to i _ u) [
      | inl e ↦ let t = law.controls.will_stop from to e.at l s n e.was in
          ap is_some (still-by law is c new l t) ∙ t
      | inr e ↦
          absurd (grind (arith, e.message))
    ];
    behind = λ from to i l s old target n u f. elim (came law is c new from to i _ u) [
      | inl e ↦ e.made l s (law.controls.behind from to e.at l s old target n e.was (sym (router-begun g k o fresh p l s) ∙ f))
      | inr e ↦ last from to i l s old target n e (sym (router-begun g k o fresh p l s) ∙ f)
    ];
    flush_central = λ from to i l s u. elim (came law is c new from to i _ u) [
      | inl e ↦ law.controls.flush_central from to e.at l s e.was
      | inr e ↦ absurd
          (grind (arith, e.message))
    ];
    flush_recorded = λ from to i l s u. elim (came law is c new from to i _ u)
        [ inl e ↦ rec law is c new l ∙ law.controls.flush_recorded from to e.at l s e.was | inr e ↦ absurd (grind (arith, e.message)) ];
    flush_to = λ from to i l s u. elim (came law is c new from to i _ u) [
      | inl e ↦ law.controls.flush_to from to e.at l s e.was ∙ sym
          (node-begun g k o fresh p l s)
      | inr e ↦ absurd (grind (arith, e.message))
    ];
    flush_from = λ from to i l s u. elim (came law is c new from to i _ u) [
      | inl e ↦ law.controls.flush_from from to e.at l s e.was ∙ sym
          (node-begun g k o fresh p l (opposite s))
      | inr e ↦ absurd (grind (arith, e.message))
    ];
  }
    where
      -- what is under way is of_bypass a bypass as before
      about-same : (j : ℕ) (f : Message → ℕ) (m : Message) → ((l : LinkId) (t : Side) (n : ℕ) → m ≡ messages.ProxyWillStop l t n →
          is_some (bypass_of g l) ≡ true) → of_bypass after j f m ≡ of_bypass g j f m
      about-same j f (messages.Item l t n item moves) a = refl
      about-same j f (messages.BypassPeer l t old target n) a = refl
      about-same j f (messages.AcceptBypass old t n d) a = refl
      about-same j f (messages.StopProxying t old n d) a = refl
      about-same j f (messages.ProxyWillStop l t n) a = grind (
        arith,
        still-by law is c new l (a l t n refl),
      )
      about-same j f (messages.Flush l t) a = refl

      under-same : (j : ℕ) (f : ℕ → ℕ → Message → ℕ) → under_way (λ from to. of_bypass after j (f from to)) w ≡ control_weight g f j
      under-same j f = under_way-congr _ _ w (λ from to i m u. about-same j (f from to) m
          (λ l t n e. law.controls.will_stop from to i l t n (subst (IsUnderWay w from to i) e u))) ∙ law.controls.control j f

      -- what is control_weight, from what a record says
      awaits : (ℕ → ℕ → Message → ℕ) → ℕ → Bypass → ℕ → ℕ → Side → ℕ
      awaits f j x inner across side =
          cond (nat_eq x.stage 1) (f x.proxy.node inner (messages.BypassPeer (inner_link x.inner) B j across x.fresh))
          (cond (nat_eq x.stage 2) (f inner across (messages.AcceptBypass j (opposite side) x.fresh x.taken_at))
          (cond (nat_eq x.stage 3) (f across x.proxy.node (messages.StopProxying side j x.accepted_at x.taken_at))
          (cond (nat_eq x.stage 4) (f x.proxy.node inner (messages.ProxyWillStop (inner_link x.inner) B x.accepted_at)) 0)))

      inner-node : (j : ℕ) (x : Bypass) → after.bypass j ≡ x → side_node after (inner_of after j) B ≡ side_node g (inner_link x.inner) B
      inner-node j x e = node-begun g k o fresh p _ B ∙ ap (λ t. side_node g (inner_link t.inner) B) e

      across-node : (j : ℕ) (t : Side) → proxy_side after j ≡ t →
          side_node after (Central j) (across_side after j) ≡ side_node g (Central j) (opposite t)
      across-node j t e = node-begun g k o fresh p (Central j) _ ∙ ap (λ u. side_node g (Central j) (opposite u)) e

      expects : (j : ℕ) (f : ℕ → ℕ → Message → ℕ) (x : Bypass) (t : Side) → after.bypass j ≡ x → proxy_side after j ≡ t →
          control_weight after f j ≡ awaits f j x (side_node g (inner_link x.inner) B) (side_node g (Central j) (opposite t)) t
      expects j f x t e a =
          ap (λ n. awaits f j (after.bypass j) n (side_node after (Central j) (across_side after j)) (proxy_side after j))
          (inner-node j x e)
          ∙ ap (λ n. awaits f j (after.bypass j) (side_node g (inner_link x.inner) B) n (proxy_side after j)) (across-node j t a)
          ∙ ap (λ z. awaits f j z (side_node g (inner_link x.inner) B) (side_node g (Central j) (opposite t)) (proxy_side after j)) e
          ∙ ap (λ z. awaits f j x (side_node g (inner_link x.inner) B) (side_node g (Central j) (opposite t)) z) a

      no-stage : (g.bypass o).stage ≡ 0
      no-stage = grind (arith, is.live, nat_tests)

      nothing-yet : (f : ℕ → ℕ → Message → ℕ) → control_weight g f o ≡ 0
      nothing-yet f = grind (arith, no-stage)

      sent : begin_message into out o fresh ≡ messages.BypassPeer (inner_link p) B o (side_node g (Central o) (opposite r.end.side)) fresh
      sent = ap (λ l. messages.BypassPeer l (opposite into.side) o out.other fresh) is.inner_at ∙ ap
          (λ t. messages.BypassPeer (inner_link p) (opposite t) o out.other fresh) is.inner_side ∙ ap
          (λ n. messages.BypassPeer (inner_link p) B o n fresh) is.outer_other

      control : (j : ℕ) (f : ℕ → ℕ → Message → ℕ) (t : Bool) → nat_eq j o ≡ t →
          under_way (λ from to. of_bypass after j (f from to)) w + of_bypass after j (f k.node into.other) (begin_message into out o fresh)
          ≡ control_weight after f j
      control j f false e =
          let z : nat_eq o j ≡ false = grind (arith, e, nat_tests) in
          let n : of_bypass after j (f k.node into.other) (begin_message into out o fresh) ≡ 0 =
          ap (λ t. cond t (f k.node into.other (begin_message into out o fresh)) 0) z in
          let x : control_weight after f j ≡ control_weight g f j =
          expects j f (g.bypass j) (proxy_side g j) (begun-else g k o fresh p j e) (side-begun g k o fresh p j e) in
          omega (arith, under-same j f, n, x)
      control j f true e = let z : j ≡ o = grind (arith, e, nat_tests) in
          subst (λ i. under_way (λ from to. of_bypass after i (f from to)) w + of_bypass after i (f k.node into.other)
          (begin_message into out o fresh) ≡ control_weight after f i) (sym z) here
        where
          here : under_way (λ from to. of_bypass after o (f from to)) w + of_bypass after o (f k.node into.other)
              (begin_message into out o fresh) ≡ control_weight after f o
          here =
              let n : nat_eq o o ≡ true = grind (arith, nat_tests) in
              let d : of_bypass after o (f k.node into.other) (begin_message into out o fresh) ≡ f k.node into.other
              (begin_message into out o fresh) = ap (λ t. cond t (f k.node into.other (begin_message into out o fresh)) 0) n in
              let x : control_weight after f o ≡ f k.node (side_node g (inner_link p) B)
              (messages.BypassPeer (inner_link p) B o (side_node g (Central o) (opposite r.end.side)) fresh)
              = expects o f _ r.end.side (begun-here g k o fresh p)
              (side-here law is c new) in
              let y : f k.node into.other (begin_message into out o fresh) ≡ f k.node (side_node g (inner_link p) B)
              (messages.BypassPeer (inner_link p) B o (side_node g (Central o) (opposite r.end.side)) fresh)
              = ap (λ z. f k.node z (begin_message into out o fresh)) is.inner_other ∙ ap (f k.node (side_node g (inner_link p) B)) sent in
              omega (arith, under-same o f, nothing-yet f, d, x, y)

      last : (from to i : ℕ) (l : LinkId) (s : Side) (old target n : ℕ) →
          IsLast w k.node into.other (begin_message into out o fresh) from to i (messages.BypassPeer l s old target n) →
          side_router g l s ≡ None → is_made_before v from to i l s ≡ true
      last from to i l s old target n e f =
          let same : messages.BypassPeer l s old target n ≡ messages.BypassPeer (inner_link p) B o
          (side_node g (Central o) (opposite r.end.side)) fresh = e.message ∙ sent in
          let a : l ≡ inner_link p = cc in let d : s ≡ B = cc in
          let known : side_router g (inner_link p) B ≡ None = ap (λ t. side_router g t B) (sym a) ∙ ap (side_router g l) (sym d) ∙ f in
          grind (
            arith,
            e.sender,
            e.receiver,
            e.at,
            a,
            d,
            made_last w v k.node into.other (begin_message into out o fresh) c.pushed
                (inner_link p) B (making known),
          )
        where
          making : side_router g (inner_link p) B ≡ None → is_made_by (inner_link p) B (flow w k.node into.other) ≡ true
          making known = descriptor (g.terminal (g.peripheral p).end) refl
            where
              none : (g.peripheral p).router ≡ None
              none = nobody (g.peripheral p).router (sym (side_router-inner g p) ∙ known)
                where
                  nobody : (q : Option ℕ) → key_at (g.peripheral p).node q ≡ None → q ≡ None
                  nobody None a = refl
                  nobody (Some x) a = absurd (none-some _ (sym a))

              moving : moving_link (g.terminal (g.peripheral p).end) ≡ Some (inner_link p)
              moving = law.moves.moving p is.inner_recorded none

              weigh : Descriptor → ℕ
              weigh d = cond (same_link d.link (inner_link p)) 1 0

              descriptor : (t : Terminal) → g.terminal (g.peripheral p).end ≡ t →
                  is_made_by (inner_link p) B (flow w k.node into.other) ≡ true
              descriptor Nowhere e = absurd (none-some (inner_link p) (ap moving_link (sym e) ∙ moving))
              descriptor Retired e = absurd (none-some (inner_link p) (ap moving_link (sym e) ∙ moving))
              descriptor (At q) e = absurd (none-some (inner_link p) (ap moving_link (sym e) ∙ moving))
              descriptor (Moving d) e = carried (found (λ from to m. total_list (of_end (g.peripheral p).end weigh) (moves_of m)) w
                  (omega (arith, law.moves.one (g.peripheral p).end weigh, ap (move_weight weigh) e, weighs)))
                where
                  weighs : weigh d ≡ 1
                  weighs = let l : d.link ≡ inner_link p = same_Some d.link (inner_link p) (ap moving_link (sym e) ∙ moving) in
                      ap (λ t. cond t 1 0) (ap (λ t. same_link t (inner_link p)) l ∙ same_link-itself (inner_link p))

                  carried : (from : ℕ) × (to : ℕ) × (i : ℕ) × (m : Message) × IsUnderWay w from to i m ×
                      (1 ≤ total_list (of_end (g.peripheral p).end weigh) (moves_of m)) →
                      is_made_by (inner_link p) B (flow w k.node into.other) ≡ true
                  carried x = at (total_list-found (of_end (g.peripheral p).end weigh) (moves_of x.3) x.5)
                    where
                      at : (j : ℕ) × (d : Descriptor) × (slice_get (moves_of x.3) j ≡ Some d) × (1 ≤ of_end (g.peripheral p).end weigh d) →
                          is_made_by (inner_link p) B (flow w k.node into.other) ≡ true
                      at y =
                          let l : y.1.link ≡ inner_link p = of_link (g.peripheral p).end (inner_link p) y.1 y.3 in
                          let a : x.0 ≡ k.node = sym (law.moves.sender x.0 x.1 x.2 y.0 x.3 y.1 x.4 y.2) ∙ ap (λ t. side_node g t A) l ∙
                          side_node-proxy g p ∙ ap (λ q. q.node) (same_Some _ k (sym (side_router-proxy g p) ∙ is.inner_known)) in
                          let t : x.1 ≡ into.other = sym (law.moves.receiver x.0 x.1 x.2 y.0 x.3 y.1 x.4 y.2) ∙ ap (λ t. side_node g t B) l
                          ∙ sym is.inner_other in
                          subst (λ n. is_made_by (inner_link p) B (flow w k.node n) ≡ true) t
                          (subst (λ n. is_made_by (inner_link p) B (flow w n x.1) ≡ true) a
                          (made_within (inner_link p) B (flow w x.0 x.1) x.2 x.3 x.4.place (carries (inner_link p) x.3 y.0 y.1 y.2 l)))
