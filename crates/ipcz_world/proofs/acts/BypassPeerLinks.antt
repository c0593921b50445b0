-- The router inward takes the fresh link: each link is as its record says, and primary or decaying as its bypass says.
use Rattle.ipcz_world.proofs.Vocabulary.{HasShape, Side, B, LinkId, LinkEnd, Message, opposite, Router, World, Key, Books, Records}
use Rattle.ipcz_world.proofs.Vocabulary.{inner_link, known_from, Shape, is_outward, inner_of, bypass_peer, A, Central, Peripheral}
use Rattle.ipcz_world.proofs.Vocabulary.{bypass_of, proxy_side, side_router, inward_edge, fresh_of, is_proxy, is_recorded}
use Rattle.ipcz_world.proofs.frames.EachKept.{each-one}
use Rattle.std.specs.Prelude.{◌≡◌, ℕ, true, false, nat_eq, Some, ◌≢◌, ◌⊎◌, ◌≤◌, refl}
use Rattle.std.proofs.Common.{arith, ap, ◌∙◌, sym, inl, inr}
use Rattle.std.proofs.lemmas.Option.{same_Some, none-some}
use Rattle.ipcz_base.specs.declared.message.Message.TheVariants as messages
use Rattle.ipcz_world.proofs.facts.RecordsAfter.{taken_records}
use Rattle.ipcz_world.proofs.frames.Handing.{handed_on}
use Rattle.ipcz_world.proofs.facts.Lengths.{same_side-tells, known_from-no}
use Rattle.ipcz_world.proofs.frames.Sealing.{Sealed, Closed, shape_of, begun_of, links_of, bypasses_of, stands_of, roles_of}
use Rattle.ipcz_world.proofs.acts.BypassPeerAround.{CanPeer, here, is, z_end, on, at_o, same_bypass, router_j, known, begun, fresh_live}
use Rattle.ipcz_world.proofs.acts.BypassPeerAround.{router_same, node_same, end_same, bypass_same, recorded_more, apart, is_begun_same}
use Rattle.ipcz_world.proofs.acts.BypassPeerAround.{fresh_same, inner_same, proxy_side_same, proxy_same, accepted_same, split, itself}
use Rattle.ipcz_world.proofs.acts.BypassPeerAround.{new_recorded, r_side}
use Rattle.ipcz_world.proofs.facts.LinkTests.{central_word}
use Rattle.ipcz_world.proofs.frames.Frames.{same_key-itself}
use Rattle.ipcz_world.proofs.frames.RecordRules.{bypass_of-inner}
use Rattle.ipcz_world.proofs.frames.BegunLengths.{bypass_of-central_is}
use Rattle.ipcz_world.proofs.frames.Roles.{begun-kept, Inward, Role, Unbegun, Begun, end_of, outward_of, inward_of, until, IsOn, Fits}
use Rattle.ipcz_world.proofs.frames.Roles.{HasRole, BegunRecords, Roles, trim-decays, until-same, trim, has_inner, end-is}
use Rattle.ipcz_world.proofs.frames.RolesKept.{Knows, Keeps, role-kept, on-kept, end-kept, inward-kept}

module _ {w : World} {b : Books} {g : Records} {from : ℕ} {k : Key} {r : Router} {o : ℕ} {link : LinkId} {side : Side}
    {target fresh : ℕ} (law : Sealed w b g) (can : Closed (CanPeer w from k r o link side target fresh)) where
  abbrev e : LinkEnd
  e = (z_end law can).end

  -- what the hand makes of the router, the world and the records
  abbrev x : Router
  x = bypass_peer r target fresh

  abbrev sent : Message
  sent = messages.AcceptBypass o (opposite r.end.side) fresh r.out_queue.current

  abbrev v : World
  v = handed_on w from k x target sent

  abbrev h : Records
  h = taken_records g k r o fresh target

  pub x_dec : (t : Router) (d : LinkEnd) → x ≡ t → t.outward.decaying ≡ Some d → (d.link ≡ inner_of g o) × (d.side ≡ B)
  x_dec t d m p = let d_is : d ≡ e = same_Some _ _ (sym p ∙ ap (λ c. c.outward.decaying) (sym m) ∙ on law can) in
      (ap (λ c. c.link) d_is ∙ (z_end law can).on_link, ap (λ c. c.side) d_is ∙ (z_end law can).at_side)

  pub inner_is : (p q : Key) → inner_link p ≡ inner_link q → p ≡ q
  inner_is p q m = let a : p.node ≡ q.node = grind (arith, m) in let c : p.serial ≡ q.serial = grind (arith, m) in
      λ i. record { node = a i; serial = c i }

  known4 : (j n : ℕ) → known_from 4 (h.bypass j).stage n ≡ known_from 4 (g.bypass j).stage n
  known4 j n = grind (arith, at_o law can j, (is law can).stage, known_from-no 4 2 n, known_from-no 4 1 n)

  -- the number that the record knew before stays, but for this bypass, which knew none
  pub taken_same : (j : ℕ) → nat_eq j o ≡ false → (h.bypass j).taken_at ≡ (g.bypass j).taken_at
  taken_same j m = ap (λ c. c.taken_at) (same_bypass law can j m)

  known4-taken : (j : ℕ) → known_from 4 (h.bypass j).stage (h.bypass j).taken_at ≡ known_from 4 (g.bypass j).stage (g.bypass j).taken_at
  known4-taken j = grind (
    arith,
    at_o law can j,
    (is law can).stage,
    known_from-no 4 2 r.out_queue.current,
    known_from-no 4 1 (g.bypass o).taken_at,
  )

  pub outward_b : (d : LinkEnd) (p : Key) → d.link ≡ inner_link p → is_outward d.link d.side ≡ true → d.side ≡ B
  unfolding is_outward
  outward_b d p l m = same_side-tells d.side B (rw l at m)

  pub shape-peer : Shape v
  shape-peer = let shape = shape_of law k r (here law can) in each-one w v k x HasShape (router_j law can) (shape_of law) (record {
    role = grind (arith, shape.role, on law can);
    marked_central = λ m. absurd (grind (arith, m));
    marked_still = λ m. absurd (grind (arith, m));
    holds_marked = λ m. absurd (grind (arith, m));
    holds_fit = λ m. absurd (grind (arith, m));
    holds_spare = λ m p. absurd (grind (arith, m));
    dropped_sink = shape.dropped_sink;
    sent_proxy = shape.sent_proxy;
    spare_proxy = shape.spare_proxy;
    spare_central = λ i e. central_word fresh target r.end.side;
  })

  knows : Knows w v g h
  knows = record {
    recorded = recorded_more law can;
    router = λ l s q a e. router_same law can l s (apart law can l a) ∙ e;
    node = λ l s a. node_same law can l s (apart law can l a);
    end = λ l s a. end_same law can l s (apart law can l a);
    fresh = λ j b. fresh_same law can j;
    inner = λ j b. inner_same law can j;
    stage = λ j. grind (arith, at_o law can j, (is law can).stage);
  }

  -- a link stays where it is primary, but for the inner one at the router inward
  stays : (l : LinkId) (s : Side) → (l ≡ inner_of g o → s ≡ B → ⊥) →
      ((j : ℕ) → bypass_of g l ≡ Some j → (g.bypass j).stage ≤ until g j l s) → (j : ℕ) → bypass_of h l ≡ Some j →
      (h.bypass j).stage ≤ until h j l s
  stays l s apart low j by = rw (until-same g h j l s (proxy_side_same law can j))
      (go l s apart (sym (bypass_same law can l) ∙ by) (low j) (at_o law can j))
    where
      go : (l : LinkId) (s : Side) → (l ≡ inner_of g o → s ≡ B → ⊥) → bypass_of g l ≡ Some j →
          (bypass_of g l ≡ Some j → (g.bypass j).stage ≤ until g j l s) →
          ((nat_eq j o ≡ true) × (j ≡ o)) ⊎ ((nat_eq j o ≡ false) × (j ≢ o)) → (h.bypass j).stage ≤ until g j l s
      go l s apart by low (inr c) = rw c.0 (low by)
      go (Peripheral n p) A apart by low (inl c) = absurd (omega (arith, low by, ap (λ i. (g.bypass i).stage) c.1, (is law can).stage))
      go (Peripheral n p) B apart by low (inl c) = let q : Key = record { node = n; serial = p } in
          absurd (apart (ap inner_link (sym ((stands_of law).by_inner q o (sym (bypass_of-inner g q) ∙ by ∙ ap Some c.1)))) refl)
      go (Central i) s apart by low (inl c) = grind (arith, low by, c, (is law can).stage)

  keeps : (q : Key) → (q ≡ k → ⊥) → Keeps w g h q
  keeps q apart = record {
    stays = λ d l s on. stays l s
        (λ m n. apart (same_Some q k (sym on.router ∙ (λ i. side_router g (m i) (n i)) ∙ known law can))) on.stays;
    begun = λ j e. e;
    across = λ j f. let n : nat_eq j o ≡ false = grind (arith, at_o law can j, (is law can).stage, f.0) in rw n (refl, refl);
    inward = λ j f. let n : nat_eq j o ≡ false = grind (arith, at_o law can j, (is law can).stage, f.0) in rw n (refl, refl);
    proxy = λ j f. (known4-taken j, ap (known_from 4 (h.bypass j).stage) (accepted_same law can j) ∙ known4 j _);
  }

  word : fresh ≡ (h.bypass o).fresh
  word = (is law can).on_word ∙ sym (fresh_same law can o)

  at : r.end.side ≡ proxy_side h o
  at = r_side law can ∙ sym (proxy_side_same law can o)

  new : record { link = Central fresh; side = r.end.side; other = target } ≡ end_of h (fresh_of h o) (proxy_side h o)
  new = end-is (new_recorded law can _ refl) ∙ (λ t. end_of h (Central (word t)) (at t))

  fresh-on : IsOn v h k r.end (fresh_of h o) (proxy_side h o)
  fresh-on = let t = new_recorded law can _ refl in rw (← word, ← at) (record {
    recorded = t.recorded;
    router = t.router;
    end = t.end;
    stays = λ j by. absurd (grind (arith, (bypass_of-central_is h fresh j by).1, is_begun_same law can fresh, fresh_live law can));
  })

  recorded : is_recorded w g (inner_of g o) ≡ true
  recorded = (bypasses_of law o).inner (begun law can)

  own : (a : Role) → trim (inward_edge r) ≡ inward_of g a → trim r.outward ≡ outward_of g a → is_proxy r ≡ has_inner a → Fits w g k r.end a →
      HasRole v h k x
  own (Begun j true z) c d i f = absurd (none-some e (sym (ap (λ t. t.primary) d) ∙ on law can))
  own (Begun j false z) c d i f = absurd (none-some e (sym (ap (λ t. t.primary) d) ∙ on law can))
  own (Unbegun a inner) c d i f = record {
    role = Unbegun (Inward o) inner;
    proxy = i;
    outward = trim-decays x.outward (Some (end_of h (fresh_of h o) (proxy_side h o))) (end_of h (inner_of h o) B) _ _ (ap Some new)
        (on law can ∙ ap Some old) (sym (rw (itself law can o) refl)) (sym (rw (itself law can o) (known_from-no 5 2 _ (omega arith))));
    inward = c ∙ sym (inward-kept knows r.end inner f.2);
    fits = (
      fresh-on,
      (rw (itself law can o) (omega arith), rw (inner_same law can o) (knows.router (inner_of g o) B k recorded (known law can))),
      λ p m. on-kept knows (f.2 p m) (stays (inner_link p) A (λ l t. side-is t) (f.2 p m).stays),
    );
  }
    where
      side-is : {X : Type 0} → A ≡ B → X
      side-is q = cc

      old : e ≡ end_of h (inner_of h o) B
      old = end-is ((links_of law k r (here law can)).primary e (on law can)) ∙
          (λ t. end_of g ((z_end law can).on_link t) ((z_end law can).at_side t)) ∙ sym (end-kept knows (inner_of g o) B recorded) ∙
          ap (λ p. end_of h (inner_link p) B) (sym (inner_same law can o))

  pub roles-peer : Roles v h
  roles-peer q z at = elim (split law can q z at) [
    | inl a ↦ let c = roles_of law k r (here law can) in rw (a.0, ← a.1) (own c.role c.inward c.outward c.proxy c.fits)
    | inr a ↦ role-kept knows (bypasses_of law) (begun_of law).begun_stage (keeps q (λ m. grind (arith, m, a.0, same_key-itself k))) z
        (roles_of law q z a.1)
  ]

  pub begun-peer : BegunRecords h
  begun-peer = begun-kept (proxy_same law can) (is_begun_same law can) (λ q. refl) (begun_of law)
