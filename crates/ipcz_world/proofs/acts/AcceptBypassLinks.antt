-- The router across takes the fresh link: each link is as its record says, and primary or decaying as its bypass says.
use Rattle.ipcz_world.proofs.Vocabulary.{Side, LinkId, Central, LinkEnd, Message, Router, World, Key, node_at, mail_at, way, router_at}
use Rattle.ipcz_world.proofs.Vocabulary.{Books, hand_message, Records, is_recorded, inner_link, side_router, side_end, known_from, Counts}
use Rattle.ipcz_world.proofs.Vocabulary.{accept_bypass, A, B, Peripheral, opposite, bypass_of, across_side, side_node, inward_edge}
use Rattle.ipcz_world.proofs.Vocabulary.{BypassRecords, fresh_of, is_proxy}
use Rattle.std.specs.Prelude.{◌≡◌, ◌⊎◌, ◌<◌, ℕ, ◌+◌, ◌*◌, Bool, true, false, cond, nat_eq, is_some, Some, None, refl, ◌≢◌, ◌≤◌}
use Rattle.std.proofs.Common.{arith, ap, ◌∙◌, sym, inl, inr}
use Rattle.std.proofs.lemmas.Bool.Decides.{nat_tests}
use Rattle.std.proofs.lemmas.Option.{none-some, same_Some}
use Rattle.ipcz_world.specs.declared.mail.Mail.TheVariants as mails
use Rattle.ipcz_world.proofs.facts.RecordsAfter.{accepted_records}
use Rattle.ipcz_world.proofs.frames.Unmoved.{side_node-agree, is_recorded-kept, WasLike, bypass_of-agree, proxy_side-agree}
use Rattle.ipcz_world.proofs.frames.Handing.{handed_on, hand-handed_on, mail-handed_on, way_tells}
use Rattle.ipcz_world.proofs.facts.Lengths.{known_from-no}
use Rattle.ipcz_world.proofs.frames.Sealing.{Sealed, Closed, counts_of, links_of, bypasses_of, begun_of, roles_of}
use Rattle.ipcz_world.proofs.acts.AcceptBypassAround.{CanAccept, here, in_its_hand, on, on_node, is, two, on_old, at_side, fresh_awaited}
use Rattle.ipcz_world.proofs.acts.AcceptBypassAround.{known_across, begun, known, fresh_linked, fresh_live, proxy_is}
use Rattle.ipcz_world.proofs.acts.AcceptBypassViews.{at_o, changed, agree, is_new, is_new-tells, router_of, stage_after, accepted_after}
use Rattle.ipcz_world.proofs.acts.AcceptBypassViews.{taken_after, is_new-here}
use Rattle.ipcz_world.proofs.acts.AcceptBypassNumbers.{router_j, was_router}
use Rattle.ipcz_world.proofs.facts.Updates.{tells_stop}
use Rattle.ipcz_world.proofs.frames.Frames.{OneOrBefore, one_or_before, same_key-itself}
use Rattle.ipcz_world.proofs.frames.RecordRules.{is_recorded-central}
use Rattle.ipcz_world.proofs.frames.BegunLengths.{bypass_of-central_is}
use Rattle.ipcz_world.proofs.facts.LinkTests.{side_is}
use Rattle.ipcz_world.proofs.frames.Roles.{begun-kept, Across, Role, Unbegun, Begun, end_of, outward_of, inward_of, until, IsOn, Fits}
use Rattle.ipcz_world.proofs.frames.Roles.{HasRole, BegunRecords, Roles, trim-decays, until-same, trim, has_inner, end-is}
use Rattle.ipcz_world.proofs.frames.RolesKept.{knows-agree, Knows, Keeps, role-kept, on-kept, end-kept, inward-kept}
use Rattle.ipcz_world.proofs.acts.AcceptBypassRecords.{bypasses-accept}

module _ {w : World} {b : Books} {g : Records} {from : ℕ} {k : Key} {r : Router} {e : LinkEnd} {o : ℕ} {side : Side} {fresh length : ℕ}
    (law : Sealed w b g) (can : Closed (CanAccept w from k r e o side fresh length)) where
  -- what the hand makes of the router, the world and the records
  abbrev x : Router
  x = accept_bypass r from side fresh length

  abbrev sent : Message
  sent = tells_stop r o side length

  abbrev v : World
  v = handed_on w from k x e.other sent

  abbrev h : Records
  h = accepted_records g k r o side fresh

  way_same : (a c : ℕ) → way v a c ≡ way w a c
  way_same a c = ap (λ n. a * n + c) (changed law can).count

  hand_at : (n : ℕ) → (node_at v n).hand ≡ cond (nat_eq n k.node) None (node_at w n).hand
  hand_at = hand-handed_on w from k x e.other sent

  mail_same : (j : ℕ) → mail_at v j ≡ cond (nat_eq j (way w from k.node)) mails.Empty (mail_at w j)
  mail_same = mail-handed_on w from k x e.other sent

  way_apart : (a n : ℕ) → n < w.count → nat_eq n k.node ≡ false → nat_eq (way w a n) (way w from k.node) ≡ false
  way_apart a n l ne = go (nat_eq (way w a n) (way w from k.node)) refl
    where
      go : (t : Bool) → nat_eq (way w a n) (way w from k.node) ≡ t → nat_eq (way w a n) (way w from k.node) ≡ false
      go false t = t
      go true t = let same : n ≡ k.node = (way_tells w.count a n from k.node l (on_node law can) (grind (arith, t, nat_tests))).1 in
          absurd (grind (arith, same, ne, nat_tests))

  apart_nodes : (n a : ℕ) → (node_at w n).hand ≡ Some a → nat_eq (way w a n) (way w from k.node) ≡ false → nat_eq n k.node ≡ false
  apart_nodes n a was' t = go (nat_eq n k.node) refl
    where
      go : (c : Bool) → nat_eq n k.node ≡ c → nat_eq n k.node ≡ false
      go false c = c
      go true c = let same : n ≡ k.node = grind (arith, c, nat_tests) in let from_is : a ≡ from =
          same_Some a from (sym was' ∙ ap (λ i. (node_at w i).hand) same ∙ in_its_hand law can) in
          absurd (grind (arith, rw (from_is, same) at t, nat_tests))

  pub counts-accept : Counts v h
  unfolding hand_message
  counts-accept = record {
    node = λ n l. grind (arith, (changed law can).node n, (changed law can).count, (counts_of law).node n, l);
    nodes = λ n l. grind (arith, (changed law can).nodes n, (changed law can).count, (counts_of law).nodes n, l);
    claimed = grind (arith, (changed law can).claimed, (changed law can).size, (counts_of law).claimed);
    unclaimed = λ i. grind (arith, (changed law can).claimed, (counts_of law).unclaimed i);
    on_node = λ q t at. let c : WasLike w q t = was_router law can q t at in grind
        (arith, (changed law can).count, (counts_of law).on_node q c.router c.here_before);
    serial = λ q t at. let c : WasLike w q t = was_router law can q t at in grind
        (arith, (changed law can).next_router q.node, (counts_of law).serial q c.router c.here_before);
    side_serial = λ link s q rec known'. side_serial_at link s q rec known' (is_new law can link s) refl;
    side_on_node = λ link s rec. grind (
      arith,
      (changed law can).count,
      side_node-agree g h (agree law can) link s,
      (counts_of law).side_on_node link s (sym (is_recorded-kept w v g h k r x (changed law can) (agree law can) link) ∙ rec),
    );
    hand_from = λ n a l e'. grind (arith, (changed law can).count, hand_at n, (counts_of law).hand_from n a, l, e');
    hand = λ n a l e'. hand_kept n a (grind (arith, l, (changed law can).count)) e';
    in_hand = λ n a l m e'. in_hand_kept n a (grind (arith, l, (changed law can).count)) (grind (arith, m, (changed law can).count)) e';
  }
    where
      side_serial_at : (link : LinkId) (s : Side) (q : Key) → is_recorded v h link ≡ true → side_router h link s ≡ Some q → (t : Bool) →
          is_new law can link s ≡ t → q.serial < (node_at v q.node).next_router
      side_serial_at link s q rec known' true t = let same : k ≡ q =
          same_Some k q (sym (router_of law can link s ∙ ap (λ c. cond c (Some k) (side_router g link s)) t) ∙ known') in
          rw (← same) (grind (arith, (changed law can).next_router k.node, (counts_of law).serial k r (here law can)))
      side_serial_at link s q rec known' false t = grind (
        arith,
        (changed law can).next_router q.node,
        (counts_of law).side_serial link s q (sym (is_recorded-kept w v g h k r x (changed law can) (agree law can) link) ∙ rec)
            (sym (router_of law can link s ∙ ap (λ c. cond c (Some k) (side_router g link s)) t) ∙ known'),
      )

      hand_kept : (n a : ℕ) → n < w.count → (node_at v n).hand ≡ Some a → is_some (hand_message (mail_at v (way v a n))) ≡ true
      hand_kept n a l e' = let ne : nat_eq n k.node ≡ false = grind (arith, hand_at n, e', nat_tests) in
          let was' : (node_at w n).hand ≡ Some a = sym (ap (λ t. cond t None (node_at w n).hand) ne) ∙ sym (hand_at n) ∙ e' in
          ap (λ j. is_some (hand_message (mail_at v j))) (way_same a n) ∙ ap (λ u. is_some (hand_message u))
          (mail_same (way w a n) ∙ ap (λ t. cond t mails.Empty (mail_at w (way w a n))) (way_apart a n l ne)) ∙ (counts_of law).hand n a
          l was'

      in_hand_kept : (n a : ℕ) → n < w.count → a < w.count → is_some (hand_message (mail_at v (way v a n))) ≡ true →
          (node_at v n).hand ≡ Some a
      in_hand_kept n a l m e' = go (nat_eq (way w a n) (way w from k.node)) refl
        where
          go : (t : Bool) → nat_eq (way w a n) (way w from k.node) ≡ t → (node_at v n).hand ≡ Some a
          go true t = absurd (grind (
            arith,
            sym (ap (λ j. is_some (hand_message (mail_at v j))) (way_same a n) ∙ ap
                (λ u. is_some (hand_message u)) (mail_same (way w a n) ∙ ap (λ c. cond c mails.Empty (mail_at w (way w a n))) t)) ∙ e',
          ))
          go false t = let was' : (node_at w n).hand ≡ Some a = (counts_of law).in_hand n a l m
              (sym (ap (λ j. is_some (hand_message (mail_at v j))) (way_same a n) ∙ ap (λ u. is_some (hand_message u))
              (mail_same (way w a n) ∙ ap (λ c. cond c mails.Empty (mail_at w (way w a n))) t)) ∙ e') in
              let ne : nat_eq n k.node ≡ false = apart_nodes n a was' t in hand_at n ∙ ap (λ c. cond c None (node_at w n).hand) ne ∙ was'

  not_new_of : (link : LinkId) (s : Side) (q : Key) → side_router g link s ≡ Some q → is_new law can link s ≡ false
  not_new_of link s q known' = go (is_new-tells law can link s)
    where
      go : ((is_new law can link s ≡ true) × ((link ≡ Central fresh) × (s ≡ side))) ⊎ (is_new law can link s ≡ false) →
          is_new law can link s ≡ false
      go (inl t) = absurd (none-some q (sym (fresh_awaited law can) ∙ rw (t.1.0, t.1.1) at known'))
      go (inr t) = t

  pub known_after : (link : LinkId) (s : Side) (q : Key) → side_router g link s ≡ Some q → side_router h link s ≡ Some q
  known_after link s q known' = router_of law can link s ∙ ap (λ c. cond c (Some k) (side_router g link s)) (not_new_of link s q known') ∙
      known'

  split : (q : Key) (t : Router) → router_at v q ≡ Some t → OneOrBefore w k x q t
  split q t e = one_or_before w v k x (router_j law can) q t e

  x_at_end : r.end ≡ side_end h (Central fresh) side
  unfolding side_end
  x_at_end = (((links_of law) k r (here law can)).primary e (on law can)).end ∙ ap (λ l. side_end g l e.side) (on_old law can) ∙
      ap (side_end g (Central o)) (at_side law can)
      ∙ ap (λ n. record { pair = n; side = side })
      (sym (ap (λ i. (g.central i).pair) (is law can).on_word ∙ (bypasses_of law o).fresh_pair (two law can)) ∙ sym
      ((agree law can).pair fresh))

  known4-accepted : (j : ℕ) → known_from 4 (h.bypass j).stage (h.bypass j).accepted_at ≡ known_from 4 (g.bypass j).stage
      (g.bypass j).accepted_at
  known4-accepted j = grind (
    arith,
    at_o law can j,
    (is law can).stage,
    known_from-no 4 3 r.out_queue.current,
    known_from-no 4 2 (g.bypass o).accepted_at,
  )

  known4-taken : (j : ℕ) → known_from 4 (h.bypass j).stage (h.bypass j).taken_at ≡ known_from 4 (g.bypass j).stage (g.bypass j).taken_at
  known4-taken j = grind (
    arith,
    at_o law can j,
    (is law can).stage,
    known_from-no 4 3 (g.bypass o).taken_at,
    known_from-no 4 2 (g.bypass o).taken_at,
  )

  known5-accepted : (j : ℕ) → known_from 5 (h.bypass j).stage (h.bypass j).accepted_at ≡ known_from 5 (g.bypass j).stage
      (g.bypass j).accepted_at
  known5-accepted j = grind (
    arith,
    at_o law can j,
    (is law can).stage,
    known_from-no 5 3 r.out_queue.current,
    known_from-no 5 2 (g.bypass o).accepted_at,
  )

  pub central_is : (i j : ℕ) → Central i ≡ Central j → i ≡ j
  central_is i j p = grind (arith, p)

  pub not_both : (i : ℕ) (p : Key) → Central i ≡ inner_link p → ⊥
  not_both i p q = grind (arith, q)

  knows : Knows w v g h
  knows = knows-agree (agree law can) (is_recorded-kept w v g h k r x (changed law can) (agree law can)) (known_after)
      (λ j. grind (arith, at_o law can j, (is law can).stage))

  -- a link stays where it is primary, but for the old one at the router across
  stays : (l : LinkId) (s : Side) → (l ≡ Central o → s ≡ side → ⊥) →
      ((j : ℕ) → bypass_of g l ≡ Some j → (g.bypass j).stage ≤ until g j l s) → (j : ℕ) → bypass_of h l ≡ Some j →
      (h.bypass j).stage ≤ until h j l s
  stays l s apart low j by = rw (until-same g h j l s (proxy_side-agree g h (agree law can) j))
      (go l s apart (sym (bypass_of-agree g h (agree law can) l) ∙ by) (low j) (at_o law can j))
    where
      go : (l : LinkId) (s : Side) → (l ≡ Central o → s ≡ side → ⊥) → bypass_of g l ≡ Some j →
          (bypass_of g l ≡ Some j → (g.bypass j).stage ≤ until g j l s) →
          ((nat_eq j o ≡ true) × (j ≡ o)) ⊎ ((nat_eq j o ≡ false) × (j ≢ o)) → (h.bypass j).stage ≤ until g j l s
      go l s apart by low (inr c) = rw c.0 (low by)
      go (Peripheral n p) A apart by low (inl c) = absurd (omega (arith, low by, ap (λ i. (g.bypass i).stage) c.1, (is law can).stage))
      go (Peripheral n p) B apart by low (inl c) = absurd (omega (arith, low by, ap (λ i. (g.bypass i).stage) c.1, (is law can).stage))
      go (Central i) s apart by low (inl c) = elim (side_is s side) [
        | inl t ↦ absurd (apart (ap Central (sym (bypass_of-central_is g i j by).0 ∙ c.1)) t)
        | inr t ↦ absurd (grind (arith, low by, c.1, t, proxy_is law can, (is law can).stage))
      ]

  keeps : (q : Key) → (q ≡ k → ⊥) → Keeps w g h q
  keeps q apart = record {
    stays = λ d l s on. stays l s
        (λ m n. apart (same_Some q k (sym on.router ∙ (λ i. side_router g (m i) (n i)) ∙ known law can))) on.stays;
    begun = λ j e. e;
    across = λ j f. let n : nat_eq j o ≡ false = grind (arith, at_o law can j, (is law can).stage, f.0) in rw n (refl, refl);
    inward = λ j f. (taken_after law can j, known5-accepted j);
    proxy = λ j f. (known4-taken j, known4-accepted j);
  }

  not-central : {X : Type 0} (i : Key) → inner_link i ≡ Central o → X
  not-central i e = cc

  word : fresh ≡ (h.bypass o).fresh
  word = (is law can).on_word ∙ sym ((agree law can).fresh o)

  at : side ≡ across_side h o
  at = (is law can).at_side ∙ ap opposite (sym (proxy_side-agree g h (agree law can) o))

  fresh-on : IsOn v h k r.end (fresh_of h o) (across_side h o)
  fresh-on = rw (← word, ← at) (record {
    recorded = is_recorded-kept w v g h k r x (changed law can) (agree law can) (Central fresh) ∙ is_recorded-central w g fresh ∙
        fresh_linked law can;
    router = router_of law can (Central fresh) side ∙ ap (λ t. cond t (Some k) (side_router g (Central fresh) side)) (is_new-here law can);
    end = x_at_end;
    stays = λ j by. absurd (grind (arith, (bypass_of-central_is h fresh j by).1, (agree law can).is_begun fresh, fresh_live law can));
  })

  own : (a : Role) → trim (inward_edge r) ≡ inward_of g a → trim r.outward ≡ outward_of g a → is_proxy r ≡ has_inner a → Fits w g k r.end a →
      HasRole v h k x
  own (Begun j true z) c d i f = absurd (none-some e (sym (ap (λ t. t.primary) d) ∙ on law can))
  own (Begun j false z) c d i f = absurd (none-some e (sym (ap (λ t. t.primary) d) ∙ on law can))
  own (Unbegun a inner) c d i f = record {
    role = Unbegun (Across o) inner;
    proxy = i;
    outward = trim-decays x.outward (Some (end_of h (fresh_of h o) (across_side h o))) (end_of h (Central o) (across_side h o)) _ _ (ap Some new)
        (on law can ∙ ap Some old) (ap Some (sym (accepted_after law can))) (ap Some ((is law can).taken ∙ sym (taken_after law can o)));
    inward = c ∙ sym (inward-kept knows r.end inner f.2);
    fits = (
      fresh-on,
      (omega (arith, stage_after law can), rw (← at) (known_after (Central o) side k (known law can))),
      λ p m. on-kept knows (f.2 p m) (stays (inner_link p) A (λ l. not-central p l) (f.2 p m).stays),
    );
  }
    where
      new : record { link = Central fresh; side = side; other = from } ≡ end_of h (fresh_of h o) (across_side h o)
      new = λ t. record {
        link = Central (word t);
        side = at t;
        other = ((is law can).sender ∙
            sym (rw (← (is law can).on_word, proxy_is law can) at ((bypasses_of law o).fresh_inner_node (two law can))) ∙
            sym (side_node-agree g h (agree law can) (Central fresh) (opposite side)) ∙
            (λ u. side_node h (Central (word u)) (opposite (at u)))) t;
      }

      old : e ≡ end_of h (Central o) (across_side h o)
      old = end-is ((links_of law k r (here law can)).primary e (on law can)) ∙
          (λ t. end_of g (on_old law can t) ((at_side law can ∙ at) t)) ∙ sym (end-kept knows (Central o) _ (is_recorded-central w g o ∙ (bypasses_of law o).old (begun law can)))

  pub roles-accept : Roles v h
  roles-accept q z at = elim (split q z at) [
    | inl a ↦ let c = roles_of law k r (here law can) in rw (a.0, ← a.1) (own c.role c.inward c.outward c.proxy c.fits)
    | inr a ↦ role-kept knows (bypasses_of law) (begun_of law).begun_stage (keeps q (λ m. grind (arith, m, a.0, same_key-itself k))) z
        (roles_of law q z a.1)
  ]

  pub begun-accept : BegunRecords h
  begun-accept = begun-kept (agree law can).proxy (agree law can).is_begun (λ q. refl) (begun_of law)

  pub bypasses : BypassRecords v h
  unfolding handed_on
  bypasses = bypasses-accept w g from k r e o side fresh length (bypasses_of law)
      (record { stage = (is law can).stage; fresh = sym (is law can).on_word; side = (is law can).at_side; router = known_across law can })
