-- A sink drops Gone and leaves: the invariant is kept, with the books and the records after it.
use Rattle.std.specs.Prelude.{◌≡◌, ◌≢◌, ◌⊎◌, ◌<◌, ◌&&◌, ◌++◌, true, false, cond, Some, None, List, [], ◌∷◌, length}
use Rattle.std.specs.Prelude.{slice_get, refl}
use Rattle.std.proofs.Common.{arith, ap, subst, ◌∙◌, sym, inl, inr}
use Rattle.std.proofs.lemmas.Option.{none-some}
use Rattle.std.proofs.lemmas.Bool.{and_parts}
use Rattle.ipcz_world.proofs.Vocabulary.{End, LinkId, Router, is_terminal, is_possible, opposite_end, same_end, World, Key, same_key, node_at}
use Rattle.ipcz_world.proofs.Vocabulary.{router_at, set_node, Books, read, is_closed, Records, At, is_recorded, side_end, Terminals, Inv, key_passes}
use Rattle.ipcz_world.proofs.Vocabulary.{current_item, Gone, is_sink, drop_item, has_gone_next, is_retired, Retired, is_left, RetiredEnds}
use Rattle.ipcz_router.specs.declared.act.RouterAct.TheVariants as acts
use Rattle.ipcz_node.specs.Node.{with_router}
use Rattle.ipcz_world.specs.World.{set_router}
use Rattle.ipcz_world.proofs.facts.Updates.{discard_leave_act}
use Rattle.ipcz_world.specs.Books.{add_gone, after_discard}
use Rattle.ipcz_world.proofs.facts.RecordsAfter.{set_terminal}
use Rattle.std.specs.Prelude.{is_some}
use Rattle.ipcz_world.proofs.facts.LinkTests.{same_end-tells}
use Rattle.ipcz_world.proofs.facts.RecordsAfter.{leave_records}
use Rattle.ipcz_world.proofs.acts.Leaving.{gone_leaver}
use Rattle.ipcz_world.proofs.acts.Gets.{inv-dropped_at}
use Rattle.ipcz_world.proofs.acts.Reading.{in_numbers}
use Rattle.ipcz_world.proofs.facts.Drained.{gone_found, gone_next-tells}
use Rattle.ipcz_world.proofs.frames.SameMessages.{recorded-same}
use Rattle.ipcz_world.proofs.frames.Departing.{IsLeaver, h, h_is, is_off_here, near-departed, retired-departed, gones-departed}
use Rattle.ipcz_world.proofs.frames.NearInv.{inv-near, near-inv}
use Rattle.ipcz_world.proofs.frames.Ended as ends
use Rattle.ipcz_world.proofs.frames.Frames.{same_key-itself, same_key_tells}
use Rattle.ipcz_world.proofs.frames.GivingUp.{Gives, Keeps, passes-still, same-messages}
use Rattle.ipcz_world.proofs.frames.Aside.{recorded-aside, terminals-aside}
use Rattle.ipcz_world.proofs.frames.LeftRecords.{off_of}
use Rattle.ipcz_world.proofs.frames.OneRouter.{SameButRouter, replaced, set-router, remove-router, words-set_router, words-remove_router}
use Rattle.ipcz_world.proofs.frames.Booking.{end_tells}

and_none : (es : List End) → es ++ [] ≡ es
and_none [] = refl
and_none (e ∷ es) = ap (λ t. e ∷ t) (and_none es)

module _ (w : World) (b : Books) (g : Records) (k : Key) (r : Router) (law : Inv w b g) (here : router_at w k ≡ Some r)
    (sink : is_sink r ≡ true) (next : has_gone_next r ≡ true) where
  pub terminal : is_terminal r ≡ true
  terminal = (and_parts (is_terminal r) r.closed sink).0

  abbrev pub y : Router
  y = drop_item r

  abbrev pub u : World
  u = set_router w k y

  abbrev pub v : World
  v = discard_leave_act w k

  abbrev pub c : Books
  c = add_gone b r.end

  pub dropped : Inv u c g
  dropped = subst (λ ps. Inv (set_node w k.node (record (with_router (node_at w k.node) k.serial y) { pending = ps })) c g)
      (and_none (node_at w k.node).pending)
      (inv-dropped_at w b g k r law here terminal Gone (gone_next-tells r next) (and_parts (is_terminal r) r.closed sink).1)

  pub here_u : router_at u k ≡ Some y
  here_u = (set-router w k y).routers k ∙ ap (λ t. cond t (Some y) (router_at w k)) (same_key-itself k)

  on_node : k.node < w.count
  on_node = law.counts.on_node k r here

  put : slice_get (b.put (opposite_end r.end)) r.in_queue.current ≡ Some Gone
  put = in_numbers w b g k r r.in_queue.current Gone law.conserved on_node here (gone_next-tells r next)

  pub retired : is_retired c (opposite_end y.end) ≡ true
  retired = gone_found (b.put (opposite_end r.end)) r.in_queue.current put

  pub all : y.in_queue.current ≡ length (c.put (opposite_end y.end))
  all = omega (arith, law.books_kept.gone_last (opposite_end r.end) r.in_queue.current put)

  pub leaver : IsLeaver u c g k y
  leaver = gone_leaver u c g k y dropped here_u (grind (arith, terminal)) retired all

  pub one : SameButRouter u v k None
  one = replaced w u v k y on_node (set-router w k y) (remove-router w k r here)

  pub gives : Gives u v k y None
  gives = record { one = one; here = here_u; part = λ z e. absurd (none-some z e); no_item = λ e. leaver.empty }

  pub keeps : Keeps u v y None
  keeps = record {
    words = record {
      words = λ i. (words-remove_router w k).words i ∙ sym ((words-set_router w k y).words i);
      claimed = (words-remove_router w k).claimed ∙ sym (words-set_router w k y).claimed;
    };
    flags = λ z e. absurd (none-some z e);
  }

  abbrev pub h' : Records
  h' = h (near-inv dropped) leaver gives keeps

  pub at : h'.terminal r.end ≡ At k
  at = (law.terminals.each k r here).terminal terminal

  abbrev pub t : Records
  t = ends.ended v c h' r.end k at

  other : (q : Key) (z : Router) → router_at v q ≡ Some z → (router_at u q ≡ Some z) × (q ≢ k)
  other q z a = go (same_key_tells q k)
    where
      go : ((same_key q k ≡ true) × (q ≡ k)) ⊎ ((same_key q k ≡ false) × (q ≢ k)) → (router_at u q ≡ Some z) × (q ≢ k)
      go (inl e) = absurd (none-some z (sym (one.routers q ∙ ap (λ b. cond b None (router_at u q)) e.0) ∙ a))
      go (inr e) = (sym (one.routers q ∙ ap (λ b. cond b None (router_at u q)) e.0) ∙ a, e.1)

  off_terminals : Terminals u h'
  off_terminals = terminals-aside (is_off_here (near-inv dropped) leaver gives keeps) u dropped.terminals

  terminals : Terminals v t
  unfolding side_end
  terminals = record {
    each = λ q z a. let o = other q z a in let is = off_terminals.each q z o.0 in record {
      terminal = λ s. ends.other-ended v c h' r.end k at z.end
          (λ e. absurd (o.1 (same_at (sym (is.terminal s) ∙ ap h'.terminal e ∙ at)))) ∙ is.terminal s;
      opened = (ends.is_ended v c h' r.end k at).nowhere z.end ∙ is.opened;
    };
    stands = λ d q a. stood d q a (end_tells d r.end);
    link_opened = λ l s a. (ends.is_ended v c h' r.end k at).nowhere (side_end h' l s) ∙
        off_terminals.link_opened l s (sym (recorded-same u v h' l (same-messages one)) ∙ sym (recorded-t l) ∙ a);
    both = λ d. (ends.is_ended v c h' r.end k at).nowhere (opposite_end d) ∙ off_terminals.both d ∙ sym ((ends.is_ended v c h' r.end k at).nowhere d);
    unopened = λ d a. (ends.is_ended v c h' r.end k at).nowhere d ∙ off_terminals.unopened d a;
    other_pair = λ d a e. (ends.is_ended v c h' r.end k at).nowhere d ∙ off_terminals.other_pair d a e;
  }
    where
      same_at : {q : Key} → At q ≡ At k → q ≡ k
      same_at e = cc

      recorded-t : (l : LinkId) → is_recorded v t l ≡ is_recorded v h' l
      recorded-t l = recorded-aside (ends.is_ended v c h' r.end k at) v l

      not_at : (q : Key) → Retired ≡ At q → ⊥
      not_at q e = cc

      stood : (d : End) (q : Key) → t.terminal d ≡ At q →
          ((same_end d r.end ≡ true) × (d ≡ r.end)) ⊎ ((same_end d r.end ≡ false) × (d ≢ r.end)) →
          key_passes v (Some q) (λ z. is_terminal z && same_end z.end d) ≡ true
      stood d q a (inl e) = let two : Retired ≡ At q = sym (ap (λ b. cond b Retired (h'.terminal d)) e.0) ∙ a in absurd (not_at q two)
      stood d q a (inr e) = passes-still gives (λ z. is_terminal z && same_end z.end d) (Some q)
          (off_terminals.stands d q (sym (ap (λ b. cond b Retired (h'.terminal d)) e.0) ∙ a))
          (λ f s. absurd (e.1 (sym (same_end-tells y.end d (and_parts (is_terminal y) (same_end y.end d) s).1))))

  retired_ends : RetiredEnds c t
  unfolding is_left side_end
  retired_ends = let o = retired-departed (near-inv dropped) leaver gives keeps dropped.retired_ends dropped.gones retired in record {
    retired = λ e a. elim (end_tells e r.end) [
      | inl f ↦ ap (λ b. cond b Retired (h'.terminal e)) f.0
      | inr f ↦ ap (λ b. cond b Retired (h'.terminal e)) f.0 ∙ o.retired e a
    ];
    peer_closed = o.peer_closed;
    peer_stays = o.peer_stays;
    all_read = o.all_read;
    gone_read = λ e a n. elim (end_tells e r.end) [
      | inl f ↦ (
        ap (λ d. is_retired c (opposite_end d)) f.1 ∙ retired,
        ap (read c) f.1 ∙ sym (dropped.conserved.current k y here_u terminal) ∙
            all ∙ ap (λ d. length (c.put (opposite_end d))) (sym f.1),
      )
      | inr f ↦ o.gone_read e (sym (ap (λ b. cond b Retired (h'.terminal e)) f.0) ∙ a) n
    ];
    no_bypass = o.no_bypass;
    left = o.left;
    left_of = o.left_of;
    accepted = o.accepted;
  }

  closed : is_closed c r.end ≡ true
  closed = sym (law.conserved.sink k r here terminal) ∙ (and_parts (is_terminal r) r.closed sink).1

  pub inv-dropped_gone : Inv v c t
  inv-dropped_gone = let near = near-departed (near-inv dropped) leaver gives keeps in
      inv-near (ends.near-ended v c h' r.end k at (subst (λ n. k.node < n) (sym (remove-router w k r here).count) on_node)
      near.counts.on_node closed near.held_once near) terminals retired_ends
      (ends.gones-ended v c h' r.end k at (gones-departed (near-inv dropped) leaver gives keeps dropped.retired_ends dropped.gones retired))

  pub records_are : t ≡ leave_records g r
  records_are = ap (λ x. set_terminal x r.end Retired) (sym (h_is (near-inv dropped) leaver gives keeps)) ∙ sym (when_terminal g r terminal)
    where
      when_terminal : (g : Records) (r : Router) → is_terminal r ≡ true → leave_records g r ≡ set_terminal (off_of g r) r.end Retired
      when_terminal g r e = rw e refl

-- a sink that is sent Gone
pub inv-discard_leave : (w : World) (b : Books) (g : Records) (k : Key) (r : Router) → Inv w b g → router_at w k ≡ Some r →
    is_possible r acts.Discard ≡ true → has_gone_next r ≡ true →
    Inv (discard_leave_act w k) (after_discard b (router_at w k)) (leave_records g r)
unfolding is_possible after_discard
inv-discard_leave w b g k r law here can next =
    let sink = (and_parts (is_sink r) (is_some (current_item r.in_queue)) can).0 in
    subst (λ o. Inv (discard_leave_act w k) (after_discard b o) (leave_records g r)) (sym here)
    (subst (Inv (discard_leave_act w k) (add_gone b r.end)) (records_are w b g k r law here sink next)
    (inv-dropped_gone w b g k r law here sink next))
