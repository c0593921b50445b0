-- A router gave decaying links up, or left: what is said of words, messages, ends and numbers is kept, and so the invariant is.
use Rattle.ipcz_world.proofs.frames.Sourcing.{sourced-by}
use Rattle.ipcz_world.proofs.frames.GivingUp.{WasSame, was_same}
use Rattle.ipcz_word.specs.Word.{Word}
use Rattle.ipcz_world.proofs.frames.OfRecords.{holds, held_times}
use Rattle.std.specs.Prelude.{◌<◌, ◌≡◌, ◌≢◌, ◌⊎◌, ◌≤◌, ℕ, ◌+◌, Bool, true, false, not, ◌&&◌, ◌||◌, Option, Some, None, is_some, List, refl}
use Rattle.std.proofs.Common.{arith, sym, ◌∙◌, ap, subst, inl, inr}
use Rattle.std.proofs.lemmas.Option.{same_Some, none-some}
use Rattle.ipcz_world.proofs.Vocabulary.{Side, A, B, End, LinkId, Central, LinkEnd, Descriptor, Item, Message, opposite, same_end, opposite_end}
use Rattle.ipcz_world.proofs.Vocabulary.{has_end, has_link, item_at, Router, is_terminal, inward_edge, World, Key, same_key, node_at, router_at}
use Rattle.ipcz_world.proofs.Vocabulary.{Books, is_closed, Spare, Records, is_linked, is_begun, side_router, side_length, proxy_side, across_side}
use Rattle.ipcz_world.proofs.Vocabulary.{Weight, in_router, times, at_end, names_end, IsUnderWay, total_below, view, passes, key_passes, is_gone}
use Rattle.ipcz_world.proofs.Vocabulary.{has_decaying, has_inward_decaying, Counts, Shape, Stands, Words, Spares, Stages, inner_of, Terminals}
use Rattle.ipcz_world.proofs.Vocabulary.{EndPlaces, BooksKept, Conserved, HeldOnce, times_held, Items, Order, ProxyNumbers, FreshNumbers, Inv}
use Rattle.ipcz_world.proofs.Vocabulary.{spare_of, IsItemUnderWay, Gones, is_left, decays}
use Rattle.ipcz_world.proofs.frames.Frames.{same_key_tells}
use Rattle.ipcz_world.proofs.frames.OfRecords.{in_places}
use Rattle.ipcz_world.proofs.frames.StandingRules.{standing_rules}
use Rattle.ipcz_world.proofs.frames.Sums.{total_below-same}
use Rattle.ipcz_world.proofs.frames.Weights.{in_option}
use Rattle.ipcz_world.proofs.frames.OneRouter.{SameWords, SameButRouter}
use Rattle.ipcz_world.proofs.frames.SameMessages.{recorded-same, under-same, made-same, bypasses-same, controls-same, moves-same}
use Rattle.ipcz_world.proofs.frames.Views.{IsPart, Seen, GivesUp, seen, next_sent-seen, taking-seen, may_have_sent-seen}
use Rattle.ipcz_world.proofs.frames.Views.{awaited-seen, gone-seen, standing-seen}
use Rattle.ipcz_world.proofs.frames.GivingUp.{Gives, IsBare, HasSameFlags, Keeps, same-messages, was, passes-still, passes-primary, counts-gives}
use Rattle.ipcz_world.proofs.frames.GivingUp.{ordered-gives, shape-gives, roles-gives, begun_part, stands-gives}
use Rattle.ipcz_world.proofs.frames.GivingUp.{flag-still}
use Rattle.ipcz_world.proofs.frames.GonesKept.{IsGoneLike, gones-by}
use Rattle.ipcz_world.proofs.frames.EndsKept.{terminal-kept, ends-kept}
use Rattle.ipcz_world.proofs.frames.WordsKept.{word-kept}

pub has_some : (o : Option LinkEnd) (l : LinkId) (s : Side) → has_link o l s ≡ true → is_some o ≡ true
unfolding has_link
has_some None l s h = grind (arith, h)
has_some (Some e) l s h = refl

pub words-gives : (w v : World) (g : Records) (k : Key) (r : Router) (x : Option Router) → Gives w v k r x → IsBare r x → Keeps w v r x → Stands w g →
    Words w g → Words v g
words-gives w v g k r x c bare keeps stands law = record {
  each = λ i. word-kept {w = w}
      (record {
        word = keeps.words.words i;
        linked = refl;
        begun = refl;
        early = λ l. l;
        side = λ b. refl;
        inner = λ b. refl;
        left = λ s. refl;
        marked = λ s a b n. flag-still c bare keeps _ (side_router g (Central i) s) (λ y p. p.marked) (there i s a b n);
        holds = λ s a b n. flag-still c bare keeps _ (side_router g (Central i) s) (λ y p. p.holds) (there i s a b n);
      })
      (law.each i);
  source = sourced-by w v (λ q y at h. let z : WasSame w q y = was_same c keeps q y at in
      record { router = z.router; at = z.at; primary = z.part.primary; inward = z.part.inward_primary; holds = λ h. sym z.flags.holds ∙ h })
      (λ q y e i at p l. ap (λ (z : Word). z.source) (keeps.words.words i)) law.source;
}
  where
    there : (i : ℕ) (s : Side) → is_linked (g.owner i) ≡ true → is_begun (g.bypass i) ≡ false → is_left g (Central i) s ≡ false →
        side_router g (Central i) s ≡ Some k → is_some r.outward.primary ≡ true
    there i s a b n e = has_some r.outward.primary (Central i) s (grind (arith, standing_rules, stands.central i s k a b n e, c.here))

pub spares-gives : (w v : World) (g : Records) (k : Key) (r : Router) (x : Option Router) → Gives w v k r x →
    ((y : Router) → x ≡ Some y → y.spare ≡ r.spare) → (x ≡ None → r.spare ≡ None) → Spares w g → Spares v g
unfolding spare_of
spares-gives w v g k r x c same left law = record {
  spare = λ q y i at h. there q y i at h (same_key_tells q k);
  spare_back = λ q i h. back q i (law.spare_back q i h) (same_key_tells q k) x refl;
  opening = λ n i h. law.opening n i (sym (c.one.nodes n).opening ∙ h);
  opening_back = λ n i h. (c.one.nodes n).opening ∙ law.opening_back n i h;
  fresh = law.fresh;
  fresh_back = law.fresh_back;
}
  where
    there : (q : Key) (y : Router) (i : ℕ) → router_at v q ≡ Some y → y.spare ≡ Some i →
        ((same_key q k ≡ true) × (q ≡ k)) ⊎ ((same_key q k ≡ false) × (q ≢ k)) → g.owner i ≡ Spare q
    there q y i at h (inl e) = law.spare q r i (grind (arith, e, c.here)) (sym (same y (grind (arith, e, c.one.routers q, at))) ∙ h)
    there q y i at h (inr e) = law.spare q y i (grind (arith, e, c.one.routers q, at)) h

    back : (q : Key) (i : ℕ) → spare_of (router_at w q) ≡ Some i → ((same_key q k ≡ true) × (q ≡ k)) ⊎ ((same_key q k ≡ false) × (q ≢ k)) →
        (z : Option Router) → x ≡ z → spare_of (router_at v q) ≡ Some i
    back q i h (inl e) None f = absurd (grind (arith, h, e, c.here, left f))
    back q i h (inl e) (Some y) f = grind (arith, h, e, c.here, c.one.routers q, f, same y f)
    back q i h (inr e) z f = grind (arith, h, e, c.one.routers q)

-- what is given up was settled before: as the proxy from stage 4 on, inward of it from stage 5 on, with nothing on the way and all sent
-- that comes over the link
pub record Settled (w v : World) (g : Records) (k : Key) (r : Router) (x : Option Router) : Type 0 where
  pub own_old : (o : ℕ) → (g.bypass o).proxy ≡ k → is_begun (g.bypass o) ≡ true → (g.bypass o).stage ≤ 3 →
      has_decaying (Central o) (proxy_side g o) r ≡ true → passes x (has_decaying (Central o) (proxy_side g o)) ≡ true
  pub own_inner : (o : ℕ) → (g.bypass o).proxy ≡ k → is_begun (g.bypass o) ≡ true → (g.bypass o).stage ≤ 3 →
      has_inward_decaying (inner_of g o) A r ≡ true → passes x (has_inward_decaying (inner_of g o) A) ≡ true
  pub inner : (o : ℕ) → side_router g (inner_of g o) B ≡ Some k → 2 ≤ (g.bypass o).stage → (g.bypass o).stage ≤ 4 →
      has_decaying (inner_of g o) B r ≡ true → passes x (has_decaying (inner_of g o) B) ≡ true
  pub known : (l : LinkId) (s : Side) → GivesUp l s r x (view w g l s) (view v g l s) →
      (is_some (side_length g l s) || is_left g l s) ≡ true
  pub nothing : (from to i : ℕ) (l : LinkId) (s : Side) (n : ℕ) (item : Item) (moves : List Descriptor) →
      IsItemUnderWay w from to i l s n item moves → GivesUp l s r x (view w g l s) (view v g l s) → ⊥
  pub across_gone : (o : ℕ) (q : Router) → router_at w (g.bypass o).proxy ≡ Some q → 3 ≤ (g.bypass o).stage →
      GivesUp (Central o) (across_side g o) r x (view w g (Central o) (across_side g o)) (view v g (Central o) (across_side g o)) →
      (g.bypass o).taken_at ≤ q.out_queue.current
  pub inner_gone : (o : ℕ) (q : Router) → router_at w (g.bypass o).proxy ≡ Some q → (g.bypass o).stage ≡ 5 →
      GivesUp (inner_of g o) B r x (view w g (inner_of g o) B) (view v g (inner_of g o) B) → (g.bypass o).accepted_at ≤ q.in_queue.current
  pub out_finished : (o : ℕ) (y : Router) → (g.bypass o).proxy ≡ k → 4 ≤ (g.bypass o).stage → x ≡ Some y → y.outward.decaying ≡ None →
      (g.bypass o).taken_at ≤ r.out_queue.current
  pub in_finished : (o : ℕ) (y : Router) → (g.bypass o).proxy ≡ k → 4 ≤ (g.bypass o).stage → x ≡ Some y → (inward_edge y).decaying ≡ None →
      (g.bypass o).accepted_at ≤ r.in_queue.current

pub stages-flags : (w v : World) (g : Records) (k : Key) (r : Router) (x : Option Router) → Gives w v k r x → IsBare r x → Settled w v g k r x →
    Stages w g → ((o : ℕ) → is_begun (g.bypass o) ≡ true → (g.bypass o).stage ≤ 2 →
    key_passes v (side_router g (Central o) (across_side g o)) (λ z. z.marked) ≡ true) →
    ((o : ℕ) → is_begun (g.bypass o) ≡ true → (g.bypass o).stage ≤ 2 →
    key_passes v (side_router g (Central o) (across_side g o)) (λ z. not z.holds) ≡ true) → Stages v g
stages-flags w v g k r x c bare is law marked free o = record {
  proxy_old = λ a b. passes-still c _ _ ((law o).proxy_old a b) (λ e. is.own_old o (same_Some _ _ e) a b);
  proxy_inner = λ a b. passes-still c _ _ ((law o).proxy_inner a b) (λ e. is.own_inner o (same_Some _ _ e) a b);
  proxy_begun = λ y a at. let p = was c _ y at in begun_part p.router y p.part ∙ (law o).proxy_begun p.router a p.at;
  proxy_end = λ y a at. let p = was c _ y at in p.part.end ∙ (law o).proxy_end p.router a p.at;
  across_old = λ a b. passes-still c _ _ ((law o).across_old a b) (λ e. passes-primary c bare _ _);
  across_marked = marked o;
  across_free = free o;
  across_fresh = λ a b. passes-still c _ _ ((law o).across_fresh a b) (λ e. passes-primary c bare _ _);
  inner_primary = λ q a e. passes-still c _ _ ((law o).inner_primary q a e) (λ f. passes-primary c bare _ _);
  inner_decaying = λ a b. passes-still c _ _ ((law o).inner_decaying a b) (λ e. is.inner o e a b);
}

pub stages-gives : (w v : World) (g : Records) (k : Key) (r : Router) (x : Option Router) → Gives w v k r x → IsBare r x → Keeps w v r x →
    Settled w v g k r x → Stages w g → Stages v g
stages-gives w v g k r x c bare keeps is law =
    stages-flags w v g k r x c bare is law (λ o a b. flag-still c bare keeps _ _ (λ y p. p.marked) (there o a b) ∙ (law o).across_marked a b)
    (λ o a b. flag-still c bare keeps _ _ (λ y p. ap not p.holds) (there o a b) ∙ (law o).across_free a b)
  where
    there : (o : ℕ) → is_begun (g.bypass o) ≡ true → (g.bypass o).stage ≤ 2 → side_router g (Central o) (across_side g o) ≡ Some k →
        is_some r.outward.primary ≡ true
    there o a b e = has_some r.outward.primary (Central o) (across_side g o)
        (grind (arith, standing_rules, (law o).across_old a b, e, c.here))

pub terminals-gives : (w v : World) (g : Records) (k : Key) (r : Router) (x : Option Router) → Gives w v k r x →
    (x ≡ None → is_terminal r ≡ false) → Terminals w g →
    Terminals v g
terminals-gives w v g k r x c lone law = record {
  each = λ q y at. let o = was c q y at in
      terminal-kept {g = g} {h = g} (λ e. refl) o.part.end (λ m. sym o.part.terminal ∙ m) (law.each q o.router o.at);
  stands = λ e q h. passes-still c _ _ (law.stands e q h) (λ f. terminal_passes e x refl);
  link_opened = λ l s a. law.link_opened l s (sym (recorded-same w v g l (same-messages c.one)) ∙ a);
  both = law.both;
  unopened = law.unopened;
  other_pair = law.other_pair;
}
  where
    terminal_passes : (e : End) (z : Option Router) → x ≡ z → is_terminal r && same_end r.end e ≡ true →
        passes z (λ y. is_terminal y && same_end y.end e) ≡ true
    terminal_passes e None f h = absurd (grind (arith, lone f, h))
    terminal_passes e (Some y) f h = grind (arith, standing_rules, (c.part y f).terminal, (c.part y f).end, h)

pub end_places-gives : (w v : World) (g : Records) (k : Key) (r : Router) (x : Option Router) → Gives w v k r x → EndPlaces w g →
    EndPlaces v g
end_places-gives w v g k r x c law = record {
  held = λ n e h. law.held n e (sym (ap (holds e) (c.one.nodes n).held) ∙ h);
  pending = λ n e h. law.pending n e (sym (ap (has_end e) (c.one.nodes n).pending) ∙ h);
  each = λ q y at. let o = was c q y at in
      ends-kept {g = g} {h = g} {r = o.router} (λ e. refl) (λ n item i. sym (ap (λ z. item_at z n) o.part.out_queue) ∙ i)
      (λ n item i. sym (ap (λ z. item_at z n) o.part.in_queue) ∙ i) (law.each q o.router o.at);
  within = λ n i l s number item moves e u h. law.within n i l s number item moves e (under-same w v _ _ _ _ (same-messages c.one) u) h;
}

pub books-gives : (w v : World) (b : Books) (g : Records) (k : Key) (r : Router) (x : Option Router) → Gives w v k r x → BooksKept w b g →
    BooksKept v b g
books-gives w v b g k r x c law = record {
  own_pair = law.own_pair;
  mark_last = law.mark_last;
  gone_last = law.gone_last;
  retired_closed = law.retired_closed;
  numbers = law.numbers;
  mark_seen = λ q y at h. let o = was c q y at in ap (λ e. is_closed b (opposite_end e)) o.part.end ∙ law.mark_seen q o.router o.at
      (sym o.part.mark_seen ∙ h);
}

pub part_gone : (r y : Router) → IsPart r y → IsGoneLike r y
part_gone r y p = record {
  end = p.end;
  current = ap (λ q. q.current) p.in_queue;
  out = ap (λ q. q.current) p.out_queue;
  terminal = p.terminal;
  inner = p.inward_primary;
  primary = p.primary;
  sent = p.gone_sent;
  dropped = p.mark_dropped;
  closed = p.closed;
  still = λ h. still y.outward.decaying (inward_edge y).decaying refl refl h;
}
  where
    still : (d e : Option LinkEnd) → y.outward.decaying ≡ d → (inward_edge y).decaying ≡ e → decays r ≡ false → decays y ≡ false
    still None None a b h = grind (arith, a, b)
    still (Some z) e a b h = absurd (grind (arith, p.decaying z a, h))
    still None (Some z) a b h = absurd (grind (arith, p.inward_decaying z b, h))

pub gones-gives : (w v : World) (b : Books) (g : Records) (k : Key) (r : Router) (x : Option Router) → Gives w v k r x → Gones w b g →
    Gones v b g
gones-gives w v b g k r x c law = gones-by w v b g g (λ q y at. let o = was c q y at in
    record { router = o.router; at = o.at; alike = part_gone o.router y o.part }) (λ l s h. h) law

see : {w v : World} {k : Key} {r : Router} {x : Option Router} → Gives w v k r x → (g : Records) (l : LinkId) (s : Side) →
    Seen l s r x (view w g l s) (view v g l s)
see {w} {v} {k} {r} {x} c g l s = seen w v g k r x l s c.one c.here c.part

pub items-gives : (w v : World) (g : Records) (k : Key) (r : Router) (x : Option Router) → Gives w v k r x → Settled w v g k r x →
    Items w g → Items v g
items-gives w v g k r x c is law = record {
  recorded = λ from to i l s n item moves u. recorded-same w v g l (same-messages c.one) ∙ law.recorded from to i l s n item moves
      (under u);
  sender = λ from to i l s n item moves u. law.sender from to i l s n item moves (under u);
  receiver = λ from to i l s n item moves u. law.receiver from to i l s n item moves (under u);
  below_length = λ from to i l s n item moves length u. law.below_length from to i l s n item moves length (under u);
  was_sent = λ from to i l s n item moves m u h. law.was_sent from to i l s n item moves m (under u)
      (next_sent-seen l (opposite s) r x _ _ m (see c g l (opposite s)) h);
  by_sender = λ from to i l s n item moves u. may_have_sent-seen l (opposite s) r x _ _ (see c g l (opposite s)) ∙ law.by_sender from to i l
      s n item moves (under u);
  sender_gone = λ from to i l s n item moves u h. elim (gone-seen l (opposite s) r x _ _ (see c g l (opposite s)) h) [
    | inl e ↦ law.sender_gone from to i l s n item moves (under u) e
    | inr e ↦ is.known l (opposite s) e
  ];
  not_passed = λ from to i l s n item moves q u h. law.not_passed from to i l s n item moves q (under u)
      (taking-seen l s r x _ _ q (see c g l s) h);
  behind = λ from to i l s n item moves u h. made-same w v from to i l s (same-messages c.one) ∙ law.behind from to i l s n item moves
      (under u) (sym (awaited-seen l s r x _ _ (see c g l s)) ∙ h);
  not_awaited_low = λ from to i j s n item moves o u. law.not_awaited_low from to i j s n item moves o (under u);
  receiver_there = λ from to i l s n item moves u. not_true (is_gone (view v g l s)) (λ h. elim (gone-seen l s r x _ _ (see c g l s) h) [
    | inl e ↦ absurd (grind (arith, law.receiver_there from to i l s n item moves (under u), e))
    | inr e ↦ is.nothing from to i l s n item moves (under u) e
  ]);
}
  where
    under : {from to i : ℕ} {m : Message} → IsUnderWay v from to i m → IsUnderWay w from to i m
    under u = under-same w v _ _ _ _ (same-messages c.one) u

    not_true : (b : Bool) → (b ≡ true → ⊥) → b ≡ false
    not_true true h = absurd (h refl)
    not_true false h = refl

pub order-gives : (w v : World) (g : Records) (k : Key) (r : Router) (x : Option Router) → Gives w v k r x → Order w g → Order v g
order-gives w v g k r x c law = record {
  current = λ l s u q a b d. law.current l s u q (sym (recorded-same w v g l (same-messages c.one)) ∙ a)
      (next_sent-seen l (opposite s) r x _ _ u (see c g l (opposite s)) b) (taking-seen l s r x _ _ q (see c g l s) d);
  stored = λ l s u q n item a b d. law.stored l s u q n item (sym (recorded-same w v g l (same-messages c.one)) ∙ a)
      (next_sent-seen l (opposite s) r x _ _ u (see c g l (opposite s)) b) (taking-seen l s r x _ _ q (see c g l s) d);
}

pub proxy_numbers-gives : (w v : World) (g : Records) (k : Key) (r : Router) (x : Option Router) → Gives w v k r x → Settled w v g k r x →
    ProxyNumbers w g → ProxyNumbers v g
proxy_numbers-gives w v g k r x c is law = record {
  out_current = λ o y at a. let p = was c _ y at in grind (arith, p.part.out_queue, law.out_current o p.router p.at a);
  out_items = λ o y n item at a i. let p = was c _ y at in law.out_items o p.router n item p.at a
      (sym (ap (λ z. item_at z n) p.part.out_queue) ∙ i);
  in_current = λ o y at a. let p = was c _ y at in grind (arith, p.part.in_queue, law.in_current o p.router p.at a);
  in_items = λ o y n item at a i. let p = was c _ y at in law.in_items o p.router n item p.at a
      (sym (ap (λ z. item_at z n) p.part.in_queue) ∙ i);
  across_gone = λ o y at a h. let p = was c _ y at in elim (gone-seen _ _ r x _ _ (see c g (Central o) (across_side g o)) h) [
    | inl e ↦ grind (arith, p.part.out_queue, law.across_gone o p.router p.at a e)
    | inr e ↦ grind (arith, p.part.out_queue, is.across_gone o p.router p.at a e)
  ];
  inner_gone = λ o y at a h. let p = was c _ y at in elim (gone-seen _ _ r x _ _ (see c g (inner_of g o) B) h) [
    | inl e ↦ grind (arith, p.part.in_queue, law.inner_gone o p.router p.at a e)
    | inr e ↦ grind (arith, p.part.in_queue, is.inner_gone o p.router p.at a e)
  ];
  out_finished = λ o y at a h. out o y at a h (same_key_tells (g.bypass o).proxy k);
  in_finished = λ o y at a h. inn o y at a h (same_key_tells (g.bypass o).proxy k);
}
  where
    out : (o : ℕ) (y : Router) → router_at v (g.bypass o).proxy ≡ Some y → 4 ≤ (g.bypass o).stage → y.outward.decaying ≡ None →
        ((same_key (g.bypass o).proxy k ≡ true) × ((g.bypass o).proxy ≡ k)) ⊎
        ((same_key (g.bypass o).proxy k ≡ false) × ((g.bypass o).proxy ≢ k)) → (g.bypass o).taken_at ≤ y.out_queue.current
    out o y at a h (inl e) = let f : x ≡ Some y = grind (arith, e, at, c.one.routers (g.bypass o).proxy) in
        grind (arith, (c.part y f).out_queue, is.out_finished o y e.1 a f h)
    out o y at a h (inr e) = law.out_finished o y (grind (arith, e, at, c.one.routers (g.bypass o).proxy)) a h

    inn : (o : ℕ) (y : Router) → router_at v (g.bypass o).proxy ≡ Some y → 4 ≤ (g.bypass o).stage → (inward_edge y).decaying ≡ None →
        ((same_key (g.bypass o).proxy k ≡ true) × ((g.bypass o).proxy ≡ k)) ⊎
        ((same_key (g.bypass o).proxy k ≡ false) × ((g.bypass o).proxy ≢ k)) → (g.bypass o).accepted_at ≤ y.in_queue.current
    inn o y at a h (inl e) = let f : x ≡ Some y = grind (arith, e, at, c.one.routers (g.bypass o).proxy) in
        grind (arith, (c.part y f).in_queue, is.in_finished o y e.1 a f h)
    inn o y at a h (inr e) = law.in_finished o y (grind (arith, e, at, c.one.routers (g.bypass o).proxy)) a h

pub fresh_numbers-gives : (w v : World) (g : Records) (k : Key) (r : Router) (x : Option Router) → Gives w v k r x → FreshNumbers w g →
    FreshNumbers v g
fresh_numbers-gives w v g k r x c law q y at = let o = was c q y at in record {
  own = λ p d n a b e. grind (
    arith,
    o.part.out_queue,
    (law q o.router o.at).own p d n (sym o.part.primary ∙ a) (o.part.decaying d b) (sym (o.part.length_to d b) ∙ e),
  );
  comes = λ p d length from to i n item moves a b e u.
      (law q o.router o.at).comes p d length from to i n item moves (sym o.part.primary ∙ a) (o.part.decaying d b) e
      (under-same w v _ _ _ _ (same-messages c.one) u);
  other = λ z p d n a b e h. let t = standing-seen _ _ r x _ _ z (see c g p.link (opposite p.side)) h in
      grind (arith, t.out_queue, (law q o.router o.at).other t.router p d n (sym o.part.primary ∙ a) (o.part.decaying d b) e t.stood);
}

-- nothing is lost or made
pub places-gives : {w v : World} {k : Key} {r : Router} {x : Option Router} → Gives w v k r x → k.node < w.count →
    (f : Weight) (g : Records) → in_places f g v ≡ in_places f g w
unfolding in_router
places-gives {w} {v} {k} {r} {x} c l f g = go x refl
  where
    go : (z : Option Router) → x ≡ z → in_places f g v ≡ in_places f g w
    go None e = omega (arith, c.one.places f g l, ap (in_option f) c.here, ap (in_option f) e, c.no_item e f)
    go (Some y) e = omega (arith, c.one.places f g l, ap (in_option f) c.here, ap (in_option f) e, same y (c.part y e))
      where
        same : (y : Router) → IsPart r y → in_router f y ≡ in_router f r
        same y p = grind (arith, p.end, p.out_queue, p.in_queue)

pub conserved-gives : (w v : World) (b : Books) (g : Records) (k : Key) (r : Router) (x : Option Router) → Gives w v k r x →
    k.node < w.count → Conserved w b g → Conserved v b g
conserved-gives w v b g k r x c l law = record {
  exact = λ e h. places-gives c l (at_end e h) g ∙ law.exact e h;
  read_put = law.read_put;
  prefix = law.prefix;
  gone_closed = law.gone_closed;
  reach = λ q y at h. let o = was c q y at in grind (
    arith,
    o.part.out_queue,
    o.part.end,
    law.reach q o.router o.at (sym o.part.terminal ∙ h),
  );
  current = λ q y at h. let o = was c q y at in grind (
    arith,
    o.part.in_queue,
    o.part.end,
    law.current q o.router o.at (sym o.part.terminal ∙ h),
  );
  sink = λ q y at h. let o = was c q y at in grind (arith, o.part.closed, o.part.end, law.sink q o.router o.at (sym o.part.terminal ∙ h));
  move_out = λ from to i j m d u. law.move_out from to i j m d (under-same w v _ _ _ _ (same-messages c.one) u);
  move_in = λ from to i j m d u. law.move_in from to i j m d (under-same w v _ _ _ _ (same-messages c.one) u);
  move_open = λ from to i j m d u. law.move_open from to i j m d (under-same w v _ _ _ _ (same-messages c.one) u);
  unopened_put = law.unopened_put;
  unopened_got = law.unopened_got;
}

pub held_once-gives : (w v : World) (b : Books) (g : Records) (k : Key) (r : Router) (x : Option Router) → Gives w v k r x →
    k.node < w.count → HeldOnce w b g → HeldOnce v b g
held_once-gives w v b g k r x c l law = record {
  once = λ e. omega (arith, law.once e, places-gives c l (names_end e) g, held e);
  moves_in_parcel = λ from to i l s n item moves j d u. law.moves_in_parcel from to i l s n item moves j d
      (under-same w v _ _ _ _ (same-messages c.one) u);
}
  where
    held : (e : End) → times_held v e ≡ times_held w e
    held e = ap (λ n. total_below n (λ i. held_times e (node_at v i).held + times e (node_at v i).pending)) c.one.count
        ∙ total_below-same w.count _ _ (λ i. omega (arith, ap (held_times e) (c.one.nodes i).held, ap (times e) (c.one.nodes i).pending))

-- the groups that read words or their flags, apart
pub record ByFlags (v : World) (g : Records) : Type 0 where
  pub counts : Counts v g
  pub shape : Shape v
  pub words : Words v g
  pub spares : Spares v g
  pub stages : Stages v g

-- the whole invariant is kept, if these groups are
pub inv-flags : (w v : World) (b : Books) (g : Records) (k : Key) (r : Router) (x : Option Router) → Gives w v k r x → IsBare r x → Settled w v g k r x →
    Inv w b g → ByFlags v g → Inv v b g
inv-flags w v b g k r x c bare is law flags = record {
  counts = flags.counts;
  ordered = ordered-gives w v k r x c law.ordered;
  shape = flags.shape;
  roles = roles-gives w v g k r x c law.roles;
  begun = law.begun;
  stands = stands-gives w v g k r x c bare law.stands;
  words = flags.words;
  spares = flags.spares;
  bypasses = bypasses-same w v g (same-messages c.one) law.bypasses;
  live = law.live;
  stages = flags.stages;
  controls = controls-same w v g (same-messages c.one) law.controls;
  moves = moves-same w v g (same-messages c.one) law.moves;
  terminals = terminals-gives w v g k r x c bare.no_terminal law.terminals;
  end_places = end_places-gives w v g k r x c law.end_places;
  books_kept = books-gives w v b g k r x c law.books_kept;
  retired_ends = law.retired_ends;
  gones = gones-gives w v b g k r x c law.gones;
  items = items-gives w v g k r x c is law.items;
  order = order-gives w v g k r x c law.order;
  proxy_numbers = proxy_numbers-gives w v g k r x c is law.proxy_numbers;
  fresh_numbers = fresh_numbers-gives w v g k r x c law.fresh_numbers;
  conserved = conserved-gives w v b g k r x c (law.counts.on_node k r c.here) law.conserved;
  held_once = held_once-gives w v b g k r x c (law.counts.on_node k r c.here) law.held_once;
  no_strays = λ n. (c.one.nodes n).strays ∙ law.no_strays n;
}

-- the whole invariant is kept if no word and no flag of a word changes
pub inv-gives : (w v : World) (b : Books) (g : Records) (k : Key) (r : Router) (x : Option Router) → Gives w v k r x → IsBare r x → Keeps w v r x →
    Settled w v g k r x → Inv w b g → Inv v b g
inv-gives w v b g k r x c bare keeps is law = inv-flags w v b g k r x c bare is law (record {
  counts = counts-gives w v g k r x c keeps.words.claimed law.counts;
  shape = shape-gives w v k r x c keeps law.shape;
  words = words-gives w v g k r x c bare keeps law.stands law.words;
  spares = spares-gives w v g k r x c (λ y e. (keeps.flags y e).spare) bare.no_spare law.spares;
  stages = stages-gives w v g k r x c bare keeps is law.stages;
})

-- a router that stays a part of itself
pub stays : (w v : World) (k : Key) (r y : Router) → SameButRouter w v k (Some y) → router_at w k ≡ Some r → IsPart r y →
    Gives w v k r (Some y)
stays w v k r y one here part = record {
  one = one;
  here = here;
  part = λ z e. subst (IsPart r) (same_Some y z e) part;
  no_item = λ e. absurd (none-some y (sym e));
}

-- and keeps its flags
pub keeps_all : (w v : World) (r y : Router) → SameWords w v → HasSameFlags r y → Keeps w v r (Some y)
keeps_all w v r y words flags = record {
  words = words;
  flags = λ z e. subst (HasSameFlags r) (same_Some y z e) flags;
}
