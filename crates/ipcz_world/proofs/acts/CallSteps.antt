-- The steps of callers: each keeps the invariant, with the books, the records and the routes that the run writes.
use Rattle.ipcz_world.proofs.Vocabulary.{B, End, Refusal, open_word, terminal_of, Reply, World, node_at, set_node, set_word, set_claimed, unless}
use Rattle.ipcz_world.proofs.Vocabulary.{Books, Records, Opening, Linked, is_linked, Inv, none, is_lost_owner, Profile, Printed, Wide, put_refusal}
use Rattle.ipcz_world.proofs.Vocabulary.{put_node, get_refusal, get_node, close_refusal, close_node, serials_refusal, open_node, Step, Effect, refuse}
use Rattle.ipcz_world.proofs.Vocabulary.{open_with, open_on, open_step, close_step, advance, routes_after, CentralRecord, routes_of}
use Rattle.ipcz_world.proofs.Vocabulary.{has_unclaimed_word}
use Rattle.ipcz_world.proofs.facts.Lost.{not_lost}
use Rattle.std.specs.Prelude.{◌≡◌, ◌<◌, ◌+◌, ℕ, Bool, true, false, cond, nat_eq, nat_lt, Option, Some, None, List, refl}
use Rattle.std.proofs.Common.{arith, ap, subst, ◌∙◌, sym}
use Rattle.std.proofs.lemmas.Bool.Decides.{nat_tests}
use Rattle.ipcz_base.specs.declared.parcel.Parcel as parcels
use Rattle.ipcz_base.specs.declared.refusal.Refusal.TheVariants as refusals
use Rattle.ipcz_node.specs.Calls.{put_number}
use Rattle.ipcz_world.specs.declared.step.Step.TheVariants.{Open, Get, Close}
use Rattle.ipcz_world.specs.declared.step.Reply.TheVariants as replies
use Rattle.ipcz_world.specs.Steps.{put_of, put_step, got_reply, get_reply, get_step}
use Rattle.ipcz_world.specs.Steps.{Gives}
use Rattle.ipcz_world.specs.Routes.{add_link}
use Rattle.ipcz_world.proofs.facts.RecordsAfter.{set_owner, set_central, at_side}
use Rattle.ipcz_world.proofs.facts.RecordsAfter.{opening_records, open_records, records_after}
use Rattle.ipcz_world.proofs.acts.Puts.{inv-put, inv-close}
use Rattle.ipcz_world.proofs.acts.Gets.{get_tells, inv-get}
use Rattle.ipcz_world.proofs.acts.OpeningPair.{inv-opened}
use Rattle.ipcz_world.proofs.acts.Opening.{inv-open}
use Rattle.ipcz_world.specs.Steps.{opened_reply}

-- what a step leads to: the invariant with the books and records after it, whose routes are those that the run writes
pub record Follows (w v : World) (b : Books) (g : Records) (step : Step) (reply : Reply) : Type 0 where
  pub inv : Inv v (advance w b step reply) (records_after w g step reply)
  pub routes : routes_of (records_after w g step reply) ≡ routes_after w (routes_of g) step reply

-- an effect, a refusal or want of memory
unless_by : (w : World) (o : Option Refusal) (done : Effect) (P : Effect → Type 0) → ((why : Refusal) → P (refuse w why)) →
    (o ≡ None → P done) → P (unless w o done)
unfolding unless
unless_by w None done P refused kept = kept refl
unless_by w (Some why) done P refused kept = refused why

cond_by : (c : Bool) (x y : Effect) (P : Effect → Type 0) → (c ≡ true → P x) → P y → P (cond c x y)
cond_by true x y P kept other = kept refl
cond_by false x y P kept other = other

module _ (w : World) (b : Books) (g : Records) (law : Inv w b g) where
  abbrev Keeps : Step → Effect → Type 0
  Keeps step done = Follows w done.world b g step done.reply

  -- what gives the same follows the same
  given : (step : Step) (done : Effect) (reply : Reply) (v : World) → Keeps step done → Gives done reply v → Follows w v b g step reply
  given step done reply v kept gives = subst (λ a. Follows w v b g step a) (sym gives.0)
      (subst (λ u. Follows w u b g step done.reply) (sym gives.1) kept)

  open_refused : (n : ℕ) (why : Refusal) → Keeps (Open n) (refuse w why)
  unfolding advance records_after routes_after
  open_refused n why = record { inv = law; routes = refl }

  put_refused : (profile : Profile) (n : ℕ) (at : End) (bytes : List ℕ) (ends : List End) (why : Refusal) →
      Keeps (put_of profile n at bytes ends) (refuse w why)
  unfolding advance records_after routes_after
  put_refused Printed n at bytes ends why = record { inv = law; routes = refl }
  put_refused Wide n at bytes ends why = record { inv = law; routes = refl }

  get_refused : (n : ℕ) (at : End) (why : Refusal) → Keeps (Get n at) (refuse w why)
  unfolding advance records_after routes_after
  get_refused n at why = record { inv = law; routes = refl }

  close_refused : (n : ℕ) (at : End) (why : Refusal) → Keeps (Close n at) (refuse w why)
  unfolding advance records_after routes_after
  close_refused n at why = record { inv = law; routes = refl }

  -- a put
  put_done : (profile : Profile) (n : ℕ) (at : End) (bytes : List ℕ) (ends : List End) →
      put_refusal profile (node_at w n) at bytes ends ≡ None →
      Keeps (put_of profile n at bytes ends) (record {
        reply = replies.Put (put_number (node_at w n) at);
        world =
            set_node w n (put_node (node_at w n) at (record { bytes = bytes; ends = ends }));
      })
  unfolding advance records_after routes_after
  put_done Printed n at bytes ends h =
      record { inv = inv-put Printed w b g n at (record { bytes = bytes; ends = ends }) law h; routes = refl }
  put_done Wide n at bytes ends h =
      record { inv = inv-put Wide w b g n at (record { bytes = bytes; ends = ends }) law h; routes = refl }

  pub put-kept : (profile : Profile) (n : ℕ) (at : End) (bytes : List ℕ) (ends : List End) →
      Keeps (put_of profile n at bytes ends) (put_step profile w n at (record { bytes = bytes; ends = ends }))
  put-kept profile n at bytes ends = cond_by (nat_lt n w.count) _ _ (Keeps (put_of profile n at bytes ends))
      (λ l. unless_by w (put_refusal profile (node_at w n) at bytes ends) _ (Keeps (put_of profile n at bytes ends))
      (put_refused profile n at bytes ends)
      (put_done profile n at bytes ends)) (put_refused profile n at bytes ends refusals.Stranger)

  -- a close
  close_done : (n : ℕ) (at : End) → close_refusal (node_at w n) at ≡ None →
      Keeps (Close n at) (record {
        reply = replies.Closed (put_number (node_at w n) at);
        world =
            set_node w n (close_node (node_at w n) at);
      })
  unfolding advance records_after routes_after
  close_done n at h = record { inv = inv-close w b g n at law h; routes = refl }

  pub close-kept : (n : ℕ) (at : End) → Keeps (Close n at) (close_step w n at)
  close-kept n at = cond_by (nat_lt n w.count) _ _ (Keeps (Close n at))
      (λ l. unless_by w (close_refusal (node_at w n) at) _ (Keeps (Close n at)) (close_refused n at) (close_done n at))
      (close_refused n at refusals.Stranger)

  -- a get
  got_done : (n : ℕ) (at : End) (number : ℕ) (p : parcels.Parcel) (v : World) → Inv v (advance w b (Get n at) (replies.Got number p)) g →
      Follows w v b g (Get n at) (replies.Got number p)
  unfolding records_after routes_after
  got_done n at number p v inv = record { inv = inv; routes = refl }

  get_done : (n : ℕ) (at : End) → get_refusal (node_at w n) at ≡ None →
      Keeps (Get n at) (record { reply = get_reply (terminal_of (node_at w n) at); world = set_node w n (get_node (node_at w n) at) })
  unfolding advance get_reply got_reply
  get_done n at h =
      let is = get_tells (node_at w n) at h in
      let said : get_reply (terminal_of (node_at w n) at) ≡ replies.Got is.found.router.in_queue.current is.parcel =
      ap get_reply is.is_found ∙ ap (got_reply is.found.router.in_queue.current) is.item in
      subst (λ a. Follows w (set_node w n (get_node (node_at w n) at)) b g (Get n at) a) (sym said)
      (got_done n at is.found.router.in_queue.current is.parcel (set_node w n (get_node (node_at w n) at)) (inv-get w b g n at law is))

  pub get-kept : (n : ℕ) (at : End) → Keeps (Get n at) (get_step w n at)
  get-kept n at = cond_by (nat_lt n w.count) _ _ (Keeps (Get n at))
      (λ l. unless_by w (get_refusal (node_at w n) at) _ (Keeps (Get n at)) (get_refused n at) (get_done n at))
      (get_refused n at refusals.Stranger)

  -- an open: the records of both of its halves are those of the whole
  halves_same : (n i serial : ℕ) → open_records (opening_records g n i) n i serial ≡ open_records g n i serial
  halves_same n i serial = ap (λ o. record (open_records g n i serial) { owner = o }) (λ t j. twice (nat_eq j i) j t)
    where
      twice : (c : Bool) (j : ℕ) → cond c Linked (cond c (Opening n) (g.owner j)) ≡ cond c Linked (g.owner j)
      twice true j = refl
      twice false j = refl

  linked_routes : (i : ℕ) (c : CentralRecord) → is_lost_owner (g.owner i) ≡ false → routes_of (set_central (set_owner g i Linked) i c) ≡ add_link (routes_of g) i c.pair
  unfolding is_linked is_lost_owner
  linked_routes i c free = λ t. record {
    is_link = λ j. link (nat_eq j i) j t;
    pair = λ j. pair (nat_eq j i) j t;
    end =
        λ k. (g.peripheral k).end;
    lost = λ j. lost j (nat_eq j i) refl t;
  }
    where
      lost : (j : ℕ) (d : Bool) → nat_eq j i ≡ d → is_lost_owner (cond d Linked (g.owner j)) ≡ is_lost_owner (g.owner j)
      lost j true e = let s : j ≡ i = grind (arith, e, nat_tests) in sym (ap (λ x. is_lost_owner (g.owner x)) s ∙ free)
      lost j false e = refl

      link : (d : Bool) (j : ℕ) → is_linked (cond d Linked (g.owner j)) ≡ cond d true (is_linked (g.owner j))
      link true j = refl
      link false j = refl

      pair : (d : Bool) (j : ℕ) → (cond d c (g.central j)).pair ≡ cond d c.pair (g.central j).pair
      pair true j = refl
      pair false j = refl

  open_routes : (n i serial : ℕ) → is_lost_owner (g.owner i) ≡ false →
      routes_of (open_records g n i serial) ≡ add_link (routes_of g) i i
  open_routes n i serial free = linked_routes i (record {
    pair = i;
    node = λ s. n;
    router = at_side (λ s. Some serial) B (Some (serial + 1));
    born = None;
    left = none;
  }) free

  open_done : (n i : ℕ) (v : World) (serial : ℕ) → is_lost_owner (g.owner i) ≡ false → (node_at w n).next_router ≡ serial → Inv v b (open_records g n i serial) →
      Follows w v b g (Open n) (opened_reply i)
  unfolding advance records_after routes_after
  open_done n i v serial free e inv = record {
    inv = subst (λ s. Inv v b (open_records g n i s)) (sym e) inv;
    routes =
        open_routes n i (node_at w n).next_router free;
  }

  on_word : (n : ℕ) → n < w.count → (o : Option ℕ) → (node_at w n).opening ≡ o → Keeps (Open n) (open_on w n o)
  unfolding open_on is_lost_owner
  on_word n l (Some i) e = unless_by w (serials_refusal (node_at w n)) _ (Keeps (Open n)) (open_refused n)
      (λ h. open_done n i (set_word (set_node w n (open_node (node_at w n) i)) i open_word) (node_at w n).next_router
      (ap is_lost_owner (law.spares.opening n i e)) refl (inv-opened w b g n i law l e))
  on_word n l None e = cond_by (has_unclaimed_word w) (open_with w (set_claimed w (w.claimed + 1)) n w.claimed)
      (refuse w refusals.NoWord) (Keeps (Open n))
      (λ room. unless_by w (serials_refusal (node_at w n)) _ (Keeps (Open n)) (open_refused n)
      (λ h. open_done n w.claimed (set_word (set_node (set_claimed w (w.claimed + 1)) n (open_node (node_at w n) w.claimed)) w.claimed
      open_word) (node_at w n).next_router (not_lost (g.owner w.claimed) (law.counts.unclaimed w.claimed ∙ grind (arith, nat_tests))) refl
      (subst (Inv (set_word (set_node (set_claimed w (w.claimed + 1)) n (open_node (node_at w n) w.claimed)) w.claimed open_word) b)
      (halves_same n w.claimed (node_at w n).next_router) (inv-open w b g n law l (grind (arith, room, nat_tests)) e))))
      (open_refused n refusals.NoWord)

  pub open-kept : (n : ℕ) → Keeps (Open n) (open_step w n)
  open-kept n = cond_by (nat_lt n w.count) (open_on w n (node_at w n).opening) (refuse w refusals.Stranger) (Keeps (Open n))
      (λ l. on_word n (grind (arith, l, nat_tests)) (node_at w n).opening refl) (open_refused n refusals.Stranger)
