-- In a quiet world all is delivered, no link decays, routers on central links are marked, and nobody holds a lock.
use Rattle.ipcz_world.proofs.frames.RolesTell.{positions-in}
use Rattle.std.specs.Prelude.{◌≡◌, ◌⊎◌, ◌≤◌, ◌<◌, ℕ, zero, suc, ◌+◌, Bool, true, false, cond, not, ◌&&◌, ◌||◌, nat_eq, nat_le, nat_lt, Option, Some}
use Rattle.std.specs.Prelude.{None}
use Rattle.std.specs.Prelude.{is_some, [], length, slice_get, refl}
use Rattle.std.proofs.Common.{arith, ap, subst, ◌∙◌, sym, inl, inr}
use Rattle.std.proofs.lemmas.Bool.Decides.{nat_tests}
use Rattle.std.proofs.lemmas.Bool.{or_left}
use Rattle.std.proofs.lemmas.Option.{none-some, same_Some}
use Rattle.ipcz_world.proofs.facts.Tests.{not_both}
use Rattle.ipcz_world.proofs.Vocabulary.{Side, A, B, End, LinkId, Central, Peripheral, LinkEnd, Item, opposite, opposite_end, same_end, Edge, Queue}
use Rattle.ipcz_world.proofs.Vocabulary.{item_at, current_item, Router, is_terminal, is_possible, inward_edge, World, Key, node_at, router_at, Books}
use Rattle.ipcz_world.proofs.Vocabulary.{read, Records, side_length, proxy_side, across_side, inner_link, inner_of, under_way, total, total_list}
use Rattle.ipcz_world.proofs.Vocabulary.{Standing, view, is_attached, has_primary, Inv, Weight, in_router, at_end, has_link, standing_router}
use Rattle.ipcz_world.proofs.Vocabulary.{is_nowhere, reach, is_proxy, decays, is_on_central, way_out, way_in, AreFlagged, IsRanked, routes_of}
use Rattle.ipcz_world.proofs.Vocabulary.{IsQuiet, has_inward_primary, is_begun_router, has_role, link_in, is_done, is_retired, Nowhere, Moving}
use Rattle.ipcz_world.proofs.Vocabulary.{Retired, move_weight}
use Rattle.ipcz_world.proofs.lawful.Following.{on-central}
use Rattle.ipcz_base.specs.Items.{same_item}
use Rattle.ipcz_edge.specs.Edge.{is_short_of, choose, can_finish, has_come_to}
use Rattle.ipcz_router.specs.declared.act.RouterAct.{RouterAct}
use Rattle.ipcz_router.specs.declared.act.RouterAct.TheVariants as acts
use Rattle.ipcz_world.specs.Owed.{GoneUnread}
use Rattle.ipcz_world.specs.Places.{just}
use Rattle.ipcz_world.proofs.frames.BegunLengths.{length-proxy, length-inward}
use Rattle.ipcz_world.proofs.facts.Lengths.{HasEnd, has_link-tells, opposite-twice, known_from-yes}
use Rattle.ipcz_world.proofs.facts.LinkTests.{opposite_end-twice, same_end-tells}
use Rattle.ipcz_world.proofs.facts.Reaching.{is_reach}
use Rattle.ipcz_world.proofs.facts.Tests.{some_is}
use Rattle.ipcz_world.proofs.frames.Flowing.{found}
use Rattle.ipcz_world.proofs.lawful.EachOnce.{once}
use Rattle.ipcz_world.proofs.lawful.LengthLaws.{outward_case, attached_view}
use Rattle.ipcz_world.proofs.lawful.Quiet.{nothing-moves, nothing-possible, choose-some, total-zero, total_below-zero, in_node-is}
use Rattle.ipcz_world.proofs.lawful.Quiet.{router-is, slice_get-none}
use Rattle.ipcz_world.proofs.lawful.Quiet.{key_of}
use Rattle.ipcz_world.proofs.lawful.QuietBypasses.{settled}
use Rattle.ipcz_world.proofs.lawful.QuietRoutes.{IsLacked, inward_lacks, outward_lacks, outward_given, HasOuter, HasAcross, outer_router}
use Rattle.ipcz_world.proofs.lawful.QuietRoutes.{HasBegun, begun_tells, StandsOver, across_stands, inner_stands, begun_out_lacks}
use Rattle.ipcz_world.proofs.lawful.QuietRoutes.{begun_in_lacks, not_begun, standing_end, HasTerminal, inward_terminal}
use Rattle.ipcz_world.specs.Books.{is_closed}
use Rattle.ipcz_world.specs.Records.{Terminal, At}
use Rattle.ipcz_world.specs.Flows.{of_end, moves_of}
use Rattle.ipcz_world.proofs.acts.Moved.{passes_tells}
use Rattle.std.proofs.lemmas.Bool.{and_parts}
use Rattle.ipcz_world.proofs.frames.Bypassed as bypassed
use Rattle.ipcz_world.proofs.frames.OfRecords.{in_node, in_message}
use Rattle.ipcz_world.proofs.frames.Weighing.{in_places-is, in_router-is}

-- a decaying link is chosen below its length
choose-decaying : (e : Edge) (n l : ℕ) → is_some e.decaying ≡ true → e.length_to ≡ Some l → n < l → is_some (choose e n) ≡ true
unfolding choose is_short_of
choose-decaying e n l h k below = grind (arith, h, k, below, nat_tests)

-- the number of an item that isn't the current one, in a queue without that
behind : (q : Queue Item) (n : ℕ) (z : Item) → q.current ≤ n → item_at q n ≡ Some z → current_item q ≡ None → q.current < n
behind q n z low at bare = go (nat_eq q.current n) refl
  where
    go : (c : Bool) → nat_eq q.current n ≡ c → q.current < n
    go true e =
        let same : q.current ≡ n = grind (arith, e, nat_tests) in
        absurd (none-some z (sym bare ∙ ap (item_at q) same ∙ at))
    go false e = grind (arith, e, low, nat_tests)

-- a router that hasn't begun has an outward primary link
pub primed : (r : Router) → has_role r ≡ true → is_begun_router r ≡ false → is_some r.outward.primary ≡ true
primed r h e = go (is_terminal r) (is_some (inward_edge r).primary) refl refl
  where
    go : (c d : Bool) → is_terminal r ≡ c → is_some (inward_edge r).primary ≡ d → is_some r.outward.primary ≡ true
    go true d f k = grind (arith, f, h)
    go false true f k = grind (arith, f, k, h)
    go false false f k = absurd (grind (arith, f, k, e))

-- a router with an inward primary link is a proxy
pub inward_proxy : (z : Router) (l : LinkId) → has_inward_primary l A z ≡ true → is_proxy z ≡ true
inward_proxy z l on =
    let e : HasEnd (inward_edge z).primary l A = has_link-tells (inward_edge z).primary l A on in
    grind (arith, e.there)

-- a router is seen at its primary link
attached_at : (i : ℕ) (s : Side) (z : Router) → has_primary (Central i) s z ≡ true → is_attached (Central i) s z ≡ true
unfolding is_attached
attached_at i s z h = or_left (has_link z.outward.primary (Central i) s) (has_link z.outward.decaying (Central i) s) h

module _ (w : World) (b : Books) (g : Records) (law : Inv w b g) (quiet : IsQuiet w) (ranked : IsRanked w) (flagged : AreFlagged w) where
  pub idle : (k : Key) (r : Router) (act : RouterAct) → router_at w k ≡ Some r → is_possible r act ≡ false
  idle k r act here = nothing-possible w flagged quiet k r act (law.counts.on_node k r here) here

  -- an item that can go doesn't stand in its queue
  pub out_stuck : (k : Key) (r : Router) → router_at w k ≡ Some r → is_some (way_out r) ≡ true → current_item r.out_queue ≡ None
  unfolding is_possible
  out_stuck k r here way = go (current_item r.out_queue) refl
    where
      go : (o : Option Item) → current_item r.out_queue ≡ o → current_item r.out_queue ≡ None
      go None e = e
      go (Some z) e = absurd (grind (arith, idle k r acts.SendOut here, way, e))

  pub in_stuck : (k : Key) (r : Router) → router_at w k ≡ Some r → is_some (way_in r) ≡ true → current_item r.in_queue ≡ None
  unfolding is_possible
  in_stuck k r here way = go (current_item r.in_queue) refl
    where
      go : (o : Option Item) → current_item r.in_queue ≡ o → current_item r.in_queue ≡ None
      go None e = e
      go (Some z) e = absurd (grind (arith, idle k r acts.SendIn here, way, e))

  -- what isn't read stands somewhere
  nowhere : (d : End) (n : ℕ) (x : Item) → read b (opposite_end d) ≤ n → slice_get (b.put d) n ≡ Some x →
      ((q : Key) (y : Router) → router_at w q ≡ Some y → y.end ≡ d → item_at y.out_queue n ≡ None) →
      ((q : Key) (y : Router) → router_at w q ≡ Some y → opposite_end y.end ≡ d → item_at y.in_queue n ≡ None) → ⊥
  nowhere d n x unread put outs inns = omega (
    arith,
    once w b (routes_of g) law.conserved.exact d n x unread put,
    in_places-is f g w,
    nothing_under_way,
    total_below-zero w.count (λ j. in_node f g (node_at w j)) (λ j l. node_bare j),
  )
    where
      f : Weight
      f = at_end d (just n x)

      nothing_under_way : under_way (λ from to m. in_message f g m) w ≡ 0
      nothing_under_way = none (under_way (λ from to m. in_message f g m) w) refl
        where
          none : (a : ℕ) → under_way (λ from to m. in_message f g m) w ≡ a → under_way (λ from to m. in_message f g m) w ≡ 0
          none zero e = e
          none (suc a) e = let t = found (λ from to m. in_message f g m) w (omega (arith, e)) in
              absurd (nothing-moves w quiet t.0 t.1 t.2 t.3 t.4)

      weightless : (c : Bool) (m : ℕ) (z : Item) (q : Queue Item) → item_at q n ≡ None → item_at q m ≡ Some z → cond c (just n x m z) 0 ≡ 0
      weightless false m z q lacks h = refl
      weightless true m z q lacks h = go (nat_eq m n) refl
        where
          go : (c : Bool) → nat_eq m n ≡ c → just n x m z ≡ 0
          go false e = ap (λ c. cond (c && same_item z x) 1 0) e
          go true e =
              let same : m ≡ n = grind (arith, e, nat_tests) in absurd (none-some z (sym lacks ∙ ap (item_at q) (sym same) ∙ h))

      router_bare : (q : Key) (y : Router) → router_at w q ≡ Some y → in_router f y ≡ 0
      router_bare q y at = in_router-is f y ∙ omega (arith, out (same_end y.end d) refl, inn (same_end (opposite_end y.end) d) refl)
        where
          out : (c : Bool) → same_end y.end d ≡ c → total (f y.end) y.out_queue.items ≡ 0
          out false e = total-zero (f y.end) y.out_queue.items (λ m z h. ap (λ c. cond c (just n x m z) 0) e)
          out true e = total-zero (f y.end) y.out_queue.items
              (λ m z h. weightless (same_end y.end d) m z y.out_queue (outs q y at (same_end-tells y.end d e)) h)

          inn : (c : Bool) → same_end (opposite_end y.end) d ≡ c → total (f (opposite_end y.end)) y.in_queue.items ≡ 0
          inn false e = total-zero (f (opposite_end y.end)) y.in_queue.items (λ m z h. ap (λ c. cond c (just n x m z) 0) e)
          inn true e = total-zero (f (opposite_end y.end)) y.in_queue.items
              (λ m z h. weightless (same_end (opposite_end y.end) d) m z y.in_queue
              (inns q y at (same_end-tells (opposite_end y.end) d e)) h)

      node_bare : (j : ℕ) → in_node f g (node_at w j) ≡ 0
      node_bare j = in_node-is f g (node_at w j) ∙ omega (
        arith,
        total-zero (λ s y. in_router f y) (node_at w j).routers
            (λ s y at. router_bare (record { node = j; serial = s }) y (router-is w j s ∙ at)),
        ap (total_list (in_message f g)) (law.no_strays j),
      )

  -- what an end's peer has put under a number, and it hasn't read, stands at its terminal
  abbrev Delivers : End → ℕ → Type 0
  Delivers e n = (k : Key) (r : Router) → router_at w k ≡ Some r → is_terminal r ≡ true → r.end ≡ e → read b e ≤ n →
      n < length (b.put (opposite_end e)) → item_at r.in_queue n ≡ None → ⊥

  delivers : (e : End) (n : ℕ) → ((m : ℕ) → m < n → Delivers e m) → Delivers e n
  delivers e n before k r here terminal end unread given bare = go (slice_get (b.put (opposite_end e)) n) refl
    where
      clash : (m : ℕ) → m < n → IsLacked w e m → ⊥
      clash m l t = before m l t.key t.router t.here t.terminal t.end
          (omega (arith, t.lacks.current, law.conserved.current t.key t.router t.here t.terminal, ap (read b) t.end))
          (omega (arith, l, given))
          t.lacks.none

      outs : (q : Key) (y : Router) → router_at w q ≡ Some y → y.end ≡ opposite_end e → item_at y.out_queue n ≡ None
      outs q y at is = look (item_at y.out_queue n) refl
        where
          over : opposite_end y.end ≡ e
          over = ap opposite_end is ∙ opposite_end-twice e

          look : (o : Option Item) → item_at y.out_queue n ≡ o → item_at y.out_queue n ≡ None
          look None h = h
          look (Some z) h = absurd (by (is_begun_router y) refl)
            where
              low : y.out_queue.current ≤ n
              low = (law.ordered q y at).out n z h

              by : (c : Bool) → is_begun_router y ≡ c → ⊥
              by false f =
                  let first : is_some y.outward.primary ≡ true = primed y ((law.shape q y at).role) f in
                  let none : current_item y.out_queue ≡ None = out_stuck q y at (choose-some y.outward y.out_queue.current first) in
                  elim (outward_lacks w b g law quiet ranked flagged (ranked.rank q + 1) q y y.out_queue.current at first (omega arith)
                  (record { current = omega arith; none = none })) [
                    | inl lacked ↦ clash y.out_queue.current (behind y.out_queue n z low h none)
                        (subst (λ d. IsLacked w d y.out_queue.current) over lacked)
                    | inr gone ↦ standing_end w b g law quiet ranked flagged k r here terminal (ap (is_retired b) (end ∙ sym over) ∙ gone)
                  ]
              by true f =
                  let is = begun_tells w b g law quiet ranked flagged q y at f in
                  let proxy = ap (router_at w) is.by.proxy ∙ at in
                  let short : n < (g.bypass is.old).taken_at = law.proxy_numbers.out_items is.old y n z proxy (omega (arith, is.stage)) h in
                  let none : current_item y.out_queue ≡ None = out_stuck q y at
                  (way is (omega (arith, low, short)) y.outward.decaying refl) in
                  clash y.out_queue.current (behind y.out_queue n z low h none)
                  (subst (λ d. IsLacked w d y.out_queue.current) over
                  (begun_out_lacks w b g law quiet ranked flagged q y at is y.out_queue.current (omega (arith, low, short))
                  (record { current = omega arith; none = none })))
                where
                  way : (is : HasBegun w b g law quiet ranked flagged q y) → y.out_queue.current < (g.bypass is.old).taken_at →
                      (o : Option LinkEnd) →
                      y.outward.decaying ≡ o → is_some (way_out y) ≡ true
                  way is l None a = absurd (omega (
                    arith,
                    l,
                    law.proxy_numbers.out_finished is.old y (ap (router_at w) is.by.proxy ∙ at)
                        (omega (arith, is.stage)) a,
                  ))
                  way is l (Some d) a =
                      let named = bypassed.proxy-outward law is.by d a in
                      choose-decaying y.outward y.out_queue.current (g.bypass is.old).taken_at (ap is_some a)
                      (((positions-in law).each q y at).own_to d is.old a named.link named.side
                      ∙ known_from-yes 4 (g.bypass is.old).stage (g.bypass is.old).taken_at (omega (arith, is.stage))) l

      inns : (q : Key) (y : Router) → router_at w q ≡ Some y → opposite_end y.end ≡ opposite_end e → item_at y.in_queue n ≡ None
      inns q y at over = look (item_at y.in_queue n) refl
        where
          is : y.end ≡ e
          is = sym (opposite_end-twice y.end) ∙ ap opposite_end over ∙ opposite_end-twice e

          look : (o : Option Item) → item_at y.in_queue n ≡ o → item_at y.in_queue n ≡ None
          look None h = h
          look (Some z) h = absurd (by (is_terminal y) (is_begun_router y) refl refl)
            where
              low : y.in_queue.current ≤ n
              low = (law.ordered q y at).inn n z h

              by : (t c : Bool) → is_terminal y ≡ t → is_begun_router y ≡ c → ⊥
              by true c t f =
                  let keys : q ≡ k = same_Some q k (ap key_of (sym ((law.terminals.each q y at).terminal t) ∙ ap g.terminal (is ∙ sym end)
                  ∙ (law.terminals.each k r here).terminal terminal)) in
                  let same : y ≡ r = same_Some y r (sym at ∙ ap (router_at w) keys ∙ here) in
                  none-some z (sym bare ∙ ap (λ a. item_at a.in_queue n) (sym same) ∙ h)
              by false false t f =
                  let none : current_item y.in_queue ≡ None = in_stuck q y at
                  (choose-some (inward_edge y) y.in_queue.current (inner t f)) in
                  clash y.in_queue.current (behind y.in_queue n z low h none)
                  (subst (λ d. IsLacked w d y.in_queue.current) is
                  (inward_lacks w b g law quiet ranked flagged ranked.limit q y y.in_queue.current at f (omega arith)
                  (record { current = omega arith; none = none })))
                where
                  inner : is_terminal y ≡ false → is_begun_router y ≡ false → is_some (inward_edge y).primary ≡ true
                  inner t f = grind (arith, t, f)
              by false true t f =
                  let begun = begun_tells w b g law quiet ranked flagged q y at f in
                  let proxy = ap (router_at w) begun.by.proxy ∙ at in
                  let short : n < (g.bypass begun.old).accepted_at = law.proxy_numbers.in_items begun.old y n z proxy
                  (omega (arith, begun.stage)) h in
                  let none : current_item y.in_queue ≡ None = in_stuck q y at
                  (way begun (omega (arith, low, short)) (inward_edge y).decaying refl) in
                  clash y.in_queue.current (behind y.in_queue n z low h none)
                  (subst (λ d. IsLacked w d y.in_queue.current) is
                  (begun_in_lacks w b g law quiet ranked flagged q y at begun y.in_queue.current (omega (arith, low, short))
                  (record { current = omega arith; none = none })))
                where
                  way : (is : HasBegun w b g law quiet ranked flagged q y) → y.in_queue.current < (g.bypass is.old).accepted_at →
                      (o : Option LinkEnd) →
                      (inward_edge y).decaying ≡ o → is_some (way_in y) ≡ true
                  way is l None a = absurd (omega (
                    arith,
                    l,
                    law.proxy_numbers.in_finished is.old y (ap (router_at w) is.by.proxy ∙ at)
                        (omega (arith, is.stage)) a,
                  ))
                  way is l (Some d) a =
                      choose-decaying (inward_edge y) y.in_queue.current (g.bypass is.old).accepted_at (ap is_some a)
                      (((positions-in law).each q y at).inward_to d is.old a (bypassed.proxy-begun law is.by)
                      ∙ known_from-yes 4 (g.bypass is.old).stage (g.bypass is.old).accepted_at (omega (arith, is.stage))) l

      go : (o : Option Item) → slice_get (b.put (opposite_end e)) n ≡ o → ⊥
      go None h = omega (arith, slice_get-none (b.put (opposite_end e)) n h, given)
      go (Some x) h = nowhere (opposite_end e) n x (subst (λ d. read b d ≤ n) (sym (opposite_end-twice e)) unread) h outs inns

  delivers_below : (e : End) (n m : ℕ) → m < n → Delivers e m
  delivers_below e zero m l = absurd (omega (arith, l))
  delivers_below e (suc n) m l = delivers e m (λ j below. delivers_below e n j (omega (arith, l, below)))

  pub delivered : (e : End) (n : ℕ) → Delivers e n
  delivered e n = delivers_below e (n + 1) n (omega arith)

  -- what a terminal lacks wasn't put
  pub lacked_given : (e : End) (m : ℕ) → IsLacked w e m → length (b.put (opposite_end e)) ≤ m
  lacked_given e m t = go (nat_lt m (length (b.put (opposite_end e)))) refl
    where
      go : (c : Bool) → nat_lt m (length (b.put (opposite_end e))) ≡ c → length (b.put (opposite_end e)) ≤ m
      go false f = grind (arith, f, nat_tests)
      go true f = absurd (delivered e m t.key t.router t.here t.terminal t.end
          (omega (arith, t.lacks.current, law.conserved.current t.key t.router t.here t.terminal, ap (read b) t.end))
          (grind (arith, f, nat_tests)) t.lacks.none)

  -- a sink has read all that its peer put
  pub sink_read : (k : Key) (r : Router) → router_at w k ≡ Some r → is_terminal r ≡ true → is_closed b r.end ≡ true →
      read b r.end ≡ length (b.put (opposite_end r.end))
  unfolding is_possible
  sink_read k r here terminal closed = go (nat_lt (read b r.end) (length (b.put (opposite_end r.end)))) refl
    where
      most : read b r.end ≤ length (b.put (opposite_end r.end))
      most = omega (arith, law.conserved.read_put (opposite_end r.end), ap (read b) (opposite_end-twice r.end))

      sinks : is_possible r acts.Discard ≡ false → r.closed ≡ true → is_some (current_item r.in_queue) ≡ true → ⊥
      sinks h c s = grind (arith, h, c, s, terminal)

      look : (o : Option Item) → current_item r.in_queue ≡ o → nat_lt (read b r.end) (length (b.put (opposite_end r.end))) ≡ true → ⊥
      look None e l = delivered r.end (read b r.end) k r here terminal refl (omega arith) (grind (arith, l, nat_tests))
          (ap (item_at r.in_queue) (sym (law.conserved.current k r here terminal)) ∙ e)
      look (Some x) e l = sinks (idle k r acts.Discard here) (law.conserved.sink k r here terminal ∙ closed) (ap is_some e)

      go : (c : Bool) → nat_lt (read b r.end) (length (b.put (opposite_end r.end))) ≡ c → read b r.end ≡ length (b.put (opposite_end r.end))
      go false e = let l : length (b.put (opposite_end r.end)) ≤ read b r.end = grind (arith, e, nat_tests) in omega (arith, l, most)
      go true e = absurd (look (current_item r.in_queue) refl e)

  -- so a closed end has
  pub closed_read : (e : End) → is_closed b e ≡ true → read b e ≡ length (b.put (opposite_end e))
  unfolding is_nowhere move_weight
  closed_read e closed = go (g.terminal e) refl
    where
      gone : g.terminal e ≡ Retired → (c : Bool) → is_retired b e ≡ c → read b e ≡ length (b.put (opposite_end e))
      gone q true h = law.retired_ends.all_read e h
      gone q false h = (law.retired_ends.gone_read e q h).1

      go : (t : Terminal) → g.terminal e ≡ t → read b e ≡ length (b.put (opposite_end e))
      go (At k) q =
          let t = passes_tells w k (λ r. is_terminal r && same_end r.end e) (law.terminals.stands e k q) in
          let p = and_parts (is_terminal t.0) (same_end t.0.end e) t.2 in
          let end : t.0.end ≡ e = same_end-tells t.0.end e p.1 in
          subst (λ d. read b d ≡ length (b.put (opposite_end d))) end (sink_read k t.0 t.1 p.0 (ap (is_closed b) end ∙ closed))
      go Nowhere q =
          let none : b.put (opposite_end e) ≡ [] = law.conserved.unopened_put (opposite_end e) (law.terminals.both e ∙ ap is_nowhere q) in
          let most : read b e ≤ length (b.put (opposite_end e)) = omega (arith, law.conserved.read_put (opposite_end e), ap (read b) (opposite_end-twice e)) in
          omega (arith, most, ap length none)
      go Retired q = gone q (is_retired b e) refl
      go (Moving d) q =
          let weight = law.moves.one e (λ x. 1) ∙ ap (move_weight (λ x. 1)) q in
          let t = found (λ from to m. total_list (of_end e (λ x. 1)) (moves_of m)) w (omega (arith, weight)) in
          absurd (nothing-moves w quiet t.0 t.1 t.2 t.3 t.4)

  -- if a sink has retired, no router of its peer is left: Gone has come to the peer's sink
  pub stayer_gone : GoneUnread w b → (k : Key) (r : Router) → router_at w k ≡ Some r → is_begun_router r ≡ false →
      is_retired b (opposite_end r.end) ≡ true → ⊥
  stayer_gone unread k r here whole gone = omega (
    arith,
    unread t.key t.router t.here t.terminal (ap (λ d. is_retired b (opposite_end d)) t.end ∙ gone),
    law.conserved.current t.key t.router t.here t.terminal,
    sink_read t.key t.router t.here t.terminal (ap (is_closed b) (t.end ∙ sym (opposite_end-twice r.end))
        ∙ law.retired_ends.peer_closed (opposite_end r.end) gone),
  )
    where
      t : HasTerminal w b g law quiet ranked flagged r.end
      t = inward_terminal w b g law quiet ranked flagged ranked.limit k r here whole (omega arith)

  -- an outward decaying link can be given up
  finishes : (e : Edge) (d : LinkEnd) (a c sent received : ℕ) → e.decaying ≡ Some d → e.length_to ≡ Some a → e.length_from ≡ Some c →
      a ≤ sent →
      c ≤ received → can_finish e sent received ≡ true
  unfolding can_finish has_come_to
  finishes e d a c sent received dec to from l m = grind (arith, dec, to, from, l, m, nat_tests)

  -- no router with an outward primary link has a decaying one
  pub still : (k : Key) (r : Router) → router_at w k ≡ Some r → is_begun_router r ≡ false → r.outward.decaying ≡ None
  unfolding is_possible standing_router
  still k r here whole = go r.outward.decaying refl
    where
      p : (p : LinkEnd) × (r.outward.primary ≡ Some p)
      p = some_is r.outward.primary (primed r ((law.shape k r here).role) whole)

      -- with both lengths it could be given up
      ends : (d : LinkEnd) (a c fresh : ℕ) → r.outward.decaying ≡ Some d → r.outward.length_to ≡ Some a → r.outward.length_from ≡ Some c →
          side_length g d.link (opposite d.side) ≡ Some c → link_in r.outward.primary ≡ Some (Central fresh) → ⊥
      ends d a c fresh dec to from len central = by (nat_le c (reach r.in_queue)) refl
        where
          sent : a ≤ r.out_queue.current
          sent = (law.fresh_numbers k r here).own p.0 d a p.1 dec to

          by : (t : Bool) → nat_le c (reach r.in_queue) ≡ t → ⊥
          by true e = not_both (can_finish r.outward r.out_queue.current (reach r.in_queue))
              (finishes r.outward d a c r.out_queue.current (reach r.in_queue) dec to from sent (grind (arith, e, nat_tests)))
              (idle k r acts.FinishOut here)
          by false e = omega (
            arith,
            low,
            lacked_given r.end (reach r.in_queue) (inward_lacks w b g law quiet ranked flagged ranked.limit k r (reach r.in_queue) here whole
                (omega arith)
                (record { current = (is_reach r.in_queue).from; none = (is_reach r.in_queue).absent })),
            across (outer_router w b g law quiet ranked flagged k r p.0 here p.1),
          )
            where
              low : reach r.in_queue < c
              low = grind (arith, e, nat_tests)

              across : HasOuter w b g law quiet ranked flagged k r ⊎
                  (HasAcross w b g law quiet ranked flagged k r ⊎ (is_retired b (opposite_end r.end) ≡ true)) → c ≤ length (b.put (opposite_end r.end))
              across (inl h) =
                  let t : HasEnd r.outward.primary (Peripheral h.node h.serial) B = has_link-tells r.outward.primary
                  (Peripheral h.node h.serial) B h.own in
                  absurd (apart h.node h.serial (sym t.on_link ∙ same_Some t.end.link (Central fresh) (sym (ap link_in t.there) ∙ central)))
                where
                  apart : (n x : ℕ) → Peripheral n x ≡ Central fresh → ⊥
                  apart n x e = cc
              across (inr (inr gone)) = absurd (decays_not r d dec (law.gones.still k r (opposite r.end.side) here whole gone))
                where
                  decays_not : (r : Router) (d : LinkEnd) → r.outward.decaying ≡ Some d → decays r ≡ false → ⊥
                  decays_not r d e h = grind (arith, e, h)
              across (inr (inl h)) =
                  let t : HasEnd r.outward.primary (Central h.word) h.side = has_link-tells r.outward.primary
                  (Central h.word) h.side h.own in
                  let same : t.end ≡ p.0 = same_Some t.end p.0 (sym t.there ∙ p.1) in
                  let seen : view w g (Central h.word) (opposite h.side) ≡ Standing h.router =
                  (attached_view w b g law (Central h.word) (opposite h.side) h.key h.router h.here
                  (attached_at h.word (opposite h.side) h.router h.on)).1 in
                  let stands : standing_router (view w g p.0.link (opposite p.0.side)) ≡ Some h.router =
                  ap (λ z. standing_router (view w g z.link (opposite z.side))) (sym same)
                  ∙ ap (λ l. standing_router (view w g l (opposite t.end.side))) t.on_link
                  ∙ ap (λ s. standing_router (view w g (Central h.word) (opposite s))) t.at_side
                  ∙ ap standing_router seen in
                  omega (
                    arith,
                    (law.fresh_numbers k r here).other h.router p.0 d c p.1 dec len stands,
                    outward_given w b g law quiet ranked flagged ranked.limit h.key h.router h.here
                        (not_begun w b g law quiet ranked flagged h.key h.router (Central h.word) (opposite h.side) h.here h.on) (omega arith),
                    ap (λ z. length (b.put z)) h.end,
                  )

      go : (o : Option LinkEnd) → r.outward.decaying ≡ o → r.outward.decaying ≡ None
      go None e = e
      go (Some d) e = absurd (elim (outward_case w b g law k r d here e) [
        | inl c ↦ elim c.3 [
          | inl own ↦ none-some p.0 (sym (((positions-in law).each k r here).own_alone d c.0 e c.1 own) ∙ p.1)
          | inr far ↦ ends d (g.bypass c.0).accepted_at (g.bypass c.0).taken_at (g.bypass c.0).fresh e
              (((positions-in law).each k r here).across_to d c.0 e c.1 far) (((positions-in law).each k r here).across_from d c.0 e c.1 far)
              (ap (λ l. side_length g l (opposite d.side)) c.1 ∙ ap (λ s. side_length g (Central c.0) (opposite s)) far
              ∙ ap (side_length g (Central c.0)) (opposite-twice (proxy_side g c.0))
              ∙ length-proxy g c.0 (omega (arith, settled w b g law quiet c.0 c.2)))
              (((positions-in law).each k r here).across_fresh d c.0 e c.1 far)
        ]
        | inr c ↦ let stage = settled w b g law quiet c.1 (law.stands.by_begun c.0 c.1 c.4) in
            ends d (g.bypass c.1).taken_at (g.bypass c.1).accepted_at (g.bypass c.1).fresh e
            (((positions-in law).each k r here).inner_to d c.0 c.1 e c.2 c.4)
            (((positions-in law).each k r here).inner_from d c.0 c.1 e c.2 c.4
            ∙ known_from-yes 5 (g.bypass c.1).stage (g.bypass c.1).accepted_at (omega (arith, stage)))
            (ap (λ l. side_length g l (opposite d.side)) c.2 ∙ ap (λ s. side_length g (inner_link c.0) (opposite s)) c.3
            ∙ length-inward g c.0 c.1 c.4 (omega (arith, stage)))
            (((positions-in law).each k r here).inner_fresh d c.0 c.1 e c.2 c.4)
      ])

  -- no proxy has begun a bypass: it could finish, or leave
  pub none_begun : (k : Key) (r : Router) → router_at w k ≡ Some r → is_begun_router r ≡ false
  unfolding is_possible
  none_begun k r here = go (is_begun_router r) refl
    where
      not_both : {X : Type 0} (c : Bool) → c ≡ true → c ≡ false → X
      not_both true a b = cc
      not_both false a b = cc

      go : (c : Bool) → is_begun_router r ≡ c → is_begun_router r ≡ false
      go false e = e
      go true e = absurd (over (across_stands w b g law quiet ranked flagged k r here is) (inner_stands w b g law quiet ranked flagged k r here is))
        where
          is : HasBegun w b g law quiet ranked flagged k r
          is = begun_tells w b g law quiet ranked flagged k r here e

          lone : (l : LinkId) (s : Side) → StandsOver w b g law quiet ranked flagged k r here is l s → ⊥
          lone l s x = none-some x.end (sym (still x.key x.router x.here
              (whole x.router x.primary ((law.shape x.key x.router x.here).role))) ∙ x.decaying)
            where
              whole : (z : Router) → is_some z.outward.primary ≡ true → has_role z ≡ true → is_begun_router z ≡ false
              whole z p h = at (is_terminal z) (is_some (inward_edge z).primary) refl refl
                where
                  at : (c d : Bool) → is_terminal z ≡ c → is_some (inward_edge z).primary ≡ d → is_begun_router z ≡ false
                  at true d f k = grind (arith, f)
                  at false true f k = grind (arith, f, k)
                  at false false f k = absurd (grind (arith, f, k, h, p))

          over : StandsOver w b g law quiet ranked flagged k r here is (Central is.old) (across_side g is.old) ⊎
              ((g.bypass is.old).taken_at ≤ r.out_queue.current) →
              StandsOver w b g law quiet ranked flagged k r here is (inner_of g is.old) B ⊎ ((g.bypass is.old).accepted_at ≤ r.in_queue.current) → ⊥
          over (inl x) other = lone (Central is.old) (across_side g is.old) x
          over (inr a) (inl x) = lone (inner_of g is.old) B x
          over (inr taken) (inr accepted) = links r.outward.decaying (inward_edge r).decaying refl refl
            where
              links : (d i : Option LinkEnd) → r.outward.decaying ≡ d → (inward_edge r).decaying ≡ i → ⊥
              links (Some d) i p q =
                  let named = bypassed.proxy-outward law is.by d p in
                  not_both (can_finish r.outward r.out_queue.current (reach r.in_queue))
                  (finishes r.outward d (g.bypass is.old).taken_at (g.bypass is.old).accepted_at r.out_queue.current (reach r.in_queue) p
                  (((positions-in law).each k r here).own_to d is.old p named.link named.side
                  ∙ known_from-yes 4 (g.bypass is.old).stage (g.bypass is.old).taken_at (omega (arith, is.stage)))
                  (((positions-in law).each k r here).own_from d is.old p named.link named.side
                  ∙ known_from-yes 4 (g.bypass is.old).stage (g.bypass is.old).accepted_at (omega (arith, is.stage)))
                  taken (omega (arith, accepted, (is_reach r.in_queue).from))) (idle k r acts.FinishOut here)
              links None (Some d) p q =
                  not_both (can_finish (inward_edge r) r.in_queue.current (reach r.out_queue))
                  (finishes (inward_edge r) d (g.bypass is.old).accepted_at (g.bypass is.old).taken_at r.in_queue.current
                  (reach r.out_queue) q
                  (((positions-in law).each k r here).inward_to d is.old q (bypassed.proxy-begun law is.by)
                  ∙ known_from-yes 4 (g.bypass is.old).stage (g.bypass is.old).accepted_at (omega (arith, is.stage)))
                  (((positions-in law).each k r here).inward_from d is.old q (bypassed.proxy-begun law is.by)
                  ∙ known_from-yes 4 (g.bypass is.old).stage (g.bypass is.old).taken_at (omega (arith, is.stage)))
                  accepted (omega (arith, taken, (is_reach r.out_queue).from))) (idle k r acts.FinishIn here)
              links None None p q = left (idle k r acts.Leave here) (bypassed.proxy-alone law is.by) (bypassed.proxy-unprimed law is.by)
                where
                  left : is_possible r acts.Leave ≡ false → r.outward.primary ≡ None → (inward_edge r).primary ≡ None → ⊥
                  left h a c = grind (arith, h, a, c, p, q, e)

  -- nothing decays
  pub calm : (k : Key) (r : Router) → router_at w k ≡ Some r → decays r ≡ false
  calm k r here = no_decay r ((law.shape k r here).role) (none_begun k r here) (still k r here (none_begun k r here))
    where
      no_decay : (r : Router) → has_role r ≡ true → is_begun_router r ≡ false → r.outward.decaying ≡ None → decays r ≡ false
      no_decay r h f d = at (is_terminal r) (is_some (inward_edge r).primary) refl refl
        where
          at : (c e : Bool) → is_terminal r ≡ c → is_some (inward_edge r).primary ≡ e → decays r ≡ false
          at true e p q = grind (arith, p, d)
          at false true p q = grind (arith, p, q, d, h)
          at false false p q = absurd (grind (arith, p, q, f))

  -- who is on a central link is marked
  pub marked : (i : ℕ) (s : Side) (k : Key) (r : Router) → router_at w k ≡ Some r → has_primary (Central i) s r ≡ true → r.marked ≡ true
  unfolding is_possible
  marked i s k r here on = go (idle k r acts.Mark here) (calm k r here) (ap is_some (on-central i s r on))
    where
      go : is_possible r acts.Mark ≡ false → decays r ≡ false → is_on_central r ≡ true → r.marked ≡ true
      go h d c = grind (arith, h, d, c)

  -- nobody holds a lock
  pub free : (k : Key) (r : Router) → router_at w k ≡ Some r → r.holds ≡ false
  unfolding is_possible
  free k r here = go r.holds refl
    where
      begins : is_possible r acts.Begin ≡ false → is_proxy r ≡ true → r.holds ≡ true → is_on_central r ≡ true → decays r ≡ false → ⊥
      begins h p q c d = grind (arith, h, p, q, c, d)

      retires : is_possible r acts.Retire ≡ false → (is_done r ≡ true) → r.holds ≡ true → is_on_central r ≡ true → decays r ≡ false → ⊥
      retires h p q c d = no (is_done r) r.holds (is_on_central r) (decays r) h p q c d
        where
          no : (a c e f : Bool) → (a && (c && (e && not f))) ≡ false → a ≡ true → c ≡ true → e ≡ true → f ≡ false → ⊥
          no a c e f h x y z v = grind (arith, h, x, y, z, v)

      by : (p s : Bool) → (p || s) ≡ true → is_proxy r ≡ p → is_done r ≡ s → r.holds ≡ true → ⊥
      by true s h p q e = begins (idle k r acts.Begin here) p e
          ((law.shape k r here).marked_central ((law.shape k r here).holds_marked e)) (calm k r here)
      by false true h p q e = retires (idle k r acts.Retire here) q e
          ((law.shape k r here).marked_central ((law.shape k r here).holds_marked e)) (calm k r here)
      by false false h p q e = cc

      go : (c : Bool) → r.holds ≡ c → r.holds ≡ false
      go false e = e
      go true e = absurd (by (is_proxy r) (is_done r) ((law.shape k r here).holds_fit e) refl refl e)
