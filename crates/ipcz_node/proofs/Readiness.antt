-- Which routers of a node are filed as ready after each change of a router, and which of them is the first.
use Rattle.std.proofs.Common.{◌≡◌, ◌≢◌, ◌==◌, ◌&&◌, ◌||◌, not, ℕ, zero, suc, ◌+◌, ◌-◌, ◌<◌, ◌≤◌, Bool, true, false, cond, if◌then◌else◌, List, [], ◌∷◌}
use Rattle.std.proofs.Common.{length, Option, Some, None, refl, sym, ◌∙◌, ap, ap₂, subst, arith, true≢false, inl, inr}
use Rattle.std.specs.Prelude.{is_some, is_none, nat_le, nat_lt, unwrap_or, option_map, IsSomeAnd}
use Rattle.std.specs.Option.{option_map_or}
use Rattle.std.proofs.lemmas.Bool.{cases_lt}
use Rattle.std.proofs.lemmas.Bool.Decides.{nat_tests}
use Rattle.std.specs.Ordering.{nat_cmp, eq_by_cmp}
use Rattle.std.specs.Cmp.{nat_cmp_total}
use Rattle.std.specs.FinMap.{FinMap, get, insert, get-insert, remove, empty, get-empty, entries, len, len-entries, nat_cmp-IsAntisymmetric}
use Rattle.std.specs.FinSet as sets
use Rattle.ipcz_base.specs.declared.side.Side.{Side}
use Rattle.ipcz_base.specs.declared.end.End.{End}
use Rattle.ipcz_base.specs.declared.link_id.LinkId.{LinkId}
use Rattle.ipcz_base.specs.declared.link_end.LinkEnd.{LinkEnd}
use Rattle.ipcz_base.specs.declared.item.Item.{Item}
use Rattle.ipcz_base.specs.declared.message.Message.{Message}
use Rattle.ipcz_base.specs.declared.message.Message.TheVariants as messages
use Rattle.ipcz_base.specs.Links.{has_link}
use Rattle.ipcz_base.specs.Limits.{no_number}
use Rattle.ipcz_base.specs.Totals.{total, total_of}
use Rattle.ipcz_base.proofs.Totals.{total-insert, total-insert_new, total-remove, total-empty}
use Rattle.ipcz_edge.specs.Edge.{Edge, no_edge, edge_has, choose, finish, begin_decay, set_length_to, set_length_from}
use Rattle.ipcz_seq.proofs.Pairs.{one_or_two}
use Rattle.ipcz_seq.specs.Queue.{push_at, queue_from, has_place, current_item}
use Rattle.ipcz_router.specs.Router.{Router, is_terminal, is_open_terminal, is_sink, outward_has, inward_has, router_has}
use Rattle.ipcz_router.specs.Calls.{has_come, has_place_for, accept, extend}
use Rattle.ipcz_router.specs.Closing.{close_router}
use Rattle.ipcz_router.specs.Hearing.{hear}
use Rattle.ipcz_router.specs.ActTable.{may_take, is_possible, is_rest}
use Rattle.ipcz_router.specs.ActEffects.{apply}
use Rattle.ipcz_router.specs.declared.act.RouterAct.{RouterAct}
use Rattle.ipcz_router.specs.declared.act.RouterAct.TheVariants.{SendIn, Discard, FinishIn, Mark, Claim, Lock, Begin}
use Rattle.ipcz_router.specs.declared.act.Answer.{Answer}
use Rattle.ipcz_router.specs.declared.act.Answer.TheVariants.{Marked, Claimed, NoWord, Locked, Waiting, Refused}
use Rattle.ipcz_node.specs.SortedSets.{RoomySet, has}
use Rattle.ipcz_node.specs.Indexes.{IsLeast}
use Rattle.ipcz_node.specs.Node.{EndSet}
use Rattle.ipcz_node.specs.Finding.{is_ready, is_ready_in, IsNext}
use Rattle.ipcz_node.specs.Directories.{passes, unready, AreReady}
use Rattle.ipcz_node.proofs.Directories.{passes_inserted, passes_removed, passes_here, passes_absent, same_test}
use Rattle.ipcz_node.proofs.Refiling.{first_of_both, second_of_both}
use Rattle.ipcz_node.proofs.Written.{insert_here}

-- one if so, and one if not
abbrev one : Bool → ℕ
one b = if b then 1 else 0

abbrev lack : Bool → ℕ
lack b = if b then 0 else 1

abbrev count : ℕ → Router → ℕ
count serial r = unready r

with_true : (b : Bool) → (b && true) ≡ b
with_true true = refl
with_true false = refl

with_false : (b : Bool) → (b && false) ≡ false
with_false true = refl
with_false false = refl

or_false : (b : Bool) → (b || false) ≡ b
or_false true = refl
or_false false = refl

itself : (n : ℕ) → (n == n) ≡ true
itself n = grind (arith, nat_tests)

distinct : (n k : ℕ) → n ≢ k → (n == k) ≡ false
distinct n k other = grind (arith, nat_tests, other)

turned : (n k : ℕ) → n ≢ k → k ≢ n
turned n k other same = other (sym same)

-- what is filed under a serial, if its router was ready and may be so no more
leaves : (apart gone was is : Bool) → gone ≡ (apart && (was && not is)) → (is ≡ true → was ≡ true) →
    (not (gone && true) && (apart && was)) ≡ (apart && is)
leaves false gone was is h stays = rw h refl
leaves true gone true true h stays = rw h refl
leaves true gone true false h stays = rw h refl
leaves true gone false false h stays = rw h refl
leaves true gone false true h stays = absurd (true≢false (sym (stays refl)))

stays_so : (gone there : Bool) → (not (gone && false) && there) ≡ there
stays_so true there = refl
stays_so false there = refl

-- the room for it stays, or is that of the latest
room_latest : (was is : Bool) (t u more room : ℕ) → u + lack was ≤ t + lack is → more + (t + one was) ≤ room → more + (u + one is) ≤ room
room_latest true true t u more room e h = omega (arith, e, h)
room_latest true false t u more room e h = omega (arith, e, h)
room_latest false true t u more room e h = omega (arith, e, h)
room_latest false false t u more room e h = omega (arith, e, h)

room_other : (was is : Bool) (p t u more room to : ℕ) → u + lack was ≤ t + lack is → more + (t + p) ≤ room → room + one (was && not is) ≤ to →
    more + (u + p) ≤ to
room_other true true p t u more room to e h up = omega (arith, e, h, up)
room_other true false p t u more room to e h up = omega (arith, e, h, up)
room_other false true p t u more room to e h up = omega (arith, e, h, up)
room_other false false p t u more room to e h up = omega (arith, e, h, up)

-- one router was changed or left, and isn't ready unless it was
module _ (m k : FinMap nat_cmp Router) (s : ℕ) (r : Router) (is : Bool) (latest : ℕ) (others to_others : RoomySet ℕ) (gone : Bool) (more : ℕ)
    (here : get m s ≡ Some r) (written : (q : ℕ) → passes is_ready k q ≡ cond (eq_by_cmp nat_cmp q s) is (passes is_ready m q))
    (fewer : total count k + unready r ≤ total count m + lack is) (stays : is ≡ true → is_ready r ≡ true)
    (ends : gone ≡ (not (s == latest) && (is_ready r && not is)))
    (members : (q : ℕ) → has nat_cmp to_others.members q ≡ (not (gone && s == q) && has nat_cmp others.members q))
    (room : others.room + one gone ≤ to_others.room) (old : AreReady m latest others more) where
  at_it : passes is_ready k s ≡ is
  at_it = written s ∙ ap (λ b. cond b is (passes is_ready m s)) (sym (same_test s s) ∙ itself s)

  beside : (q : ℕ) → q ≢ s → passes is_ready k q ≡ passes is_ready m q
  beside q other = written q ∙ ap (λ b. cond b is (passes is_ready m q)) (sym (same_test s q) ∙ distinct s q (turned q s other))

  filed_there : has nat_cmp to_others.members s ≡ (not (s == latest) && passes is_ready k s)
  filed_there =
      members s ∙ ap₂ (λ b c. not (gone && b) && c) (itself s)
      (old.by_ready s ∙ ap (λ b. not (s == latest) && b) (passes_here is_ready m s r here))
      ∙ leaves (not (s == latest)) gone (is_ready r) is ends stays ∙ ap (λ b. not (s == latest) && b) (sym at_it)

  filed_beside : (q : ℕ) → q ≢ s → has nat_cmp to_others.members q ≡ (not (q == latest) && passes is_ready k q)
  filed_beside q other =
      members q ∙ ap (λ b. not (gone && b) && has nat_cmp others.members q) (distinct s q (turned q s other)) ∙
      stays_so gone (has nat_cmp others.members q) ∙ old.by_ready q ∙ ap (λ b. not (q == latest) && b) (sym (beside q other))

  room_if_latest : s ≡ latest → more + (total count k + one (passes is_ready k latest)) ≤ to_others.room
  room_if_latest same =
      let was : passes is_ready m latest ≡ is_ready r = ap (passes is_ready m) (sym same) ∙ passes_here is_ready m s r here in
      let now : passes is_ready k latest ≡ is = ap (passes is_ready k) (sym same) ∙ at_it in
      let old_room : more + (total count m + one (is_ready r)) ≤ others.room =
      subst (λ b. more + (total count m + one b) ≤ others.room) was old.room in
      let enough = room_latest (is_ready r) is _ _ more others.room fewer old_room in
      rw now (omega (arith, enough, room))

  room_if_other : s ≢ latest → more + (total count k + one (passes is_ready k latest)) ≤ to_others.room
  room_if_other other =
      let told : gone ≡ (is_ready r && not is) = ends ∙ ap (λ b. not b && (is_ready r && not is)) (distinct s latest other) in
      rw (beside latest (turned s latest other))
      (room_other (is_ready r) is _ _ _ more others.room to_others.room fewer old.room
      (subst (λ b. others.room + one b ≤ to_others.room) told room))

  moved : AreReady k latest to_others more
  moved = record {
    by_ready = λ q. elim (one_or_two q s) [
      | inl t ↦ subst (λ x. has nat_cmp to_others.members x ≡ (not (x == latest) && passes is_ready k x)) (sym t.0) filed_there
      | inr t ↦ filed_beside q t.0
    ];
    room = elim (one_or_two s latest) [
      | inl t ↦ room_if_latest t.0
      | inr t ↦ room_if_other t.0
    ];
  }

-- one router was changed, and isn't ready unless it was
pub ready_changed : (m : FinMap nat_cmp Router) (s : ℕ) (r w : Router) (latest to_latest : ℕ) (others to_others : RoomySet ℕ) (gone : Bool)
    (more : ℕ) → get m s ≡ Some r → (is_ready w ≡ true → is_ready r ≡ true) → gone ≡ (not (s == latest) && (is_ready r && not (is_ready w)))
    → to_latest ≡ latest → ((q : ℕ) → has nat_cmp to_others.members q ≡ (not (gone && s == q) && has nat_cmp others.members q))
    → others.room + (if gone then 1 else 0) ≤ to_others.room → AreReady m latest others more
    → AreReady (insert m s w) to_latest to_others more
ready_changed m s r w latest to_latest others to_others gone more here stays ends same members room old =
    rw same
    (moved m (insert m s w) s r (is_ready w) latest others to_others gone more here (passes_inserted is_ready m s w)
    (omega (arith, total-insert nat_cmp nat_cmp_total nat_cmp-IsAntisymmetric count m s w r here)) stays ends members room old)

-- one router was changed, and isn't ready now
pub ready_closed : (m : FinMap nat_cmp Router) (s : ℕ) (r w : Router) (latest to_latest : ℕ) (others to_others : RoomySet ℕ) (was : Bool)
    (more : ℕ) → get m s ≡ Some r → was ≡ is_ready r → is_ready w ≡ false → to_latest ≡ latest
    → ((q : ℕ) → has nat_cmp to_others.members q ≡ (not ((not (s == latest) && was) && s == q) && has nat_cmp others.members q))
    → others.room + (if not (s == latest) && was then 1 else 0) ≤ to_others.room → AreReady m latest others more
    → AreReady (insert m s w) to_latest to_others more
ready_closed m s r w latest to_latest others to_others was more here told idle same members room old =
    ready_changed m s r w latest to_latest others to_others (not (s == latest) && was) more here (λ is. absurd (true≢false (sym is ∙ idle)))
    (ap (λ b. not (s == latest) && b) (told ∙ sym (ap (λ b. is_ready r && not b) idle ∙ with_true (is_ready r)))) same members room old

-- a get was made at a ready router, which is still an open terminal
twice : (a b : Bool) → (a && (a && b)) ≡ (a && b)
twice true b = refl
twice false b = refl

pub ready_got : (m : FinMap nat_cmp Router) (s : ℕ) (r w : Router) (latest to_latest : ℕ) (others to_others : RoomySet ℕ) (ended : Bool)
    (more : ℕ) → get m s ≡ Some r → is_ready r ≡ true → is_open_terminal w ≡ true → ended ≡ (not (s == latest) && not (has_come w))
    → to_latest ≡ latest
    → ((q : ℕ) → has nat_cmp to_others.members q ≡ (not ((not (s == latest) && ended) && s == q) && has nat_cmp others.members q))
    → others.room + (if not (s == latest) && ended then 1 else 0) ≤ to_others.room → AreReady m latest others more
    → AreReady (insert m s w) to_latest to_others more
ready_got m s r w latest to_latest others to_others ended more here ready opened told same members room old =
    ready_changed m s r w latest to_latest others to_others (not (s == latest) && ended) more here (λ is. ready)
    (ap (λ b. not (s == latest) && b) told ∙ twice (not (s == latest)) (not (has_come w)) ∙
    ap (λ b. not (s == latest) && b)
    (sym (ap₂ (λ a b. a && not b) ready (ap (λ b. has_come w && b) opened ∙ with_true (has_come w))))) same members room old

-- a router fewer
pub ready_dropped : (m k : FinMap nat_cmp Router) (s : ℕ) (r : Router) (latest to_latest : ℕ) (others to_others : RoomySet ℕ) (was : Bool)
    (more : ℕ) → get m s ≡ Some r → k ≡ remove m s → was ≡ is_ready r → to_latest ≡ latest
    → ((q : ℕ) → has nat_cmp to_others.members q ≡ (not ((not (s == latest) && was) && s == q) && has nat_cmp others.members q))
    → others.room + (if not (s == latest) && was then 1 else 0) ≤ to_others.room → AreReady m latest others more
    → AreReady k to_latest to_others more
ready_dropped m k s r latest to_latest others to_others was more here is told same members room old =
    rw (is, same)
    (moved m (remove m s) s r false latest others to_others (not (s == latest) && was) more here (passes_removed is_ready m s)
    (omega (arith, total-remove nat_cmp nat_cmp_total nat_cmp-IsAntisymmetric count m s r here)) (λ no. absurd (true≢false (sym no)))
    (ap (λ b. not (s == latest) && b) (told ∙ sym (with_true (is_ready r)))) members room old)

neither : (a b : Bool) → (a && (b && not b)) ≡ false
neither true true = refl
neither true false = refl
neither false b = refl

-- one router was changed, and is as ready as before
pub ready_kept : (m : FinMap nat_cmp Router) (s : ℕ) (r w : Router) (latest : ℕ) (others : RoomySet ℕ) (more : ℕ) → get m s ≡ Some r →
    is_ready w ≡ is_ready r → AreReady m latest others more → AreReady (insert m s w) latest others more
ready_kept m s r w latest others more here same old =
    ready_changed m s r w latest latest others others false more here (λ is. sym same ∙ is)
    (sym (ap (λ b. not (s == latest) && (is_ready r && not b)) same ∙ neither (not (s == latest)) (is_ready r))) refl (λ q. refl) (omega arith)
    old

-- a router that isn't ready more, for which there was room
pub ready_added : (m k : FinMap nat_cmp Router) (s : ℕ) (w : Router) (latest : ℕ) (others : RoomySet ℕ) (more : ℕ) → get m s ≡ None →
    k ≡ insert m s w → is_ready w ≡ false → 0 < more → AreReady m latest others more → AreReady k latest others (more - 1)
ready_added m k s w latest others more free is idle some old = rw is (record {
  by_ready = λ q. old.by_ready q ∙ ap (λ b. not (q == latest) && b) (sym (same q));
  room = rw (same latest)
      (omega (
        arith,
        old.room,
        some,
        ap lack idle,
        total-insert_new nat_cmp nat_cmp_total nat_cmp-IsAntisymmetric count m s w free,
      ));
})
  where
    same : (q : ℕ) → passes is_ready (insert m s w) q ≡ passes is_ready m q
    same q = passes_inserted is_ready m s w q ∙ elim (one_or_two q s) [
      | inl t ↦ rw t.1 (idle ∙ sym (ap (passes is_ready m) t.0 ∙ passes_absent is_ready m s free))
      | inr t ↦ rw t.1 refl
    ]

-- a terminal into which nothing has come yet isn't ready
pub fresh_idle : (r : Router) (first : ℕ) → r.in_queue ≡ queue_from first → is_ready r ≡ false
fresh_idle r first fresh = ap (λ q. is_some (current_item q) && is_open_terminal r) fresh ∙ ap (λ o. is_some o && is_open_terminal r) (get-empty nat_cmp first)

-- what holds of the router of a serial
pub holds_at : (P : Router → Type 0) (o : Option Router) (r : Router) → o ≡ Some r → IsSomeAnd o P → P r
holds_at P o r here some = subst (λ x. IsSomeAnd x P) here some

-- no routers
pub ready_none : (m : FinMap nat_cmp Router) (latest : ℕ) (others : RoomySet ℕ) → m ≡ empty → others.members ≡ [] → AreReady m latest others 0
ready_none m latest others none no_members = rw none (record {
  by_ready = λ q. ap (λ ys. has nat_cmp ys q) no_members ∙ sym (ap (λ b. not (q == latest) && b) (absent q) ∙ with_false (not (q == latest)));
  room = rw (absent latest) (omega (arith, total-empty nat_cmp count));
})
  where
    absent : (q : ℕ) → passes is_ready empty q ≡ false
    absent q = passes_absent is_ready empty q (get-empty nat_cmp q)

-- no more room is wanted than there are routers
both_counts : (es : List (ℕ × Router)) → total_of count es + total_of (λ serial r. one (is_ready r)) es ≡ length es
both_counts [] = refl
both_counts (e ∷ es) = omega (arith, split (is_ready e.1), both_counts es)
  where
    split : (b : Bool) → lack b + one b ≡ 1
    split true = refl
    split false = refl

ready_once : (m : FinMap nat_cmp Router) (s : ℕ) (o : Option Router) → get m s ≡ o →
    one (option_map_or is_ready o false) ≤ total (λ serial r. one (is_ready r)) m
ready_once m s None is = omega arith
ready_once m s (Some r) is = omega (arith, total-remove nat_cmp nat_cmp_total nat_cmp-IsAntisymmetric (λ serial x. one (is_ready x)) m s r is)

wanted_at_most : (m : FinMap nat_cmp Router) (latest : ℕ) → total count m + one (passes is_ready m latest) ≤ len m
unfolding total
wanted_at_most m latest =
    omega (arith, both_counts (entries m), len-entries m, ready_once m latest (get m latest) refl)

-- the set has grown, or stayed, and only new routers want more room
pub ready_room : (m k : FinMap nat_cmp Router) (latest : ℕ) (others to_others : RoomySet ℕ) (was more : ℕ) → k ≡ m →
    to_others.members ≡ others.members → others.room ≤ to_others.room → (0 < more → len k + more ≤ to_others.room)
    → AreReady m latest others was → AreReady k latest to_others more
ready_room m k latest others to_others was zero same members up enough old = rw same (record {
  by_ready = λ q. ap (λ ys. has nat_cmp ys q) members ∙ old.by_ready q;
  room = omega (arith, old.room, up);
})
ready_room m k latest others to_others was (suc n) same members up enough old = record {
  by_ready = λ q. ap (λ ys. has nat_cmp ys q) members ∙ old.by_ready q ∙ ap (λ x. not (q == latest) && passes is_ready x q) (sym same);
  room = omega (arith, enough (omega arith), wanted_at_most k latest);
}

-- whether a get takes the item of a number next, at an open terminal
abbrev pub is_next : Router → ℕ → Bool
is_next w n = is_open_terminal w && n == w.in_queue.current

-- an item of a number has come to a router: it is ready if it was, or if a get takes that item next, and never for both
pub record HasCome (r w : Router) (n : ℕ) : Type 0 where
  pub ready : is_ready w ≡ (is_ready r || is_next w n)
  pub first : is_next w n ≡ true → is_ready r ≡ false

not_there : (o : Option Item) → is_none o ≡ true → is_some o ≡ false
not_there None h = refl
not_there (Some item) h = absurd (true≢false (sym h))

-- it came into the in queue
pub comes_inside : (r w : Router) (n : ℕ) (item : Item) → w.in_queue ≡ push_at r.in_queue n item → is_open_terminal w ≡ is_open_terminal r →
    has_place r.in_queue n ≡ true → HasCome r w n
comes_inside r w n item queue opened place = elim (one_or_two r.in_queue.current n) [
  | inl t ↦
      let now : has_come w ≡ true = ap (λ q. is_some (current_item q)) queue
      ∙ ap is_some (get-insert nat_cmp_total r.in_queue.items n item r.in_queue.current ∙ ap (λ b. cond b (Some item) (current_item r.in_queue)) t.1) in
      let was : has_come r ≡ false = ap (λ k. is_some (get r.in_queue.items k)) t.0
      ∙ not_there (get r.in_queue.items n) (second_of_both (nat_le r.in_queue.current n) _ place) in
      let next : (n == w.in_queue.current) ≡ true = ap (λ q. n == q.current) queue ∙ ap (λ k. n == k) t.0 ∙ itself n in
      record {
        ready = ap (λ b. b && is_open_terminal w) now ∙ sym (with_true (is_open_terminal w)) ∙
            sym (ap₂ (λ b c. (b && is_open_terminal r) || (is_open_terminal w && c)) was next);
        first = λ h. ap (λ b. b && is_open_terminal r) was;
      }
  | inr t ↦
      let same : has_come w ≡ has_come r = ap (λ q. is_some (current_item q)) queue
      ∙ ap is_some (get-insert nat_cmp_total r.in_queue.items n item r.in_queue.current ∙ ap (λ b. cond b (Some item) (current_item r.in_queue)) t.1) in
      let next : (n == w.in_queue.current) ≡ false =
      ap (λ q. n == q.current) queue ∙ distinct n r.in_queue.current (turned r.in_queue.current n t.0) in
      let none : is_next w n ≡ false = ap (λ b. is_open_terminal w && b) next ∙ with_false (is_open_terminal w) in
      record {
        ready = ap₂ (λ a b. a && b) same opened ∙ sym (ap (λ b. is_ready r || b) none ∙ or_false (is_ready r));
        first = λ h. absurd (true≢false (sym h ∙ none));
      }
]

-- a router that is no open terminal isn't ready
closed_ready : (r : Router) → is_open_terminal r ≡ false → is_ready r ≡ false
closed_ready r closed = ap (λ b. has_come r && b) closed ∙ with_false (has_come r)

comes_elsewhere : (r w : Router) (n : ℕ) → is_open_terminal r ≡ false → is_open_terminal w ≡ false → HasCome r w n
comes_elsewhere r w n closed still = record {
  ready = closed_ready w still ∙ sym (ap₂ (λ a b. a || b) (closed_ready r closed) (ap (λ b. b && n == w.in_queue.current) still));
  first = λ h. closed_ready r closed;
}

-- only a router with an inward edge has a link of one
no_terminal : (i : Option Edge) (link : LinkId) (side : Side) → edge_has (unwrap_or i no_edge) link side ≡ true → is_none i ≡ false
unfolding has_link
no_terminal None link side h = absurd (true≢false (sym h))
no_terminal (Some e) link side h = refl

-- it came over a link of the router
pub accept_comes : (r : Router) (link : LinkId) (side : Side) (n : ℕ) (item : Item) → router_has r link side ≡ true →
    has_place_for r (outward_has r link side) n ≡ true → HasCome r (accept r (outward_has r link side) n item) n
unfolding accept
accept_comes r link side n item stands place = go (outward_has r link side) stands place
  where
    go : (from : Bool) → (from || inward_has r link side) ≡ true → has_place_for r from n ≡ true → HasCome r (accept r from n item) n
    go true h place = comes_inside r (accept r true n item) n item refl refl (second_of_both (nat_lt n no_number) _ place)
    go false h place =
        let closed : is_open_terminal r ≡ false = ap (λ b. b && not r.closed) (no_terminal r.inward link side h) in
        comes_elsewhere r (accept r false n item) n closed closed

-- the item came to the latest router, or isn't what a get takes next: nothing is filed
ready_as_before : (m : FinMap nat_cmp Router) (s : ℕ) (r w : Router) (n latest : ℕ) (others to_others : RoomySet ℕ) (more : ℕ) →
    get m s ≡ Some r → HasCome r w n → false ≡ (not (s == latest) && is_next w n)
    → ((q : ℕ) → has nat_cmp to_others.members q ≡ has nat_cmp others.members q) → others.room ≤ to_others.room → AreReady m latest others more
    → AreReady (insert m s w) latest to_others more
ready_as_before m s r w n latest others to_others more here come not_new members room old = elim (one_or_two s latest) [
  | inl t ↦ record {
    by_ready = λ q. members q ∙ elim (one_or_two q s) [
      | inl u ↦
          let no : (q == latest) ≡ true = ap (λ x. x == latest) (u.0 ∙ t.0) ∙ itself latest in
          old.by_ready q ∙ ap (λ b. not b && passes is_ready m q) no ∙ sym (ap (λ b. not b && passes is_ready (insert m s w) q) no)
      | inr u ↦ old.by_ready q ∙ ap (λ b. not (q == latest) && b) (sym (passes_inserted is_ready m s w q ∙ ap (λ b. cond b (is_ready w) (passes is_ready m q)) u.1))
    ];
    room =
        let was : passes is_ready m latest ≡ is_ready r = ap (passes is_ready m) (sym t.0) ∙ passes_here is_ready m s r here in
        let now : passes is_ready (insert m s w) latest ≡ is_ready w =
        ap (passes is_ready (insert m s w)) (sym t.0) ∙ passes_here is_ready (insert m s w) s w (insert_here m s w) in
        let old_room : more + (total count m + one (is_ready r)) ≤ others.room =
        subst (λ b. more + (total count m + one b) ≤ others.room) was old.room in
        let enough = room_latest (is_ready r) (is_ready w) (total count m) (total count (insert m s w)) more others.room
        (omega (arith, total-insert nat_cmp nat_cmp_total nat_cmp-IsAntisymmetric count m s w r here)) old_room in
        rw now (omega (arith, enough, room));
  }
  | inr t ↦
      let none : is_next w n ≡ false = sym (not_new ∙ ap (λ b. not b && is_next w n) (distinct s latest t.0)) in
      let same : is_ready w ≡ is_ready r = come.ready ∙ ap (λ b. is_ready r || b) none ∙ or_false (is_ready r) in
      ready_changed m s r w latest latest others to_others false more here (λ is. sym same ∙ is)
      (sym (ap (λ b. not (s == latest) && (is_ready r && not b)) same ∙ neither (not (s == latest)) (is_ready r))) refl members
      (omega (arith, room)) old
]

-- a router that wasn't ready and is so now is the latest, and the one that was is among the others if it is still ready
ready_newly : (m : FinMap nat_cmp Router) (s : ℕ) (r w : Router) (latest : ℕ) (others to_others : RoomySet ℕ) (more : ℕ) → get m s ≡ Some r →
    is_ready r ≡ false → is_ready w ≡ true → s ≢ latest
    → ((q : ℕ) → has nat_cmp to_others.members q ≡ ((passes is_ready (insert m s w) latest && latest == q) || has nat_cmp others.members q))
    → others.room ≤ to_others.room + one (passes is_ready (insert m s w) latest) → AreReady m latest others more
    → AreReady (insert m s w) s to_others more
ready_newly m s r w latest others to_others more here was now apart members room old = record {
  by_ready = λ q. elim (one_or_two q s) [
    | inl t ↦ subst (λ x. has nat_cmp to_others.members x ≡ (not (x == s) && passes is_ready k x)) (sym t.0) filed_it
    | inr t ↦ elim (one_or_two q latest) [
      | inl u ↦ subst (λ x. has nat_cmp to_others.members x ≡ (not (x == s) && passes is_ready k x)) (sym u.0) filed_latest
      | inr u ↦ filed_other q t.0 u.0
    ]
  ];
  room =
      let at_it : passes is_ready k s ≡ true = passes_here is_ready k s w (insert_here m s w) ∙ now in
      let same : passes is_ready k latest ≡ passes is_ready m latest = beside latest (turned s latest apart) in
      let up : others.room ≤ to_others.room + one (passes is_ready m latest) = subst (λ b. others.room ≤ to_others.room + one b) same room in
      rw at_it
      (omega (
        arith,
        old.room,
        up,
        ap lack was,
        ap lack now,
        total-insert nat_cmp nat_cmp_total nat_cmp-IsAntisymmetric count m s w r here,
      ));
}
  where
    k : FinMap nat_cmp Router
    k = insert m s w

    beside : (q : ℕ) → q ≢ s → passes is_ready k q ≡ passes is_ready m q
    beside q other = passes_inserted is_ready m s w q ∙
        ap (λ b. cond b (is_ready w) (passes is_ready m q)) (sym (same_test s q) ∙ distinct s q (turned q s other))

    filed_it : has nat_cmp to_others.members s ≡ (not (s == s) && passes is_ready k s)
    filed_it =
        members s ∙ ap₂ (λ b c. (passes is_ready k latest && b) || c) (distinct latest s (turned s latest apart))
        (old.by_ready s ∙ ap (λ b. not (s == latest) && b) (passes_here is_ready m s r here ∙ was) ∙ with_false (not (s == latest)))
        ∙ or_false (passes is_ready k latest && false) ∙ with_false (passes is_ready k latest) ∙
        sym (ap (λ b. not b && passes is_ready k s) (itself s))

    filed_latest : has nat_cmp to_others.members latest ≡ (not (latest == s) && passes is_ready k latest)
    filed_latest =
        members latest ∙ ap₂ (λ b c. (passes is_ready k latest && b) || c) (itself latest)
        (old.by_ready latest ∙ ap (λ b. not b && passes is_ready m latest) (itself latest))
        ∙ or_false (passes is_ready k latest && true) ∙ with_true (passes is_ready k latest) ∙
        sym (ap (λ b. not b && passes is_ready k latest) (distinct latest s (turned s latest apart)))

    filed_other : (q : ℕ) → q ≢ s → q ≢ latest → has nat_cmp to_others.members q ≡ (not (q == s) && passes is_ready k q)
    filed_other q it last =
        members q ∙ ap (λ b. (passes is_ready k latest && b) || has nat_cmp others.members q) (distinct latest q (turned q latest last))
        ∙ ap (λ b. b || has nat_cmp others.members q) (with_false (passes is_ready k latest)) ∙ old.by_ready q ∙
        ap (λ b. not b && passes is_ready m q) (distinct q latest last) ∙ sym (beside q it) ∙
        sym (ap (λ b. not b && passes is_ready k q) (distinct q s it))

-- the new one is apart from the latest, and a get takes its item next
new_one : (apart next : Bool) → true ≡ (apart && next) → (apart ≡ true) × (next ≡ true)
new_one true true h = (refl, refl)
new_one true false h = absurd (true≢false h)
new_one false next h = absurd (true≢false h)

is_apart : (s latest : ℕ) → not (s == latest) ≡ true → s ≢ latest
is_apart s latest h same = true≢false (sym h ∙ ap not (ap (λ x. x == latest) same ∙ itself latest))

-- an item came to a router, which is filed as it says
pub ready_noted : (m : FinMap nat_cmp Router) (s : ℕ) (r w : Router) (n latest to_latest : ℕ) (others to_others : RoomySet ℕ) (new : Bool)
    (more : ℕ) → get m s ≡ Some r → HasCome r w n → new ≡ (not (s == latest) && is_next w n) → to_latest ≡ (if new then s else latest)
    → ((q : ℕ) → has nat_cmp to_others.members q ≡
    (((new && passes is_ready (insert m s w) latest) && latest == q) || has nat_cmp others.members q))
    → others.room ≤ to_others.room + (if new && passes is_ready (insert m s w) latest then 1 else 0) → AreReady m latest others more
    → AreReady (insert m s w) to_latest to_others more
ready_noted m s r w n latest to_latest others to_others true more here come is to members room old =
    let both = new_one (not (s == latest)) (is_next w n) is in
    rw to
    (ready_newly m s r w latest others to_others more here (come.first both.1)
    (come.ready ∙ ap₂ (λ a b. a || b) (come.first both.1) both.1) (is_apart s latest both.0) members room old)
ready_noted m s r w n latest to_latest others to_others false more here come is to members room old =
    rw to (ready_as_before m s r w n latest others to_others more here come is members (omega (arith, room)) old)

-- there is room to file the latest, if it is ready still
pub ready_has_room : (m : FinMap nat_cmp Router) (s : ℕ) (w : Router) (n latest : ℕ) (others : RoomySet ℕ) (more : ℕ) (new : Bool) →
    new ≡ (not (s == latest) && is_next w n) → AreReady m latest others more → new ≡ true → passes is_ready (insert m s w) latest ≡ true
    → 0 < others.room
ready_has_room m s w n latest others more new is old told ready =
    let apart = is_apart s latest (new_one (not (s == latest)) (is_next w n) (sym told ∙ is)).0 in
    let same : passes is_ready (insert m s w) latest ≡ passes is_ready m latest = passes_inserted is_ready m s w latest ∙
    ap (λ b. cond b (is_ready w) (passes is_ready m latest)) (sym (same_test s latest) ∙ distinct s latest apart) in
    omega (arith, subst (λ b. more + (total count m + one b) ≤ others.room) (sym same ∙ ready) old.room)

-- a router that is ready no more is filed, if it isn't the latest
pub ready_filed : (m : FinMap nat_cmp Router) (s : ℕ) (r : Router) (latest : ℕ) (others : RoomySet ℕ) (more : ℕ) (gone : Bool) →
    get m s ≡ Some r → (gone ≡ true → is_ready r ≡ true) → AreReady m latest others more → (not (s == latest) && gone) ≡ true
    → has nat_cmp others.members s ≡ true
ready_filed m s r latest others more gone here was old ends =
    old.by_ready s ∙ ap₂ (λ a b. a && b) (first_of_both (not (s == latest)) gone ends)
    (passes_here is_ready m s r here ∙ was (second_of_both (not (s == latest)) gone ends))

-- after an act or a message a router is as ready as before
closed_both : (r w : Router) → is_open_terminal r ≡ false → is_open_terminal w ≡ false → is_ready w ≡ is_ready r
closed_both r w a b = closed_ready w b ∙ sym (closed_ready r a)

mapped : (f : Edge → Edge) (i : Option Edge) → is_none (option_map f i) ≡ is_none i
mapped f None = refl
mapped f (Some e) = refl

-- only a proxy sends inward
sends_in : (i : Option Edge) (n : ℕ) → is_some (choose (unwrap_or i no_edge) n) ≡ true → is_none i ≡ false
unfolding choose
sends_in None n h = absurd (true≢false (sym h))
sends_in (Some e) n h = refl

either : (b : Bool) → (b || false) ≡ true → b ≡ true
either true h = refl
either false h = h

pub act_ready : (r : Router) (act : RouterAct) (answer : Answer) → may_take r act ≡ true → is_ready (apply r act answer) ≡ is_ready r
unfolding apply is_possible is_rest
act_ready r SendIn a may =
    let inward = sends_in r.inward r.in_queue.current (second_of_both (has_come r) _ (either _ may)) in
    let closed : is_open_terminal r ≡ false = ap (λ b. b && not r.closed) inward in
    closed_both r (apply r SendIn a) closed closed
act_ready r Discard a may =
    let sink = first_of_both (is_sink r) (has_come r) (either _ may) in
    let closed : is_open_terminal r ≡ false =
    ap (λ b. is_terminal r && not b) (second_of_both (is_terminal r) r.closed sink) ∙ with_false (is_terminal r) in
    closed_both r (apply r Discard a) closed closed
act_ready r FinishIn a may = ap (λ b. has_come r && (b && not r.closed)) (mapped finish r.inward)
act_ready r Mark (Marked word was_waiting) may = refl
act_ready r Mark other may = refl
act_ready r Claim (Claimed i) may = refl
act_ready r Claim NoWord may = refl
act_ready r Claim other may = refl
act_ready r Lock (Locked word) may = refl
act_ready r Lock (Waiting word) may = refl
act_ready r Lock (Refused word) may = refl
act_ready r Lock other may = refl
act_ready r Begin a may = ap (λ b. has_come r && (b && not r.closed)) (mapped begin_decay r.inward)
act_ready r other a may = refl

pub hear_ready : (r : Router) (sender : ℕ) (m : Message) → is_ready (hear r sender m) ≡ is_ready r
unfolding hear
hear_ready r sender (messages.BypassPeer link side old target fresh) = refl
hear_ready r sender (messages.AcceptBypass old side fresh length) = refl
hear_ready r sender (messages.StopProxying side old in_length out_length) =
    ap (λ b. has_come r && (b && not r.closed)) (mapped (λ e. set_length_from (set_length_to e in_length) out_length) r.inward)
hear_ready r sender (messages.ProxyWillStop link side in_length) = refl
hear_ready r sender (messages.Flush link side) = refl
hear_ready r sender (messages.Item link side number item moves) = refl

-- what isn't an open terminal once it is closed or extended isn't ready
pub close_ready : (r : Router) → is_ready (close_router r) ≡ false
close_ready r = closed_ready (close_router r) (with_false (is_terminal r))

pub extend_ready : (r : Router) (link : LinkEnd) → is_ready (extend r link) ≡ false
extend_ready r link = closed_ready (extend r link) refl

-- the router of the least serial is the first
from_test : (a b : ℕ) → a ≤ b → nat_le a b ≡ true
from_test a b h = grind (arith, nat_tests)

to_test : (a b : ℕ) → nat_le a b ≡ true → a ≤ b
to_test a b h = grind (arith, nat_tests)

pub next_least : (m : FinMap nat_cmp Router) (test : Router → Bool) (from serial : ℕ) (end : End) →
    IsLeast (λ s. nat_le from s && passes test m s) (Some serial) → option_map (λ (r : Router). r.end) (get m serial) ≡ Some end →
    IsNext (get m) test from (Some (serial, end))
next_least m test from serial end least own = go (get m serial) refl
  where
    go : (o : Option Router) → get m serial ≡ o → IsNext (get m) test from (Some (serial, end))
    go None none = let no : None ≡ Some end = sym (ap (option_map (λ (r : Router). r.end)) none) ∙ own in absurd (cc)
    go (Some r) here = record {
      reached = to_test from serial (first_of_both _ _ least.0);
      router = r;
      here = here;
      passes = sym (passes_here test m serial r here) ∙ second_of_both (nat_le from serial) _ least.0;
      end_is = let both : Some r.end ≡ Some end = sym (ap (option_map (λ (x : Router). x.end)) here) ∙ own in cc;
      first = λ s x le is fits. least.1 s (ap₂ (λ a b. a && b) (from_test from s le) (passes_here test m s x is ∙ fits));
    }

-- the routers from a serial on and below another are passed over, since they don't pass a test
abbrev pub ArePassed : (ℕ → Option Router) → (Router → Bool) → ℕ → ℕ → Type 0
ArePassed routers test from to = (from ≤ to) × ((s : ℕ) (r : Router) → from ≤ s → s < to → routers s ≡ Some r → test r ≡ false)

apart_held : (a b c : Bool) → (a && (b && c)) ≡ ((a && b) && c)
apart_held true b c = refl
apart_held false b c = refl

module _ (routers : ℕ → Option Router) (held : EndSet) (from to : ℕ) (passed : ArePassed routers (is_ready_in held) from to) where
  held_too : (r : Router) → is_ready_in held r ≡ (is_ready r && sets.contains held r.end)
  held_too r = apart_held (has_come r) (is_open_terminal r) (sets.contains held r.end)

  module _ (x : ℕ × End) (next : IsNext routers is_ready to (Some x)) where
    -- callers hold the end of the next one, and it is the one
    pub one_ready : sets.contains held x.1 ≡ true → IsNext routers (is_ready_in held) from (Some x)
    one_ready is_held = record {
      reached = omega (arith, passed.0, next.reached);
      router = next.router;
      here = next.here;
      passes = held_too next.router ∙ ap₂ (λ a b. a && b) next.passes (ap (sets.contains held) next.end_is ∙ is_held);
      end_is = next.end_is;
      first = λ s r le here fits. elim (cases_lt s to) [
        | inl t ↦ absurd (true≢false (sym fits ∙ passed.1 s r le t here))
        | inr t ↦ next.first s r t here (first_of_both (is_ready r) _ (sym (held_too r) ∙ fits))
      ];
    }
