-- Runs of tables, calls and all, are runs of the page's machine; and refusals of cells are refusals that it allows.
use Rattle.std.specs.Prelude.{◌≡◌, ◌⊎◌, ◌<◌, ℕ, true, nat_lt, Option, Some, None, List, [], ◌∷◌, unwrap_or, refl}
use Rattle.std.proofs.Common.{arith, ap, ◌∙◌, sym, subst, inl, inr, ⊎_elim}
use Rattle.std.proofs.lemmas.Bool.Decides.{nat_tests}
use Rattle.ipcz_base.specs.declared.end.End.{End}
use Rattle.ipcz_base.specs.declared.profile.Profile.{Profile}
use Rattle.ipcz_base.specs.declared.profile.Profile.TheVariants.{Printed, Wide}
use Rattle.ipcz_base.specs.declared.refusal.Refusal.{Refusal}
use Rattle.ipcz_base.specs.declared.refusal.Refusal.TheVariants.{NoWord, NumbersEnd, OutOfMemory}
use Rattle.ipcz_node.specs.Node.{Node}
use Rattle.ipcz_node.specs.Calls.{close_refusal, get_refusal, put_refusal}
use Rattle.ipcz_node.proofs.Fronts.{close_refusal_behind, get_refusal_behind, put_refusal_behind}
use Rattle.ipcz_world.specs.declared.step.Step.TheVariants.{Open, Put, PutWide, Get, Close}
use Rattle.ipcz_world.specs.declared.step.Reply.TheVariants.{Refused}
use Rattle.ipcz_world.specs.World.{World, new_world, node_at}
use Rattle.ipcz_world.specs.Books.{Books, advance, no_books}
use Rattle.ipcz_world.specs.Lawful.{IsWithinLimits}
use Rattle.ipcz_world.specs.Routes.{Routes, routes_after}
use Rattle.ipcz_world.specs.Steps.{StepAny, GivesOrNoMemory, PutGives, close_step, is_refused, put_of, put_step, unless}
use Rattle.ipcz_promise.specs.Promise.{Account, MayRun, start}
use Rattle.ipcz_promise.specs.Accounting.{Keeps}
use Rattle.ipcz_promise.proofs.Kept.{starts_with_no_books, steps_keep_books, steps_keep_the_promise}
use Rattle.ipcz_rule.specs.Deeds.{Deed, Does, Beside, AreDeeds, after_aside, routes_after_aside, steps_of, replies_of}
use Rattle.ipcz_rule.specs.LastingRuns.{all_deeds}
use Rattle.ipcz_rule.proofs.LastingRuns.{table_steps_are_runs}
use Rattle.ipcz_shown.specs.Shown.{MayBeRefused, RefusalsAreAllowed, StartedTablesKeepThePromise, TableRunsKeepThePromise}
use Rattle.ipcz_shown.proofs.Asides.{asides-look-the-same, same-keeps}
use Rattle.ipcz_shown.proofs.Parts.{node-shown}
use Rattle.ipcz_shown.proofs.Telling.{kept-is-told}

-- the world keeps these accounts by these books
abbrev KeepsBy : World → Books → Account → Type 0
KeepsBy w b a = (t : Keeps w a) × (t.stands.books ≡ b)

-- deeds lead to a world that keeps the accounts to which the machine comes by their steps, by the books to which they lead
deeds-keep : (w v : World) (b c : Books) (g h : Routes) (a : Account) (deeds : List Deed) → KeepsBy w b a → AreDeeds w b g deeds v c h →
    (d : Account) × MayRun a (steps_of deeds) (replies_of deeds) d × KeepsBy v c d
deeds-keep w v b c g h a [] kept run = (a, refl, rw (run.0, run.1) kept)
deeds-keep w v b c g h a (Does step reply ∷ deeds) kept run =
    let p = steps_keep_books w run.0 a step reply kept.0 run.1 in
    let by : KeepsBy run.0 (advance w b step reply) p.0 = (p.2, p.3 ∙ ap (λ z. advance w z step reply) kept.1) in
    let q = deeds-keep run.0 v (advance w b step reply) c (routes_after w g step reply) h p.0 deeds by run.2 in
    (q.0, (p.0, p.1, q.1), q.2)
deeds-keep w v b c g h a (Beside aside ∷ deeds) kept run =
    let p = same-keeps w (after_aside w aside) (asides-look-the-same w aside run.0) a kept.0 in
    deeds-keep (after_aside w aside) v b c (routes_after_aside w g aside) h a deeds (p.0, p.1 ∙ kept.1) run.1

-- which books there are is nothing to deeds
deeds-by : (w v : World) (b c d : Books) (g h : Routes) (deeds : List Deed) → AreDeeds w b g deeds v c h → (e : Books) × AreDeeds w d g deeds v e h
deeds-by w v b c d g h [] run = (d, (run.0, refl, run.2))
deeds-by w v b c d g h (Does step reply ∷ deeds) run =
    let t = deeds-by run.0 v (advance w b step reply) c (advance w d step reply) (routes_after w g step reply) h deeds run.2 in
    (t.0, (run.0, run.1, t.1))
deeds-by w v b c d g h (Beside aside ∷ deeds) run =
    let t = deeds-by (after_aside w aside) v b c d (routes_after_aside w g aside) h deeds run.1 in
    (t.0, (run.0, t.1))

pub table_runs_keep_the_promise : TableRunsKeepThePromise
table_runs_keep_the_promise count limit k reuses p q steps a kept run =
    let t = p.1.1.rules in
    let u = q.1.1.rules in
    let by = deeds-by t.world u.world t.books u.books kept.stands.books t.routes u.routes (all_deeds steps)
    (table_steps_are_runs count limit k reuses p q steps run) in
    let d = deeds-keep t.world u.world kept.stands.books by.0 t.routes u.routes a (all_deeds steps) (kept, refl) by.1 in
    (d.0, d.1, d.2.0)

-- at the start there are none
start-keeps-books : (count limit : ℕ) → IsWithinLimits count limit → (w : World) (b : Books) → w ≡ new_world count limit → b ≡ no_books →
    KeepsBy w b (start count limit)
start-keeps-books count limit limits w b is none = rw (is, none) (starts_with_no_books count limit limits)

pub started_tables_keep_the_promise : StartedTablesKeepThePromise
started_tables_keep_the_promise count limit k reuses p q steps limits shows run =
    let t = p.1.1.rules in
    let u = q.1.1.rules in
    let kept = start-keeps-books count limit limits t.world t.books shows.world shows.books in
    let d = deeds-keep t.world u.world t.books u.books t.routes u.routes (start count limit) (all_deeds steps) kept
    (table_steps_are_runs count limit k reuses p q steps run) in
    (d.0, d.1, d.2.0, kept-is-told q.1.1 d.0 d.2.0 d.2.1)

-- what a node refuses by itself is a step of the world
inside-is : (w : World) (n : ℕ) → n < w.count → nat_lt n w.count ≡ true
inside-is w n l = grind (arith, l, nat_tests)

refused-put : (profile : Profile) (w : World) (n : ℕ) (at : End) (bytes : List ℕ) (ends : List End) → n < w.count →
    PutGives w n (put_step profile w n at (record { bytes = bytes; ends = ends })) (Refused (unwrap_or (put_refusal profile (node_at w n) at bytes ends) OutOfMemory)) w
unfolding unless
refused-put profile w n at bytes ends l = go (put_refusal profile (node_at w n) at bytes ends) refl
  where
    go : (o : Option Refusal) → put_refusal profile (node_at w n) at bytes ends ≡ o →
        PutGives w n (put_step profile w n at (record { bytes = bytes; ends = ends })) (Refused (unwrap_or o OutOfMemory)) w
    go None e = inr (l, (refl, refl))
    go (Some why) e = inl (rw (inside-is w n l, e) (refl, refl))

refused-get : (w : World) (n : ℕ) (at : End) (why : Refusal) → n < w.count → get_refusal (node_at w n) at ≡ Some why → StepAny w (Get n at) (Refused why) w
unfolding unless
refused-get w n at why l e = rw (inside-is w n l, e) (refl, refl)

refused-close : (w : World) (n : ℕ) (at : End) → n < w.count → StepAny w (Close n at) (Refused (unwrap_or (close_refusal (node_at w n) at) OutOfMemory)) w
unfolding unless is_refused
refused-close w n at l = go (close_refusal (node_at w n) at) refl
  where
    go : (o : Option Refusal) → close_refusal (node_at w n) at ≡ o → GivesOrNoMemory w (close_step w n at) (Refused (unwrap_or o OutOfMemory)) w
    go None e = inr ((rw (inside-is w n l, e) refl), (refl, refl))
    go (Some why) e = inl (rw (inside-is w n l, e) (refl, refl))

put-refused : (profile : Profile) (w : World) (a : Account) (n : ℕ) (at : End) (bytes : List ℕ) (ends : List End) → Keeps w a → n < w.count →
    MayBeRefused a (put_of profile n at bytes ends) (unwrap_or (put_refusal profile (node_at w n) at bytes ends) OutOfMemory)
put-refused Printed w a n at bytes ends kept l =
    let why = unwrap_or (put_refusal Printed (node_at w n) at bytes ends) OutOfMemory in
    let p = steps_keep_the_promise w w a (Put n at bytes ends) (Refused why) kept (refused-put Printed w n at bytes ends l) in (p.1.0, refl)
put-refused Wide w a n at bytes ends kept l =
    let why = unwrap_or (put_refusal Wide (node_at w n) at bytes ends) OutOfMemory in
    let p = steps_keep_the_promise w w a (PutWide n at bytes ends) (Refused why) kept (refused-put Wide w n at bytes ends l) in (p.1.0, refl)

get-refused : (w : World) (a : Account) (n : ℕ) (at : End) (why : Refusal) → Keeps w a → n < w.count → get_refusal (node_at w n) at ≡ Some why →
    MayBeRefused a (Get n at) why
get-refused w a n at why kept l e = let p = steps_keep_the_promise w w a (Get n at) (Refused why) kept (refused-get w n at why l e) in (p.1.0, refl)

close-refused : (w : World) (a : Account) (n : ℕ) (at : End) → Keeps w a → n < w.count →
    MayBeRefused a (Close n at) (unwrap_or (close_refusal (node_at w n) at) OutOfMemory)
close-refused w a n at kept l =
    let why = unwrap_or (close_refusal (node_at w n) at) OutOfMemory in
    let p = steps_keep_the_promise w w a (Close n at) (Refused why) kept (refused-close w n at l) in (p.1.0, refl)

open-refused : (w : World) (a : Account) (n : ℕ) (why : Refusal) → Keeps w a → n < w.count → (why ≡ NoWord) ⊎ ((why ≡ NumbersEnd) ⊎ (why ≡ OutOfMemory)) →
    MayBeRefused a (Open n) why
open-refused w a n why kept l h =
    let inside : n < a.nodes = subst (λ c. n < c) (sym kept.stands.nodes) l in
    ⊎_elim (λ (e : why ≡ NoWord). subst (MayBeRefused a (Open n)) (sym e) (inside, refl))
    (λ (o : (why ≡ NumbersEnd) ⊎ (why ≡ OutOfMemory)). ⊎_elim (λ (e : why ≡ NumbersEnd). subst (MayBeRefused a (Open n)) (sym e) (inside, refl))
    (λ (e : why ≡ OutOfMemory). subst (MayBeRefused a (Open n)) (sym e) (inside, refl)) o) h

pub refusals_are_allowed : RefusalsAreAllowed
refusals_are_allowed = record {
  put = λ count size alone t a kept id v j p seat there profile at bytes ends. let r = t.1.rules in let is = node-shown t.1 id v j p seat there in
      subst (λ (y : Option Refusal). MayBeRefused a (put_of profile p.node at bytes ends) (unwrap_or y OutOfMemory))
      (ap (λ (y : Node). put_refusal profile y at bytes ends) is.1 ∙ sym (put_refusal_behind (t.1.fronts p.node) profile p.state at bytes ends))
      (put-refused profile r.world a p.node at bytes ends kept is.0);
  get = λ count size alone t a kept id v j p seat there at why refused. let r = t.1.rules in let is = node-shown t.1 id v j p seat there in
      get-refused r.world a p.node at why kept is.0 (ap (λ (y : Node). get_refusal y at) is.1 ∙ (sym (get_refusal_behind (t.1.fronts p.node) p.state at) ∙ refused));
  close = λ count size alone t a kept id v j p seat there at. let r = t.1.rules in let is = node-shown t.1 id v j p seat there in
      subst (λ (y : Option Refusal). MayBeRefused a (Close p.node at) (unwrap_or y OutOfMemory))
      (ap (λ (y : Node). close_refusal y at) is.1 ∙ sym (close_refusal_behind (t.1.fronts p.node) p.state at)) (close-refused r.world a p.node at kept is.0);
  open_pair = λ count size alone t a kept id v j p seat there why h. let r = t.1.rules in let is = node-shown t.1 id v j p seat there in
      open-refused r.world a p.node why kept is.0 h;
}
