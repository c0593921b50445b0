-- The judge's answer to a line, and the machine's.
use Rattle.std.specs.Prelude.{◌≡◌, ◌<◌, ◌+◌, ℕ, Bool, true, false, not, ◌&&◌, nat_eq, nat_lt, Option, Some, None, is_none, List, [], ◌∷◌, ◌++◌, length, drop, slice_get, bytes_eq, refl, if◌then◌else◌}
use Rattle.std.proofs.Common.{arith, ap, ap₂, ◌∙◌, sym, subst}
use Rattle.std.proofs.lemmas.Bool.Decides.{nat_tests}
use Rattle.std.proofs.lemmas.Bool.{and_parts, and_from}
use Rattle.std.proofs.lemmas.Slice.Eq.{bytes_eq-Decides}
use Rattle.std.specs.FinMap.{get}
use Rattle.ipcz_base.specs.declared.side.Side.TheVariants.{A, B}
use Rattle.ipcz_base.specs.declared.end.End.{End}
use Rattle.ipcz_base.specs.declared.parcel.Parcel.{Parcel}
use Rattle.ipcz_base.specs.declared.profile.Profile.{Profile}
use Rattle.ipcz_base.specs.declared.profile.Profile.TheVariants.{Printed, Wide}
use Rattle.ipcz_base.specs.declared.refusal.Refusal.{Refusal}
use Rattle.ipcz_base.specs.Ends.{end_at, has_end}
use Rattle.ipcz_world.specs.declared.step.Step.{Step}
use Rattle.ipcz_world.specs.declared.step.Step.TheVariants as steps
use Rattle.ipcz_world.specs.declared.step.Reply.{Reply}
use Rattle.ipcz_world.specs.declared.step.Reply.TheVariants as replies
use Rattle.ipcz_promise.specs.Promise.{Account, May, MayRefusePut, first_refusal, get_parcel, holds, open_pair, peer}
use Rattle.ipcz_script.specs.Labels.{Labels, ends_of, bind}
use Rattle.ipcz_verdict.specs.declared.portal.Portal.{Portal}
use Rattle.ipcz_verdict.specs.declared.line.Line.{Line}
use Rattle.ipcz_verdict.specs.declared.line.Line.TheVariants as lines
use Rattle.ipcz_verdict.specs.Ledger.{Binds, Ledger, MayLine, meant, put_step, with_pair}
use Rattle.ipcz_verdict.specs.Desks.{AreDue, Decides, DecidesCall, Desk, account_of, ends_if, held_by, may_open, may_refuse_close, may_refuse_get, may_refuse_open, may_refuse_put, next_ends, opening, portal_at, receiving}
use Rattle.ipcz_verdict.proofs.Allowed.{due_get, due_open, fresh_pair}
use Rattle.ipcz_verdict.proofs.Deciding.{books_hold}
use Rattle.ipcz_world.proofs.facts.Slices.{slice_get-drop}
use Rattle.ipcz_verdict.proofs.Facts.{both, same_some, some_none}
use Rattle.ipcz_verdict.proofs.Refusals.{close_all, close_right, get_all, get_right, open_all, open_right, put_all, put_right}
use Rattle.ipcz_verdict.proofs.Sound.{holder_is}
use Rattle.ipcz_verdict.proofs.Turns.{no_rest}

clash : {X : Type 0} → false ≡ true → X
clash h = cc

-- ---- lines of one call, whose names mean what they did

call_line : (old : Desk) (t : List Portal) (line : Line) (step : Step) (reply : Reply) (allowed : Bool) → DecidesCall old.portals step reply allowed t →
    ((l : Ledger) → l.labels ≡ old.labels → (c : Account) → May l.account step reply c → MayLine old.profile l line (record l { account = c })) →
    ((l : Ledger) → l.labels ≡ old.labels → (m : Ledger) → MayLine old.profile l line m → May l.account step reply m.account) →
    Decides old line allowed (record old { portals = t })
call_line old t line step reply true decides up down l at =
    let k = decides l.account old.pairs at.due in (
      record l { account = k.called },
      record l { account = k.rested },
      up l at.labels k.called k.may,
      (k.turns, refl, refl),
      record { nodes = k.nodes ∙ at.nodes; due = k.due; pairs = at.pairs; labels = at.labels },
      refl,
    )
call_line old t line step reply false decides up down l at = λ m may. decides l.account old.pairs at.due m.account (down l at.labels m may)

refusal_line : (old : Desk) (line : Line) (step : Step) (reply : Reply) (allowed : Bool) →
    ((a : Account) → a.nodes ≡ old.nodes → AreDue a old.pairs old.portals [] → allowed ≡ true → May a step reply a) →
    ((a c : Account) → a.nodes ≡ old.nodes → AreDue a old.pairs old.portals [] → May a step reply c → allowed ≡ true) →
    ((l : Ledger) → l.labels ≡ old.labels → May l.account step reply l.account → MayLine old.profile l line l) →
    ((l : Ledger) → l.labels ≡ old.labels → (m : Ledger) → MayLine old.profile l line m → May l.account step reply m.account) →
    Decides old line allowed old
refusal_line old line step reply true right all up down l at = (l, l, up l at.labels (right l.account at.nodes at.due refl), no_rest l, at, refl)
refusal_line old line step reply false right all up down l at = λ m may. clash (all l.account m.account at.nodes at.due (down l at.labels m may))

-- what a name means to the judge and by the ledger
named : (old : Desk) (l : Ledger) (name : List ℕ) (at : End) → l.labels ≡ old.labels → get old.labels.names name ≡ Some at → meant l name ≡ Some at
named old l name at same h = ap (λ (b : Labels). get b.names name) same ∙ h

same_end_named : (old : Desk) (l : Ledger) (name : List ℕ) (at other : End) → l.labels ≡ old.labels → get old.labels.names name ≡ Some at → meant l name ≡ Some other → other ≡ at
same_end_named old l name at other same h k = same_some (sym k ∙ named old l name at same h)

same_ends_named : (old : Desk) (l : Ledger) (names : List (List ℕ)) (ends others : List End) → l.labels ≡ old.labels → ends_of old.labels names ≡ Some ends →
    ends_of l.labels names ≡ Some others → others ≡ ends
same_ends_named old l names ends others same h k = same_some (sym k ∙ ap (λ b. ends_of b names) same ∙ h)

unnamed : {X : Type 0} (old : Desk) (l : Ledger) (name : List ℕ) (other : End) → l.labels ≡ old.labels → get old.labels.names name ≡ None → meant l name ≡ Some other → X
unnamed old l name other same h k = some_none (meant l name) k (ap (λ (b : Labels). get b.names name) same ∙ h)

-- ---- a name that means nothing

pub put_unnamed : (old : Desk) (node : ℕ) (name bytes : List ℕ) (names : List (List ℕ)) (number : ℕ) → get old.labels.names name ≡ None → Decides old (lines.Put node name bytes names number) false old
put_unnamed old node name bytes names number h l at = λ m may. unnamed old l name may.0 at.labels h may.2

pub put_some_unnamed : (old : Desk) (node : ℕ) (name bytes : List ℕ) (names : List (List ℕ)) (number : ℕ) → ends_of old.labels names ≡ None → Decides old (lines.Put node name bytes names number) false old
put_some_unnamed old node name bytes names number h l at = λ m may. some_none (ends_of l.labels names) may.3 (ap (λ b. ends_of b names) at.labels ∙ h)

pub put_refused_unnamed : (old : Desk) (node : ℕ) (name bytes : List ℕ) (names : List (List ℕ)) (w : Refusal) → get old.labels.names name ≡ None → Decides old (lines.PutRefused node name bytes names w) false old
put_refused_unnamed old node name bytes names w h l at = λ m may. unnamed old l name may.0 at.labels h may.2

pub put_refused_some_unnamed : (old : Desk) (node : ℕ) (name bytes : List ℕ) (names : List (List ℕ)) (w : Refusal) → ends_of old.labels names ≡ None → Decides old (lines.PutRefused node name bytes names w) false old
put_refused_some_unnamed old node name bytes names w h l at = λ m may. some_none (ends_of l.labels names) may.3 (ap (λ b. ends_of b names) at.labels ∙ h)

pub got_unnamed : (old : Desk) (node : ℕ) (name bytes : List ℕ) (names : List (List ℕ)) (number : ℕ) → get old.labels.names name ≡ None → Decides old (lines.Got node name bytes names number) false old
got_unnamed old node name bytes names number h l at = λ m may. unnamed old l name may.0 at.labels h may.2

pub get_refused_unnamed : (old : Desk) (node : ℕ) (name : List ℕ) (w : Refusal) → get old.labels.names name ≡ None → Decides old (lines.GetRefused node name w) false old
get_refused_unnamed old node name w h l at = λ m may. unnamed old l name may.0 at.labels h may.1

pub closed_unnamed : (old : Desk) (node : ℕ) (name : List ℕ) (number : ℕ) → get old.labels.names name ≡ None → Decides old (lines.Closed node name number) false old
closed_unnamed old node name number h l at = λ m may. unnamed old l name may.0 at.labels h may.1

pub close_refused_unnamed : (old : Desk) (node : ℕ) (name : List ℕ) (w : Refusal) → get old.labels.names name ≡ None → Decides old (lines.CloseRefused node name w) false old
close_refused_unnamed old node name w h l at = λ m may. unnamed old l name may.0 at.labels h may.1

-- ---- puts and closes

pub put_line : (old : Desk) (t : List Portal) (node : ℕ) (name bytes : List ℕ) (names : List (List ℕ)) (number : ℕ) (at : End) (ends : List End) (allowed : Bool) →
    get old.labels.names name ≡ Some at → ends_of old.labels names ≡ Some ends → DecidesCall old.portals (put_step old.profile node at bytes ends) (replies.Put number) allowed t →
    Decides old (lines.Put node name bytes names number) allowed (record old { portals = t })
put_line old t node name bytes names number at ends allowed h k decides =
    call_line old t (lines.Put node name bytes names number) (put_step old.profile node at bytes ends) (replies.Put number) allowed decides
    (λ l same c may. (at, ends, named old l name at same h, ap (λ b. ends_of b names) same ∙ k, may, refl, refl))
    (λ l same m may. subst (λ x. May l.account (put_step old.profile node x bytes ends) (replies.Put number) m.account) (same_end_named old l name at may.0 same h may.2)
    (subst (λ x. May l.account (put_step old.profile node may.0 bytes x) (replies.Put number) m.account) (same_ends_named old l names ends may.1 same k may.3) may.4))

pub closed_line : (old : Desk) (t : List Portal) (node : ℕ) (name : List ℕ) (number : ℕ) (at : End) (allowed : Bool) → get old.labels.names name ≡ Some at →
    DecidesCall old.portals (steps.Close node at) (replies.Closed number) allowed t → Decides old (lines.Closed node name number) allowed (record old { portals = t })
closed_line old t node name number at allowed h decides =
    call_line old t (lines.Closed node name number) (steps.Close node at) (replies.Closed number) allowed decides
    (λ l same c may. (at, named old l name at same h, may, refl, refl))
    (λ l same m may. subst (λ x. May l.account (steps.Close node x) (replies.Closed number) m.account) (same_end_named old l name at may.0 same h may.1) may.2)

-- ---- refusals

may_refuse_put_is : (profile : Profile) (a c : Account) (node : ℕ) (at : End) (bytes : List ℕ) (ends : List End) (w : Refusal) →
    MayRefusePut (first_refusal profile a node at bytes ends) a node at w → c ≡ a → May a (put_step profile node at bytes ends) (replies.Refused w) c
may_refuse_put_is Printed a c node at bytes ends w h same = (h, same)
may_refuse_put_is Wide a c node at bytes ends w h same = (h, same)

refuses_put : (profile : Profile) (a c : Account) (node : ℕ) (at : End) (bytes : List ℕ) (ends : List End) (w : Refusal) →
    May a (put_step profile node at bytes ends) (replies.Refused w) c → MayRefusePut (first_refusal profile a node at bytes ends) a node at w
refuses_put Printed a c node at bytes ends w may = may.0
refuses_put Wide a c node at bytes ends w may = may.0

pub put_refused_line : (old : Desk) (node : ℕ) (name bytes : List ℕ) (names : List (List ℕ)) (w : Refusal) (at : End) (ends : List End) (allowed : Bool) →
    get old.labels.names name ≡ Some at → ends_of old.labels names ≡ Some ends →
    allowed ≡ may_refuse_put (first_refusal old.profile (account_of old.portals) node at bytes ends) old.portals old.nodes node at w →
    Decides old (lines.PutRefused node name bytes names w) allowed old
put_refused_line old node name bytes names w at ends allowed h k is =
    refusal_line old (lines.PutRefused node name bytes names w) (put_step old.profile node at bytes ends) (replies.Refused w) allowed
    (λ a n due yes_it_is. may_refuse_put_is old.profile a a node at bytes ends w (put_right old.profile a old.pairs old.portals old.nodes node at bytes ends w due n (sym is ∙ yes_it_is)) refl)
    (λ a c n due may. is ∙ put_all old.profile a old.pairs old.portals old.nodes node at bytes ends w due n (refuses_put old.profile a c node at bytes ends w may))
    (λ l same may. (at, ends, named old l name at same h, ap (λ b. ends_of b names) same ∙ k, may, refl, refl))
    (λ l same m may. subst (λ x. May l.account (put_step old.profile node x bytes ends) (replies.Refused w) m.account) (same_end_named old l name at may.0 same h may.2)
    (subst (λ x. May l.account (put_step old.profile node may.0 bytes x) (replies.Refused w) m.account) (same_ends_named old l names ends may.1 same k may.3) may.4))

pub get_refused_line : (old : Desk) (node : ℕ) (name : List ℕ) (w : Refusal) (at : End) (allowed : Bool) → get old.labels.names name ≡ Some at →
    allowed ≡ may_refuse_get old.portals node at w → Decides old (lines.GetRefused node name w) allowed old
get_refused_line old node name w at allowed h is =
    refusal_line old (lines.GetRefused node name w) (steps.Get node at) (replies.Refused w) allowed
    (λ a n due yes_it_is. (get_right a old.pairs old.portals node at w due (sym is ∙ yes_it_is), refl))
    (λ a c n due may. is ∙ get_all a old.pairs old.portals node at w due may.0)
    (λ l same may. (at, named old l name at same h, may, refl, refl))
    (λ l same m may. subst (λ x. May l.account (steps.Get node x) (replies.Refused w) m.account) (same_end_named old l name at may.0 same h may.1) may.2)

pub close_refused_line : (old : Desk) (node : ℕ) (name : List ℕ) (w : Refusal) (at : End) (allowed : Bool) → get old.labels.names name ≡ Some at →
    allowed ≡ may_refuse_close old.portals node at w → Decides old (lines.CloseRefused node name w) allowed old
close_refused_line old node name w at allowed h is =
    refusal_line old (lines.CloseRefused node name w) (steps.Close node at) (replies.Refused w) allowed
    (λ a n due yes_it_is. (close_right a old.pairs old.portals node at w due (sym is ∙ yes_it_is), refl))
    (λ a c n due may. is ∙ close_all a old.pairs old.portals node at w due may.0)
    (λ l same may. (at, named old l name at same h, may, refl, refl))
    (λ l same m may. subst (λ x. May l.account (steps.Close node x) (replies.Refused w) m.account) (same_end_named old l name at may.0 same h may.1) may.2)

pub open_refused_line : (old : Desk) (node : ℕ) (w : Refusal) (allowed : Bool) → allowed ≡ may_refuse_open old.nodes node w → Decides old (lines.OpenRefused node w) allowed old
open_refused_line old node w allowed is =
    refusal_line old (lines.OpenRefused node w) (steps.Open node) (replies.Refused w) allowed
    (λ a n due yes_it_is. (open_right a old.nodes node w n (sym is ∙ yes_it_is), refl))
    (λ a c n due may. is ∙ open_all a old.nodes node w n may.0)
    (λ l same may. (may, refl, refl))
    (λ l same m may. may.0)

-- ---- opens

none_is : {X : Type 0} (o : Option X) → is_none o ≡ true → o ≡ None
none_is None h = refl
none_is (Some x) h = cc

not_true : (c : Bool) → not c ≡ true → c ≡ false
not_true true h = cc
not_true false h = refl

pub opened_line : (old : Desk) (node : ℕ) (first second : List ℕ) (b : Labels) → may_open old node first second ≡ true →
    b ≡ bind (bind old.labels first (end_at old.pairs A)) second (end_at old.pairs B) →
    Decides old (lines.Opened node first second) true (record old { portals = opening old.portals node; pairs = old.pairs + 1; labels = b })
opened_line old node first second b h is l at =
    let new_first : Bool = is_none (get old.labels.names first) in
    let new_second : Bool = is_none (get old.labels.names second) in
    let others : Bool = not (bytes_eq first second) in
    let one : (nat_lt node old.nodes ≡ true) × ((new_first && (new_second && others)) ≡ true) = and_parts (nat_lt node old.nodes) (new_first && (new_second && others)) h in
    let two : (new_first ≡ true) × ((new_second && others) ≡ true) = and_parts new_first (new_second && others) one.1 in
    let three : (new_second ≡ true) × (others ≡ true) = and_parts new_second others two.1 in
    let less : node < old.nodes = grind (arith, nat_tests, one.0) in
    let c : Account = open_pair l.account node (end_at old.pairs A) in
    let fresh : l.account.opened old.pairs ≡ false = fresh_pair l.account old.pairs old.portals at.due.books in
    let next : l.pairs + 1 ≡ old.pairs + 1 = omega (arith, at.pairs) in
    let named_so : with_pair l first second ≡ b = ap₂ (λ (x : Labels) k. bind (bind x first (end_at k A)) second (end_at k B)) at.labels at.pairs ∙ sym is in (
      record { account = c; labels = with_pair l first second; pairs = l.pairs + 1 },
      record { account = c; labels = with_pair l first second; pairs = l.pairs + 1 },
      (
        ap (λ (x : Labels). get x.names first) at.labels ∙ none_is (get old.labels.names first) two.0,
        ap (λ (x : Labels). get x.names second) at.labels ∙ none_is (get old.labels.names second) three.0,
        (λ e. both (bytes_eq first second) ((bytes_eq-Decides first second).1 e) (not_true (bytes_eq first second) three.1)),
        subst (λ k. May l.account (steps.Open node) (replies.Opened (end_at k A) (end_at k B)) c) (sym at.pairs) (
          omega (arith, less, at.nodes),
          refl,
          record { unopened = fresh; put = at.due.sound.new_put (end_at old.pairs A) fresh; got = at.due.sound.new_got (end_at old.pairs A) fresh; unclosed = at.due.sound.new_unclosed (end_at old.pairs A) fresh },
          record { unopened = fresh; put = at.due.sound.new_put (end_at old.pairs B) fresh; got = at.due.sound.new_got (end_at old.pairs B) fresh; unclosed = at.due.sound.new_unclosed (end_at old.pairs B) fresh },
          refl,
        ),
        refl,
        refl,
      ),
      no_rest (record { account = c; labels = with_pair l first second; pairs = l.pairs + 1 }),
      record { nodes = at.nodes; due = due_open l.account old.pairs old.portals node at.due; pairs = next; labels = named_so },
      refl,
    )

pub not_opened_line : (old new : Desk) (node : ℕ) (first second : List ℕ) → may_open old node first second ≡ false → Decides old (lines.Opened node first second) false new
not_opened_line old new node first second h l at = λ m may. both (may_open old node first second) (open_if m may) h
  where
    open_if : (m : Ledger) → MayLine old.profile l (lines.Opened node first second) m → may_open old node first second ≡ true
    open_if m may =
        let less : node < old.nodes = omega (arith, may.3.0, at.nodes) in
        let test : nat_lt node old.nodes ≡ true = grind (arith, nat_tests, less) in
        and_from _ _ test (and_from _ _ (ap is_none (sym (ap (λ (x : Labels). get x.names first) at.labels) ∙ may.0))
        (and_from _ _ (ap is_none (sym (ap (λ (x : Labels). get x.names second) at.labels) ∙ may.1)) (differ (bytes_eq first second) refl)))
      where
        differ : (c : Bool) → bytes_eq first second ≡ c → not c ≡ true
        differ true e = absurd (may.2 ((bytes_eq-Decides first second).0 e))
        differ false e = refl

-- ---- gets

-- the parcel that comes next
pub record Next (a : Account) (node : ℕ) (at : End) (number : ℕ) (bytes : List ℕ) (ends : List End) : Type 0 where
  pub holds : holds a node at ≡ true
  pub numbered : number ≡ length (a.got at)
  pub next : slice_get (a.put (peer at)) (length (a.got at)) ≡ Some (record { bytes = bytes; ends = ends })

if_tells : (c : Bool) (bytes : List ℕ) (o : Option Parcel) (ends : List End) → ends_if c bytes o ≡ Some ends → (c ≡ true) × (o ≡ Some (record { bytes = bytes; ends = ends }))
if_tells false bytes o ends h = cc
if_tells true bytes None ends h = cc
if_tells true bytes (Some p) ends h = go (bytes_eq p.bytes bytes) refl h
  where
    go : (c : Bool) → bytes_eq p.bytes bytes ≡ c → (if c then Some p.ends else None) ≡ Some ends → (true ≡ true) × (Some p ≡ Some (record { bytes = bytes; ends = ends }))
    go false e k = cc
    go true e k = (refl, ap₂ (λ (x : List ℕ) (y : List End). Some (record { bytes = x; ends = y })) ((bytes_eq-Decides p.bytes bytes).0 e) (same_some k))

if_from : (c : Bool) (bytes : List ℕ) (o : Option Parcel) (ends : List End) → c ≡ true → o ≡ Some (record { bytes = bytes; ends = ends }) → ends_if c bytes o ≡ Some ends
if_from c bytes o ends yes_it_is is =
    ap₂ (λ x y. ends_if x bytes y) yes_it_is is ∙ ap (λ c. if c then Some ends else None) ((bytes_eq-Decides bytes bytes).1 refl)

first_left : (a : Account) (at : End) → slice_get (drop (length (a.got at)) (a.put (peer at))) 0 ≡ slice_get (a.put (peer at)) (length (a.got at))
first_left a at = let e : length (a.got at) + 0 ≡ length (a.got at) = omega arith in slice_get-drop (length (a.got at)) (a.put (peer at)) 0 ∙ ap (slice_get (a.put (peer at))) e

next_right : (a : Account) (pairs : ℕ) (s : List Portal) (node : ℕ) (at : End) (number : ℕ) (bytes : List ℕ) (ends : List End) → AreDue a pairs s [] →
    next_ends s node at number bytes ≡ Some ends → Next a node at number bytes ends
next_right a pairs s node at number bytes ends due h =
    let t = if_tells _ bytes (slice_get (portal_at s at).waiting 0) ends h in
    let parts = and_parts (holds (account_of s) node at) (nat_eq number (portal_at s at).got) t.0 in
    let mine = books_hold a pairs s node at due.books ∙ parts.0 in
    let open_at = sym (due.books.closed at) ∙ due.sound.held_unclosed at node (holder_is (a.holder at) node mine) in
    let n : number ≡ (portal_at s at).got = grind (arith, nat_tests, parts.1) in
    record {
      holds = mine;
      numbered = n ∙ sym (due.books.got at);
      next = sym (first_left a at) ∙ ap (λ xs. slice_get xs 0) (due.books.waiting at open_at) ∙ t.1;
    }

next_all : (a c : Account) (pairs : ℕ) (s : List Portal) (node : ℕ) (at : End) (number : ℕ) (bytes : List ℕ) (ends : List End) → AreDue a pairs s [] →
    May a (steps.Get node at) (replies.Got number (record { bytes = bytes; ends = ends })) c → next_ends s node at number bytes ≡ Some ends
next_all a c pairs s node at number bytes ends due may =
    let open_at = sym (due.books.closed at) ∙ due.sound.held_unclosed at node (holder_is (a.holder at) node may.0.holds) in
    let n : number ≡ (portal_at s at).got = may.0.numbered ∙ due.books.got at in
    let m : nat_eq number (portal_at s at).got ≡ true = grind (arith, nat_tests, n) in
    if_from _ bytes (slice_get (portal_at s at).waiting 0) ends (and_from _ _ (sym (books_hold a pairs s node at due.books) ∙ may.0.holds) m)
    (ap (λ xs. slice_get xs 0) (sym (due.books.waiting at open_at)) ∙ first_left a at ∙ ap (slice_get (a.put (peer at))) (sym may.0.numbered) ∙ may.0.next)

pub got_nothing : (old new : Desk) (node : ℕ) (name bytes : List ℕ) (names : List (List ℕ)) (number : ℕ) (at : End) → get old.labels.names name ≡ Some at →
    next_ends old.portals node at number bytes ≡ None → Decides old (lines.Got node name bytes names number) false new
got_nothing old new node name bytes names number at h none l is = λ m may.
    some_none (next_ends old.portals node at number bytes)
    (next_all l.account m.account old.pairs old.portals node at number bytes may.1 is.due
    (subst (λ x. May l.account (steps.Get node x) (replies.Got number (record { bytes = bytes; ends = may.1 })) m.account) (same_end_named old l name at may.0 is.labels h may.2) may.3))
    none

pub got_others : (old new : Desk) (node : ℕ) (name bytes : List ℕ) (names : List (List ℕ)) (number : ℕ) (at : End) (ends : List End) → get old.labels.names name ≡ Some at →
    next_ends old.portals node at number bytes ≡ Some ends → ((c : Labels) → Binds old.labels names ends c → ⊥) → Decides old (lines.Got node name bytes names number) false new
got_others old new node name bytes names number at ends h next unbound l is = λ m may.
    let there = next_all l.account m.account old.pairs old.portals node at number bytes may.1 is.due
    (subst (λ x. May l.account (steps.Get node x) (replies.Got number (record { bytes = bytes; ends = may.1 })) m.account) (same_end_named old l name at may.0 is.labels h may.2) may.3) in
    unbound m.labels (subst (λ b. Binds b names ends m.labels) is.labels (subst (λ x. Binds l.labels names x m.labels) (same_some (sym there ∙ next)) may.4))

pub got_line : (old : Desk) (b : Labels) (t : List Portal) (node : ℕ) (name bytes : List ℕ) (names : List (List ℕ)) (number : ℕ) (at : End) (ends : List End) → get old.labels.names name ≡ Some at →
    next_ends old.portals node at number bytes ≡ Some ends → Binds old.labels names ends b → t ≡ receiving old.portals node at ends →
    Decides old (lines.Got node name bytes names number) true (record old { portals = t; labels = b })
got_line old b t node name bytes names number at ends h next bound new l is =
    let p : Parcel = record { bytes = bytes; ends = ends } in
    let k = next_right l.account old.pairs old.portals node at number bytes ends is.due next in
    let c : Account = get_parcel l.account node at p in (
      record { account = c; labels = b; pairs = l.pairs },
      record { account = c; labels = b; pairs = l.pairs },
      (
        at,
        ends,
        named old l name at is.labels h,
        (
          record { holds = k.holds; numbered = k.numbered; next = ap (slice_get (l.account.put (peer at))) k.numbered ∙ k.next; unclosed = unclosed k.holds k.next },
          refl,
        ),
        subst (λ x. Binds x names ends b) (sym is.labels) bound,
        refl,
      ),
      no_rest (record { account = c; labels = b; pairs = l.pairs }),
      record {
        nodes = is.nodes;
        due = subst (λ (x : List Portal). AreDue c old.pairs x []) (sym new) (due_get l.account old.pairs old.portals node at p is.due k.holds k.next);
        pairs = is.pairs;
        labels = refl;
      },
      refl,
    )
  where
    unclosed : holds l.account node at ≡ true → slice_get (l.account.put (peer at)) (length (l.account.got at)) ≡ Some (record { bytes = bytes; ends = ends }) →
        (e : End) → has_end e ends ≡ true → l.account.closed e ≡ false
    unclosed mine there e c =
        is.due.sound.lies_unclosed e at (length (l.account.got at)) (record { parcel = record { bytes = bytes; ends = ends }; put = there; ungot = omega arith; carried = c })
        (is.due.sound.held_unclosed at node (holder_is (l.account.holder at) node mine))

two_more : (s t u : List Portal) (x y z : Portal) → t ≡ s ++ x ∷ [] → u ≡ t ++ y ∷ [] → x ≡ z → y ≡ z → u ≡ s ++ z ∷ z ∷ []
two_more s t u x y z first second same other =
    second ∙ ap (λ a. a ++ y ∷ []) first ∙ joined s x y ∙ ap₂ (λ a b. s ++ a ∷ b ∷ []) same other
  where
    joined : (s : List Portal) (x y : Portal) → (s ++ x ∷ []) ++ y ∷ [] ≡ s ++ x ∷ y ∷ []
    joined [] x y = refl
    joined (p ∷ s) x y = ap (λ a. p ∷ a) (joined s x y)

pub opened_here : (old : Desk) (s t : List Portal) (x y : Portal) (n node : ℕ) (first second : List ℕ) (b : Labels) → may_open old node first second ≡ true →
    s ≡ old.portals ++ x ∷ [] → t ≡ s ++ y ∷ [] → x ≡ held_by node → y ≡ held_by node → n ≡ old.pairs + 1 →
    b ≡ bind (bind old.labels first (end_at old.pairs A)) second (end_at old.pairs B) →
    Decides old (lines.Opened node first second) true (record old { portals = t; pairs = n; labels = b })
opened_here old s t x y n node first second b h one two same other more is =
    subst (λ (u : List Portal). Decides old (lines.Opened node first second) true (record old { portals = u; pairs = n; labels = b })) (sym (two_more old.portals s t x y (held_by node) one two same other))
    (subst (λ k. Decides old (lines.Opened node first second) true (record old { portals = opening old.portals node; pairs = k; labels = b })) (sym more) (opened_line old node first second b h is))
