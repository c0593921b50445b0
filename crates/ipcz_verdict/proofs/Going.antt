-- A log with one line more.
use Rattle.std.specs.Prelude.{◌≡◌, ◌⊎◌, ◌+◌, ℕ, Bool, true, false, cond, MatchBool, Option, Some, None, List, [], ◌∷◌, ◌++◌, map, slice_get, refl}
use Rattle.std.proofs.Common.{ap, ap₂, ◌∙◌, sym, subst, inl, inr}
use Rattle.std.proofs.Math.Path.{fun_ext}
use Rattle.std.specs.FinMap.{get}
use Rattle.ipcz_base.specs.declared.side.Side.TheVariants.{A, B}
use Rattle.ipcz_base.specs.declared.end.End.{End}
use Rattle.ipcz_base.specs.declared.parcel.Parcel.{Parcel}
use Rattle.ipcz_base.specs.declared.profile.Profile.{Profile}
use Rattle.ipcz_base.specs.declared.profile.Profile.TheVariants.{Printed, Wide}
use Rattle.ipcz_base.specs.Ends.{end_at, has_end, same_end}
use Rattle.ipcz_node.specs.declared.happened.Happened.{Happened}
use Rattle.ipcz_node.specs.declared.happened.Happened.TheVariants as events
use Rattle.ipcz_world.specs.declared.step.Step.TheVariants as steps
use Rattle.ipcz_world.specs.declared.step.Reply.TheVariants as replies
use Rattle.ipcz_promise.specs.Promise.{Account, HasClosedDropped, May, MayRun, MayTurn, close_portal, get_parcel, peer}
use Rattle.ipcz_script.specs.Labels.{Labels, bind, ends_of}
use Rattle.ipcz_verdict.specs.declared.line.Line.{Line}
use Rattle.ipcz_verdict.specs.declared.line.Line.TheVariants as lines
use Rattle.ipcz_verdict.specs.Accounts.{IsSound}
use Rattle.ipcz_verdict.specs.Ledger.{Binds, IsAllowed, Ledger, MayLine, MayRest, first_ledger, meant, put_step}
use Rattle.ipcz_verdict.specs.Desks.{Decides, Desk, HasAllowed, IsAt, IsBehind}
use Rattle.ipcz_verdict.proofs.Below.{IsBelow, close_above, get_above, lower, open_above, put_above, refused_close_above, refused_get_above, refused_open_above, refused_put_above, refused_put_stays, stays_below, turns_below}
use Rattle.ipcz_verdict.proofs.Facts.{end_is, same_some}
use Rattle.ipcz_verdict.proofs.Turns.{log_last, log_more}

-- ---- turns lead upwards

below_on : (a m n : Account) → IsBelow a m → IsBelow m n → IsBelow a n
below_on a m n one two = record {
  closed = one.closed;
  is = one.is ∙ ap (λ x. lower x one.closed) two.is;
  fewer = λ e h. two.fewer e (ap (λ (x : Account). x.closed e) (sym two.is) ∙ one.fewer e h);
}

close_up : (a c : Account) (e : End) → a.holder e ≡ None → c ≡ close_portal a e → IsBelow a c
close_up a c e none is = subst (λ x. IsBelow a x) (sym is) (record {
  closed = a.closed;
  is = ap (λ (h : End → Option ℕ). record a { holder = h }) (fun_ext (λ d. sym (same_holder d)));
  fewer = λ d h. closed (same_end d e) (a.closed d) h;
})
  where
    same_holder : (d : End) → cond (same_end d e) None (a.holder d) ≡ a.holder d
    same_holder d = elim (end_is d e) [
      | inl same ↦ ap (λ c. cond c None (a.holder d)) same.0 ∙ sym (ap a.holder same.1 ∙ none)
      | inr apart ↦ ap (λ c. cond c None (a.holder d)) apart.0
    ]

    closed : (b c : Bool) → c ≡ true → cond b true c ≡ true
    closed true c h = refl
    closed false c h = h

turn_up : (a c : Account) (event : Happened) → MayTurn a event c → IsBelow a c
turn_up a c (events.Close e) turn = close_up a c e turn.1 turn.3
turn_up a c other turn = subst (λ x. IsBelow a x) (sym turn) (record { closed = a.closed; is = refl; fewer = λ e h. h })

run_up : (nodes : List ℕ) (seen : List Happened) (a c : Account) → MayRun a (map steps.Turn nodes) (map replies.Turned seen) c → IsBelow a c
run_up [] [] a c run = subst (λ x. IsBelow a x) (sym run) (record { closed = a.closed; is = refl; fewer = λ e h. h })
run_up [] (s ∷ seen) a c run = absurd run
run_up (n ∷ nodes) [] a c run = absurd run
run_up (n ∷ nodes) (s ∷ seen) a c run = below_on a run.0 c (turn_up a run.0 s run.1.1) (run_up nodes seen run.0 c run.2)

-- ---- a line from a ledger that is behind

-- the line is allowed from the other ledger, too
pub record Lifted (profile : Profile) (l : Ledger) (line : Line) (behind : Ledger) : Type 0 where
  pub after : Ledger
  pub may : MayLine profile l line after
  pub below : IsBelow behind.account after.account
  pub labels : behind.labels ≡ after.labels
  pub pairs : behind.pairs ≡ after.pairs

below_of : (m l : Ledger) → IsBehind m l → IsBelow m.account l.account
below_of m l is = record { closed = is.closed; is = is.is; fewer = is.fewer }

names_of : (m l : Ledger) (name : List ℕ) (at : End) → IsBehind m l → meant m name ≡ Some at → meant l name ≡ Some at
names_of m l name at is h = ap (λ (b : Labels). get b.names name) (sym is.labels) ∙ h

lift_line : (profile : Profile) (m l behind : Ledger) (line : Line) → IsBehind m l → IsSound l.account → MayLine profile m line behind → Lifted profile l line behind
lift_line profile m l behind (lines.Opened node first second) is law may =
    let up = open_above m.account l.account behind.account node (end_at l.pairs A) (below_of m l is) law
    (subst (λ k. May m.account (steps.Open node) (replies.Opened (end_at k A) (end_at k B)) behind.account) is.pairs may.3) in
    record {
      after = record { account = up.after; labels = behind.labels; pairs = behind.pairs };
      may = (
        ap (λ (b : Labels). get b.names first) (sym is.labels) ∙ may.0,
        ap (λ (b : Labels). get b.names second) (sym is.labels) ∙ may.1,
        may.2,
        up.may,
        may.4 ∙ ap₂ (λ (x : Labels) k. bind (bind x first (end_at k A)) second (end_at k B)) is.labels is.pairs,
        may.5 ∙ ap (λ k. k + 1) is.pairs,
      );
      below = up.below;
      labels = refl;
      pairs = refl;
    }
lift_line profile m l behind (lines.Put node name bytes names number) is law may =
    let up = put_above profile m.account l.account behind.account node may.0 bytes may.1 number (below_of m l is) may.4 in
    record {
      after = record { account = up.after; labels = behind.labels; pairs = behind.pairs };
      may = (may.0, may.1, names_of m l name may.0 is may.2, ap (λ b. ends_of b names) (sym is.labels) ∙ may.3, up.may, may.5 ∙ is.labels, may.6 ∙ is.pairs);
      below = up.below;
      labels = refl;
      pairs = refl;
    }
lift_line profile m l behind (lines.Got node name bytes names number) is law may =
    let up = get_above m.account l.account behind.account node may.0 (record { bytes = bytes; ends = may.1 }) number (below_of m l is) law may.3 in
    record {
      after = record { account = up.after; labels = behind.labels; pairs = behind.pairs };
      may = (may.0, may.1, names_of m l name may.0 is may.2, up.may, subst (λ b. Binds b names may.1 behind.labels) is.labels may.4, may.5 ∙ is.pairs);
      below = up.below;
      labels = refl;
      pairs = refl;
    }
lift_line profile m l behind (lines.Closed node name number) is law may =
    let up = close_above m.account l.account behind.account node may.0 number (below_of m l is) may.2 in
    record {
      after = record { account = up.after; labels = behind.labels; pairs = behind.pairs };
      may = (may.0, names_of m l name may.0 is may.1, up.may, may.3 ∙ is.labels, may.4 ∙ is.pairs);
      below = up.below;
      labels = refl;
      pairs = refl;
    }
lift_line profile m l behind (lines.OpenRefused node w) is law may = record {
  after = l;
  may = (refused_open_above m.account l.account behind.account node w (below_of m l is) may.0, refl, refl);
  below = stays_below m.account l.account behind.account (below_of m l is) may.0.1;
  labels = may.1 ∙ is.labels;
  pairs = may.2 ∙ is.pairs;
}
lift_line profile m l behind (lines.PutRefused node name bytes names w) is law may = record {
  after = l;
  may = (
    may.0,
    may.1,
    names_of m l name may.0 is may.2,
    ap (λ b. ends_of b names) (sym is.labels) ∙ may.3,
    refused_put_above profile m.account l.account behind.account node may.0 bytes may.1 w (below_of m l is) may.4,
    refl,
    refl,
  );
  below = stays_below m.account l.account behind.account (below_of m l is) (refused_put_stays profile m.account behind.account node may.0 bytes may.1 w may.4);
  labels = may.5 ∙ is.labels;
  pairs = may.6 ∙ is.pairs;
}
lift_line profile m l behind (lines.GetRefused node name w) is law may = record {
  after = l;
  may = (may.0, names_of m l name may.0 is may.1, refused_get_above m.account l.account behind.account node may.0 w (below_of m l is) may.2, refl, refl);
  below = stays_below m.account l.account behind.account (below_of m l is) may.2.1;
  labels = may.3 ∙ is.labels;
  pairs = may.4 ∙ is.pairs;
}
lift_line profile m l behind (lines.CloseRefused node name w) is law may = record {
  after = l;
  may = (may.0, names_of m l name may.0 is may.1, refused_close_above m.account l.account behind.account node may.0 w (below_of m l is) may.2, refl, refl);
  below = stays_below m.account l.account behind.account (below_of m l is) may.2.1;
  labels = may.3 ∙ is.labels;
  pairs = may.4 ∙ is.pairs;
}

-- ---- a line leads to one ledger

binds_once : (b : Labels) (names : List (List ℕ)) (ends : List End) (c d : Labels) → Binds b names ends c → Binds b names ends d → c ≡ d
binds_once b [] [] c d x y = x ∙ sym y
binds_once b [] (e ∷ es) c d x y = absurd x
binds_once b (n ∷ ns) [] c d x y = absurd x
binds_once b (n ∷ ns) (e ∷ es) c d x y = binds_once (bind b n e) ns es c d x.1 y.1

put_once : (profile : Profile) (a c d : Account) (node : ℕ) (at : End) (bytes : List ℕ) (ends : List End) (number : ℕ) →
    May a (put_step profile node at bytes ends) (replies.Put number) c → May a (put_step profile node at bytes ends) (replies.Put number) d → c ≡ d
put_once Printed a c d node at bytes ends number x y = x.1 ∙ sym y.1
put_once Wide a c d node at bytes ends number x y = x.1 ∙ sym y.1

same_ends : {X : Type 0} {o : Option X} {x y : X} → o ≡ Some x → o ≡ Some y → x ≡ y
same_ends h k = same_some (sym h ∙ k)

ledgers : (m n : Ledger) → m.account ≡ n.account → m.labels ≡ n.labels → m.pairs ≡ n.pairs → m ≡ n
ledgers m n a b c = λ i. record { account = a i; labels = b i; pairs = c i }

line_once : (profile : Profile) (l m n : Ledger) (line : Line) → MayLine profile l line m → MayLine profile l line n → m ≡ n
line_once profile l m n (lines.Opened node first second) x y = ledgers m n (x.3.4 ∙ sym y.3.4) (x.4 ∙ sym y.4) (x.5 ∙ sym y.5)
line_once profile l m n (lines.Put node name bytes names number) x y =
    ledgers m n
    (put_once profile l.account m.account n.account node y.0 bytes y.1 number
    (subst (λ e. May l.account (put_step profile node e bytes y.1) (replies.Put number) m.account) (same_ends x.2 y.2)
    (subst (λ es. May l.account (put_step profile node x.0 bytes es) (replies.Put number) m.account) (same_ends x.3 y.3) x.4))
    y.4)
    (x.5 ∙ sym y.5) (x.6 ∙ sym y.6)
line_once profile l m n (lines.Got node name bytes names number) x y =
    let at : x.0 ≡ y.0 = same_ends x.2 y.2 in
    let parcels : record { bytes = bytes; ends = x.1 } ≡ record { bytes = bytes; ends = y.1 } =
    same_ends (ap (λ e. slice_get (l.account.put (peer e)) number) (sym at) ∙ x.3.0.next) y.3.0.next in
    let ends : x.1 ≡ y.1 = ap (λ (p : Parcel). p.ends) parcels in
    ledgers m n
    (x.3.1 ∙ ap₂ (λ e es. get_parcel l.account node e (record { bytes = bytes; ends = es })) at ends ∙ sym y.3.1)
    (binds_once l.labels names y.1 m.labels n.labels (subst (λ es. Binds l.labels names es m.labels) ends x.4) y.4)
    (x.5 ∙ sym y.5)
line_once profile l m n (lines.Closed node name number) x y =
    ledgers m n (x.2.2 ∙ ap (λ e. close_portal l.account e) (same_ends x.1 y.1) ∙ sym y.2.2) (x.3 ∙ sym y.3) (x.4 ∙ sym y.4)
line_once profile l m n (lines.OpenRefused node w) x y = ledgers m n (x.0.1 ∙ sym y.0.1) (x.1 ∙ sym y.1) (x.2 ∙ sym y.2)
line_once profile l m n (lines.PutRefused node name bytes names w) x y =
    ledgers m n (refused_put_stays profile l.account m.account node x.0 bytes x.1 w x.4 ∙ sym (refused_put_stays profile l.account n.account node y.0 bytes y.1 w y.4)) (x.5 ∙ sym y.5) (x.6 ∙ sym y.6)
line_once profile l m n (lines.GetRefused node name w) x y = ledgers m n (x.2.1 ∙ sym y.2.1) (x.3 ∙ sym y.3) (x.4 ∙ sym y.4)
line_once profile l m n (lines.CloseRefused node name w) x y = ledgers m n (x.2.1 ∙ sym y.2.1) (x.3 ∙ sym y.3) (x.4 ∙ sym y.4)

-- ---- a log goes on

all_closed : (d : Desk) (l : Ledger) → IsAt d l → HasClosedDropped l.account
all_closed d l at e is = go (at.due.rest e is)
  where
    go : (l.account.closed e ≡ true) ⊎ (has_end e [] ≡ true) → l.account.closed e ≡ true
    go (inl h) = h
    go (inr h) = absurd (none h)
      where
        none : false ≡ true → ⊥
        none h = cc

pub no_line : (d : Desk) (l m : Ledger) → IsAt d l → MayRest l m → IsBehind m l
no_line d l m at rest =
    let b = turns_below l.account m.account l.account (record { closed = l.account.closed; is = refl; fewer = λ e h. h }) (all_closed d l at) rest.0 in
    record { closed = b.closed; is = b.is; fewer = b.fewer; labels = rest.1; pairs = rest.2 }

abbrev pub GoesOn : ℕ → Profile → List Line → Line → Bool → Desk → Type 0
GoesOn nodes profile log line allowed new =
    MatchBool allowed (HasAllowed new nodes profile (log ++ line ∷ [])) (IsAllowed nodes profile (log ++ line ∷ []) → ⊥)

pub goes_on : (old new : Desk) (nodes : ℕ) (profile : Profile) (log : List Line) (line : Line) (allowed : Bool) → Decides old line allowed new → HasAllowed old nodes profile log →
    GoesOn nodes profile log line allowed new
goes_on old new nodes profile log line false decides has = λ it.
    let t = log_last profile (first_ledger nodes) it.0 log line it.1 in
    let up = lift_line profile t.before has.ledger t.behind line (has.most t.before t.front) has.at.due.sound t.next in
    decides has.ledger has.at up.after (subst (λ p. MayLine p has.ledger line up.after) (sym has.same_profile) up.may)
goes_on old new nodes profile log line true decides has =
    let k = decides has.ledger has.at in
    let next : MayLine profile has.ledger line k.0 = subst (λ p. MayLine p has.ledger line k.0) has.same_profile k.2 in
    record {
      same_profile = k.5 ∙ has.same_profile;
      ledger = k.1;
      run = log_more profile (first_ledger nodes) has.ledger k.0 k.1 log line has.run next k.3;
      at = k.4;
      most = λ x may.
          let t = log_last profile (first_ledger nodes) x log line may in
          let up = lift_line profile t.before has.ledger t.behind line (has.most t.before t.front) has.at.due.sound t.next in
          let same : up.after ≡ k.0 = line_once profile has.ledger up.after k.0 line up.may next in
          let below : IsBelow t.behind.account k.1.account =
          below_on t.behind.account k.0.account k.1.account (subst (λ (m : Ledger). IsBelow t.behind.account m.account) same up.below)
          (run_up k.3.0.0 k.3.0.1 k.0.account k.1.account k.3.0.2) in
          let b = turns_below t.behind.account x.account k.1.account below (all_closed new k.1 k.4) t.rest.0 in
          record {
            closed = b.closed;
            is = b.is;
            fewer = b.fewer;
            labels = t.rest.1 ∙ up.labels ∙ ap (λ (m : Ledger). m.labels) same ∙ sym k.3.1;
            pairs = t.rest.2 ∙ up.pairs ∙ ap (λ (m : Ledger). m.pairs) same ∙ sym k.3.2;
          };
    }
