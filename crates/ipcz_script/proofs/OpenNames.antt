-- The names that an open gives to the ends of its pair.
use Rattle.std.proofs.Common.{◌≡◌, ◌∙◌, ◌⊎◌, ◌+◌, ℕ, Bool, true, false, cond, List, [], Option, Some, None, refl, sym, ap, subst, inl, inr}
use Rattle.std.specs.Prelude.{◌&&◌, if◌then◌else◌, nat_eq, nat_lt, unwrap_or}
use Rattle.std.specs.Ordering.{eq_by_cmp}
use Rattle.std.specs.Cmp.{eq_by_cmp_equiv}
use Rattle.std.specs.Cmp.Lexicographic.{nat_list_cmp_total}
use Rattle.std.specs.FinMap.{get, insert, get-insert}
use Rattle.ipcz_base.specs.declared.side.Side.TheVariants.{A, B}
use Rattle.ipcz_base.specs.declared.end.End.{End}
use Rattle.ipcz_base.specs.declared.refusal.Refusal.{Refusal}
use Rattle.ipcz_base.specs.declared.refusal.Refusal.TheVariants.{NoWord, Stranger}
use Rattle.ipcz_base.specs.Ends.{end_at}
use Rattle.ipcz_base.specs.Orders.{end_cmp}
use Rattle.ipcz_base.proofs.Orders.{end_ties, end_total}
use Rattle.ipcz_world.specs.declared.step.Step.TheVariants as steps
use Rattle.ipcz_world.specs.declared.step.Reply.{Reply}
use Rattle.ipcz_world.specs.declared.step.Reply.TheVariants as replies
use Rattle.ipcz_world.specs.World.{World, has_unclaimed_word, node_at, set_claimed}
use Rattle.ipcz_world.specs.Steps.{first_step, open_on, open_with, unless}
use Rattle.ipcz_script.specs.declared.said.Said.TheVariants as said
use Rattle.ipcz_script.specs.Bindings.{Titles}
use Rattle.ipcz_script.specs.Lines.{title_of}
use Rattle.ipcz_script.specs.Sessions.{Session, answer_to, bind, name_pair, with_world}
use Rattle.ipcz_script.specs.NamingLaws.{AreNamed, OpensNameSides}

-- an open gives the two ends of a pair, or is refused
abbrev pub IsOpened : Reply → Type 0
IsOpened reply = ((i : ℕ) × (reply ≡ replies.Opened (end_at i A) (end_at i B))) ⊎ ((why : Refusal) × (reply ≡ replies.Refused why))

pub open-reply : (w : World) (n : ℕ) → IsOpened (first_step w (steps.Open n)).reply
unfolding first_step open_on unless
open-reply w n = go (nat_lt n w.count) (node_at w n).opening
  where
    opened : (v : World) (i : ℕ) (o : Option Refusal) →
        IsOpened (unless w o (record { reply = replies.Opened (end_at i A) (end_at i B); world = v })).reply
    opened v i None = inl (i, refl)
    opened v i (Some why) = inr (why, refl)

    room : (c : Bool) → IsOpened (if c then open_with w (set_claimed w (w.claimed + 1)) n w.claimed else
        record { reply = replies.Refused NoWord; world = w }).reply
    room true = opened _ w.claimed _
    room false = inr (NoWord, refl)

    on : (o : Option ℕ) → IsOpened (open_on w n o).reply
    on None = room (has_unclaimed_word w)
    on (Some i) = opened _ i _

    go : (c : Bool) (o : Option ℕ) → IsOpened (if c then open_on w n o else record { reply = replies.Refused Stranger; world = w }).reply
    go true o = on o
    go false o = inr (Stranger, refl)

and-no : (b : Bool) → b && false ≡ false
and-no true = refl
and-no false = refl

-- the ends of a pair are two
apart : (i : ℕ) → eq_by_cmp end_cmp (end_at i A) (end_at i B) ≡ false
apart i = end_ties (end_at i A) (end_at i B) ∙ and-no (nat_eq i i)

pub title-new : (titles : Titles) (e : End) (name : List ℕ) → title_of (insert titles e name) e ≡ name
title-new titles e name =
    ap (λ o. unwrap_or o []) (get-insert end_total titles e name e ∙ ap (λ c. cond c (Some name) (get titles e))
    ((eq_by_cmp_equiv end_total).refl e))

pub title-old : (titles : Titles) (d e : End) (name : List ℕ) → eq_by_cmp end_cmp e d ≡ false → title_of (insert titles d name) e ≡ title_of
    titles e
title-old titles d e name other = ap (λ o. unwrap_or o []) (get-insert end_total titles d name e ∙ ap
    (λ c. cond c (Some name) (get titles e)) other)

-- two names bound to the ends of a pair
both-named : (s : Session) (first second : List ℕ) (i : ℕ) → AreNamed (bind (bind s first (end_at i A)) second (end_at i B)) first second
both-named s first second i = record {
  pair = i;
  at_a = title-old (insert s.titles (end_at i A) first) (end_at i B) (end_at i A) second (apart i) ∙ title-new s.titles (end_at i A) first;
  at_b = title-new (insert s.titles (end_at i A) first) (end_at i B) second;
  bound = get-insert nat_list_cmp_total (insert s.names first (end_at i A)) second (end_at i B) second
      ∙ ap (λ c. cond c (Some (end_at i B)) (get (insert s.names first (end_at i A)) second))
      ((eq_by_cmp_equiv nat_list_cmp_total).refl second);
}

named : (s : Session) (first second : List ℕ) (reply : Reply) → IsOpened reply → said.Opened ≡ answer_to reply →
    AreNamed (name_pair s first second reply) first second
unfolding name_pair answer_to
named s first second reply (inl h) same =
    subst (λ r. AreNamed (name_pair s first second r) first second) (sym h.1) (both-named s first second h.0)
named s first second reply (inr h) same = let refused : said.Opened ≡ said.Refused h.0 = same ∙ ap answer_to h.1 in cc

pub opens_name_sides : OpensNameSides
opens_name_sides s t node first second run =
    subst (λ x. AreNamed x first second) (sym run.1)
    (named (with_world s (first_step s.world (steps.Open node)).world) first second (first_step s.world (steps.Open node)).reply
    (open-reply s.world node) run.0)
