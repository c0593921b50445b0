-- Portals that are noted are told by the lines.
use Rattle.std.proofs.Common.{◌≡◌, ℕ, ◌+◌, ◌<◌, List, length, get_or, Option, Some, None, refl, ap, sym, ◌∙◌, subst, inl, inr}
use Rattle.std.specs.List.{All, HoldsAt}
use Rattle.std.proofs.lemmas.List.{get_or_default}
use Rattle.std.proofs.lemmas.List.Elements.{All-push, All-set}
use Rattle.std.proofs.Math.ListN.{set}
use Rattle.ipcz_lines.specs.declared.line.ReadLine.{ReadLine}
use Rattle.ipcz_messages.specs.declared.named.NamedPortal.{NamedPortal}
use Rattle.ipcz_messages.specs.Named.{IsCallAt, IsCloseOf, IsFirstName, IsFirstOfName, IsNamed, IsNew, IsNoted, IsOpenOf, IsTold}

-- what the name of a first portal begins and ends with is the digits of two nodes
pub no_node : (nodes : ℕ) (name : List ℕ) → ((n : ℕ) → n < nodes → get_or name 0 0 ≡ 48 + n → ⊥) → (node other : ℕ) →
    IsFirstName nodes name node other → ⊥
no_node nodes name none node other h = none node h.node_is (ap (λ xs. get_or xs 0 0) h.text)

pub no_other : (nodes : ℕ) (name : List ℕ) → ((n : ℕ) → n < nodes → get_or name 2 0 ≡ 48 + n → ⊥) → (node other : ℕ) →
    IsFirstName nodes name node other → ⊥
no_other nodes name none node other h = none other h.other_is (ap (λ xs. get_or xs 2 0) h.text)

-- the value of a line is the same, whatever stands behind the last
pub at_any : {X : Type 0} (P : X → Type 0) (xs : List X) (i : ℕ) (d : X) → i < length xs → P (get_or xs i d) → HoldsAt P xs i
at_any P xs i d within h = λ e. subst P (get_or_default xs i d e within) h

told_new : (read : List ReadLine) (name : List ℕ) (home : Option ℕ) (first : ℕ) (others : List NamedPortal) (p : NamedPortal) →
    IsNamed read name home first → IsNew name home first others p → IsTold read p
told_new read name home first others p named new = record {
  named = rw (new.name_is, new.node_is, new.first_is) named;
  closed = rw new.open_is tt;
}

-- if what is noted is told, each portal is told
pub told_noted : (read : List ReadLine) (name : List ℕ) (home : Option ℕ) (first : ℕ) (old new : List NamedPortal) →
    IsNamed read name home first → IsNoted name home first old new → All (IsTold read) old → All (IsTold read) new
told_noted read name home first old new named (inl h) told = subst (All (IsTold read)) (sym h.0) told
told_noted read name home first old new named (inr h) told =
    subst (All (IsTold read)) (sym h.2.1) (All-push (IsTold read) old h.2.0 told (told_new read name home first old h.2.0 named h.2.2))

-- a portal that a line opens is noted
pub opened_noted : (read : List ReadLine) (line : ℕ) (name : List ℕ) (old new : List NamedPortal) → line < length read →
    HoldsAt (λ x. IsOpenOf name x.line) read line → IsNoted name None line old new → All (IsTold read) old → All (IsTold read) new
opened_noted read line name old new within at noted told =
    told_noted read name None line old new (inl record { nowhere = refl; within = within; opened = at }) noted told

-- a portal that was there from the start, and that a line calls, is noted
pub called_noted : (read : List ReadLine) (line : ℕ) (name : List ℕ) (node : ℕ) (old new : List NamedPortal) → line < length read →
    HoldsAt (λ x. IsCallAt name x.line) read line → ((other : ℕ) × IsFirstName 8 name node other) → IsNoted name (Some node) 0 old new →
    All (IsTold read) old → All (IsTold read) new
called_noted read line name node old new within at home noted told =
    told_noted read name (Some node) 0 old new
    (inr record { home = (node, home.0, refl, home.1); start = refl; called = (line, within, at) }) noted told

-- the first portal of a name, which a line closes
pub closed_told : (read : List ReadLine) (line : ℕ) (name : List ℕ) (slice named : List NamedPortal) (i : ℕ) (p : NamedPortal) →
    line < length read → HoldsAt (λ x. IsCloseOf name x.line) read line → IsFirstOfName name slice i → slice ≡ named → p ≡ get_or named i p →
    All (IsTold read) named →
    All (IsTold read) (set named i record { name = p.name; node = p.node; place = p.place; first = p.first; closed = Some line })
closed_told read line name slice named i p within at place same is told =
    let P : NamedPortal → Type 0 = IsTold read in
    let first : IsFirstOfName name named i = subst (λ xs. IsFirstOfName name xs i) same place in
    let old : IsTold read p = subst P (sym is) (told i p first.within) in
    let by_name : p.name.now ≡ name = ap (λ x. x.name.now) is ∙ first.found p in
    let closes : HoldsAt (λ x. IsCloseOf p.name.now x.line) read line =
    subst (λ n. HoldsAt (λ x. IsCloseOf n x.line) read line) (sym by_name) at in
    All-set P named i record { name = p.name; node = p.node; place = p.place; first = p.first; closed = Some line }
    record { named = old.named; closed = record { within = within; closes = closes } } told
