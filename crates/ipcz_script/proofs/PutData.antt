-- What a put was given that was accepted.
use Rattle.std.proofs.Common.{◌≡◌, ℕ, Bool, true, false, List, [], ◌∷◌, Option, Some, None, refl, sym, subst, arith}
use Rattle.std.specs.Prelude.{◌==◌, ◌&&◌, if◌then◌else◌, nat_le, nat_lt, not}
use Rattle.std.specs.FinMap.{get}
use Rattle.std.proofs.lemmas.Bool.{and_parts}
use Rattle.std.proofs.lemmas.Bool.Decides.{nat_tests}
use Rattle.ipcz_base.specs.declared.profile.Profile.TheVariants.{Printed}
use Rattle.ipcz_base.specs.declared.end.End.{End}
use Rattle.ipcz_base.specs.declared.refusal.Refusal.{Refusal}
use Rattle.ipcz_base.specs.declared.refusal.Refusal.TheVariants as refusals
use Rattle.ipcz_base.specs.Limits.{is_printable}
use Rattle.ipcz_node.specs.Node.{Node, holds_end}
use Rattle.ipcz_node.specs.Calls.{are_too_many, put_refusal}
use Rattle.ipcz_world.specs.declared.step.Step.TheVariants as steps
use Rattle.ipcz_world.specs.declared.step.Reply.TheVariants as replies
use Rattle.ipcz_world.specs.World.{World, node_at}
use Rattle.ipcz_world.specs.Holding.{holder_of}
use Rattle.ipcz_world.specs.Steps.{first_step, unless}
use Rattle.ipcz_script.specs.declared.command.Command.TheVariants as commands
use Rattle.ipcz_script.specs.declared.said.Said.{Said}
use Rattle.ipcz_script.specs.declared.said.Said.TheVariants as said
use Rattle.ipcz_script.specs.Sessions.{Session, Replied, Runs, answer_to, ends_of, if_held, if_known}
use Rattle.ipcz_script.specs.ReadBack.{lacks}

-- what holds of each answer of a call
pub known-all : {X : Type 0} (P : Said → Type 0) (s : Session) (o : Option X) (call : X → Replied) → P said.UnknownName →
    ((x : X) → P (call x).said) → P (if_known s o call).said
unfolding if_known
known-all P s None call unknown each = unknown
known-all P s (Some x) call unknown each = each x

pub held-all : (P : Said → Type 0) (s : Session) (o : Option ℕ) (call : ℕ → Replied) → P said.Away → ((n : ℕ) → P (call n).said) →
    P (if_held s o call).said
unfolding if_held
held-all P s None call away each = away
held-all P s (Some n) call away each = each n

-- a byte that prints is no line feed
printable-lacks : (bytes : List ℕ) → is_printable bytes ≡ true → lacks 10 bytes ≡ true
printable-lacks [] h = refl
printable-lacks (b ∷ bs) h = go (b == 10) refl (printable-lacks bs t.1)
  where
    t : ((nat_le 32 b && nat_le b 126) ≡ true) × (is_printable bs ≡ true)
    t = and_parts (nat_le 32 b && nat_le b 126) (is_printable bs) h

    low : nat_le 32 b ≡ true
    low = (and_parts (nat_le 32 b) (nat_le b 126) t.0).0

    go : (c : Bool) → (b == 10) ≡ c → lacks 10 bs ≡ true → not c && lacks 10 bs ≡ true
    go true e more = absurd (grind (arith, e, low, nat_tests))
    go false e more = more

-- a put is refused if its bytes don't print
put-prints : (n : Node) (at : End) (bytes : List ℕ) (ends : List End) → put_refusal Printed n at bytes ends ≡ None → is_printable bytes ≡ true
unfolding put_refusal
put-prints n at bytes ends = go (not (holds_end n at)) (are_too_many Printed bytes ends) (is_printable bytes) _
  where
    go : (a b c : Bool) (rest : Option Refusal) → (if a then Some refusals.Stranger else if b then Some refusals.TooMany else
        if not c then Some refusals.BadData else rest) ≡ None → c ≡ true
    go true b c rest h = cc
    go false true c rest h = cc
    go false false true rest h = refl
    go false false false rest h = cc

-- the bytes of a put that is answered by a number have no line feed
abbrev IsPlain : List ℕ → Said → Type 0
IsPlain bytes (said.Put n) = lacks 10 bytes ≡ true
IsPlain bytes other = Unit {0}

accepted : (w v : World) (bytes : List ℕ) (k : ℕ) (c : Bool) (o : Option Refusal) → (o ≡ None → lacks 10 bytes ≡ true) →
    IsPlain bytes (answer_to (if c then unless w o (record { reply = replies.Put k; world = v }) else record
    { reply = replies.Refused refusals.Stranger; world = w }).reply)
unfolding unless answer_to
accepted w v bytes k true None h = h refl
accepted w v bytes k true (Some why) h = tt
accepted w v bytes k false o h = tt

reply-plain : (w : World) (n : ℕ) (e : End) (bytes : List ℕ) (ends : List End) →
    IsPlain bytes (answer_to (first_step w (steps.Put n e bytes ends)).reply)
unfolding first_step
reply-plain w n e bytes ends = accepted w _ bytes _ (nat_lt n w.count) (put_refusal Printed (node_at w n) e bytes ends)
    (λ h. printable-lacks bytes (put-prints (node_at w n) e bytes ends h))

pub accepted-plain : (s : Session) (at text : List ℕ) (attached : List (List ℕ)) (n : ℕ) (t : Session) →
    Runs s (commands.Put at text attached) (said.Put n) t → lacks 10 text ≡ true
accepted-plain s at text attached n t is =
    subst (IsPlain text) (sym is.0) (known-all (IsPlain text) s (get s.names at) _ tt
    (λ end. known-all (IsPlain text) s (ends_of s.names attached) _ tt
    (λ ends. held-all (IsPlain text) s (holder_of s.world end) _ tt
    (λ k. reply-plain s.world k end text ends))))
