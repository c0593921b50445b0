-- A room in which no chair is taken: nobody is woken there. And what a look tells of an end where nothing has come.
use Rattle.std.specs.Prelude.{◌≡◌, ℕ, zero, suc, Bool, true, false, List, [], ◌∷◌, Option, None, Some, is_none, is_some, not, refl}
use Rattle.std.proofs.Common.{arith, ap, get_or, subst, sym, ◌∙◌, true≢false}
use Rattle.ipcz_base.specs.declared.end.End.{End}
use Rattle.ipcz_base.specs.declared.status.PortalStatus.{PortalStatus}
use Rattle.ipcz_router.specs.Status.{refusal_behind}
use Rattle.ipcz_node.specs.Node.{Node}
use Rattle.ipcz_node.specs.Calls.{finds_something, get_refusal}
use Rattle.ipcz_node.specs.Looking.{IsLook, after_gets}
use Rattle.ipcz_fabric.specs.declared.chair.Chair.{Chair}
use Rattle.ipcz_fabric.specs.declared.chair.Chair.TheVariants.{Free, Waits, Woken}
use Rattle.ipcz_fabric.specs.Waiting.{is_answer, is_answered, woken_chair, taken_in}

each_free : (cs : List Chair) → taken_in cs ≡ 0 → (k : ℕ) → get_or cs k Free ≡ Free
each_free [] h k = refl
each_free (Free ∷ cs) h zero = refl
each_free (Waits at ∷ cs) h zero = absurd (omega (arith, h))
each_free (Woken ∷ cs) h zero = absurd (omega (arith, h))
each_free (c ∷ cs) h (suc k) = each_free cs (omega (arith, h)) k

pub none_woken : (comes : End → Bool) (all : Bool) (cs : List Chair) → taken_in cs ≡ 0 → (k : ℕ) → get_or cs k Free ≡ woken_chair comes all (get_or cs k Free)
none_woken comes all cs h k = subst (λ (c : Chair). c ≡ woken_chair comes all c) (sym (each_free cs h k)) refl

-- where a get finds nothing, it is answered by something else than Empty only if a look finds no end
unanswered : (n : Node) (at : End) (o : Option PortalStatus) → IsLook n at o → finds_something (get_refusal n at) ≡ false → is_none o ≡ is_answered n at
unanswered n at None h nothing = sym (ap is_answer h)
unanswered n at (Some s) h nothing = go s.waiting refl s.peer_closed refl
  where
    next : (b : Bool) → s.waiting ≡ zero → s.peer_closed ≡ b → get_refusal n at ≡ Some (refusal_behind b)
    next b none closed = subst (λ (k : ℕ). get_refusal (after_gets n at k) at ≡ Some (refusal_behind s.peer_closed)) none h.refused ∙
        ap (λ (c : Bool). Some (refusal_behind c)) closed

    go : (k : ℕ) → s.waiting ≡ k → (b : Bool) → s.peer_closed ≡ b → false ≡ is_answered n at
    go zero none true closed = absurd (true≢false (sym (ap finds_something (next true none closed)) ∙ nothing))
    go zero none false closed = sym (ap is_answer (next false none closed))
    go (suc k) more b closed = absurd (true≢false (sym (ap finds_something (h.given 0 (omega (arith, more)))) ∙ nothing))

pub looked_at : (n : Node) (at : End) (o : Option PortalStatus) (none : Bool) → is_some o ≡ not none → IsLook n at o →
    finds_something (get_refusal n at) ≡ false → none ≡ is_answered n at
looked_at n at o none told h nothing = told_none o none told ∙ unanswered n at o h nothing
  where
    told_none : (o : Option PortalStatus) (none : Bool) → is_some o ≡ not none → none ≡ is_none o
    told_none None true told = refl
    told_none None false told = absurd (true≢false (sym told))
    told_none (Some s) true told = absurd (true≢false told)
    told_none (Some s) false told = refl
