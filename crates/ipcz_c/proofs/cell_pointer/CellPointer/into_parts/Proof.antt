-- `into_parts` moves two fields, and what they own goes with them.
use Rattle.std.proofs.Common.{arith}
use mathlib.Core.Bool.{true, false}
use mathlib.Core.Path.{◌≡◌, refl, sym, subst, ap, ◌∙◌}
use mathlib.Core.List.{List, [], ◌∷◌, ◌++◌}
use seplogic.Ra.Ura.{Ura}
use mir.Syntax.{Fn, Args, Dict, a_type, dcons, dnil}
use mir.MapTy.{inst_fn}
use mir.Val.{Val}
use base.Logic.{SProp, ent, id⊢}
use base.Fml.{Fml, ftrue, fsep, flft}
use contract.BorrowLft.{◌⊑◌}
use prog.Memory.{Memory}
use prog.Routine.{Routine}
use prog.Wp.{WpFn, Tables}
use types.Logic.{Logic}
use contract.Monad.{Fun, fact}
use contract.Running.{tables, tables_of}
use sound.WpLaws.{WpFn-mono}
use types.Kit.{Item, ‵, raw, ◌⊛◌, ◌$◌, ◌∵◌, !, qed, by, move, drop, use1, rewrite, join, split, fsplit, fjoin, suffices, done}
use types.Part.{whole, sub, agg}
use types.Run.{stop, fld, no_more, and_then, of_opd, returns, enter}
use types.ByLocal.{alloc_all, pass_all, free_all, look_at, get, get_in, sets}
use denote.Exit.{yes}
use denote.Param.{bounded}
use denote.Param.Laws.{Laws}
use denote.Signature.{type_at, types_at}
use denote.Steps.{nothing, heard}
use denote.RattleType.{RattleType, owns}
use Rattle.std.specs.Prelude.{Option, Some, None, IsSome}
use Rattle.ipcz_cell.specs.TableNames.{TableName}
use Rattle.ipcz_cell.specs.declared.fabric.FabricName.{Ghosts}
use Rattle.ipcz_c.specs.HeldCells.{HeldCell, IsOnly, table_of}
use Rattle.ipcz_c.specs.contracts.cell_pointer.CellPointer as Pointer
use denote.Triple.Clauses.{Ended, Clauses}
use denote.Triple.Spec.{triple_of}
use denote.Triple.Table.{entered}
use denote.Triple.Walked.{says, Stays, stay_dropped, walk_of, ends_at, Goes-dropped, walk_Meets}
use Rattle.std_alloc.proofs.BoxSteps.Form.{Bx, D, word, box_typed}
use Rattle.std_alloc.proofs.BoxSteps.Steps.{box_out, box_in}
use Rattle.ipcz_c.proofs.CellBox.{FromPointer as From, E as box_of, same_pointer}
use Rattle.ipcz_c.specs.contracts.cell_pointer.CellPointer.into_parts as F
use Rattle.ipcz_c.specs.contracts.cell_pointer.CellPointer.into_parts.Key.{name as #self}
use Rattle.ipcz_c.proofs.cell_pointer.CellPointer.into_parts.Statement as stated
use Rattle.ipcz_c.proofs.cell_pointer.CellPointer.into_parts.Code as code

module _ (X : RattleType) (L : Laws X) (g : Ghosts X.Denot) (d : Dict) where
  abbrev args : Args
  args = bounded (a_type ∷ []) (X, tt) (dcons d dnil)

  abbrev fn' : Fn
  fn' = inst_fn args code.function

  abbrev E : Bx
  E = box_of X L g

  abbrev ended : Ended
  ended = F.ended X g d

  abbrev stayed : Stays ended.signature.params ended.kept
  stayed = (stay_dropped From yes, tt)

  module _ {M : Type 1} {𝓤 : Ura M} (𝓛 : Logic 𝓤) (at_mem : Memory → SProp 𝓤) (run : Routine → Fun 𝓤) (𝓣 : Tables 𝓤 𝓛.H) where
    open 𝓛 use {H}

    abbrev held : Clauses 𝓤 ended
    held = F.clauses X g d 𝓛 at_mem run

    walk : (z : (walk_of 𝓛 ended stayed held).Ghost) → ent 𝓤 ((walk_of 𝓛 ended stayed held).pre z) (WpFn 𝓤 H 𝓣.C 𝓣.Λ fn' (z.0.4.0 ++ []) ((walk_of 𝓛 ended stayed held).post z))
    walk z = go z.0.3.0.cell refl
      where
        go : (held_is : Option HeldCell) → z.0.3.0.cell ≡ held_is
            → ent 𝓤 ((walk_of 𝓛 ended stayed held).pre z) (WpFn 𝓤 H 𝓣.C 𝓣.Λ fn' (z.0.4.0 ++ []) ((walk_of 𝓛 ended stayed held).post z))
        go None is =
            let κs = z.0.0 in let qs = z.0.1 in
            let ts : Item 𝓤 = ‵ (flft κs.0 qs.0) ⊛ ‵ ftrue in
            let told : Item 𝓤 = raw (fact 𝓤 (table_of z.0.3.0.cell ≡ g.table)) ⊛ raw (fact 𝓤 (IsOnly X.Denot)) in
            qed 𝓛 ((ts ⊛ ‵ (owns (types_at ended.signature.params κs) z.0.3 z.0.4)) ∷ (raw (fact 𝓤 (κs.0 ⊑ X.lives)) ⊛ raw (fact 𝓤 (IsSome z.0.3.0.cell)) ⊛ told) ∷ []) ∵
            move ! (1 ∷ []) $ split ! $ drop ! $ split ! $ heard ! (IsSome z.0.3.0.cell) (λ some. let wrong : false ≡ true = subst IsSome is some in absurd (grind (arith, wrong)))
        go (Some x) is =
            let κs = z.0.0 in let qs = z.0.1 in let Post = (walk_of 𝓛 ended stayed held).post z in
            let v : D E = record { ptr = z.0.3.0.ptr; alloc = z.0.3.0.alloc; value = x.cell } in
            let To = type_at ended.signature.result κs in
            let made : To.Denot = record { ptr = v.ptr; alloc = v.alloc; value = v.value } in
            let ts : Item 𝓤 = ‵ (flft κs.0 qs.0) ⊛ ‵ ftrue in
            let told : Item 𝓤 = raw (fact 𝓤 (table_of z.0.3.0.cell ≡ g.table)) ⊛ raw (fact 𝓤 (IsOnly X.Denot)) in
            qed 𝓛 ((ts ⊛ ‵ (fsep (Pointer.the_row.own_val (record { ptr = v.ptr; alloc = v.alloc; cell = z.0.3.0.cell }) z.0.4.0) ftrue)) ∷ (raw (fact 𝓤 (κs.0 ⊑ X.lives)) ⊛ raw (fact 𝓤 (IsSome z.0.3.0.cell)) ⊛ told) ∷ []) ∵
            move ! (1 ∷ []) $ split ! $ drop ! $ split ! $ drop ! $ split ! $ heard ! (table_of z.0.3.0.cell ≡ g.table) (λ named. heard ! (IsOnly X.Denot) (λ only. split ! $ move ! (1 ∷ []) $ fsplit ! $
            let same : x.table ≡ g.table = ap table_of (sym is) ∙ named in
            rewrite ! 0 (λ (held_is : Option HeldCell). ‵ (Pointer.the_row.own_val (record { ptr = v.ptr; alloc = v.alloc; cell = held_is }) z.0.4.0)) is refl $
            rewrite ! 0 (λ (f : Fml). ‵ f) (same_pointer X L g only v.ptr v.alloc x same z.0.4.0) refl $
            box_out E ! v z.0.4.0 (λ b o hv e ws fa. box_in E ! v b o v.value e refl $ use1 𝓛 (‵ (To.own_val made (word E hv b o ∷ []))) (id⊢ 𝓤 _) $ move ! (1 ∷ []) $ drop ! $
            let w = word E hv b o in
            let Γ : List (Item 𝓤) = ‵ (To.own_val made (w ∷ [])) ∷ ts ∷ [] in
            by ! (subst (λ (us : List Val). ent 𝓤 (types.Kit.⋆ 𝓛 Γ) (WpFn 𝓤 H 𝓣.C 𝓣.Λ fn' (us ++ []) Post)) (sym ws)
            (qed 𝓛 Γ ∵ enter ! 𝓣.C 𝓣.Λ fn' (w ∷ []) _ $ alloc_all ! (λ ls. pass_all ! refl (box_typed E hv b o fa, tt) $
            sets ! (of_opd ! (get_in ! (fld ! refl (stop !)) (sub ! 0 refl (whole !)))) refl (tt, tt) $ sets ! (of_opd ! (get_in ! (fld ! refl (stop !)) (sub ! 1 refl (whole !)))) refl fa $
            sets ! (of_opd ! (get ! refl)) refl (tt, tt) $ sets ! (agg ! (and_then ! (get ! refl) (and_then ! (get ! refl) (no_more !)))) refl (box_typed E hv b o fa) $ returns ! (look_at ! 0 refl) $ free_all ! refl $
            suffices ! _ (ends_at 𝓛 ended stayed held z w made (tt, tt) (tt, tt)) $ says ! (is ∙ ap (λ (t : TableName). Some (record { table = t; cell = x.cell })) same) $
            nothing ! $ nothing ! $ fjoin ! $ join ! $ move ! (1 ∷ 0 ∷ []) $ join ! $ done !))))))

pub into_parts_spec : {M : Type 1} → stated.statement M
unfolding tables_of
into_parts_spec 𝓤 𝓛 𝓜 𝓡 wired X L g d met =
    let 𝓣 : Tables 𝓤 𝓛.H = tables_of 𝓤 𝓛.H 𝓜 (tables 𝓤 𝓛.H 𝓜 𝓡 𝓡.env) in
    let fn = fn' X L g d in
    entered 𝓤 𝓛.H (triple_of 𝓛 (ended X L g d).signature (F.spec X g d 𝓛 𝓜.mem 𝓡.returns)) 𝓣.C 𝓣.Λ (#self (args X L g d)) fn (code.unfolded 𝓤 𝓛.H 𝓜 𝓡 wired (X, tt) d)
    (walk_Meets 𝓛 (ended X L g d) (stayed X L g d) (Goes-dropped 𝓛 1 From yes (λ κs x f. refl), tt) (held X L g d 𝓛 𝓜.mem 𝓡.returns 𝓣) (WpFn 𝓤 𝓛.H 𝓣.C 𝓣.Λ fn) (WpFn-mono 𝓤 𝓛.H 𝓛.laws 𝓣 fn)
    (walk X L g d 𝓛 𝓜.mem 𝓡.returns 𝓣))
