-- The step by which an end of a link word is let go.
use Rattle.std.specs.Prelude.{◌≡◌, ◌%◌, ℕ, Bool, true, false, [], ◌∷◌, Some, None, bit_or}
use Rattle.std.proofs.Common.{sym, subst}
use Rattle.atomic_table.specs.Table.{Me, Allows}
use Rattle.ipcz_base.specs.declared.side.Side.{Side}
use Rattle.ipcz_base.specs.declared.side.Side.TheVariants.{A, B}
use Rattle.ipcz_router.specs.Router.{Router}
use Rattle.ipcz_router.specs.declared.act.Answer.TheVariants as answers
use Rattle.ipcz_router.specs.declared.act.RouterAct.{RouterAct}
use Rattle.ipcz_node.specs.declared.act.Act.{Act}
use Rattle.ipcz_node.specs.declared.act.Act.TheVariants as acts
use Rattle.ipcz_node.specs.Acts.{act_lacks_serials}
use Rattle.ipcz_node.specs.RoomyNodes.{IsPossibleAct}
use Rattle.ipcz_router.specs.LettingGo.{let_go_end, let_go_spare}
use Rattle.ipcz_slots.specs.declared.own.Own.{Own}
use Rattle.ipcz_slots.specs.Slots.{let_go_word}
use Rattle.ipcz_slots.specs.SlotKinds.{side_bit}
use Rattle.ipcz_rule.specs.declared.view.View.{View}
use Rattle.ipcz_rule.specs.Batches.{Batch}
use Rattle.ipcz_rule.specs.Steps.{CanAct, act_part, is_touch_act}
use Rattle.ipcz_rule.specs.Lasting.{LastingRules, side_of}
use Rattle.ipcz_rule.proofs.LastsAll.{turns_last}
use Rattle.ipcz_cell.specs.CellStates.{part_in}
use Rattle.ipcz_node.specs.Node.{Node, router_in}
use Rattle.ipcz_cell.specs.GivenUp.{RouterGives, GivesUp}
use Rattle.ipcz_cell.specs.Lettings.{MayLetGo, MayLeave}
use Rattle.ipcz_cell.specs.Outcomes.{Tells, IsPicked, touched}
use Rattle.ipcz_cell.specs.Seats.{mine_of, sizes_of}
use Rattle.ipcz_cell.specs.TableNames.{TableName, IsLaidOut}
use Rattle.ipcz_cell.specs.declared.letting.GivenUp.TheVariants as given
use Rattle.ipcz_cell.proofs.Forms.{actor}
use Rattle.ipcz_cell.proofs.GivenUps.{there_gives, routers_end, routers_both}
use Rattle.ipcz_cell.proofs.Slotting.{are_sizes}

-- by the bit of the side
bit_goes : (t : TableName) (id : ℕ) (m : Me Batch (Own View)) (serial : ℕ) (deed : RouterAct) (r : Router) (i : ℕ) (b : Bool) (told : Tells) → IsLaidOut t →
    IsPicked told (touched (act_part (acts.Router serial deed) answers.Plain)) → m.0.view.parts ≡ part_in m.0.view ∷ [] → is_touch_act (acts.Router serial deed) ≡ true →
    CanAct (part_in m.0.view).state serial r deed → let_go_end r deed ≡ Some (i, side_of b) → let_go_spare r deed ≡ None →
    Allows (LastingRules t.count t.size t.slots t.reuses) t.id.slots id m (let_go_word (sizes_of t) (i % t.slots)) (λ n. bit_or n (side_bit b))
    (λ n m'. told (mine_of m) n (mine_of m') × (m'.0.dirty ≡ m.0.dirty) × (m'.0.free ≡ m.0.free) × (m'.0.looked ≡ m.0.looked))
bit_goes t id m serial deed r i b told laid picked whole touch can gives none s l deep there small =
    let h = turns_last.1 t.slots t.reuses m.0.dirty m.0.free m.0.looked t.count t.size t.id.slots id i b (mine_of m) (part_in m.0.view) serial r deed whole can touch gives none (are_sizes t laid) s l deep there small in
    (h.0, h.1, h.2, h.3.0, (picked.said (mine_of m) _ _ h.4.0, h.4.1, h.4.2, h.4.3))

end_by : (t : TableName) (id : ℕ) (m : Me Batch (Own View)) (serial : ℕ) (deed : RouterAct) (r : Router) (i : ℕ) (side : Side) (told : Tells) → IsLaidOut t →
    IsPicked told (touched (act_part (acts.Router serial deed) answers.Plain)) → m.0.view.parts ≡ part_in m.0.view ∷ [] → is_touch_act (acts.Router serial deed) ≡ true →
    CanAct (part_in m.0.view).state serial r deed → let_go_end r deed ≡ Some (i, side) → let_go_spare r deed ≡ None → MayLetGo t id m i side (told (mine_of m))
end_by t id m serial deed r i A told laid picked whole touch can gives none = bit_goes t id m serial deed r i false told laid picked whole touch can gives none
end_by t id m serial deed r i B told laid picked whole touch can gives none = bit_goes t id m serial deed r i true told laid picked whole touch can gives none

-- the end that an act gives up may be let go
pub may_let_go : (t : TableName) (id : ℕ) (m : Me Batch (Own View)) (act : Act) (i : ℕ) (side : Side) (told : Tells) → IsLaidOut t → IsPicked told (touched (act_part act answers.Plain)) →
    m.0.view.parts ≡ part_in m.0.view ∷ [] → is_touch_act act ≡ true → IsPossibleAct (part_in m.0.view).state act → act_lacks_serials (part_in m.0.view).state act ≡ false →
    GivesUp t.reuses (part_in m.0.view).state act (given.End i side) → MayLetGo t id m i side (told (mine_of m))
may_let_go t id m (acts.Router serial deed) i side told laid picked whole touch may serials gives =
    let a = actor (part_in m.0.view).state serial deed may serials in
    let by = by_router t.reuses (part_in m.0.view).state serial deed i side gives a.0 a.1.there in
    end_by t id m serial deed a.0 i side told laid picked whole touch a.1 by.0 by.1
  where
    by_router : (reuses : Bool) (x : Node) (serial : ℕ) (deed : RouterAct) (i : ℕ) (side : Side) → GivesUp reuses x (acts.Router serial deed) (given.End i side) → (r : Router) → router_in x serial ≡ Some r →
        RouterGives r deed (given.End i side)
    by_router true x serial deed i side h = λ r at. there_gives x serial deed (given.End i side) r h at
    by_router false x serial deed i side h = absurd (cc)
may_let_go t id m other i side told laid picked whole touch may serials gives = let e = (routers_end t.reuses (part_in m.0.view).state other i side gives).is in absurd (cc)

-- by the bit of the side
bit_leaves : (t : TableName) (id : ℕ) (m : Me Batch (Own View)) (serial : ℕ) (deed : RouterAct) (r : Router) (i j : ℕ) (b : Bool) (told : Tells) → IsLaidOut t → t.reuses ≡ true →
    IsPicked told (touched (act_part (acts.Router serial deed) answers.Plain)) → m.0.view.parts ≡ part_in m.0.view ∷ [] → is_touch_act (acts.Router serial deed) ≡ true →
    CanAct (part_in m.0.view).state serial r deed → let_go_end r deed ≡ Some (i, side_of b) → let_go_spare r deed ≡ Some j →
    Allows (LastingRules t.count t.size t.slots t.reuses) t.id.slots id m (let_go_word (sizes_of t) (i % t.slots)) (λ n. bit_or n (side_bit b))
    (λ n m'. told (mine_of m) n (mine_of m') × (m'.0.dirty ≡ (j % t.slots) ∷ m.0.dirty) × (m'.0.free ≡ m.0.free) × (m'.0.looked ≡ m.0.looked))
bit_leaves t id m serial deed r i j b told laid again picked whole touch can gives spare =
    subst (λ (z : Bool). Allows (LastingRules t.count t.size t.slots z) t.id.slots id m (let_go_word (sizes_of t) (i % t.slots)) (λ n. bit_or n (side_bit b))
    (λ n m'. told (mine_of m) n (mine_of m') × (m'.0.dirty ≡ (j % t.slots) ∷ m.0.dirty) × (m'.0.free ≡ m.0.free) × (m'.0.looked ≡ m.0.looked))) (sym again)
    (λ s l deep there small.
    let h = turns_last.2 t.slots m.0.dirty m.0.free m.0.looked (laid.reused again) t.count t.size t.id.slots id i j b (mine_of m) (part_in m.0.view) serial r deed whole can touch gives spare s l deep there small in
    (h.0, h.1, h.2, h.3.0, (picked.said (mine_of m) _ _ h.4.0, h.4.1, h.4.2, h.4.3)))

spare_by : (t : TableName) (id : ℕ) (m : Me Batch (Own View)) (serial : ℕ) (deed : RouterAct) (r : Router) (i j : ℕ) (side : Side) (told : Tells) → IsLaidOut t → t.reuses ≡ true →
    IsPicked told (touched (act_part (acts.Router serial deed) answers.Plain)) → m.0.view.parts ≡ part_in m.0.view ∷ [] → is_touch_act (acts.Router serial deed) ≡ true →
    CanAct (part_in m.0.view).state serial r deed → let_go_end r deed ≡ Some (i, side) → let_go_spare r deed ≡ Some j → MayLeave t id m i side (j % t.slots) (told (mine_of m))
spare_by t id m serial deed r i j A told laid again picked whole touch can gives spare = bit_leaves t id m serial deed r i j false told laid again picked whole touch can gives spare
spare_by t id m serial deed r i j B told laid again picked whole touch can gives spare = bit_leaves t id m serial deed r i j true told laid again picked whole touch can gives spare

-- the end and the spare that an act gives up may be let go
pub may_leave : (t : TableName) (id : ℕ) (m : Me Batch (Own View)) (act : Act) (i j : ℕ) (side : Side) (told : Tells) → IsLaidOut t → IsPicked told (touched (act_part act answers.Plain)) →
    m.0.view.parts ≡ part_in m.0.view ∷ [] → is_touch_act act ≡ true → IsPossibleAct (part_in m.0.view).state act → act_lacks_serials (part_in m.0.view).state act ≡ false →
    GivesUp t.reuses (part_in m.0.view).state act (given.EndAndSpare i side j) → MayLeave t id m i side (j % t.slots) (told (mine_of m))
may_leave t id m (acts.Router serial deed) i j side told laid picked whole touch may serials gives =
    let a = actor (part_in m.0.view).state serial deed may serials in
    let again = (routers_both t.reuses (part_in m.0.view).state (acts.Router serial deed) i side j gives).reused in
    let by = by_router t.reuses (part_in m.0.view).state serial deed i side j gives a.0 a.1.there in
    spare_by t id m serial deed a.0 i j side told laid again picked whole touch a.1 by.0 by.1
  where
    by_router : (reuses : Bool) (x : Node) (serial : ℕ) (deed : RouterAct) (i : ℕ) (side : Side) (j : ℕ) → GivesUp reuses x (acts.Router serial deed) (given.EndAndSpare i side j) → (r : Router) → router_in x serial ≡ Some r →
        RouterGives r deed (given.EndAndSpare i side j)
    by_router true x serial deed i side j h = λ r at. there_gives x serial deed (given.EndAndSpare i side j) r h at
    by_router false x serial deed i side j h = absurd (cc)
may_leave t id m other i j side told laid picked whole touch may serials gives = let e = (routers_both t.reuses (part_in m.0.view).state other i side j gives).is in absurd (cc)
