-- What each step adds to the books is what the answer to its command says.
use Rattle.std.proofs.Common.{◌≡◌, ◌∙◌, ap, sym, refl, subst, append-nil, ℕ, suc, Bool, true, false, cond, List, [], ◌∷◌, ◌++◌, length, map}
use Rattle.std.proofs.Common.{Option, Some, None}
use Rattle.std.specs.Prelude.{take, unwrap_or}
use Rattle.std.specs.FinMap.{get}
use Rattle.std.specs.Option.{option_map_or}
use Rattle.ipcz_base.specs.declared.end.End.{End}
use Rattle.ipcz_base.specs.declared.parcel.Parcel as parcels
use Rattle.ipcz_base.specs.declared.item.Item.{Item}
use Rattle.ipcz_base.specs.declared.item.Item.TheVariants.{Parcel, Mark, Gone}
use Rattle.ipcz_base.specs.Ends.{same_end}
use Rattle.ipcz_router.specs.Router.{Router}
use Rattle.ipcz_node.specs.declared.happened.Happened.{Happened}
use Rattle.ipcz_node.specs.declared.happened.Happened.TheVariants as events
use Rattle.ipcz_world.specs.declared.step.Step.TheVariants as steps
use Rattle.ipcz_world.specs.declared.step.Reply.{Reply}
use Rattle.ipcz_world.specs.declared.step.Reply.TheVariants as replies
use Rattle.ipcz_world.specs.World.{World}
use Rattle.ipcz_world.specs.Turns.{router_of}
use Rattle.ipcz_world.specs.Books.{Books, add_put, add_got, advance, after_discard, after_retire, after_turn, has_gone, has_mark}
use Rattle.ipcz_world.proofs.facts.LinkTests.{same_end-tells}
use Rattle.ipcz_script.specs.declared.command.Command.TheVariants as commands
use Rattle.ipcz_script.specs.Bindings.{Bindings}
use Rattle.ipcz_script.specs.Sessions.{ends_of, answer_to}
use Rattle.ipcz_script.specs.ScriptBooks.{got_said, parcel_of, parcels_in, put_said}

-- ---- parcels among items

parcels-more : (items : List Item) (p : parcels.Parcel) → parcels_in (items ++ Parcel p ∷ []) ≡ parcels_in items ++ p ∷ []
parcels-more [] p = refl
parcels-more (Parcel q ∷ items) p = ap (λ l. q ∷ l) (parcels-more items p)
parcels-more (Mark ∷ items) p = parcels-more items p
parcels-more (Gone ∷ items) p = parcels-more items p

parcels-mark : (items : List Item) → parcels_in (items ++ Mark ∷ []) ≡ parcels_in items
parcels-mark [] = refl
parcels-mark (Parcel q ∷ items) = ap (λ l. q ∷ l) (parcels-mark items)
parcels-mark (Mark ∷ items) = parcels-mark items
parcels-mark (Gone ∷ items) = parcels-mark items

parcels-gone : (items : List Item) → parcels_in (items ++ Gone ∷ []) ≡ parcels_in items
parcels-gone [] = refl
parcels-gone (Parcel q ∷ items) = ap (λ l. q ∷ l) (parcels-gone items)
parcels-gone (Mark ∷ items) = parcels-gone items
parcels-gone (Gone ∷ items) = parcels-gone items

-- without a mark and Gone all items are parcels
pub unmarked-length : (items : List Item) → has_mark items ≡ false → has_gone items ≡ false → length items ≡ length (parcels_in items)
unmarked-length [] h k = refl
unmarked-length (Parcel q ∷ items) h k = ap suc (unmarked-length items h k)
unmarked-length (Mark ∷ items) h k = cc
unmarked-length (Gone ∷ items) h k = cc

-- a prefix of parcels among items is one of their parcels
pub parcels-follow : (ps : List parcels.Parcel) (items : List Item) → take (length ps) items ≡ map Parcel ps →
    take (length ps) (parcels_in items) ≡ ps
parcels-follow [] items h = refl
parcels-follow (p ∷ ps) [] h = cc
parcels-follow (p ∷ ps) (Mark ∷ items) h = cc
parcels-follow (p ∷ ps) (Gone ∷ items) h = cc
parcels-follow (p ∷ ps) (Parcel q ∷ items) h =
    let same : q ≡ p = cc in
    let more : take (length ps) items ≡ map Parcel ps = cc in
    λ i. same i ∷ parcels-follow ps items more i

-- ---- what a step adds

-- the second books have these parcels more than the first
pub record Adds (b c : Books) (puts gots : End → List parcels.Parcel) : Type 0 where
  pub put : (e : End) → parcels_in (c.put e) ≡ parcels_in (b.put e) ++ puts e
  pub got : (e : End) → c.got e ≡ b.got e ++ gots e

abbrev pub none : End → List parcels.Parcel
none e = []

-- a parcel at one end
abbrev pub at_end : End → parcels.Parcel → End → List parcels.Parcel
at_end at p e = cond (same_end e at) (p ∷ []) []

nothing-more : (b : Books) → Adds b b none none
nothing-more b = record { put = λ e. sym (append-nil (parcels_in (b.put e))); got = λ e. sym (append-nil (b.got e)) }

put-more : (b : Books) (at : End) (p : parcels.Parcel) → Adds b (add_put b at (Parcel p)) (at_end at p) none
put-more b at p = record { put = λ e. go e (same_end e at) refl; got = λ e. sym (append-nil (b.got e)) }
  where
    go : (e : End) (c : Bool) → same_end e at ≡ c →
        parcels_in (cond c (b.put at ++ Parcel p ∷ []) (b.put e)) ≡ parcels_in (b.put e) ++ cond c (p ∷ []) []
    go e true h = parcels-more (b.put at) p ∙ ap (λ d. parcels_in (b.put d) ++ p ∷ []) (sym (same_end-tells e at h))
    go e false h = sym (append-nil (parcels_in (b.put e)))

got-more : (b : Books) (at : End) (p : parcels.Parcel) → Adds b (add_got b at p) none (at_end at p)
got-more b at p = record { put = λ e. sym (append-nil (parcels_in (b.put e))); got = λ e. go e (same_end e at) refl }
  where
    go : (e : End) (c : Bool) → same_end e at ≡ c → cond c (b.got at ++ p ∷ []) (b.got e) ≡ b.got e ++ cond c (p ∷ []) []
    go e true h = ap (λ d. b.got d ++ p ∷ []) (sym (same_end-tells e at h))
    go e false h = sym (append-nil (b.got e))

mark-more : (b : Books) (at : End) → Adds b (add_put b at Mark) none none
mark-more b at = record {
  put = λ e. go e (same_end e at) refl ∙ sym (append-nil (parcels_in (b.put e)));
  got = λ e. sym (append-nil (b.got e));
}
  where
    go : (e : End) (c : Bool) → same_end e at ≡ c → parcels_in (cond c (b.put at ++ Mark ∷ []) (b.put e)) ≡ parcels_in (b.put e)
    go e true h = parcels-mark (b.put at) ∙ ap (λ d. parcels_in (b.put d)) (sym (same_end-tells e at h))
    go e false h = refl

gone-more : (b : Books) (at : End) → Adds b (add_put b at Gone) none none
gone-more b at = record {
  put = λ e. go e (same_end e at) refl ∙ sym (append-nil (parcels_in (b.put e)));
  got = λ e. sym (append-nil (b.got e));
}
  where
    go : (e : End) (c : Bool) → same_end e at ≡ c → parcels_in (cond c (b.put at ++ Gone ∷ []) (b.put e)) ≡ parcels_in (b.put e)
    go e true h = parcels-gone (b.put at) ∙ ap (λ d. parcels_in (b.put d)) (sym (same_end-tells e at h))
    go e false h = refl

discard-more : (b : Books) (o : Option Router) → Adds b (after_discard b o) none none
unfolding after_discard
discard-more b None = nothing-more b
discard-more b (Some r) = record { put = λ e. sym (append-nil (parcels_in (b.put e))); got = λ e. sym (append-nil (b.got e)) }

retire-more : (b : Books) (o : Option Router) → Adds b (after_retire b o) none none
unfolding after_retire
retire-more b None = nothing-more b
retire-more b (Some r) = gone-more b r.end

-- a turn adds no parcel
event-more : (w : World) (b : Books) (n : ℕ) (event : Happened) → Adds b (after_turn w b n event) none none
unfolding after_turn
event-more w b n (events.Close e) = mark-more b e
event-more w b n (events.Discard serial number) = discard-more b (router_of w n serial)
event-more w b n (events.DiscardLeave serial number) = discard-more b (router_of w n serial)
event-more w b n (events.Retire serial number link) = retire-more b (router_of w n serial)
event-more w b n other = nothing-more b

pub turn-more : (w : World) (b : Books) (n : ℕ) (reply : Reply) → Adds b (advance w b (steps.Turn n) reply) none none
unfolding advance
turn-more w b n (replies.Turned event) = event-more w b n event
turn-more w b n other = nothing-more b

-- ---- what a call adds is what its answer says

pub open-said : (w : World) (b : Books) (n : ℕ) (names : Bindings) (first second : List ℕ) (reply : Reply) →
    Adds b (advance w b (steps.Open n) reply) (put_said names (commands.Open n first second) (answer_to reply))
    (got_said names (commands.Open n first second) (answer_to reply))
unfolding advance put_said got_said answer_to
open-said w b n names first second (replies.Opened d e) = nothing-more b
open-said w b n names first second other = nothing-more b

pub put-said : (w : World) (b : Books) (n : ℕ) (names : Bindings) (at text : List ℕ) (attached : List (List ℕ)) (end : End)
    (ends : List End)
    (reply : Reply) → get names at ≡ Some end → ends_of names attached ≡ Some ends →
    Adds b (advance w b (steps.Put n end text ends) reply) (put_said names (commands.Put at text attached) (answer_to reply))
    (got_said names (commands.Put at text attached) (answer_to reply))
unfolding advance put_said got_said answer_to
put-said w b n names at text attached end ends (replies.Put k) bound known =
    subst (λ o. Adds b (add_put b end (Parcel (record { bytes = text; ends = ends })))
    (λ e. cond (option_map_or (same_end e) o false) (parcel_of names text attached ∷ []) []) none) (sym bound)
    (subst (λ o. Adds b (add_put b end (Parcel (record { bytes = text; ends = ends })))
    (at_end end (record { bytes = text; ends = unwrap_or o [] })) none) (sym known) (put-more b end (record { bytes = text; ends = ends })))
put-said w b n names at text attached end ends other bound known = nothing-more b

pub got-said : (w : World) (b : Books) (n : ℕ) (names : Bindings) (at : List ℕ) (end : End) (reply : Reply) → get names at ≡ Some end →
    Adds b (advance w b (steps.Get n end) reply) (put_said names (commands.Get at) (answer_to reply))
    (got_said names (commands.Get at) (answer_to reply))
unfolding advance put_said got_said answer_to
got-said w b n names at end (replies.Got k p) bound =
    subst (λ o. Adds b (add_got b end p) none (λ e. cond (option_map_or (same_end e) o false) (p ∷ []) [])) (sym bound) (got-more b end p)
got-said w b n names at end other bound = nothing-more b

pub close-said : (w : World) (b : Books) (n : ℕ) (names : Bindings) (at : List ℕ) (end : End) (reply : Reply) →
    Adds b (advance w b (steps.Close n end) reply) (put_said names (commands.Close at) (answer_to reply))
    (got_said names (commands.Close at) (answer_to reply))
unfolding advance put_said got_said answer_to
close-said w b n names at end (replies.Closed k) = mark-more b end
close-said w b n names at end other = nothing-more b
