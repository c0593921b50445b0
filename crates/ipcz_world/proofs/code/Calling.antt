-- A call at a node of the world gives what its step says, or finds no memory.
use Rattle.std.specs.Prelude.{◌≡◌, ◌<◌, ◌+◌, ℕ, true, false, nat_lt, Option, Some, None, Result, Ok, Err, OnOk, IfOk, IfErr, unwrap_or, length}
use Rattle.std.proofs.Common.{arith, ap, sym, subst, refl, inl, inr, ◌∙◌}
use Rattle.std.proofs.lemmas.Bool.Decides.{nat_tests}
use Rattle.ipcz_world.proofs.Vocabulary.{Refusal, Reply, End, Item, put_place, current_item, empty_word, open_word, Node, Found, bare_node}
use Rattle.ipcz_world.proofs.Vocabulary.{terminal_of, World, node_at, set_node, set_word, set_claimed, unless, Mark, Gone, Profile, put_refusal}
use Rattle.ipcz_world.proofs.Vocabulary.{put_node, get_refusal, get_node, close_refusal, close_node, serials_refusal, open_node, HasLengths}
use Rattle.ipcz_world.proofs.Vocabulary.{WordTable, Effect, at_node, GivesOrNoMemory, open_with, open_on, close_step, has_unclaimed_word}
use Rattle.ipcz_base.specs.declared.refusal.Refusal.TheVariants.{OutOfMemory, NoWord}
use Rattle.ipcz_world.specs.declared.step.Reply.TheVariants.{Put, Got, Closed, Refused}
use Rattle.ipcz_base.specs.declared.item.Item.TheVariants.{Parcel as OfParcel}
use Rattle.ipcz_base.specs.declared.parcel.Parcel as parcels
use Rattle.ipcz_node.specs.Calls.{put_number, got_at, got_at_found, item_got}
use Rattle.ipcz_node.specs.declared.state.calls.PutRefused.{PutRefused}
use Rattle.ipcz_world.specs.Coding.{put_word}
use Rattle.ipcz_world.proofs.code.RouterActs.{retabled}
use Rattle.ipcz_world.proofs.code.Slots.{length-put}
use Rattle.ipcz_world.proofs.code.Taken.{with_node, unchanged}
use Rattle.ipcz_world.specs.Steps.{is_refused, Gives, PutGives, got_reply, get_reply}
use Rattle.ipcz_world.specs.Steps.{put_reply, put_step, get_step}
use Rattle.ipcz_world.specs.Steps.{opened_reply}

-- what is done at a node of the world
pub here-node : (w : World) (n : ℕ) (done : Effect) → n < w.count → at_node w n done ≡ done
here-node w n done l = let h : nat_lt n w.count ≡ true = grind (arith, l, nat_tests) in rw h refl

-- nothing refuses it
pub gives-done : (w v : World) (why : Option Refusal) (done : Effect) (reply : Reply) → why ≡ None → reply ≡ done.reply → v ≡ done.world →
    Gives (unless w why done) reply v
unfolding unless
gives-done w v why done reply none r e = rw none (r, e)

-- it is refused
pub gives-refused : (w v : World) (o : Option Refusal) (why : Refusal) (done : Effect) (reply : Reply) → o ≡ Some why →
    reply ≡ Refused why → v ≡ w → Gives (unless w o done) reply v
unfolding unless
gives-refused w v o why done reply is r e = rw is (r, e)

-- it is refused, or finds no memory
pub gives-or-refused : (w v : World) (o : Option Refusal) (why : Refusal) (done : Effect) (reply : Reply) → is_refused done.reply ≡ false →
    why ≡ unwrap_or o OutOfMemory → reply ≡ Refused why → v ≡ w →
    GivesOrNoMemory w (unless w o done) reply v
unfolding unless
gives-or-refused w v None why done reply plain is r e = inr (plain, (r ∙ ap Refused is, e))
gives-or-refused w v (Some x) why done reply plain is r e = inl (r ∙ ap Refused is, e)

-- what a close, a put and a get do if nothing refuses them
abbrev closing : World → ℕ → End → Effect
closing w n at = record { reply = Closed (put_number (node_at w n) at); world = set_node w n (close_node (node_at w n) at) }

abbrev putting : World → ℕ → End → parcels.Parcel → Effect
putting w n at p = record { reply = Put (put_number (node_at w n) at); world = set_node w n (put_node (node_at w n) at p) }

abbrev getting : World → ℕ → End → Effect
getting w n at = record { reply = get_reply (terminal_of (node_at w n) at); world = set_node w n (get_node (node_at w n) at) }

abbrev opening : World → World → ℕ → ℕ → Effect
opening w counted n i =
    record { reply = opened_reply i; world = set_word (set_node counted n (open_node (node_at w n) i)) i open_word }

-- a close
pub close-done : (w : World) (n : ℕ) (at : End) (old x : Node) (number : ℕ) (reply : Reply) → n < w.count → old ≡ node_at w n →
    close_refusal old at ≡ None → number ≡ put_number old at →
    x ≡ close_node old at → reply ≡ Closed number → GivesOrNoMemory w (close_step w n at) reply (with_node w n x)
unfolding set_node
close-done w n at old x number reply l e none is made r =
    let P : Node → Type 0 = λ old. close_refusal old at ≡ None → number ≡ put_number old at → x ≡ close_node old at →
    GivesOrNoMemory w (close_step w n at) reply (with_node w n x) in
    subst P (sym e) (λ none is made. subst (λ d. GivesOrNoMemory w d reply (with_node w n x)) (sym (here-node w n _ l))
    (inl (gives-done w _ _ _ reply none (r ∙ ap Closed is) (ap (with_node w n) made)))) none is made

pub close-refused : (w : World) (n : ℕ) (at : End) (old x : Node) (why : Refusal) (reply : Reply) → HasLengths w → n < w.count →
    old ≡ node_at w n → why ≡ unwrap_or (close_refusal old at) OutOfMemory →
    x ≡ old → reply ≡ Refused why → GivesOrNoMemory w (close_step w n at) reply (with_node w n x)
unfolding is_refused
close-refused w n at old x why reply has l e is same r =
    subst (λ d. GivesOrNoMemory w d reply (with_node w n x)) (sym (here-node w n _ l))
    (gives-or-refused w (with_node w n x) (close_refusal (node_at w n) at) why (closing w n at) reply refl
    (is ∙ ap (λ y. unwrap_or (close_refusal y at) OutOfMemory) e) r (unchanged w n x has l (same ∙ e)))

-- a put
pub put-done : (profile : Profile) (w : World) (n : ℕ) (at : End) (p : parcels.Parcel) (old x : Node) (number : ℕ) (reply : Reply) → n < w.count →
    old ≡ node_at w n → put_refusal profile old at p.bytes p.ends ≡ None → number ≡ put_number old at →
    x ≡ put_node old at p → reply ≡ Put number → GivesOrNoMemory w (put_step profile w n at p) reply (with_node w n x)
unfolding set_node
put-done profile w n at p old x number reply l e none is made r =
    let P : Node → Type 0 = λ old. put_refusal profile old at p.bytes p.ends ≡ None → number ≡ put_number old at → x ≡ put_node old at p →
    GivesOrNoMemory w (put_step profile w n at p) reply (with_node w n x) in
    subst P (sym e) (λ none is made. subst (λ d. GivesOrNoMemory w d reply (with_node w n x)) (sym (here-node w n _ l))
    (inl (gives-done w _ _ _ reply none (r ∙ ap Put is) (ap (with_node w n) made)))) none is made

pub put-refused : (profile : Profile) (w : World) (n : ℕ) (at : End) (p : parcels.Parcel) (old x : Node) (why : Refusal) (reply : Reply) → HasLengths w →
    n < w.count → old ≡ node_at w n →
    why ≡ unwrap_or (put_refusal profile old at p.bytes p.ends) OutOfMemory → x ≡ old → reply ≡ Refused why →
    GivesOrNoMemory w (put_step profile w n at p) reply (with_node w n x)
unfolding is_refused
put-refused profile w n at p old x why reply has l e is same r =
    subst (λ d. GivesOrNoMemory w d reply (with_node w n x)) (sym (here-node w n _ l))
    (gives-or-refused w (with_node w n x) (put_refusal profile (node_at w n) at p.bytes p.ends) why (putting w n at p) reply refl
    (is ∙ ap (λ y. unwrap_or (put_refusal profile y at p.bytes p.ends) OutOfMemory) e) r (unchanged w n x has l (same ∙ e)))

-- a put, by what the node answers
pub put-answers : (profile : Profile) (w : World) (n : ℕ) (at : End) (p : parcels.Parcel) (old x : Node) (answer : Result ℕ PutRefused) → HasLengths w →
    n < w.count → old ≡ node_at w n →
    OnOk answer (put_refusal profile old at p.bytes p.ends ≡ None) → IfOk answer (λ number. number ≡ put_number old at) →
    OnOk answer (x ≡ put_node old at p) → IfErr answer (λ e. e.why ≡ unwrap_or (put_refusal profile old at p.bytes p.ends) OutOfMemory) →
    IfErr answer (λ e. (e.bytes ≡ p.bytes) × (e.ends ≡ p.ends) × (x ≡ old)) →
    GivesOrNoMemory w (put_step profile w n at p) (put_reply answer) (with_node w n x)
unfolding put_reply
put-answers profile w n at p old x (Ok number) has l e none is made why back = put-done profile w n at p old x number _ l e none is made refl
put-answers profile w n at p old x (Err refused) has l e none is made why back = put-refused profile w n at p old x refused.why _ has l e why back.2 refl

-- want of memory that comes last may also come first
pub put-gives : (w v : World) (n : ℕ) (done : Effect) (reply : Reply) → n < w.count → GivesOrNoMemory w done reply v → PutGives w n done reply v
put-gives w v n done reply l (inl gives) = inl gives
put-gives w v n done reply l (inr none) = inr (l, none.1)

got-is : (number k : ℕ) (p q : parcels.Parcel) → ◌≡◌ {A = Option (ℕ × parcels.Parcel)} (Some (k, q)) (Some (number, p)) →
    Got k q ≡ Got number p
got-is number k p q e = ap (λ (o : Option (ℕ × parcels.Parcel)). got_of o) e
  where
    got_of : Option (ℕ × parcels.Parcel) → Reply
    got_of None = Refused OutOfMemory
    got_of (Some x) = Got x.0 x.1

item-replies : (item : Option Item) (k number : ℕ) (p : parcels.Parcel) → item_got k item ≡ Some (number, p) →
    got_reply k item ≡ Got number p
unfolding item_got got_reply
item-replies None k number p is = cc
item-replies (Some (OfParcel q)) k number p is = got-is number k p q is
item-replies (Some Mark) k number p is = cc
item-replies (Some Gone) k number p is = cc

found-replies : (f : Option Found) (number : ℕ) (p : parcels.Parcel) → got_at_found f ≡ Some (number, p) → get_reply f ≡ Got number p
unfolding got_at_found get_reply
found-replies None number p is = cc
found-replies (Some f) number p is = item-replies (current_item f.router.in_queue) f.router.in_queue.current number p is

-- a get
pub get-done : (w : World) (n : ℕ) (at : End) (old x : Node) (number : ℕ) (p : parcels.Parcel) (reply : Reply) → n < w.count →
    old ≡ node_at w n → get_refusal old at ≡ None → got_at old at ≡ Some (number, p) →
    x ≡ get_node old at → reply ≡ Got number p → Gives (get_step w n at) reply (with_node w n x)
unfolding set_node
get-done w n at old x number p reply l e none is made r =
    let P : Node → Type 0 = λ old. get_refusal old at ≡ None → got_at old at ≡ Some (number, p) → x ≡ get_node old at →
    Gives (get_step w n at) reply (with_node w n x) in
    subst P (sym e) (λ none is made. subst (λ d. Gives d reply (with_node w n x)) (sym (here-node w n _ l))
    (gives-done w _ _ _ reply none (r ∙ sym (found-replies (terminal_of (node_at w n) at) number p is)) (ap (with_node w n) made)))
    none is made

pub get-refused : (w : World) (n : ℕ) (at : End) (old x : Node) (why : Refusal) (reply : Reply) → HasLengths w → n < w.count →
    old ≡ node_at w n → get_refusal old at ≡ Some why →
    x ≡ old → reply ≡ Refused why → Gives (get_step w n at) reply (with_node w n x)
get-refused w n at old x why reply has l e is same r =
    subst (λ d. Gives d reply (with_node w n x)) (sym (here-node w n _ l))
    (gives-refused w (with_node w n x) (get_refusal (node_at w n) at) why (getting w n at) reply (sym (ap (λ y. get_refusal y at) e) ∙ is) r
    (unchanged w n x has l (same ∙ e)))

-- an open on a word, over a table in which it is claimed
pub open-done : (w counted : World) (n i : ℕ) (old x : Node) (reply : Reply) → old ≡ node_at w n → serials_refusal old ≡ None →
    x ≡ open_node old i →
    reply ≡ opened_reply i →
    GivesOrNoMemory w (open_with w counted n i) reply
    (record counted { nodes = put_place (bare_node 0 0) counted.nodes n x; words = put_place empty_word counted.words i open_word })
unfolding set_node set_word
open-done w counted n i old x reply e none made r =
    let P : Node → Type 0 = λ old. serials_refusal old ≡ None → x ≡ open_node old i →
    GivesOrNoMemory w (open_with w counted n i) reply
    (record counted { nodes = put_place (bare_node 0 0) counted.nodes n x; words = put_place empty_word counted.words i open_word }) in
    subst P (sym e) (λ none made.
    inl (gives-done w _ _ _ reply none r
    (ap (λ y. record counted {
      nodes = put_place (bare_node 0 0) counted.nodes n y;
      words = put_place empty_word counted.words i open_word;
    }) made))) none made

pub open-refused : (w counted : World) (n i : ℕ) (old x : Node) (why : Refusal) (reply : Reply) → HasLengths w → n < w.count →
    old ≡ node_at w n → why ≡ unwrap_or (serials_refusal old) OutOfMemory →
    x ≡ old → reply ≡ Refused why → GivesOrNoMemory w (open_with w counted n i) reply (with_node w n x)
unfolding is_refused
open-refused w counted n i old x why reply has l e is same r =
    gives-or-refused w (with_node w n x) (serials_refusal (node_at w n)) why (opening w counted n i) reply refl
    (is ∙ ap (λ y. unwrap_or (serials_refusal y) OutOfMemory) e) r (unchanged w n x has l (same ∙ e))

-- the parts of a world in which a word was opened
pub open-world : (w : World) (n i c : ℕ) (x : Node) (t : WordTable) → HasLengths w → i < w.size →
    t ≡ put_word (record { words = w.words; claimed = c }) i open_word →
    record (retabled w t) { nodes = put_place (bare_node 0 0) w.nodes n x }
    ≡ record w { nodes = put_place (bare_node 0 0) w.nodes n x; words = put_place empty_word w.words i open_word; claimed = c }
open-world w n i c x t has l e = λ j. record w {
  nodes = put_place (bare_node 0 0) w.nodes n x;
  words = ap (λ (t : WordTable). t.words) e j;
  claimed = ap (λ (t : WordTable). t.claimed) e j;
  size = (ap (λ (t : WordTable). length t.words) e ∙ length-put empty_word w.words i open_word (omega (arith, l, has.words)) ∙ has.words) j;
}

-- an open on the next word, if one is left, and if none is
pub next-word : (w : World) (n : ℕ) → has_unclaimed_word w ≡ true →
    open_on w n None ≡ open_with w (set_claimed w (w.claimed + 1)) n w.claimed
unfolding open_on
next-word w n e = rw e refl

pub no-word : (w : World) (n : ℕ) → has_unclaimed_word w ≡ false → GivesOrNoMemory w (open_on w n None) (Refused NoWord) w
unfolding open_on
no-word w n e = rw e (inl (refl, refl))
