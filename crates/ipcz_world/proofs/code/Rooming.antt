-- What there is room for isn't refused for want of memory.
use Rattle.std.specs.Prelude.{◌≡◌, ◌≢◌, ◌<◌, ℕ, Bool, true, false, ◌&&◌, if◌then◌else◌, Option, Some, None, IfSome, Result, Ok, Err, IsOk, IfErr, MatchBool, List, [], ◌∷◌, zero, suc}
use Rattle.std.proofs.Common.{ap, sym, subst, subst₂, refl, inl, inr, ◌∙◌, true≢false}
use Rattle.ipcz_base.specs.declared.message.Message.{Message}
use Rattle.ipcz_base.specs.declared.refusal.Refusal.{Refusal}
use Rattle.ipcz_base.specs.declared.refusal.Refusal.TheVariants.{NumbersEnd, OutOfMemory}
use Rattle.ipcz_node.specs.RoomyNodes.{NodeRoom, RoomyNode}
use Rattle.ipcz_node.specs.Hands.{fits, message_lacks_serials}
use Rattle.ipcz_node.specs.Telling.{HasRoomFor}
use Rattle.ipcz_node.specs.declared.act.Act.TheVariants.{Hand}
use Rattle.ipcz_node.specs.declared.state.calls.PutRefused.{PutRefused}
use Rattle.ipcz_world.specs.declared.step.Reply.{Reply}
use Rattle.ipcz_world.specs.declared.step.Reply.TheVariants.{Refused}
use Rattle.ipcz_world.specs.Steps.{Effect, Gives, GivesOrNoMemory, at_node, is_refused, put_reply, refuse, unless}
use Rattle.ipcz_world.specs.RoomyWorlds.{RoomyWorld, no_room, roomy_at, HasRoomToAct, HasRoomToHandle}
use Rattle.ipcz_world.specs.Turns.{message_in_hand}
use Rattle.ipcz_world.specs.WordAnswers.{source_for}
use Rattle.ipcz_world.proofs.Vocabulary.{World, place_at, put_place, node_at}
use Rattle.ipcz_world.proofs.code.Calling.{here-node}

-- a node that was lent is the world's node with its room
pub roomy_is : {s t : RoomyWorld} (n : ℕ) (k : RoomyNode) → s ≡ t → k.node ≡ node_at s.world n → k.room ≡ place_at no_room s.rooms n →
    roomy_at t n ≡ k
roomy_is n k same node room = ap (λ (s : RoomyWorld). roomy_at s n) (sym same) ∙ (λ i. record { node = sym node i; room = sym room i })

-- what was written at a number stands there
pub place-put : {X : Type 0} (d : X) (xs : List X) (i : ℕ) (y : X) → place_at d (put_place d xs i y) i ≡ y
unfolding place_at put_place
place-put d [] zero y = refl
place-put d [] (suc i) y = place-put d [] i y
place-put d (x ∷ xs) zero y = refl
place-put d (x ∷ xs) (suc i) y = place-put d xs i y

-- a refusal that there is none of isn't one for want of memory
pub no_want : {P : Type 0} {why : Refusal} → (P → false ≡ true) → P → why ≢ OutOfMemory
no_want done room _ = absurd (true≢false (sym (done room)))

-- what is done isn't refused
pub done_well : {X : Type 0} (r : Result X Refusal) → IsOk r → IfErr r (λ why. why ≢ OutOfMemory)
done_well (Ok x) ok = tt
done_well (Err why) ok = absurd (true≢false (sym ok))

-- what isn't refused for want of memory is given
pub given_with_room : {w v : World} {done : Effect} {reply : Reply} → GivesOrNoMemory w done reply v →
    (is_refused done.reply ≡ false → reply ≡ Refused OutOfMemory → ⊥) → Gives done reply v
given_with_room (inl gives) found = gives
given_with_room (inr none) found = absurd (found none.0 none.1.0)

-- nothing refuses what isn't refused
pub not_refused : (w : World) (n : ℕ) (o : Option Refusal) (done : Effect) → n < w.count →
    is_refused (at_node w n (unless w o done)).reply ≡ false → o ≡ None
unfolding is_refused unless
not_refused w n None done l plain = refl
not_refused w n (Some why) done l plain =
    absurd (true≢false (ap (λ (e : Effect). is_refused e.reply) (sym (here-node w n (refuse w why) l)) ∙ plain))

-- a put that is done isn't refused
pub done_puts : (r : Result ℕ PutRefused) → IsOk r → put_reply r ≡ Refused OutOfMemory → ⊥
unfolding put_reply
done_puts (Ok number) ok is = cc
done_puts (Err refused) ok is = true≢false (sym ok)

-- what isn't refused for want of memory is refused for want of serials
pub ends_numbers : (lacks : Bool) (why : Refusal) → why ≡ (if lacks then NumbersEnd else OutOfMemory) → why ≢ OutOfMemory →
    why ≡ NumbersEnd
ends_numbers true why is other = is
ends_numbers false why is other = absurd (other is)

-- a message for which there is room isn't refused for want of memory
pub handled_with_room : (k : RoomyNode) (from : ℕ) (m : Message) (source : Option ℕ) (why : Refusal) →
    why ≡ (if message_lacks_serials k.node from m source then NumbersEnd else OutOfMemory) →
    (fits k.node from m source ≡ true → HasRoomFor k m → message_lacks_serials k.node from m source ≡ false → false ≡ true) →
    (fits k.node from m source ≡ false → 0 < k.room.strays → false ≡ true) → HasRoomToHandle k from m source → why ≢ OutOfMemory
handled_with_room k from m source why is full stray room same =
    go (fits k.node from m source) (message_lacks_serials k.node from m source) refl refl
  where
    go : (b c : Bool) → fits k.node from m source ≡ b → message_lacks_serials k.node from m source ≡ c → ⊥
    go b true e l = let ends : why ≡ NumbersEnd = is ∙ ap (λ c. if c then NumbersEnd else OutOfMemory) l in cc
    go true false e l = true≢false (sym (full e (subst (λ b. MatchBool b (HasRoomFor k m) (0 < k.room.strays)) e room) l))
    go false false e l = true≢false (sym (stray e (subst (λ b. MatchBool b (HasRoomFor k m) (0 < k.room.strays)) e room)))

-- a message that would be taken at once, and for which there is room, isn't refused for want of memory
pub taken_with_room : (k : RoomyNode) (from : ℕ) (m : Message) (source : Option ℕ) (lone : Bool) (why : Refusal) →
    (lone && fits k.node from m source) ≡ true → (HasRoomFor k m → false ≡ true) → HasRoomToHandle k from m source → why ≢ OutOfMemory
taken_with_room k from m source lone why wanted full room same = go lone (fits k.node from m source) refl wanted
  where
    go : (a b : Bool) → fits k.node from m source ≡ b → (a && b) ≡ true → ⊥
    go false b e w = true≢false (sym w)
    go true false e w = true≢false (sym w)
    go true true e w = true≢false (sym (full (subst (λ b. MatchBool b (HasRoomFor k m) (0 < k.room.strays)) e room)))

-- room for the message in hand, by the node and its room
abbrev HasRoomInHand : ℕ → ℕ → World → NodeRoom → Type 0
HasRoomInHand n from w room =
    IfSome (message_in_hand w n from) (λ m. HasRoomToHandle (record { node = node_at w n; room = room }) from m (source_for w m))

-- of the message in hand, which is there
pub room_in_hand : (s : RoomyWorld) (n from : ℕ) (m : Message) → message_in_hand s.world n from ≡ Some m → HasRoomToAct s n (Hand from) →
    HasRoomToHandle (roomy_at s n) from m (source_for s.world m)
room_in_hand s n from m there room = subst (λ o. IfSome o (λ m. HasRoomToHandle (roomy_at s n) from m (source_for s.world m))) there room

-- what has the same world and the same room has room for the same message
pub same_room : (s t : RoomyWorld) (n from : ℕ) → s.world ≡ t.world → place_at no_room s.rooms n ≡ place_at no_room t.rooms n →
    HasRoomToAct s n (Hand from) → HasRoomToAct t n (Hand from)
same_room s t n from world room has = subst₂ (HasRoomInHand n from) world room has
