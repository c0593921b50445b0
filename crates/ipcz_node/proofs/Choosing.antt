-- The act that comes first is one that can be done.
use Rattle.std.proofs.Common.{◌≡◌, ◌⊎◌, ◌&&◌, ◌||◌, Bool, true, false, if◌then◌else◌, ℕ, List, [], ◌∷◌, Some, inl, inr, refl, not, nat_eq}
use Rattle.std.proofs.Common.{length, is_some}
use Rattle.std.proofs.lemmas.Bool.{and_parts, or_left, or_right}
use Rattle.ipcz_router.specs.Router.{Router}
use Rattle.ipcz_router.specs.ActTable.{is_possible, can_begin, can_retire, first_possible, table, next_act, is_rest, may_take}
use Rattle.ipcz_router.specs.declared.act.RouterAct.{RouterAct}
use Rattle.ipcz_router.specs.declared.act.RouterAct.TheVariants as acts
use Rattle.ipcz_base.specs.Indexed.{place_at}
use Rattle.ipcz_node.specs.declared.act.MailSeen.{MailSeen}
use Rattle.ipcz_base.specs.declared.message.Message.{Message}
use Rattle.ipcz_node.specs.Node.{Node, outbox}
use Rattle.ipcz_node.specs.Acts.{first_destination, has_mail_for, first_of}
use Rattle.ipcz_node.proofs.Turns.{first_number-tells}

-- the first possible act of a list is possible, or it is rest
first_is : (r : Router) (l : List RouterAct) → (is_possible r (first_possible r l) ≡ true) ⊎ (first_possible r l ≡ acts.Rest)
first_is r [] = inr refl
first_is r (a ∷ l) = go (is_possible r a) refl (first_is r l)
  where
    go : (c : Bool) → is_possible r a ≡ c → (is_possible r (first_possible r l) ≡ true) ⊎ (first_possible r l ≡ acts.Rest) →
        (is_possible r (if c then a else first_possible r l) ≡ true) ⊎ ((if c then a else first_possible r l) ≡ acts.Rest)
    go true e more = inl e
    go false e more = more

pub next_may : (r : Router) → may_take r (next_act r) ≡ true
unfolding next_act is_rest
next_may r = elim (first_is r table) [
  | inl e ↦ or_left _ _ e
  | inr e ↦ or_right _ _ (rest (next_act r) e)
]
  where
    rest : (a : RouterAct) → a ≡ acts.Rest → (is_rest a && is_rest a) ≡ true
    rest a e = rw e refl

-- mail waits for the node that is posted to
pub mail_waits : (n : Node) (seen : MailSeen) (to : ℕ) → first_destination n seen ≡ Some to → has_mail_for n to ≡ true
mail_waits n seen to is =
    (and_parts (has_mail_for n to) (place_at false seen.empty to)
    (first_number-tells (λ i. has_mail_for n i && place_at false seen.empty i) 0 n.count to is).1).0

-- if a bypass can begin, the lock can be given back in its place
pub unlock_may : (r : Router) → may_take r acts.Begin ≡ true → may_take r acts.Unlock ≡ true
unfolding is_possible is_rest
unlock_may r h = in_place (can_begin r) (can_retire r) (is_rest (next_act r)) h
  where
    in_place : (a b c : Bool) → (a || (false && c)) ≡ true → ((a || b) || (false && c)) ≡ true
    in_place true b c e = refl
    in_place false b c e = cc

-- and if a sink can retire
pub retire_may : (r : Router) → may_take r acts.Retire ≡ true → may_take r acts.Unlock ≡ true
unfolding is_possible is_rest
retire_may r h = in_place (can_begin r) (can_retire r) (is_rest (next_act r)) h
  where
    in_place : (a b c : Bool) → (b || (false && c)) ≡ true → ((a || b) || (false && c)) ≡ true
    in_place true b c e = refl
    in_place false b c e = e

-- if mail waits, there is a first message
pub mail_is_first : (n : Node) (to : ℕ) → has_mail_for n to ≡ true → is_some (first_of (outbox n to)) ≡ true
unfolding first_of
mail_is_first n to has = go (outbox n to) has
  where
    go : (ms : List Message) → not (nat_eq (length ms) 0) ≡ true → is_some (first_of ms) ≡ true
    go [] e = cc
    go (m ∷ ms) e = refl
