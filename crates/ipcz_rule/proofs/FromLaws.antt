-- What the steps take from a lawful world, by the laws that functions of ipcz_world promise: nothing here looks into `Lawful`.
use Rattle.std.specs.Prelude.{◌≡◌, ◌<◌, ℕ, Bool, true, false, ◌&&◌, not, Option, Some, None, is_some, IsSome, length, slice_get, refl}
use Rattle.std.proofs.Common.{arith, ap, ◌∙◌, sym}
use Rattle.std.proofs.lemmas.Bool.Decides.{nat_tests}
use Rattle.ipcz_base.specs.declared.end.End.{End}
use Rattle.ipcz_base.specs.Ends.{has_end}
use Rattle.ipcz_base.specs.declared.message.Message.{Message}
use Rattle.ipcz_base.specs.declared.message.Message.TheVariants as messages
use Rattle.ipcz_word.specs.Laws.{HasNode}
use Rattle.ipcz_word.specs.Word.{empty_word}
use Rattle.ipcz_router.specs.Router.{Router, is_terminal, is_open_terminal, source_of}
use Rattle.ipcz_router.specs.Bypass.{is_source}
use Rattle.ipcz_router.specs.Calls.{next_number}
use Rattle.ipcz_node.specs.Node.{Found, terminal_of, is_terminal_of, router_in}
use Rattle.ipcz_world.specs.declared.mail.Mail.TheVariants as mails
use Rattle.ipcz_world.specs.World.{World, node_at, word_at, mail_at, way, flow, messages_in}
use Rattle.ipcz_world.specs.Flows.{IsUnderWay}
use Rattle.ipcz_world.specs.WordAnswers.{source_for}
use Rattle.ipcz_world.specs.Turns.{hand_message}
use Rattle.ipcz_world.specs.Books.{Books, read}
use Rattle.ipcz_world.specs.Routes.{Routes}
use Rattle.ipcz_world.specs.Lawful.{Lawful}
use Rattle.ipcz_world.proofs.Whole.{nodes_are_sound, terminals_keep_books, hands_stand_in_mail, opening_words_are_empty, pending_have_terminals}
use Rattle.ipcz_world.proofs.Whole.{lawful_worlds_stray_nothing}
use Rattle.ipcz_world.proofs.code.Regular.{lawful-regular}
use Rattle.ipcz_world.proofs.acts.Puts.{router_found}
use Rattle.ipcz_world.proofs.facts.Finding.{terminal_tells, found_tells}
use Rattle.ipcz_rule.specs.Steps.{trusted}

-- its sender is a node of the world
pub hand_sender : (w : World) (b : Books) (g : Routes) (n from : ℕ) → Lawful w b g → n < w.count → (node_at w n).hand ≡ Some from → from < w.count
hand_sender w b g n from law l e = (nodes_are_sound w b g n law l).hand from e

-- a message in a node's hand stands in its mailbox
pub hand_stands : (w : World) (b : Books) (g : Routes) (n from : ℕ) → Lawful w b g → n < w.count → (node_at w n).hand ≡ Some from → is_some (hand_message (mail_at w (way w from n))) ≡ true
hand_stands w b g n from law l e = (hands_stand_in_mail w b g n from law l (hand_sender w b g n from law l e)).0 e

-- and a mailbox whose message is in hand is that of the hand of its receiver
pub stands_in_hand : (w : World) (b : Books) (g : Routes) (n from : ℕ) → Lawful w b g → n < w.count → from < w.count → is_some (hand_message (mail_at w (way w from n))) ≡ true → (node_at w n).hand ≡ Some from
stands_in_hand w b g n from law l k = (hands_stand_in_mail w b g n from law l k).1

-- the word of an open under way is empty
pub opening_word : (w : World) (b : Books) (g : Routes) (n i : ℕ) → Lawful w b g → (node_at w n).opening ≡ Some i → word_at w i ≡ empty_word
opening_word = opening_words_are_empty

-- what the books say of an open terminal that was found at a node
pub record KeepsBooks (b : Books) (e : End) (r : Router) : Type 0 where
  pub end : r.end ≡ e
  pub next : next_number r ≡ length (b.put e)
  pub current : r.in_queue.current ≡ read b e
  pub none_gone : b.gone e ≡ 0

both_first : (x y : Bool) → (x && y) ≡ true → x ≡ true
both_first true y q = refl
both_first false y q = cc

both_second : (x y : Bool) → (x && y) ≡ true → y ≡ true
both_second true y q = q
both_second false y q = cc

not_true : (x : Bool) → not x ≡ true → x ≡ false
not_true true q = cc
not_true false q = refl

pub terminal_books : (w : World) (b : Books) (g : Routes) (n : ℕ) (e : End) (f : Found) → Lawful w b g → terminal_of (node_at w n) e ≡ Some f → KeepsBooks b e f.router
terminal_books w b g n e f law h =
    let is = terminal_tells (node_at w n) e f h in
    let here = router_found w n f.serial f.router is.here in
    let t = found_tells (node_at w n) (is_terminal_of e) f h in
    let opened : is_open_terminal f.router ≡ true = both_first (is_open_terminal f.router) _ t.1 in
    let closed : f.router.closed ≡ false = not_true f.router.closed (both_second (is_terminal f.router) (not f.router.closed) opened) in
    let k = terminals_keep_books w b g law in
    record {
      end = is.end;
      next = k.next _ f.router here is.terminal ∙ ap (λ z. length (b.put z)) is.end;
      current = k.current _ f.router here is.terminal ∙ ap (read b) is.end;
      none_gone = ap b.gone (sym is.end) ∙ k.open_drops_nothing _ f.router here is.terminal closed;
    }

some_found : (o : Option Found) → IsSome o → (f : Found) × (o ≡ Some f)
some_found None h = cc
some_found (Some f) h = (f, refl)

-- an end whose close is pending at a node has its terminal there
pub pending_terminal : (w : World) (b : Books) (g : Routes) (n : ℕ) (e : End) → Lawful w b g → n < w.count → has_end e (node_at w n).pending ≡ true → (f : Found) × (terminal_of (node_at w n) e ≡ Some f)
pending_terminal w b g n e law l has = some_found (terminal_of (node_at w n) e) (pending_have_terminals w b g n e law l has)

-- the source that a router would name is a node of the world
pub source_is_node : (w : World) (b : Books) (g : Routes) (n serial : ℕ) (r : Router) → Lawful w b g → n < w.count → router_in (node_at w n) serial ≡ Some r → HasNode (source_of r)
source_is_node w b g n serial r law l = (lawful-regular w (record { books = b; routes = g; lawful = law })).sourced n serial r l

placed : (w : World) (from n : ℕ) (x : Message) → mail_at w (way w from n) ≡ mails.Hand x → slice_get (flow w from n) 0 ≡ Some x
unfolding flow messages_in
placed w from n x full = rw full refl

-- what is in a hand is under way
in_flow : (w : World) (from n : ℕ) (x : Message) → from < w.count → n < w.count → mail_at w (way w from n) ≡ mails.Hand x → IsUnderWay w from n 0 x
in_flow w from n x k l full = record { sender = k; receiver = l; place = placed w from n x full }

source_is : (from : ℕ) (o : Option ℕ) → is_source from o ≡ true → o ≡ Some from
unfolding is_source
source_is from None h = cc
source_is from (Some a) h = grind (arith, nat_tests, h)

-- the source that the world gives for a message in hand
pub hand_source : (w : World) (b : Books) (g : Routes) (n from : ℕ) (x : Message) → Lawful w b g → n < w.count → from < w.count → mail_at w (way w from n) ≡ mails.Hand x → source_for w x ≡ trusted from x
unfolding source_for trusted
hand_source w b g n from (messages.AcceptBypass old side fresh length) law l k full =
    source_is from (source_for w (messages.AcceptBypass old side fresh length)) ((lawful_worlds_stray_nothing w b g law).1.sourced from n 0 old side fresh length (in_flow w from n (messages.AcceptBypass old side fresh length) k l full))
hand_source w b g n from other law l k full = refl
