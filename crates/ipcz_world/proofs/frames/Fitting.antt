-- What is said of an item under way, message by message.
use Rattle.std.specs.Prelude.{◌||◌}
use Rattle.ipcz_world.proofs.Vocabulary.{Side, LinkId, Central, Descriptor, Item, opposite, Queue, item_at, Router, World, Key, Records, is_recorded}
use Rattle.ipcz_world.proofs.Vocabulary.{side_node, side_length, view, next_sent, taking_queue, is_gone, is_awaited, is_made_before, Items, is_left}
use Rattle.ipcz_world.proofs.Vocabulary.{may_have_sent, IsItemUnderWay}
use Rattle.std.specs.Prelude.{◌≡◌, ◌≤◌, ◌<◌, ℕ, true, false, Some, None, is_some, refl, List}
use Rattle.std.proofs.Common.{arith, subst, ◌∙◌, sym}
use Rattle.ipcz_world.proofs.frames.Touching.{recorded_same}
use Rattle.ipcz_world.proofs.frames.Draining.{IsDraining, gone_same, awaited_same, sent_same, sent_before, taken_before, below_drained}

-- all that is said of one item under way toward a link's side
pub record ItemFits (w : World) (g : Records) (from to i : ℕ) (link : LinkId) (s : Side) (n : ℕ) : Type 0 where
  pub recorded : is_recorded w g link ≡ true
  pub sender : from ≡ side_node g link (opposite s)
  pub receiver : to ≡ side_node g link s
  pub below_length : (length : ℕ) → side_length g link (opposite s) ≡ Some length → n < length
  pub was_sent : (u : ℕ) → next_sent link (opposite s) (view w g link (opposite s)) ≡ Some u → n < u
  pub by_sender : may_have_sent (view w g link (opposite s)) ≡ true
  pub sender_gone : is_gone (view w g link (opposite s)) ≡ true →
      (is_some (side_length g link (opposite s)) || is_left g link (opposite s)) ≡ true
  pub not_passed : (q : Queue Item) → taking_queue link s (view w g link s) ≡ Some q → q.current ≤ n
  pub behind : is_awaited (view w g link s) ≡ true → is_made_before w from to i link s ≡ true
  pub not_awaited_low : (c o : ℕ) → link ≡ Central c → (g.central c).router s ≡ None → (g.central c).born ≡ Some o →
      (g.bypass o).taken_at ≤ n
  pub receiver_there : is_gone (view w g link s) ≡ false

pub fits_of : (w : World) (g : Records) (from to i : ℕ) (link : LinkId) (s : Side) (n : ℕ) (item : Item) (moves : List Descriptor) →
    Items w g → IsItemUnderWay w from to i link s n item moves → ItemFits w g from to i link s n
fits_of w g from to i link s n item moves law u = record {
  recorded = law.recorded from to i link s n item moves u;
  sender = law.sender from to i link s n item moves u;
  receiver = law.receiver from to i link s n item moves u;
  below_length = λ length. law.below_length from to i link s n item moves length u;
  was_sent = λ x. law.was_sent from to i link s n item moves x u;
  by_sender = law.by_sender from to i link s n item moves u;
  sender_gone = law.sender_gone from to i link s n item moves u;
  not_passed = λ q. law.not_passed from to i link s n item moves q u;
  behind = law.behind from to i link s n item moves u;
  not_awaited_low = λ c o e. law.not_awaited_low from to i c s n item moves o
      (subst (λ l. IsItemUnderWay w from to i l s n item moves) e u);
  receiver_there = law.receiver_there from to i link s n item moves u;
}

pub items_by : (w : World) (g : Records) → ((from to i : ℕ) (link : LinkId) (s : Side) (n : ℕ) (item : Item) (moves : List Descriptor) →
    IsItemUnderWay w from to i link s n item moves → ItemFits w g from to i link s n) → Items w g
items_by w g fit = record {
  recorded = λ from to i link s n item moves u. (fit from to i link s n item moves u).recorded;
  sender = λ from to i link s n item moves u. (fit from to i link s n item moves u).sender;
  receiver = λ from to i link s n item moves u. (fit from to i link s n item moves u).receiver;
  below_length = λ from to i link s n item moves length u. (fit from to i link s n item moves u).below_length length;
  was_sent = λ from to i link s n item moves x u. (fit from to i link s n item moves u).was_sent x;
  by_sender = λ from to i link s n item moves u. (fit from to i link s n item moves u).by_sender;
  sender_gone = λ from to i link s n item moves u. (fit from to i link s n item moves u).sender_gone;
  not_passed = λ from to i link s n item moves q u. (fit from to i link s n item moves u).not_passed q;
  behind = λ from to i link s n item moves u. (fit from to i link s n item moves u).behind;
  not_awaited_low = λ from to i c s n item moves o u. (fit from to i (Central c) s n item moves u).not_awaited_low c o refl;
  receiver_there = λ from to i link s n item moves u. (fit from to i link s n item moves u).receiver_there;
}

-- queues drain, and the item isn't what has left
pub fits-drained : (w v : World) (k : Key) (r y : Router) (g : Records) (from to i j : ℕ) (link : LinkId) (s : Side) (n : ℕ) →
    IsDraining w v k r y → ItemFits w g from to j link s n →
    (is_made_before w from to j link s ≡ true → is_made_before v from to i link s ≡ true) →
    ((q : Queue Item) → taking_queue link s (view w g link s) ≡ Some q → item_at q n ≡ None) → ItemFits v g from to i link s n
fits-drained w v k r y g from to i j link s n d fit made single = record {
  recorded = recorded_same w v k r y g d.touched link ∙ fit.recorded;
  sender = fit.sender;
  receiver = fit.receiver;
  below_length = fit.below_length;
  was_sent = λ u h. let x = sent_before w v k r y g d link (opposite s) u h in omega (arith, fit.was_sent x.0 x.1, x.2);
  by_sender = sent_same w v k r y g d.touched d.alike link (opposite s) ∙ fit.by_sender;
  sender_gone = λ h. fit.sender_gone (sym (gone_same w v k r y g d.touched d.alike link (opposite s)) ∙ h);
  not_passed = λ p h. let q = taken_before w v k r y g d link s p h in
      below_drained q.0 p n q.2 (fit.not_passed q.0 q.1) (λ item is. grind (arith, single q.0 q.1, is, fit.not_passed q.0 q.1));
  behind = λ h. made (fit.behind (sym (awaited_same w v k r y g d.touched d.alike link s) ∙ h));
  not_awaited_low = fit.not_awaited_low;
  receiver_there = gone_same w v k r y g d.touched d.alike link s ∙ fit.receiver_there;
}
