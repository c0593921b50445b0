-- What is said of a router's end, and of the ends in its queues, stays if its end does and no item has come into its queues.
use Rattle.std.specs.Prelude.{◌≡◌, ℕ, true, Some}
use Rattle.std.proofs.Common.{ap, ◌∙◌}
use Rattle.ipcz_world.proofs.Vocabulary.{End, Item, item_at, Router, Key, Records, is_terminal, is_nowhere, terminal_node}
use Rattle.ipcz_world.proofs.Vocabulary.{HasTerminal, HasEndsHere}

pub terminal-kept : {g h : Records} {k : Key} {r y : Router} → ((e : End) → h.terminal e ≡ g.terminal e) → y.end ≡ r.end →
    (is_terminal y ≡ true → is_terminal r ≡ true) → HasTerminal g k r → HasTerminal h k y
terminal-kept {g = g} {y = y} same end was law = record {
  terminal = λ t. same y.end ∙ ap g.terminal end ∙ law.terminal (was t);
  opened = ap is_nowhere (same y.end ∙ ap g.terminal end) ∙ law.opened;
}

pub ends-kept : {g h : Records} {k : Key} {r y : Router} → ((e : End) → h.terminal e ≡ g.terminal e) →
    ((n : ℕ) (item : Item) → item_at y.out_queue n ≡ Some item → item_at r.out_queue n ≡ Some item) →
    ((n : ℕ) (item : Item) → item_at y.in_queue n ≡ Some item → item_at r.in_queue n ≡ Some item) → HasEndsHere g k r → HasEndsHere h k y
ends-kept same out inn law = record {
  out = λ n item e i has. ap terminal_node (same e) ∙ law.out n item e (out n item i) has;
  inn = λ n item e i has. ap terminal_node (same e) ∙ law.inn n item e (inn n item i) has;
}
