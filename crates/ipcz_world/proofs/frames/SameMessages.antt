-- Acts that leave the messages under way and the links' counters as they are: what is said of messages is kept.
use Rattle.std.specs.Prelude.{◌≡◌, ℕ, take, refl}
use Rattle.std.proofs.Common.{arith, sym, ◌∙◌, ap}
use Rattle.ipcz_world.proofs.Vocabulary.{Side, LinkId, Central, Peripheral, Message, World, node_at, flow, Records, is_recorded, IsUnderWay}
use Rattle.ipcz_world.proofs.Vocabulary.{is_made_before, under_way, total_below, total_list, BypassRecords, Controls, is_made_by, Moves}
use Rattle.ipcz_world.proofs.frames.Sums.{total_below-same}
use Rattle.ipcz_world.proofs.frames.BypassesKept.{bypasses-still}

-- the same messages are under way, and the same links have records
pub record SameMessages (w v : World) : Type 0 where
  pub count : v.count ≡ w.count
  pub flows : (from to : ℕ) → flow v from to ≡ flow w from to
  pub peripheral : (n : ℕ) → (node_at v n).next_peripheral ≡ (node_at w n).next_peripheral

pub recorded-same : (w v : World) (g : Records) (l : LinkId) → SameMessages w v → is_recorded v g l ≡ is_recorded w g l
unfolding is_recorded
recorded-same w v g (Central i) same = refl
recorded-same w v g (Peripheral n s) same = rw (same.peripheral n, same.count) refl

pub under-same : (w v : World) (from to i : ℕ) (m : Message) → SameMessages w v → IsUnderWay v from to i m → IsUnderWay w from to i m
under-same w v from to i m same u = record {
  sender = omega (arith, u.sender, same.count);
  receiver = omega (arith, u.receiver, same.count);
  place = grind (arith, same.flows from to, u.place);
}

pub made-same : (w v : World) (from to i : ℕ) (l : LinkId) (s : Side) → SameMessages w v →
    is_made_before v from to i l s ≡ is_made_before w from to i l s
made-same w v from to i l s same = ap (λ ms. is_made_by l s (take i ms)) (same.flows from to)

pub under_way-same : (w v : World) (h : ℕ → ℕ → Message → ℕ) → SameMessages w v → under_way h v ≡ under_way h w
unfolding under_way
under_way-same w v h same =
    ap (λ c. total_below c (λ from. total_below c (λ to. total_list (h from to) (flow v from to)))) same.count
    ∙ total_below-same w.count _ _ (λ from. total_below-same w.count _ _ (λ to. ap (total_list (h from to)) (same.flows from to)))

pub bypasses-same : (w v : World) (g : Records) → SameMessages w v → BypassRecords w g → BypassRecords v g
bypasses-same w v g same law = bypasses-still w v g (λ l. recorded-same w v g l same) law

pub controls-same : (w v : World) (g : Records) → SameMessages w v → Controls w g → Controls v g
controls-same w v g same law = record {
  control = λ o h. under_way-same w v _ same ∙ law.control o h;
  will_stop = λ from to i l s n u. law.will_stop from to i l s n (under-same w v _ _ _ _ same u);
  behind = λ from to i l s old target fresh u e. made-same w v from to i l s same ∙ law.behind from to i l s old target fresh
      (under-same w v _ _ _ _ same u) e;
  flush_central = λ from to i l s u. law.flush_central from to i l s (under-same w v _ _ _ _ same u);
  flush_recorded = λ from to i l s u. recorded-same w v g l same ∙ law.flush_recorded from to i l s (under-same w v _ _ _ _ same u);
  flush_to = λ from to i l s u. law.flush_to from to i l s (under-same w v _ _ _ _ same u);
  flush_from = λ from to i l s u. law.flush_from from to i l s (under-same w v _ _ _ _ same u);
}

pub moves-same : (w v : World) (g : Records) → SameMessages w v → Moves w g → Moves v g
moves-same w v g same law = record {
  ends = λ from to i l s n item moves u. law.ends from to i l s n item moves (under-same w v _ _ _ _ same u);
  within = λ n i l s number item moves u. law.within n i l s number item moves (under-same w v _ _ _ _ same u);
  recorded = λ from to i j m d u e. recorded-same w v g d.link same ∙ law.recorded from to i j m d (under-same w v _ _ _ _ same u) e;
  peripheral = λ from to i j m d u. law.peripheral from to i j m d (under-same w v _ _ _ _ same u);
  sender = λ from to i j m d u. law.sender from to i j m d (under-same w v _ _ _ _ same u);
  receiver = λ from to i j m d u. law.receiver from to i j m d (under-same w v _ _ _ _ same u);
  awaited = λ from to i j m d u. law.awaited from to i j m d (under-same w v _ _ _ _ same u);
  end = λ from to i j m d u. law.end from to i j m d (under-same w v _ _ _ _ same u);
  one = λ e h. under_way-same w v _ same ∙ law.one e h;
  moving = λ p a. law.moving p (sym (recorded-same w v g _ same) ∙ a);
}
