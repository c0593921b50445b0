use Rattle.std.proofs.Common.{◌≡◌, ◌-◌, Bor, Option, None, Some, is_some, ap, refl, ◌∙◌}
use Rattle.std.specs.Prelude.{option_copied}
use Rattle.ipcz_seq.specs.Queue.{item_at}
use Rattle.ipcz_router.specs.Status.{HasParcels}
use Rattle.ipcz_router.proofs.router.Router.status.Goals as goal

-- a reference to an item is there if the item is
alike : {X : Type 0} (o : Option (Bor X)) (f : Option X) → option_copied o ≡ f → is_some o ≡ is_some f
alike None f h = rw (← h) refl
alike (Some x) f h = rw (← h) refl

pub returns : goal.returns
returns c =
    let q = c.args.self.now.router.in_queue in
    let behind = c.behind_parcels-behind.result in
    let next : c.current-next.result ≡ q.current = c.current-next.ensures.value ∙ ap (λ v. v.router.in_queue.current) c.self.view_is in
    let closed : c.is_some.result ≡ is_some (item_at q behind) =
    c.is_some.ensures ∙ alike c.item_at.result (item_at q behind) (c.item_at.ensures ∙ ap (λ v. item_at v.router.in_queue behind) c.self.view_is) in
    record {
      next = next;
      sizes = c.next_sizes.ensures;
      parcels = coe 1 0 (i. HasParcels q (behind - next i) (closed i)) c.behind_parcels-behind.ensures.parcels;
    }
