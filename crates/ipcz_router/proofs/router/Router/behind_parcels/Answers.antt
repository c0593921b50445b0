use Rattle.std.proofs.Common.{◌≡◌, ap, sym, subst, ◌∙◌, None, arith}
use Rattle.ipcz_seq.specs.Queue.{item_at}
use Rattle.ipcz_router.proofs.Statuses.{AreParcels, parcel_more, row_ends, gives, gives_not, absent_refused}
use Rattle.ipcz_router.proofs.router.Router.behind_parcels.Goals as goal

pub loop-n-preserved : goal.loop-n-preserved
loop-n-preserved c = (
  parcel_more c.args.self.now.router.in_queue c.loop-n.n c.loop-n.invariant.0
      (gives (item_at c.args.self.now.router.in_queue c.loop-n.n) (sym c.if-not-has_parcel.ensures)),
  omega (arith, c.loop-n-test.true),
)

pub returns-then-not-has_parcel-clause-parcels : goal.returns-then-not-has_parcel-clause-parcels
returns-then-not-has_parcel-clause-parcels c =
    row_ends c.args.self.now.router.in_queue c.loop-n.n c.loop-n.invariant.0
    (gives_not (item_at c.args.self.now.router.in_queue c.loop-n.n) (sym c.if-not-has_parcel.ensures))

pub returns-clause-parcels : goal.returns-clause-parcels
returns-clause-parcels c =
    let met : c.loop-n.n ≡ c.reach-reach.result = omega (arith, c.loop-n-test.false, c.loop-n.invariant.1) in
    let absent : item_at c.args.self.now.router.in_queue c.reach-reach.result ≡ None =
    ap (λ v. item_at v.router.in_queue c.reach-reach.result) (sym c.self.view_is) ∙ c.reach-reach.ensures.least.absent in
    row_ends c.args.self.now.router.in_queue c.reach-reach.result (subst (AreParcels c.args.self.now.router.in_queue) met c.loop-n.invariant.0)
    (absent_refused _ absent)
