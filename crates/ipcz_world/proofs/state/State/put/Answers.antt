use Rattle.std.proofs.Common.{◌≡◌, ◌∙◌, subst, sym}
use Rattle.ipcz_base.specs.declared.parcel.Parcel as parcels
use Rattle.ipcz_world.specs.Steps.{PutGives, put_reply, put_step}
use Rattle.ipcz_world.proofs.code.Calling.{put-gives}
use Rattle.ipcz_world.proofs.state.State.put.Goals as goal

pub returns : goal.returns
returns c =
    let p : parcels.Parcel = record { bytes = c.in-Ok.bytes; ends = c.in-Ok-copy_ends.ends } in
    let same : p ≡ record { bytes = c.args.bytes.now; ends = c.args.ends.now } =
    λ j. record { bytes = (c.in-Ok.ensures.copy ∙ c.as_slice.ensures) j; ends = c.in-Ok-copy_ends.ensures j } in
    let gives = subst (λ q. PutGives c.args.self.now.world c.args.n
    (put_step c.args.profile c.args.self.now.world c.args.n c.args.at q) (put_reply c.put_here.result) c.put_here.new.self.world) same
    (put-gives c.args.self.now.world c.put_here.new.self.world c.args.n _ (put_reply c.put_here.result) c.requires.node c.put_here.ensures.step) in
    subst (λ reply. PutGives c.args.self.now.world c.args.n
    (put_step c.args.profile c.args.self.now.world c.args.n c.args.at (record { bytes = c.args.bytes.now; ends = c.args.ends.now })) reply c.put_here.new.self.world)
    (sym c.of_put.ensures) gives
