use Rattle.std.proofs.Common.{arith}
use Rattle.serde_json.specs.View.{view}
use Rattle.ipcz_script.proofs.CommandCount.{length-values_in}
use Rattle.ipcz_events.proofs.OrdersRead.{read-value}
use Rattle.ipcz_events.proofs.scheduling.read_schedule.Goals as goal

pub schedule_of-requires : goal.schedule_of-requires
schedule_of-requires c =
    record {
      few = λ values found. let few = length-values_in c.args.bytes.now (view c.in-Ok.value) values c.in-Ok.ensures.ok.1 found in
          omega (arith, few, c.if-bytes-gt-MAX_BYTES.false);
    }

pub returns-in-Ok : goal.returns-in-Ok
returns-in-Ok c = record {
  answer = read-value c.args.bytes.now _ c.schedule_of.result c.if-bytes-gt-MAX_BYTES.false c.in-Ok.ensures.ok.0 c.in-Ok.ensures.ok.1
      c.schedule_of.ensures.gives;
  limits = c.schedule_of.ensures.limits;
}
