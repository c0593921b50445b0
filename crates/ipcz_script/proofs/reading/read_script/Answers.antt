use Rattle.std.proofs.Common.{arith}
use Rattle.serde_json.specs.View.{view}
use Rattle.ipcz_script.proofs.CommandCount.{length-values_in}
use Rattle.ipcz_script.proofs.ReadingLaws.{answer-value}
use Rattle.ipcz_script.proofs.reading.read_script.Goals as goal

pub script_of-requires : goal.script_of-requires
script_of-requires c =
    record {
      few = λ values found. let few = length-values_in c.args.bytes.now (view c.in-Ok.value) values c.in-Ok.ensures.ok.1 found in
          omega (arith, few, c.if-bytes-gt-MAX_BYTES.false);
    }

pub returns-in-Ok : goal.returns-in-Ok
returns-in-Ok c = record {
  answer = answer-value c.args.bytes.now _ c.script_of.result c.if-bytes-gt-MAX_BYTES.false c.in-Ok.ensures.ok.0 c.in-Ok.ensures.ok.1
      c.script_of.ensures.gives;
  limits = c.script_of.ensures.limits;
  words = c.script_of.ensures.words;
  too_long = λ long. absurd (omega (arith, long, c.if-bytes-gt-MAX_BYTES.false));
}
