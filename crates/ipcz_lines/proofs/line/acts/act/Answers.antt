use Rattle.std.proofs.Common.{◌≢◌, codes, sym, inl, inr, rules}
use Rattle.ipcz_lines.proofs.Lacking.{unlike}
use Rattle.ipcz_lines.proofs.Forms.{NoActWord, lone_act, step_reads}
use Rattle.ipcz_lines.proofs.line.acts.act.Goals as goal

pub returns-in-None-3 : goal.returns-in-None-3
returns-in-None-3 c =
    λ x h e. elim (lone_act x c.args.bytes.now c.in-None-3.ensures.none e) [
      | inl p ↦ unlike _ _ (codes "leave") c.if-eq.ensures c.as_slice.ensures (sym p)
      | inr p ↦ (let other : c.args.bytes.now ≢ codes "rest" = search rules in other (sym p))
    ]

pub returns-in-Some-7 : goal.returns-in-Some-7
returns-in-Some-7 c =
    let unlike_words : NoActWord c.in-Some.first.now = record {
      send = search rules;
      discard = search rules;
      finish = search rules;
      retire = search rules;
      claim = search rules;
      begin_ = search rules;
    } in
    step_reads c.in-Some.first.now c.in-Some.rest.now c.args.bytes.now c.stepped.result c.in-Some.ensures.first unlike_words
    c.in-Some.ensures.joined c.stepped.ensures
